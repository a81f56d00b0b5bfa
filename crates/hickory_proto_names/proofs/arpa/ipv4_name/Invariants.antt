-- The last i octets have their labels.
use Rattle.std.proofs.Common.{◌≡◌, ℕ, ◌-◌, ◌<◌, ◌≤◌, decimal, drop, get_or, map, reverse, length}
use Rattle.hickory_proto_names.specs.Name.{label_bytes}
use Rattle.hickory_proto_names.proofs.arpa.ipv4_name.Given as goal

abbrev pub invariant-loop-i : goal.invariant-loop-i
invariant-loop-i l = record {
  made : label_bytes l.labels.items ≡ reverse (map decimal (drop (4 - l.i) l.octets));
  size : length l.octets ≡ 4;
  small : (k : ℕ) → 4 - l.i ≤ k → get_or l.octets k 0 < 256;
}
