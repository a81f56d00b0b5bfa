-- The last i octets have their labels.
use Rattle.std.proofs.Common.{◌≡◌, ℕ, ◌-◌, ◌<◌, ◌≤◌, drop, get_or, map, reverse, length}
use Rattle.hickory_proto_names.specs.Name.{label_bytes}
use Rattle.hickory_proto_names.specs.Arpa.{hex_label, nibbles_of}
use Rattle.hickory_proto_names.proofs.arpa.ipv6_name.Given as goal

abbrev pub invariant-loop-i : goal.invariant-loop-i
invariant-loop-i l = record {
  made : label_bytes l.labels.items ≡ reverse (map hex_label (nibbles_of (drop (16 - l.i) l.octets)));
  size : length l.octets ≡ 16;
  small : (k : ℕ) → 16 - l.i ≤ k → get_or l.octets k 0 < 256;
}
