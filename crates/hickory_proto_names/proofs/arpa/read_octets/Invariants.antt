-- The last i labels are read.
use Rattle.std.proofs.Common.{◌≡◌, ◌-◌, length, drop, decimal}
use Rattle.hickory_proto_names.specs.Name.{label_bytes}
use Rattle.hickory_proto_names.specs.Arpa.{IsWritten}
use Rattle.hickory_proto_names.proofs.arpa.read_octets.Given as goal

abbrev pub invariant-loop-i : goal.invariant-loop-i
invariant-loop-i l = record {
  read : IsWritten decimal 256 (label_bytes (drop (length l.labels - l.i) l.labels)) l.octets;
  size : length l.octets ≡ 4;
}
