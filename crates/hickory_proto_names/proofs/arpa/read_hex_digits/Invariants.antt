-- The last i labels are read.
use Rattle.std.proofs.Common.{◌≡◌, ◌-◌, length, drop}
use Rattle.hickory_proto_names.specs.Name.{label_bytes}
use Rattle.hickory_proto_names.specs.Arpa.{hex_label, IsWritten}
use Rattle.hickory_proto_names.proofs.arpa.read_hex_digits.Given as goal

abbrev pub invariant-loop-i : goal.invariant-loop-i
invariant-loop-i l = record {
  read : IsWritten hex_label 16 (label_bytes (drop (length l.labels - l.i) l.labels)) l.digits;
  size : length l.digits ≡ 32;
}
