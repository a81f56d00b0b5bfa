-- The first i octets are made.
use Rattle.std.proofs.Common.{◌≡◌, ◌*◌, length, take}
use Rattle.hickory_proto_names.specs.Arpa.{nibbles_of}
use Rattle.hickory_proto_names.proofs.arpa.octets_of_digits.Given as goal

abbrev pub invariant-loop-i : goal.invariant-loop-i
invariant-loop-i l = record {
  made : nibbles_of (take l.i l.octets) ≡ take (2 * l.i) l.digits;
  size : length l.octets ≡ 16;
  given : length l.digits ≡ 32;
}
