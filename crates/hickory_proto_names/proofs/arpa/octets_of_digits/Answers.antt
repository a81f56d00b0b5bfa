-- The next octet has the next two hex digits.
use Rattle.std.proofs.Common.{◌∙◌, arith, length-set}
use Rattle.hickory_proto_names.proofs.ArpaNets.{nibbles_next}
use Rattle.hickory_proto_names.proofs.arpa.octets_of_digits.Goals as goal

pub loop-i-preserved : goal.loop-i-preserved
loop-i-preserved c = record {
  made = nibbles_next c.loop-i.octets c.args.digits c.loop-i.i c.requires c.loop-i.invariant.made (omega (arith, c.loop-i.invariant.size)) (omega (arith, c.loop-i.invariant.given));
  size = length-set c.loop-i.octets c.loop-i.i _ ∙ c.loop-i.invariant.size;
  given = c.loop-i.invariant.given;
}
