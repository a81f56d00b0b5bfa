use Rattle.std.proofs.Common.{arith, sym}
use Rattle.hickory_proto_names.proofs.NameReading.{front_one}
use Rattle.hickory_proto_names.specs.NameSteps.{escape_of_one}
use Rattle.hickory_proto_names.proofs.name_text.read_escape.Goals as goal

pub returns-clause-ok : goal.returns-clause-ok
returns-clause-ok c =
    escape_of_one c.args.text.now _ _ (front_one c.args.text.now (omega arith)) (sym c.if-not-is_ascii.ensures) (sym c.if-is_ascii_digit.ensures.value)
