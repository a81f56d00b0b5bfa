use Rattle.std.proofs.Common.{arith, get_or}
use Rattle.std.proofs.lemmas.Result.{OkIff-at_ok}
use Rattle.hickory_proto_names.proofs.NameReading.{front_three, ok_was}
use Rattle.hickory_proto_names.specs.NameSteps.{escape_of_digits}
use Rattle.hickory_proto_names.proofs.name_text.read_number.Goals as goal

pub returns-clause-some : goal.returns-clause-some
returns-clause-some c =
    let t = c.args.text.now in
    let read = OkIff-at_ok _ _ _ _ c.try_from.ensures (ok_was _ _ _ c.ok.ensures.value c.in_ok-byte.was) in
    escape_of_digits t _ (get_or t 0 0) (get_or t 1 0) (get_or t 2 0) _ (front_three t (omega arith)) (omega arith) (omega arith) (omega arith) (omega arith) (omega arith) (omega arith) (omega (arith, read.0)) (omega (arith, read.1))
