use Rattle.std.proofs.Common.{arith}
use Rattle.std.proofs.lemmas.Grind.{common_steps}
use Rattle.synthesis.proofs.Hashes.{more_digits, no_digits}
use Rattle.synthesis.proofs.base32hex.+push_digits.Goals as goal

pub returns-then-count-eq0 : goal.returns-then-count-eq0
returns-then-count-eq0 t c =
    let none = no_digits c.args.count c.args.number c.if-count-eq0.true in grind (arith, common_steps)

pub returns : goal.returns
returns t c =
    let more = more_digits c.args.count c.args.number (omega arith) in
    let last = c.digit.ensures in
    let items = c.in_ok-push.ensures.items in let before = c.in_ok-push_digits.ensures in
    grind (arith, common_steps)
