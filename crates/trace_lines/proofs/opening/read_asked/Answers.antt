use Rattle.std.proofs.Common.{◌≢◌, length, inl, arith}
use Rattle.std.proofs.lemmas.Bool.Decides.{nat_tests}
use Rattle.trace_lines.proofs.WrongCounts.{asked_other}
use Rattle.trace_lines.proofs.opening.read_asked.Goals as goal
use Rattle.trace_lines.proofs.opening.read_asked.Goals.{in_default-via-then-fields-lt2, in_default-via-else-fields-lt2+else-fields-lt3+else-fields-lt4}

pub returns-in_default : goal.returns-in_default
returns-in_default c =
    let not2 : length c.args.fields.now ≢ 2 =
    elim c.in_default.branch [ in_default-via-then-fields-lt2 w ↦ λ n. grind (arith, nat_tests) | in_default-via-else-fields-lt2+else-fields-lt3+else-fields-lt4 w ↦ λ n. grind (arith, nat_tests) ] in
    let not3 : length c.args.fields.now ≢ 3 =
    elim c.in_default.branch [ in_default-via-then-fields-lt2 w ↦ λ n. grind (arith, nat_tests) | in_default-via-else-fields-lt2+else-fields-lt3+else-fields-lt4 w ↦ λ n. grind (arith, nat_tests) ] in
    rw c.wrong_line.ensures (inl (asked_other c.args.fields.now not2 not3))
