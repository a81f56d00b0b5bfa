use Rattle.std.proofs.Common.{◌≢◌, length, inl, arith}
use Rattle.std.proofs.lemmas.Bool.Decides.{nat_tests}
use Rattle.replay_script.proofs.WrongCounts.{failure_other}
use Rattle.replay_script.proofs.fail_line.read_fields.Goals as goal
use Rattle.replay_script.proofs.fail_line.read_fields.Goals.{in_default-via-then-fields-lt3, in_default-via-else-fields-lt3+else-fields-lt4+else-fields-lt5}

pub returns-in_default : goal.returns-in_default
returns-in_default c =
    let not3 : length c.args.fields.now ≢ 3 =
    elim c.in_default.branch [ in_default-via-then-fields-lt3 w ↦ λ n. grind (arith, nat_tests) | in_default-via-else-fields-lt3+else-fields-lt4+else-fields-lt5 w ↦ λ n. grind (arith, nat_tests) ] in
    let not4 : length c.args.fields.now ≢ 4 =
    elim c.in_default.branch [ in_default-via-then-fields-lt3 w ↦ λ n. grind (arith, nat_tests) | in_default-via-else-fields-lt3+else-fields-lt4+else-fields-lt5 w ↦ λ n. grind (arith, nat_tests) ] in
    rw c.wrong_line.ensures (inl (failure_other c.args.message c.args.fields.now not3 not4))
