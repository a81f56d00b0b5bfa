use Rattle.std.proofs.Common.{◌≢◌, length, inl, arith}
use Rattle.std.proofs.lemmas.Bool.Decides.{nat_tests}
use Rattle.replay_script.proofs.WrongCounts.{name_and_type_other}
use Rattle.replay_script.proofs.request_line.read_name_and_type.Goals as goal
use Rattle.replay_script.proofs.request_line.read_name_and_type.Goals.{in_default-via-then-fields-lt2, in_default-via-else-fields-lt2+else-fields-lt3}

pub returns-in_default : goal.returns-in_default
returns-in_default c =
    let other : length c.args.fields.now ≢ 2 =
    elim c.in_default.branch [ in_default-via-then-fields-lt2 w ↦ λ two. grind (arith, nat_tests) | in_default-via-else-fields-lt2+else-fields-lt3 w ↦ λ two. grind (arith, nat_tests) ] in
    rw c.wrong_line.ensures (inl (name_and_type_other c.args.fields.now other))
