use Rattle.hickory_resolver_theorems.proofs.RunEvents.{one_at_a_time}
use Rattle.hickory_resolver_theorems.proofs.laws.a_run_is_one_look_up_at_a_time.Goals as goal

pub returns : goal.returns
returns c = one_at_a_time
