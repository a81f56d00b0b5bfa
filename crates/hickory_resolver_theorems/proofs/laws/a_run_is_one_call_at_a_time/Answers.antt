use Rattle.hickory_resolver_theorems.proofs.RunCalls.{one_call_at_a_time}
use Rattle.hickory_resolver_theorems.proofs.laws.a_run_is_one_call_at_a_time.Goals as goal

pub returns : goal.returns
returns c = one_call_at_a_time
