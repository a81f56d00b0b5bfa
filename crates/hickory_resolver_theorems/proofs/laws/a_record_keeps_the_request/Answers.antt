use Rattle.hickory_resolver_theorems.proofs.KeptCalls.{kept_request}
use Rattle.hickory_resolver_theorems.proofs.laws.a_record_keeps_the_request.Goals as goal

pub returns : goal.returns
returns c = kept_request
