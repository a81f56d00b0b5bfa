use Rattle.hickory_resolver_theorems.proofs.PromisesHold.{promised_over}
use Rattle.hickory_resolver_theorems.proofs.laws.changing_caches_keep_the_promises.Goals as goal

pub returns : goal.returns
returns c = promised_over
