use Rattle.hickory_resolver_theorems.proofs.PromisedCalls.{cleared-keeps, without_query-keeps, after_clear-keeps}
use Rattle.hickory_resolver_theorems.proofs.laws.a_clear_keeps_what_is_known.Goals as goal

pub returns : goal.returns
returns c = record { all = cleared-keeps; question = without_query-keeps; attempts = after_clear-keeps }
