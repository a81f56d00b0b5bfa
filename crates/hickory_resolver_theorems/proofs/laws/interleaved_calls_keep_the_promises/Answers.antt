use Rattle.hickory_resolver_theorems.proofs.CallInterleavings.{calls_interleaved}
use Rattle.hickory_resolver_theorems.proofs.laws.interleaved_calls_keep_the_promises.Goals as goal

pub returns : goal.returns
returns c = calls_interleaved
