use Rattle.std.proofs.Common.{vec_len}
use Rattle.hickory_resolver_client.proofs.PassedStores.{StoresOn}
use Rattle.hickory_resolver_client.proofs.results.store_under_passed.Given as goal

abbrev pub invariant-loop-last : goal.invariant-loop-last
invariant-loop-last g l = StoresOn l.reply l.now l.limit l.initial.limit l.passed.items l.initial.passed.items l.initial.cache l.cache

abbrev pub decreases-loop-last : goal.decreases-loop-last
decreases-loop-last g l = vec_len l.passed
