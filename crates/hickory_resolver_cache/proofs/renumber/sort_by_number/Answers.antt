use Rattle.std.proofs.Common.{rules}
use Rattle.std.proofs.lemmas.Fn.{always_returns_same}
use Rattle.hickory_resolver_cache.specs.Turns.{Pair}
use Rattle.hickory_resolver_cache.proofs.renumber.sort_by_number.Goals as goal

pub returns-clause-sorted : goal.returns-clause-sorted
returns-clause-sorted g c = c.in_ok-sort_unstable_by_key.ensures.sorted (λ (p : Pair). p.1.number) (always_returns_same _ _ _ (λ a r f k. search rules))
