use Rattle.std.proofs.Common.{ℕ, List, subst}
use Rattle.std.specs.Prelude.{None}
use Rattle.second_chance_cache.specs.Clock.{IsForgotten}
use Rattle.second_chance_cache.proofs.Updated.{updated}
use Rattle.second_chance_cache.proofs.clock.forget.Goals as goal

pub returns-clause-numbers : goal.returns-clause-numbers
returns-clause-numbers g c =
    let old = c.args.index.now in
    let new = c.swap_remove.new.self in
    subst (λ (k : List ℕ). IsForgotten k old new) c.of.ensures
    (updated c.of.result old new None c.swap_remove.ensures.updates)
