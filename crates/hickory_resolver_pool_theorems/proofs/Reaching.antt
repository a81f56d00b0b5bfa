-- What is reached is what happens.
use Rattle.std.proofs.Common.{List, [], ◌∷◌}
use Rattle.hickory_resolver_pool.specs.Laws.{Reached}
use Rattle.hickory_resolver_pool.specs.Laws as reach
use Rattle.hickory_resolver_pool.specs.Pool.{PoolState}
use Rattle.hickory_resolver_pool_theorems.specs.Runs.{Happening, came, did, Runs, at_first, by_event, by_step, ReachedIsWhatHappens}

happens : (start s : PoolState) → Reached start s → (past : List Happening) × Runs start past s
happens start _ reach.at_first = ([], at_first)
happens start _ (reach.by_event s e more) =
    let past = happens start s more in (came s e ∷ past.0, by_event past.0 s e past.1)
happens start _ (reach.by_step s after r is more) =
    let past = happens start s more in (did s r ∷ past.0, by_step past.0 s after r is past.1)

pub reached : (start : PoolState) (past : List Happening) (s : PoolState) → Runs start past s → Reached start s
reached start _ _ at_first = reach.at_first
reached start _ _ (by_event past s e more) = reach.by_event s e (reached start past s more)
reached start _ _ (by_step past s after r is more) = reach.by_step s after r is (reached start past s more)

pub reached_is_what_happens : ReachedIsWhatHappens
reached_is_what_happens start s = record {
  happens = happens start s;
  reached = λ past runs. reached start past s runs;
}
