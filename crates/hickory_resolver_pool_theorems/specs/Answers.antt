-- What one who asks is answered at once.
use Rattle.std.specs.Prelude.{◌≡◌, ◌≤◌, ℕ, true, ◌==◌, ◌⊎◌, List, [], ◌∷◌, length, if◌then◌else◌}
use Rattle.std.specs.Option.{is_some}
use Rattle.hickory_resolver_askers.specs.Askers.{to_admit}
use Rattle.hickory_resolver_config.specs.ResolverConfig.{OptionsValue}
use Rattle.hickory_resolver_tries.specs.declared.pool_question.PoolQuestion.{PoolQuestion}
use Rattle.hickory_resolver_pool.specs.Laws.{group_has}
use Rattle.hickory_resolver_pool.specs.Pool.{PoolState, no_servers, list_of, asking_told}
use Rattle.hickory_resolver_pool.specs.Servers.{PoolServerValue}
use Rattle.hickory_resolver_pool.specs.declared.limits.PoolLimits.{PoolLimits}
use Rattle.hickory_resolver_pool.specs.declared.pool.Asked.{Asked}
use Rattle.hickory_resolver_pool.specs.declared.pool.Asked.TheVariants as asked
use Rattle.hickory_resolver_pool_theorems.specs.Runs.{Happening, came, Runs}

-- the servers that a group was given last, none where it was given none
abbrev pub servers_in : ℕ → List Happening → List PoolServerValue
servers_in group [] = []
servers_in group (came s (group_has other servers) ∷ past) = if other == group then servers else servers_in group past
servers_in group (other ∷ past) = servers_in group past

-- As many wait as may, and as many are in flight as may; or there is a place in flight for which one waits already.
pub record IsFull (limits : PoolLimits) (s : PoolState) : Type 0 where
  pub waiting : limits.waiting ≤ length s.traffic.askers.waiting
  pub in_flight : (limits.transactions ≤ length s.traffic.askers.in_flight)
      ⊎ (is_some (to_admit s.traffic.askers) ≡ true)

-- That there is no server is said where the group has none, and that there is no place where there is none; and only
-- to a group that has servers an asker is given.
abbrev pub IsAnswer : PoolLimits → List PoolServerValue → PoolState → Asked → Type 0
IsAnswer limits servers s asked.NoServers = servers ≡ []
IsAnswer limits servers s asked.Overloaded = IsFull limits s
IsAnswer limits servers s (asked.Asker a) = servers ≡ [] → ⊥

abbrev pub AskedIsAnswered : Type 0
AskedIsAnswered =
    (options : OptionsValue) (limits : PoolLimits) (seed : List ℕ) (past : List Happening) (s : PoolState)
    → (group : ℕ) (question : PoolQuestion) → Runs (no_servers options limits seed) past s
    → IsAnswer limits (servers_in group past) s (asking_told (list_of group s.traffic) question s)
