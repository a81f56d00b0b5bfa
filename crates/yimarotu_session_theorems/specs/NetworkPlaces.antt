-- Ahead of which look-ups of a session with a network something is asked, after every list of events and steps.
use Rattle.std.specs.Prelude.{◌≡◌, List, ℕ, Option, None, Some, true}
use Rattle.hickory_proto_core.specs.Handles.{OutcomeValue}
use Rattle.hickory_resolver_model.specs.Resolver.{ResolverValue}
use Rattle.hickory_resolver_pool.specs.declared.limits.PoolLimits.{PoolLimits}
use Rattle.yimarotu_session.specs.LookupTables.{TableValue, ahead_at, held_at}
use Rattle.yimarotu_session.specs.NetworkSessions.{NetworkValue, new_session}
use Rattle.yimarotu_session.specs.declared.ahead.Ahead.{Ahead}
use Rattle.yimarotu_session.specs.declared.network_lookup.NetworkLookup.{NetworkLookup}
use Rattle.yimarotu_session.specs.declared.network_lookup.NetworkLookup.TheVariants.{Done}
use Rattle.yimarotu_session_theorems.specs.NetworkRuns.{NetworkEvent, NetworkRuns}

-- there is such a look-up, and it was not announced
abbrev pub IsUnfinished : Option NetworkLookup → Type 0
IsUnfinished None = ⊥
IsUnfinished (Some (Done found true)) = ⊥
IsUnfinished (Some held) = Unit {0}

-- nothing is asked ahead, nor is what was told kept, but for such look-ups
abbrev pub AsksAheadOfUnfinished : TableValue → Type 0
AsksAheadOfUnfinished table =
    (number : ℕ) (ahead : Ahead) → ahead_at number table ≡ Some ahead → IsUnfinished (held_at number table)

abbrev pub NothingIsLeftAhead : Type 0
NothingIsLeftAhead =
    (resolver : ResolverValue (List OutcomeValue)) (limits : PoolLimits) (seed : List ℕ) (events : List NetworkEvent)
    → (session : NetworkValue) → NetworkRuns (new_session resolver limits seed) events session
    → AsksAheadOfUnfinished session.table
