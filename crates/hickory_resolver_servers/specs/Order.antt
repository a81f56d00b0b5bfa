-- The order in which a round tries the servers that are left in it. A server is named by its place among the
-- configured ones.
use Rattle.std.specs.Prelude.{◌≡◌, ℕ, ◌+◌, ◌%◌, Bool, true, not, ◌==◌, List, [], ◌∷◌, ◌++◌, length, take, drop, filter, find, count_by, position, remove, slice_get, slice_index, IsPermutation, IsSortedByKey, Option, None, Some, unwrap_or, if◌then◌else◌}
use Rattle.std.specs.List.{list_any}
use Rattle.std.specs.List.Sorted.{IsStableByKey}
use Rattle.std.specs.Option.{is_some, option_and_then}
use Rattle.std.specs.Ordering.{nat_cmp}
use Rattle.hickory_resolver_config.specs.declared.strategies.ServerOrderingStrategy.{ServerOrderingStrategy}
use Rattle.hickory_resolver_config.specs.declared.strategies.ServerOrderingStrategy.TheVariants.{QueryStatistics, UserProvidedOrder, RoundRobin}
use Rattle.hickory_resolver_servers.specs.declared.order.RoundStart.{RoundStart}
use Rattle.hickory_resolver_servers.specs.Measures.{changed_at}
use Rattle.hickory_resolver_servers.specs.Server.{ServerState, known_at}

-- ---- in turn

-- from a place on, and from the first to there
abbrev pub turned : ℕ → List ℕ → List ℕ
turned place left = drop (place % length left) left ++ take (place % length left) left

-- ---- by round trips

abbrev pub known_of : ℕ → List ServerState → ℕ → Option ℕ
known_of now servers place = option_and_then (known_at now) (slice_get servers place)

abbrev pub is_known : ℕ → List ServerState → ℕ → Bool
is_known now servers place = is_some (known_of now servers place)

abbrev pub round_trip_of : ℕ → List ServerState → ℕ → ℕ
round_trip_of now servers place = unwrap_or (known_of now servers place) 0

abbrev pub known_in : ℕ → List ServerState → List ℕ → List ℕ
known_in now servers left = filter (is_known now servers) left

abbrev pub unknown_in : ℕ → List ServerState → List ℕ → List ℕ
unknown_in now servers left = filter (λ place. not (is_known now servers place)) left

-- the known ones, the fastest first, and equal ones in the order in which they are left
pub record IsFastestFirst (now : ℕ) (servers : List ServerState) (left ranked : List ℕ) : Type 0 where
  pub same : IsPermutation (known_in now servers left) ranked
  pub sorted : IsSortedByKey (round_trip_of now servers) nat_cmp ranked
  pub stable : IsStableByKey (round_trip_of now servers) nat_cmp (known_in now servers left) ranked

-- no other transaction tries it as an unknown one
abbrev pub is_free_for : ℕ → Option ℕ → Bool
is_free_for transaction None = true
is_free_for transaction (Some other) = other == transaction

abbrev pub is_free : ℕ → List ServerState → ℕ → Bool
is_free transaction servers place =
    is_free_for transaction (option_and_then (λ s. s.probe) (slice_get servers place))

-- The fastest, beside it one unknown one that is free, then all other known ones, and last the other unknown ones;
-- where none is known, the unknown ones as they are left.
abbrev pub beside : Option ℕ → List ℕ → List ℕ → List ℕ
beside (Some free) (best ∷ others) unknown =
    best ∷ (slice_index unknown free ∷ others) ++ remove unknown free
beside free known unknown = known ++ unknown

abbrev pub first_free : RoundStart → List ServerState → List ℕ → Option ℕ
first_free round servers left =
    position (is_free round.transaction servers) (unknown_in round.moment servers left)

pub record IsByRoundTrip (round : RoundStart) (servers : List ServerState) (left order : List ℕ) : Type 0 where
  pub ranked : List ℕ
  pub fastest_first : IsFastestFirst round.moment servers left ranked
  pub order_is : order ≡ beside (first_free round servers left) ranked (unknown_in round.moment servers left)

-- ---- by the strategy

abbrev pub IsOrder : ServerOrderingStrategy → RoundStart → List ServerState → List ℕ → List ℕ → Type 0
IsOrder UserProvidedOrder round servers left order = order ≡ left
IsOrder RoundRobin round servers left order = order ≡ turned round.place left
IsOrder QueryStatistics round servers left order = IsByRoundTrip round servers left order

-- each server that is left is tried once: as often as it is left
abbrev pub HasEachOnce : List ℕ → List ℕ → Type 0
HasEachOnce left order = (test : ℕ → Bool) → count_by test order ≡ count_by test left

-- the unknown server that this transaction tries beside the fastest one
abbrev pub probe_by_round_trip : RoundStart → List ServerState → List ℕ → Option ℕ
probe_by_round_trip round servers left =
    if list_any (is_known round.moment servers) left
    then find (is_free round.transaction servers) (unknown_in round.moment servers left) else None

abbrev pub probe_of : ServerOrderingStrategy → RoundStart → List ServerState → List ℕ → Option ℕ
probe_of QueryStatistics round servers left = probe_by_round_trip round servers left
probe_of other round servers left = None

-- the servers after it: who tries that one is noted there
abbrev pub probed : ℕ → Option ℕ → List ServerState → List ServerState
probed transaction None servers = servers
probed transaction (Some place) servers = changed_at (λ s. record s { probe = Some transaction }) place servers
