-- What a cache holds of a bound in octets.
use Rattle.std.specs.Prelude.{◌≡◌, ℕ, ◌+◌, ◌≤◌, Bool, ◌&&◌, nat_le, length, List, Option, None, Some}
use Rattle.std.specs.Option.{option_map}
use Rattle.std.specs.List.{All}
use Rattle.hickory_resolver_model.specs.Cache.{all_weight, with_room}
use Rattle.hickory_resolver_cache.specs.Turns.{HasItsWeight, IsNumbered, IsPlaced, Order, Pair, StandsAt, Turn, entries_of}
use Rattle.hickory_resolver_cache.specs.declared.octets.Octets.{Octets}

-- the bound, where there is one
abbrev pub most_of : Option Octets → Option ℕ
most_of octets = option_map (λ o. o.most) octets

-- each pair has the weight of its entry, and what they weigh together is held, within the bound
pub record IsWeighed (octets : Octets) (next : ℕ) (ps : List Pair) : Type 0 where
  pub each : All HasItsWeight ps
  pub held : octets.held ≡ all_weight (entries_of ps next)
  pub within : octets.held ≤ octets.most

-- the same where the octets are bounded; else they are not weighed
abbrev pub AreWeighed : Option Octets → ℕ → List Pair → Type 0
AreWeighed None next ps = Unit {0}
AreWeighed (Some octets) next ps = IsWeighed octets next ps

-- The pair p, which has come in as the newest, stands at the turn. The entries of lower numbers are the others.
pub record IsPutIn (own : Turn) (p : Pair) (ps : List Pair) (order : Order) : Type 0 where
  pub numbers : IsNumbered (own.1 + 1) ps
  pub placed : IsPlaced ps order
  pub newest : StandsAt ps own p
  pub each : All HasItsWeight ps

-- there are no more pairs than may be, and the others, which weigh so much, have room
abbrev pub fits : ℕ → ℕ → List Pair → ℕ → Bool
fits capacity room ps others = nat_le (length ps) capacity && nat_le others room

-- Those of the others have left that had to. The number n is that of the newest pair.
pub record IsShed (capacity room n : ℕ) (ps qs : List Pair) : Type 0 where
  pub short : length qs ≤ capacity
  pub within : all_weight (entries_of qs n) ≤ room
  pub entries_are : entries_of qs n ≡ with_room (length (entries_of ps n)) capacity room (entries_of ps n)
