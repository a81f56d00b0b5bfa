-- What is kept of a walk along aliases.
use Rattle.std.specs.Prelude.{◌≡◌, ℕ, ◌||◌, List, [], ◌∷◌, ◌++◌, map, min, Option, Some, None, is_some, option_to_list, slice_get, if◌then◌else◌}
use Rattle.std.specs.Option.{option_map_or}
use Rattle.hickory_proto_core.specs.Name.{NameValue}
use Rattle.hickory_proto_core.specs.Records.{RecordValue}
use Rattle.hickory_proto_core.specs.ResponseKind.{is_empty}
use Rattle.hickory_resolver_model.specs.Bounds.{least}
use Rattle.hickory_resolver_model.specs.AliasWalk.{Walk, Counted, AliasTo, Server, counted, has_target}
use Rattle.hickory_resolver_client.specs.declared.alias_walk.Targets.{Targets}

-- a walk shows what another one does: the last name reached, the least TTLs, whether a record counted, which
-- names are targets, and the first of them
pub record ShowsAs (w shown : Walk) : Type 0 where
  pub last_is : shown.last ≡ w.last
  pub ttl_is : shown.ttl ≡ w.ttl
  pub alias_ttl_is : least shown.alias_ttls ≡ least w.alias_ttls
  pub leads_is : is_empty shown.places ≡ is_empty w.places
  pub targets_are : (n : NameValue) → has_target shown n ≡ has_target w n
  pub first_is : slice_get shown.targets 0 ≡ slice_get w.targets 0

-- a walk and, at its end, one more record of this place and TTL, which counts
abbrev pub with_counted : ℕ → ℕ → Counted → Walk → Walk
with_counted place ttl (AliasTo target) w = record w {
  places = w.places ++ place ∷ [];
  last = target;
  alias_ttls = w.alias_ttls ++ ttl ∷ [];
  ttl = min w.ttl ttl;
}
with_counted place ttl (Server target) w = record w {
  places = w.places ++ place ∷ [];
  targets = w.targets ++ target ∷ [];
  ttl = min w.ttl ttl;
}

-- a walk and the next record, where it counts
abbrev pub with_next : ℕ → NameValue → RecordValue → Walk → Walk
with_next place asked r w = option_map_or (λ c. with_counted place r.ttl c w) (counted asked w.last r) w

-- of each walk that is shown before, the walk with one more record that counts is shown after
abbrev pub ShowsWith : Counted → ℕ → Walk → Walk → Type 0
ShowsWith c ttl before after =
    (w : Walk) (place : ℕ) → ShowsAs w before → ShowsAs (with_counted place ttl c w) after

-- the same with the next record, where it counts
abbrev pub ShowsNext : NameValue → RecordValue → Walk → Walk → Type 0
ShowsNext asked r before after =
    (w : Walk) (place : ℕ) → ShowsAs w before → ShowsAs (with_next place asked r w) after

-- the first target and the others
abbrev pub target_list : Option Targets → List NameValue
target_list None = []
target_list (Some targets) = targets.first.now ∷ map (λ k. k.now) targets.others.keys

-- a walk that shows no more than these
abbrev pub shown_walk : NameValue → ℕ → Option ℕ → Option Targets → Walk
shown_walk last ttl alias_ttl targets = record {
  places = if is_some alias_ttl || is_some targets then 0 ∷ [] else [];
  last = last;
  targets = target_list targets;
  alias_ttls = option_to_list alias_ttl;
  ttl = ttl;
}
