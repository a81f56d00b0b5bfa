-- The walk along the aliases among the answers of a response (RFC 1034, section 3.6.2; RFC 2782). The answer section
-- is read once, in order, with the name that was reached so far, at first the asked one. A record that leads on is said
-- to count; all others, those of DNAME among them, are passed over. Classes are not looked at.
use Rattle.std.specs.Prelude.{◌≡◌, ◌≤◌, ◌<◌, ◌+◌, ℕ, Bool, true, false, not, ◌||◌, List, [], ◌∷◌, length, min, Option, Some, None, slice_get, if◌then◌else◌}
use Rattle.std.specs.Option.{option_map_or}
use Rattle.std.specs.List.{list_any}
use Rattle.hickory_proto_core.specs.Name.{NameValue, name_eq}
use Rattle.hickory_proto_core.specs.ResponseKind.{asks_for, is_empty}
use Rattle.hickory_proto_core.specs.codes.record_type.RecordType.TheVariants as type
use Rattle.hickory_proto_core.specs.Records.{RecordValue, DataValue, cname_data, srv_data}
use Rattle.hickory_proto_core.specs.declared.query.Query.{Query}
use Rattle.hickory_resolver_model.specs.Bounds.{day}

-- What a record counts as at its place on the walk: an alias of the name reached, whose target is reached next,
-- or a server of the service that was asked for, whose name is a target.
pub data Counted : Type 0 where
  AliasTo : NameValue → Counted
  Server : NameValue → Counted

-- by its data, where the name reached owns it, and where the asked name does. Data of an unknown kind do not
-- count
abbrev pub counted_data : Bool → Bool → DataValue → Option Counted
counted_data reached asked (cname_data target) = if reached then Some (AliasTo target) else None
counted_data reached asked (srv_data priority weight port target) =
    if reached || asked then Some (Server target) else None
counted_data reached asked other = None

-- a CNAME counts where the name reached owns it, an SRV where that name or the asked one does
abbrev pub counted : NameValue → NameValue → RecordValue → Option Counted
counted asked reached r = counted_data (name_eq reached r.name) (name_eq asked r.name) r.rdata

-- the name reached after a record that counts
abbrev pub reached_by : NameValue → Counted → NameValue
reached_by reached (AliasTo target) = target
reached_by reached (Server target) = reached

-- no record from one place up to another counts
abbrev pub CountNowhere : List RecordValue → NameValue → NameValue → ℕ → ℕ → Type 0
CountNowhere answers asked reached low high =
    (k : ℕ) (r : RecordValue) → low ≤ k → k < high → slice_get answers k ≡ Some r → counted asked reached r ≡ None

-- a walk: its places; the last name reached; the targets of the servers, and the TTLs of the aliases, that
-- counted; and the least of a day and the TTLs of all that counted
pub record Walk : Type 0 where
  pub places : List ℕ
  pub last : NameValue
  pub targets : List NameValue
  pub alias_ttls : List ℕ
  pub ttl : ℕ

-- the walk ends at this name
abbrev pub ends_at : Walk → NameValue → Bool
ends_at walk name = name_eq walk.last name

-- the name is a target
abbrev pub has_target : Walk → NameValue → Bool
has_target walk name = list_any (λ target. name_eq target name) walk.targets

-- an alias counted, and moved the name reached
abbrev pub is_moved : Walk → Bool
is_moved walk = not (is_empty walk.alias_ttls)

-- a walk on which nothing counts
abbrev pub standing : NameValue → Walk
standing reached = record { places = []; last = reached; targets = []; alias_ttls = []; ttl = day }

-- a walk that begins with a record of this place and TTL, which counts
abbrev pub walk_step : ℕ → ℕ → Counted → Walk → Walk
walk_step place ttl (AliasTo target) rest = record rest {
  places = place ∷ rest.places;
  alias_ttls = ttl ∷ rest.alias_ttls;
  ttl = min ttl rest.ttl;
}
walk_step place ttl (Server target) rest = record rest {
  places = place ∷ rest.places;
  targets = target ∷ rest.targets;
  ttl = min ttl rest.ttl;
}

-- The walk again, by its places alone: these are the places of a walk from a place on. Each is after the one before it,
-- and its record counts there; no record that is left out would have counted at its place.
abbrev pub IsWalk : List RecordValue → NameValue → ℕ → NameValue → List ℕ → Walk → Type 0
IsWalk answers asked low reached [] walk =
    (walk ≡ standing reached) × CountNowhere answers asked reached low (length answers)
IsWalk answers asked low reached (p ∷ ps) walk =
    (low ≤ p) × CountNowhere answers asked reached low p
    × ((r : RecordValue) × (c : Counted) × (rest : Walk) × (slice_get answers p ≡ Some r)
    × (counted asked reached r ≡ Some c) × IsWalk answers asked (p + 1) (reached_by reached c) ps rest
    × (walk ≡ walk_step p r.ttl c rest))

-- the walk over these records, the first of which has this place. It is the one walk by its places (the laws of the
-- walk say so)
abbrev pub walk_from : ℕ → NameValue → NameValue → List RecordValue → Walk
walk_from place asked reached [] = standing reached
walk_from place asked reached (r ∷ rs) =
    option_map_or (λ c. walk_step place r.ttl c (walk_from (place + 1) asked (reached_by reached c) rs))
    (counted asked reached r) (walk_from (place + 1) asked reached rs)

-- questions for every type and for CNAMEs are not led on
abbrev pub follows_aliases : Query → Bool
follows_aliases q = if asks_for type.ANY q then false else (if asks_for type.CNAME q then false else true)

-- the one walk of a question over the answers to it
abbrev pub walk_of : Query → List RecordValue → Walk
walk_of q answers = if follows_aliases q then walk_from 0 q.name q.name answers else standing q.name
