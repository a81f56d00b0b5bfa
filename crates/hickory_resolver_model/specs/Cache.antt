-- A cache as the list of its entries, the oldest first (RFC 2181, sections 5.4.1, 8 and 10.1.1; RFC 2308,
-- section 5).
use Rattle.std.specs.Prelude.{◌≡◌, ◌⊎◌, ℕ, zero, suc, ◌+◌, ◌-◌, ◌*◌, ◌≤◌, ◌^◌, Bool, true, not, ◌&&◌, ◌==◌, List, [], ◌∷◌, ◌++◌, length, map, filter, find, fold, min, remove, nat_lt, nat_le, Option, None, Some, Ok, Err, if◌then◌else◌}
use Rattle.std.specs.Option.{option_map, option_map_or}
use Rattle.std.specs.List.{list_any, sum_by, position_or_len, AllByRecursion, IsDistinct}
use Rattle.hickory_proto_core.specs.Codes.{type_code}
use Rattle.hickory_proto_core.specs.ResponseKind.{record_type_code}
use Rattle.hickory_proto_core.specs.Records.{RecordValue, lower_ttl}
use Rattle.hickory_proto_core.specs.Messages.{MessageValue}
use Rattle.hickory_proto_core.specs.Errors.{NoRecordsValue, ForwardValue}
use Rattle.hickory_proto_core.specs.Handles.{OutcomeValue}
use Rattle.hickory_proto_core.specs.Query.{query_eq}
use Rattle.hickory_proto_core.specs.declared.query.Query.{Query}
use Rattle.hickory_proto_core.specs.declared.net_error.NetError.{NetError}
use Rattle.hickory_proto_core.specs.declared.net_error.NetError.TheVariants.{Dns, OutOfMemory}
use Rattle.hickory_proto_core.specs.declared.net_error.DnsError.TheVariants.{NoRecordsFound}
use Rattle.hickory_proto_weights.specs.Weights.{saturated, weight_of}
use Rattle.hickory_resolver_model.specs.Bounds.{ConfigValue, bounds_for, positive_bounds, greatest_ttl, clamped_message, positive_lifetime, negative_lifetime}

-- an outcome that is kept for a question, when it was stored, and until when it is current (seconds)
pub record Entry : Type 0 where
  pub query : Query
  pub result : OutcomeValue
  pub original_time : ℕ
  pub valid_until : ℕ

-- what a caller sees of a cache
pub record CacheValue : Type 0 where
  pub capacity : ℕ
  pub octets : Option ℕ
  pub config : ConfigValue
  pub entries : List Entry

-- the last moment that there is
abbrev pub last_moment : ℕ
last_moment = 2 ^ 64 - 1

-- the sum of two moments, or the last moment that there is
abbrev pub saturating_sum : ℕ → ℕ → ℕ
saturating_sum a b = min (a + b) last_moment

abbrev pub is_for : Query → Entry → Bool
is_for q e = query_eq q e.query

-- an entry is current up to its deadline, the deadline included
abbrev pub is_current : ℕ → Entry → Bool
is_current now e = nat_le now e.valid_until

-- the current entry of a question
abbrev pub current : Query → ℕ → List Entry → Option Entry
current q now es = find (λ e. is_for q e && is_current now e) es

-- the seconds since a moment, as far as a TTL can count; none where the moment has not come yet
abbrev pub age : ℕ → ℕ → ℕ
age moment now = min (now - moment) 4294967295

-- records, and with them a message or a negative answer, whose TTLs are so many seconds lower, and 0 at the
-- least
abbrev pub aged_record : ℕ → RecordValue → RecordValue
aged_record seconds r = lower_ttl seconds r

abbrev pub aged_records : ℕ → List RecordValue → List RecordValue
aged_records seconds rs = map (aged_record seconds) rs

abbrev pub aged_message : ℕ → MessageValue → MessageValue
aged_message seconds m = record m {
  answers = aged_records seconds m.answers;
  authorities = aged_records seconds m.authorities;
  additionals = aged_records seconds m.additionals;
}

abbrev pub aged_forward : ℕ → ForwardValue → ForwardValue
aged_forward seconds f = record { ns = aged_record seconds f.ns; glue = aged_records seconds f.glue }

abbrev pub aged_negative : ℕ → NoRecordsValue → NoRecordsValue
aged_negative seconds n = record n {
  soa = option_map (aged_record seconds) n.soa;
  ns = option_map (map (aged_forward seconds)) n.ns;
  negative_ttl = option_map (λ ttl. ttl - seconds) n.negative_ttl;
  authorities = option_map (aged_records seconds) n.authorities;
}

abbrev pub aged_error : ℕ → NetError → NetError
aged_error seconds (Dns (NoRecordsFound n)) = Dns (NoRecordsFound (aged_negative seconds n))
aged_error seconds error = error

abbrev pub aged_outcome : ℕ → OutcomeValue → OutcomeValue
aged_outcome seconds (Ok m) = Ok (aged_message seconds m)
aged_outcome seconds (Err e) = Err (aged_error seconds e)

-- what an entry gives at a moment
abbrev pub aged_result : ℕ → Entry → OutcomeValue
aged_result now e = aged_outcome (age e.original_time now) e.result

-- what a look-up in the cache gives: nothing without a current entry, else what the entry gives, or out
-- of memory for a copy of it
abbrev pub IsGot : Option Entry → ℕ → Option OutcomeValue → Type 0
IsGot None now got = got ≡ None
IsGot (Some entry) now got = (got ≡ Some (aged_result now entry)) ⊎ (got ≡ Some (Err OutOfMemory))

-- the same, with the entry's deadline beside it
abbrev pub IsGotUntil : Option Entry → ℕ → Option (OutcomeValue × ℕ) → Type 0
IsGotUntil None now got = got ≡ None
IsGotUntil (Some entry) now got =
    (got ≡ Some (aged_result now entry, entry.valid_until)) ⊎ (got ≡ Some (Err OutOfMemory, entry.valid_until))

-- the list without the question's entry
abbrev pub without : Query → List Entry → List Entry
without q es = filter (λ e. not (is_for q e)) es

abbrev pub least_deadline : List Entry → ℕ
least_deadline [] = 0
least_deadline (e ∷ es) = fold (λ d x. min d x.valid_until) e.valid_until es

-- the list without the first entry of the least deadline
abbrev pub without_earliest : List Entry → List Entry
without_earliest es = remove es (position_or_len (λ e. e.valid_until == least_deadline es) es)

-- what stays when an entry for the question comes in: its old entry leaves, or where there is none and the
-- cache is full, the entry of the least deadline
abbrev pub kept_beside : ℕ → Query → List Entry → List Entry
kept_beside capacity q es =
    if list_any (is_for q) es then without q es
    else (if nat_lt (length es) capacity then es else without_earliest es)

-- the entry that an answer becomes, its TTLs clamped, and the one that a negative answer becomes
abbrev pub positive_entry : ConfigValue → Query → MessageValue → ℕ → Entry
positive_entry config q m now =
    let kept = clamped_message config m in
    record {
      query = q;
      result = Ok kept;
      original_time = now;
      valid_until = saturating_sum now (positive_lifetime config q kept);
    }

abbrev pub negative_entry : ConfigValue → Query → NoRecordsValue → ℕ → Entry
negative_entry config q n now =
    record {
      query = q;
      result = Err (Dns (NoRecordsFound n));
      original_time = now;
      valid_until = saturating_sum now (negative_lifetime config q n);
    }

-- the entry that an outcome becomes, and none for an error other than a negative answer
abbrev pub entry_of_error : ConfigValue → Query → NetError → ℕ → Option Entry
entry_of_error config q (Dns (NoRecordsFound n)) now = Some (negative_entry config q n now)
entry_of_error config q error now = None

abbrev pub entry_of : ConfigValue → Query → OutcomeValue → ℕ → Option Entry
entry_of config q (Ok m) now = Some (positive_entry config q m now)
entry_of config q (Err error) now = entry_of_error config q error now

-- a deadline that is not after that of the question's current entry, where there is one
abbrev pub not_after_current : List Entry → ℕ → Entry → Entry
not_after_current es now e =
    record e {
      valid_until = option_map_or (λ c. min e.valid_until c.valid_until)
          (current e.query now es) e.valid_until;
    }

-- the list with an entry put in as the newest
abbrev pub insert_entry : ℕ → List Entry → Entry → List Entry
insert_entry capacity es e = if capacity == 0 then es else kept_beside capacity e.query es ++ e ∷ []

-- ---- where the octets are bounded

-- what an entry weighs, and what all of them weigh (octets)
abbrev pub entry_weight : Entry → ℕ
entry_weight e = saturated (weight_of e.query e.result)

abbrev pub all_weight : List Entry → ℕ
all_weight es = sum_by entry_weight es

-- heavier than a 256th of the bound
abbrev pub is_heavy : ℕ → Entry → Bool
is_heavy octets e = nat_lt octets (256 * entry_weight e)

-- there is one place more, and these octets are enough
abbrev pub has_room : ℕ → ℕ → List Entry → Bool
has_room capacity octets es = nat_lt (length es) capacity && nat_le (all_weight es) octets

-- The list without the entries of the earliest deadlines, as few as leave room. There are no more than the first number.
unfoldable pub with_room : ℕ → ℕ → ℕ → List Entry → List Entry
with_room zero capacity octets es = es
with_room (suc most) capacity octets es =
    if has_room capacity octets es then es else with_room most capacity octets (without_earliest es)

-- the same with an entry put in as the newest, within so many octets; a heavy one is not kept
abbrev pub insert_weighed : ℕ → ℕ → List Entry → Entry → List Entry
insert_weighed octets capacity es e =
    if capacity == 0 then es else (
    if is_heavy octets e then without e.query es else (
    with_room (length (without e.query es)) capacity (octets - entry_weight e) (without e.query es) ++ e ∷ []))

-- the same, whether the octets are bounded or not
abbrev pub insert_within : Option ℕ → ℕ → List Entry → Entry → List Entry
insert_within None capacity es e = insert_entry capacity es e
insert_within (Some octets) capacity es e = insert_weighed octets capacity es e

-- an entry that is not too heavy to be kept, and entries that are within the bound
abbrev pub is_light : Option ℕ → Entry → Bool
is_light None e = true
is_light (Some octets) e = not (is_heavy octets e)

abbrev pub AreWithin : Option ℕ → List Entry → Type 0
AreWithin None es = Unit {0}
AreWithin (Some octets) es = all_weight es ≤ octets

-- ---- stores

-- an entry that is current up to a limit at the most
abbrev pub not_after : ℕ → Entry → Entry
not_after limit e = record e { valid_until = min e.valid_until limit }

-- the cache after a store
abbrev pub store : CacheValue → Query → OutcomeValue → ℕ → CacheValue
store c q outcome now =
    record c {
      entries = option_map_or (insert_within c.octets c.capacity c.entries) (entry_of c.config q outcome now) c.entries;
    }

-- the cache after a store whose entry is current up to a limit at the most
abbrev pub store_until : CacheValue → Query → OutcomeValue → ℕ → ℕ → CacheValue
store_until c q outcome now limit =
    record c {
      entries = option_map_or (λ e. insert_within c.octets c.capacity c.entries (not_after limit e))
          (entry_of c.config q outcome now) c.entries;
    }

-- the cache after a store whose deadline is not after that of the entry that was current
abbrev pub store_clamped : CacheValue → Query → OutcomeValue → ℕ → CacheValue
store_clamped c q outcome now =
    record c {
      entries = option_map_or (λ e. insert_within c.octets c.capacity c.entries (not_after_current c.entries now e))
          (entry_of c.config q outcome now) c.entries;
    }

-- the cache without the question's entry
abbrev pub without_query : CacheValue → Query → CacheValue
without_query c q = record c { entries = without q c.entries }

-- an answer of the asked type is kept with at most the greatest TTL of the type, and the entry is current no
-- longer than it lives, from the time of the store and by the TTL that was stored
abbrev pub IsTimelyAnswer : ConfigValue → Entry → ℕ → RecordValue → Type 0
IsTimelyAnswer config e code r =
    record_type_code r ≡ code → (e.valid_until ≤ e.original_time + r.ttl) × (r.ttl ≤ greatest_ttl config code)

-- Where the least TTL of the asked type is 0, a positive entry outlives none of its answers of that type.
abbrev pub OutlivesNoAnswer : ConfigValue → Entry → Type 0
OutlivesNoAnswer config e =
    (positive_bounds (bounds_for config (type_code e.query.query_type))).0 ≡ 0 → (m : MessageValue)
    → e.result ≡ Ok m
    → AllByRecursion (IsTimelyAnswer config e (type_code e.query.query_type)) m.answers

-- what holds of every cache: it is no longer than its capacity, no two entries are for equal questions, and
-- each, where the least TTL of its type is 0, outlives none of its answers of that type
pub record IsCache (config : ConfigValue) (capacity : ℕ) (es : List Entry) : Type 0 where
  pub short : length es ≤ capacity
  pub apart : IsDistinct query_eq (map (λ e. e.query) es)
  pub timely : AllByRecursion (OutlivesNoAnswer config) es

-- an entry stands last: it is not the one that left
abbrev pub IsNewest : Entry → List Entry → Type 0
IsNewest e es = (others : List Entry) × (es ≡ others ++ e ∷ [])

-- the question's entry afterwards is current no longer than the one that was current before
abbrev pub NeverLater : Query → ℕ → List Entry → List Entry → Type 0
NeverLater q now before after =
    (was is : Entry) → current q now before ≡ Some was → find (is_for q) after ≡ Some is
    → is.valid_until ≤ was.valid_until
