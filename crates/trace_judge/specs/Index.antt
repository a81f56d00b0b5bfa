-- What a judge keeps of a trace, by questions, so that it finds at once what it needs.
use Rattle.std.specs.Prelude.{◌≡◌, ◌≤◌, ◌+◌, ℕ, suc, zero, Bool, false, true, not, ◌&&◌, ◌||◌, ◌==◌, nat_le, List, [], ◌∷◌, ◌++◌, filter, fold, length, max, Option, None, Some, unwrap_or, if◌then◌else◌}
use Rattle.std.specs.List.{flat_map, list_any}
use Rattle.std.specs.Option.{option_map_or}
use Rattle.std.specs.Map.{lookup}
use Rattle.hickory_proto_core.specs.Query.{query_eq}
use Rattle.hickory_proto_core.specs.Records.{DataValue, RecordValue, unknown_data}
use Rattle.hickory_proto_core.specs.declared.query.Query.{Query}
use Rattle.hickory_proto_core.specs.Codes.{class_code}
use Rattle.hickory_proto_core.specs.Name.{NameValue, base_of, name_eq, trimmed_name}
use Rattle.hickory_proto_core.specs.codes.dns_class.DNSClass.{DNSClass}
use Rattle.hickory_proto_core.specs.codes.record_type.RecordType.{RecordType}
use Rattle.hickory_proto_core.specs.codes.record_type.RecordType.TheVariants as type
use Rattle.synthesis.specs.Nsec3.{ChainValue, chain_octets, chain_of}
use Rattle.synthesis.specs.declared.dns64.Prefix.{Prefix}
use Rattle.trace_judge.specs.Asks.{is_ask_from}
use Rattle.trace_judge.specs.Denials.{alias_target, covers_until, denial_deadline}
use Rattle.trace_judge.specs.Evidence.{EvidenceValue}
use Rattle.trace_judge.specs.Receptions.{deadline, is_same_record}
use Rattle.trace_judge.specs.RecordKeys.{KeyValue, key_eq, record_key, sought_key}
use Rattle.trace_judge.specs.declared.denials.Denial.{Denial}
use Rattle.trace_judge.specs.declared.denials.Denied.{Denied}
use Rattle.trace_judge.specs.declared.denials.Denied.TheVariants.{WholeName, OneType}
use Rattle.trace_judge.specs.declared.event.Moment.{Moment}
use Rattle.trace_judge.specs.declared.receptions.Reception.{Reception}

-- ---- receptions

-- a reception of this record runs out at this moment or later, and has this TTL or a greater one
abbrev pub is_reaching : RecordValue → ℕ → ℕ → Reception → Bool
is_reaching told until ttl r = is_same_record r.found told && (nat_le until (deadline r) && nat_le ttl r.found.ttl)

abbrev pub reaches : RecordValue → ℕ → ℕ → List Reception → Bool
reaches told until ttl rs = list_any (is_reaching told until ttl) rs

-- the latest deadline of a record, of those that are not before a moment; 0 where there is none
abbrev pub later_from : ℕ → RecordValue → ℕ → Reception → ℕ
later_from before told last r =
    if is_same_record r.found told && nat_le before (deadline r) then max last (deadline r) else last

abbrev pub last_from : ℕ → RecordValue → List Reception → ℕ
last_from before told rs = fold (later_from before told) 0 rs

-- another reception of the same record runs out no earlier, and its TTL is no less
abbrev pub is_outdone : Reception → Reception → Bool
is_outdone by r =
    is_same_record r.found by.found && (nat_le (deadline r) (deadline by) && nat_le r.found.ttl by.found.ttl)

-- with one more reception: what is outdone need not be kept
abbrev pub with_reception : Reception → List Reception → List Reception
with_reception new rs =
    if list_any (λ r. is_outdone r new) rs then rs else filter (λ r. not (is_outdone new r)) rs ++ new ∷ []

-- some reception has not run out before this moment
abbrev pub is_lasting : ℕ → List Reception → Bool
is_lasting before rs = list_any (λ r. nat_le before (deadline r)) rs

-- what was received under a key
abbrev pub seen_at : List (KeyValue × List Reception) → KeyValue → List Reception
seen_at seen k = unwrap_or (lookup (key_eq k) seen) []

-- a reception was put in
abbrev pub Adds : Reception → List (KeyValue × List Reception) → List (KeyValue × List Reception) → Type 0
Adds new before after =
    (told : RecordValue) (until ttl : ℕ) → reaches told until ttl (seen_at after (record_key told))
    ≡ (reaches told until ttl (seen_at before (record_key told)) || is_reaching told until ttl new)

-- nothing is forgotten but what ran out before this moment
abbrev pub Forgets : ℕ → List (KeyValue × List Reception) → List (KeyValue × List Reception) → Type 0
Forgets moment before after =
    (told : RecordValue) (until ttl : ℕ) → moment ≤ until
    → reaches told until ttl (seen_at after (record_key told))
    ≡ reaches told until ttl (seen_at before (record_key told))

-- from a moment on, the index says what these receptions do
abbrev pub SeesAs : ℕ → List (KeyValue × List Reception) → List Reception → Type 0
SeesAs before seen rs =
    (told : RecordValue) (until ttl : ℕ) → before ≤ until
    → reaches told until ttl (seen_at seen (record_key told)) ≡ reaches told until ttl rs

-- ---- records that say what is not there

-- a reception of a record that passes the test runs out at that moment or later
abbrev pub is_late : ℕ → (RecordValue → Bool) → Reception → Bool
is_late from makes r = makes r.found && nat_le from (deadline r)

abbrev pub any_late : ℕ → (RecordValue → Bool) → List Reception → Bool
any_late from makes rs = list_any (is_late from makes) rs

-- a test of records that what is the same passes too
abbrev pub Respects : (RecordValue → Bool) → Type 0
Respects makes = (a b : RecordValue) → is_same_record a b ≡ true → makes a ≡ true → makes b ≡ true

-- data of a type that is kept by its code
abbrev pub is_unknown : ℕ → DataValue → Bool
is_unknown code (unknown_data c bytes) = c == code
is_unknown code other = false

-- records of this type alone pass the test
abbrev pub IsOfType : ℕ → (RecordValue → Bool) → Type 0
IsOfType code makes = (a : RecordValue) → makes a ≡ true → is_unknown code a.rdata ≡ true

-- such a reception is among those of some owner
abbrev pub any_owner : ℕ → (RecordValue → Bool) → List (NameValue × List Reception) → Bool
any_owner from makes owners = list_any (λ o. any_late from makes o.1) owners

-- from a moment on, the owners of a type say what these receptions do
abbrev pub OwnersSee : ℕ → ℕ → List (NameValue × List Reception) → List Reception → Type 0
OwnersSee code before owners rs =
    (makes : RecordValue → Bool) (from : ℕ) → Respects makes → IsOfType code makes → before ≤ from
    → any_owner from makes owners ≡ any_late from makes rs

-- a reception was put to its owner
abbrev pub AddsOwner : Reception → List (NameValue × List Reception) → List (NameValue × List Reception) → Type 0
AddsOwner new before after =
    (makes : RecordValue → Bool) (from : ℕ) → Respects makes
    → any_owner from makes after ≡ (any_owner from makes before || is_late from makes new)

-- nothing is forgotten but what ran out before this moment
abbrev pub ForgetsOwners : ℕ → List (NameValue × List Reception) → List (NameValue × List Reception) → Type 0
ForgetsOwners moment before after =
    (makes : RecordValue → Bool) (from : ℕ) → moment ≤ from → any_owner from makes after ≡ any_owner from makes before

-- The chain of an NSEC3 record, kept as a record of its zone: as an NSEC3PARAM record (of type 51) it says how the
-- names are hashed (RFC 5155, section 4), and it lasts for as long.
abbrev pub chain_record : RecordValue → ChainValue → RecordValue
chain_record r chain = record {
  name = chain.zone;
  dns_class = r.dns_class;
  ttl = r.ttl;
  rdata = unknown_data 51 (chain_octets chain);
}

abbrev pub with_chain : Moment → RecordValue → Option ChainValue → List Reception
with_chain moment r None = []
with_chain moment r (Some chain) = record { moment = moment; found = chain_record r chain } ∷ []

abbrev pub received_if : Moment → Option RecordValue → List Reception
received_if moment None = []
received_if moment (Some r) = record { moment = moment; found = r } ∷ []

abbrev pub chain_by : Moment → RecordValue → DataValue → List Reception
chain_by moment r (unknown_data code bytes) =
    if code == 50 then with_chain moment r (chain_of (base_of r.name) bytes) else []
chain_by moment r other = []

abbrev pub chains_in : List Reception → List Reception
chains_in rs = flat_map (λ r. chain_by r.moment r.found r.found.rdata) rs

-- what is kept of records that say what is not there: NSEC and NSEC3 records by their owners in canonical order, and
-- chains by their zones
pub record GapsValue : Type 0 where
  pub nsec : List (NameValue × List Reception)
  pub nsec3 : List (NameValue × List Reception)
  pub chains : List (KeyValue × List Reception)

-- from a moment on, they say what these receptions do
pub record GapsSee (before : ℕ) (gaps : GapsValue) (rs : List Reception) : Type 0 where
  pub nsec_are : OwnersSee 47 before gaps.nsec rs
  pub nsec3_are : OwnersSee 50 before gaps.nsec3 rs
  pub chains_are : SeesAs before gaps.chains (chains_in rs)

-- nothing is forgotten but what ran out before this moment
pub record ForgetsGaps (moment : ℕ) (before after : GapsValue) : Type 0 where
  pub nsec_are : ForgetsOwners moment before.nsec after.nsec
  pub nsec3_are : ForgetsOwners moment before.nsec3 after.nsec3
  pub chains_are : Forgets moment before.chains after.chains

-- they say what these receptions do, of which all that ran out before that moment are forgotten
pub record GapsStand (before : ℕ) (gaps : GapsValue) (rs : List Reception) : Type 0 where
  pub nsec_are : (makes : RecordValue → Bool) (from : ℕ) → Respects makes → IsOfType 47 makes
      → any_owner (max from before) makes gaps.nsec ≡ any_late from makes rs
  pub nsec3_are : (makes : RecordValue → Bool) (from : ℕ) → Respects makes → IsOfType 50 makes
      → any_owner (max from before) makes gaps.nsec3 ≡ any_late from makes rs
  pub chains_are : (told : RecordValue) (until ttl : ℕ)
      → reaches told until ttl (chains_in rs)
      ≡ reaches told (max until before) ttl (seen_at gaps.chains (record_key told))

-- ---- the latest moment of each question

abbrev pub latest_at : List (Query × ℕ) → Query → Option ℕ
latest_at moments q = lookup (query_eq q) moments

abbrev pub later : ℕ → Option ℕ → ℕ
later moment None = moment
later moment (Some other) = max other moment

-- there is a moment, and it is this one or later
abbrev pub is_since : ℕ → Option ℕ → Bool
is_since moment None = false
is_since moment (Some other) = nat_le moment other

-- the moment, where it is this one or later, and else 0
abbrev pub moment_since : ℕ → Option ℕ → ℕ
moment_since before None = 0
moment_since before (Some moment) = if nat_le before moment then moment else 0

-- one more moment of a question
abbrev pub Notes : Query → ℕ → List (Query × ℕ) → List (Query × ℕ) → Type 0
Notes q moment before after =
    (p : Query) (since : ℕ) → is_since since (latest_at after p)
    ≡ (is_since since (latest_at before p) || (query_eq p q && nat_le since moment))

-- nothing is forgotten but moments before this one
abbrev pub ForgetsMoments : ℕ → List (Query × ℕ) → List (Query × ℕ) → Type 0
ForgetsMoments moment before after =
    (p : Query) (since : ℕ) → moment ≤ since → is_since since (latest_at after p) ≡ is_since since (latest_at before p)

-- ---- how many times each question is open

abbrev pub once : Bool → ℕ
once true = 1
once false = 0

-- how many times a question is among these
abbrev pub times : Query → List Query → ℕ
times q [] = 0
times q (a ∷ asked) = once (query_eq q a) + times q asked

abbrev pub count_at : List (Query × ℕ) → Query → ℕ
count_at counts q = unwrap_or (lookup (query_eq q) counts) 0

abbrev pub Counts : Query → ℕ → List (Query × ℕ) → List (Query × ℕ) → Type 0
Counts q count before after =
    (p : Query) → count_at after p ≡ (if query_eq q p then count else count_at before p)

-- ---- denials

-- the question that stands for a denied type of a name
abbrev pub type_key : DNSClass → NameValue → RecordType → Query
type_key class name t = record { name = name; query_type = t; query_class = class }

-- the question that stands for a name that is denied whole
abbrev pub whole_key : DNSClass → NameValue → Query
whole_key class name = record { name = record name { fqdn = true }; query_type = type.ANY; query_class = class }

-- denied types, and names that are denied whole, with the latest moment at which such a denial runs out
pub record DeniedValue : Type 0 where
  pub types : List (Query × ℕ)
  pub names : List (Query × ℕ)

abbrev pub latest_of : Option ℕ → Option ℕ → Option ℕ
latest_of None other = other
latest_of (Some moment) other = Some (later moment other)

-- until when names of fewer labels than this that end the name are denied whole
abbrev pub whole_below : List (Query × ℕ) → DNSClass → NameValue → ℕ → Option ℕ
whole_below names class name zero = None
whole_below names class name (suc k) =
    latest_of (latest_at names (whole_key class (trimmed_name k name))) (whole_below names class name k)

-- A name that is denied covers itself and what is below it.
abbrev pub denied_at : DeniedValue → DNSClass → NameValue → Denied → Option ℕ
denied_at d class name WholeName = whole_below d.names class name (length name.labels + 1)
denied_at d class name (OneType t) =
    latest_of (latest_at d.types (type_key class name t)) (whole_below d.names class name (length name.labels + 1))

abbrev pub NotesDenied : Denial → Denied → DeniedValue → DeniedValue → Type 0
NotesDenied new WholeName before after =
    Notes (whole_key new.dns_class new.name) (denial_deadline new) before.names after.names
    × (after.types ≡ before.types)
NotesDenied new (OneType t) before after =
    Notes (type_key new.dns_class new.name t) (denial_deadline new) before.types after.types
    × (after.names ≡ before.names)

-- a denial was put in
abbrev pub NotesDenial : Denial → DeniedValue → DeniedValue → Type 0
NotesDenial new before after = NotesDenied new new.denied before after

abbrev pub ForgetsDenials : ℕ → DeniedValue → DeniedValue → Type 0
ForgetsDenials moment before after =
    ForgetsMoments moment before.types after.types × ForgetsMoments moment before.names after.names

-- ---- aliases

abbrev pub alias_key : DNSClass → NameValue → KeyValue
alias_key class name = sought_key (type_key class name type.CNAME)

-- where a reception of an alias that runs out at this moment or later leads from a name
abbrev pub alias_step : ℕ → DNSClass → NameValue → Reception → Option NameValue
alias_step until class from r =
    if (class_code r.found.dns_class == class_code class) && name_eq r.found.name from && nat_le until (deadline r)
    then alias_target r.found.rdata else None

-- so many such aliases at the most lead from a name to this one
unfoldable pub leads_in : ℕ → List (KeyValue × List Reception) → DNSClass → NameValue → ℕ → NameValue → Bool
leads_in until seen class to zero from = name_eq from to
leads_in until seen class to (suc hops) from =
    name_eq from to
    || list_any (λ r. option_map_or (leads_in until seen class to hops) (alias_step until class from r) false)
    (seen_at seen (alias_key class from))

abbrev pub leads_in_by : ℕ → List (KeyValue × List Reception) → DNSClass → NameValue → ℕ → NameValue → Reception → Bool
leads_in_by until seen class to hops from r =
    option_map_or (leads_in until seen class to hops) (alias_step until class from r) false

-- ---- all of it

-- What a telling is judged by: the slack in seconds, the moment before which all is forgotten, the resolver's own
-- zones and records, the prefixes in which it makes addresses, the first moment of the trace, and what was received,
-- asked, answered and denied.
pub record IndexValue : Type 0 where
  pub slack : ℕ
  pub oldest : ℕ
  pub local : List NameValue
  pub own : List RecordValue
  pub dns64 : List Prefix
  pub start : Moment
  pub seen : List (KeyValue × List Reception)
  pub gaps : GapsValue
  pub asked : List (Query × ℕ)
  pub answered : List (Query × ℕ)
  pub denied : DeniedValue

-- one of two questions was asked from a moment on, and neither was answered after it
abbrev pub tried_in : IndexValue → ℕ → Query → Query → Bool
tried_in i moment q key =
    (is_since (max moment i.oldest) (latest_at i.asked q) || is_since (max moment i.oldest) (latest_at i.asked key))
    && not (is_since (max (moment + 1) i.oldest) (latest_at i.answered q)
    || is_since (max (moment + 1) i.oldest) (latest_at i.answered key))

-- the index says what the evidence says
pub record Stands (e : EvidenceValue) (i : IndexValue) : Type 0 where
  pub slack_is : i.slack ≡ e.slack
  pub local_is : i.local ≡ e.local
  pub own_is : i.own ≡ e.own
  pub dns64_is : i.dns64 ≡ e.dns64
  pub start_is : i.start ≡ e.start
  pub seen_are : (told : RecordValue) (until ttl : ℕ)
      → reaches told until ttl e.received ≡ reaches told (max until i.oldest) ttl (seen_at i.seen (record_key told))
  pub gaps_are : GapsStand i.oldest i.gaps e.received
  pub asked_are : (q : Query) (since : ℕ)
      → list_any (is_ask_from q since) e.asks ≡ is_since (max since i.oldest) (latest_at i.asked q)
  pub answered_are : (q : Query) (since : ℕ)
      → list_any (is_ask_from q since) e.answers ≡ is_since (max since i.oldest) (latest_at i.answered q)
  pub denied_are : (class : DNSClass) (name : NameValue) (denied : Denied) (until : ℕ)
      → list_any (covers_until class name denied until) e.denied
      ≡ is_since (max until i.oldest) (denied_at i.denied class name denied)
