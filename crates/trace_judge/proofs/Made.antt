-- What makes records and denials: the same record makes the same, and it is found by its question.
use Rattle.std.proofs.Common.{◌≡◌, ◌+◌, ◌-◌, ℕ, Bool, true, false, ◌&&◌, ◌||◌, ◌==◌, cond, get_or, length, max, nat_eq, nat_le, not, reverse, List, [], ◌∷◌, Option, None, Some, refl, ap, ap₂, sym, ◌∙◌, arith}
use Rattle.std.specs.List.{ends_with, list_any}
use Rattle.std.specs.Ordering.{bool_cmp, nat_cmp, ordering_then}
use Rattle.std.specs.Cmp.Lexicographic.{bytes_decides, pointwise, slice_cmp}
use Rattle.std.proofs.lemmas.Bool.{and_from, and_parts, cond-true, eq-eqb, eqb-true}
use Rattle.std.proofs.lemmas.Bool.Decides.{nat_tests}
use Rattle.std.proofs.lemmas.List.{length-map}
use Rattle.hickory_proto_core.specs.Codes.{class_code, type_code, type_of}
use Rattle.hickory_proto_core.specs.Name.{NameValue, is_zone_of, lower_label, lower_labels, name_eq, trimmed_name}
use Rattle.hickory_proto_core.specs.NameLaws.{label_lists_Decides, name_equiv, same_from_name_eq}
use Rattle.hickory_proto_core.specs.Records.{DataValue, RecordValue, a_data, aaaa_data, cname_data, unknown_data, data_eq, data_type}
use Rattle.hickory_proto_core.specs.codes.dns_class.DNSClass.{DNSClass}
use Rattle.hickory_proto_core.specs.codes.record_type.RecordType.TheVariants as type
use Rattle.synthesis.specs.Dname.{is_substitution}
use Rattle.synthesis.specs.Dns64.{is_embedded}
use Rattle.synthesis.specs.Nsec.{is_before, is_delegation, is_less, lacks_type, name_denied_by, type_denied_by}
use Rattle.synthesis.specs.Nsec3.{ChainValue, Nsec3Value, covers, is_between_if, is_in_chain, is_opt_out, is_usable, owner_of, read_chain, read_nsec3}
use Rattle.synthesis.specs.TypeBits.{has_type}
use Rattle.synthesis.specs.WireNames.{WireNameValue, read_name}
use Rattle.synthesis.specs.declared.dns64.Prefix.{Prefix}
use Rattle.trace_judge.specs.Evidence.{EvidenceValue}
use Rattle.trace_judge.specs.Hashed.{chain_passes, data_pass, is_hashed, is_of_chain}
use Rattle.trace_judge.specs.Index.{IndexValue, IsOfType, Respects, Stands, any_late, any_owner, chains_in, is_late, is_unknown, seen_at, type_key}
use Rattle.trace_judge.specs.MadeIndex.{address_key, embeds, is_alias_made_at, is_data_made_in, is_kept_chain, late, makes_address_by, octets_pass, said_test}
use Rattle.trace_judge.specs.Making.{any_lasts, denies_as, denies_by, embeds_as, is_data_made, lasts, leads_as, makes_address, makes_alias, makes_denial}
use Rattle.trace_judge.specs.Receptions.{deadline, grace, is_same_record}
use Rattle.trace_judge.specs.RecordKeys.{is_sought, key_eq, key_octets, key_target, no_target, record_key, sought_key}
use Rattle.trace_judge.specs.declared.denials.Denied.{Denied}
use Rattle.trace_judge.specs.declared.denials.Denied.TheVariants.{WholeName, OneType}
use Rattle.trace_judge.specs.declared.hashed.Says.{Says}
use Rattle.trace_judge.specs.declared.hashed.Says.TheVariants.{Encloses, IsBare}
use Rattle.trace_judge.specs.declared.receptions.Reception.{Reception}
use Rattle.trace_judge.proofs.Embedded.{address_inside}
use Rattle.trace_judge.proofs.Keys.{key_from}
use Rattle.trace_judge.proofs.MadeFound.{Asks, late_by, made-alike, some-same}
use Rattle.trace_judge.proofs.Owning.{chain_late}
use Rattle.trace_judge.proofs.Tests.{any-or, any_same}

-- ---- the same data

equal_unknown : (code : ℕ) (bytes : List ℕ) (e : DataValue) → data_eq (unknown_data code bytes) e ≡ true → e ≡ unknown_data code bytes
equal_unknown code bytes (unknown_data c bs) h =
    let parts = and_parts (nat_eq code c && true) (pointwise (pointwise nat_eq) (bytes ∷ []) (bs ∷ [])) h in
    let codes = and_parts (nat_eq code c) true parts.0 in
    let lists = (label_lists_Decides (bytes ∷ []) (bs ∷ [])).0 parts.1 in
    ap₂ unknown_data (sym (eqb-true code c codes.0)) (sym (ap (λ ls. get_or ls 0 []) lists))
equal_unknown code bytes _ h = absurd (let no : false ≡ true = h in cc)

equal_address : (octets : List ℕ) (e : DataValue) → data_eq (a_data octets) e ≡ true → e ≡ a_data octets
equal_address octets (a_data os) h =
    let parts = and_parts (pointwise nat_eq octets os) true h in
    ap a_data (sym ((bytes_decides octets os).0 parts.0))
equal_address octets _ h = absurd (let no : false ≡ true = h in cc)

parts_same : (a b : RecordValue) → is_same_record a b ≡ true
    → (name_eq a.name b.name ≡ true) × ((class_code a.dns_class == class_code b.dns_class) ≡ true) × (data_eq a.rdata b.rdata ≡ true)
parts_same a b h =
    let outer = and_parts (name_eq a.name b.name && (class_code a.dns_class == class_code b.dns_class)) (data_eq a.rdata b.rdata) h in
    let inner = and_parts (name_eq a.name b.name) (class_code a.dns_class == class_code b.dns_class) outer.0 in
    (inner.0, inner.1, outer.1)

class_from : (class : DNSClass) (a b : RecordValue) → (class_code a.dns_class == class_code b.dns_class) ≡ true
    → (class_code a.dns_class == class_code class) ≡ true → (class_code b.dns_class == class_code class) ≡ true
class_from class a b p q = grind (arith, nat_tests)

name_from : (n : NameValue) (a b : RecordValue) → name_eq a.name b.name ≡ true → name_eq a.name n ≡ true → name_eq b.name n ≡ true
name_from n a b p q = sym (name_equiv.congr a.name b.name n p) ∙ q

unknown_type : (code c : ℕ) (bytes : List ℕ) (d : DataValue) → d ≡ unknown_data c bytes → (c == code) ≡ true
    → type_code (data_type d) ≡ type_code (type_of code)
unknown_type code c bytes d e h = ap (λ x. type_code (data_type x)) e ∙ ap (λ n. type_code (type_of n)) (eqb-true c code h)

-- a record of this class, name and type, which is looked for by its question alone, has that key
asks_by : (class : DNSClass) (name : NameValue) (code : ℕ) (a : RecordValue) → (class_code a.dns_class == class_code class) ≡ true
    → name_eq a.name name ≡ true → ((c : ℕ) × (bytes : List ℕ) × (a.rdata ≡ unknown_data c bytes) × ((c == code) ≡ true))
    → is_sought code ≡ true → key_eq (record_key a) (sought_key (type_key class name (type_of code))) ≡ true
asks_by class name code a c n d sought =
    let t = unknown_type code d.0 d.1 a.rdata d.2 d.3 in
    key_from (record_key a) (sought_key (type_key class name (type_of code)))
    (and_from (name_eq a.name name && (type_code (data_type a.rdata) == type_code (type_of code))) (class_code a.dns_class == class_code class)
    (and_from (name_eq a.name name) (type_code (data_type a.rdata) == type_code (type_of code)) n
    (eq-eqb (type_code (data_type a.rdata)) (type_code (type_of code)) t)) c)
    (ap (λ x. name_eq (key_target x) no_target) d.2)
    (ap key_octets d.2 ∙ cond-true (is_sought d.0) [] d.1 (ap is_sought (eqb-true d.0 code d.3) ∙ sought))

-- ---- DNAME

leads_of : (name : NameValue) (count : ℕ) (target : NameValue) (d : DataValue) → leads_as name count target d ≡ true
    → (code : ℕ) × (bytes : List ℕ) × (d ≡ unknown_data code bytes) × ((code == 39) ≡ true)
leads_of name count target (unknown_data code bytes) h =
    (code, bytes, refl, (and_parts (code == 39) (is_substitution name count target bytes) h).0)
leads_of name count target _ h = absurd (let no : false ≡ true = h in cc)

alias_respects : (told : RecordValue) (target : NameValue) (count : ℕ) → Respects (makes_alias told target count)
alias_respects told target count = λ a b same made.
    let owner = trimmed_name count told.name in
    let leads = leads_as told.name count target in
    let outer = and_parts ((class_code a.dns_class == class_code told.dns_class) && name_eq a.name owner) (leads a.rdata) made in
    let inner = and_parts (class_code a.dns_class == class_code told.dns_class) (name_eq a.name owner) outer.0 in
    let s = parts_same a b same in
    let d = leads_of told.name count target a.rdata outer.1 in
    let e = equal_unknown d.0 d.1 b.rdata (ap (λ x. data_eq x b.rdata) (sym d.2) ∙ s.2) in
    and_from ((class_code b.dns_class == class_code told.dns_class) && name_eq b.name owner) (leads b.rdata)
    (and_from (class_code b.dns_class == class_code told.dns_class) (name_eq b.name owner)
    (class_from told.dns_class a b s.1 inner.0) (name_from owner a b s.0 inner.1))
    (ap leads (e ∙ sym d.2) ∙ outer.1)

alias_asks : (told : RecordValue) (target : NameValue) (count : ℕ)
    → Asks (makes_alias told target count) (sought_key (type_key told.dns_class (trimmed_name count told.name) (type_of 39)))
alias_asks told target count = λ a made.
    let owner = trimmed_name count told.name in
    let outer = and_parts ((class_code a.dns_class == class_code told.dns_class) && name_eq a.name owner) (leads_as told.name count target a.rdata) made in
    let inner = and_parts (class_code a.dns_class == class_code told.dns_class) (name_eq a.name owner) outer.0 in
    let d = leads_of told.name count target a.rdata outer.1 in
    asks_by told.dns_class owner 39 a inner.0 inner.1 d refl

-- ---- DNS64

embeds_of : (prefix : Prefix) (segments : List ℕ) (d : DataValue) → embeds prefix segments d ≡ true
    → (octets : List ℕ) × (d ≡ a_data octets) × (is_embedded prefix octets segments ≡ true)
embeds_of prefix segments (a_data octets) h = (octets, refl, h)
embeds_of prefix segments _ h = absurd (let no : false ≡ true = h in cc)

address_respects : (told : RecordValue) (segments : List ℕ) (prefix : Prefix) → Respects (makes_address_by told segments prefix)
address_respects told segments prefix = λ a b same made.
    let makes = embeds prefix segments in
    let outer = and_parts ((class_code a.dns_class == class_code told.dns_class) && name_eq a.name told.name) (makes a.rdata) made in
    let inner = and_parts (class_code a.dns_class == class_code told.dns_class) (name_eq a.name told.name) outer.0 in
    let s = parts_same a b same in
    let d = embeds_of prefix segments a.rdata outer.1 in
    let e = equal_address d.0 b.rdata (ap (λ x. data_eq x b.rdata) (sym d.1) ∙ s.2) in
    and_from ((class_code b.dns_class == class_code told.dns_class) && name_eq b.name told.name) (makes b.rdata)
    (and_from (class_code b.dns_class == class_code told.dns_class) (name_eq b.name told.name)
    (class_from told.dns_class a b s.1 inner.0) (name_from told.name a b s.0 inner.1))
    (ap makes (e ∙ sym d.1) ∙ outer.1)

address_asks : (told : RecordValue) (segments : List ℕ) (prefix : Prefix)
    → Asks (makes_address_by told segments prefix) (address_key prefix told segments)
address_asks told segments prefix = λ a made.
    let outer = and_parts ((class_code a.dns_class == class_code told.dns_class) && name_eq a.name told.name) (embeds prefix segments a.rdata) made in
    let inner = and_parts (class_code a.dns_class == class_code told.dns_class) (name_eq a.name told.name) outer.0 in
    let d = embeds_of prefix segments a.rdata outer.1 in
    key_from (record_key a) (address_key prefix told segments)
    (and_from (name_eq a.name told.name && (type_code (data_type a.rdata) == type_code type.A)) (class_code a.dns_class == class_code told.dns_class)
    (and_from (name_eq a.name told.name) (type_code (data_type a.rdata) == type_code type.A) inner.1
    (eq-eqb (type_code (data_type a.rdata)) (type_code type.A) (ap (λ x. type_code (data_type x)) d.1))) inner.0)
    (ap (λ x. name_eq (key_target x) no_target) d.1)
    (ap key_octets d.1 ∙ sym (address_inside prefix d.0 segments d.2))

-- one prefix more
embeds_more : (b : Bool) (prefix : Prefix) (more : List Prefix) (segments : List ℕ) (d : DataValue)
    → (b && embeds_as (prefix ∷ more) segments d) ≡ ((b && embeds prefix segments d) || (b && embeds_as more segments d))
embeds_more true prefix more segments (a_data octets) = refl
embeds_more true prefix more segments _ = refl
embeds_more false prefix more segments d = refl

no_prefix : (b : Bool) (segments : List ℕ) (d : DataValue) (l : Bool) → ((b && embeds_as [] segments d) && l) ≡ false
no_prefix true segments (a_data octets) l = refl
no_prefix true segments _ l = refl
no_prefix false segments d l = refl

late_either : (a b l : Bool) → ((a || b) && l) ≡ ((a && l) || (b && l))
late_either true b true = refl
late_either true true false = refl
late_either true false false = refl
late_either false b l = refl

none_passes : {X : Type 0} (p : X → Bool) → ((x : X) → p x ≡ false) → (xs : List X) → list_any p xs ≡ false
none_passes p none [] = refl
none_passes p none (x ∷ xs) = ap (λ b. b || list_any p xs) (none x) ∙ none_passes p none xs

-- the address is made with one of the prefixes
prefixes_alike : (slack until : ℕ) (prefixes : List Prefix) (told : RecordValue) (segments : List ℕ) (rs : List Reception)
    → list_any (λ prefix. any_lasts slack until (makes_address_by told segments prefix) rs) prefixes
    ≡ any_lasts slack until (makes_address prefixes told segments) rs
prefixes_alike slack until [] told segments rs =
    sym (none_passes (λ r. makes_address [] told segments r.found && nat_le until (deadline r + grace slack))
    (λ r. no_prefix ((class_code r.found.dns_class == class_code told.dns_class) && name_eq r.found.name told.name) segments r.found.rdata
    (nat_le until (deadline r + grace slack))) rs)
prefixes_alike slack until (prefix ∷ more) told segments rs =
    let lasts_so = λ (r : Reception). nat_le until (deadline r + grace slack) in
    let here = λ (r : Reception). (class_code r.found.dns_class == class_code told.dns_class) && name_eq r.found.name told.name in
    let first = λ (r : Reception). makes_address_by told segments prefix r.found && lasts_so r in
    let others = λ (r : Reception). makes_address more told segments r.found && lasts_so r in
    ap (λ b. list_any first rs || b) (prefixes_alike slack until more told segments rs)
    ∙ sym (any-or first others rs)
    ∙ sym (any_same (λ r. makes_address (prefix ∷ more) told segments r.found && lasts_so r) (λ r. first r || others r) rs
    (λ r. ap (λ b. b && lasts_so r) (embeds_more (here r) prefix more segments r.found.rdata)
    ∙ late_either (here r && embeds prefix segments r.found.rdata) (here r && embeds_as more segments r.found.rdata) (lasts_so r)))

-- ---- records

pub data-made : (e : EvidenceValue) (i : IndexValue) → Stands e i → (until : ℕ) (told : RecordValue) (d : DataValue)
    → is_data_made_in i (late i until) told d ≡ is_data_made e until told d
data-made e i s until told (cname_data target) =
    some-same (length told.name.labels) (is_alias_made_at i (late i until) told target)
    (λ count. any_lasts e.slack until (makes_alias told target count) e.received)
    (λ count. ap (λ n. any_late (max (until - grace n) i.oldest) (makes_alias told target count)
    (seen_at i.seen (sought_key (type_key told.dns_class (trimmed_name count told.name) (type_of 39))))) s.slack_is
    ∙ made-alike (makes_alias told target count) (sought_key (type_key told.dns_class (trimmed_name count told.name) (type_of 39)))
    e.slack until i.oldest e.received i.seen s.seen_are (alias_respects told target count) (alias_asks told target count))
data-made e i s until told (aaaa_data segments) =
    ap₂ (λ n ps. list_any (λ prefix. any_late (max (until - grace n) i.oldest) (makes_address_by told segments prefix)
    (seen_at i.seen (address_key prefix told segments))) ps) s.slack_is s.dns64_is
    ∙ any_same (λ prefix. any_late (max (until - grace e.slack) i.oldest) (makes_address_by told segments prefix)
    (seen_at i.seen (address_key prefix told segments)))
    (λ prefix. any_lasts e.slack until (makes_address_by told segments prefix) e.received) e.dns64
    (λ prefix. made-alike (makes_address_by told segments prefix) (address_key prefix told segments)
    e.slack until i.oldest e.received i.seen s.seen_are (address_respects told segments prefix) (address_asks told segments prefix))
    ∙ prefixes_alike e.slack until e.dns64 told segments e.received
data-made e i s until told _ = refl

-- ---- NSEC

-- owners that are equal deny alike
before_same : (a b n : NameValue) → name_eq a b ≡ true → is_before a n ≡ is_before b n
before_same a b n h =
    let same = same_from_name_eq a b h in
    λ i. is_less (ordering_then (bool_cmp (same.0 i) n.fqdn) (slice_cmp (slice_cmp nat_cmp) (reverse (same.1 i)) (reverse (lower_labels n.labels))))

zone_same : (a b n : NameValue) → name_eq a b ≡ true → is_zone_of a n ≡ is_zone_of b n
zone_same a b n h =
    let same = same_from_name_eq a b h in
    λ i. ends_with (pointwise nat_eq) (lower_labels n.labels) (same.1 i)

name_denied_same : (a b : NameValue) (w : Option WireNameValue) (n : NameValue) → name_eq a b ≡ true
    → name_denied_by a w n ≡ name_denied_by b w n
name_denied_same a b None n h = refl
name_denied_same a b (Some w) n h =
    let p = before_same a b n h in let q = before_same a b w.name h in let z = zone_same a b n h in
    λ i. ((p i) && (is_before n w.name || (not (q i) && is_zone_of w.name n))) && not (is_zone_of n w.name)
    && not ((z i) && (is_delegation w.rest || has_type 39 w.rest))

type_denied_same : (a b : NameValue) (w : Option WireNameValue) (n : NameValue) (code : ℕ) → name_eq a b ≡ true
    → type_denied_by a w n code ≡ type_denied_by b w n code
type_denied_same a b None n code h = refl
type_denied_same a b (Some w) n code h =
    let p = before_same a b n h in let q = before_same a b w.name h in let z = zone_same a b n h in
    let e = name_equiv.congr a b n h in
    λ i. (((p i) && (is_before n w.name || (not (q i) && is_zone_of w.name n))) && is_zone_of n w.name
    && not ((z i) && (is_delegation w.rest || has_type 39 w.rest))) || ((e i) && lacks_type w.rest code)

denies_same : (a b : NameValue) (bytes : List ℕ) (n : NameValue) (denied : Denied) → name_eq a b ≡ true
    → denies_by a bytes n denied ≡ denies_by b bytes n denied
denies_same a b bytes n WholeName h = name_denied_same a b (read_name bytes) n h
denies_same a b bytes n (OneType t) h = type_denied_same a b (read_name bytes) n (type_code t) h

denies_of : (owner n : NameValue) (denied : Denied) (d : DataValue) → denies_as owner n denied d ≡ true
    → (code : ℕ) × (bytes : List ℕ) × (d ≡ unknown_data code bytes) × ((code == 47) ≡ true) × (denies_by owner bytes n denied ≡ true)
denies_of owner n denied (unknown_data code bytes) h =
    let p = and_parts (code == 47) (denies_by owner bytes n denied) h in (code, bytes, refl, p.0, p.1)
denies_of owner n denied _ h = absurd (let no : false ≡ true = h in cc)

denial_respects : (class : DNSClass) (n : NameValue) (denied : Denied) → Respects (makes_denial class n denied)
denial_respects class n denied = λ a b same made.
    let p = and_parts (class_code a.dns_class == class_code class) (denies_as a.name n denied a.rdata) made in
    let s = parts_same a b same in
    let d = denies_of a.name n denied a.rdata p.1 in
    let e = equal_unknown d.0 d.1 b.rdata (ap (λ x. data_eq x b.rdata) (sym d.2) ∙ s.2) in
    and_from (class_code b.dns_class == class_code class) (denies_as b.name n denied b.rdata)
    (class_from class a b s.1 p.0)
    (ap (denies_as b.name n denied) e ∙ and_from (d.0 == 47) (denies_by b.name d.1 n denied) d.3
    (sym (denies_same a.name b.name d.1 n denied s.0) ∙ d.4))

denial_unknown : (class : DNSClass) (n : NameValue) (denied : Denied) → IsOfType 47 (makes_denial class n denied)
denial_unknown class n denied = λ a made.
    let p = and_parts (class_code a.dns_class == class_code class) (denies_as a.name n denied a.rdata) made in
    let d = denies_of a.name n denied a.rdata p.1 in ap (is_unknown 47) d.2 ∙ d.3

-- what may be kept for so long runs out at that moment, less what is allowed
lasts-late : (slack until : ℕ) (makes : RecordValue → Bool) (rs : List Reception)
    → any_late (until - grace slack) makes rs ≡ any_lasts slack until makes rs
lasts-late slack until makes rs =
    any_same (is_late (until - grace slack) makes) (λ r. makes r.found && nat_le until (deadline r + grace slack)) rs
    (λ r. ap (λ b. makes r.found && b) (sym (late_by slack until (deadline r))))

pub between-made : (e : EvidenceValue) (i : IndexValue) → Stands e i → (until : ℕ) (class : DNSClass) (n : NameValue) (denied : Denied)
    → any_owner (late i until) (makes_denial class n denied) i.gaps.nsec ≡ lasts e until (makes_denial class n denied)
between-made e i s until class n denied =
    let makes = makes_denial class n denied in
    ap (λ m. any_owner (max (until - grace m) i.oldest) makes i.gaps.nsec) s.slack_is
    ∙ s.gaps_are.nsec_are makes (until - grace e.slack) (denial_respects class n denied) (denial_unknown class n denied)
    ∙ lasts-late e.slack until makes e.received

-- ---- NSEC3

-- a test to which owners that are equal are alike
abbrev OwnersAlike : (NameValue → Option Nsec3Value → Bool) → Type 0
OwnersAlike test = (a b : NameValue) (o : Option Nsec3Value) → name_eq a b ≡ true → test a o ≡ test b o

hashed_of : (test : Option Nsec3Value → Bool) (d : DataValue) → data_pass test d ≡ true
    → (code : ℕ) × (bytes : List ℕ) × (d ≡ unknown_data code bytes) × ((code == 50) ≡ true) × (test (read_nsec3 bytes) ≡ true)
hashed_of test (unknown_data code bytes) h =
    let p = and_parts (code == 50) (test (read_nsec3 bytes)) h in (code, bytes, refl, p.0, p.1)
hashed_of test _ h = absurd (let no : false ≡ true = h in cc)

hashed_respects : (class : DNSClass) (test : NameValue → Option Nsec3Value → Bool) → OwnersAlike test → Respects (is_hashed class test)
hashed_respects class test alike = λ a b same made.
    let p = and_parts (class_code a.dns_class == class_code class) (data_pass (test a.name) a.rdata) made in
    let s = parts_same a b same in
    let d = hashed_of (test a.name) a.rdata p.1 in
    let e = equal_unknown d.0 d.1 b.rdata (ap (λ x. data_eq x b.rdata) (sym d.2) ∙ s.2) in
    and_from (class_code b.dns_class == class_code class) (data_pass (test b.name) b.rdata)
    (class_from class a b s.1 p.0)
    (ap (data_pass (test b.name)) e ∙ and_from (d.0 == 50) (test b.name (read_nsec3 d.1)) d.3
    (sym (alike a.name b.name (read_nsec3 d.1) s.0) ∙ d.4))

hashed_unknown : (class : DNSClass) (test : NameValue → Option Nsec3Value → Bool) → IsOfType 50 (is_hashed class test)
hashed_unknown class test = λ a made.
    let p = and_parts (class_code a.dns_class == class_code class) (data_pass (test a.name) a.rdata) made in
    let d = hashed_of (test a.name) a.rdata p.1 in ap (is_unknown 50) d.2 ∙ d.3

hashed_asks : (class : DNSClass) (test : NameValue → Option Nsec3Value → Bool) (hashed : NameValue)
    → ((a : NameValue) (o : Option Nsec3Value) → test a o ≡ true → name_eq a hashed ≡ true)
    → Asks (is_hashed class test) (sought_key (type_key class hashed (type_of 50)))
hashed_asks class test hashed named = λ a made.
    let p = and_parts (class_code a.dns_class == class_code class) (data_pass (test a.name) a.rdata) made in
    let d = hashed_of (test a.name) a.rdata p.1 in
    asks_by class hashed 50 a p.0 (named a.name (read_nsec3 d.1) d.4) (d.0, d.1, d.2, d.3) refl

-- owners that are equal are in one chain
length_same : (a b : NameValue) → lower_labels a.labels ≡ lower_labels b.labels → length a.labels ≡ length b.labels
length_same a b e = sym (length-map a.labels lower_label) ∙ ap length e ∙ length-map b.labels lower_label

in_chain_same : (chain : ChainValue) (a b : NameValue) (n : Nsec3Value) → name_eq a b ≡ true → is_in_chain chain a n ≡ is_in_chain chain b n
in_chain_same chain a b n h =
    let same = same_from_name_eq a b h in let len = length_same a b same.1 in
    λ i. is_usable n && (n.iterations == chain.iterations) && pointwise nat_eq n.salt chain.salt
    && (len i == length chain.zone.labels + 1) && ends_with (pointwise nat_eq) (same.1 i) (lower_labels chain.zone.labels)

said_alike : (chain : ChainValue) (w : Says) (hashed : NameValue) → OwnersAlike (said_test chain w hashed)
said_alike chain Encloses hashed a b None h = refl
said_alike chain Encloses hashed a b (Some n) h =
    let e = name_equiv.congr a b hashed h in let c = in_chain_same chain a b n h in
    λ i. (e i) && (c i) && not (is_delegation n.bits || has_type 39 n.bits)
said_alike chain (IsBare code) hashed a b None h = refl
said_alike chain (IsBare code) hashed a b (Some n) h =
    let e = name_equiv.congr a b hashed h in let c = in_chain_same chain a b n h in
    λ i. (e i) && (c i) && lacks_type n.bits code

said_named : (chain : ChainValue) (w : Says) (hashed a : NameValue) (o : Option Nsec3Value) → said_test chain w hashed a o ≡ true
    → name_eq a hashed ≡ true
said_named chain Encloses hashed a None h = absurd (let no : false ≡ true = h in cc)
said_named chain Encloses hashed a (Some n) h =
    (and_parts (name_eq a hashed) (is_in_chain chain a n)
    (and_parts (name_eq a hashed && is_in_chain chain a n) (not (is_delegation n.bits || has_type 39 n.bits)) h).0).0
said_named chain (IsBare code) hashed a None h = absurd (let no : false ≡ true = h in cc)
said_named chain (IsBare code) hashed a (Some n) h =
    (and_parts (name_eq a hashed) (is_in_chain chain a n)
    (and_parts (name_eq a hashed && is_in_chain chain a n) (lacks_type n.bits code) h).0).0

between_same : (a b hashed : NameValue) (o : Option NameValue) → name_eq a b ≡ true → is_between_if a hashed o ≡ is_between_if b hashed o
between_same a b hashed None h = refl
between_same a b hashed (Some next) h =
    let p = before_same a b next h in let q = before_same a b hashed h in
    λ i. cond (p i) ((q i) && is_before hashed next) ((q i) || is_before hashed next)

covers_alike : (chain : ChainValue) (hashed : NameValue) → OwnersAlike (covers chain hashed)
covers_alike chain hashed a b None h = refl
covers_alike chain hashed a b (Some n) h =
    let c = in_chain_same chain a b n h in let m = between_same a b hashed (owner_of chain n.next) h in
    λ i. (c i) && not (is_opt_out n) && (m i)

pub said-made : (e : EvidenceValue) (i : IndexValue) → Stands e i → (until : ℕ) (class : DNSClass) (chain : ChainValue) (w : Says) (hashed : NameValue)
    → any_late (late i until) (is_hashed class (said_test chain w hashed)) (seen_at i.seen (sought_key (type_key class hashed (type_of 50))))
    ≡ lasts e until (is_hashed class (said_test chain w hashed))
said-made e i s until class chain w hashed =
    let makes = is_hashed class (said_test chain w hashed) in
    ap (λ m. any_late (max (until - grace m) i.oldest) makes (seen_at i.seen (sought_key (type_key class hashed (type_of 50))))) s.slack_is
    ∙ made-alike makes (sought_key (type_key class hashed (type_of 50))) e.slack until i.oldest e.received i.seen s.seen_are
    (hashed_respects class (said_test chain w hashed) (said_alike chain w hashed))
    (hashed_asks class (said_test chain w hashed) hashed (said_named chain w hashed))

pub cover-made : (e : EvidenceValue) (i : IndexValue) → Stands e i → (until : ℕ) (class : DNSClass) (chain : ChainValue) (hashed : NameValue)
    → any_owner (late i until) (is_hashed class (covers chain hashed)) i.gaps.nsec3 ≡ lasts e until (is_hashed class (covers chain hashed))
cover-made e i s until class chain hashed =
    let makes = is_hashed class (covers chain hashed) in
    ap (λ m. any_owner (max (until - grace m) i.oldest) makes i.gaps.nsec3) s.slack_is
    ∙ s.gaps_are.nsec3_are makes (until - grace e.slack) (hashed_respects class (covers chain hashed) (covers_alike chain hashed))
    (hashed_unknown class (covers chain hashed))
    ∙ lasts-late e.slack until makes e.received

-- ---- chains

kept_of : (test : ChainValue → Bool) (zone : NameValue) (d : DataValue) → octets_pass test zone d ≡ true
    → (code : ℕ) × (octets : List ℕ) × (d ≡ unknown_data code octets) × ((code == 51) ≡ true)
    × (chain_passes test (read_chain zone octets) ≡ true)
kept_of test zone (unknown_data code octets) h =
    let p = and_parts (code == 51) (chain_passes test (read_chain zone octets)) h in (code, octets, refl, p.0, p.1)
kept_of test zone _ h = absurd (let no : false ≡ true = h in cc)

kept_respects : (class : DNSClass) (zone : NameValue) (test : ChainValue → Bool) → Respects (is_kept_chain class zone test)
kept_respects class zone test = λ a b same made.
    let outer = and_parts ((class_code a.dns_class == class_code class) && name_eq a.name zone) (octets_pass test zone a.rdata) made in
    let inner = and_parts (class_code a.dns_class == class_code class) (name_eq a.name zone) outer.0 in
    let s = parts_same a b same in
    let d = kept_of test zone a.rdata outer.1 in
    let e = equal_unknown d.0 d.1 b.rdata (ap (λ x. data_eq x b.rdata) (sym d.2) ∙ s.2) in
    and_from ((class_code b.dns_class == class_code class) && name_eq b.name zone) (octets_pass test zone b.rdata)
    (and_from (class_code b.dns_class == class_code class) (name_eq b.name zone)
    (class_from class a b s.1 inner.0) (name_from zone a b s.0 inner.1))
    (ap (octets_pass test zone) (e ∙ sym d.2) ∙ outer.1)

kept_asks : (class : DNSClass) (zone : NameValue) (test : ChainValue → Bool)
    → Asks (is_kept_chain class zone test) (sought_key (type_key class zone (type_of 51)))
kept_asks class zone test = λ a made.
    let outer = and_parts ((class_code a.dns_class == class_code class) && name_eq a.name zone) (octets_pass test zone a.rdata) made in
    let inner = and_parts (class_code a.dns_class == class_code class) (name_eq a.name zone) outer.0 in
    let d = kept_of test zone a.rdata outer.1 in
    asks_by class zone 51 a inner.0 inner.1 (d.0, d.1, d.2, d.3) refl

pub chain-made : (e : EvidenceValue) (i : IndexValue) → Stands e i → (until : ℕ) (class : DNSClass) (zone : NameValue) (test : ChainValue → Bool)
    → any_late (late i until) (is_kept_chain class zone test) (seen_at i.gaps.chains (sought_key (type_key class zone (type_of 51))))
    ≡ lasts e until (is_of_chain class zone test)
chain-made e i s until class zone test =
    let makes = is_kept_chain class zone test in
    ap (λ m. any_late (max (until - grace m) i.oldest) makes (seen_at i.gaps.chains (sought_key (type_key class zone (type_of 51))))) s.slack_is
    ∙ made-alike makes (sought_key (type_key class zone (type_of 51))) e.slack until i.oldest (chains_in e.received) i.gaps.chains s.gaps_are.chains_are
    (kept_respects class zone test) (kept_asks class zone test)
    ∙ sym (lasts-late e.slack until makes (chains_in e.received))
    ∙ chain_late (until - grace e.slack) class zone test e.received
    ∙ lasts-late e.slack until (is_of_chain class zone test) e.received
