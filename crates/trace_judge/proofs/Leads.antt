-- Aliases lead by the index as they do by all receptions.
use Rattle.std.proofs.Common.{◌≡◌, ◌+◌, ◌-◌, ℕ, zero, suc, Bool, true, false, ◌&&◌, ◌||◌, ◌==◌, cond, max, nat_le, not, List, None, refl, ap, sym, ◌∙◌, inl, inr, arith}
use Rattle.std.specs.List.{list_any}
use Rattle.std.specs.Option.{option_map_or}
use Rattle.std.proofs.lemmas.Bool.{and_from, and_parts, cases_Bool, cond-true, cond-false, eq-eqb}
use Rattle.std.proofs.lemmas.Bool.Decides.{nat_tests}
use Rattle.hickory_proto_core.specs.Codes.{class_code, type_code}
use Rattle.hickory_proto_core.specs.Name.{NameValue, name_eq}
use Rattle.hickory_proto_core.specs.NameLaws.{name_equiv}
use Rattle.hickory_proto_core.specs.Records.{DataValue, RecordValue, cname_data, data_eq, data_equiv, data_type}
use Rattle.hickory_proto_core.specs.codes.dns_class.DNSClass.{DNSClass}
use Rattle.hickory_proto_core.specs.codes.record_type.RecordType.TheVariants as type
use Rattle.hickory_proto_core.specs.declared.query.Query.{Query}
use Rattle.trace_judge.specs.Aliases.{is_alias_outlived, leads, next_name}
use Rattle.trace_judge.specs.Denials.{alias_target}
use Rattle.trace_judge.specs.Evidence.{EvidenceValue}
use Rattle.trace_judge.specs.Index.{IndexValue, Stands, alias_key, alias_step, is_reaching, leads_in, leads_in_by, reaches, seen_at}
use Rattle.trace_judge.specs.Receptions.{deadline, grace, is_same_record}
use Rattle.trace_judge.specs.RecordKeys.{KeyValue, key_eq, key_octets, key_target, no_target, record_key}
use Rattle.trace_judge.specs.declared.receptions.Reception.{Reception}
use Rattle.trace_judge.proofs.Keys.{key_from, same_equiv, seen_same}
use Rattle.trace_judge.proofs.Tests.{any_same, found_in, same_tests}

-- only data of a CNAME have a target
target_of : (P : NameValue → Bool) (d : DataValue) → option_map_or P (alias_target d) false ≡ true
    → (t : NameValue) × (d ≡ cname_data t) × (P t ≡ true)
target_of P (cname_data t) h = (t, refl, h)
target_of P _ h = absurd (let no : false ≡ true = h in cc)

equal_target : (t : NameValue) (d : DataValue) → data_eq (cname_data t) d ≡ true
    → (s : NameValue) × (d ≡ cname_data s) × (name_eq t s ≡ true)
equal_target t (cname_data s) h =
    let a = and_parts (name_eq t s && true) true (and_parts ((name_eq t s && true) && true) true h).0 in
    (s, refl, (and_parts (name_eq t s) true a.0).0)
equal_target t _ h = absurd (let no : false ≡ true = h in cc)

-- what an alias that leads on is, and that this makes one
parts_of : (class : DNSClass) (from : NameValue) (P : NameValue → Bool) (b : Bool) (r : RecordValue)
    → option_map_or P (cond ((class_code r.dns_class == class_code class) && name_eq r.name from && b) (alias_target r.rdata) None) false ≡ true
    → (t : NameValue) × (r.rdata ≡ cname_data t) × (P t ≡ true) × ((class_code r.dns_class == class_code class) ≡ true)
    × (name_eq r.name from ≡ true) × (b ≡ true)
parts_of class from P b r h =
    let test = (class_code r.dns_class == class_code class) && name_eq r.name from && b in
    elim (cases_Bool test) [
      | inl e ↦ (let t = target_of P r.rdata (ap (λ o. option_map_or P o false) (sym (cond-true test (alias_target r.rdata) None e)) ∙ h) in
          let outer = and_parts ((class_code r.dns_class == class_code class) && name_eq r.name from) b e in
          let inner = and_parts (class_code r.dns_class == class_code class) (name_eq r.name from) outer.0 in
          (t.0, t.1, t.2, inner.0, inner.1, outer.1))
      | inr e ↦ absurd (let no : false ≡ true
          = ap (λ o. option_map_or P o false) (sym (cond-false test (alias_target r.rdata) None e)) ∙ h in cc)
    ]

whole_of : (class : DNSClass) (from : NameValue) (P : NameValue → Bool) (b : Bool) (r : RecordValue) (t : NameValue)
    → r.rdata ≡ cname_data t → P t ≡ true → (class_code r.dns_class == class_code class) ≡ true
    → name_eq r.name from ≡ true → b ≡ true
    → option_map_or P (cond ((class_code r.dns_class == class_code class) && name_eq r.name from && b) (alias_target r.rdata) None) false ≡ true
whole_of class from P b r t is leads c n k =
    let test = (class_code r.dns_class == class_code class) && name_eq r.name from && b in
    ap (λ o. option_map_or P o false) (cond-true test (alias_target r.rdata) None
    (and_from ((class_code r.dns_class == class_code class) && name_eq r.name from) b
    (and_from (class_code r.dns_class == class_code class) (name_eq r.name from) c n) k))
    ∙ ap (λ d. option_map_or P (alias_target d) false) is ∙ leads

-- the key of an alias
alias_question : (class : DNSClass) (from : NameValue) (r : RecordValue) (t : NameValue) → r.rdata ≡ cname_data t
    → (class_code r.dns_class == class_code class) ≡ true → name_eq r.name from ≡ true
    → key_eq (record_key r) (alias_key class from) ≡ true
alias_question class from r t is c n =
    key_from (record_key r) (alias_key class from) (and_from (name_eq r.name from && (type_code (data_type r.rdata) == type_code type.CNAME)) (class_code r.dns_class == class_code class)
    (and_from (name_eq r.name from) (type_code (data_type r.rdata) == type_code type.CNAME) n
    (eq-eqb (type_code (data_type r.rdata)) (type_code type.CNAME) (ap (λ d. type_code (data_type d)) is))) c)
    (ap (λ d. name_eq (key_target d) no_target) is) (ap key_octets is)

-- equal names are led from alike
leads-same : (until : ℕ) (seen : List (KeyValue × List Reception)) (class : DNSClass) (to : NameValue) (hops : ℕ) (x y : NameValue)
    → name_eq x y ≡ true → leads_in until seen class to hops x ≡ leads_in until seen class to hops y
unfolding leads_in
leads-same until seen class to zero x y e = name_equiv.congr x y to e
leads-same until seen class to (suc hops) x y e =
    let turned : (r : Reception) → name_eq r.found.name x ≡ name_eq r.found.name y
    = λ r. name_equiv.symm r.found.name x ∙ name_equiv.congr x y r.found.name e ∙ name_equiv.symm y r.found.name in
    let keys : key_eq (alias_key class x) (alias_key class y) ≡ true
    = key_from (alias_key class x) (alias_key class y)
    (and_from (name_eq x y && true) (class_code class == class_code class) (and_from (name_eq x y) true e refl)
    (eq-eqb (class_code class) (class_code class) refl)) refl refl in
    ap (λ b. b || list_any (leads_in_by until seen class to hops x) (seen_at seen (alias_key class x))) (name_equiv.congr x y to e)
    ∙ ap (λ rs. name_eq y to || list_any (leads_in_by until seen class to hops x) rs) (seen_same (alias_key class x) (alias_key class y) keys seen)
    ∙ ap (λ b. name_eq y to || b) (any_same (leads_in_by until seen class to hops x) (leads_in_by until seen class to hops y)
    (seen_at seen (alias_key class y)) (λ r. ap (λ b. option_map_or (leads_in until seen class to hops)
    (cond ((class_code r.found.dns_class == class_code class) && b && nat_le until (deadline r)) (alias_target r.found.rdata) None) false) (turned r)))

-- the parts of two records that are the same
sames : (r : RecordValue) (s : Reception) → is_same_record s.found r ≡ true
    → (name_eq s.found.name r.name ≡ true) × ((class_code s.found.dns_class == class_code r.dns_class) ≡ true)
    × (data_eq s.found.rdata r.rdata ≡ true)
sames r s h =
    let outer = and_parts (name_eq s.found.name r.name && (class_code s.found.dns_class == class_code r.dns_class)) (data_eq s.found.rdata r.rdata) h in
    let inner = and_parts (name_eq s.found.name r.name) (class_code s.found.dns_class == class_code r.dns_class) outer.0 in
    (inner.0, inner.1, outer.1)

class_of : (class : DNSClass) (r s : RecordValue) → (class_code s.dns_class == class_code r.dns_class) ≡ true
    → (class_code r.dns_class == class_code class) ≡ true → (class_code s.dns_class == class_code class) ≡ true
class_of class r s p q = grind (arith, nat_tests)

name_of : (from : NameValue) (r s : RecordValue) → name_eq s.name r.name ≡ true → name_eq r.name from ≡ true → name_eq s.name from ≡ true
name_of from r s p q = name_equiv.congr s.name r.name from p ∙ q

other_target : (r : RecordValue) (s : Reception) (t : NameValue) → r.rdata ≡ cname_data t → is_same_record s.found r ≡ true
    → (u : NameValue) × (s.found.rdata ≡ cname_data u) × (name_eq t u ≡ true)
other_target r s t is h =
    equal_target t s.found.rdata (ap (λ d. data_eq d s.found.rdata) (sym is) ∙ data_equiv.symm r.rdata s.found.rdata ∙ (sames r s h).2)

-- the same alias leads on as this one
led_by : (class : DNSClass) (from : NameValue) (Q : NameValue → Bool) (until : ℕ) (r : RecordValue) (s : Reception) (t : NameValue)
    → r.rdata ≡ cname_data t → Q t ≡ true → (class_code r.dns_class == class_code class) ≡ true → name_eq r.name from ≡ true
    → is_same_record s.found r ≡ true → nat_le until (deadline s) ≡ true
    → ((x y : NameValue) → name_eq x y ≡ true → Q x ≡ Q y)
    → option_map_or Q (alias_step until class from s) false ≡ true
led_by class from Q until r s t is leads c n h k respects =
    let u = other_target r s t is h in let parts = sames r s h in
    whole_of class from Q (nat_le until (deadline s)) s.found u.0 u.1 (sym (respects t u.0 u.2) ∙ leads)
    (class_of class r s.found parts.1 c) (name_of from r s.found parts.0 n) k

late : (slack at d : ℕ) → nat_le at (d + grace slack) ≡ nat_le (at - grace slack) d
late slack at d = grind (arith, nat_tests)

here : (r : Reception) (until : ℕ) → nat_le until (deadline r) ≡ true → is_reaching r.found until 0 r ≡ true
here r until k =
    and_from (is_same_record r.found r.found) (nat_le until (deadline r) && nat_le 0 r.found.ttl)
    (same_equiv.refl r.found) (and_from (nat_le until (deadline r)) (nat_le 0 r.found.ttl) k (grind (arith, nat_tests)))

abbrev pub SeenAlike : ℕ → List Reception → List (KeyValue × List Reception) → Type 0
SeenAlike before rs seen =
    (told : RecordValue) (until ttl : ℕ) → reaches told until ttl rs ≡ reaches told (max until before) ttl (seen_at seen (record_key told))

-- an alias leads on by the index as by all receptions
alias_there : (slack at before : ℕ) (rs : List Reception) (seen : List (KeyValue × List Reception)) → SeenAlike before rs seen
    → (class : DNSClass) (from : NameValue) (P Q : NameValue → Bool) → ((x : NameValue) → P x ≡ Q x)
    → ((x y : NameValue) → name_eq x y ≡ true → Q x ≡ Q y)
    → list_any (λ r. option_map_or P (next_name slack at class from r) false) rs ≡ true
    → list_any (λ r. option_map_or Q (alias_step (max (at - grace slack) before) class from r) false) (seen_at seen (alias_key class from)) ≡ true
alias_there slack at before rs seen same class from P Q alike respects h =
    let until = at - grace slack in
    let r = found_in (λ r. option_map_or P (next_name slack at class from r) false) rs h in
    let p = parts_of class from P (nat_le at (deadline r.0 + grace slack)) r.0.found r.1 in
    let reached : reaches r.0.found until 0 rs ≡ true
    = r.2 (is_reaching r.0.found until 0) (here r.0 until (sym (late slack at (deadline r.0)) ∙ p.5)) in
    let key = alias_question class from r.0.found p.0 p.1 p.3 p.4 in
    let found = found_in (is_reaching r.0.found (max until before) 0) (seen_at seen (record_key r.0.found)) (sym (same r.0.found until 0) ∙ reached) in
    let s = found.0 in
    let hit = and_parts (is_same_record s.found r.0.found) (nat_le (max until before) (deadline s) && nat_le 0 s.found.ttl) found.1 in
    let far = and_parts (nat_le (max until before) (deadline s)) (nat_le 0 s.found.ttl) hit.1 in
    let is_one = led_by class from Q (max until before) r.0.found s p.0 p.1 (sym (alike p.0) ∙ p.2) p.3 p.4 hit.0 far.0 respects in
    let test = λ (x : Reception). option_map_or Q (alias_step (max until before) class from x) false in
    ap (list_any test) (sym (seen_same (record_key r.0.found) (alias_key class from) key seen)) ∙ found.2 test is_one

alias_back : (slack at before : ℕ) (rs : List Reception) (seen : List (KeyValue × List Reception)) → SeenAlike before rs seen
    → (class : DNSClass) (from : NameValue) (P Q : NameValue → Bool) → ((x : NameValue) → P x ≡ Q x)
    → ((x y : NameValue) → name_eq x y ≡ true → Q x ≡ Q y)
    → list_any (λ r. option_map_or Q (alias_step (max (at - grace slack) before) class from r) false) (seen_at seen (alias_key class from)) ≡ true
    → list_any (λ r. option_map_or P (next_name slack at class from r) false) rs ≡ true
alias_back slack at before rs seen same class from P Q alike respects h =
    let until = at - grace slack in
    let m = max until before in
    let r = found_in (λ r. option_map_or Q (alias_step m class from r) false) (seen_at seen (alias_key class from)) h in
    let p = parts_of class from Q (nat_le m (deadline r.0)) r.0.found r.1 in
    let key = alias_question class from r.0.found p.0 p.1 p.3 p.4 in
    let reached : reaches r.0.found m 0 (seen_at seen (record_key r.0.found)) ≡ true
    = ap (reaches r.0.found m 0) (seen_same (record_key r.0.found) (alias_key class from) key seen)
    ∙ r.2 (is_reaching r.0.found m 0) (here r.0 m p.5) in
    let found = found_in (is_reaching r.0.found until 0) rs (same r.0.found until 0 ∙ reached) in
    let s = found.0 in
    let hit = and_parts (is_same_record s.found r.0.found) (nat_le until (deadline s) && nat_le 0 s.found.ttl) found.1 in
    let far = and_parts (nat_le until (deadline s)) (nat_le 0 s.found.ttl) hit.1 in
    let t = other_target r.0.found s p.0 p.1 hit.0 in
    let same_class = sames r.0.found s hit.0 in
    found.2 (λ x. option_map_or P (next_name slack at class from x) false)
    (whole_of class from P (nat_le at (deadline s + grace slack)) s.found t.0 t.1
    (alike t.0 ∙ sym (respects p.0 t.0 t.2) ∙ p.2) (class_of class r.0.found s.found same_class.1 p.3)
    (name_of from r.0.found s.found same_class.0 p.4) (late slack at (deadline s) ∙ far.0))

pub leads-alike : (slack at before : ℕ) (rs : List Reception) (seen : List (KeyValue × List Reception)) → SeenAlike before rs seen
    → (class : DNSClass) (to : NameValue) (hops : ℕ) (from : NameValue)
    → leads slack at rs class to hops from ≡ leads_in (max (at - grace slack) before) seen class to hops from
unfolding leads leads_in
leads-alike slack at before rs seen same class to zero from = refl
leads-alike slack at before rs seen same class to (suc hops) from =
    let until = max (at - grace slack) before in
    ap (λ b. name_eq from to || b) (same_tests
    (list_any (λ r. option_map_or (leads slack at rs class to hops) (next_name slack at class from r) false) rs)
    (list_any (λ r. option_map_or (leads_in until seen class to hops) (alias_step until class from r) false) (seen_at seen (alias_key class from)))
    (alias_there slack at before rs seen same class from (leads slack at rs class to hops) (leads_in until seen class to hops)
    (leads-alike slack at before rs seen same class to hops) (leads-same until seen class to hops))
    (alias_back slack at before rs seen same class from (leads slack at rs class to hops) (leads_in until seen class to hops)
    (leads-alike slack at before rs seen same class to hops) (leads-same until seen class to hops)))

-- by the index: whether aliases led there, and no chain of them is current
pub outlived_by : (e : EvidenceValue) (i : IndexValue) → Stands e i → (now : ℕ) (q : Query) (owner : NameValue) (led still : Bool)
    → led ≡ leads_in i.oldest i.seen q.query_class owner 16 q.name
    → still ≡ leads_in (max (now - grace i.slack) i.oldest) i.seen q.query_class owner 16 q.name
    → (led && not still) ≡ is_alias_outlived e.slack e.received now q owner
outlived_by e i s now q owner led still was is =
    let from : i.oldest ≡ max (0 - grace e.slack) i.oldest = omega arith in
    ap (λ b. b && not still) (was ∙ ap (λ n. leads_in n i.seen q.query_class owner 16 q.name) from
    ∙ sym (leads-alike e.slack 0 i.oldest e.received i.seen s.seen_are q.query_class owner 16 q.name))
    ∙ ap (λ b. leads e.slack 0 e.received q.query_class owner 16 q.name && not b)
    (is ∙ ap (λ n. leads_in (max (now - grace n) i.oldest) i.seen q.query_class owner 16 q.name) s.slack_is
    ∙ sym (leads-alike e.slack now i.oldest e.received i.seen s.seen_are q.query_class owner 16 q.name))
