-- As many records as fit, section by section.
use Rattle.std.proofs.Common.{◌≡◌, ℕ, zero, suc, ◌-◌, ◌+◌, ◌≤◌, ◌<◌, Bool, true, false, List, [], ◌∷◌, ◌++◌, length, take, get_or, ltb, refl, sym, ap, ap₂, subst, ◌∙◌, length-append, arith}
use Rattle.std.specs.Prelude.{Option, None, Some}
use Rattle.std.specs.List.{fold}
use Rattle.std.proofs.lemmas.Bool.{lt-ltb, le-ltb, ltb-true, ltb-false}
use Rattle.std.proofs.lemmas.List.{take_more, take_all, take-append-le}
use Rattle.hickory_proto_codes.specs.Codes.{response_code}
use Rattle.hickory_proto_core.specs.Records.{RecordValue}
use Rattle.hickory_proto_core.specs.declared.query.Query.{Query}
use Rattle.hickory_proto_wire.specs.declared.to_wire_error.ToWireError.TheVariants.{LimitTooSmall}
use Rattle.hickory_proto_wire.specs.declared.wire_message.WireMessage.{WireMessage}
use Rattle.hickory_proto_wire.specs.Edns.{AreInRange}
use Rattle.hickory_proto_wire.specs.Messages.{spelled_message}
use Rattle.hickory_proto_wire.specs.Writing.{record_count}
use Rattle.hickory_proto_wire.specs.Place.{PlaceValue}
use Rattle.hickory_proto_wire.specs.Written.{Body, query_added, record_added, records_added, queries_body, records_of, record_octets, opt_octets, header_octets, octets_of}
use Rattle.hickory_proto_wire.specs.Refused.{fault_if, first_fault, name_fault, data_fault, query_fault, record_fault, record_data_fault, additional_fault, opt_fault, header_fault, sections_fault, message_fault, wire_fault}
use Rattle.hickory_proto_wire.specs.Made.{query_flaw, record_flaw}
use Rattle.hickory_proto_wire.specs.ToWire.{IsWritten, KeepsMost}
use Rattle.hickory_proto_wire.proofs.Faults.{or_first, or_second, or_next, or_none, both_none}
use Rattle.hickory_proto_wire.proofs.Whole.{fold_append, additional_right, octets_read}

-- one item more
pub fold_more : {A B : Type 0} (f : B → A → B) (b : B) (xs : List A) (i : ℕ) (x : A) → i < length xs → x ≡ get_or xs i x
    → fold f b (take (i + 1) xs) ≡ f (fold f b (take i xs)) x
fold_more {A} f b xs i x lt is =
    ap (λ (ys : List A). fold f b ys) (take_more xs i x lt) ∙ fold_append f b (take i xs) (get_or xs i x ∷ [])
    ∙ ap (λ (y : A). f (fold f b (take i xs)) y) (sym is)

take_on : {A : Type 0} (n : ℕ) (xs ys : List A) → take (length xs + n) (xs ++ ys) ≡ xs ++ take n ys
take_on {A} n [] ys =
    let all : 0 + n ≡ n = omega arith in
    ap (λ (k : ℕ). take k ys) all
take_on {A} n (x ∷ xs) ys =
    let k : length (x ∷ xs) + n ≡ suc (length xs + n) = omega arith in
    ap (λ (k : ℕ). take k ((x ∷ xs) ++ ys)) k ∙ ap (λ (zs : List A). x ∷ zs) (take_on n xs ys)

-- no more fit
pub keeps_stop : (s : Body) (xs ys : List RecordValue) (most n : ℕ) (o : List ℕ) → KeepsMost s xs most n o → n < length xs
    → KeepsMost s (xs ++ ys) most n o
keeps_stop s xs ys most n o k lt =
    record {
      known = omega (arith, lt, length-append xs ys);
      written = k.written ∙ ap (λ (rs : List RecordValue). (records_added s rs).octets) (sym (take-append-le n xs ys (omega (arith, lt))));
      within = k.within;
      next = λ more.
          subst (λ (rs : List RecordValue). most < length (records_added s rs).octets) (sym (take-append-le (n + 1) xs ys (omega (arith, lt))))
          (k.next lt);
    }

-- all fit, and these behind them
pub keeps_on : (s : Body) (xs ys : List RecordValue) (most n : ℕ) (o : List ℕ) → KeepsMost (records_added s xs) ys most n o
    → KeepsMost s (xs ++ ys) most (length xs + n) o
keeps_on s xs ys most n o k =
    let both : (m : ℕ) → records_added s (take (length xs + m) (xs ++ ys)) ≡ records_added (records_added s xs) (take m ys) =
    λ m. ap (λ (rs : List RecordValue). records_added s rs) (take_on m xs ys) ∙ fold_append record_added s xs (take m ys) in
    let step : length xs + n + 1 ≡ length xs + (n + 1) = omega arith in
    record {
      known = omega (arith, k.known, length-append xs ys);
      written = k.written ∙ ap (λ (b : Body). b.octets) (sym (both n));
      within = k.within;
      next = λ more.
          subst (λ (c : ℕ). most < length (records_added s (take c (xs ++ ys))).octets) (sym step)
          (subst (λ (b : Body). most < length b.octets) (sym (both (n + 1))) (k.next (omega (arith, more, length-append xs ys))));
    }

pub made_stop : {A E : Type 0} (f : A → Option E) (xs ys : List A) (n : ℕ) → n ≤ length xs → first_fault f (take n xs) ≡ None
    → first_fault f (take n (xs ++ ys)) ≡ None
made_stop f xs ys n le e = ap (first_fault f) (take-append-le n xs ys le) ∙ e

pub made_on : {A E : Type 0} (f : A → Option E) (xs ys : List A) (m n : ℕ) → length xs ≤ m → first_fault f (take m xs) ≡ None
    → first_fault f (take n ys) ≡ None → first_fault f (take (length xs + n) (xs ++ ys)) ≡ None
made_on f xs ys m n le e g =
    ap (first_fault f) (take_on n xs ys) ∙ both_none f xs (take n ys) (ap (first_fault f) (sym (take_all m xs le)) ∙ e) g

-- ---- three sections

pub keeps_second : (m : WireMessage) (s0 s1 : Body) (first second most : ℕ) (o1 o2 : List ℕ) (answers authorities : List RecordValue)
    → answers ≡ m.message.answers → authorities ≡ m.message.authorities → KeepsMost s0 answers most first o1
    → length answers ≤ first → (first ≡ length answers → s1 ≡ records_added s0 answers)
    → KeepsMost s1 authorities most second o2 → second < length authorities
    → KeepsMost s0 (records_of m) most (first + second) o2
keeps_second m s0 s1 first second most o1 o2 answers authorities ea en k1 le all k2 lt =
    let last = m.message.additionals in
    let is : first ≡ length answers = omega (arith, k1.known, le) in
    let here : KeepsMost (records_added s0 answers) authorities most second o2 =
    subst (λ (b : Body). KeepsMost b authorities most second o2) (all is) k2 in
    let k =
    keeps_on s0 answers (authorities ++ last) most second o2
    (keeps_stop (records_added s0 answers) authorities last most second o2 here lt) in
    let same : answers ++ (authorities ++ last) ≡ records_of m =
    ap₂ (λ (a : List RecordValue) (n : List RecordValue). a ++ (n ++ last)) ea en in
    subst (λ (rs : List RecordValue). KeepsMost s0 rs most (first + second) o2) same
    (subst (λ (n : ℕ). KeepsMost s0 (answers ++ (authorities ++ last)) most (n + second) o2) (sym is) k)

pub keeps_third : (m : WireMessage) (s0 s1 s2 : Body) (first second third most : ℕ) (o1 o2 o3 : List ℕ)
    (answers authorities additionals : List RecordValue) → answers ≡ m.message.answers
    → authorities ≡ m.message.authorities → additionals ≡ m.message.additionals → KeepsMost s0 answers most first o1
    → length answers ≤ first → (first ≡ length answers → s1 ≡ records_added s0 answers)
    → KeepsMost s1 authorities most second o2 → length authorities ≤ second
    → (second ≡ length authorities → s2 ≡ records_added s1 authorities) → KeepsMost s2 additionals most third o3
    → KeepsMost s0 (records_of m) most (first + second + third) o3
keeps_third m s0 s1 s2 first second third most o1 o2 o3 answers authorities additionals ea en er k1 le all k2 le2 all2 k3 =
    let is : first ≡ length answers = omega (arith, k1.known, le) in
    let is2 : second ≡ length authorities = omega (arith, k2.known, le2) in
    let body : s2 ≡ records_added (records_added s0 answers) authorities =
    all2 is2 ∙ ap (λ (b : Body). records_added b authorities) (all is) in
    let here : KeepsMost (records_added (records_added s0 answers) authorities) additionals most third o3 =
    subst (λ (b : Body). KeepsMost b additionals most third o3) body k3 in
    let k =
    keeps_on s0 answers (authorities ++ additionals) most (length authorities + third) o3
    (keeps_on (records_added s0 answers) authorities additionals most third o3 here) in
    let same : answers ++ (authorities ++ additionals) ≡ records_of m =
    ap₂ (λ (a : List RecordValue) (n : List RecordValue). a ++ (n ++ additionals)) ea en
    ∙ ap (λ (r : List RecordValue). m.message.answers ++ (m.message.authorities ++ r)) er in
    let count : length answers + (length authorities + third) ≡ first + second + third = omega (arith, is, is2) in
    subst (λ (rs : List RecordValue). KeepsMost s0 rs most (first + second + third) o3) same
    (subst (λ (n : ℕ). KeepsMost s0 (answers ++ (authorities ++ additionals)) most n o3) count k)

pub made_second : (m : WireMessage) (first second : ℕ) (answers authorities : List RecordValue) → answers ≡ m.message.answers
    → authorities ≡ m.message.authorities → first ≤ length answers → length answers ≤ first → second ≤ length authorities
    → first_fault record_flaw (take first answers) ≡ None → first_fault record_flaw (take second authorities) ≡ None
    → first_fault record_flaw (take (first + second) (records_of m)) ≡ None
made_second m first second answers authorities ea en most least within a n =
    let last = m.message.additionals in
    let is : first ≡ length answers = omega (arith, most, least) in
    let same : answers ++ (authorities ++ last) ≡ records_of m =
    ap₂ (λ (a : List RecordValue) (n : List RecordValue). a ++ (n ++ last)) ea en in
    ap₂ (λ (k : ℕ) (rs : List RecordValue). first_fault record_flaw (take (k + second) rs)) is (sym same)
    ∙ made_on record_flaw answers (authorities ++ last) first second least a (made_stop record_flaw authorities last second within n)

pub made_third : (m : WireMessage) (first second third : ℕ) (answers authorities additionals : List RecordValue)
    → answers ≡ m.message.answers → authorities ≡ m.message.authorities → additionals ≡ m.message.additionals
    → first ≤ length answers → length answers ≤ first → second ≤ length authorities → length authorities ≤ second
    → first_fault record_flaw (take first answers) ≡ None → first_fault record_flaw (take second authorities) ≡ None
    → first_fault record_flaw (take third additionals) ≡ None
    → first_fault record_flaw (take (first + second + third) (records_of m)) ≡ None
made_third m first second third answers authorities additionals ea en er most least most2 least2 a n r =
    let count : first + second + third ≡ length answers + (length authorities + third) = omega (arith, most, least, most2, least2) in
    let same : answers ++ (authorities ++ additionals) ≡ records_of m =
    ap₂ (λ (a : List RecordValue) (n : List RecordValue). a ++ (n ++ additionals)) ea en
    ∙ ap (λ (r : List RecordValue). m.message.answers ++ (m.message.authorities ++ r)) er in
    ap₂ (λ (k : ℕ) (rs : List RecordValue). first_fault record_flaw (take k rs)) count (sym same)
    ∙ made_on record_flaw answers (authorities ++ additionals) first (length authorities + third) least a
    (made_on record_flaw authorities additionals second third least2 n r)

-- ---- what the writer of data asks

fewer_faults : {A E G : Type 0} (f : A → Option E) (g : A → Option G) → ((x : A) → f x ≡ None → g x ≡ None) → (xs : List A)
    → first_fault f xs ≡ None → first_fault g xs ≡ None
fewer_faults f g less [] e = refl
fewer_faults f g less (x ∷ xs) e =
    or_none (g x) (first_fault g xs) (less x (or_first (f x) (first_fault f xs) e))
    (fewer_faults f g less xs (or_second (f x) (first_fault f xs) e))

pub data_right : (m : WireMessage) → message_fault m ≡ None
    → (first_fault record_data_fault m.message.answers ≡ None) × (first_fault record_data_fault m.message.authorities ≡ None)
    × (first_fault record_data_fault m.message.additionals ≡ None)
data_right m right =
    let rest = or_second (header_fault m) (sections_fault m) right in
    let all_a = or_second (first_fault query_fault m.message.queries) _ rest in
    let all_n = or_second (first_fault record_fault m.message.answers) _ all_a in
    let all_r = or_second (first_fault record_fault m.message.authorities) _ all_n in
    let of_record : (r : RecordValue) → record_fault r ≡ None → record_data_fault r ≡ None =
    λ r e. or_second (name_fault r.name) (data_fault r.rdata) e in
    let of_additional : (r : RecordValue) → additional_fault r ≡ None → record_data_fault r ≡ None =
    λ r e. of_record r (additional_right r e).0 in (
      fewer_faults record_fault record_data_fault of_record m.message.answers (or_first (first_fault record_fault m.message.answers) _ all_a),
      fewer_faults record_fault record_data_fault of_record m.message.authorities (or_first (first_fault record_fault m.message.authorities) _ all_n),
      fewer_faults additional_fault record_data_fault of_additional m.message.additionals (or_first (first_fault additional_fault m.message.additionals) (opt_fault m.edns) all_r),
    )

pub start_is : (m : WireMessage) (queries : List Query) (octets : List ℕ) (places : List PlaceValue) (b : Body) → octets ≡ []
    → places ≡ [] → queries ≡ m.message.queries
    → b ≡ fold query_added (record { octets = octets; places = places }) queries → b ≡ queries_body m
start_is m queries octets places b eo ep eq e =
    let start : List ℕ → List PlaceValue → Body = λ o p. record { octets = o; places = p } in
    e ∙ ap (λ (qs : List Query). fold query_added (start octets places) qs) eq
    ∙ ap₂ (λ (o : List ℕ) (p : List PlaceValue). fold query_added (start o p) m.message.queries) eo ep

-- ---- the whole

counted_records : (m : WireMessage) → length (records_of m) ≡ record_count m
counted_records m =
    omega (
      arith,
      length-append m.message.answers (m.message.authorities ++ m.message.additionals),
      length-append m.message.authorities m.message.additionals,
    )

octets_len : (m : WireMessage) (kept : ℕ)
    → length (octets_of m kept)
    ≡ 12 + (length (records_added (queries_body m) (take kept (records_of m))).octets
    + length (opt_octets m.edns (response_code m.message.metadata.response_code)))
octets_len m kept =
    length-append (header_octets m kept) ((records_added (queries_body m) (take kept (records_of m))).octets ++ opt_octets m.edns (response_code m.message.metadata.response_code))
    ∙ ap (λ (n : ℕ). 12 + n) (length-append (records_added (queries_body m) (take kept (records_of m))).octets (opt_octets m.edns (response_code m.message.metadata.response_code)))

pub is_written : (m : WireMessage) (limit around kept : ℕ) (body octets : List ℕ)
    → around ≡ 12 + length (opt_octets m.edns (response_code m.message.metadata.response_code)) → around ≤ limit
    → KeepsMost (queries_body m) (records_of m) (limit - around) kept body
    → octets ≡ header_octets m kept ++ (body ++ opt_octets m.edns (response_code m.message.metadata.response_code))
    → message_fault m ≡ None → first_fault query_flaw m.message.queries ≡ None
    → first_fault record_flaw (take kept (records_of m)) ≡ None → AreInRange m.edns → IsWritten m limit octets
is_written m limit around kept body octets e le k is right made_queries made range =
    let opt = opt_octets m.edns (response_code m.message.metadata.response_code) in
    let same : octets ≡ octets_of m kept = is ∙ ap (λ (b : List ℕ). header_octets m kept ++ (b ++ opt)) k.written in
    let body_len : length body ≡ length (records_added (queries_body m) (take kept (records_of m))).octets = ap length k.written in
    record {
      kept = kept;
      known = omega (arith, k.known, counted_records m);
      written = same;
      read = ap spelled_message same ∙ octets_read m kept right made_queries made range;
      within = omega (arith, ap length same, octets_len m kept, body_len, k.within, e, le);
      most = λ more.
          let next = k.next (omega (arith, more, counted_records m)) in
          omega (arith, octets_len m (kept + 1), next, e, le);
    }

-- there is room for what is always written, or there is not
pub limit_small : (m : WireMessage) (limit around : ℕ) (body : List ℕ)
    → around ≡ 12 + length (opt_octets m.edns (response_code m.message.metadata.response_code))
    → body ≡ (queries_body m).octets → limit < around + length body → message_fault m ≡ None
    → wire_fault m limit ≡ Some LimitTooSmall
limit_small m limit around body e b small right =
    let less : limit < length (octets_of m 0) = omega (arith, octets_len m 0, e, ap length b, small) in
    or_next (message_fault m) (fault_if (ltb limit (length (octets_of m 0))) LimitTooSmall) (Some LimitTooSmall) right
    (rw (lt-ltb limit (length (octets_of m 0)) less) refl)

pub limit_fits : (m : WireMessage) (limit around : ℕ) (body : List ℕ)
    → around ≡ 12 + length (opt_octets m.edns (response_code m.message.metadata.response_code))
    → body ≡ (queries_body m).octets → around + length body ≤ limit → message_fault m ≡ None
    → wire_fault m limit ≡ None
limit_fits m limit around body e b fits right =
    let le : length (octets_of m 0) ≤ limit = omega (arith, octets_len m 0, e, ap length b, fits) in
    or_next (message_fault m) (fault_if (ltb limit (length (octets_of m 0))) LimitTooSmall) None right
    (rw (le-ltb limit (length (octets_of m 0)) le) refl)

-- ---- no other octets are written so

more_octets : (b : Body) (rs : List RecordValue) → length b.octets ≤ length (records_added b rs).octets
more_octets b [] = omega arith
more_octets b (r ∷ rs) =
    omega (arith, more_octets (record_added b r) rs, length-append b.octets (record_octets b.places r))

more_taken : (b : Body) (rs : List RecordValue) (i j : ℕ) → i ≤ j
    → length (records_added b (take i rs)).octets ≤ length (records_added b (take j rs)).octets
more_taken b rs zero j le = more_octets b (take j rs)
more_taken b [] (suc i) zero le = absurd (omega (arith, le))
more_taken b [] (suc i) (suc j) le = omega arith
more_taken b (r ∷ rs) (suc i) zero le = absurd (omega (arith, le))
more_taken b (r ∷ rs) (suc i) (suc j) le = more_taken (record_added b r) rs i j (omega (arith, le))

no_fewer : (m : WireMessage) (limit : ℕ) (a b : List ℕ) (x : IsWritten m limit a) (y : IsWritten m limit b)
    → x.kept < y.kept → ⊥
no_fewer m limit a b x y less =
    let past = x.most (omega (arith, less, y.known)) in
    let grown = more_taken (queries_body m) (records_of m) (x.kept + 1) y.kept (omega (arith, less)) in
    omega (arith, past, grown, octets_len m (x.kept + 1), octets_len m y.kept, ap length y.written, y.within)

pub only_octets : (m : WireMessage) (limit : ℕ) (a b : List ℕ) → IsWritten m limit a → IsWritten m limit b → a ≡ b
only_octets m limit a b x y =
    x.written ∙ ap (λ (k : ℕ). octets_of m k) (order (ltb x.kept y.kept) (ltb y.kept x.kept) refl refl) ∙ sym y.written
  where
    order : (s t : Bool) → ltb x.kept y.kept ≡ s → ltb y.kept x.kept ≡ t → x.kept ≡ y.kept
    order true t e f = absurd (no_fewer m limit a b x y (ltb-true x.kept y.kept e))
    order false true e f = absurd (no_fewer m limit b a y x (ltb-true y.kept x.kept f))
    order false false e f = omega (arith, ltb-false x.kept y.kept e, ltb-false y.kept x.kept f)
