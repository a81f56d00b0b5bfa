-- Denials by the questions that stand for them.
use Rattle.std.proofs.Common.{◌≡◌, ◌+◌, ◌-◌, ◌≤◌, ◌<◌, ℕ, zero, suc, Bool, true, false, ◌&&◌, ◌||◌, ◌==◌, drop, length, nat_eq, nat_le, nat_lt, List, [], ◌∷◌, ◌++◌, refl, ap, sym, ◌∙◌, inl, inr, arith, length-drop}
use Rattle.std.specs.List.{list_any}
use Rattle.std.specs.Cmp.{nat_eq_equiv}
use Rattle.std.specs.Cmp.Lexicographic.{pointwise}
use Rattle.std.proofs.lemmas.List.{drop-map, length-map}
use Rattle.std.proofs.lemmas.Bool.{and_from, and_parts, cond-false, le-ltb, or_cases, or_left, or_right, cases_eq}
use Rattle.hickory_proto_core.specs.Codes.{class_code, type_code}
use Rattle.hickory_proto_core.specs.Name.{NameValue, is_zone_of, lower_label, lower_labels, name_eq, trimmed_name}
use Rattle.hickory_proto_core.specs.NameLaws.{label_lists_Decides, name_equiv}
use Rattle.hickory_proto_core.specs.Query.{query_eq}
use Rattle.hickory_proto_core.specs.codes.dns_class.DNSClass.{DNSClass}
use Rattle.hickory_proto_core.specs.codes.record_type.RecordType.{RecordType}
use Rattle.hickory_proto_core.specs.declared.query.Query.{Query}
use Rattle.trace_judge.specs.Denials.{covers_denied, covers_until, denial_deadline}
use Rattle.trace_judge.specs.Index.{DeniedValue, NotesDenial, NotesDenied, denied_at, is_since, latest_at, type_key, whole_below, whole_key}
use Rattle.trace_judge.specs.Judging.{DeniesAs, is_type_denial, is_whole_denial}
use Rattle.trace_judge.specs.declared.denials.Denial.{Denial}
use Rattle.trace_judge.specs.declared.denials.Denied.{Denied}
use Rattle.trace_judge.specs.declared.denials.Denied.TheVariants.{WholeName, OneType}
use Rattle.trace_judge.proofs.Moments.{since_latest}
use Rattle.trace_judge.proofs.Tests.{any-or, any-push, any_same, same_tests}

or_none : (x : Bool) → x ≡ (x || false)
or_none true = refl
or_none false = refl

push_by : (before : ℕ) (was is : DeniedValue) (ds : List Denial) (new : Denial) (denied : Denied) → new.denied ≡ denied
    → NotesDenied new denied was is → DeniesAs before was ds → DeniesAs before is (ds ++ new ∷ [])
push_by before was is ds new WholeName e notes held = record {
  types_are = λ key until k.
      ap (λ m. is_since until (latest_at m key)) notes.1 ∙ held.types_are key until k
      ∙ or_none (list_any (λ d. is_type_denial key until d d.denied) ds)
      ∙ ap (λ b. list_any (λ d. is_type_denial key until d d.denied) ds || b) (sym (ap (is_type_denial key until new) e))
      ∙ sym (any-push (λ d. is_type_denial key until d d.denied) ds new);
  names_are = λ key until k.
      notes.0 key until
      ∙ ap (λ b. b || (query_eq key (whole_key new.dns_class new.name) && nat_le until (denial_deadline new))) (held.names_are key until k)
      ∙ ap (λ b. list_any (λ d. is_whole_denial key until d d.denied) ds || b) (sym (ap (is_whole_denial key until new) e))
      ∙ sym (any-push (λ d. is_whole_denial key until d d.denied) ds new);
}
push_by before was is ds new (OneType t) e notes held = record {
  types_are = λ key until k.
      notes.0 key until
      ∙ ap (λ b. b || (query_eq key (type_key new.dns_class new.name t) && nat_le until (denial_deadline new))) (held.types_are key until k)
      ∙ ap (λ b. list_any (λ d. is_type_denial key until d d.denied) ds || b) (sym (ap (is_type_denial key until new) e))
      ∙ sym (any-push (λ d. is_type_denial key until d d.denied) ds new);
  names_are = λ key until k.
      ap (λ m. is_since until (latest_at m key)) notes.1 ∙ held.names_are key until k
      ∙ or_none (list_any (λ d. is_whole_denial key until d d.denied) ds)
      ∙ ap (λ b. list_any (λ d. is_whole_denial key until d d.denied) ds || b) (sym (ap (is_whole_denial key until new) e))
      ∙ sym (any-push (λ d. is_whole_denial key until d d.denied) ds new);
}

-- a denial was put in
pub denies-push : (before : ℕ) (was is : DeniedValue) (ds : List Denial) (new : Denial) → NotesDenial new was is
    → DeniesAs before was ds → DeniesAs before is (ds ++ new ∷ [])
denies-push before was is ds new notes held = push_by before was is ds new new.denied refl notes held

-- ---- names that are denied whole

-- one of the names of fewer labels than this is denied whole
ends_denied : DNSClass → NameValue → ℕ → ℕ → Denial → Denied → Bool
ends_denied class name until zero d denied = false
ends_denied class name until (suc k) d denied =
    is_whole_denial (whole_key class (trimmed_name k name)) until d denied || ends_denied class name until k d denied

below_any : (before : ℕ) (index : DeniedValue) (ds : List Denial) → DeniesAs before index ds
    → (class : DNSClass) (name : NameValue) (until : ℕ) → before ≤ until → (n : ℕ)
    → is_since until (whole_below index.names class name n) ≡ list_any (λ d. ends_denied class name until n d d.denied) ds
unfolding ends_denied
below_any before index ds held class name until k zero = none ds where
  none : (ds : List Denial) → false ≡ list_any (λ d. false) ds
  none [] = refl
  none (d ∷ ds) = none ds
below_any before index ds held class name until k (suc n) =
    let key = whole_key class (trimmed_name n name) in
    since_latest until (latest_at index.names key) (whole_below index.names class name n)
    ∙ ap (λ b. b || is_since until (whole_below index.names class name n)) (held.names_are key until k)
    ∙ ap (λ b. list_any (λ d. is_whole_denial key until d d.denied) ds || b) (below_any before index ds held class name until k n)
    ∙ sym (any-or (λ d. is_whole_denial key until d d.denied) (λ d. ends_denied class name until n d d.denied) ds)

-- ---- the labels of a name

trim-labels : (k : ℕ) (name : NameValue) → k ≤ length name.labels
    → lower_labels (trimmed_name k name).labels ≡ drop (length name.labels - k) (lower_labels name.labels)
trim-labels k name below =
    ap (λ (n : NameValue). lower_labels n.labels) (cond-false (nat_lt (length name.labels) k) name
    (record { labels = drop (length name.labels - k) name.labels; fqdn = true }) (le-ltb (length name.labels) k below))
    ∙ sym (drop-map lower_label (length name.labels - k) name.labels)

zone_at : (zone name : NameValue) (k : ℕ) → k ≤ length name.labels
    → pointwise (pointwise nat_eq) (lower_labels (trimmed_name k name).labels) (lower_labels zone.labels) ≡ true
    → is_zone_of zone name ≡ true
zone_at zone name k below h =
    let ns = lower_labels name.labels in let zs = lower_labels zone.labels in
    let same : drop (length name.labels - k) ns ≡ zs
    = sym (trim-labels k name below) ∙ (label_lists_Decides (lower_labels (trimmed_name k name).labels) zs).0 h in
    let long : length ns ≡ length name.labels = length-map name.labels lower_label in
    let count : length ns - (length name.labels - k) ≡ length zs = sym (length-drop (length name.labels - k) ns) ∙ ap length same in
    let skips : length ns - length zs ≡ length name.labels - k = omega arith in
    (label_lists_Decides zs (drop (length ns - length zs) ns)).1 (sym same ∙ ap (λ n. drop n ns) (sym skips))

zone_by : (zone name : NameValue) → is_zone_of zone name ≡ true
    → (length zone.labels ≤ length name.labels)
    × (pointwise (pointwise nat_eq) (lower_labels (trimmed_name (length zone.labels) name).labels) (lower_labels zone.labels) ≡ true)
zone_by zone name h =
    let ns = lower_labels name.labels in let zs = lower_labels zone.labels in
    let same : zs ≡ drop (length ns - length zs) ns = (label_lists_Decides zs (drop (length ns - length zs) ns)).0 h in
    let long : length ns ≡ length name.labels = length-map name.labels lower_label in
    let short : length zs ≡ length zone.labels = length-map zone.labels lower_label in
    let count : length zs ≡ length ns - (length ns - length zs) = ap length same ∙ length-drop (length ns - length zs) ns in
    let below : length zone.labels ≤ length name.labels = omega arith in
    let skips : length name.labels - length zone.labels ≡ length ns - length zs = omega arith in (
      below,
      (label_lists_Decides (lower_labels (trimmed_name (length zone.labels) name).labels) zs).1
          (trim-labels (length zone.labels) name below ∙ ap (λ n. drop n ns) skips ∙ sym same),
    )

-- ---- what covers a name

module _ (class : DNSClass) (name : NameValue) (until : ℕ) where
  abbrev key_at : ℕ → Query
  key_at k = whole_key class (trimmed_name k name)

  -- some name of fewer labels stands for this one
  ends_for : ℕ → Denial → Bool
  ends_for zero d = false
  ends_for (suc k) d = (query_eq (key_at k) (whole_key d.dns_class d.name) && nat_le until (denial_deadline d)) || ends_for k d

  ends_whole : (n : ℕ) (d : Denial) → ends_denied class name until n d WholeName ≡ ends_for n d
  unfolding ends_denied ends_for
  ends_whole zero d = refl
  ends_whole (suc k) d =
      ap (λ b. (query_eq (key_at k) (whole_key d.dns_class d.name) && nat_le until (denial_deadline d)) || b) (ends_whole k d)

  ends_type : (n : ℕ) (d : Denial) (t : RecordType) → ends_denied class name until n d (OneType t) ≡ false
  unfolding ends_denied
  ends_type zero d t = refl
  ends_type (suc k) d t = ends_type k d t

  -- one that stands for it, and where
  ends_where : (n : ℕ) (d : Denial) → ends_for n d ≡ true
      → (k : ℕ) × (k < n) × (query_eq (key_at k) (whole_key d.dns_class d.name) ≡ true) × (nat_le until (denial_deadline d) ≡ true)
  unfolding ends_for
  ends_where zero d h = absurd (let no : false ≡ true = h in cc)
  ends_where (suc k) d h =
      let test = query_eq (key_at k) (whole_key d.dns_class d.name) in let late = nat_le until (denial_deadline d) in
      elim (or_cases (test && late) (ends_for k d) h) [
        | inl e ↦ (let p = and_parts test late e in (k, omega arith, p.0, p.1))
        | inr e ↦ (let r = ends_where k d e in (r.0, omega (arith, r.1), r.2, r.3))
      ]

  ends_at : (n k : ℕ) (d : Denial) → k < n → query_eq (key_at k) (whole_key d.dns_class d.name) ≡ true
      → nat_le until (denial_deadline d) ≡ true → ends_for n d ≡ true
  unfolding ends_for
  ends_at zero k d below same late = absurd (omega arith)
  ends_at (suc n) k d below same late =
      let test = λ (j : ℕ). query_eq (key_at j) (whole_key d.dns_class d.name) && nat_le until (denial_deadline d) in
      elim (cases_eq k n) [
        | inl e ↦ or_left (test n) (ends_for n d)
            (and_from (query_eq (key_at n) (whole_key d.dns_class d.name)) (nat_le until (denial_deadline d))
            (ap (λ j. query_eq (key_at j) (whole_key d.dns_class d.name)) (sym e) ∙ same) late)
        | inr e ↦ or_right (test n) (ends_for n d) (ends_at n k d (omega (arith, e)) same late)
      ]

  -- a name that is denied whole covers what it ends
  covers_whole : (d : Denial) → ends_for (length name.labels + 1) d
      ≡ ((class_code d.dns_class == class_code class) && is_zone_of d.name name && nat_le until (denial_deadline d))
  covers_whole d =
      let one = class_code d.dns_class == class_code class in
      let zone = is_zone_of d.name name in let late = nat_le until (denial_deadline d) in
      same_tests (ends_for (length name.labels + 1) d) (one && zone && late)
      (λ h. let r = ends_where (length name.labels + 1) d h in
      let outer = and_parts (name_eq (key_at r.0).name (whole_key d.dns_class d.name).name && true) (class_code class == class_code d.dns_class) r.2 in
      let names = (and_parts (name_eq (key_at r.0).name (whole_key d.dns_class d.name).name) true outer.0).0 in
      let labels = (and_parts true (pointwise (pointwise nat_eq) (lower_labels (trimmed_name r.0 name).labels) (lower_labels d.name.labels)) names).1 in
      and_from (one && zone) late (and_from one zone (nat_eq_equiv.symm (class_code d.dns_class) (class_code class) ∙ outer.1)
      (zone_at d.name name r.0 (omega (arith, r.1)) labels)) r.3)
      (λ h. let outer = and_parts (one && zone) late h in let inner = and_parts one zone outer.0 in
      let z = zone_by d.name name inner.1 in
      ends_at (length name.labels + 1) (length d.name.labels) d (omega (arith, z.0))
      (and_from (name_eq (key_at (length d.name.labels)).name (whole_key d.dns_class d.name).name && true) (class_code class == class_code d.dns_class)
      (and_from (name_eq (key_at (length d.name.labels)).name (whole_key d.dns_class d.name).name) true
      (and_from true (pointwise (pointwise nat_eq) (lower_labels (trimmed_name (length d.name.labels) name).labels) (lower_labels d.name.labels)) refl z.1) refl)
      (nat_eq_equiv.symm (class_code class) (class_code d.dns_class) ∙ inner.0)) outer.1)

-- ---- all denials

-- a denial of the name, or of one that it is below
whole_covers : (class : DNSClass) (name : NameValue) (until : ℕ) (d : Denial) (denied : Denied) → d.denied ≡ denied
    → ends_denied class name until (length name.labels + 1) d denied ≡ covers_until class name WholeName until d
whole_covers class name until d WholeName e =
    ends_whole class name until (length name.labels + 1) d ∙ covers_whole class name until d
    ∙ sym (ap (λ x. ((class_code d.dns_class == class_code class) && covers_denied d.name x name WholeName) && nat_le until (denial_deadline d)) e)
whole_covers class name until d (OneType t) e =
    ends_type class name until (length name.labels + 1) d t
    ∙ sym (ap (λ x. ((class_code d.dns_class == class_code class) && covers_denied d.name x name WholeName) && nat_le until (denial_deadline d)) e
    ∙ never (class_code d.dns_class == class_code class) (nat_le until (denial_deadline d))) where
      never : (a b : Bool) → ((a && false) && b) ≡ false
      never true b = refl
      never false b = refl

-- a denial of a type of the name, or of the name
type_covers : (class : DNSClass) (name : NameValue) (t : RecordType) (until : ℕ) (d : Denial) (denied : Denied) → d.denied ≡ denied
    → (is_type_denial (type_key class name t) until d denied || ends_denied class name until (length name.labels + 1) d denied)
    ≡ covers_until class name (OneType t) until d
type_covers class name t until d WholeName e =
    ends_whole class name until (length name.labels + 1) d ∙ covers_whole class name until d
    ∙ sym (ap (λ x. ((class_code d.dns_class == class_code class) && covers_denied d.name x name (OneType t)) && nat_le until (denial_deadline d)) e)
type_covers class name t until d (OneType u) e =
    ap (λ b. is_type_denial (type_key class name t) until d (OneType u) || b) (ends_type class name until (length name.labels + 1) d u)
    ∙ sym (or_none (is_type_denial (type_key class name t) until d (OneType u)))
    ∙ turned (name_eq name d.name) (type_code t == type_code u) (class_code class == class_code d.dns_class) (nat_le until (denial_deadline d))
    (name_eq d.name name) (type_code t == type_code u) (class_code d.dns_class == class_code class)
    (name_equiv.symm name d.name) refl (nat_eq_equiv.symm (class_code class) (class_code d.dns_class))
    ∙ sym (ap (λ x. ((class_code d.dns_class == class_code class) && covers_denied d.name x name (OneType t)) && nat_le until (denial_deadline d)) e) where
      turned : (n t c l m u d : Bool) → n ≡ m → t ≡ u → c ≡ d → (((n && t) && c) && l) ≡ ((d && (u && m)) && l)
      turned n t c l m u d p q r = ap (λ b. b && l) (swapped n t c ∙ (λ k. r k && (q k && p k))) where
        swapped : (n t c : Bool) → ((n && t) && c) ≡ (c && (t && n))
        swapped true true true = refl
        swapped true true false = refl
        swapped true false true = refl
        swapped true false false = refl
        swapped false true true = refl
        swapped false true false = refl
        swapped false false true = refl
        swapped false false false = refl

-- the index says what denials do
pub denied-alike : (before : ℕ) (index : DeniedValue) (ds : List Denial) → DeniesAs before index ds
    → (class : DNSClass) (name : NameValue) (denied : Denied) (until : ℕ) → before ≤ until
    → is_since until (denied_at index class name denied) ≡ list_any (covers_until class name denied until) ds
denied-alike before index ds held class name WholeName until k =
    below_any before index ds held class name until k (length name.labels + 1)
    ∙ any_same (λ d. ends_denied class name until (length name.labels + 1) d d.denied) (covers_until class name WholeName until) ds
    (λ d. whole_covers class name until d d.denied refl)
denied-alike before index ds held class name (OneType t) until k =
    let key = type_key class name t in
    since_latest until (latest_at index.types key) (whole_below index.names class name (length name.labels + 1))
    ∙ ap (λ b. b || is_since until (whole_below index.names class name (length name.labels + 1))) (held.types_are key until k)
    ∙ ap (λ b. list_any (λ d. is_type_denial key until d d.denied) ds || b)
    (below_any before index ds held class name until k (length name.labels + 1))
    ∙ sym (any-or (λ d. is_type_denial key until d d.denied) (λ d. ends_denied class name until (length name.labels + 1) d d.denied) ds)
    ∙ any_same (λ d. is_type_denial key until d d.denied || ends_denied class name until (length name.labels + 1) d d.denied)
    (covers_until class name (OneType t) until) ds (λ d. type_covers class name t until d d.denied refl)
