-- How many of each network are counted, once one more waits, and once one waits no more.
use Rattle.std.proofs.Common.{◌≡◌, ◌∙◌, ◌==◌, ℕ, ◌+◌, ◌-◌, ◌<◌, Bool, true, false, List, [], ◌∷◌, refl, sym, ap, subst, arith}
use Rattle.std.specs.Prelude.{Option, None, Some, IsSome, nat_le, unwrap_or, if◌then◌else◌}
use Rattle.std.specs.BTreeMap.{insert_entry, is_at}
use Rattle.std.specs.Cmp.{Equal-is, eq_by_cmp_equiv}
use Rattle.std.specs.List.{AllByRecursion}
use Rattle.std.specs.List.Sorted.{IsStrictlySortedBy}
use Rattle.std.specs.Map.{keys_of, lookup, remove_entry, set_value}
use Rattle.std.specs.Option.{option_map_or}
use Rattle.std.specs.Ordering.{is_eq, match_ordering, nat_cmp, ordering_reverse}
use Rattle.std.specs.declared.cmp.Ordering.{Ordering}
use Rattle.std.specs.declared.cmp.Ordering.TheVariants.{Less, Equal, Greater}
use Rattle.std.proofs.lemmas.Bool.{eqb-false, eqb-true, leb-true}
use Rattle.std.proofs.lemmas.Cmp.{nat_cmp_total}
use Rattle.std.proofs.lemmas.Map.{lookup-remove_entry, lookup-set_value}
use Rattle.std.proofs.lemmas.Map.Keys.{IsDistinct-from_sorted}
use Rattle.std.proofs.lemmas.Map.Lookups.{exact_unsigned}
use Rattle.client_limits.specs.Counts.{count_at, lowered, one_less}

abbrev Counts : Type 0
Counts = List (ℕ × ℕ)

-- ---- networks in order

abbrev IsBelow : ℕ → Counts → Type 0
IsBelow x es = AllByRecursion (λ e. nat_cmp x e.0 ≡ Less) es

abbrev pub Ascends : Counts → Type 0
Ascends [] = Unit {0}
Ascends (e ∷ es) = IsBelow e.0 es × Ascends es

below-keys : (x : ℕ) (es : Counts) → IsBelow x es → AllByRecursion (λ y. nat_cmp x y ≡ Less) (keys_of es)
below-keys x [] all = tt
below-keys x (e ∷ es) all = (all.0, below-keys x es all.1)

sorted : (es : Counts) → Ascends es → IsStrictlySortedBy nat_cmp (keys_of es)
unfolding IsStrictlySortedBy
sorted [] up = tt
sorted (e ∷ es) up = (below-keys e.0 es up.0, sorted es up.1)

below-all : (x y : ℕ) (es : Counts) → nat_cmp x y ≡ Less → IsBelow y es → IsBelow x es
below-all x y [] h all = tt
below-all x y (e ∷ es) h all = (nat_cmp_total.trans x y e.0 h all.0, below-all x y es h all.1)

below-inserted : (x n v : ℕ) (es : Counts) → nat_cmp x n ≡ Less → IsBelow x es → IsBelow x (insert_entry nat_cmp es n v)
below-inserted x n v [] h all = (h, tt)
below-inserted x n v (e ∷ es) h all = by (nat_cmp n e.0) (below-inserted x n v es h all.1)
  where
    by : (o : Ordering) → IsBelow x (insert_entry nat_cmp es n v)
        → IsBelow x (match_ordering o ((n, v) ∷ e ∷ es) ((e.0, v) ∷ es) (e ∷ insert_entry nat_cmp es n v))
    by Less more = (h, all)
    by Equal more = (all.0, all.1)
    by Greater more = (all.0, more)

below-set : (test : ℕ → Bool) (x v : ℕ) (es : Counts) → IsBelow x es → IsBelow x (set_value test es v)
below-set test x v [] all = tt
below-set test x v (e ∷ es) all = by (test e.0) (below-set test x v es all.1)
  where
    by : (b : Bool) → IsBelow x (set_value test es v)
        → IsBelow x (if b then (e.0, v) ∷ es else e ∷ set_value test es v)
    by true more = all
    by false more = (all.0, more)

below-removed : (test : ℕ → Bool) (x : ℕ) (es : Counts) → IsBelow x es → IsBelow x (remove_entry test es)
below-removed test x [] all = tt
below-removed test x (e ∷ es) all = by (test e.0) (below-removed test x es all.1)
  where
    by : (b : Bool) → IsBelow x (remove_entry test es) → IsBelow x (if b then es else e ∷ remove_entry test es)
    by true more = all.1
    by false more = (all.0, more)

pub ascends-inserted : (n v : ℕ) (es : Counts) → Ascends es → Ascends (insert_entry nat_cmp es n v)
ascends-inserted n v [] up = (tt, tt)
ascends-inserted n v (e ∷ es) up = by (nat_cmp n e.0) refl (ascends-inserted n v es up.1)
  where
    by : (o : Ordering) → nat_cmp n e.0 ≡ o → Ascends (insert_entry nat_cmp es n v)
        → Ascends (match_ordering o ((n, v) ∷ e ∷ es) ((e.0, v) ∷ es) (e ∷ insert_entry nat_cmp es n v))
    by Less h more = ((h, below-all n e.0 es h up.0), up)
    by Equal h more = up
    by Greater h more =
        (below-inserted e.0 n v es (nat_cmp_total.antisymm e.0 n ∙ ap ordering_reverse h) up.0, more)

ascends-set : (test : ℕ → Bool) (v : ℕ) (es : Counts) → Ascends es → Ascends (set_value test es v)
ascends-set test v [] up = tt
ascends-set test v (e ∷ es) up = by (test e.0) (ascends-set test v es up.1)
  where
    by : (b : Bool) → Ascends (set_value test es v) → Ascends (if b then (e.0, v) ∷ es else e ∷ set_value test es v)
    by true more = up
    by false more = (below-set test e.0 v es up.0, more)

ascends-removed : (test : ℕ → Bool) (es : Counts) → Ascends es → Ascends (remove_entry test es)
ascends-removed test [] up = tt
ascends-removed test (e ∷ es) up = by (test e.0) (ascends-removed test es up.1)
  where
    by : (b : Bool) → Ascends (remove_entry test es) → Ascends (if b then es else e ∷ remove_entry test es)
    by true more = up.1
    by false more = (below-removed test e.0 es up.0, more)

-- ---- how many are counted

abbrev at : ℕ → Counts → Option ℕ
at m es = lookup (is_at (nat_cmp m)) es

-- numbers that compare as equal are the same
abbrev pub is : ℕ → ℕ → Bool
is m n = is_eq (nat_cmp m n)

laws : (m n : ℕ) → is m n ≡ is n m
laws m n = (eq_by_cmp_equiv nat_cmp_total).symm m n

at-inserted : (m n v : ℕ) (es : Counts)
    → at m (insert_entry nat_cmp es n v) ≡ (if is m n then Some v else at m es)
at-inserted m n v [] = refl
at-inserted m n v (e ∷ es) = by (nat_cmp n e.0) refl (at-inserted m n v es)
  where
    swap : (b own : Bool) (x : Option ℕ) → (own ≡ true → b ≡ false)
        → (if own then Some e.1 else (if b then Some v else x)) ≡ (if b then Some v else (if own then Some e.1 else x))
    swap true true x apart = let clash = apart refl in absurd cc
    swap false true x apart = refl
    swap true false x apart = refl
    swap false false x apart = refl

    twice : (b : Bool)
        → (if b then Some v else at m es) ≡ (if b then Some v else (if b then Some e.1 else at m es))
    twice true = refl
    twice false = refl

    other : nat_cmp n e.0 ≡ Greater → is m e.0 ≡ true → is m n ≡ false
    other h same =
        (eq_by_cmp_equiv nat_cmp_total).congr m e.0 n same
        ∙ laws e.0 n ∙ ap is_eq h

    by : (o : Ordering) → nat_cmp n e.0 ≡ o
        → at m (insert_entry nat_cmp es n v) ≡ (if is m n then Some v else at m es)
        → at m (match_ordering o ((n, v) ∷ e ∷ es) ((e.0, v) ∷ es) (e ∷ insert_entry nat_cmp es n v))
        ≡ (if is m n then Some v else at m (e ∷ es))
    by Less h more = refl
    by Equal h more =
        let alike : is m n ≡ is m e.0 = ap (is m) (exact_unsigned n e.0 h) in
        twice (is m e.0)
        ∙ ap (λ (b : Bool). if b then Some v else at m (e ∷ es)) (sym alike)
    by Greater h more =
        ap (λ (x : Option ℕ). if is m e.0 then Some e.1 else x) more ∙ swap (is m n) (is m e.0) (at m es) (other h)

same-number : (m n : ℕ) → is m n ≡ true → m ≡ n
same-number m n h = exact_unsigned m n ((Equal-is (nat_cmp m n)).0 h)

of-one : (n x y : ℕ) → is n x ≡ true → is n y ≡ is x y
of-one n x y same = (eq_by_cmp_equiv nat_cmp_total).congr n x y same

at-removed : (m n : ℕ) (es : Counts) → Ascends es
    → at m (remove_entry (is_at (nat_cmp n)) es) ≡ (if is n m then None else at m es)
at-removed m n es up =
    lookup-remove_entry (eq_by_cmp_equiv nat_cmp_total) (is_at (nat_cmp n)) (of-one n) m es
    (IsDistinct-from_sorted nat_cmp (keys_of es) (sorted es up))

at-set : (m n v : ℕ) (es : Counts) → IsSome (at n es)
    → at m (set_value (is_at (nat_cmp n)) es v) ≡ (if is n m then Some v else at m es)
at-set m n v es there =
    lookup-set_value (eq_by_cmp_equiv nat_cmp_total) (is_at (nat_cmp n)) (of-one n) m v es there

-- one more of a network
pub count-added : (m n : ℕ) (es : Counts)
    → count_at m (insert_entry nat_cmp es n (count_at n es + 1)) ≡ count_at m es + (if is m n then 1 else 0)
count-added m n es =
    ap (λ (x : Option ℕ). unwrap_or x 0) (at-inserted m n (count_at n es + 1) es) ∙ by (is m n) refl
  where
    by : (b : Bool) → is m n ≡ b
        → unwrap_or (if b then Some (count_at n es + 1) else at m es) 0 ≡ count_at m es + (if b then 1 else 0)
    by true same = ap (λ (k : ℕ). count_at k es + 1) (sym (same-number m n same))
    by false apart = omega arith

-- one less
pub count-less : (m n count : ℕ) (es : Counts) → Ascends es → count_at n es ≡ count → 0 < count
    → count_at m (one_less n count es) + (if is m n then 1 else 0) ≡ count_at m es
count-less m n count es up held some = by (nat_le count 1) refl
  where
    gone : count ≡ 1 → (b : Bool) → is m n ≡ b
        → unwrap_or (if b then None else at m es) 0 + (if b then 1 else 0) ≡ count_at m es
    gone one true same =
        sym (ap (λ (k : ℕ). count_at k es) (same-number m n same) ∙ held ∙ one)
    gone one false apart = omega arith

    lower : (k : ℕ) → at n es ≡ Some k → (b : Bool) → is m n ≡ b
        → unwrap_or (if b then Some (k - 1) else at m es) 0 + (if b then 1 else 0) ≡ count_at m es
    lower k found true same =
        let own : count_at n es ≡ k = ap (λ (o : Option ℕ). unwrap_or o 0) found in
        let whole : k - 1 + 1 ≡ k = omega (arith, own, held, some) in
        whole ∙ sym (ap (λ (j : ℕ). count_at j es) (same-number m n same) ∙ own)
    lower k found false apart = omega arith

    by-held : (o : Option ℕ) → at n es ≡ o
        → count_at m (option_map_or (λ k. set_value (is_at (nat_cmp n)) es (k - 1)) o es) + (if is m n then 1 else 0)
        ≡ count_at m es
    by-held None found =
        let none : count_at n es ≡ 0 = ap (λ (o : Option ℕ). unwrap_or o 0) found in
        absurd (omega (arith, none, held, some))
    by-held (Some k) found =
        ap (λ (o : Option ℕ). unwrap_or o 0 + (if is m n then 1 else 0))
        (at-set m n (k - 1) es (subst (λ (o : Option ℕ). IsSome o) (sym found) refl)
        ∙ ap (λ (b : Bool). if b then Some (k - 1) else at m es) (laws n m))
        ∙ lower k found (is m n) refl

    by : (b : Bool) → nat_le count 1 ≡ b
        → count_at m (if b then remove_entry (is_at (nat_cmp n)) es else lowered n es) + (if is m n then 1 else 0)
        ≡ count_at m es
    by true last =
        let one : count ≡ 1 = omega (arith, leb-true count 1 last, some) in
        ap (λ (o : Option ℕ). unwrap_or o 0 + (if is m n then 1 else 0))
        (at-removed m n es up ∙ ap (λ (b : Bool). if b then None else at m es) (laws n m))
        ∙ gone one (is m n) refl
    by false others = by-held (at n es) refl

pub ascends-less : (n count : ℕ) (es : Counts) → Ascends es → Ascends (one_less n count es)
ascends-less n count es up = by (nat_le count 1)
  where
    lower : (o : Option ℕ) → Ascends (option_map_or (λ k. set_value (is_at (nat_cmp n)) es (k - 1)) o es)
    lower None = up
    lower (Some k) = ascends-set (is_at (nat_cmp n)) (k - 1) es up

    by : (b : Bool) → Ascends (if b then remove_entry (is_at (nat_cmp n)) es else lowered n es)
    by true = ascends-removed (is_at (nat_cmp n)) es up
    by false = lower (at n es)

pub is-own : (n : ℕ) → is n n ≡ true
is-own n = (eq_by_cmp_equiv nat_cmp_total).refl n

-- numbers that are equal as tests go
pub is-same : (m n : ℕ) → is m n ≡ (n == m)
is-same m n = by (n == m) refl (is m n) refl
  where
    by : (b : Bool) → (n == m) ≡ b → (own : Bool) → is m n ≡ own → own ≡ b
    by true e true same = refl
    by false e false same = refl
    by true e false same =
        let own : is m n ≡ true =
        ap (is m) (eqb-true n m e) ∙ (eq_by_cmp_equiv nat_cmp_total).refl m in
        sym same ∙ own
    by false e true same = absurd (eqb-false n m e (sym (same-number m n same)))
