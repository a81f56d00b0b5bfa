-- Pairs that stand in another order or have other numbers, and the list of entries that stays the same.
use Rattle.std.proofs.Common.{◌≡◌, ℕ, ◌+◌, ◌<◌, ◌≤◌, suc, zero, false, cond, nat_eq, List, [], ◌∷◌, ◌++◌, map, length, Option, None, Some, refl, sym, ap, ap₂, ◌∙◌, subst, arith, append-nil, append_assoc, length-append, length-drop, take, drop, slice_get, ◌⊎◌, inl, inr}
use Rattle.std.proofs.lemmas.Bool.{eq-eqb, ne_eqb, cases_lt, cases_eq, false≢true}
use Rattle.std.proofs.lemmas.List.{drop_all, length-take-le, take_all, take_more}
use Rattle.std.proofs.lemmas.List.Elements.{All-cons, All-head, All-nil, All-tail}
use Rattle.std.proofs.lemmas.List.Sorted.{All-permutation, IsNonDecreasingBy-drop, IsNonDecreasingBy-from_sort, IsPermutation-map, length_permutation}
use Rattle.std.proofs.lemmas.Option.{get_or_from_slice_get, same_Some, slice_get_within}
use Rattle.std.proofs.lemmas.Map.Keys.{IsDistinct-head, IsDistinct-tail}
use Rattle.std.specs.Cmp.{nat_eq_equiv}
use Rattle.std.specs.List.{All, AllByRecursion, IsDistinct}
use Rattle.std.specs.List.Sorted.{IsNonDecreasingBy, IsPermutation, IsSortedByKey}
use Rattle.std.specs.Prelude.{Result, Ok, Err, OnErr}
use Rattle.std.specs.BTreeMap.{get, is_at}
use Rattle.std.specs.Map.{keys_of, values_of}
use Rattle.std.specs.Option.{option_to_list}
use Rattle.std.specs.Ordering.{nat_cmp}
use Rattle.indexmap.proofs.MapLemmas.{distinct_permutation, lookup_permutation}
use Rattle.indexmap.specs.Layout.{set_value_at}
use Rattle.hickory_resolver_cache.specs.Turns.{HasItsWeight, Pair, Order, Turn, turn_cmp, by_number, numbered, listed, in_order, stored_entry, query_at, with_number, renumbered, IsNumbered, IsPlaced, IsKept, IsOrderOf, IsSameList, IsSound}
use Rattle.hickory_resolver_cache.specs.declared.kept.Kept.{Kept}
use Rattle.hickory_proto_core.specs.declared.query.Query.{Query}
use Rattle.hickory_resolver_model.specs.Bounds.{ConfigValue}
use Rattle.hickory_resolver_model.specs.Cache.{OutlivesNoAnswer}
use Rattle.hickory_resolver_cache.proofs.Laws.{AreApart}
use Rattle.hickory_resolver_cache.proofs.Listed.{listed-same}
use Rattle.hickory_resolver_cache.proofs.Store.{kept-empty}
use Rattle.hickory_resolver_cache.proofs.TurnOrder.{numbers-push, placed-push}

-- ---- another order
pub numbered-permuted : (ps rs : List Pair) → IsDistinct nat_eq (keys_of (by_number ps)) → IsPermutation ps rs → IsDistinct nat_eq (keys_of (by_number rs)) × ((n : ℕ) → numbered rs n ≡ numbered ps n)
numbered-permuted ps rs distinct moves = (apart, λ n. lookup_permutation nat_eq_equiv (by_number ps) (by_number rs) tagged apart (nat_eq n) (nat_eq_equiv.congr n))
  where
    tagged : IsPermutation (by_number ps) (by_number rs)
    tagged = IsPermutation-map (λ (p : Pair). (p.1.number, p)) ps rs moves

    apart : IsDistinct nat_eq (keys_of (by_number rs))
    apart = distinct_permutation nat_eq_equiv (keys_of (by_number ps)) (keys_of (by_number rs)) (IsPermutation-map (λ e. e.0) (by_number ps) (by_number rs) tagged) distinct

pub same_list-permuted : (next : ℕ) (ps rs : List Pair) (order : Order) → IsNumbered next ps → IsPlaced ps order → IsPermutation ps rs → IsSameList ps next rs next order
same_list-permuted next ps rs order h placed moves = record {
  length_is = length_permutation ps rs moves;
  numbers = record { apart = apart; below = λ n l. same n ∙ h.below n l };
  placed = λ t. placed t ∙ ap (query_at t.0) (sym (same t.1));
  entries_are = ap (map stored_entry) (listed-same (numbered rs) (numbered ps) next (λ n l. same n));
  weights_are = λ each. All-permutation HasItsWeight ps rs moves each;
}
  where
    apart : IsDistinct nat_eq (keys_of (by_number rs))
    apart = (numbered-permuted ps rs h.apart moves).0

    same : (n : ℕ) → numbered rs n ≡ numbered ps n
    same = (numbered-permuted ps rs h.apart moves).1

pub same_list-refl : (next : ℕ) (ps : List Pair) (order : Order) → IsNumbered next ps → IsPlaced ps order → IsSameList ps next ps next order
same_list-refl next ps order h placed = record {
  length_is = refl;
  numbers = h;
  placed = placed;
  entries_are = refl;
  weights_are = λ each. each;
}

pub same_list-trans : (ps rs qs : List Pair) (next mid after : ℕ) (old new : Order) → IsSameList ps next rs mid old → IsSameList rs mid qs after new → IsSameList ps next qs after new
same_list-trans ps rs qs next mid after old new a b = record {
  length_is = b.length_is ∙ a.length_is;
  numbers = b.numbers;
  placed = b.placed;
  entries_are = b.entries_are ∙ a.entries_are;
  weights_are = λ each. b.weights_are (a.weights_are each);
}

-- ---- the list in order, from its front
abbrev listed_from : (ℕ → Option Pair) → ℕ → ℕ → List Pair
listed_from f k zero = []
listed_from f k (suc c) = option_to_list (f k) ++ listed_from f (suc k) c

listed-split : (f : ℕ → Option Pair) (k c : ℕ) → listed f (c + k) ≡ listed f k ++ listed_from f k c
listed-split f k zero = ap (listed f) (let e : 0 + k ≡ k = omega arith in e) ∙ sym (append-nil (listed f k))
listed-split f k (suc c) =
    ap (listed f) (let e : suc c + k ≡ c + suc k = omega arith in e) ∙ listed-split f (suc k) c
    ∙ append_assoc (listed f k) (option_to_list (f k)) (listed_from f (suc k) c)

listed_from-same : (f g : ℕ → Option Pair) (k c : ℕ) → ((n : ℕ) → k ≤ n → f n ≡ g n) → listed_from f k c ≡ listed_from g k c
listed_from-same f g k zero h = refl
listed_from-same f g k (suc c) h = ap₂ (λ o l. option_to_list o ++ l) (h k (omega arith)) (listed_from-same f g (suc k) c (λ n l. h n (omega arith)))

-- the numbers ascend, from n on at the least
abbrev pub Ascends : ℕ → List Pair → Type 0
Ascends n [] = Unit {0}
Ascends n (p ∷ ps) = (n ≤ p.1.number) × Ascends (suc p.1.number) ps

ascends-less : (m n : ℕ) (ps : List Pair) → m ≤ n → Ascends n ps → Ascends m ps
ascends-less m n [] l h = tt
ascends-less m n (p ∷ ps) l h = (let k = h.0 in omega arith, h.1)

ascends-none : (n k : ℕ) (ps : List Pair) → Ascends n ps → k < n → numbered ps k ≡ None
ascends-none n k [] h l = refl
ascends-none n k (p ∷ ps) h l =
    let above = h.0 in
    ap (λ b. cond b (Some p) (numbered ps k)) (ne_eqb k p.1.number (λ e. omega (arith, above, l, e))) ∙ ascends-none (suc p.1.number) k ps h.1 (omega (arith, above, l))

ascends-listed : (k c : ℕ) (ps : List Pair) → Ascends k ps → ((n : ℕ) → c + k ≤ n → numbered ps n ≡ None) → listed_from (numbered ps) k c ≡ ps
ascends-listed k zero [] h below = refl
ascends-listed k zero (p ∷ ps) h below =
    let above = h.0 in
    let own : Some p ≡ None = sym (ap (λ b. cond b (Some p) (numbered ps p.1.number)) (eq-eqb p.1.number p.1.number refl)) ∙ below p.1.number (omega (arith, above)) in
    cc
ascends-listed k (suc c) [] h below = ascends-listed (suc k) c [] tt (λ n l. refl)
ascends-listed k (suc c) (p ∷ ps) h below = by (cases_eq k p.1.number) (λ a. ascends-listed (suc k) c (p ∷ ps) a (λ n l. below n (omega arith))) (λ a b. ascends-listed (suc k) c ps a b)
  where
    later : (n : ℕ) → suc k ≤ n → k ≡ p.1.number → numbered (p ∷ ps) n ≡ numbered ps n
    later n l e = ap (λ b. cond b (Some p) (numbered ps n)) (ne_eqb n p.1.number (λ s. omega arith))

    by : (k ≡ p.1.number) ⊎ (k ≡ p.1.number → ⊥) → (Ascends (suc k) (p ∷ ps) → listed_from (numbered (p ∷ ps)) (suc k) c ≡ p ∷ ps)
        → (Ascends (suc k) ps → ((n : ℕ) → c + suc k ≤ n → numbered ps n ≡ None) → listed_from (numbered ps) (suc k) c ≡ ps)
        → option_to_list (numbered (p ∷ ps) k) ++ listed_from (numbered (p ∷ ps)) (suc k) c ≡ p ∷ ps
    by (inl e) other here =
        ap₂ (λ o l. option_to_list o ++ l) (ap (λ b. cond b (Some p) (numbered ps k)) (eq-eqb k p.1.number e)) (listed_from-same (numbered (p ∷ ps)) (numbered ps) (suc k) c (λ n l. later n l e))
        ∙ ap (λ l. p ∷ l) (here (subst (λ m. Ascends m ps) (let s : suc p.1.number ≡ suc k = omega arith in s) h.1) (λ n l. sym (later n (omega arith) e) ∙ below n (omega arith)))
    by (inr ne) other here =
        let above = h.0 in
        let past : suc k ≤ p.1.number = (let strict = cases_lt k p.1.number in strictly strict above) in
        ap (λ o. option_to_list o ++ listed_from (numbered (p ∷ ps)) (suc k) c) (ascends-none (suc k) k (p ∷ ps) (past, h.1) (omega arith)) ∙ other (past, h.1)
      where
        strictly : (k < p.1.number) ⊎ (p.1.number ≤ k) → k ≤ p.1.number → suc k ≤ p.1.number
        strictly (inl l) m = omega arith
        strictly (inr l) m = absurd (ne (omega arith))

pub ascends-in_order : (next : ℕ) (ps : List Pair) → Ascends 0 ps → IsNumbered next ps → in_order ps next ≡ ps
ascends-in_order next ps h n =
    ap (listed (numbered ps)) (let e : next ≡ next + 0 = omega arith in e) ∙ listed-split (numbered ps) 0 next
    ∙ ascends-listed 0 next ps h (λ m l. n.below m (omega arith))

-- a sorted list of different numbers ascends
ascends-sorted : (n : ℕ) (ps : List Pair) → ((p : Pair) → slice_get ps 0 ≡ Some p → n ≤ p.1.number) → IsNonDecreasingBy (λ p. p.1.number) ps → IsDistinct nat_eq (keys_of (by_number ps)) → Ascends n ps
ascends-sorted n [] least up apart = tt
ascends-sorted n (p ∷ []) least up apart = (least p refl, tt)
ascends-sorted n (p ∷ (q ∷ ps)) least up apart = (
  least p refl,
  ascends-sorted (suc p.1.number) (q ∷ ps) (λ x e. subst (λ (y : Pair). suc p.1.number ≤ y.1.number) (same_Some q x e) next)
      (IsNonDecreasingBy-drop (λ (x : Pair). x.1.number) 1 (p ∷ (q ∷ ps)) up) (IsDistinct-tail nat_eq p.1.number (keys_of (by_number (q ∷ ps))) apart),
)
  where
    other : nat_eq p.1.number q.1.number ≡ false
    other = (IsDistinct-head nat_eq p.1.number (keys_of (by_number (q ∷ ps))) apart).0

    next : suc p.1.number ≤ q.1.number
    next = by (cases_eq p.1.number q.1.number) (up 0 1 p (omega arith) (omega arith))
      where
        by : (p.1.number ≡ q.1.number) ⊎ (p.1.number ≡ q.1.number → ⊥) → p.1.number ≤ q.1.number → suc p.1.number ≤ q.1.number
        by (inl e) l = absurd (false≢true (sym other ∙ eq-eqb p.1.number q.1.number e))
        by (inr ne) l = by_order (cases_lt p.1.number q.1.number)
          where
            by_order : (p.1.number < q.1.number) ⊎ (q.1.number ≤ p.1.number) → suc p.1.number ≤ q.1.number
            by_order (inl m) = omega arith
            by_order (inr m) = absurd (ne (omega (arith, l, m)))

-- ---- other numbers
pub length-renumbered : (n : ℕ) (ps : List Pair) → length (renumbered n ps) ≡ length ps
length-renumbered n [] = refl
length-renumbered n (p ∷ ps) = ap suc (length-renumbered (suc n) ps)

ascends-renumbered : (n : ℕ) (ps : List Pair) → Ascends n (renumbered n ps)
ascends-renumbered n [] = tt
ascends-renumbered n (p ∷ ps) = (omega arith, ascends-renumbered (suc n) ps)

entries-renumbered : (n : ℕ) (ps : List Pair) → map stored_entry (renumbered n ps) ≡ map stored_entry ps
entries-renumbered n [] = refl
entries-renumbered n (p ∷ ps) = ap (λ l. stored_entry p ∷ l) (entries-renumbered (suc n) ps)

weights-renumbered : (n : ℕ) (ps : List Pair) → All HasItsWeight ps → All HasItsWeight (renumbered n ps)
weights-renumbered n [] each = All-nil HasItsWeight
weights-renumbered n (p ∷ ps) each =
    All-cons HasItsWeight (with_number n p) (renumbered (suc n) ps)
    (record { weighs = (All-head HasItsWeight p ps each).weighs })
    (weights-renumbered (suc n) ps (All-tail HasItsWeight p ps each))

renumbered-push : (n : ℕ) (ps : List Pair) (p : Pair) → renumbered n (ps ++ p ∷ []) ≡ renumbered n ps ++ with_number (n + length ps) p ∷ []
renumbered-push n [] p = ap (λ m. with_number m p ∷ []) (let e : n ≡ n + 0 = omega arith in e)
renumbered-push n (x ∷ ps) p =
    ap (λ l. with_number n x ∷ l) (renumbered-push (suc n) ps p ∙ ap (λ m. renumbered (suc n) ps ++ with_number m p ∷ []) (let e : suc n + length ps ≡ n + suc (length ps) = omega arith in e))

pub same_list-renumbered : (next : ℕ) (ps : List Pair) (order : Order) → IsNumbered next ps → IsSortedByKey (λ p. p.1.number) nat_cmp ps → IsOrderOf ps order → IsSameList ps next (renumbered 0 ps) (length ps) order
same_list-renumbered next ps order h up fresh = record {
  length_is = length-renumbered 0 ps;
  numbers = fresh.numbers;
  placed = fresh.placed;
  entries_are = ap (map stored_entry) (ascends-in_order (length ps) (renumbered 0 ps) (ascends-renumbered 0 ps) fresh.numbers) ∙ entries-renumbered 0 ps
      ∙ sym (ap (map stored_entry) (ascends-in_order next ps (ascends-sorted 0 ps (λ p e. omega arith) (IsNonDecreasingBy-from_sort (λ (p : Pair). p.1.number) ps up) h.apart) h));
  weights_are = weights-renumbered 0 ps;
}

-- one turn more
pub order-more : (ps : List Pair) (i : ℕ) (p : Pair) (q : Query) (old new : Order) → slice_get ps i ≡ Some p → q ≡ p.0 → IsOrderOf (take i ps) old
    → ((u : Turn) → get turn_cmp new u ≡ cond (is_at (turn_cmp (p.1.valid_until, i)) u) (Some q) (get turn_cmp old u)) → IsOrderOf (take (i + 1) ps) new
order-more ps i p q old new at own h updates =
    subst (λ l. IsOrderOf l new) (sym more) (record {
      numbers = subst (λ n. IsNumbered n (renumbered 0 (take i ps ++ p ∷ []))) long (subst (IsNumbered (i + 1)) (sym pushed) (numbers-push i rs (with_number i p) numbers refl));
      placed = subst (λ l. IsPlaced l new) (sym pushed) (placed-push i rs (with_number i p) old new numbers refl h.placed (λ u. updates u ∙ ap (λ (x : Query). cond (is_at (turn_cmp (p.1.valid_until, i)) u) (Some x) (get turn_cmp old u)) own));
    })
  where
    within : i < length ps
    within = slice_get_within ps i p at

    rs : List Pair
    rs = renumbered 0 (take i ps)

    length_is : length (take i ps) ≡ i
    length_is = length-take-le i ps (omega (arith, within))

    more : take (i + 1) ps ≡ take i ps ++ p ∷ []
    more = take_more ps i p within ∙ ap (λ x. take i ps ++ x ∷ []) (get_or_from_slice_get ps i p p at)

    pushed : renumbered 0 (take i ps ++ p ∷ []) ≡ rs ++ with_number i p ∷ []
    pushed = renumbered-push 0 (take i ps) p ∙ ap (λ m. rs ++ with_number m p ∷ []) (let e : 0 + length (take i ps) ≡ i = omega (arith, length_is) in e)

    numbers : IsNumbered i rs
    numbers = subst (λ n. IsNumbered n rs) length_is h.numbers

    long : i + 1 ≡ length (take i ps ++ p ∷ [])
    long = let e = length-append (take i ps) (p ∷ []) in omega (arith, e, length_is)

pub order-none : (order : Order) → order.entries ≡ [] → IsOrderOf [] order
order-none order e = let kept = kept-empty 0 0 [] order refl e in record { numbers = kept.numbers; placed = kept.placed }

-- one number more
anew-more : (n i m : ℕ) (ps : List Pair) (k : Kept) → i < length ps → m ≡ n + i → slice_get (values_of (renumbered n (take i ps) ++ drop i ps)) i ≡ Some k
    → set_value_at (renumbered n (take i ps) ++ drop i ps) i (record { result = k.result; original_time = k.original_time; valid_until = k.valid_until; number = m; weight = k.weight }) ≡ renumbered n (take (suc i) ps) ++ drop (suc i) ps
anew-more n i m [] k l is at = absurd (omega (arith, l))
anew-more n zero m (p ∷ ps) k l is at =
    let own : p.1 ≡ k = same_Some p.1 k at in
    ap₂ (λ (x : Kept) (y : ℕ). with_number y (p.0, x) ∷ ps) (sym own) (let e : m ≡ n = omega arith in e)
anew-more n (suc i) m (p ∷ ps) k l is at = ap (λ r. with_number n p ∷ r) (anew-more (suc n) i m ps k (omega arith) (omega arith) at)

pub anew-step : (i : ℕ) (ps es : List Pair) (k : Kept) → es ≡ renumbered 0 (take i ps) ++ drop i ps → i < length ps → slice_get (values_of es) i ≡ Some k
    → set_value_at es i (record { result = k.result; original_time = k.original_time; valid_until = k.valid_until; number = i; weight = k.weight }) ≡ renumbered 0 (take (i + 1) ps) ++ drop (i + 1) ps
anew-step i ps es k is l at =
    ap (λ x. set_value_at x i (record { result = k.result; original_time = k.original_time; valid_until = k.valid_until; number = i; weight = k.weight })) is
    ∙ anew-more 0 i i ps k l (omega arith) (sym (ap (λ x. slice_get (values_of x) i) is) ∙ at)
    ∙ ap (λ j. renumbered 0 (take j ps) ++ drop j ps) (let e : suc i ≡ i + 1 = omega arith in e)

pub anew-length : (i : ℕ) (ps es : List Pair) → i ≤ length ps → es ≡ renumbered 0 (take i ps) ++ drop i ps → length es ≡ length ps
anew-length i ps es l is =
    let whole = length-append (renumbered 0 (take i ps)) (drop i ps) in
    let front = length-renumbered 0 (take i ps) in
    let taken = length-take-le i ps l in
    let dropped = length-drop i ps in
    ap length is ∙ omega (arith, whole, front, taken, dropped)

pub anew-all : (i n : ℕ) (ps es : List Pair) → es ≡ renumbered 0 (take i ps) ++ drop i ps → n ≡ length ps → n ≤ i → es ≡ renumbered 0 ps
anew-all i n ps es is long l =
    is ∙ ap₂ (λ a b. renumbered 0 a ++ b) (take_all i ps (omega (arith, long))) (drop_all i ps (omega (arith, long))) ∙ append-nil (renumbered 0 ps)

pub order-all : (i n : ℕ) (ps : List Pair) (order : Order) → IsOrderOf (take i ps) order → n ≡ length ps → n ≤ i → IsOrderOf ps order
order-all i n ps order h long l = subst (λ x. IsOrderOf x order) (take_all i ps (omega (arith, long))) h

-- ---- what holds of a cache
pub kept-same : (capacity next after : ℕ) (ps rs : List Pair) {old : Order} (new : Order) → IsKept capacity next ps old → IsSameList ps next rs after new → IsKept capacity after rs new
kept-same capacity next after ps rs new h same = record {
  short = let n = same.length_is in let m = h.short in omega (arith, n, m);
  numbers = same.numbers;
  placed = same.placed;
}

pub sound-same : (config : ConfigValue) (capacity next after : ℕ) (ps rs : List Pair) {old : Order} (new : Order) → IsSound config capacity next ps old → IsSameList ps next rs after new → IsSound config capacity after rs new
sound-same config capacity next after ps rs new h same = record {
  kept = kept-same capacity next after ps rs new h.kept same;
  apart = subst AreApart (sym same.entries_are) h.apart;
  timely = subst (AllByRecursion (OutlivesNoAnswer config)) (sym same.entries_are) h.timely;
}

pub on_err_fact : {T E P : Type 0} (r : Result T E) → P → OnErr r P
on_err_fact (Ok v) p = tt
on_err_fact (Err e) p = p
