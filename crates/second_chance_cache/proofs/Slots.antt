-- Slots, and where entries stand in them.
use Rattle.std.proofs.Common.{◌≡◌, ℕ, zero, suc, ◌+◌, ◌-◌, ◌<◌, ◌≤◌, ◌%◌, ◌^◌, Bool, true, false, cond, not, ◌||◌, leb, List, [], ◌∷◌, ◌++◌, length, refl, sym, ◌∙◌, ap, subst, arith}
use Rattle.std.specs.Prelude.{find, slice_get, slice_index_or, slice_set, Option, None, Some}
use Rattle.std.proofs.lemmas.Bool.{leb-false, leb-true}
use Rattle.std.specs.Option.{option_flatten, option_map, option_map_or}
use Rattle.std.specs.Str.{bytes_eq}
use Rattle.second_chance_cache.specs.SecondChance.{AreApart, Entry, all_weight, asked, has, is_for, marked_at, unmarked, without}
use Rattle.second_chance_cache.specs.Clock.{emptied, live, marked_in, number_at, place_of, weight_at, with_front_unmarked}
use Rattle.second_chance_cache.proofs.Numbers.{number-back}
use Rattle.second_chance_cache.proofs.Keys.{asked-absent, key_flip, key-marked, or_none, same_key, without-absent}

pub suc_parts : (found : Option ℕ) (at : ℕ) → option_map suc found ≡ Some at → (n : ℕ) × (at ≡ suc n) × (found ≡ Some n)
suc_parts None at h = absurd cc
suc_parts (Some n) at h = (n, cc, refl)

pub suc_none : (found : Option ℕ) → option_map suc found ≡ None → found ≡ None
suc_none None h = refl
suc_none (Some n) h = absurd cc

module _ {V : Type 0} where
  pub live-append : (s t : List (Option (Entry V))) → live (s ++ t) ≡ live s ++ live t
  live-append [] t = refl
  live-append (None ∷ s) t = live-append s t
  live-append (Some e ∷ s) t = ap (λ (l : List (Entry V)). e ∷ l) (live-append s t)

  -- ---- where a key stands

  pub place-absent : (key : List ℕ) (s : List (Option (Entry V))) → has key (live s) ≡ false → place_of key s ≡ None
  place-absent key [] h = refl
  place-absent key (None ∷ s) h = ap (option_map suc) (place-absent key s h)
  place-absent key (Some e ∷ s) h =
      let parts = or_none (is_for key e) (has key (live s)) h in
      rw (parts.0) (ap (option_map suc) (place-absent key s parts.1))

  pub has-no_place : (key : List ℕ) (s : List (Option (Entry V))) → place_of key s ≡ None → has key (live s) ≡ false
  has-no_place key [] h = refl
  has-no_place key (None ∷ s) h = has-no_place key s (suc_none (place_of key s) h)
  has-no_place key (Some e ∷ s) h = by (is_for key e) h (has-no_place key s)
    where
      by : (is : Bool) → cond is (Some 0) (option_map suc (place_of key s)) ≡ None
          → (place_of key s ≡ None → has key (live s) ≡ false) → (is || has key (live s)) ≡ false
      by true h rest = absurd cc
      by false h rest = rest (suc_none (place_of key s) h)

  pub place-push_other : (key : List ℕ) (e : Entry V) (s : List (Option (Entry V))) → is_for key e ≡ false
      → place_of key (s ++ Some e ∷ []) ≡ place_of key s
  place-push_other key e [] h = rw h
  place-push_other key e (None ∷ s) h = ap (option_map suc) (place-push_other key e s h)
  place-push_other key e (Some f ∷ s) h =
      ap (λ (found : Option ℕ). cond (is_for key f) (Some 0) (option_map suc found)) (place-push_other key e s h)

  pub place-push_own : (key : List ℕ) (e : Entry V) (s : List (Option (Entry V))) → is_for key e ≡ true
      → place_of key s ≡ None
      → place_of key (s ++ Some e ∷ []) ≡ Some (length s)
  place-push_own key e [] h none = rw h
  place-push_own key e (None ∷ s) h none = ap (option_map suc) (place-push_own key e s h (suc_none
      (place_of key s) none))
  place-push_own key e (Some f ∷ s) h none = by (is_for key f) none (place-push_own key e s h)
    where
      by : (is : Bool) → cond is (Some 0) (option_map suc (place_of key s)) ≡ None
          → (place_of key s ≡ None → place_of key (s ++ Some e ∷ []) ≡ Some (length s))
          → cond is (Some 0) (option_map suc (place_of key (s ++ Some e ∷ []))) ≡ Some (suc (length s))
      by true none rest = absurd cc
      by false none rest = ap (option_map suc) (rest (suc_none (place_of key s) none))

  pub place-short : (key : List ℕ) (s : List (Option (Entry V))) (at : ℕ) → place_of key s ≡ Some at → at < length s
  place-short key [] at h = absurd cc
  place-short key (None ∷ s) at h =
      let n = suc_parts (place_of key s) at h in
      let short : n.0 < length s = place-short key s n.0 n.2 in
      omega (arith, n.1)
  place-short key (Some e ∷ s) at h = by (is_for key e) h (place-short key s)
    where
      by : (is : Bool) → cond is (Some 0) (option_map suc (place_of key s)) ≡ Some at
          → ((n : ℕ) → place_of key s ≡ Some n → n < length s) → at < length (Some e ∷ s)
      by true h rest =
          let zeroth : at ≡ 0 = cc in
          omega arith
      by false h rest =
          let n = suc_parts (place_of key s) at h in
          let short : n.0 < length s = rest n.0 n.2 in
          omega (arith, n.1)

  -- ---- the slot of a key

  pub found-at : (key : List ℕ) (s : List (Option (Entry V))) (at : ℕ) → place_of key s ≡ Some at
      → option_flatten (slice_get s at) ≡ find (is_for key) (live s)
  found-at key [] at h = absurd cc
  found-at key (None ∷ s) at h =
      let n = suc_parts (place_of key s) at h in
      rw (n.1) (found-at key s n.0 n.2)
  found-at key (Some e ∷ s) at h = by (is_for key e) h (found-at key s)
    where
      by : (is : Bool) → cond is (Some 0) (option_map suc (place_of key s)) ≡ Some at
          → ((n : ℕ) → place_of key s ≡ Some n → option_flatten (slice_get s n) ≡ find (is_for key) (live s))
          → option_flatten (slice_get (Some e ∷ s) at) ≡ cond is (Some e) (find (is_for key) (live s))
      by true h rest =
          let zeroth : at ≡ 0 = cc in
          rw zeroth
      by false h rest =
          let n = suc_parts (place_of key s) at h in
          rw (n.1) (rest n.0 n.2)

  -- ---- the slot of a key is emptied

  module _ (key : List ℕ) where
    pub live-emptied : (s : List (Option (Entry V))) (at : ℕ) → AreApart (live s) → place_of key s ≡ Some at
        → live (emptied at s) ≡ without key (live s)
    live-emptied [] at apart h = absurd cc
    live-emptied (None ∷ s) at apart h =
        let n = suc_parts (place_of key s) at h in
        rw (n.1) (live-emptied s n.0 apart n.2)
    live-emptied (Some e ∷ s) at apart h = by (is_for key e) refl h (λ n. live-emptied s n apart.1)
      where
        by : (is : Bool) → is_for key e ≡ is → cond is (Some 0) (option_map suc (place_of key s)) ≡ Some at
            → ((n : ℕ) → place_of key s ≡ Some n → live (emptied n s) ≡ without key (live s))
            → live (emptied at (Some e ∷ s)) ≡ cond (not is) (e ∷ without key (live s)) (without key (live s))
        by true own h rest =
            let zeroth : at ≡ 0 = cc in
            let gone : has key (live s) ≡ false =
            subst (λ (k : List ℕ). has k (live s) ≡ false) (sym (same_key key e.key own)) apart.0 in
            rw zeroth (sym (without-absent key (live s) gone))
        by false own h rest =
            let n = suc_parts (place_of key s) at h in
            rw (n.1) (ap (λ (l : List (Entry V)). e ∷ l) (rest n.0 n.2))

    pub place-emptied_other : (other : List ℕ) (s : List (Option (Entry V))) (at : ℕ) → bytes_eq key other ≡ false
        → place_of key s ≡ Some at → place_of other (emptied at s) ≡ place_of other s
    place-emptied_other other [] at differ h = absurd cc
    place-emptied_other other (None ∷ s) at differ h =
        let n = suc_parts (place_of key s) at h in
        rw (n.1) (ap (option_map suc) (place-emptied_other other s n.0 differ n.2))
    place-emptied_other other (Some e ∷ s) at differ h =
        by (is_for key e) refl h (λ n. place-emptied_other other s n differ)
      where
        by : (is : Bool) → is_for key e ≡ is → cond is (Some 0) (option_map suc (place_of key s)) ≡ Some at
            → ((n : ℕ) → place_of key s ≡ Some n → place_of other (emptied n s) ≡ place_of other s)
            → place_of other (emptied at (Some e ∷ s)) ≡ place_of other (Some e ∷ s)
        by true own h rest =
            let zeroth : at ≡ 0 = cc in
            let is : key ≡ e.key = same_key key e.key own in
            let no : is_for other e ≡ false = subst (λ (k : List ℕ). bytes_eq other k ≡ false) is
            (key_flip key other differ) in
            rw (zeroth, no)
        by false own h rest =
            let n = suc_parts (place_of key s) at h in
            rw (n.1)
            (ap (λ (found : Option ℕ). cond (is_for other e) (Some 0) (option_map suc found)) (rest n.0 n.2))

    pub weight-emptied : (s : List (Option (Entry V))) (at : ℕ) → place_of key s ≡ Some at
        → weight_at at s + all_weight (live (emptied at s)) ≡ all_weight (live s)
    weight-emptied [] at h = absurd cc
    weight-emptied (None ∷ s) at h =
        let n = suc_parts (place_of key s) at h in
        rw (n.1) (weight-emptied s n.0 n.2)
    weight-emptied (Some e ∷ s) at h = by (is_for key e) h (weight-emptied s)
      where
        by : (is : Bool) → cond is (Some 0) (option_map suc (place_of key s)) ≡ Some at
            → ((n : ℕ) → place_of key s ≡ Some n → weight_at n s + all_weight (live (emptied n s)) ≡ all_weight
            (live s))
            → weight_at at (Some e ∷ s) + all_weight (live (emptied at (Some e ∷ s))) ≡ e.weight + all_weight (live s)
        by true h rest =
            let zeroth : at ≡ 0 = cc in
            rw zeroth
        by false h rest =
            let n = suc_parts (place_of key s) at h in
            let sum : weight_at n.0 s + all_weight (live (emptied n.0 s)) ≡ all_weight (live s) = rest n.0 n.2 in
            rw (n.1) (omega arith)

    pub length-emptied : (s : List (Option (Entry V))) (at : ℕ) → place_of key s ≡ Some at
        → suc (length (live (emptied at s))) ≡ length (live s)
    length-emptied [] at h = absurd cc
    length-emptied (None ∷ s) at h =
        let n = suc_parts (place_of key s) at h in
        rw (n.1) (length-emptied s n.0 n.2)
    length-emptied (Some e ∷ s) at h = by (is_for key e) h (length-emptied s)
      where
        by : (is : Bool) → cond is (Some 0) (option_map suc (place_of key s)) ≡ Some at
            → ((n : ℕ) → place_of key s ≡ Some n → suc (length (live (emptied n s))) ≡ length (live s))
            → suc (length (live (emptied at (Some e ∷ s)))) ≡ suc (length (live s))
        by true h rest =
            let zeroth : at ≡ 0 = cc in
            rw zeroth
        by false h rest =
            let n = suc_parts (place_of key s) at h in
            rw (n.1) (ap suc (rest n.0 n.2))

    -- ---- the entry of a key is asked for

    pub live-marked : (now : ℕ) (s : List (Option (Entry V))) (at : ℕ) → AreApart (live s) → place_of key s ≡ Some at
        → live (marked_in at now s) ≡ asked key now (live s)
    live-marked now [] at apart h = absurd cc
    live-marked now (None ∷ s) at apart h =
        let n = suc_parts (place_of key s) at h in
        rw (n.1) (live-marked now s n.0 apart n.2)
    live-marked now (Some e ∷ s) at apart h = by (is_for key e) refl h (λ n. live-marked now s n apart.1)
      where
        by : (is : Bool) → is_for key e ≡ is → cond is (Some 0) (option_map suc (place_of key s)) ≡ Some at
            → ((n : ℕ) → place_of key s ≡ Some n → live (marked_in n now s) ≡ asked key now (live s))
            → live (marked_in at now (Some e ∷ s)) ≡ cond is (marked_at now e) e ∷ asked key now (live s)
        by true own h rest =
            let zeroth : at ≡ 0 = cc in
            let gone : has key (live s) ≡ false =
            subst (λ (k : List ℕ). has k (live s) ≡ false) (sym (same_key key e.key own)) apart.0 in
            rw zeroth (ap (λ (l : List (Entry V)). marked_at now e ∷ l) (sym (asked-absent key now (live s) gone)))
        by false own h rest =
            let n = suc_parts (place_of key s) at h in
            rw (n.1) (ap (λ (l : List (Entry V)). e ∷ l) (rest n.0 n.2))

  pub place-marked : (other : List ℕ) (now at : ℕ) (s : List (Option (Entry V)))
      → place_of other (marked_in at now s) ≡ place_of other s
  place-marked other now at [] = refl
  place-marked other now zero (None ∷ s) = refl
  place-marked other now zero (Some e ∷ s) =
      ap (λ (k : List ℕ). cond (bytes_eq other k) (Some 0) (option_map suc (place_of other s))) (key-marked now e)
  place-marked other now (suc at) (None ∷ s) = ap (option_map suc) (place-marked other now at s)
  place-marked other now (suc at) (Some e ∷ s) =
      ap (λ (found : Option ℕ). cond (is_for other e) (Some 0) (option_map suc found)) (place-marked other now at s)

  -- the place is had from the number
  pub place-back : (key : List ℕ) (s : List (Option (Entry V))) (first number : ℕ) → first < 2 ^ 64 → length s < 2 ^ 64
      → Some number ≡ option_map (number_at first) (place_of key s)
      → Some ((number + (2 ^ 64 - first)) % 2 ^ 64) ≡ place_of key s
  place-back key s first number small short given = by (place_of key s) refl given
    where
      by : (found : Option ℕ) → place_of key s ≡ found → Some number ≡ option_map (number_at first) found
          → Some ((number + (2 ^ 64 - first)) % 2 ^ 64) ≡ found
      by None is given = absurd cc
      by (Some at) is given =
          let same : number ≡ number_at first at = cc in
          let below : at < length s = place-short key s at is in
          ap (λ (n : ℕ). Some ((n + (2 ^ 64 - first)) % 2 ^ 64)) same
          ∙ ap Some (number-back first at small (omega arith))

  -- ---- a slot that is written

  pub marked-set : (at now : ℕ) (s : List (Option (Entry V))) (x : Option (Entry V)) → at < length s
      → x ≡ slice_index_or s at x
      → slice_set s at (option_map (marked_at now) x) ≡ marked_in at now s
  marked-set at now [] x short is = absurd (omega arith)
  marked-set zero now (slot ∷ s) x short is = ap (λ (o : Option (Entry V)). option_map (marked_at now) o ∷ s) is
  marked-set (suc at) now (slot ∷ s) x short is =
      ap (λ (l : List (Option (Entry V))). slot ∷ l) (marked-set at now s x (omega arith) is)

  pub emptied-set : (at : ℕ) (s : List (Option (Entry V))) → at < length s → slice_set s at None ≡ emptied at s
  emptied-set at [] short = absurd (omega arith)
  emptied-set zero (slot ∷ s) short = refl
  emptied-set (suc at) (slot ∷ s) short = ap (λ (l : List (Option (Entry V))). slot ∷ l) (emptied-set at s
      (omega arith))

  pub weight-set : (at : ℕ) (s : List (Option (Entry V))) (x : Option (Entry V)) → at < length s
      → x ≡ slice_index_or s at x
      → option_map_or (λ e. e.weight) x 0 ≡ weight_at at s
  weight-set at [] x short is = absurd (omega arith)
  weight-set zero (slot ∷ s) x short is = ap (λ (o : Option (Entry V)). option_map_or (λ e. e.weight) o 0) is
  weight-set (suc at) (slot ∷ s) x short is = weight-set at s x (omega arith) is

  pub unmarked-set : (s : List (Option (Entry V))) (x : Option (Entry V)) → 0 < length s → x ≡ slice_index_or s 0 x
      → slice_set s 0 (option_map unmarked x) ≡ with_front_unmarked s
  unmarked-set [] x short is = absurd (omega arith)
  unmarked-set (slot ∷ s) x short is = ap (λ (o : Option (Entry V)). option_map unmarked o ∷ s) is

  pub marked-beyond : (at now : ℕ) (s : List (Option (Entry V))) → length s ≤ at → s ≡ marked_in at now s
  marked-beyond at now [] far = refl
  marked-beyond zero now (slot ∷ s) far = absurd (omega arith)
  marked-beyond (suc at) now (slot ∷ s) far =
      ap (λ (l : List (Option (Entry V))). slot ∷ l) (marked-beyond at now s (omega arith))

  pub emptied-beyond : (at : ℕ) (s : List (Option (Entry V))) → length s ≤ at → s ≡ emptied at s
  emptied-beyond at [] far = refl
  emptied-beyond zero (slot ∷ s) far = absurd (omega arith)
  emptied-beyond (suc at) (slot ∷ s) far =
      ap (λ (l : List (Option (Entry V))). slot ∷ l) (emptied-beyond at s (omega arith))

  pub weight-beyond : (at : ℕ) (s : List (Option (Entry V))) → length s ≤ at → 0 ≡ weight_at at s
  weight-beyond at [] far = refl
  weight-beyond zero (slot ∷ s) far = absurd (omega arith)
  weight-beyond (suc at) (slot ∷ s) far = weight-beyond at s (omega arith)

  pub unmarked-beyond : (s : List (Option (Entry V))) → length s ≤ 0 → s ≡ with_front_unmarked s
  unmarked-beyond [] far = refl
  unmarked-beyond (slot ∷ s) far = absurd (omega arith)

-- what is not below is beyond
pub beyond : (at n : ℕ) → (at < n → false ≡ true) → n ≤ at
beyond at n h = by (leb n at) refl
  where
    by : (b : Bool) → leb n at ≡ b → n ≤ at
    by true is = leb-true n at is
    by false is = absurd (let wrong : false ≡ true = h (leb-false n at is) in cc)
