-- Pairs by their numbers, and the list of them in order.
use Rattle.std.proofs.Common.{◌≡◌, ℕ, ◌<◌, ◌≤◌, suc, zero, Bool, true, false, cond, nat_eq, List, [], ◌∷◌, ◌++◌, map, Option, None, Some, refl, sym, ap, ap₂, ◌∙◌, subst, arith, append-nil, append_assoc, slice_get, ◌⊎◌, inl, inr}
use Rattle.std.proofs.lemmas.Bool.{eqb-true, eq-eqb, ne_eqb, cases_lt}
use Rattle.std.proofs.lemmas.List.{map-append}
use Rattle.std.proofs.lemmas.List.Sorted.{IsPermutation-map}
use Rattle.std.proofs.lemmas.Map.{lookup-none, none_passes_from_lookup}
use Rattle.std.proofs.lemmas.Map.Entries.{none_past_head, place_from_lookup, lookup_from_place}
use Rattle.std.proofs.lemmas.Map.Keys.{IsDistinct-tail, IsDistinct-push}
use Rattle.std.proofs.lemmas.Map.Lookups.{hash_map_IsPermutation_from_get, map_keys}
use Rattle.std.proofs.lemmas.Option.{slice_get-map, same_Some}
use Rattle.std.specs.Cmp.{nat_eq_equiv}
use Rattle.std.specs.List.{IsDistinct, AllByRecursion}
use Rattle.std.specs.List.Sorted.{IsPermutation}
use Rattle.std.specs.Map.{lookup, keys_of}
use Rattle.std.specs.Option.{option_or, option_map, option_to_list}
use Rattle.indexmap.specs.Layout.{hash_map}
use Rattle.indexmap.proofs.MapLemmas.{distinct_permutation, lookup_permutation}
use Rattle.hickory_resolver_cache.specs.Turns.{Pair, by_number, numbered, listed, in_order, IsNumbered}
use Rattle.hickory_resolver_cache.proofs.PairLists.{all-append, lookup-append, list_any-keys, or-none}

-- the pair, unless b
abbrev unless : Bool → Option Pair → Option Pair
unless b o = cond b None o

abbrev tag : Pair → ℕ × Pair
tag p = (p.1.number, p)

pub numbered-append : (ps qs : List Pair) (n : ℕ) → numbered (ps ++ qs) n ≡ option_or (numbered ps n) (numbered qs n)
numbered-append ps qs n = ap (lookup (nat_eq n)) (map-append tag ps qs) ∙ lookup-append (nat_eq n) (by_number ps) (by_number qs)

pub numbered-is : (ps : List Pair) (n : ℕ) (p : Pair) → numbered ps n ≡ Some p → p.1.number ≡ n
numbered-is [] n p h = cc
numbered-is (q ∷ qs) n p h = by (nat_eq n q.1.number) refl h (λ k. numbered-is qs n p k)
  where
    by : (b : Bool) → nat_eq n q.1.number ≡ b → cond b (Some q) (numbered qs n) ≡ Some p → (numbered qs n ≡ Some p → p.1.number ≡ n) → p.1.number ≡ n
    by true e k rest = ap (λ (x : Pair). x.1.number) (sym (same_Some q p k)) ∙ sym (eqb-true n q.1.number e)
    by false e k rest = rest k

-- where the pair of a number stands
pub stands : (ps : List Pair) (n : ℕ) (p : Pair) → numbered ps n ≡ Some p → (i : ℕ) × (slice_get ps i ≡ Some p)
stands ps n p h =
    let at = place_from_lookup (nat_eq n) (by_number ps) p h in
    (at.0, by (slice_get ps at.0) (sym (slice_get-map tag ps at.0) ∙ at.2))
  where
    by : {k : ℕ} (o : Option Pair) → option_map tag o ≡ Some (k, p) → o ≡ Some p
    by None e = cc
    by {k = k} (Some q) e = ap (λ x. Some x.1) (same_Some (q.1.number, q) (k, p) e)

pub numbered-at : (ps : List Pair) (i : ℕ) (p : Pair) → IsDistinct nat_eq (keys_of (by_number ps)) → slice_get ps i ≡ Some p → numbered ps p.1.number ≡ Some p
numbered-at ps i p apart at =
    lookup_from_place nat_eq_equiv (by_number ps) i p.1.number p apart (slice_get-map tag ps i ∙ ap (option_map tag) at)

-- one pair is gone
module _ (ps rs : List Pair) (p : Pair) (moves : IsPermutation ps (p ∷ rs)) (apart : IsDistinct nat_eq (keys_of (by_number ps))) where
  tagged : IsPermutation (by_number ps) (by_number (p ∷ rs))
  tagged = IsPermutation-map tag ps (p ∷ rs) moves

  apart_after : IsDistinct nat_eq (keys_of (by_number (p ∷ rs)))
  apart_after = distinct_permutation nat_eq_equiv (keys_of (by_number ps)) (keys_of (by_number (p ∷ rs))) (IsPermutation-map (λ e. e.0) (by_number ps) (by_number (p ∷ rs)) tagged) apart

  pub apart-left : IsDistinct nat_eq (keys_of (by_number rs))
  apart-left = IsDistinct-tail nat_eq p.1.number (keys_of (by_number rs)) apart_after

  pub numbered-left : (n : ℕ) → numbered rs n ≡ cond (nat_eq n p.1.number) None (numbered ps n)
  numbered-left n = by (nat_eq n p.1.number) refl
    where
      same : numbered (p ∷ rs) n ≡ numbered ps n
      same = lookup_permutation nat_eq_equiv (by_number ps) (by_number (p ∷ rs)) tagged apart_after (nat_eq n) (nat_eq_equiv.congr n)

      by : (b : Bool) → nat_eq n p.1.number ≡ b → numbered rs n ≡ cond (nat_eq n p.1.number) None (numbered ps n)
      by true e = lookup-none (nat_eq n) (by_number rs) (none_past_head nat_eq_equiv n (p.1.number, p) (by_number rs) apart_after e) ∙ sym (ap (λ b. unless b (numbered ps n)) e)
      by false e = sym (ap (λ b. cond b (Some p) (numbered rs n)) e) ∙ same ∙ sym (ap (λ b. unless b (numbered ps n)) e)

-- ---- the list in order
pub listed-same : (f g : ℕ → Option Pair) (k : ℕ) → ((n : ℕ) → n < k → f n ≡ g n) → listed f k ≡ listed g k
listed-same f g zero h = refl
listed-same f g (suc k) h = ap₂ (λ xs o. xs ++ option_to_list o) (listed-same f g k (λ n l. h n (omega arith))) (h k (omega arith))

pub all-listed : (P : Pair → Type 0) (f : ℕ → Option Pair) (k : ℕ) → ((n : ℕ) (p : Pair) → n < k → f n ≡ Some p → P p) → AllByRecursion P (listed f k)
all-listed P f zero h = tt
all-listed P f (suc k) h = all-append P (listed f k) (option_to_list (f k)) (all-listed P f k (λ n p l. h n p (omega arith))) (by (f k) refl)
  where
    by : (o : Option Pair) → f k ≡ o → AllByRecursion P (option_to_list o)
    by None e = tt
    by (Some p) e = (h k p (omega arith) e, tt)

-- f gives the pair p at k, and g gives what f does elsewhere
pub record Around (f g : ℕ → Option Pair) (next k : ℕ) (p : Pair) : Type 0 where
  pub after : List Pair
  pub whole : listed f next ≡ listed f k ++ p ∷ after
  pub left : listed g next ≡ listed f k ++ after

pub around : (f g : ℕ → Option Pair) (k : ℕ) (p : Pair) → f k ≡ Some p → ((n : ℕ) → g n ≡ cond (nat_eq n k) None (f n)) → (next : ℕ) → k < next → Around f g next k p
around f g k p at drops zero l = absurd (omega arith)
around f g k p at drops (suc m) l = by (cases_lt k m) (λ h. around f g k p at drops m h)
  where
    keeps : (n : ℕ) → (n ≡ k → ⊥) → g n ≡ f n
    keeps n ne = drops n ∙ ap (λ b. unless b (f n)) (ne_eqb n k ne)

    by : (k < m) ⊎ (m ≤ k) → (k < m → Around f g m k p) → Around f g (suc m) k p
    by (inl h) rest =
        let r = rest h in
        record {
          after = r.after ++ option_to_list (f m);
          whole = ap (λ xs. xs ++ option_to_list (f m)) r.whole ∙ append_assoc (listed f k) (p ∷ r.after) (option_to_list (f m));
          left = ap₂ (λ xs o. xs ++ option_to_list o) r.left (keeps m (λ e. omega arith)) ∙ append_assoc (listed f k) r.after (option_to_list (f m));
        }
    by (inr h) rest =
        let same : m ≡ k = omega arith in
        record {
          after = [];
          whole = ap₂ (λ xs o. xs ++ option_to_list o) (ap (listed f) same) (ap f same ∙ at);
          left = ap₂ (λ xs o. xs ++ option_to_list o)
              (listed-same g f m (λ n b. keeps n (λ e. omega arith)) ∙ ap (listed f) same)
              (drops m ∙ ap (λ b. unless b (f m)) (eq-eqb m k same));
        }

pub apart-push : (xs : List Pair) (p : Pair) → IsDistinct nat_eq (keys_of (by_number xs)) → numbered xs p.1.number ≡ None → IsDistinct nat_eq (keys_of (by_number (xs ++ p ∷ [])))
apart-push xs p h none =
    subst (IsDistinct nat_eq) (sym (ap keys_of (map-append tag xs (p ∷ [])) ∙ map-append (λ e. e.0) (by_number xs) (by_number (p ∷ []))))
    (IsDistinct-push nat_eq_equiv (keys_of (by_number xs)) p.1.number h (list_any-keys (nat_eq p.1.number) (by_number xs) (none_passes_from_lookup (nat_eq p.1.number) (by_number xs) none)))

-- where each pair has its own number
module _ (f : ℕ → Option Pair) (own : (n : ℕ) (p : Pair) → f n ≡ Some p → p.1.number ≡ n) where
  one : (k n : ℕ) (o : Option Pair) → f k ≡ o → numbered (option_to_list o) n ≡ cond (nat_eq n k) o None
  one k n None e = by (nat_eq n k)
    where
      by : (b : Bool) → None ≡ cond {A = Option Pair} b None None
      by true = refl
      by false = refl
  one k n (Some p) e = ap (λ m. cond (nat_eq n m) (Some p) None) (own k p e)

  step : (k n : ℕ) → numbered (listed f (suc k)) n ≡ option_or (numbered (listed f k) n) (cond (nat_eq n k) (f k) None)
  step k n = numbered-append (listed f k) (option_to_list (f k)) n ∙ ap (option_or (numbered (listed f k) n)) (one k n (f k) refl)

  numbered-past : (k n : ℕ) → k ≤ n → numbered (listed f k) n ≡ None
  numbered-past zero n l = refl
  numbered-past (suc k) n l = step k n ∙ ap₂ option_or (numbered-past k n (omega arith)) (ap (λ b. cond b (f k) None) (ne_eqb n k (λ e. omega arith)))

  numbered-below : (k n : ℕ) → n < k → numbered (listed f k) n ≡ f n
  numbered-below zero n l = absurd (omega arith)
  numbered-below (suc k) n l = step k n ∙ by (cases_lt n k) (λ h. numbered-below k n h)
    where
      by : (n < k) ⊎ (k ≤ n) → (n < k → numbered (listed f k) n ≡ f n) → option_or (numbered (listed f k) n) (cond (nat_eq n k) (f k) None) ≡ f n
      by (inl h) rest = ap₂ option_or (rest h) (ap (λ b. cond b (f k) None) (ne_eqb n k (λ e. omega arith))) ∙ or-none (f n)
      by (inr h) rest =
          let same : n ≡ k = omega arith in
          ap₂ option_or (numbered-past k n h) (ap (λ b. cond b (f k) None) (eq-eqb n k same)) ∙ ap f (sym same)

  apart-listed : (k : ℕ) → IsDistinct nat_eq (keys_of (by_number (listed f k)))
  unfolding IsDistinct
  apart-listed zero = tt
  apart-listed (suc k) = by (f k) refl (apart-listed k)
    where
      xs : List Pair
      xs = listed f k

      by : (o : Option Pair) → f k ≡ o → IsDistinct nat_eq (keys_of (by_number xs)) → IsDistinct nat_eq (keys_of (by_number (xs ++ option_to_list o)))
      by None e h = subst (λ l. IsDistinct nat_eq (keys_of (by_number l))) (sym (append-nil xs)) h
      by (Some p) e h = apart-push xs p h (ap (numbered xs) (own k p e) ∙ numbered-past k k (omega arith))

strip : (ps : List Pair) → map (λ e. e.1) (map_keys (λ n. n) (by_number ps)) ≡ ps
strip [] = refl
strip (p ∷ ps) = ap (λ l. p ∷ l) (strip ps)

-- the pairs in order are the pairs
pub in_order-permutes : (next : ℕ) (ps : List Pair) → IsNumbered next ps → IsPermutation ps (in_order ps next)
in_order-permutes next ps h =
    subst (λ l. IsPermutation l (in_order ps next)) (strip ps)
    (subst (IsPermutation (map (λ e. e.1) (map_keys (λ n. n) (by_number ps)))) (strip (in_order ps next))
    (IsPermutation-map (λ e. e.1) _ _
    (hash_map_IsPermutation_from_get nat_eq_equiv {S = ℕ} {T = ℕ} (hash_map (by_number ps) 0 0) (hash_map (by_number (in_order ps next)) 0 0) h.apart (apart-listed (numbered ps) own next) same (λ n. n) (λ x y e. eqb-true x y e))))
  where
    own : (n : ℕ) (p : Pair) → numbered ps n ≡ Some p → p.1.number ≡ n
    own n p e = numbered-is ps n p e

    same : (n : ℕ) → numbered ps n ≡ numbered (in_order ps next) n
    same n = by (cases_lt n next)
      where
        by : (n < next) ⊎ (next ≤ n) → numbered ps n ≡ numbered (in_order ps next) n
        by (inl l) = sym (numbered-below (numbered ps) own next n l)
        by (inr l) = h.below n l ∙ sym (numbered-past (numbered ps) own next n l)
