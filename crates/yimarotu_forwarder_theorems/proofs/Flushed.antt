-- A cache of which some entries are let go keeps to its bounds.
use Rattle.std.proofs.Common.{◌≡◌, ◌∙◌, ℕ, ◌+◌, ◌≤◌, Bool, true, false, ◌||◌, List, [], ◌∷◌, length, refl, ap, arith}
use Rattle.std.specs.Prelude.{filter, if◌then◌else◌}
use Rattle.second_chance_cache.specs.SecondChance.{AreApart, CacheValue, Entry, IsCache, all_weight, has, is_for}

pub fewer : {X : Type 0} (test : X → Bool) (xs : List X) → length (filter test xs) ≤ length xs
fewer test [] = omega arith
fewer test (x ∷ xs) = by (test x) (fewer test xs)
  where
    by : (b : Bool) → length (filter test xs) ≤ length xs
        → length (if b then x ∷ filter test xs else filter test xs) ≤ length (x ∷ xs)
    by true more = omega (arith, more)
    by false more = omega (arith, more)

module _ {V : Type 0} (test : Entry V → Bool) where
  lighter : (es : List (Entry V)) → all_weight (filter test es) ≤ all_weight es
  lighter [] = omega arith
  lighter (e ∷ es) = by (test e) (lighter es)
    where
      by : (b : Bool) → all_weight (filter test es) ≤ all_weight es
          → all_weight (if b then e ∷ filter test es else filter test es) ≤ e.weight + all_weight es
      by true more = omega (arith, more)
      by false more = omega (arith, more)

  absent : (key : List ℕ) (es : List (Entry V)) → has key es ≡ false → has key (filter test es) ≡ false
  absent key [] none = refl
  absent key (e ∷ es) none = by (test e) (is_for key e) refl none (λ rest. absent key es rest)
    where
      by : (b own : Bool) → is_for key e ≡ own → (own || has key es) ≡ false
          → (has key es ≡ false → has key (filter test es) ≡ false)
          → has key (if b then e ∷ filter test es else filter test es) ≡ false
      by b true is none more = absurd cc
      by true false is none more = ap (λ (x : Bool). x || has key (filter test es)) is ∙ more none
      by false false is none more = more none

  apart : (es : List (Entry V)) → AreApart es → AreApart (filter test es)
  apart [] each = tt
  apart (e ∷ es) each = by (test e) (apart es each.1)
    where
      by : (b : Bool) → AreApart (filter test es) → AreApart (if b then e ∷ filter test es else filter test es)
      by true more = (absent e.key es each.0, more)
      by false more = more

  pub let-go : (c : CacheValue V) → IsCache c → IsCache (record c { entries = filter test c.entries })
  let-go c is =
      let few = fewer test c.entries in
      let light = lighter c.entries in
      record {
        count = omega (arith, is.count, few);
        octets = omega (arith, is.octets, light);
        apart = apart c.entries is.apart;
      }
