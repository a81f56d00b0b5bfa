-- Entries by key.
use Rattle.std.proofs.Common.{◌≡◌, ℕ, suc, ◌+◌, ◌≤◌, Bool, true, false, cond, not, ◌||◌, List, [], ◌∷◌, ◌++◌, length, map, refl, ◌∙◌, ap, subst, arith}
use Rattle.std.specs.Prelude.{find, None}
use Rattle.std.specs.Str.{bytes_eq}
use Rattle.std.specs.Cmp.Lexicographic.{bytes_decides}
use Rattle.second_chance_cache.specs.SecondChance.{AreApart, Entry, all_weight, asked, has, is_current, is_for, marked_at, told, without}

-- ---- keys

pub same_key : (a b : List ℕ) → bytes_eq a b ≡ true → a ≡ b
same_key a b e = (bytes_decides a b).0 e

pub own_key : (a : List ℕ) → bytes_eq a a ≡ true
own_key a = (bytes_decides a a).1 refl

pub key_flip : (a b : List ℕ) → bytes_eq a b ≡ false → bytes_eq b a ≡ false
key_flip a b e = by (bytes_eq b a) refl
  where
    by : (same : Bool) → bytes_eq b a ≡ same → same ≡ false
    by false h = refl
    by true h =
        let is : b ≡ a = same_key b a h in
        let yes : bytes_eq a b ≡ true = subst (λ (k : List ℕ). bytes_eq k b ≡ true) is (own_key b) in
        cc

pub or_none : (a b : Bool) → (a || b) ≡ false → (a ≡ false) × (b ≡ false)
or_none true b h = absurd (let no : true ≡ false = h in cc)
or_none false b h = (refl, h)

module _ {V : Type 0} where
  pub has-append : (key : List ℕ) (es fs : List (Entry V)) → has key es ≡ false → has key fs ≡ false
      → has key (es ++ fs) ≡ false
  has-append key [] fs h g = g
  has-append key (e ∷ es) fs h g =
      let parts = or_none (is_for key e) (has key es) h in
      let tail : has key (es ++ fs) ≡ false = has-append key es fs parts.1 g in
      rw (parts.0, tail)

  pub apart-append : (es : List (Entry V)) (e : Entry V) → AreApart es → has e.key es ≡ false → AreApart (es ++ e ∷ [])
  apart-append [] e apart h = (refl, tt)
  apart-append (f ∷ es) e apart h =
      let parts = or_none (is_for e.key f) (has e.key es) h in
      let other : bytes_eq f.key e.key ≡ false = key_flip e.key f.key parts.0 in
      let one : has f.key (e ∷ []) ≡ false = rw other in
      (has-append f.key es (e ∷ []) apart.0 one, apart-append es e apart.1 parts.1)

  pub weight-append : (es fs : List (Entry V)) → all_weight (es ++ fs) ≡ all_weight es + all_weight fs
  weight-append [] fs = omega arith
  weight-append (e ∷ es) fs = omega (arith, weight-append es fs)

  -- ---- one key less

  pub without-absent : (key : List ℕ) (es : List (Entry V)) → has key es ≡ false → without key es ≡ es
  without-absent key [] h = refl
  without-absent key (e ∷ es) h =
      let parts = or_none (is_for key e) (has key es) h in
      rw (parts.0) (ap (λ (l : List (Entry V)). e ∷ l) (without-absent key es parts.1))

  pub has-without : (other key : List ℕ) (es : List (Entry V)) → has other es ≡ false
      → has other (without key es) ≡ false
  has-without other key [] h = refl
  has-without other key (e ∷ es) h =
      let parts = or_none (is_for other e) (has other es) h in
      by (is_for key e) (parts.0) (has-without other key es parts.1)
    where
      by : (is : Bool) → is_for other e ≡ false → has other (without key es) ≡ false
          → has other (cond (not is) (e ∷ without key es) (without key es)) ≡ false
      by true other_is tail = tail
      by false other_is tail = rw (other_is, tail)

  pub has-own-without : (key : List ℕ) (es : List (Entry V)) → has key (without key es) ≡ false
  has-own-without key [] = refl
  has-own-without key (e ∷ es) = by (is_for key e) refl (has-own-without key es)
    where
      by : (is : Bool) → is_for key e ≡ is → has key (without key es) ≡ false
          → has key (cond (not is) (e ∷ without key es) (without key es)) ≡ false
      by true h tail = tail
      by false h tail = rw (h, tail)

  pub apart-without : (key : List ℕ) (es : List (Entry V)) → AreApart es → AreApart (without key es)
  apart-without key [] apart = tt
  apart-without key (e ∷ es) apart = by (is_for key e) (apart-without key es apart.1)
    where
      by : (is : Bool) → AreApart (without key es) → AreApart (cond (not is) (e ∷ without key es) (without key es))
      by true tail = tail
      by false tail = (has-without e.key key es apart.0, tail)

  pub length-without : (key : List ℕ) (es : List (Entry V)) → length (without key es) ≤ length es
  length-without key [] = omega arith
  length-without key (e ∷ es) = by (is_for key e) (length-without key es)
    where
      by : (is : Bool) → length (without key es) ≤ length es
          → length (cond (not is) (e ∷ without key es) (without key es)) ≤ length (e ∷ es)
      by true tail = omega arith
      by false tail = omega arith

  pub weight-without : (key : List ℕ) (es : List (Entry V)) → all_weight (without key es) ≤ all_weight es
  weight-without key [] = omega arith
  weight-without key (e ∷ es) = by (is_for key e) (weight-without key es)
    where
      by : (is : Bool) → all_weight (without key es) ≤ all_weight es
          → all_weight (cond (not is) (e ∷ without key es) (without key es)) ≤ all_weight (e ∷ es)
      by true tail = omega arith
      by false tail = omega arith

  -- ---- entries that are marked

  pub key-marked : (now : ℕ) (e : Entry V) → (marked_at now e).key ≡ e.key
  key-marked now e = by (is_current now e)
    where
      by : (is : Bool) → (cond is (record e { asked_again = true }) e).key ≡ e.key
      by true = refl
      by false = refl

  pub weight-marked : (now : ℕ) (e : Entry V) → (marked_at now e).weight ≡ e.weight
  weight-marked now e = by (is_current now e)
    where
      by : (is : Bool) → (cond is (record e { asked_again = true }) e).weight ≡ e.weight
      by true = refl
      by false = refl

  -- the keys and the weights stay where f keeps them
  module _ (f : Entry V → Entry V) (keys : (e : Entry V) → (f e).key ≡ e.key)
      (weights : (e : Entry V) → (f e).weight ≡ e.weight) where
    has-map : (key : List ℕ) (es : List (Entry V)) → has key (map f es) ≡ has key es
    has-map key [] = refl
    has-map key (e ∷ es) =
        ap (λ (k : List ℕ). bytes_eq key k || has key (map f es)) (keys e) ∙ ap (λ (b : Bool). is_for key e || b)
        (has-map key es)

    apart-map : (es : List (Entry V)) → AreApart es → AreApart (map f es)
    apart-map [] apart = tt
    apart-map (e ∷ es) apart =
        (ap (λ (k : List ℕ). has k (map f es)) (keys e) ∙ has-map e.key es ∙ apart.0, apart-map es apart.1)

    weight-map : (es : List (Entry V)) → all_weight (map f es) ≡ all_weight es
    weight-map [] = refl
    weight-map (e ∷ es) =
        ap (λ (n : ℕ). n + all_weight (map f es)) (weights e) ∙ ap (λ (n : ℕ). e.weight + n) (weight-map es)

    length-map : (es : List (Entry V)) → length (map f es) ≡ length es
    length-map [] = refl
    length-map (e ∷ es) = ap suc (length-map es)

  module _ (key : List ℕ) (now : ℕ) where
    abbrev asked_entry : Entry V → Entry V
    asked_entry e = cond (is_for key e) (marked_at now e) e

    key-asked : (e : Entry V) → (asked_entry e).key ≡ e.key
    key-asked e = by (is_for key e)
      where
        by : (is : Bool) → (cond is (marked_at now e) e).key ≡ e.key
        by true = key-marked now e
        by false = refl

    weight-asked : (e : Entry V) → (asked_entry e).weight ≡ e.weight
    weight-asked e = by (is_for key e)
      where
        by : (is : Bool) → (cond is (marked_at now e) e).weight ≡ e.weight
        by true = weight-marked now e
        by false = refl

    pub has-asked : (other : List ℕ) (es : List (Entry V)) → has other (asked key now es) ≡ has other es
    has-asked other es = has-map asked_entry key-asked weight-asked other es

    pub apart-asked : (es : List (Entry V)) → AreApart es → AreApart (asked key now es)
    apart-asked es apart = apart-map asked_entry key-asked weight-asked es apart

    pub all_weight-asked : (es : List (Entry V)) → all_weight (asked key now es) ≡ all_weight es
    all_weight-asked es = weight-map asked_entry key-asked weight-asked es

    pub length-asked : (es : List (Entry V)) → length (asked key now es) ≡ length es
    length-asked es = length-map asked_entry key-asked weight-asked es

    pub asked-absent : (es : List (Entry V)) → has key es ≡ false → asked key now es ≡ es
    asked-absent [] h = refl
    asked-absent (e ∷ es) h =
        let parts = or_none (is_for key e) (has key es) h in
        rw (parts.0) (ap (λ (l : List (Entry V)). e ∷ l) (asked-absent es parts.1))

  pub find-absent : (key : List ℕ) (es : List (Entry V)) → has key es ≡ false → find (is_for key) es ≡ None
  find-absent key [] h = refl
  find-absent key (e ∷ es) h =
      let parts = or_none (is_for key e) (has key es) h in
      rw (parts.0) (find-absent key es parts.1)

  -- ---- what is told does not change where it is asked for

  module _ (key : List ℕ) (now : ℕ) where
    told-own : (e : Entry V) (es fs : List (Entry V)) → is_for key e ≡ true
        → told key now (marked_at now e ∷ es) ≡ told key now (e ∷ fs)
    told-own e es fs own = by (is_current now e) refl
      where
        by : (d : Bool) → is_current now e ≡ d
            → told key now (cond d (record e { asked_again = true }) e ∷ es) ≡ told key now (e ∷ fs)
        by true h = rw (own, h)
        by false h = rw (own, h)

    pub told-asked : (es : List (Entry V)) → told key now (asked key now es) ≡ told key now es
    told-asked [] = refl
    told-asked (e ∷ es) = by (is_for key e) refl (told-asked es)
      where
        by : (b : Bool) → is_for key e ≡ b → told key now (asked key now es) ≡ told key now es
            → told key now (cond b (marked_at now e) e ∷ asked key now es) ≡ told key now (e ∷ es)
        by true own rest = told-own e (asked key now es) es own
        by false own rest = rw own rest
