-- Numbers of askers, and values under numbers.
use Rattle.std.proofs.Common.{◌≡◌, ◌<◌, ◌+◌, suc, ℕ, Bool, true, false, cond, not, ◌||◌, ltb, eqb, eqb-true, List, [], ◌∷◌, ◌++◌, length, drop, refl, ap, sym, subst, ◌∙◌, true≢false, one-add, arith}
use Rattle.std.proofs.lemmas.Bool.{ltb-true, ltb-false, lt-ltb}
use Rattle.std.specs.Prelude.{Option, None, Some, IfSome, slice_get, remove}
use Rattle.std.specs.Ordering.{nat_cmp, is_eq}
use Rattle.std.specs.List.{AllByRecursion, list_any, position_or_len}
use Rattle.std.specs.Map.{lookup, remove_entry, set_value}
use Rattle.std.specs.BTreeMap.{insert_entry, is_at}
use Rattle.std.specs.Option.{option_map_or}
use Rattle.hickory_resolver_askers.specs.Askers.{without}
use Rattle.hickory_resolver_pool_theorems.specs.Tellings.{EachOnce}
use Rattle.hickory_resolver_pool_theorems.proofs.Keys.{nat-self, at-is, apart-is, found-inserted, others-inserted, others-set, found-set, others-removed, Apart, apart-set, apart-inserted, apart-removed, gone-removed}

-- ---- one is left out

ltb-suc : (a b : ℕ) → ltb (suc a) (suc b) ≡ ltb a b
ltb-suc a b = by (ltb (suc a) (suc b)) (ltb a b) refl refl
  where
    by : (t u : Bool) → ltb (suc a) (suc b) ≡ t → ltb a b ≡ u → t ≡ u
    by true true is other = refl
    by false false is other = refl
    by true false is other = absurd (omega (arith, ltb-true (suc a) (suc b) is, ltb-false a b other))
    by false true is other = absurd (omega (arith, ltb-false (suc a) (suc b) is, ltb-true a b other))

pub without-cons : (k x : ℕ) (xs : List ℕ) → without k (x ∷ xs) ≡ cond (eqb x k) xs (x ∷ without k xs)
without-cons k x xs = by (eqb x k)
  where
    behind : ℕ
    behind = position_or_len (λ n. eqb n k) xs

    later : (b : Bool) → option_map_or (remove (x ∷ xs)) (cond b (Some (suc behind)) None) (x ∷ xs)
        ≡ x ∷ option_map_or (remove xs) (cond b (Some behind) None) xs
    later true = refl
    later false = refl

    by : (b : Bool)
        → option_map_or (remove (x ∷ xs)) (cond (ltb (cond (not b) (1 + behind) 0) (suc (length xs)))
        (Some (cond (not b) (1 + behind) 0)) None) (x ∷ xs)
        ≡ cond b xs (x ∷ without k xs)
    by true =
        ap (λ (less : Bool). option_map_or (remove (x ∷ xs)) (cond less (Some 0) None) (x ∷ xs))
        (lt-ltb 0 (suc (length xs)) (omega arith))
    by false =
        ap (λ (m : ℕ). option_map_or (remove (x ∷ xs)) (cond (ltb m (suc (length xs))) (Some m) None) (x ∷ xs))
        (one-add behind)
        ∙ ap (λ (less : Bool). option_map_or (remove (x ∷ xs)) (cond less (Some (suc behind)) None) (x ∷ xs))
        (ltb-suc behind (length xs))
        ∙ later (ltb behind (length xs))

module _ (P : ℕ → Type 0) where
  pub all-without : (k : ℕ) (xs : List ℕ) → AllByRecursion P xs → AllByRecursion P (without k xs)
  all-without k [] all = tt
  all-without k (x ∷ xs) all =
      subst (AllByRecursion P) (sym (without-cons k x xs)) (by (eqb x k) (all-without k xs all.1))
    where
      by : (b : Bool) → AllByRecursion P (without k xs) → AllByRecursion P (cond b xs (x ∷ without k xs))
      by true more = all.1
      by false more = (all.0, more)

  pub all-pushed : (k : ℕ) (xs : List ℕ) → AllByRecursion P xs → P k → AllByRecursion P (xs ++ k ∷ [])
  all-pushed k [] all own = (own, tt)
  all-pushed k (x ∷ xs) all own = (all.0, all-pushed k xs all.1 own)

pub all-as : (P Q : ℕ → Type 0) → ((n : ℕ) → P n → Q n) → (xs : List ℕ) → AllByRecursion P xs → AllByRecursion Q xs
all-as P Q gives [] all = tt
all-as P Q gives (x ∷ xs) all = (gives x all.0, all-as P Q gives xs all.1)

pub once-without : (k : ℕ) (xs : List ℕ) → EachOnce xs → EachOnce (without k xs)
once-without k [] once = tt
once-without k (x ∷ xs) once =
    subst EachOnce (sym (without-cons k x xs)) (by (eqb x k) (once-without k xs once.1))
  where
    by : (b : Bool) → EachOnce (without k xs) → EachOnce (cond b xs (x ∷ without k xs))
    by true more = once.1
    by false more = (all-without (λ m. m ≡ x → ⊥) k xs once.0, more)

pub once-pushed : (k : ℕ) (xs : List ℕ) → EachOnce xs → AllByRecursion (λ n. n < k) xs → EachOnce (xs ++ k ∷ [])
once-pushed k [] once less = (tt, tt)
once-pushed k (x ∷ xs) once less = (
  all-pushed (λ m. m ≡ x → ⊥) k xs once.0 (λ same. omega (arith, less.0, same)),
  once-pushed k xs once.1 less.1,
)

pub without-none : (k : ℕ) (xs : List ℕ) → list_any (λ n. eqb n k) xs ≡ false → without k xs ≡ xs
without-none k [] none = refl
without-none k (x ∷ xs) none = by (eqb x k) refl (without-none k xs) none
  where
    by : (b : Bool) → eqb x k ≡ b → (list_any (λ n. eqb n k) xs ≡ false → without k xs ≡ xs)
        → (b || list_any (λ n. eqb n k) xs) ≡ false → without k (x ∷ xs) ≡ x ∷ xs
    by true is more h = absurd (true≢false h)
    by false is more h =
        without-cons k x xs ∙ ap (λ (b : Bool). cond b xs (x ∷ without k xs)) is ∙ ap (λ (ys : List ℕ). x ∷ ys) (more h)

-- ---- values under numbers, each as it has to be

at-self : (n : ℕ) → is_at (nat_cmp n) n ≡ true
at-self n = ap is_eq (nat-self n)

module _ {X : Type 0} where
  abbrev pub At : ℕ → List (ℕ × X) → Option X
  At n es = lookup (is_at (nat_cmp n)) es

  pub none-inserted : (q k : ℕ) (v : X) (es : List (ℕ × X)) → eqb q k ≡ false → At q es ≡ None
      → At q (insert_entry nat_cmp es k v) ≡ None
  none-inserted q k v es apart none = others-inserted q k (apart-is q k apart) v es ∙ none

  pub none-set : (q k : ℕ) (v : X) (es : List (ℕ × X)) → At q es ≡ None
      → At q (set_value (is_at (nat_cmp k)) es v) ≡ None
  none-set q k v [] none = refl
  none-set q k v (e ∷ es) none = by (is_at (nat_cmp k) e.0) (is_at (nat_cmp q) e.0) refl none (none-set q k v es)
    where
      by : (b c : Bool) → is_at (nat_cmp q) e.0 ≡ c → cond c (Some e.1) (At q es) ≡ None
          → (At q es ≡ None → At q (set_value (is_at (nat_cmp k)) es v) ≡ None)
          → At q (cond b ((e.0, v) ∷ es) (e ∷ set_value (is_at (nat_cmp k)) es v)) ≡ None
      by b true is h more = absurd cc
      by true false is h more = ap (λ (x : Bool). cond x (Some v) (At q es)) is ∙ h
      by false false is h more =
          ap (λ (x : Bool). cond x (Some e.1) (At q (set_value (is_at (nat_cmp k)) es v))) is ∙ more h

  pub none-removed : (q k : ℕ) (es : List (ℕ × X)) → At q es ≡ None
      → At q (remove_entry (is_at (nat_cmp k)) es) ≡ None
  none-removed q k [] none = refl
  none-removed q k (e ∷ es) none = by (is_at (nat_cmp k) e.0) (is_at (nat_cmp q) e.0) refl none (none-removed q k es)
    where
      by : (b c : Bool) → is_at (nat_cmp q) e.0 ≡ c → cond c (Some e.1) (At q es) ≡ None
          → (At q es ≡ None → At q (remove_entry (is_at (nat_cmp k)) es) ≡ None)
          → At q (cond b es (e ∷ remove_entry (is_at (nat_cmp k)) es)) ≡ None
      by b true is h more = absurd cc
      by true false is h more = h
      by false false is h more =
          ap (λ (x : Bool). cond x (Some e.1) (At q (remove_entry (is_at (nat_cmp k)) es))) is ∙ more h

  pub none-dropped : (q : ℕ) (es : List (ℕ × X)) → At q es ≡ None → At q (drop 1 es) ≡ None
  none-dropped q [] none = refl
  none-dropped q (e ∷ es) none = by (is_at (nat_cmp q) e.0) none
    where
      by : (b : Bool) → cond b (Some e.1) (At q es) ≡ None → At q es ≡ None
      by true h = absurd cc
      by false h = h

  -- the first
  pub first-at : (f : ℕ × X) (es : List (ℕ × X)) → slice_get es 0 ≡ Some f → At f.0 es ≡ Some f.1
  first-at f [] is = absurd cc
  first-at f (e ∷ es) is =
      let same : e ≡ f = cc in
      subst (λ (g : ℕ × X). At g.0 (e ∷ es) ≡ Some g.1) same
      (ap (λ (b : Bool). cond b (Some e.1) (At e.0 es)) (at-self e.0))

  -- where none is of this number, the first is of another
  pub first-apart : (n : ℕ) (f : ℕ × X) (es : List (ℕ × X)) → At n es ≡ None → slice_get es 0 ≡ Some f
      → eqb n f.0 ≡ false
  first-apart n f es none is = by (eqb n f.0) refl
    where
      by : (b : Bool) → eqb n f.0 ≡ b → b ≡ false
      by false same = refl
      by true same =
          let no_such : None ≡ Some f.1 =
          sym (ap (λ (k : ℕ). At k es) (sym (eqb-true n f.0 same)) ∙ none) ∙ first-at f es is in
          absurd cc

  pub first-gone : (f : ℕ × X) (es : List (ℕ × X)) → slice_get es 0 ≡ Some f → Apart es → At f.0 (drop 1 es) ≡ None
  first-gone f [] is apart = absurd cc
  first-gone f (e ∷ es) is apart =
      let same : e ≡ f = cc in subst (λ (g : ℕ × X). At g.0 es ≡ None) same apart.0

  pub apart-dropped : (es : List (ℕ × X)) → Apart es → Apart (drop 1 es)
  apart-dropped [] apart = tt
  apart-dropped (e ∷ es) apart = apart.1

  module _ (P : ℕ → X → Type 0) where
    -- each number once, and what is under it as it has to be
    pub record Keeps (es : List (ℕ × X)) : Type 0 where
      pub apart : Apart es
      pub each : (n : ℕ) → IfSome (At n es) (P n)

    pub keeps-removed : (k : ℕ) (es : List (ℕ × X)) → Keeps es → Keeps (remove_entry (is_at (nat_cmp k)) es)
    keeps-removed k es w = record {
      apart = apart-removed k es w.apart;
      each = λ n. by n (eqb n k) refl;
    }
      where
        by : (n : ℕ) (b : Bool) → eqb n k ≡ b → IfSome (At n (remove_entry (is_at (nat_cmp k)) es)) (P n)
        by n true is =
            subst (λ (o : Option X). IfSome o (P n)) (sym (ap (λ (m : ℕ). At m (remove_entry (is_at (nat_cmp k)) es)) (eqb-true n k is)
            ∙ gone-removed k es w.apart)) tt
        by n false is =
            subst (λ (o : Option X). IfSome o (P n)) (sym (others-removed n k (apart-is n k is) es)) (w.each n)

    pub keeps-inserted : (k : ℕ) (v : X) (es : List (ℕ × X)) → At k es ≡ None → P k v → Keeps es
        → Keeps (insert_entry nat_cmp es k v)
    keeps-inserted k v es none own w = record {
      apart = apart-inserted k v es none w.apart;
      each = λ n. by n (eqb n k) refl;
    }
      where
        by : (n : ℕ) (b : Bool) → eqb n k ≡ b → IfSome (At n (insert_entry nat_cmp es k v)) (P n)
        by n true is =
            subst (λ (m : ℕ). IfSome (At m (insert_entry nat_cmp es k v)) (P m)) (sym (eqb-true n k is))
            (subst (λ (o : Option X). IfSome o (P k)) (sym (found-inserted nat_cmp nat-self k v es)) own)
        by n false is =
            subst (λ (o : Option X). IfSome o (P n)) (sym (others-inserted n k (apart-is n k is) v es)) (w.each n)

    pub keeps-dropped : (es : List (ℕ × X)) → Keeps es → Keeps (drop 1 es)
    keeps-dropped [] w = w
    keeps-dropped (e ∷ es) w = record { apart = w.apart.1; each = λ n. by n (is_at (nat_cmp n) e.0) refl (w.each n) }
      where
        by : (n : ℕ) (b : Bool) → is_at (nat_cmp n) e.0 ≡ b → IfSome (cond b (Some e.1) (At n es)) (P n)
            → IfSome (At n es) (P n)
        by n true is own =
            subst (λ (o : Option X). IfSome o (P n)) (sym (ap (λ (m : ℕ). At m es) (at-is n e.0 is) ∙ w.apart.0)) tt
        by n false is own = own

  -- another under one number, and elsewhere the same
  module _ (P Q : ℕ → X → Type 0) (k : ℕ) (others : (n : ℕ) → eqb n k ≡ false → (x : X) → P n x → Q n x) where
    as-if : (n : ℕ) (o : Option X) → eqb n k ≡ false → IfSome o (P n) → IfSome o (Q n)
    as-if n None is own = tt
    as-if n (Some x) is own = others n is x own

    pub keeps-set : (old v : X) (es : List (ℕ × X)) → At k es ≡ Some old → Q k v → Keeps P es
        → Keeps Q (set_value (is_at (nat_cmp k)) es v)
    keeps-set old v es found own w = record {
      apart = apart-set k v es w.apart;
      each = λ n. by n (eqb n k) refl;
    }
      where
        by : (n : ℕ) (b : Bool) → eqb n k ≡ b → IfSome (At n (set_value (is_at (nat_cmp k)) es v)) (Q n)
        by n true is =
            subst (λ (m : ℕ). IfSome (At m (set_value (is_at (nat_cmp k)) es v)) (Q m)) (sym (eqb-true n k is))
            (subst (λ (o : Option X). IfSome o (Q k)) (sym (found-set (is_at (nat_cmp k)) es old v found)) own)
        by n false is =
            subst (λ (o : Option X). IfSome o (Q n)) (sym (others-set n k (apart-is n k is) v es))
            (as-if n (At n es) is (w.each n))

    pub keeps-without : (es : List (ℕ × X)) → At k es ≡ None → Keeps P es → Keeps Q es
    keeps-without es none w = record { apart = w.apart; each = λ n. by n (eqb n k) refl }
      where
        by : (n : ℕ) (b : Bool) → eqb n k ≡ b → IfSome (At n es) (Q n)
        by n true is =
            subst (λ (o : Option X). IfSome o (Q n)) (sym (ap (λ (m : ℕ). At m es) (eqb-true n k is) ∙ none)) tt
        by n false is = as-if n (At n es) is (w.each n)

    -- where there is one or none
    pub keeps-changed : (change : X → X) → ((x : X) → P k x → Q k (change x)) → (es : List (ℕ × X)) → Keeps P es
        → Keeps Q (option_map_or (λ x. set_value (is_at (nat_cmp k)) es (change x)) (At k es) es)
    keeps-changed change gives es w = by (At k es) refl
      where
        by : (o : Option X) → At k es ≡ o
            → Keeps Q (option_map_or (λ x. set_value (is_at (nat_cmp k)) es (change x)) o es)
        by None none = keeps-without es none w
        by (Some x) found =
            keeps-set x (change x) es found
            (gives x (subst (λ (o : Option X). IfSome o (P k)) found (w.each k))) w

  pub none-changed : (q k : ℕ) (change : X → X) (es : List (ℕ × X)) → At q es ≡ None
      → At q (option_map_or (λ x. set_value (is_at (nat_cmp k)) es (change x)) (At k es) es) ≡ None
  none-changed q k change es none = by (At k es)
    where
      by : (o : Option X) → At q (option_map_or (λ x. set_value (is_at (nat_cmp k)) es (change x)) o es) ≡ None
      by None = none
      by (Some x) = none-set q k (change x) es none

pub keeps-as : {X : Type 0} (P Q : ℕ → X → Type 0) → ((n : ℕ) (x : X) → P n x → Q n x) → (es : List (ℕ × X))
    → Keeps P es → Keeps Q es
keeps-as {X} P Q gives es w = record { apart = w.apart; each = λ n. by n (At n es) (w.each n) }
  where
    by : (n : ℕ) (o : Option X) → IfSome o (P n) → IfSome o (Q n)
    by n None own = tt
    by n (Some x) own = gives n x own
