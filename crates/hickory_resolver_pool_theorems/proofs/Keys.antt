-- Entries by number: what is looked up after one is put in, changed or taken out.
use Rattle.std.proofs.Common.{◌≡◌, ℕ, Bool, true, false, cond, List, [], ◌∷◌, refl, ap, sym, ◌∙◌, eqb, eqb-true, eq-eqb, true≢false}
use Rattle.std.specs.Prelude.{Option, None, Some}
use Rattle.std.specs.declared.cmp.Ordering.{Ordering}
use Rattle.std.specs.declared.cmp.Ordering.TheVariants.{Less, Equal, Greater}
use Rattle.std.specs.Ordering.{nat_cmp, is_eq, match_ordering, ordering_then}
use Rattle.std.specs.Cmp.{unsigned_tied}
use Rattle.std.specs.Map.{lookup, remove_entry, set_value}
use Rattle.std.specs.BTreeMap.{insert_entry, is_at}
use Rattle.hickory_resolver_channels.specs.Channels.{pair_cmp}

-- ---- what compares as equal to itself

module _ {K X : Type 0} (cmp : K → K → Ordering) (self : (k : K) → cmp k k ≡ Equal) (k : K) (v : X) where
  pub found-inserted : (es : List (K × X)) → lookup (is_at (cmp k)) (insert_entry cmp es k v) ≡ Some v
  found-inserted [] = ap (λ (o : Ordering). cond (is_eq o) (Some v) None) (self k)
  found-inserted (e ∷ es) = by (cmp k e.0) refl (found-inserted es)
    where
      by : (o : Ordering) → cmp k e.0 ≡ o → lookup (is_at (cmp k)) (insert_entry cmp es k v) ≡ Some v
          → lookup (is_at (cmp k)) (match_ordering o ((k, v) ∷ e ∷ es) ((e.0, v) ∷ es) (e ∷ insert_entry cmp es k v))
          ≡ Some v
      by Less is more =
          ap (λ (o : Ordering). cond (is_eq o) (Some v) (lookup (is_at (cmp k)) (e ∷ es))) (self k)
      by Equal is more = ap (λ (o : Ordering). cond (is_eq o) (Some v) (lookup (is_at (cmp k)) es)) is
      by Greater is more =
          ap (λ (o : Ordering). cond (is_eq o) (Some e.1) (lookup (is_at (cmp k)) (insert_entry cmp es k v))) is ∙ more

pub nat-self : (k : ℕ) → nat_cmp k k ≡ Equal
nat-self k = by (nat_cmp k k) (unsigned_tied k k ∙ eq-eqb k k refl)
  where
    by : (o : Ordering) → is_eq o ≡ true → o ≡ Equal
    by Less h = absurd (true≢false (sym h))
    by Equal h = refl
    by Greater h = absurd (true≢false (sym h))

pub pair-self : (p : ℕ × ℕ) → pair_cmp p p ≡ Equal
pair-self p = ap (λ (o : Ordering). ordering_then o (nat_cmp p.1 p.1)) (nat-self p.0) ∙ nat-self p.1

-- ---- numbers

pub at-is : (q k : ℕ) → is_at (nat_cmp q) k ≡ true → q ≡ k
at-is q k h = eqb-true q k (sym (unsigned_tied q k) ∙ h)

pub apart-is : (q k : ℕ) → eqb q k ≡ false → is_at (nat_cmp q) k ≡ false
apart-is q k h = unsigned_tied q k ∙ h

module _ {X : Type 0} (q k : ℕ) (apart : is_at (nat_cmp q) k ≡ false) (v : X) where
  -- an entry of the number k, or of one that is equal to it, is not that of q
  not-at : (m : ℕ) → is_at (nat_cmp k) m ≡ true → is_at (nat_cmp q) m ≡ false
  not-at m h = ap (λ (n : ℕ). is_at (nat_cmp q) n) (sym (at-is k m h)) ∙ apart

  pub others-inserted : (es : List (ℕ × X))
      → lookup (is_at (nat_cmp q)) (insert_entry nat_cmp es k v) ≡ lookup (is_at (nat_cmp q)) es
  others-inserted [] = ap (λ (b : Bool). cond b (Some v) None) apart
  others-inserted (e ∷ es) = by (nat_cmp k e.0) refl (others-inserted es)
    where
      by : (o : Ordering) → nat_cmp k e.0 ≡ o
          → lookup (is_at (nat_cmp q)) (insert_entry nat_cmp es k v) ≡ lookup (is_at (nat_cmp q)) es
          → lookup (is_at (nat_cmp q)) (match_ordering o ((k, v) ∷ e ∷ es) ((e.0, v) ∷ es) (e ∷ insert_entry nat_cmp es k v))
          ≡ lookup (is_at (nat_cmp q)) (e ∷ es)
      by Less is more = ap (λ (b : Bool). cond b (Some v) (lookup (is_at (nat_cmp q)) (e ∷ es))) apart
      by Equal is more =
          let none_is = not-at e.0 (ap is_eq is) in
          ap (λ (b : Bool). cond b (Some v) (lookup (is_at (nat_cmp q)) es)) none_is
          ∙ sym (ap (λ (b : Bool). cond b (Some e.1) (lookup (is_at (nat_cmp q)) es)) none_is)
      by Greater is more =
          ap (λ (found : Option X). cond (is_at (nat_cmp q) e.0) (Some e.1) found) more

  pub others-set : (es : List (ℕ × X))
      → lookup (is_at (nat_cmp q)) (set_value (is_at (nat_cmp k)) es v) ≡ lookup (is_at (nat_cmp q)) es
  others-set [] = refl
  others-set (e ∷ es) = by (is_at (nat_cmp k) e.0) refl (others-set es)
    where
      by : (b : Bool) → is_at (nat_cmp k) e.0 ≡ b
          → lookup (is_at (nat_cmp q)) (set_value (is_at (nat_cmp k)) es v) ≡ lookup (is_at (nat_cmp q)) es
          → lookup (is_at (nat_cmp q)) (cond b ((e.0, v) ∷ es) (e ∷ set_value (is_at (nat_cmp k)) es v))
          ≡ lookup (is_at (nat_cmp q)) (e ∷ es)
      by true is more =
          let none_is = not-at e.0 is in
          ap (λ (b : Bool). cond b (Some v) (lookup (is_at (nat_cmp q)) es)) none_is
          ∙ sym (ap (λ (b : Bool). cond b (Some e.1) (lookup (is_at (nat_cmp q)) es)) none_is)
      by false is more = ap (λ (found : Option X). cond (is_at (nat_cmp q) e.0) (Some e.1) found) more

module _ {X : Type 0} (q k : ℕ) (apart : is_at (nat_cmp q) k ≡ false) where
  pub others-removed : (es : List (ℕ × X))
      → lookup (is_at (nat_cmp q)) (remove_entry (is_at (nat_cmp k)) es) ≡ lookup (is_at (nat_cmp q)) es
  others-removed [] = refl
  others-removed (e ∷ es) = by (is_at (nat_cmp k) e.0) refl (others-removed es)
    where
      by : (b : Bool) → is_at (nat_cmp k) e.0 ≡ b
          → lookup (is_at (nat_cmp q)) (remove_entry (is_at (nat_cmp k)) es) ≡ lookup (is_at (nat_cmp q)) es
          → lookup (is_at (nat_cmp q)) (cond b es (e ∷ remove_entry (is_at (nat_cmp k)) es))
          ≡ lookup (is_at (nat_cmp q)) (e ∷ es)
      by true is more =
          let none_is : is_at (nat_cmp q) e.0 ≡ false =
          ap (λ (n : ℕ). is_at (nat_cmp q) n) (sym (at-is k e.0 is)) ∙ apart in
          sym (ap (λ (b : Bool). cond b (Some e.1) (lookup (is_at (nat_cmp q)) es)) none_is)
      by false is more = ap (λ (found : Option X). cond (is_at (nat_cmp q) e.0) (Some e.1) found) more

pub found-set : {X : Type 0} (test : ℕ → Bool) (es : List (ℕ × X)) (old new : X) → lookup test es ≡ Some old
    → lookup test (set_value test es new) ≡ Some new
found-set test [] old new h = absurd cc
found-set {X} test (e ∷ es) old new h = by (test e.0) refl (found-set test es old new) h
  where
    by : (b : Bool) → test e.0 ≡ b → (lookup test es ≡ Some old → lookup test (set_value test es new) ≡ Some new)
        → cond b (Some e.1) (lookup test es) ≡ Some old
        → lookup test (cond b ((e.0, new) ∷ es) (e ∷ set_value test es new)) ≡ Some new
    by true is more g = ap (λ (b : Bool). cond b (Some new) (lookup test es)) is
    by false is more g = ap (λ (b : Bool). cond b (Some e.1) (lookup test (set_value test es new))) is ∙ more g

-- ---- no number twice

abbrev pub Apart : {X : Type 0} → List (ℕ × X) → Type 0
Apart [] = Unit {0}
Apart (e ∷ es) = (lookup (is_at (nat_cmp e.0)) es ≡ None) × Apart es

module _ {X : Type 0} where
  pub apart-set : (k : ℕ) (v : X) (es : List (ℕ × X)) → Apart es → Apart (set_value (is_at (nat_cmp k)) es v)
  apart-set k v [] a = tt
  apart-set k v (e ∷ es) a = by (is_at (nat_cmp k) e.0) refl (apart-set k v es a.1)
    where
      none : (b : Bool) → is_at (nat_cmp e.0) k ≡ b → is_at (nat_cmp k) e.0 ≡ false
          → lookup (is_at (nat_cmp e.0)) (set_value (is_at (nat_cmp k)) es v) ≡ None
      none true same not =
          absurd (true≢false (sym (ap (λ (m : ℕ). is_at (nat_cmp k) m) (at-is e.0 k same) ∙ ap is_eq (nat-self k)) ∙ not))
      none false other not = others-set e.0 k other v es ∙ a.0

      by : (b : Bool) → is_at (nat_cmp k) e.0 ≡ b → Apart (set_value (is_at (nat_cmp k)) es v)
          → Apart (cond b ((e.0, v) ∷ es) (e ∷ set_value (is_at (nat_cmp k)) es v))
      by true is more = a
      by false is more = (none (is_at (nat_cmp e.0) k) refl is, more)

  pub apart-inserted : (k : ℕ) (v : X) (es : List (ℕ × X)) → lookup (is_at (nat_cmp k)) es ≡ None → Apart es
      → Apart (insert_entry nat_cmp es k v)
  apart-inserted k v [] none_is a = (refl, tt)
  apart-inserted k v (e ∷ es) none_is a = by (nat_cmp k e.0) refl (λ n. apart-inserted k v es n a.1)
    where
      rest : (o : Ordering) → nat_cmp k e.0 ≡ o → is_eq o ≡ false → lookup (is_at (nat_cmp k)) es ≡ None
      rest o is not =
          sym (ap (λ (b : Bool). cond b (Some e.1) (lookup (is_at (nat_cmp k)) es)) (ap is_eq is ∙ not)) ∙ none_is

      none : (b : Bool) → is_at (nat_cmp e.0) k ≡ b → is_at (nat_cmp k) e.0 ≡ false
          → lookup (is_at (nat_cmp e.0)) (insert_entry nat_cmp es k v) ≡ None
      none true same not =
          absurd (true≢false (sym (ap (λ (m : ℕ). is_at (nat_cmp k) m) (at-is e.0 k same) ∙ ap is_eq (nat-self k)) ∙ not))
      none false other not = others-inserted e.0 k other v es ∙ a.0

      by : (o : Ordering) → nat_cmp k e.0 ≡ o
          → (lookup (is_at (nat_cmp k)) es ≡ None → Apart (insert_entry nat_cmp es k v))
          → Apart (match_ordering o ((k, v) ∷ e ∷ es) ((e.0, v) ∷ es) (e ∷ insert_entry nat_cmp es k v))
      by Less is more = (none_is, a)
      by Equal is more = a
      by Greater is more =
          (none (is_at (nat_cmp e.0) k) refl (ap is_eq is), more (rest Greater is refl))

  none-removed : (q k : ℕ) (es : List (ℕ × X)) → lookup (is_at (nat_cmp q)) es ≡ None
      → lookup (is_at (nat_cmp q)) (remove_entry (is_at (nat_cmp k)) es) ≡ None
  none-removed q k [] none_is = refl
  none-removed q k (e ∷ es) none_is = by (is_at (nat_cmp k) e.0) (is_at (nat_cmp q) e.0) refl none_is (none-removed q k es)
    where
      by : (b c : Bool) → is_at (nat_cmp q) e.0 ≡ c → cond c (Some e.1) (lookup (is_at (nat_cmp q)) es) ≡ None
          → (lookup (is_at (nat_cmp q)) es ≡ None
          → lookup (is_at (nat_cmp q)) (remove_entry (is_at (nat_cmp k)) es) ≡ None)
          → lookup (is_at (nat_cmp q)) (cond b es (e ∷ remove_entry (is_at (nat_cmp k)) es)) ≡ None
      by b true is h more = absurd cc
      by true false is h more = h
      by false false is h more =
          ap (λ (x : Bool). cond x (Some e.1) (lookup (is_at (nat_cmp q)) (remove_entry (is_at (nat_cmp k)) es))) is
          ∙ more h

  pub apart-removed : (k : ℕ) (es : List (ℕ × X)) → Apart es → Apart (remove_entry (is_at (nat_cmp k)) es)
  apart-removed k [] a = tt
  apart-removed k (e ∷ es) a = by (is_at (nat_cmp k) e.0) (apart-removed k es a.1)
    where
      by : (b : Bool) → Apart (remove_entry (is_at (nat_cmp k)) es)
          → Apart (cond b es (e ∷ remove_entry (is_at (nat_cmp k)) es))
      by true more = a.1
      by false more = (none-removed e.0 k es a.0, more)

  pub gone-removed : (k : ℕ) (es : List (ℕ × X)) → Apart es
      → lookup (is_at (nat_cmp k)) (remove_entry (is_at (nat_cmp k)) es) ≡ None
  gone-removed k [] a = refl
  gone-removed k (e ∷ es) a = by (is_at (nat_cmp k) e.0) refl (gone-removed k es a.1)
    where
      by : (b : Bool) → is_at (nat_cmp k) e.0 ≡ b
          → lookup (is_at (nat_cmp k)) (remove_entry (is_at (nat_cmp k)) es) ≡ None
          → lookup (is_at (nat_cmp k)) (cond b es (e ∷ remove_entry (is_at (nat_cmp k)) es)) ≡ None
      by true is more = ap (λ (n : ℕ). lookup (is_at (nat_cmp n)) es) (at-is k e.0 is) ∙ a.0
      by false is more =
          ap (λ (x : Bool). cond x (Some e.1) (lookup (is_at (nat_cmp k)) (remove_entry (is_at (nat_cmp k)) es))) is ∙ more
