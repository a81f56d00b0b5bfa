-- Entries by keys of which no two are equal: what is looked up after one is put in or taken out.
use Rattle.std.proofs.Common.{◌≡◌, Bool, true, false, cond, List, [], ◌∷◌, refl, ap, sym, ◌∙◌, true≢false}
use Rattle.std.specs.Prelude.{Option, None, Some}
use Rattle.std.specs.declared.cmp.Ordering.{Ordering}
use Rattle.std.specs.declared.cmp.Ordering.TheVariants.{Less, Equal, Greater}
use Rattle.std.specs.Ordering.{is_eq, match_ordering}
use Rattle.std.specs.Map.{lookup, remove_entry}
use Rattle.std.specs.BTreeMap.{insert_entry, is_at}

module _ {K : Type 0} (cmp : K → K → Ordering) (self : (k : K) → cmp k k ≡ Equal)
    (one : (q k : K) → is_at (cmp q) k ≡ true → q ≡ k) where
  pub other-is : (q k : K) → (q ≡ k → ⊥) → is_at (cmp q) k ≡ false
  other-is q k apart = by (is_at (cmp q) k) refl
    where
      by : (b : Bool) → is_at (cmp q) k ≡ b → b ≡ false
      by true is = absurd (apart (one q k is))
      by false is = refl

  module _ {X : Type 0} (q k : K) (apart : is_at (cmp q) k ≡ false) (v : X) where
    -- an entry of the number k, or of one that is equal to it, is not that of q
    not-at : (m : K) → is_at (cmp k) m ≡ true → is_at (cmp q) m ≡ false
    not-at m h = ap (λ (n : K). is_at (cmp q) n) (sym (one k m h)) ∙ apart

    pub others-inserted : (es : List (K × X))
        → lookup (is_at (cmp q)) (insert_entry cmp es k v) ≡ lookup (is_at (cmp q)) es
    others-inserted [] = ap (λ (b : Bool). cond b (Some v) None) apart
    others-inserted (e ∷ es) = by (cmp k e.0) refl (others-inserted es)
      where
        by : (o : Ordering) → cmp k e.0 ≡ o
            → lookup (is_at (cmp q)) (insert_entry cmp es k v) ≡ lookup (is_at (cmp q)) es
            → lookup (is_at (cmp q)) (match_ordering o ((k, v) ∷ e ∷ es) ((e.0, v) ∷ es) (e ∷ insert_entry cmp es k v))
            ≡ lookup (is_at (cmp q)) (e ∷ es)
        by Less is more = ap (λ (b : Bool). cond b (Some v) (lookup (is_at (cmp q)) (e ∷ es))) apart
        by Equal is more =
            let none_is = not-at e.0 (ap is_eq is) in
            ap (λ (b : Bool). cond b (Some v) (lookup (is_at (cmp q)) es)) none_is
            ∙ sym (ap (λ (b : Bool). cond b (Some e.1) (lookup (is_at (cmp q)) es)) none_is)
        by Greater is more =
            ap (λ (found : Option X). cond (is_at (cmp q) e.0) (Some e.1) found) more

  module _ {X : Type 0} (q k : K) (apart : is_at (cmp q) k ≡ false) where
    pub others-removed : (es : List (K × X))
        → lookup (is_at (cmp q)) (remove_entry (is_at (cmp k)) es) ≡ lookup (is_at (cmp q)) es
    others-removed [] = refl
    others-removed (e ∷ es) = by (is_at (cmp k) e.0) refl (others-removed es)
      where
        by : (b : Bool) → is_at (cmp k) e.0 ≡ b
            → lookup (is_at (cmp q)) (remove_entry (is_at (cmp k)) es) ≡ lookup (is_at (cmp q)) es
            → lookup (is_at (cmp q)) (cond b es (e ∷ remove_entry (is_at (cmp k)) es))
            ≡ lookup (is_at (cmp q)) (e ∷ es)
        by true is more =
            let none_is : is_at (cmp q) e.0 ≡ false =
            ap (λ (n : K). is_at (cmp q) n) (sym (one k e.0 is)) ∙ apart in
            sym (ap (λ (b : Bool). cond b (Some e.1) (lookup (is_at (cmp q)) es)) none_is)
        by false is more = ap (λ (found : Option X). cond (is_at (cmp q) e.0) (Some e.1) found) more

  abbrev pub ApartBy : {X : Type 0} → List (K × X) → Type 0
  ApartBy [] = Unit {0}
  ApartBy (e ∷ es) = (lookup (is_at (cmp e.0)) es ≡ None) × ApartBy es

  module _ {X : Type 0} where
    pub apart-inserted : (k : K) (v : X) (es : List (K × X)) → lookup (is_at (cmp k)) es ≡ None → ApartBy es
        → ApartBy (insert_entry cmp es k v)
    apart-inserted k v [] none_is a = (refl, tt)
    apart-inserted k v (e ∷ es) none_is a = by (cmp k e.0) refl (λ n. apart-inserted k v es n a.1)
      where
        rest : (o : Ordering) → cmp k e.0 ≡ o → is_eq o ≡ false → lookup (is_at (cmp k)) es ≡ None
        rest o is not =
            sym (ap (λ (b : Bool). cond b (Some e.1) (lookup (is_at (cmp k)) es)) (ap is_eq is ∙ not)) ∙ none_is

        none : (b : Bool) → is_at (cmp e.0) k ≡ b → is_at (cmp k) e.0 ≡ false
            → lookup (is_at (cmp e.0)) (insert_entry cmp es k v) ≡ None
        none true same not =
            absurd (true≢false (sym (ap (λ (m : K). is_at (cmp k) m) (one e.0 k same) ∙ ap is_eq (self k)) ∙ not))
        none false other not = others-inserted e.0 k other v es ∙ a.0

        by : (o : Ordering) → cmp k e.0 ≡ o
            → (lookup (is_at (cmp k)) es ≡ None → ApartBy (insert_entry cmp es k v))
            → ApartBy (match_ordering o ((k, v) ∷ e ∷ es) ((e.0, v) ∷ es) (e ∷ insert_entry cmp es k v))
        by Less is more = (none_is, a)
        by Equal is more = a
        by Greater is more =
            (none (is_at (cmp e.0) k) refl (ap is_eq is), more (rest Greater is refl))

    none-removed : (q k : K) (es : List (K × X)) → lookup (is_at (cmp q)) es ≡ None
        → lookup (is_at (cmp q)) (remove_entry (is_at (cmp k)) es) ≡ None
    none-removed q k [] none_is = refl
    none-removed q k (e ∷ es) none_is = by (is_at (cmp k) e.0) (is_at (cmp q) e.0) refl none_is (none-removed q k es)
      where
        by : (b c : Bool) → is_at (cmp q) e.0 ≡ c → cond c (Some e.1) (lookup (is_at (cmp q)) es) ≡ None
            → (lookup (is_at (cmp q)) es ≡ None
            → lookup (is_at (cmp q)) (remove_entry (is_at (cmp k)) es) ≡ None)
            → lookup (is_at (cmp q)) (cond b es (e ∷ remove_entry (is_at (cmp k)) es)) ≡ None
        by b true is h more = absurd cc
        by true false is h more = h
        by false false is h more =
            ap (λ (x : Bool). cond x (Some e.1) (lookup (is_at (cmp q)) (remove_entry (is_at (cmp k)) es))) is
            ∙ more h

    pub apart-removed : (k : K) (es : List (K × X)) → ApartBy es → ApartBy (remove_entry (is_at (cmp k)) es)
    apart-removed k [] a = tt
    apart-removed k (e ∷ es) a = by (is_at (cmp k) e.0) (apart-removed k es a.1)
      where
        by : (b : Bool) → ApartBy (remove_entry (is_at (cmp k)) es)
            → ApartBy (cond b es (e ∷ remove_entry (is_at (cmp k)) es))
        by true more = a.1
        by false more = (none-removed e.0 k es a.0, more)

    pub gone-removed : (k : K) (es : List (K × X)) → ApartBy es
        → lookup (is_at (cmp k)) (remove_entry (is_at (cmp k)) es) ≡ None
    gone-removed k [] a = refl
    gone-removed k (e ∷ es) a = by (is_at (cmp k) e.0) refl (gone-removed k es a.1)
      where
        by : (b : Bool) → is_at (cmp k) e.0 ≡ b
            → lookup (is_at (cmp k)) (remove_entry (is_at (cmp k)) es) ≡ None
            → lookup (is_at (cmp k)) (cond b es (e ∷ remove_entry (is_at (cmp k)) es)) ≡ None
        by true is more = ap (λ (n : K). lookup (is_at (cmp n)) es) (one k e.0 is) ∙ a.0
        by false is more =
            ap (λ (x : Bool). cond x (Some e.1) (lookup (is_at (cmp k)) (remove_entry (is_at (cmp k)) es))) is ∙ more
