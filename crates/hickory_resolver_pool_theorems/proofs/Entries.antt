-- What holds of each transaction of a table, after one is put in or taken out.
use Rattle.std.proofs.Common.{◌≡◌, ◌<◌, ℕ, Bool, true, false, cond, List, [], ◌∷◌, refl, ap, sym, subst, ◌∙◌, true≢false}
use Rattle.std.specs.Prelude.{Option, None, Some, IfSome}
use Rattle.std.specs.declared.cmp.Ordering.{Ordering}
use Rattle.std.specs.declared.cmp.Ordering.TheVariants.{Less, Equal, Greater}
use Rattle.std.specs.Ordering.{nat_cmp, is_eq, match_ordering}
use Rattle.std.specs.List.{AllByRecursion}
use Rattle.std.specs.Map.{lookup, remove_entry}
use Rattle.std.specs.BTreeMap.{insert_entry, is_at}
use Rattle.hickory_resolver_traffic.specs.Table.{CurrentState, EntryState}
use Rattle.hickory_resolver_pool_theorems.proofs.Keys.{at-is, nat-self}

abbrev pub IsOf : Type 1
IsOf = ℕ → EntryState → Type 0

abbrev pub AllOf : IsOf → List (ℕ × EntryState) → Type 0
AllOf P es = AllByRecursion (λ p. P p.0 p.1) es

abbrev pub WorkedOf : IsOf → Option CurrentState → Type 0
WorkedOf P c = IfSome c (λ x. P x.number x.entry)

module _ (P : IsOf) where
  pub all-inserted : (n : ℕ) (e : EntryState) (es : List (ℕ × EntryState)) → AllOf P es → P n e
      → AllOf P (insert_entry nat_cmp es n e)
  all-inserted n e [] all w = (w, tt)
  all-inserted n e (x ∷ xs) all w = by (nat_cmp n x.0) refl (all-inserted n e xs all.1 w)
    where
      by : (o : Ordering) → nat_cmp n x.0 ≡ o → AllOf P (insert_entry nat_cmp xs n e)
          → AllOf P (match_ordering o ((n, e) ∷ x ∷ xs) ((x.0, e) ∷ xs) (x ∷ insert_entry nat_cmp xs n e))
      by Less is more = (w, all)
      by Equal is more = (subst (λ (k : ℕ). P k e) (at-is n x.0 (ap is_eq is)) w, all.1)
      by Greater is more = (all.0, more)

  pub all-removed : (test : ℕ → Bool) (es : List (ℕ × EntryState)) → AllOf P es → AllOf P (remove_entry test es)
  all-removed test [] all = tt
  all-removed test (x ∷ xs) all = by (test x.0) (all-removed test xs all.1)
    where
      by : (b : Bool) → AllOf P (remove_entry test xs) → AllOf P (cond b xs (x ∷ remove_entry test xs))
      by true more = all.1
      by false more = (all.0, more)

  pub all-found : (n : ℕ) (e : EntryState) (es : List (ℕ × EntryState)) → AllOf P es
      → lookup (is_at (nat_cmp n)) es ≡ Some e → P n e
  all-found n e [] all h = absurd cc
  all-found n e (x ∷ xs) all h = by (is_at (nat_cmp n) x.0) refl (all-found n e xs all.1) h
    where
      by : (b : Bool) → is_at (nat_cmp n) x.0 ≡ b → (lookup (is_at (nat_cmp n)) xs ≡ Some e → P n e)
          → cond b (Some x.1) (lookup (is_at (nat_cmp n)) xs) ≡ Some e → P n e
      by true is more g =
          let same : x.1 ≡ e = cc in
          subst (λ (y : EntryState). P n y) same (subst (λ (k : ℕ). P k x.1) (sym (at-is n x.0 is)) all.0)
      by false is more g = more g

pub all-as : (P Q : IsOf) (es : List (ℕ × EntryState)) → ((n : ℕ) (e : EntryState) → P n e → Q n e) → AllOf P es → AllOf Q es
all-as P Q [] gives all = tt
all-as P Q (x ∷ xs) gives all = (gives x.0 x.1 all.0, all-as P Q xs gives all.1)

pub worked-as : (P Q : IsOf) (c : Option CurrentState) → ((n : ℕ) (e : EntryState) → P n e → Q n e)
    → WorkedOf P c → WorkedOf Q c
worked-as P Q None gives w = tt
worked-as P Q (Some c) gives w = gives c.number c.entry w

-- of all others than one that is not in the table
pub all-others : (P Q : IsOf) (m : ℕ) (es : List (ℕ × EntryState)) → lookup (is_at (nat_cmp m)) es ≡ None
    → ((n : ℕ) (e : EntryState) → (n ≡ m → ⊥) → P n e → Q n e) → AllOf P es → AllOf Q es
all-others P Q m [] none gives all = tt
all-others P Q m (x ∷ xs) none gives all = by (is_at (nat_cmp m) x.0) refl none (λ h. all-others P Q m xs h gives all.1)
  where
    by : (b : Bool) → is_at (nat_cmp m) x.0 ≡ b → cond b (Some x.1) (lookup (is_at (nat_cmp m)) xs) ≡ None
        → (lookup (is_at (nat_cmp m)) xs ≡ None → AllOf Q xs) → AllOf Q (x ∷ xs)
    by true is h more = absurd cc
    by false is h more = (gives x.0 x.1 apart all.0, more h)
      where
        apart : x.0 ≡ m → ⊥
        apart e =
            true≢false (sym (ap (λ (k : ℕ). is_at (nat_cmp m) k) e ∙ ap is_eq (nat-self m)) ∙ is)

-- of all that are in the table
pub all-old : (P Q : IsOf) (next : ℕ) (es : List (ℕ × EntryState)) → AllByRecursion (λ p. p.0 < next) es
    → ((n : ℕ) (e : EntryState) → n < next → P n e → Q n e) → AllOf P es → AllOf Q es
all-old P Q next [] old gives all = tt
all-old P Q next (x ∷ xs) old gives all = (gives x.0 x.1 old.0 all.0, all-old P Q next xs old.1 gives all.1)
