-- What was put under a new key and is taken out again leaves a map as it was.
use Rattle.std.proofs.Common.{◌≡◌, ℕ, Bool, true, false, cond, List, [], ◌∷◌, refl, ap, sym, ◌∙◌}
use Rattle.std.specs.Prelude.{Option, None, Some}
use Rattle.std.specs.declared.cmp.Ordering.{Ordering}
use Rattle.std.specs.declared.cmp.Ordering.TheVariants.{Less, Equal, Greater}
use Rattle.std.specs.Ordering.{match_ordering, is_eq, nat_cmp, ordering_then}
use Rattle.std.specs.Cmp.{nat_cmp_is}
use Rattle.std.specs.Option.{is_some}
use Rattle.std.specs.Map.{lookup, remove_entry}
use Rattle.std.specs.BTreeMap.{insert_entry, is_at}
use Rattle.hickory_resolver_channels.specs.Channels.{pair_cmp}

module _ {K X : Type 0} (cmp : K → K → Ordering) (k : K) (same : is_at (cmp k) k ≡ true) where
  first-gone : (v : X) (es : List (K × X)) → remove_entry (is_at (cmp k)) ((k, v) ∷ es) ≡ es
  first-gone v es = ap (λ (b : Bool). cond b es ((k, v) ∷ remove_entry (is_at (cmp k)) es)) same

  pub insert-undone : (v : X) (es : List (K × X)) → lookup (is_at (cmp k)) es ≡ None
      → remove_entry (is_at (cmp k)) (insert_entry cmp es k v) ≡ es
  insert-undone v [] absent = first-gone v []
  insert-undone v (e ∷ es) absent = by (cmp k e.0) refl absent (insert-undone v es)
    where
      by : (o : Ordering) → cmp k e.0 ≡ o → cond (is_eq o) (Some e.1) (lookup (is_at (cmp k)) es) ≡ None
          → (lookup (is_at (cmp k)) es ≡ None → remove_entry (is_at (cmp k)) (insert_entry cmp es k v) ≡ es)
          → remove_entry (is_at (cmp k)) (match_ordering o ((k, v) ∷ e ∷ es) ((e.0, v) ∷ es) (e ∷ insert_entry cmp es k v)) ≡ e ∷ es
      by Less is h more = first-gone v (e ∷ es)
      by Equal is h more = absurd cc
      by Greater is h more =
          ap (λ (o : Ordering). cond (is_eq o) (insert_entry cmp es k v) (e ∷ remove_entry (is_at (cmp k)) (insert_entry cmp es k v))) is
          ∙ ap (λ (xs : List (K × X)). e ∷ xs) (more h)

-- ---- pairs of numbers

pub pair-same : (n i : ℕ) → is_at (pair_cmp (n, i)) (n, i) ≡ true
pair-same n i =
    ap (λ (o : Ordering). is_eq (ordering_then o (nat_cmp i i))) (sym (nat_cmp_is n n Equal refl))
    ∙ ap is_eq (sym (nat_cmp_is i i Equal refl))

pub none-where_not : {A : Type 0} → (found : Option A) → is_some found ≡ false → found ≡ None
none-where_not None h = refl
none-where_not (Some a) h = absurd cc
