-- Names that are kept by their places.
use Rattle.std.proofs.Common.{◌≡◌, ℕ, Bool, true, false, cond, ltb, eqb, List, [], ◌∷◌, None, Some, Ordering, Less, Equal, Greater, nat_cmp, refl, sym, ap, subst, ◌∙◌, Option, Bor}
use Rattle.std.proofs.lemmas.Bool.{eqb-true}
use Rattle.std.specs.List.{AllByRecursion}
use Rattle.std.specs.Option.{option_copied, IfSome}
use Rattle.std.specs.Ordering.{is_eq, match_ordering}
use Rattle.std.specs.Map.{lookup}
use Rattle.std.specs.BTreeMap.{insert_entry, is_at}
use Rattle.hickory_proto_names.specs.Name.{NameValue}
use Rattle.hickory_proto_wire.specs.ReadNames.{IsReadAt}

abbrev pub AllRead : List ℕ → List (ℕ × NameValue) → Type 0
AllRead octets names = AllByRecursion (λ e. IsReadAt octets e.0 e.1) names

order_of : (k n : ℕ) (r : Ordering) → nat_cmp k n ≡ r → is_eq r ≡ true → k ≡ n
order_of k n r c e = by (ltb k n) (eqb k n) refl (ap is_eq c ∙ e)
  where
    by : (less same : Bool) → eqb k n ≡ same → is_eq (cond less Less (cond same Equal Greater)) ≡ true → k ≡ n
    by true same s e = absurd cc
    by false true s e = eqb-true k n s
    by false false s e = absurd cc

some_is : (a b : NameValue) → Some a ≡ Some b → a ≡ b
some_is a b e = cc

pub found_is_read : (octets : List ℕ) (names : List (ℕ × NameValue)) (place : ℕ) (name : NameValue) → AllRead octets names
    → lookup (is_at (nat_cmp place)) names ≡ Some name → IsReadAt octets place name
found_is_read octets [] place name all e = absurd cc
found_is_read octets (n ∷ ns) place name all e = by (nat_cmp place n.0) refl (found_is_read octets ns place name all.1) e
  where
    by : (r : Ordering) → nat_cmp place n.0 ≡ r
        → (lookup (is_at (nat_cmp place)) ns ≡ Some name → IsReadAt octets place name)
        → cond (is_eq r) (Some n.1) (lookup (is_at (nat_cmp place)) ns) ≡ Some name → IsReadAt octets place name
    by Less c others e = others e
    by Greater c others e = others e
    by Equal c others e =
        subst (λ (p : ℕ). IsReadAt octets p name) (sym (order_of place n.0 Equal c refl))
        (subst (λ (m : NameValue). IsReadAt octets n.0 m) (some_is n.1 name e) all.0)

pub still_all_read : (octets : List ℕ) (names : List (ℕ × NameValue)) (place : ℕ) (name : NameValue) → AllRead octets names
    → IsReadAt octets place name → AllRead octets (insert_entry nat_cmp names place name)
still_all_read octets [] place name all read = (read, tt)
still_all_read octets (n ∷ ns) place name all read = by (nat_cmp place n.0) refl (still_all_read octets ns place name all.1 read)
  where
    by : (r : Ordering) → nat_cmp place n.0 ≡ r → AllRead octets (insert_entry nat_cmp ns place name)
        → AllRead octets (match_ordering r ((place, name) ∷ n ∷ ns) ((n.0, name) ∷ ns) (n ∷ insert_entry nat_cmp ns place name))
    by Less c others = (read, (all.0, all.1))
    by Equal c others = (subst (λ (p : ℕ). IsReadAt octets p name) (order_of place n.0 Equal c refl) read, all.1)
    by Greater c others = (all.0, others)

-- the same of one that was found in a map
pub if_found_is_read : (octets seen : List ℕ) (names : List (ℕ × NameValue)) (place : ℕ) (found : Option (Bor NameValue))
    → AllRead octets names → octets ≡ seen → option_copied found ≡ lookup (is_at (nat_cmp place)) names
    → IfSome found (λ name. IsReadAt seen place name.now)
if_found_is_read octets seen names place None all same e = tt
if_found_is_read octets seen names place (Some name) all same e =
    subst (λ (o : List ℕ). IsReadAt o place name.now) same (found_is_read octets names place name.now all (sym e))
