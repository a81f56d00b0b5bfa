-- The laws of the equality, the order and the hash of names.
use Rattle.std.specs.Prelude.{◌≡◌, ℕ, Bool, true, false, List, [], ◌∷◌, ◌++◌, reverse, nat_eq, Decides}
use Rattle.std.specs.Bool.{beq}
use Rattle.std.proofs.Common.{sym, ap, ◌∙◌, refl}
use Rattle.std.proofs.lemmas.Bool.{and_parts}
use Rattle.std.proofs.lemmas.Bool.Decides.{same_from_decides, Decides-like}
use Rattle.std.proofs.lemmas.List.{reverse-reverse}
use Rattle.std.specs.Cmp.{booleans_Decides, both_tied, unsigned_ties, nat_cmp_total, bool_cmp_total, bool_eq_equiv, nat_eq_equiv, and_equiv, on_equiv, IsEquivalence, then_total, on_total, IsPartialOrder, partial_order_from_agreeing_total}
use Rattle.std.specs.Cmp.Lexicographic.{pointwise, pointwise_decides, bytes_decides, slice_cmp, lists_ties, lists_total, lists_equiv}
use Rattle.std.specs.Ordering.{bool_cmp, nat_cmp, eq_by_cmp, is_eq, as_partial_cmp}
use Rattle.std.specs.Hash as fed
use Rattle.hickory_proto_names.specs.Name.{NameValue, name_eq, name_cmp, name_hash_input, lower_labels, wire_form}

-- the lists are equal where the test says so
pub label_lists_Decides : (xs ys : List (List ℕ)) → Decides (pointwise (pointwise nat_eq) xs ys) (xs ≡ ys)
label_lists_Decides = pointwise_decides bytes_decides

-- and from the last label to the first too
reversed : (xs ys : List (List ℕ))
    → pointwise (pointwise nat_eq) xs ys ≡ pointwise (pointwise nat_eq) (reverse xs) (reverse ys)
reversed xs ys =
    same_from_decides {P = reverse xs ≡ reverse ys} _ _
    (Decides-like _ (λ e. ap reverse e) (λ e. sym (reverse-reverse xs) ∙ ap reverse e ∙ reverse-reverse ys)
    (label_lists_Decides xs ys))
    (label_lists_Decides (reverse xs) (reverse ys))

bool_ties : (x y : Bool) → beq x y ≡ is_eq (bool_cmp x y)
bool_ties true true = refl
bool_ties true false = refl
bool_ties false true = refl
bool_ties false false = refl

-- equality holds just where the order answers `Equal`
pub name_ties : (x y : NameValue) → name_eq x y ≡ eq_by_cmp name_cmp x y
name_ties x y =
    let ls = lower_labels x.labels in
    let ms = lower_labels y.labels in
    both_tied _ _ (bool_cmp x.fqdn y.fqdn) (slice_cmp (slice_cmp nat_cmp) (reverse ls) (reverse ms))
    (bool_ties x.fqdn y.fqdn)
    (reversed ls ms ∙ lists_ties (slice_cmp nat_cmp) (lists_ties nat_cmp unsigned_ties) (reverse ls)
    (reverse ms))

pub name_partial_order : IsPartialOrder name_eq (as_partial_cmp name_cmp)
name_partial_order =
    partial_order_from_agreeing_total name_cmp
    (then_total (on_total (λ n. n.fqdn) bool_cmp_total)
    (on_total (λ n. reverse (lower_labels n.labels)) (lists_total (lists_total nat_cmp_total))))
    (λ x y. refl) name_ties

-- what equal names have in common: the mark, and the labels in lower case
pub same_from_name_eq : (x y : NameValue) → name_eq x y ≡ true
    → (x.fqdn ≡ y.fqdn) × (lower_labels x.labels ≡ lower_labels y.labels)
same_from_name_eq x y h =
    let parts =
    and_parts (beq x.fqdn y.fqdn)
    (pointwise (pointwise nat_eq) (lower_labels x.labels) (lower_labels y.labels)) h in (
      (booleans_Decides x.fqdn y.fqdn).0 parts.0,
      (label_lists_Decides (lower_labels x.labels) (lower_labels y.labels)).0 parts.1,
    )

pub name_respects_eq : (x y : NameValue) → name_eq x y ≡ true → name_hash_input x ≡ name_hash_input y
name_respects_eq x y h =
    let same = same_from_name_eq x y h in
    λ i. fed.bool (same.0 i) ++ wire_form (same.1 i) ∷ []

pub name_equiv : IsEquivalence name_eq
name_equiv =
    and_equiv (on_equiv (λ n. n.fqdn) bool_eq_equiv)
    (on_equiv (λ n. lower_labels n.labels) (lists_equiv (lists_equiv nat_eq_equiv)))
