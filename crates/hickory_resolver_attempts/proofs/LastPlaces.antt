-- Names from the last of a list to the first, with those that were seen before in a set by their order.
use native.Mathlib.Omega.{arith}
use Rattle.std.proofs.Common.{◌≡◌, ◌∙◌, ℕ, ◌+◌, ◌-◌, ◌<◌, ◌≤◌, Bool, true, false, not, ◌||◌, List, [], ◌∷◌, ◌++◌}
use Rattle.std.proofs.Common.{map, reverse, length, drop, get_or, refl, sym, ap, ap₂, if◌then◌else◌}
use Rattle.std.specs.List.{list_any}
use Rattle.std.specs.Ordering.{is_eq, match_ordering}
use Rattle.std.specs.declared.cmp.Ordering.{Ordering}
use Rattle.std.specs.declared.cmp.Ordering.TheVariants.{Less, Equal, Greater}
use Rattle.std.specs.BTreeSet.{insert_key}
use Rattle.std.proofs.Math.Bool.{or_self_left}
use Rattle.std.proofs.lemmas.List.{drop_more, map_push, reverse-append, reverse-reverse}
use Rattle.hickory_proto_core.specs.Name.{NameValue, name_eq, name_cmp}
use Rattle.hickory_proto_core.specs.NameLaws.{name_ties, name_equiv}
use Rattle.hickory_resolver_lookup.proofs.Booleans.{or_left_comm}
use Rattle.hickory_resolver_model.specs.Attempts.{keep_last}

-- whether a name is equal to one of some names
abbrev pub is_among : NameValue → List NameValue → Bool
is_among name names = list_any (name_eq name) names

-- what is kept of some names, the last first, and which were seen
pub record KeepsLast (xs kept seen : List NameValue) : Type 0 where
  pub kept_are : kept ≡ reverse (keep_last xs)
  pub seen_are : (name : NameValue) → is_among name seen ≡ is_among name xs

not_true : (b : Bool) → not b ≡ true → b ≡ false
not_true false h = refl
not_true true h = cc

not_false : (b : Bool) → not b ≡ false → b ≡ true
not_false true h = refl
not_false false h = cc

-- the names from the one before a place on
pub drop_back : (d : NameValue) (xs : List NameValue) (i : ℕ) (x : NameValue) → x ≡ get_or xs (i - 1) d → 0 < i
    → i ≤ length xs → drop (i - 1) xs ≡ x ∷ drop i xs
drop_back d xs i x is some inside =
    let before : i - 1 < length xs = omega arith in
    let next : i - 1 + 1 ≡ i = omega arith in
    drop_more xs (i - 1) d before ∙ ap₂ (λ y n. y ∷ drop n xs) (sym is) next

pub moved : {xs ys kept stays seen found : List NameValue} → xs ≡ ys → kept ≡ stays → seen ≡ found
    → KeepsLast xs kept seen → KeepsLast ys stays found
moved a b c is = record {
  kept_are = sym b ∙ is.kept_are ∙ ap (λ l. reverse (keep_last l)) a;
  seen_are = λ name. ap (is_among name) (sym c) ∙ is.seen_are name ∙ ap (is_among name) a;
}

map_reverse : {X Y : Type 0} (f : X → Y) (xs : List X) → map f (reverse xs) ≡ reverse (map f xs)
map_reverse f [] = refl
map_reverse f (x ∷ xs) =
    ap (map f) (reverse-append (x ∷ []) xs) ∙ map_push f (reverse xs) x ∙ ap (λ l. l ++ f x ∷ []) (map_reverse f xs)
    ∙ sym (reverse-append (f x ∷ []) (map f xs))

-- at the first place, what was kept in order
pub in_order : {X : Type 0} (name_of : X → NameValue) (ks : List X) (xs seen : List NameValue) (i : ℕ) → i ≡ 0
    → KeepsLast (drop i xs) (map name_of ks) seen → map name_of (reverse ks) ≡ keep_last xs
in_order name_of ks xs seen i none is =
    map_reverse name_of ks ∙ ap reverse is.kept_are ∙ reverse-reverse (keep_last (drop i xs))
    ∙ ap (λ n. keep_last (drop n xs)) none

pub none_kept : KeepsLast [] [] []
none_kept = record { kept_are = refl; seen_are = λ name. refl }

module _ {K : Type 0} (name_of : K → NameValue) where
  abbrev inserted : List K → K → List NameValue
  inserted ks k = map name_of (insert_key (λ x y. name_cmp (name_of x) (name_of y)) ks k)

  abbrev is_found : K → List K → Bool
  is_found k ks = list_any (λ y. is_eq (name_cmp (name_of k) (name_of y))) ks

  found_name : (k : K) (ks : List K) → is_found k ks ≡ is_among (name_of k) (map name_of ks)
  found_name k [] = refl
  found_name k (y ∷ ys) = ap₂ (λ a b. a || b) (sym (name_ties (name_of k) (name_of y))) (found_name k ys)

  -- what is added is among the names then, and the others stay
  added_name : (k : K) (ks : List K) (name : NameValue) → is_among name (inserted ks k)
      ≡ (name_eq name (name_of k) || is_among name (map name_of ks))
  added_name k [] name = refl
  added_name k (x ∷ xs) name = by (name_cmp (name_of k) (name_of x)) refl (added_name k xs name)
    where
      here : List K → Bool
      here ks = is_among name (map name_of ks)

      by : (o : Ordering) → name_cmp (name_of k) (name_of x) ≡ o
          → here (insert_key (λ x y. name_cmp (name_of x) (name_of y)) xs k) ≡ (name_eq name (name_of k) || here xs)
          → here (match_ordering o (k ∷ x ∷ xs) (x ∷ xs)
          (x ∷ insert_key (λ x y. name_cmp (name_of x) (name_of y)) xs k)) ≡ (name_eq name (name_of k) || here (x ∷ xs))
      by Less e later = refl
      by Greater e later = ap (λ b. name_eq name (name_of x) || b) later
          ∙ or_left_comm (name_eq name (name_of x)) (name_eq name (name_of k)) (here xs)
      by Equal e later =
          let same = name_equiv.symm name (name_of k) ∙ name_equiv.congr (name_of k) (name_of x) name
          (name_ties (name_of k) (name_of x) ∙ ap is_eq e) ∙ name_equiv.symm (name_of x) name in
          sym (or_self_left (name_eq name (name_of x)) (here xs)) ∙ ap (λ b. b || (name_eq name (name_of x) || here xs)) (sym same)

  -- whether the name is among those behind it, as the set tells
  told : (k : K) (ks : List K) (xs kept : List NameValue) → KeepsLast xs kept (map name_of ks) → is_found k ks
      ≡ is_among (name_of k) xs
  told k ks xs kept is = found_name k ks ∙ is.seen_are (name_of k)

  seen_more : (k : K) (ks : List K) (xs kept : List NameValue) → KeepsLast xs kept (map name_of ks)
      → (name : NameValue) → is_among name (inserted ks k) ≡ is_among name (name_of k ∷ xs)
  seen_more k ks xs kept is name = added_name k ks name ∙ ap (λ b. name_eq name (name_of k) || b) (is.seen_are name)

  abbrev last : Bool → NameValue → List NameValue → List NameValue
  last b x xs = reverse (if b then keep_last xs else x ∷ keep_last xs)

  -- a name that is new stays
  pub one_more : (k : K) (ks : List K) (xs kept : List NameValue) → not (is_found k ks) ≡ true
      → KeepsLast xs kept (map name_of ks) → KeepsLast (name_of k ∷ xs) (kept ++ name_of k ∷ []) (inserted ks k)
  one_more k ks xs kept new is = record {
    kept_are = ap (λ l. l ++ name_of k ∷ []) is.kept_are ∙ sym (reverse-append (name_of k ∷ []) (keep_last xs))
        ∙ sym (ap (λ b. last b (name_of k) xs) (sym (told k ks xs kept is) ∙ not_true (is_found k ks) new));
    seen_are = seen_more k ks xs kept is;
  }

  -- any other is left out
  pub no_more : (k : K) (ks : List K) (xs kept : List NameValue) → not (is_found k ks) ≡ false
      → KeepsLast xs kept (map name_of ks) → KeepsLast (name_of k ∷ xs) kept (inserted ks k)
  no_more k ks xs kept old is = record {
    kept_are = is.kept_are ∙ sym (ap (λ b. last b (name_of k) xs) (sym (told k ks xs kept is) ∙ not_false (is_found k ks) old));
    seen_are = seen_more k ks xs kept is;
  }
