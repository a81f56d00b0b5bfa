-- Addresses and parameters one behind the other, as loops go over them.
use Rattle.std.proofs.Common.{◌≡◌, ℕ, suc, ◌-◌, ◌+◌, ◌≤◌, ◌<◌, ◌&&◌, Bool, true, false, List, [], ◌∷◌, ◌++◌, length, take, drop, eqb, refl, sym, ap, ◌∙◌, arith}
use Rattle.std.specs.Prelude.{Option, None, Some}
use Rattle.std.specs.List.{list_all}
use Rattle.std.specs.Option.{option_map}
use Rattle.std.proofs.lemmas.Bool.{eq-eqb}
use Rattle.std.proofs.lemmas.List.Folds.{list_all-append}
use Rattle.hickory_proto_core.specs.Records.{DataValue}
use Rattle.whole_lookups.specs.Hints.{addresses_at, hints_at, hints_from, value_end, with_later}

-- ---- addresses

swap : (a b c : Bool) → (a && (b && c)) ≡ ((b && a) && c)
swap true true c = refl
swap true false c = refl
swap false true c = refl
swap false false c = refl

and-true : (a : Bool) → (a && true) ≡ a
and-true true = refl
and-true false = refl

module _ (read : List ℕ → DataValue) (size : ℕ) (octets : List ℕ) (p : DataValue → Bool) (count : ℕ) where
  pub one-address : (i at : ℕ) (stay total : Bool) → i < count
      → (stay && list_all p (addresses_at read size (count - i) octets at)) ≡ total
      → ((p (read (take size (drop at octets))) && stay)
      && list_all p (addresses_at read size (count - (i + 1)) octets (at + size))) ≡ total
  unfolding addresses_at
  one-address i at stay total lt so_far =
      let k : count - i ≡ suc (count - (i + 1)) = omega arith in
      let one : (stay && list_all p (addresses_at read size (count - i) octets at))
      ≡ ((p (read (take size (drop at octets))) && stay)
      && list_all p (addresses_at read size (count - (i + 1)) octets (at + size))) =
      rw k (swap stay (p (read (take size (drop at octets))))
      (list_all p (addresses_at read size (count - (i + 1)) octets (at + size)))) in
      sym one ∙ so_far

  pub no-more-addresses : (i at : ℕ) (stay total : Bool) → count ≤ i
      → (stay && list_all p (addresses_at read size (count - i) octets at)) ≡ total → stay ≡ total
  unfolding addresses_at
  no-more-addresses i at stay total le so_far =
      let k : count - i ≡ 0 = omega arith in
      let one : (stay && list_all p (addresses_at read size (count - i) octets at)) ≡ stay = rw k (and-true stay) in
      sym one ∙ so_far

-- ---- parameters

-- what is left to be seen, where so far all stayed or not
abbrev pub rest_stays : (DataValue → Bool) → Bool → Option (List DataValue) → Option Bool
rest_stays p stay later = option_map (λ hinted. stay && list_all p hinted) later

module _ (p : DataValue → Bool) where
  and-so : (a b c : Bool) → (a && (b && c)) ≡ ((a && b) && c)
  and-so true b c = refl
  and-so false b c = refl

  with-one : (stay : Bool) (xs : List DataValue) (later : Option (List DataValue))
      → rest_stays p stay (with_later later (Some xs)) ≡ rest_stays p (stay && list_all p xs) later
  with-one stay xs None = refl
  with-one stay xs (Some ys) =
      ap (λ (b : Bool). Some b)
      (ap (λ (b : Bool). stay && b) (list_all-append p xs ys) ∙ and-so stay (list_all p xs) (list_all p ys))

  with-these : (stay these : Bool) (found later : Option (List DataValue)) → Some these ≡ option_map (list_all p) found
      → rest_stays p stay (with_later later found) ≡ rest_stays p (stay && these) later
  with-these stay these None later h = absurd cc
  with-these stay these (Some xs) later h =
      let same : list_all p xs ≡ these = cc in
      with-one stay xs later ∙ ap (λ (b : Bool). rest_stays p (stay && b) later) same

  without-these : (stay : Bool) (found later : Option (List DataValue)) → None ≡ option_map (list_all p) found
      → rest_stays p stay (with_later later found) ≡ None
  without-these stay None later h = refl
  without-these stay (Some xs) later h = absurd cc

module _ (p : DataValue → Bool) (octets : List ℕ) (count : ℕ) (total : Option Bool) where
  pub one-parameter : (i at end : ℕ) (stay these : Bool) → i < count → eqb at (length octets) ≡ false
      → value_end octets at ≡ Some end → Some these ≡ option_map (list_all p) (hints_at octets at end)
      → rest_stays p stay (hints_from (count - i) octets at) ≡ total
      → rest_stays p (stay && these) (hints_from (count - (i + 1)) octets end) ≡ total
  unfolding hints_from
  one-parameter i at end stay these lt more is found so_far =
      let k : count - i ≡ suc (count - (i + 1)) = omega arith in
      let one : rest_stays p stay (hints_from (count - i) octets at)
      ≡ rest_stays p (stay && these) (hints_from (count - (i + 1)) octets end) =
      rw (k, more, is)
      (with-these p stay these (hints_at octets at end) (hints_from (count - (i + 1)) octets end) found) in
      sym one ∙ so_far

  pub no-value : (i at : ℕ) (stay : Bool) → i < count → eqb at (length octets) ≡ false → value_end octets at ≡ None
      → rest_stays p stay (hints_from (count - i) octets at) ≡ total → total ≡ None
  unfolding hints_from
  no-value i at stay lt more is so_far =
      let k : count - i ≡ suc (count - (i + 1)) = omega arith in
      let one : rest_stays p stay (hints_from (count - i) octets at) ≡ None = rw (k, more, is) refl in
      sym so_far ∙ one

  pub no-hints : (i at end : ℕ) (stay : Bool) → i < count → eqb at (length octets) ≡ false
      → value_end octets at ≡ Some end → None ≡ option_map (list_all p) (hints_at octets at end)
      → rest_stays p stay (hints_from (count - i) octets at) ≡ total → total ≡ None
  unfolding hints_from
  no-hints i at end stay lt more is found so_far =
      let k : count - i ≡ suc (count - (i + 1)) = omega arith in
      let one : rest_stays p stay (hints_from (count - i) octets at) ≡ None =
      rw (k, more, is)
      (without-these p stay (hints_at octets at end) (hints_from (count - (i + 1)) octets end) found) in
      sym so_far ∙ one

  pub no-more-parameters : (i at : ℕ) (stay : Bool) → i < count → at ≡ length octets
      → rest_stays p stay (hints_from (count - i) octets at) ≡ total → total ≡ Some stay
  unfolding hints_from
  no-more-parameters i at stay lt all so_far =
      let k : count - i ≡ suc (count - (i + 1)) = omega arith in
      let one : rest_stays p stay (hints_from (count - i) octets at) ≡ Some stay =
      rw (k, eq-eqb at (length octets) all) (ap (λ (b : Bool). Some b) (and-true stay)) in
      sym so_far ∙ one

  pub no-more-steps : (i at : ℕ) (stay : Bool) → count ≤ i
      → rest_stays p stay (hints_from (count - i) octets at) ≡ total → total ≡ None
  unfolding hints_from
  no-more-steps i at stay le so_far =
      let k : count - i ≡ 0 = omega arith in
      let one : rest_stays p stay (hints_from (count - i) octets at) ≡ None = rw k refl in
      sym so_far ∙ one
