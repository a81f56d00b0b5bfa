-- The suffixes of a name, one after another.
use Rattle.std.proofs.Common.{◌≡◌, ℕ, zero, suc, ◌+◌, ◌-◌, ◌<◌, Bool, true, false, cond, List, [], ◌∷◌, length, drop, refl, sym, ◌∙◌, ap, arith, drop-cons, length-drop, get_or}
use Rattle.std.specs.Prelude.{Option, None, Some}
use Rattle.std.specs.Option.{option_map, option_map_or}
use Rattle.std.proofs.lemmas.List.{drop-drop}
use Rattle.std.proofs.Math.Seq.{drop-length}
use Rattle.domain_table.specs.Names.{ends_name, is_short, next_place, suffixes, suffixes_behind}
use Rattle.domain_table.specs.Domains.{entry_of, first_of, found, placed}

pub suffixes_behind-drop : (n : ℕ) (xs : List ℕ) → suffixes_behind n xs ≡ suffixes (drop n xs)
suffixes_behind-drop zero xs = refl
suffixes_behind-drop (suc n) [] = refl
suffixes_behind-drop (suc n) (x ∷ xs) = suffixes_behind-drop n xs

-- the suffixes behind the one at a place
suffixes-next : (name : List ℕ) (place : ℕ)
    → cond (ends_name (get_or name place 0)) [] (suffixes_behind (get_or name place 0) (drop (suc place) name))
    ≡ suffixes (drop (next_place name place) name)
suffixes-next name place = by (ends_name (get_or name place 0))
  where
    sum : suc place + get_or name place 0 ≡ place + 1 + get_or name place 0
    sum = omega arith

    by : (b : Bool)
        → cond b [] (suffixes_behind (get_or name place 0) (drop (suc place) name))
        ≡ suffixes (drop (cond b (length name) (place + 1 + get_or name place 0)) name)
    by true = ap suffixes (sym (drop-length name))
    by false =
        suffixes_behind-drop (get_or name place 0) (drop (suc place) name)
        ∙ ap suffixes (drop-drop (get_or name place 0) (suc place) name ∙ ap (λ (n : ℕ). drop n name) sum)

-- the suffix at a place is the first of those from there on
pub suffixes-at : (name : List ℕ) (place : ℕ) → place < length name
    → suffixes (drop place name) ≡ drop place name ∷ suffixes (drop (next_place name place) name)
suffixes-at name place short =
    let split : drop place name ≡ get_or name place 0 ∷ drop (suc place) name = drop-cons name place 0 short in
    ap suffixes split
    ∙ ap (λ (rest : List (List ℕ)). (get_or name place 0 ∷ drop (suc place) name) ∷ rest) (suffixes-next name place)
    ∙ ap (λ (xs : List ℕ). xs ∷ suffixes (drop (next_place name place) name)) (sym split)

module _ {V : Type 0} where
  -- whether the suffix at a place has a value
  first_of-at : (es : List (List ℕ × V)) (name : List ℕ) (place : ℕ) (value : Option V) → place < length name
      → entry_of es (drop place name) ≡ value
      → first_of es (suffixes (drop place name))
      ≡ option_map_or (λ v. Some (drop place name, v)) value
      (first_of es (suffixes (drop (next_place name place) name)))
  first_of-at es name place value short is =
      ap (first_of es) (suffixes-at name place short)
      ∙ ap (λ (o : Option V). option_map_or (λ v. Some (drop place name, v)) o
      (first_of es (suffixes (drop (next_place name place) name)))) is

  pub found-at : (es : List (List ℕ × V)) (name : List ℕ) (place : ℕ) (v : V) → is_short name ≡ true
      → place < length name → first_of es (suffixes (drop place name)) ≡ first_of es (suffixes name)
      → entry_of es (drop place name) ≡ Some v
      → Some (place, v) ≡ found name es
  found-at es name place v short within same is =
      let long : length (drop place name) ≡ length name - place = length-drop place name in
      let at : place ≡ length name - length (drop place name) = omega arith in
      let first : Some (drop place name, v) ≡ first_of es (suffixes name) =
      sym (first_of-at es name place (Some v) within is) ∙ same in
      let place_is : Some (place, v) ≡ option_map (placed name) (first_of es (suffixes name)) =
      ap (λ (n : ℕ). Some (n, v)) at ∙ ap (option_map (placed name)) first in
      place_is ∙ sym (ap (λ (b : Bool). cond b (option_map (placed name) (first_of es (suffixes name))) None) short)

  pub passed-at : (es : List (List ℕ × V)) (name : List ℕ) (place : ℕ) → place < length name
      → first_of es (suffixes (drop place name)) ≡ first_of es (suffixes name)
      → entry_of es (drop place name) ≡ None
      → first_of es (suffixes (drop (next_place name place) name)) ≡ first_of es (suffixes name)
  passed-at es name place within same is = sym (first_of-at es name place None within is) ∙ same
