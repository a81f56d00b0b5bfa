-- The digits of a number that is cut to a limit.
use Rattle.std.proofs.Common.{◌≡◌, ◌∙◌, ◌+◌, ◌*◌, ◌-◌, ◌<◌, ◌≤◌, ℕ, Bool, true, false, cond, List, [], ◌∷◌, length, get_or, take, min, refl, sym, ap, ap₂, ◌&&◌, arith}
use Rattle.std.proofs.lemmas.Bool.{false≢true}
use Rattle.std.proofs.lemmas.Bool.Decides.{nat_tests}
use Rattle.std.proofs.lemmas.Grind.{common_steps}
use Rattle.std.proofs.lemmas.Int.Digits.{digits_value_more}
use Rattle.std.proofs.lemmas.List.Folds.{length-prefix_len, list_all_at}
use Rattle.std.proofs.lemmas.List.Sums.{take_while-cons}
use Rattle.std.specs.Char.{digit_value, is_ascii_digit}
use Rattle.std.specs.List.{list_all, take_while}
use Rattle.std.specs.Str.Parse.{digits_value}

module _ (p : ℕ → Bool) where
  passing : (t : Bool) (x : ℕ) (xs : List ℕ) → p x ≡ t → list_all p (take_while p xs) ≡ true → list_all p (cond t (x ∷ take_while p xs) []) ≡ true
  passing true x xs h rest = ap₂ (λ a b. a && b) h rest
  passing false x xs h rest = refl

  pub list_all-take_while : (xs : List ℕ) → list_all p (take_while p xs) ≡ true
  list_all-take_while [] = refl
  list_all-take_while (x ∷ xs) = ap (list_all p) (take_while-cons p x xs) ∙ passing (p x) x xs refl (list_all-take_while xs)

  -- the front of a list that passes
  pub list_all-front : (xs : List ℕ) (n : ℕ) → n ≡ length (take_while p xs) → list_all p (take n xs) ≡ true
  list_all-front xs n e = ap (λ k. list_all p (take k xs)) (e ∙ length-prefix_len p xs) ∙ list_all-take_while xs

digit_by : (t : Bool) (ds : List ℕ) (i : ℕ) → is_ascii_digit (get_or ds i 0) ≡ t → i < length ds → list_all is_ascii_digit ds ≡ true → is_ascii_digit (get_or ds i 0) ≡ true
digit_by true ds i h short all = h
digit_by false ds i h short all = absurd (false≢true (sym (list_all_at is_ascii_digit ds i 0 short h) ∙ all))

-- an element of digits is a digit
pub digit_at : (ds : List ℕ) (i : ℕ) → i < length ds → list_all is_ascii_digit ds ≡ true → is_ascii_digit (get_or ds i 0) ≡ true
digit_at ds i short all = digit_by (is_ascii_digit (get_or ds i 0)) ds i refl short all

pub digit_bounds : (d : ℕ) → is_ascii_digit d ≡ true → (48 ≤ d) × (d ≤ 57)
digit_bounds d h = grind (arith, nat_tests, common_steps)

digit_value_of : (d : ℕ) → is_ascii_digit d ≡ true → digit_value d ≡ d - 48
digit_value_of d h = grind (arith, nat_tests, common_steps)

cut_step : (limit v n d : ℕ) → v ≡ min limit n → min (v * 10 + d) limit ≡ min limit (n * 10 + d)
cut_step limit v n d h = omega arith

-- one digit more
pub value_more : (limit v i : ℕ) (ds : List ℕ) → i < length ds → list_all is_ascii_digit ds ≡ true → v ≡ min limit (digits_value 10 (take i ds)) → min (v * 10 + (get_or ds i 0 - 48)) limit ≡ min limit (digits_value 10 (take (i + 1) ds))
value_more limit v i ds short all h =
    cut_step limit v (digits_value 10 (take i ds)) (get_or ds i 0 - 48) h
    ∙ ap (λ x. min limit (digits_value 10 (take i ds) * 10 + x)) (sym (digit_value_of (get_or ds i 0) (digit_at ds i short all)))
    ∙ ap (min limit) (sym (digits_value_more 10 ds i short))
