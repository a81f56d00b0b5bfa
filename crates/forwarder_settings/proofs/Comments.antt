-- What stands before the first octet that passes a test.
use Rattle.std.proofs.Common.{◌≡◌, ℕ, Bool, true, false, cond, nat_lt, List, length, take, refl, sym, ap}
use Rattle.std.specs.Prelude.{Option, None, Some}
use Rattle.std.proofs.lemmas.Bool.{ltb-false}
use Rattle.std.proofs.lemmas.List.{take_all}
use Rattle.std.specs.List.{before_first, position, position_or_len}

pub before_place : (p : ℕ → Bool) (xs : List ℕ) (place : ℕ) → Some place ≡ position p xs
    → take place xs ≡ before_first p xs
before_place p xs place is = by (nat_lt (position_or_len p xs) (length xs)) is
  where
    by : (b : Bool) → Some place ≡ cond b (Some (position_or_len p xs)) None → take place xs ≡ before_first p xs
    by true there = ap (λ n. take n xs) (let same : place ≡ position_or_len p xs = (let h = there in cc) in same)
    by false there = absurd (let h = there in cc)

pub before_none : (p : ℕ → Bool) (xs : List ℕ) → ◌≡◌ {A = Option ℕ} None (position p xs) → xs ≡ before_first p xs
before_none p xs is = by (nat_lt (position_or_len p xs) (length xs)) refl is
  where
    by : (b : Bool) → nat_lt (position_or_len p xs) (length xs) ≡ b
        → ◌≡◌ {A = Option ℕ} None (cond b (Some (position_or_len p xs)) None) → xs ≡ before_first p xs
    by true short there = absurd (let h = there in cc)
    by false long there = sym (take_all (position_or_len p xs) xs (ltb-false (position_or_len p xs) (length xs) long))
