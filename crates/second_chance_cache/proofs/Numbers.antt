-- The numbers of slots.
use Rattle.std.proofs.Common.{◌≡◌, ℕ, suc, ◌+◌, ◌-◌, ◌<◌, ◌%◌, ◌^◌, refl, sym, ◌∙◌, ap, arith}
use Rattle.std.specs.Prelude.{Option, None, Some}
use Rattle.std.specs.Option.{option_map}
use native.Mathlib.Nat.{mod-add-mod, add-mod_right, mod-eq_of_lt}
use Rattle.second_chance_cache.specs.Clock.{number_at}

-- a place behind the first slot is one place less behind the second
pub number-next : (first place : ℕ) → number_at first (suc place) ≡ number_at ((first + 1) % 2 ^ 64) place
number-next first place =
    let sum : first + suc place ≡ first + 1 + place = omega arith in
    ap (λ (n : ℕ). n % 2 ^ 64) sum ∙ sym (mod-add-mod (first + 1) (2 ^ 64) place)

pub numbers-next : (first : ℕ) (found : Option ℕ)
    → option_map (number_at first) (option_map suc found) ≡ option_map (number_at ((first + 1) % 2 ^ 64)) found
numbers-next first None = refl
numbers-next first (Some place) = ap Some (number-next first place)

-- the place of a number
pub number-back : (first place : ℕ) → first < 2 ^ 64 → place < 2 ^ 64
    → (number_at first place + (2 ^ 64 - first)) % 2 ^ 64 ≡ place
number-back first place small short =
    let sum : first + place + (2 ^ 64 - first) ≡ place + 2 ^ 64 = omega arith in
    mod-add-mod (first + place) (2 ^ 64) (2 ^ 64 - first) ∙ ap (λ (n : ℕ). n % 2 ^ 64) sum
    ∙ add-mod_right place (2 ^ 64) ∙ mod-eq_of_lt short
