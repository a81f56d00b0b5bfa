-- What holds of numbers in texts.
use Rattle.std.proofs.Common.{◌≡◌, ◌∙◌, ◌++◌, ap, subst, ◌<◌, ◌^◌, ℕ, true, false, List, [], ◌∷◌, length, drop, Result, Ok, Err, None, refl, arith, get_or}
use Rattle.std.proofs.lemmas.Grind.{common_steps}
use Rattle.std.proofs.lemmas.Bool.Decides.{nat_tests}
use Rattle.std.proofs.lemmas.Str.Parse.{IsNumeralModel, numerals_by_value, tells_all_ascii_digits}
use Rattle.std.proofs.lemmas.Str.Pattern.{starts_text}
use Rattle.std.specs.Str.Pattern.{FindsTextPrefix, StripsPrefix}
use Rattle.std.specs.Result.{OkIff, result_ok}
use Rattle.std.specs.Str.{all_ascii_digits}
use Rattle.std.specs.Str.Parse.{digits_value}
use Rattle.hickory_proto_codes.specs.Codes.{decimal_below, code_after}

pub decimals : IsNumeralModel (λ ds. all_ascii_digits ds ≡ true) (digits_value 10)
decimals = numerals_by_value _ tells_all_ascii_digits

-- a number that is read just where there are digits only, at least one, and it is below the limit
pub decimal_below-read : {E : Type 0} (limit : ℕ) (ds : List ℕ) (r : Result ℕ E)
    → OkIff r ((all_ascii_digits ds ≡ true) × (0 < length ds) × (digits_value 10 ds < limit))
    (digits_value 10 ds) → result_ok r ≡ decimal_below limit ds
decimal_below-read limit ds (Ok x) h = grind (arith, nat_tests, common_steps)
decimal_below-read limit ds (Err e) h = grind (arith, nat_tests, common_steps)

-- no sign is a digit
pub decimal_below-plus : (limit : ℕ) (ds : List ℕ) → get_or ds 0 0 ≡ 43 → decimal_below limit ds ≡ None
decimal_below-plus limit [] h = refl
decimal_below-plus limit (d ∷ ds) h = let same : d ≡ 43 = h in rw same refl

-- the digits behind a word that the text begins with
pub code_after-stripped : (word text rest : List ℕ) → StripsPrefix (FindsTextPrefix word) text rest
    → decimal_below (2 ^ 16) rest ≡ code_after word text
code_after-stripped word text rest (n, (at, whole, edge), rest_is, size) =
    let whole_at = subst (λ (k : ℕ). text ≡ word ++ drop k text) at whole in
    let begins = starts_text true word text (length word, (refl, whole_at, edge), edge) in
    rw (← begins) (ap (decimal_below (2 ^ 16)) (rest_is ∙ ap (λ k. drop k text) at))

pub code_after-other : (word text : List ℕ) → FindsTextPrefix word text None → None ≡ code_after word text
code_after-other word text h = rw (← starts_text false word text h) refl
