-- Settings of which some lines are read.
use Rattle.std.proofs.Common.{◌≤◌, ◌+◌, ℕ, Bool, true, false, List, [], ◌∷◌, length, Result, arith, ◌==◌, cond}
use Rattle.std.proofs.lemmas.List.Splits.{length-slice_split}
use Rattle.std.proofs.lemmas.List.Sums.{count_by-le-length}
use Rattle.std.specs.List.{slice_split}
use Rattle.std.specs.Str.Lines.{lines, lines_of_parts}
use Rattle.forwarder_settings.specs.Reading.{AreRead, SettingsValue}
use Rattle.session_settings.specs.declared.settings_error.SettingsError.{SettingsError}

-- so many lines are read, and the others are still to be read
pub record UnderWay (base reading : SettingsValue) (number : ℕ) (text : List ℕ) (others : List (List ℕ)) : Type 0 where
  pub room : number + length others ≤ length text + 1
  pub on : (result : Result SettingsValue SettingsError) → AreRead reading (number + 1) others result
      → AreRead base 1 (lines text) result

last_le : (b : Bool) (x : List ℕ) → length (cond b [] (x ∷ [])) ≤ 1
last_le true x = omega arith
last_le false x = omega arith

parts_le : (parts : List (List ℕ)) → length (lines_of_parts parts) ≤ length parts
parts_le [] = omega arith
parts_le (x ∷ []) = last_le (length x == 0) x
parts_le (x ∷ y ∷ more) = let rest = parts_le (y ∷ more) in omega arith

lines_le : (bs : List ℕ) → length (lines bs) ≤ length bs + 1
lines_le bs = omega (arith, parts_le (slice_split (λ b. b == 10) bs), length-slice_split (λ b. b == 10) bs, count_by-le-length (λ b. b == 10) bs)

pub begun : (base : SettingsValue) (text : List ℕ) → UnderWay base base 0 text (lines text)
begun base text = record { room = omega (arith, lines_le text); on = λ result h. h }
