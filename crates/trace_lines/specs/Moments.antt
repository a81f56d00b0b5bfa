-- Moments of traces: seconds, of 32 bits, and behind a dot, where there is one, one to three digits.
use Rattle.std.specs.Prelude.{◌+◌, ◌-◌, ◌*◌, ℕ, Bool, ◌&&◌, ◌==◌, nat_le, nat_lt, length, List, [], ◌∷◌, Option, None, Some, Result, Ok, Err, if◌then◌else◌}
use Rattle.std.specs.List.{after_first, before_first, position_or_len}
use Rattle.replay_script.specs.Faults.{LineFaultValue, wrong_field}
use Rattle.replay_script.specs.Words.{◌>>=◌, number_field}
use Rattle.replay_script.specs.declared.fault.ScriptFault.TheVariants.{BadNumber}
use Rattle.trace_judge.specs.declared.event.Moment.{Moment}

-- what stands before the first dot, and behind it, where there is one
abbrev pub parted : List ℕ → Option (List ℕ × List ℕ)
parted text =
    if nat_lt (position_or_len (λ b. b == 46) text) (length text)
    then Some (before_first (λ b. b == 46) text, after_first (λ b. b == 46) text) else None

abbrev pub is_digit : ℕ → Bool
is_digit b = nat_le 48 b && nat_le b 57

-- what three digits write
abbrev pub written : ℕ → ℕ → ℕ → Option ℕ
written a b c =
    if is_digit a && is_digit b && is_digit c then Some (100 * (a - 48) + 10 * (b - 48) + (c - 48)) else None

-- the thousandths that one to three digits behind a dot write
abbrev pub thousandths : List ℕ → Option ℕ
thousandths (a ∷ []) = written a 48 48
thousandths (a ∷ b ∷ []) = written a b 48
thousandths (a ∷ b ∷ c ∷ []) = written a b c
thousandths digits = None

abbrev pub with_thousandths : List ℕ → ℕ → Option ℕ → Result Moment LineFaultValue
with_thousandths text seconds None = Err (wrong_field BadNumber text)
with_thousandths text seconds (Some n) = Ok (record { seconds = seconds; milliseconds = n })

abbrev pub moment_by : List ℕ → Option (List ℕ × List ℕ) → Result Moment LineFaultValue
moment_by text None = do
  seconds ← number_field 32 text
  Ok (record { seconds = seconds; milliseconds = 0 })
moment_by text (Some parts) = do
  seconds ← number_field 32 parts.0
  with_thousandths text seconds (thousandths parts.1)

abbrev pub moment_field : List ℕ → Result Moment LineFaultValue
moment_field text = moment_by text (parted text)
