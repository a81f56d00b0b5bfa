-- Lines with a wrong number of fields.
use Rattle.std.proofs.Common.{◌≡◌, ◌≢◌, ◌<◌, ℕ, List, [], ◌∷◌, length, Bor, Err, refl, arith}
use Rattle.replay_script.specs.Faults.{wrong_line}
use Rattle.replay_script.specs.Words.{texts}
use Rattle.replay_script.specs.declared.fault.ScriptFault.TheVariants.{FieldCount}
use Rattle.trace_lines.specs.Lines.{event_of}
use Rattle.trace_lines.specs.Openings.{asked_of}

pub asked_other : (fs : List (Bor (List ℕ))) → length fs ≢ 2 → length fs ≢ 3 → Err (wrong_line FieldCount) ≡ asked_of (texts fs)
asked_other [] two three = refl
asked_other (a ∷ []) two three = refl
asked_other (a ∷ b ∷ []) two three = absurd (two (omega arith))
asked_other (a ∷ b ∷ c ∷ []) two three = absurd (three (omega arith))
asked_other (a ∷ b ∷ c ∷ d ∷ fs) two three = refl

pub event_short : (fs : List (Bor (List ℕ))) → length fs < 2 → Err (wrong_line FieldCount) ≡ event_of (texts fs)
event_short [] short = refl
event_short (a ∷ []) short = refl
event_short (a ∷ b ∷ fs) short = absurd (omega arith)
