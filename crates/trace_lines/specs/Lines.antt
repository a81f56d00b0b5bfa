-- What a line of a trace says, and what is wrong with it.
use Rattle.std.specs.Prelude.{◌≡◌, ℕ, List, [], ◌∷◌, codes, Option, None, Some, Result, Ok, Err, MatchBool, MatchOption, if◌then◌else◌}
use Rattle.std.specs.List.{list_all}
use Rattle.hickory_proto_core.specs.Codes.{is_text}
use Rattle.hickory_proto_core.specs.Records.{RecordValue}
use Rattle.replay_script.specs.Faults.{LineFaultValue, wrong_field, wrong_line}
use Rattle.replay_script.specs.Fields.{fields, is_allowed, is_blank, is_skipped}
use Rattle.replay_script.specs.RecordLine.{IsRecord}
use Rattle.replay_script.specs.Words.{◌>>=◌}
use Rattle.replay_script.specs.declared.fault.ScriptFault.TheVariants.{BadByte, FieldCount, UnknownDirective}
use Rattle.replay_script.specs.declared.record_line.Section.{Section}
use Rattle.replay_script.specs.declared.record_line.Section.TheVariants.{Additional, Answer, Authority}
use Rattle.trace_lines.specs.Moments.{moment_field}
use Rattle.trace_lines.specs.Openings.{opening_of}
use Rattle.trace_lines.specs.declared.line.TraceLine.{TraceLine}
use Rattle.trace_lines.specs.declared.line.TraceLine.TheVariants as line

-- `at` MOMENT, and what is said
abbrev pub event_of : List (List ℕ) → Result TraceLine LineFaultValue
event_of (moment ∷ verb ∷ fields) = do
  m ← moment_field moment
  o ← opening_of verb fields
  Ok (line.Begins m o)
event_of fields = Err (wrong_line FieldCount)

-- the section of a word
abbrev pub section_named : List ℕ → Option Section
section_named word =
    if is_text (codes "answer") word then Some Answer else (
    if is_text (codes "authority") word then Some Authority else (
    if is_text (codes "additional") word then Some Additional else None))

-- one more record of a section
abbrev pub IsRecordLine : List (List ℕ) → Result TraceLine LineFaultValue → Section → Type 0
IsRecordLine fields result section =
    (found : Result RecordValue LineFaultValue) × IsRecord fields found
    × (result ≡ (found >>= (λ r. Ok (line.Record section r))))

-- the first field says what the line is
abbrev pub IsSaid : List (List ℕ) → Result TraceLine LineFaultValue → Type 0
IsSaid [] result = result ≡ Ok line.Blank
IsSaid (word ∷ fields) result =
    MatchBool (is_text (codes "at") word) (result ≡ event_of fields)
    (MatchOption (section_named word) (result ≡ Err (wrong_field UnknownDirective word)) (IsRecordLine fields result))

-- what a line says, or its first fault from the left: a blank line, a comment, or fields between blanks
abbrev pub IsLine : List ℕ → Result TraceLine LineFaultValue → Type 0
IsLine text result =
    MatchBool (is_skipped text) (result ≡ Ok (if list_all is_blank text then line.Blank else line.Comment))
    (MatchBool (list_all is_allowed text) (IsSaid (fields text) result) (result ≡ Err (wrong_line BadByte)))
