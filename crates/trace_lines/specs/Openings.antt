-- What a line that begins an event says behind its moment: `asked` NAME TYPE [CLASS], `received` CODE NAME TYPE [CLASS]
-- [tc], or `told` and the same.
use Rattle.std.specs.Prelude.{ℕ, List, [], ◌∷◌, codes, Result, Ok, Err, if◌then◌else◌}
use Rattle.hickory_proto_core.specs.Codes.{is_text}
use Rattle.hickory_proto_core.specs.declared.query.Query.{Query}
use Rattle.replay_script.specs.Faults.{LineFaultValue, wrong_field, wrong_line}
use Rattle.replay_script.specs.ReplyLine.{reply_of}
use Rattle.replay_script.specs.Words.{◌>>=◌, class_field, name_field, type_field}
use Rattle.replay_script.specs.declared.fault.ScriptFault.TheVariants.{FieldCount, UnknownWord}
use Rattle.replay_script.specs.declared.reply_line.ReplyHead.{ReplyHead}
use Rattle.trace_lines.specs.declared.opening.Opening.{Opening}
use Rattle.trace_lines.specs.declared.opening.Opening.TheVariants.{Asked, Received, Told}

abbrev pub question_of : List ℕ → List ℕ → List ℕ → Result Query LineFaultValue
question_of name type class = do
  n ← name_field name
  t ← type_field type
  c ← class_field class
  Ok (record { name = n; query_type = t; query_class = c })

-- NAME TYPE [CLASS]
abbrev pub asked_of : List (List ℕ) → Result Query LineFaultValue
asked_of (name ∷ type ∷ []) = question_of name type (codes "IN")
asked_of (name ∷ type ∷ class ∷ []) = question_of name type class
asked_of fields = Err (wrong_line FieldCount)

-- a response of a trace has its question
abbrev pub with_question : ReplyHead → Result ReplyHead LineFaultValue
with_question head = if head.without_question then Err (wrong_line UnknownWord) else Ok head

-- CODE NAME TYPE [CLASS] [tc], as a script has it
abbrev pub head_of : List (List ℕ) → Result ReplyHead LineFaultValue
head_of fields = reply_of fields >>= with_question

abbrev pub opening_of : List ℕ → List (List ℕ) → Result Opening LineFaultValue
opening_of verb fields =
    if is_text (codes "asked") verb then (asked_of fields >>= (λ q. Ok (Asked q))) else (
    if is_text (codes "received") verb then (head_of fields >>= (λ h. Ok (Received h))) else (
    if is_text (codes "told") verb then (head_of fields >>= (λ h. Ok (Told h))) else
    Err (wrong_field UnknownWord verb)))
