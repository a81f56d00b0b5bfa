-- What a line says by its words, whatever was said before it.
use Rattle.std.specs.Prelude.{ℕ, Bool, true, false, List, [], ◌∷◌, codes, if◌then◌else◌}
use Rattle.std.specs.List.{list_all}
use Rattle.hickory_proto_core.specs.Codes.{is_text}
use Rattle.hickory_proto_core.specs.ResponseKind.{is_empty}
use Rattle.replay_script.specs.Fields.{fields, is_skipped, is_allowed}
use Rattle.replay_script.specs.Words.{texts}
use Rattle.replay_script.specs.declared.fault.ScriptFault.TheVariants as script
use Rattle.conversation.specs.Faults.{RefusalValue, of_line, unknown}
use Rattle.conversation.specs.Lines.{word_named}
use Rattle.conversation.specs.declared.fault.ConversationFault.TheVariants as fault
use Rattle.conversation.specs.declared.files.FileKind.{FileKind}
use Rattle.conversation.specs.declared.said.Said.{Said}
use Rattle.conversation.specs.declared.said.Said.TheVariants as said
use Rattle.conversation.specs.declared.words.Word.{Word}
use Rattle.conversation.specs.declared.words.Word.TheVariants as word

-- A blank line or a comment; `end`; one line of a file; a setting; a request, with whether it is explained; a
-- line of an outcome, with whether it is the first one; `done`; `cancel`; or none of these. The fields are those behind
-- the word that names the file, all of a setting, those from `at` on, from the verb of an outcome on, and behind the
-- verbs `done` and `cancel`.
pub data SaidValue : Type 0 where
  Nothing : SaidValue
  End : SaidValue
  File : FileKind → List (List ℕ) → SaidValue
  Setting : List (List ℕ) → SaidValue
  Request : Bool → List (List ℕ) → SaidValue
  Outcome : Bool → List (List ℕ) → SaidValue
  Done : List (List ℕ) → SaidValue
  Cancel : List (List ℕ) → SaidValue
  Refused : RefusalValue → SaidValue

-- behind `explain` stands a request: by its verb, and all fields from there on
abbrev pub said_explained_by : List ℕ → List (List ℕ) → SaidValue
said_explained_by text given = if is_text (codes "at") text then Request true given else Refused (unknown given)

abbrev pub said_explained : List (List ℕ) → SaidValue
said_explained [] = Refused (unknown [])
said_explained (text ∷ behind) = said_explained_by text (text ∷ behind)

-- by the verb behind a mark, the fields behind that, and all of them
abbrev pub said_by_verb : List ℕ → List (List ℕ) → List (List ℕ) → SaidValue
said_by_verb text behind given =
    if is_text (codes "explain") text then said_explained behind else (
    if is_text (codes "at") text then Request false given else (
    if is_text (codes "reply") text then Outcome true given else (
    if is_text (codes "fail") text then Outcome true given else (
    if is_text (codes "answer") text then Outcome false given else (
    if is_text (codes "authority") text then Outcome false given else (
    if is_text (codes "additional") text then Outcome false given else (
    if is_text (codes "done") text then Done behind else (
    if is_text (codes "cancel") text then Cancel behind else Refused (unknown given)))))))))

abbrev pub said_behind_mark : List (List ℕ) → SaidValue
said_behind_mark [] = Refused (unknown [])
said_behind_mark (text ∷ behind) = said_by_verb text behind (text ∷ behind)

-- nothing stands behind `end`
abbrev pub said_at_end : List (List ℕ) → SaidValue
said_at_end behind = if is_empty behind then End else Refused (of_line (fault.Script script.FieldCount))

-- by the first word, the fields behind it, and all of them
abbrev pub said_by_word : Word → List (List ℕ) → List (List ℕ) → SaidValue
said_by_word word.End behind given = said_at_end behind
said_by_word (word.File kind) behind given = File kind behind
said_by_word word.Setting behind given = Setting given
said_by_word word.Unused behind given = Refused (unknown given)
said_by_word word.Mark behind given = said_behind_mark behind

abbrev pub said_in : List (List ℕ) → SaidValue
said_in [] = Nothing
said_in (text ∷ behind) = said_by_word (word_named text) behind (text ∷ behind)

-- what a line says
abbrev pub said_by : List ℕ → SaidValue
said_by text =
    if is_skipped text then Nothing else (
    if list_all is_allowed text then said_in (fields text) else Refused (of_line (fault.Script script.BadByte)))

-- ---- the code's value

abbrev pub said_value : Said → SaidValue
said_value said.Nothing = Nothing
said_value said.End = End
said_value (said.File kind given) = File kind (texts given.now)
said_value (said.Setting given) = Setting (texts given.now)
said_value (said.Request explains given) = Request explains (texts given.now)
said_value (said.Outcome begins given) = Outcome begins (texts given.now)
said_value (said.Done behind) = Done (texts behind.now)
said_value (said.Cancel behind) = Cancel (texts behind.now)
said_value (said.Refused refusal) = Refused refusal
