-- What a line is about: its first word, its mark, and the request that it asks.
use Rattle.std.specs.Prelude.{◌≡◌, ◌&&◌, ℕ, Bool, false, List, [], ◌∷◌, codes, Option, Some, None, if◌then◌else◌, Result, Ok, Err, MatchBool, MatchResult}
use Rattle.std.specs.List.{list_all}
use Rattle.std.specs.declared.net.IpAddr.{IpAddr}
use Rattle.hickory_proto_core.specs.Codes.{is_text}
use Rattle.hickory_proto_core.specs.NameGiven.{IsReadAddress}
use Rattle.hickory_proto_core.specs.NameText.{name_text}
use Rattle.hickory_proto_core.specs.Arpa.{arpa_name, whole_net}
use Rattle.hickory_proto_core.specs.codes.record_type.RecordType.TheVariants as type
use Rattle.hickory_resolver_model.specs.Run.{RequestValue, Lookup}
use Rattle.hickory_resolver.specs.Requests.{request_of}
use Rattle.replay_script.specs.Fields.{fields, is_skipped, is_allowed}
use Rattle.replay_script.specs.Line.{IsSaid}
use Rattle.replay_script.specs.Words.{number_field}
use Rattle.replay_script.specs.Faults.{LineFaultValue}
use Rattle.replay_script.specs.declared.fault.ScriptFault.TheVariants.{BadAddress, FieldCount}
use Rattle.replay_script.specs.declared.line.Line.{Line}
use Rattle.replay_script.specs.declared.line.Line.TheVariants as line
use Rattle.conversation.specs.Faults.{RefusalValue, of_field, of_line, refusal_of, unknown}
use Rattle.conversation.specs.declared.fault.ConversationFault.TheVariants as fault
use Rattle.conversation.specs.declared.files.FileKind.TheVariants.{Hosts, ResolvConf}
use Rattle.conversation.specs.declared.words.Word.{Word}
use Rattle.conversation.specs.declared.words.Word.TheVariants as word

-- ---- words

-- what the first word says; every other one is a mark
abbrev pub word_named : List ℕ → Word
word_named text =
    if is_text (codes "end") text then word.End else (
    if is_text (codes "hosts") text then word.File Hosts else (
    if is_text (codes "resolv") text then word.File ResolvConf else (
    if is_text (codes "option") text then word.Setting else (
    if is_text (codes "domain") text then word.Setting else (
    if is_text (codes "search") text then word.Setting else (
    if is_text (codes "-") text then word.Unused else word.Mark))))))

-- ---- marks

-- the mark that a first word is, and `-` where it is none
abbrev pub mark_by : Word → List ℕ → List ℕ
mark_by word.End text = codes "-"
mark_by (word.File kind) text = codes "-"
mark_by word.Setting text = codes "-"
mark_by word.Unused text = codes "-"
mark_by word.Mark text = text

abbrev pub mark_or_none : List ℕ → List ℕ
mark_or_none text = mark_by (word_named text) text

abbrev pub mark_in : List (List ℕ) → List ℕ
mark_in [] = codes "-"
mark_in (text ∷ behind) = mark_or_none text

-- a comment has no mark, nor has a line with a byte that may not stand in it
abbrev pub mark_of : List ℕ → List ℕ
mark_of text =
    if is_skipped text then codes "-" else (
    if list_all is_allowed text then mark_in (fields text) else codes "-")

-- ---- lines of a script

-- what a line of a script says, or its fault
abbrev pub said_of : Result Line LineFaultValue → Result Line RefusalValue
said_of (Ok said) = Ok said
said_of (Err f) = Err (refusal_of f)

abbrev pub IsScriptLine : Bool → List (List ℕ) → Result Line RefusalValue → Type 0
IsScriptLine has_reply given result =
    (said : Result Line LineFaultValue) × IsSaid has_reply given said × (result ≡ said_of said)

-- ---- requests

abbrev pub request_in : List (List ℕ) → Result Line RefusalValue → Result RequestValue RefusalValue
request_in given (Ok (line.Request request)) = Ok (request_of request)
request_in given (Err refusal) = Err refusal
request_in given (Ok other) = Err (unknown given)

-- as a script has it
abbrev pub IsScriptRequest : List (List ℕ) → Result RequestValue RefusalValue → Type 0
IsScriptRequest given result =
    (said : Result Line RefusalValue) × IsScriptLine false given said × (result ≡ request_in given said)

-- `reverse` ADDRESS is a look-up of the names of the address
abbrev pub pointer_at : ℕ → IpAddr → RequestValue
pointer_at now address = Lookup (name_text (arpa_name (whole_net address))) type.PTR now

abbrev pub pointer_of : ℕ → List ℕ → Option IpAddr → Result RequestValue RefusalValue
pointer_of now text None = Err (of_field (fault.Script BadAddress) text)
pointer_of now text (Some address) = Ok (pointer_at now address)

abbrev pub IsPointer : ℕ → List (List ℕ) → Result RequestValue RefusalValue → Type 0
IsPointer now (text ∷ []) result =
    (found : Option IpAddr) × IsReadAddress text found × (result ≡ pointer_of now text found)
IsPointer now given result = result ≡ Err (of_line (fault.Script FieldCount))

abbrev pub IsReverse : List ℕ → List (List ℕ) → Result RequestValue RefusalValue → Type 0
IsReverse moment given result =
    MatchResult (number_field 64 moment) (λ now. IsPointer now given result) (λ f. result ≡ Err (refusal_of f))

-- whether the fields begin with `at` MOMENT `reverse`
abbrev pub is_reverse : List (List ℕ) → Bool
is_reverse (at ∷ moment ∷ asked ∷ behind) = is_text (codes "at") at && is_text (codes "reverse") asked
is_reverse given = false

-- the request that the fields behind a mark ask, or their fault
abbrev pub IsAsked : List (List ℕ) → Result RequestValue RefusalValue → Type 0
IsAsked (at ∷ moment ∷ asked ∷ behind) result =
    MatchBool (is_reverse (at ∷ moment ∷ asked ∷ behind)) (IsReverse moment behind result)
    (IsScriptRequest (at ∷ moment ∷ asked ∷ behind) result)
IsAsked given result = IsScriptRequest given result
