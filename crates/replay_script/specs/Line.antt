-- What a line of a script says, and what is wrong with it.
use Rattle.std.specs.Prelude.{◌≡◌, ℕ, Bool, true, false, List, [], ◌∷◌, codes, Option, Some, None, if◌then◌else◌, Result, Ok, Err, MatchBool, MatchOption}
use Rattle.std.specs.List.{list_all}
use Rattle.hickory_proto_core.specs.Codes.{is_text}
use Rattle.hickory_proto_core.specs.Records.{RecordValue}
use Rattle.replay_script.specs.Faults.{LineFaultValue, wrong_field, wrong_line}
use Rattle.replay_script.specs.Fields.{fields, is_skipped, is_allowed}
use Rattle.replay_script.specs.FailLine.{IsFailure}
use Rattle.replay_script.specs.RecordLine.{IsRecord}
use Rattle.replay_script.specs.ReplyLine.{reply_of}
use Rattle.hickory_resolver_lookup.specs.declared.request.Request.{Request}
use Rattle.replay_script.specs.RequestLine.{IsRequest, request_asked}
use Rattle.replay_script.specs.Setting.{setting_of}
use Rattle.replay_script.specs.Words.{◌>>=◌}
use Rattle.replay_script.specs.declared.fail_line.Failure.{Failure}
use Rattle.replay_script.specs.declared.fault.ScriptFault.TheVariants.{BadByte, NoReply, UnknownDirective}
use Rattle.replay_script.specs.declared.line.Directive.{Directive}
use Rattle.replay_script.specs.declared.line.Directive.TheVariants as directive
use Rattle.replay_script.specs.declared.line.Line.{Line}
use Rattle.replay_script.specs.declared.line.Line.TheVariants as line
use Rattle.replay_script.specs.declared.record_line.Section.{Section}
use Rattle.replay_script.specs.declared.record_line.Section.TheVariants.{Additional, Answer, Authority}
use Rattle.replay_script.specs.declared.setting.SettingKind.TheVariants as kind

abbrev pub is_record : Line → Bool
is_record line.Blank = false
is_record (line.Reply head) = false
is_record (line.Fail failure) = false
is_record (line.Record section found) = true
is_record (line.Request request) = false
is_record (line.Configuration setting) = false

abbrev pub IsFailureLine : List (List ℕ) → Result Line LineFaultValue → Type 0
IsFailureLine fields result =
    (found : Result Failure LineFaultValue) × IsFailure fields found
    × (result ≡ (found >>= (λ failure. Ok (line.Fail failure))))

abbrev pub IsRequestLine : List (List ℕ) → Result Line LineFaultValue → Type 0
IsRequestLine fields result =
    (found : Result Request LineFaultValue) × IsRequest (request_asked fields) found
    × (result ≡ (found >>= (λ request. Ok (line.Request request))))

-- a record of a section needs a reply that it can belong to
abbrev pub IsRecordLine : Bool → Section → List (List ℕ) → Result Line LineFaultValue → Type 0
IsRecordLine has_reply section fields result =
    MatchBool has_reply
    ((found : Result RecordValue LineFaultValue) × IsRecord fields found
    × (result ≡ (found >>= (λ r. Ok (line.Record section r)))))
    (result ≡ Err (wrong_line NoReply))

-- the directive of a word
abbrev pub directive_named : List ℕ → Option Directive
directive_named word =
    if is_text (codes "at") word then Some directive.Request else (
    if is_text (codes "reply") word then Some directive.Reply else (
    if is_text (codes "fail") word then Some directive.Fail else (
    if is_text (codes "answer") word then Some (directive.Record Answer) else (
    if is_text (codes "authority") word then Some (directive.Record Authority) else (
    if is_text (codes "additional") word then Some (directive.Record Additional) else (
    if is_text (codes "option") word then Some (directive.Configuration kind.Option) else (
    if is_text (codes "domain") word then Some (directive.Configuration kind.Domain) else (
    if is_text (codes "search") word then Some (directive.Configuration kind.Search) else (
    if is_text (codes "upstream") word then Some (directive.Configuration kind.Upstream) else None)))))))))

-- what the fields behind a directive say
abbrev pub IsDirected : Bool → Directive → List (List ℕ) → Result Line LineFaultValue → Type 0
IsDirected has_reply directive.Reply fields result =
    result ≡ (reply_of fields >>= (λ head. Ok (line.Reply head)))
IsDirected has_reply directive.Fail fields result = IsFailureLine fields result
IsDirected has_reply (directive.Record section) fields result =
    IsRecordLine has_reply section fields result
IsDirected has_reply directive.Request fields result = IsRequestLine fields result
IsDirected has_reply (directive.Configuration kind) fields result =
    result ≡ (setting_of kind fields >>= (λ setting. Ok (line.Configuration setting)))

-- the first field is the directive
abbrev pub IsSaid : Bool → List (List ℕ) → Result Line LineFaultValue → Type 0
IsSaid has_reply [] result = result ≡ Ok line.Blank
IsSaid has_reply (word ∷ fields) result =
    MatchOption (directive_named word) (result ≡ Err (wrong_field UnknownDirective word))
    (λ d. IsDirected has_reply d fields result)

-- what a line says, or its first fault, with the field that it is about
abbrev pub IsRead : Bool → List ℕ → Result Line LineFaultValue → Type 0
IsRead has_reply text result =
    MatchBool (is_skipped text) (result ≡ Ok line.Blank)
    (MatchBool (list_all is_allowed text) (IsSaid has_reply (fields text) result)
    (result ≡ Err (wrong_line BadByte)))
