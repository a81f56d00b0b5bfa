-- What a line is answered, and what stands after it.
use Rattle.std.specs.Prelude.{◌≡◌, ◌≢◌, ◌⊎◌, ◌&&◌, ℕ, Bool, true, false, List, [], ◌∷◌, ◌++◌, codes, Option, None, Some, Result, Ok, Err, MatchBool, MatchOption, MatchResult, if◌then◌else◌}
use Rattle.std.specs.Option.{is_some, option_map}
use Rattle.hickory_proto_core.specs.Handles.{OutcomeValue}
use Rattle.hickory_proto_core.specs.Name.{NameValue}
use Rattle.hickory_proto_core.specs.Records.{RecordValue}
use Rattle.hickory_proto_core.specs.ResponseKind.{is_empty}
use Rattle.hickory_proto_core.specs.NameGiven.{IsReadName, IsReadAddress}
use Rattle.hickory_proto_core.specs.names.name_error.NameError.{NameError}
use Rattle.hickory_proto_core.specs.names.name_error.NameError.TheVariants as name_error
use Rattle.std.specs.declared.net.IpAddr.{IpAddr}
use Rattle.hickory_resolver_model.specs.Resuming.{Waits, IsDone}
use Rattle.hickory_resolver_model.specs.Bounds.{bounds_fault}
use Rattle.hickory_resolver_model.specs.Cache.{CacheValue}
use Rattle.hickory_resolver_model.specs.Calls.{is_out_of_memory}
use Rattle.hickory_resolver_model.specs.Hosts.{Host}
use Rattle.hickory_resolver_model.specs.Options.{bounds_of}
use Rattle.hickory_resolver_model.specs.Run.{RequestValue, Lookup, LookupIp, ClearLookup, Clear, Settings, settings_of, first_cache, moment_of, call_context_at, name_call, address_call, after_clear}
use Rattle.hickory_resolver_theorems.specs.ResumingCalls.{WaitingCallValue, CallProgressValue, StartsCall, RunsOutAtStart, ResumesCall}
use Rattle.hickory_resolver.specs.Reading.{IsBytesRead}
use Rattle.hickory_resolver.specs.hosts.hosts_error.HostsError.{HostsError}
use Rattle.hickory_resolver_config.specs.ResolverConfig.{ResolverConfigValue}
use Rattle.replay_script.specs.Output.{request_text}
use Rattle.replay_script.specs.Configuration.{ConfigurationValue, with_setting}
use Rattle.replay_script.specs.FailLine.{error_of}
use Rattle.replay_script.specs.Reader.{answered}
use Rattle.replay_script.specs.ReplyLine.{opened_response}
use Rattle.replay_script.specs.declared.fault.ScriptFault.TheVariants as script
use Rattle.replay_script.specs.declared.line.Line.{Line}
use Rattle.replay_script.specs.declared.line.Line.TheVariants as line
use Rattle.replay_script.specs.declared.fail_line.FailureKind.{FailureKind}
use Rattle.replay_script.specs.declared.record_line.Section.{Section}
use Rattle.replay_script.specs.declared.reply_line.ReplyHead.{ReplyHead}
use Rattle.replay_script.specs.declared.script.OpenReply.{OpenReply}
use Rattle.conversation.specs.Explaining.{IsStartExplained, alias_text, stored_text}
use Rattle.conversation.specs.Faults.{RefusalValue, hosts_fault, of_line, unknown}
use Rattle.conversation.specs.FileSettings.{FileSettingsValue, IsConfigured, file_settings, lines_text}
use Rattle.conversation.specs.Files.{FilesValue, with_text}
use Rattle.conversation.specs.Lines.{IsAsked, IsScriptLine}
use Rattle.conversation.specs.Said as said
use Rattle.conversation.specs.Said.{SaidValue}
use Rattle.conversation.specs.State.{BegunValue, ConversationValue, InFlightValue, Setting, Serving, Phase, request_at}
use Rattle.conversation.specs.Texts.{cancelled_text, clear_text, fault_text, fields_text, looked_up_text, send_text}
use Rattle.conversation.specs.declared.files.FileKind.{FileKind}
use Rattle.conversation.specs.declared.fault.ConversationFault.{ConversationFault}
use Rattle.conversation.specs.declared.fault.ConversationFault.TheVariants as fault

-- what a line is answered: the lines that go out, those that say how a request comes about before them, and those for
-- the journal, whether it is the last; and what stands after it: what is set, or the resolver, and the request of the
-- line's mark, where there is one
pub record Answer : Type 0 where
  pub explained : List ℕ
  pub text : List ℕ
  pub journal : List ℕ
  pub is_last : Bool
  pub phase : Phase
  pub held : Option InFlightValue

-- nothing is said, and nothing changes
abbrev pub nothing : ConversationValue → List ℕ → Answer
nothing c mark = record {
  explained = [];
  text = [];
  journal = [];
  is_last = false;
  phase = c.phase;
  held = request_at mark c.requests;
}

-- a fault is told, and changes nothing
abbrev pub refused : ConversationValue → List ℕ → RefusalValue → Answer
refused c mark refusal = record (nothing c mark) { text = fault_text mark c.lines refusal }

-- ---- settings

-- a line of a file, on a line of its own
abbrev pub file_line : List (List ℕ) → List ℕ
file_line given = codes "\n" ++ fields_text given

-- the file has one line more
abbrev pub adds_line : ConversationValue → List ℕ → Phase → FileKind → List (List ℕ) → Answer
adds_line c mark (Setting configuration files) kind given =
    record (nothing c mark) { phase = Setting configuration (with_text kind (file_line given) files) }
adds_line c mark (Serving s cache) kind given = refused c mark (of_line fault.SettingAfterRequest)

-- a setting is kept, and the journal has its line
abbrev pub sets : ConversationValue → List ℕ → ConfigurationValue → FilesValue → List (List ℕ)
    → Result Line RefusalValue → Answer
sets c mark configuration files given (Ok (line.Configuration setting)) = record (nothing c mark) {
  journal = fields_text given;
  phase = Setting (with_setting setting configuration) files;
}
sets c mark configuration files given (Err refusal) = refused c mark refusal
sets c mark configuration files given (Ok other) = refused c mark (unknown given)

abbrev pub AnswersSetting : ConversationValue → List ℕ → Phase → List (List ℕ) → Answer → Type 0
AnswersSetting c mark (Setting configuration files) given answer =
    (said : Result Line RefusalValue) × IsScriptLine false given said
    × (answer ≡ sets c mark configuration files given said)
AnswersSetting c mark (Serving s cache) given answer = answer ≡ refused c mark (of_line fault.SettingAfterRequest)

-- ---- the first request

-- what is configured
abbrev pub config_of : ConfigurationValue → ResolverConfigValue
config_of c = record { domain = c.domain; search = c.search; name_servers = [] }

-- the settings of a resolver and its cache, at the moment of a request: at the first one it is new, over a table that
-- is read then; bounds on times to live that are reversed, or hosts that cannot be read, are a fault
abbrev pub AreHosts : ConfigurationValue → Result (Unit {0}) HostsError → List Host
    → Result (Settings × CacheValue) ConversationFault → Type 0
AreHosts configuration (Ok done) table result =
    let s = settings_of (config_of configuration) configuration.options table in result ≡ Ok (s, first_cache s)
AreHosts configuration (Err error) table result = result ≡ Err (hosts_fault error)

abbrev pub IsMade : ConfigurationValue → List ℕ → ℕ → Result (Settings × CacheValue) ConversationFault → Type 0
IsMade configuration hosts now result =
    MatchOption (bounds_fault (bounds_of configuration.options))
    ((read : Result (Unit {0}) HostsError) × (table : List Host) × IsBytesRead now hosts [] read table
    × AreHosts configuration read table result)
    (λ reversed. result ≡ Err (fault.Script script.ReversedBounds))

-- it is made of what was set, and behind it of what a file resolv.conf sets
abbrev pub IsMadeWith : FileSettingsValue → ConfigurationValue → List ℕ → ℕ
    → Result (Settings × CacheValue) ConversationFault → Type 0
IsMadeWith said configuration hosts now result =
    (whole : Result ConfigurationValue ConversationFault) × IsConfigured said configuration whole
    × MatchResult whole (λ c. IsMade c hosts now result) (λ f. result ≡ Err f)

abbrev pub IsOpened : Phase → ℕ → Result (Settings × CacheValue) ConversationFault → Type 0
IsOpened (Setting configuration files) now result =
    IsMadeWith (file_settings files.resolv) configuration files.hosts now result
IsOpened (Serving s cache) now result = result ≡ Ok (s, cache)

-- what the journal gets with the first request: the lines that the file sets
abbrev pub lines_told : Phase → List ℕ
lines_told (Setting configuration files) = lines_text (file_settings files.resolv).lines
lines_told (Serving s cache) = []

-- ---- requests

-- how far a request came: a look-up waits or is done, or a clear was done
pub data Came : Type 0 where
  Looks : CallProgressValue → Came
  Clears : Came

-- a request is begun
abbrev pub ComesTo : Settings → RequestValue → CacheValue → Came → CacheValue → Type 0
ComesTo s (Lookup text t now) before (Looks progress) after =
    (name : Result NameValue NameError) × IsReadName text name
    × (StartsCall (call_context_at s now) s (name_call t name) before progress after
    ⊎ RunsOutAtStart before progress after)
ComesTo s (LookupIp text now) before (Looks progress) after =
    (address : Option IpAddr) × IsReadAddress text address × (name : Result NameValue NameError)
    × IsReadName text name
    × (((name ≢ Err name_error.OutOfMemory)
    × StartsCall (call_context_at s now) s (address_call s address name now) before progress after)
    ⊎ RunsOutAtStart before progress after)
ComesTo s (ClearLookup text t now) before Clears after =
    (name : Result NameValue NameError) × IsReadName text name × (name ≢ Err name_error.OutOfMemory)
    × (after ≡ after_clear s t name before)
ComesTo s (Clear now) before Clears after = after ≡ record before { entries = [] }
ComesTo s request before came after = ⊥

-- the request, with one more question that was sent for it
abbrev pub asking : BegunValue → WaitingCallValue → InFlightValue
asking begun w = record {
  begun = record begun { sent = begun.sent ++ w.lookup.hop.query ∷ [] };
  waiting = w;
  reply = None;
}

-- a question is to be sent; or the request is over, and the journal has the lines of its outcomes before its own; where
-- memory ran out, there is no answer. Before what is explained stands this start
abbrev pub Tells : List ℕ → List ℕ → Settings → BegunValue → Came → CacheValue → Answer → Type 0
Tells mark start s begun (Looks (Waits w)) cache answer = answer ≡ record {
  explained = start ++ alias_text mark begun.explains w;
  text = send_text mark w.lookup.hop.query s.request_options;
  journal = [];
  is_last = false;
  phase = Serving s cache;
  held = Some (asking begun w);
}
Tells mark start s begun (Looks (IsDone result)) cache answer =
    (is_out_of_memory result ≡ false) × (answer ≡ record {
      explained = start ++ stored_text mark begun cache;
      text = looked_up_text mark begun result;
      journal = begun.told ++ request_text begun.request;
      is_last = false;
      phase = Serving s cache;
      held = None;
    })
Tells mark start s begun Clears cache answer = answer ≡ record {
  explained = start;
  text = clear_text mark begun.request;
  journal = begun.told ++ request_text begun.request;
  is_last = false;
  phase = Serving s cache;
  held = None;
}

-- a request for which nothing was sent
abbrev pub just_begun : RequestValue → Bool → BegunValue
just_begun request explains = record { request = request; explains = explains; sent = []; told = [] }

abbrev pub Serves : List ℕ → Bool → RequestValue → Settings → CacheValue → Answer → Type 0
Serves mark explains request s cache answer =
    (came : Came) × (after : CacheValue) × ComesTo s request cache came after
    × (start : List ℕ) × IsStartExplained mark explains s cache request start
    × Tells mark start s (just_begun request explains) came after answer

-- before its own lines the journal gets these
abbrev pub telling : List ℕ → Answer → Answer
telling told answer = record answer { journal = told ++ answer.journal }

abbrev pub BeginsOver : List ℕ → Bool → RequestValue → List ℕ → Settings → CacheValue → Answer → Type 0
BeginsOver mark explains request told s cache answer =
    (served : Answer) × Serves mark explains request s cache served × (answer ≡ telling told served)

abbrev pub BeginsRequest : ConversationValue → List ℕ → Bool → RequestValue → Answer → Type 0
BeginsRequest c mark explains request answer =
    (opened : Result (Settings × CacheValue) ConversationFault) × IsOpened c.phase (moment_of request) opened
    × MatchResult opened (λ over. BeginsOver mark explains request (lines_told c.phase) over.0 over.1 answer)
    (λ f. answer ≡ refused c mark (of_line f))

-- a mark that is in use is refused; else the request is read
abbrev pub AnswersRequest : ConversationValue → List ℕ → Bool → List (List ℕ) → Answer → Type 0
AnswersRequest c mark explains given answer =
    MatchOption (request_at mark c.requests)
    ((asked : Result RequestValue RefusalValue) × IsAsked given asked
    × MatchResult asked (λ request. BeginsRequest c mark explains request answer)
    (λ refusal. answer ≡ refused c mark refusal))
    (λ r. answer ≡ refused c mark (of_line fault.MarkInUse))

-- ---- outcomes

-- one more line of what came back
abbrev pub with_line : BegunValue → List (List ℕ) → BegunValue
with_line begun given = record begun { told = begun.told ++ fields_text given }

-- the request goes on with what came back to its question
abbrev pub Feeds : List ℕ → Phase → BegunValue → WaitingCallValue → OutcomeValue → Answer → Type 0
Feeds mark (Setting configuration files) begun w outcome answer = ⊥
Feeds mark (Serving s cache) begun w outcome answer =
    (progress : CallProgressValue) × (after : CacheValue)
    × ResumesCall (call_context_at s w.lookup.now) w outcome cache progress after
    × Tells mark [] s begun (Looks progress) after answer

-- the open reply is whole, and fed
abbrev pub FeedsReply : List ℕ → Phase → InFlightValue → Answer → Type 0
FeedsReply mark phase r answer =
    (reply : OpenReply) × (r.reply ≡ Some reply) × Feeds mark phase r.begun r.waiting (Ok reply.message) answer

abbrev pub EndsReply : ConversationValue → List ℕ → InFlightValue → List (List ℕ) → Answer → Type 0
EndsReply c mark r behind answer =
    MatchBool (is_empty behind) (FeedsReply mark c.phase r answer)
    (answer ≡ refused c mark (of_line (fault.Script script.FieldCount)))

abbrev pub AnswersDone : ConversationValue → List ℕ → InFlightValue → List (List ℕ) → Answer → Type 0
AnswersDone c mark r behind answer =
    MatchBool (is_some r.reply) (EndsReply c mark r behind answer)
    (answer ≡ refused c mark (of_line (fault.Script script.NoReply)))

-- the request is forgotten
abbrev pub cancelled : ConversationValue → List ℕ → Answer
cancelled c mark = record (nothing c mark) { text = cancelled_text mark; held = None }

abbrev pub cancels : ConversationValue → List ℕ → List (List ℕ) → Answer
cancels c mark behind =
    if is_empty behind then cancelled c mark else refused c mark (of_line (fault.Script script.FieldCount))

-- a request is kept, and nothing is said
abbrev pub keeps : ConversationValue → List ℕ → InFlightValue → Answer
keeps c mark r = record (nothing c mark) { held = Some r }

-- a reply is opened
abbrev pub opens : ConversationValue → List ℕ → InFlightValue → List (List ℕ) → ReplyHead → Answer
opens c mark r given head =
    keeps c mark (record {
      begun = with_line r.begun given;
      waiting = r.waiting;
      reply = Some (record { query = head.query; message = opened_response head });
    })

-- it gets one more record
abbrev pub adds : ConversationValue → List ℕ → InFlightValue → List (List ℕ) → Section → RecordValue → Answer
adds c mark r given section found =
    keeps c mark (record {
      begun = with_line r.begun given;
      waiting = r.waiting;
      reply = option_map (answered section found) r.reply;
    })

-- the question fails
abbrev pub Fails : ConversationValue → List ℕ → InFlightValue → List (List ℕ) → FailureKind → Answer → Type 0
Fails c mark r given kind answer =
    Feeds mark c.phase (with_line r.begun given) r.waiting (Err (error_of kind)) answer

abbrev pub Takes : ConversationValue → List ℕ → InFlightValue → List (List ℕ) → Result Line RefusalValue → Answer
    → Type 0
Takes c mark r given (Ok (line.Reply head)) answer = answer ≡ opens c mark r given head
Takes c mark r given (Ok (line.Record section found)) answer = answer ≡ adds c mark r given section found
Takes c mark r given (Ok (line.Fail failure)) answer = Fails c mark r given failure.kind answer
Takes c mark r given (Ok other) answer = answer ≡ refused c mark (unknown given)
Takes c mark r given (Err refusal) answer = answer ≡ refused c mark refusal

abbrev pub AnswersLine : ConversationValue → List ℕ → InFlightValue → List (List ℕ) → Answer → Type 0
AnswersLine c mark r given answer =
    (said : Result Line RefusalValue) × IsScriptLine (is_some r.reply) given said
    × Takes c mark r given said answer

-- an outcome can begin only where no reply is open
abbrev pub AnswersOutcome : ConversationValue → List ℕ → InFlightValue → Bool → List (List ℕ) → Answer → Type 0
AnswersOutcome c mark r begins given answer =
    MatchBool (begins && is_some r.reply) (answer ≡ refused c mark (of_line fault.ReplyNotDone))
    (AnswersLine c mark r given answer)

-- ---- lines

-- for the request in flight under the mark
abbrev pub AnswersInFlight : ConversationValue → List ℕ → (InFlightValue → Answer → Type 0) → Answer → Type 0
AnswersInFlight c mark Kind answer =
    MatchOption (request_at mark c.requests) (answer ≡ refused c mark (of_line fault.NoSuchRequest))
    (λ r. Kind r answer)

abbrev pub AnswersSaid : ConversationValue → List ℕ → SaidValue → Answer → Type 0
AnswersSaid c mark said.Nothing answer = answer ≡ nothing c mark
AnswersSaid c mark said.End answer = answer ≡ record (nothing c mark) { is_last = true }
AnswersSaid c mark (said.File kind given) answer = answer ≡ adds_line c mark c.phase kind given
AnswersSaid c mark (said.Setting given) answer = AnswersSetting c mark c.phase given answer
AnswersSaid c mark (said.Request explains given) answer = AnswersRequest c mark explains given answer
AnswersSaid c mark (said.Outcome begins given) answer =
    AnswersInFlight c mark (λ r. AnswersOutcome c mark r begins given) answer
AnswersSaid c mark (said.Done behind) answer = AnswersInFlight c mark (λ r. AnswersDone c mark r behind) answer
AnswersSaid c mark (said.Cancel behind) answer =
    AnswersInFlight c mark (λ r answer. answer ≡ cancels c mark behind) answer
AnswersSaid c mark (said.Refused refusal) answer = answer ≡ refused c mark refusal
