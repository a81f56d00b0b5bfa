-- A script by its whole lines: what they say together, and the fault of the earliest line that has one, or
-- else of the bounds on times to live that they set.
use Rattle.std.specs.Prelude.{◌≡◌, ◌⊎◌, ◌+◌, ℕ, Bool, true, false, nat_lt, List, [], ◌∷◌, ◌++◌, length, Option, None, IsSome, Result, Ok, Err, MatchResult, if◌then◌else◌}
use Rattle.std.specs.Str.Lines.{lines}
use Rattle.hickory_proto_core.specs.Handles.{OutcomeValue}
use Rattle.hickory_proto_core.specs.Messages.{MessageValue}
use Rattle.hickory_proto_core.specs.Name.{NameValue}
use Rattle.hickory_proto_core.specs.declared.query.Query.{Query}
use Rattle.hickory_resolver_config.specs.ResolverConfig.{OptionsValue, ResolverConfigValue, default_options}
use Rattle.hickory_resolver_model.specs.Bounds.{bounds_fault}
use Rattle.hickory_resolver_model.specs.Options.{bounds_of}
use Rattle.hickory_resolver_lookup.specs.Requests.{request_of}
use Rattle.hickory_resolver_model.specs.Run.{RequestValue, moment_of}
use Rattle.replay_script.specs.FailLine.{error_of}
use Rattle.replay_script.specs.Faults.{LineFaultValue}
use Rattle.replay_script.specs.Line.{IsRead}
use Rattle.replay_script.specs.RecordLine.{with_record}
use Rattle.replay_script.specs.ReplyLine.{opened_response}
use Rattle.replay_script.specs.Configuration.{domain_from, options_from, search_in, table_from}
use Rattle.replay_script.specs.declared.fault.ScriptFault.{ScriptFault}
use Rattle.replay_script.specs.declared.fault.ScriptFault.TheVariants.{MomentBack, OutOfMemory, ReversedBounds}
use Rattle.replay_script.specs.declared.fault.ScriptError.{ScriptError}
use Rattle.replay_script.specs.declared.line.Line.{Line}
use Rattle.replay_script.specs.declared.line.Line.TheVariants.{Blank, Configuration, Fail, Record, Reply, Request}
use Rattle.replay_script.specs.declared.setting.Setting.{Setting}

-- a script: what the upstream answers, each beside the question of its line, and whether that is a table in
-- which each question is looked up; the requests; and what the resolver is configured with
pub record ScriptValue : Type 0 where
  pub table : Bool
  pub outcomes : List (Query × OutcomeValue)
  pub requests : List RequestValue
  pub options : OptionsValue
  pub domain : Option NameValue
  pub search : List NameValue

-- what a resolver is configured with
abbrev pub config_of : ScriptValue → ResolverConfigValue
config_of script = record { domain = script.domain; search = script.search; name_servers = [] }

-- a response gets the records of the lines behind it, up to the next outcome
abbrev pub with_records : MessageValue → List Line → MessageValue
with_records response [] = response
with_records response (Blank ∷ said) = with_records response said
with_records response (Reply head ∷ said) = response
with_records response (Fail failure ∷ said) = response
with_records response (Record section found ∷ said) = with_records (with_record section found response) said
with_records response (Request request ∷ said) = with_records response said
with_records response (Configuration setting ∷ said) = with_records response said

abbrev pub outcomes_of : List Line → List (Query × OutcomeValue)
outcomes_of [] = []
outcomes_of (Blank ∷ said) = outcomes_of said
outcomes_of (Reply head ∷ said) = (head.query, Ok (with_records (opened_response head) said)) ∷ outcomes_of said
outcomes_of (Fail failure ∷ said) = (failure.query, Err (error_of failure.kind)) ∷ outcomes_of said
outcomes_of (Record section found ∷ said) = outcomes_of said
outcomes_of (Request request ∷ said) = outcomes_of said
outcomes_of (Configuration setting ∷ said) = outcomes_of said

abbrev pub requests_of : List Line → List RequestValue
requests_of [] = []
requests_of (Blank ∷ said) = requests_of said
requests_of (Reply head ∷ said) = requests_of said
requests_of (Fail failure ∷ said) = requests_of said
requests_of (Record section found ∷ said) = requests_of said
requests_of (Request request ∷ said) = request_of request ∷ requests_of said
requests_of (Configuration setting ∷ said) = requests_of said

-- what is set, in order
abbrev pub settings_of : List Line → List Setting
settings_of [] = []
settings_of (Blank ∷ said) = settings_of said
settings_of (Reply head ∷ said) = settings_of said
settings_of (Fail failure ∷ said) = settings_of said
settings_of (Record section found ∷ said) = settings_of said
settings_of (Request request ∷ said) = settings_of said
settings_of (Configuration setting ∷ said) = setting ∷ settings_of said

-- the last line of an option counts, and where there is none its default
abbrev pub options_of : List Line → OptionsValue
options_of said = options_from default_options (settings_of said)

-- the last domain counts
abbrev pub domain_of : List Line → Option NameValue
domain_of said = domain_from None (settings_of said)

abbrev pub search_of : List Line → List NameValue
search_of said = search_in (settings_of said)

-- the last mode counts, and where there is none the outcomes come in order
abbrev pub table_of : List Line → Bool
table_of said = table_from false (settings_of said)

abbrev pub script_of : List Line → ScriptValue
script_of said = record {
  table = table_of said;
  outcomes = outcomes_of said;
  requests = requests_of said;
  options = options_of said;
  domain = domain_of said;
  search = search_of said;
}

-- whether the last outcome, or where there is none this, is a reply that one more record could belong to
abbrev pub reply_from : Bool → List Line → Bool
reply_from given [] = given
reply_from given (Blank ∷ said) = reply_from given said
reply_from given (Reply head ∷ said) = reply_from true said
reply_from given (Fail failure ∷ said) = reply_from false said
reply_from given (Record section found ∷ said) = reply_from given said
reply_from given (Request request ∷ said) = reply_from given said
reply_from given (Configuration setting ∷ said) = reply_from given said

abbrev pub has_reply : List Line → Bool
has_reply said = reply_from false said

-- the moment of the last request, where there is one, and else this one
abbrev pub latest_from : ℕ → List Line → ℕ
latest_from moment [] = moment
latest_from moment (Blank ∷ said) = latest_from moment said
latest_from moment (Reply head ∷ said) = latest_from moment said
latest_from moment (Fail failure ∷ said) = latest_from moment said
latest_from moment (Record section found ∷ said) = latest_from moment said
latest_from moment (Request request ∷ said) = latest_from (moment_of (request_of request)) said
latest_from moment (Configuration setting ∷ said) = latest_from moment said

-- a request is refused that is earlier than the one before it
abbrev pub in_order : ℕ → Result Line LineFaultValue → Result Line ScriptFault
in_order moment (Ok Blank) = Ok Blank
in_order moment (Ok (Reply head)) = Ok (Reply head)
in_order moment (Ok (Fail failure)) = Ok (Fail failure)
in_order moment (Ok (Record section found)) = Ok (Record section found)
in_order moment (Ok (Request request)) =
    if nat_lt (moment_of (request_of request)) moment then Err MomentBack else Ok (Request request)
in_order moment (Ok (Configuration setting)) = Ok (Configuration setting)
in_order moment (Err fault) = Err fault.fault

-- the lines behind those that said this: what all of them say, or the first fault and the number of its line
abbrev pub AreRead : List Line → List (List ℕ) → Result (List Line) ScriptError → Type 0
AreRead said [] result = result ≡ Ok said
AreRead said (line ∷ others) result =
    (read : Result Line LineFaultValue) × IsRead (has_reply said) line read
    × MatchResult (in_order (latest_from 0 said) read)
    (λ more. AreRead (said ++ more ∷ []) others result)
    (λ fault. result ≡ Err (record { line = length said + 1; fault = fault }))

-- each line is read, and no bounds on times to live are reversed
abbrev pub IsWholeScript : List ℕ → List Line → Type 0
IsWholeScript script said =
    AreRead [] (lines script) (Ok said) × (bounds_fault (bounds_of (options_of said)) ≡ None)

-- each line is read, and bounds on times to live are reversed
abbrev pub IsReversed : List ℕ → List Line → Type 0
IsReversed script said =
    AreRead [] (lines script) (Ok said) × IsSome (bounds_fault (bounds_of (options_of said)))

-- the fault of the first line with one, or else reversed bounds, which have no line
abbrev pub IsFault : List ℕ → ScriptError → Type 0
IsFault script error =
    AreRead [] (lines script) (Err error)
    ⊎ ((said : List Line) × IsReversed script said × (error ≡ record { line = 0; fault = ReversedBounds }))

-- a script is read whole, or its fault is found, or no memory is left
abbrev pub IsScript : List ℕ → Result ScriptValue ScriptError → Type 0
IsScript script result =
    MatchResult result
    (λ read. (said : List Line) × IsWholeScript script said × (read ≡ script_of said))
    (λ error. IsFault script error ⊎ (error ≡ record { line = 0; fault = OutOfMemory }))
