-- What is kept of the lines so far.
use Rattle.std.specs.Prelude.{◌≡◌, ◌⊎◌, ℕ, List, [], ◌∷◌, ◌++◌, Option, None, Some, IsSome, Result, Ok, Err, MatchResult, MatchOption}
use Rattle.std.specs.Option.{is_some}
use Rattle.hickory_proto_core.specs.Handles.{OutcomeValue}
use Rattle.hickory_proto_core.specs.declared.query.Query.{Query}
use Rattle.hickory_proto_core.specs.Records.{RecordValue}
use Rattle.hickory_resolver_model.specs.Bounds.{bounds_fault}
use Rattle.hickory_resolver_model.specs.Options.{bounds_of}
use Rattle.hickory_resolver_model.specs.Run.{RequestValue}
use Rattle.replay_script.specs.FailLine.{error_of}
use Rattle.replay_script.specs.Faults.{LineFaultValue}
use Rattle.replay_script.specs.RecordLine.{with_record}
use Rattle.replay_script.specs.Line.{IsRead}
use Rattle.replay_script.specs.Script.{ScriptValue, has_reply, in_order, latest_from, outcomes_of, requests_of, settings_of}
use Rattle.replay_script.specs.Configuration.{ConfigurationValue, configured}
use Rattle.replay_script.specs.declared.fail_line.Failure.{Failure}
use Rattle.replay_script.specs.declared.fault.ScriptFault.{ScriptFault}
use Rattle.replay_script.specs.declared.fault.ScriptFault.TheVariants.{NoReply, OutOfMemory, ReversedBounds}
use Rattle.replay_script.specs.declared.line.Line.{Line}
use Rattle.replay_script.specs.declared.record_line.Section.{Section}
use Rattle.replay_script.specs.declared.script.OpenReply.{OpenReply}

-- the outcomes that are whole, the reply that may still get records, the requests, the latest moment, and what
-- is set
pub record ReaderValue : Type 0 where
  pub closed : List (Query × OutcomeValue)
  pub open_reply : Option OpenReply
  pub requests : List RequestValue
  pub latest : ℕ
  pub configuration : ConfigurationValue

-- the open reply is one more outcome
abbrev pub opened : Option OpenReply → List (Query × OutcomeValue)
opened None = []
opened (Some reply) = (reply.query, Ok reply.message) ∷ []

-- a failure is an outcome to which no record is put
abbrev pub failure_outcome : Failure → Query × OutcomeValue
failure_outcome failure = (failure.query, Err (error_of failure.kind))

-- a record is put to the open reply, where there is one
abbrev pub answered : Section → RecordValue → OpenReply → OpenReply
answered section found reply = record reply { message = with_record section found reply.message }

abbrev pub IsAnswered : ReaderValue → Section → RecordValue → Result (Unit {0}) ScriptFault → ReaderValue → Type 0
IsAnswered before section found result after =
    MatchOption before.open_reply (result ≡ Err NoReply)
    (λ reply. MatchResult result (λ _. after ≡ record before {
      open_reply = Some (answered section found reply);
    }) (λ fault. fault ≡ OutOfMemory))

-- the reader keeps what these lines say
pub record Keeps (reader : ReaderValue) (said : List Line) : Type 0 where
  pub outcomes_are : reader.closed ++ opened reader.open_reply ≡ outcomes_of said
  pub requests_are : reader.requests ≡ requests_of said
  pub reply_is : is_some reader.open_reply ≡ has_reply said
  pub latest_is : reader.latest ≡ latest_from 0 said
  pub configuration_is : reader.configuration ≡ configured (settings_of said)

-- a line is read and kept behind those that said this, or it has a fault there
abbrev pub IsTaken : List Line → List ℕ → Result (Unit {0}) ScriptFault → ReaderValue → Type 0
IsTaken said line result after =
    MatchResult result
    (λ _. (more : Line) × IsRead (has_reply said) line (Ok more)
    × (in_order (latest_from 0 said) (Ok more) ≡ Ok more) × Keeps after (said ++ more ∷ []))
    (λ fault. (fault ≡ OutOfMemory)
    ⊎ ((read : Result Line LineFaultValue) × IsRead (has_reply said) line read
    × (in_order (latest_from 0 said) read ≡ Err fault)))

-- the script of these outcomes, and of what else is kept
abbrev pub finished : List (Query × OutcomeValue) → ReaderValue → ScriptValue
finished outcomes reader = record {
  table = reader.configuration.table;
  outcomes = outcomes;
  requests = reader.requests;
  options = reader.configuration.options;
  domain = reader.configuration.domain;
  search = reader.configuration.search;
}

-- behind the last line: the script, or reversed bounds
abbrev pub IsFinished : ReaderValue → Result ScriptValue ScriptFault → Type 0
IsFinished reader result =
    let reversed = bounds_fault (bounds_of reader.configuration.options) in
    MatchResult result
    (λ script. (script ≡ finished (reader.closed ++ opened reader.open_reply) reader) × (reversed ≡ None))
    (λ fault. (fault ≡ OutOfMemory) ⊎ ((fault ≡ ReversedBounds) × IsSome reversed))
