-- A line is heard, and answered.
use Rattle.std.specs.declared.alloc.AllocError.{AllocError}
use Rattle.std.specs.Prelude.{◌≡◌, ◌⊎◌, ◌&&◌, ℕ, false, List, [], string_bytes, None, Some, Result, Ok, Err, MatchResult}
use Rattle.std.specs.Option.{is_some}
use Rattle.hickory_proto_core.specs.Handles.{OutcomeValue}
use Rattle.hickory_resolver_model.specs.Cache.{CacheValue}
use Rattle.hickory_resolver_model.specs.Run.{RequestValue, Settings, moment_of, call_context_at}
use Rattle.hickory_resolver_theorems.specs.ResumingCalls.{WaitingCallValue, CallProgressValue, ResumesCall}
use Rattle.replay_script.specs.Configuration.{configured}
use Rattle.replay_script.specs.FailLine.{error_of}
use Rattle.replay_script.specs.declared.fail_line.Failure.{Failure}
use Rattle.replay_script.specs.declared.line.Line.TheVariants as line
use Rattle.replay_script.specs.declared.script.OpenReply.{OpenReply}
use Rattle.conversation.specs.Answers.{Answer, AnswersSaid, Came, ComesTo, IsOpened}
use Rattle.conversation.specs.Files.{only_hosts}
use Rattle.conversation.specs.Lines.{IsAsked, IsScriptLine, mark_of}
use Rattle.conversation.specs.Said as said
use Rattle.conversation.specs.Said.{SaidValue, said_by}
use Rattle.conversation.specs.State.{ConversationValue, InFlightValue, Puts, Setting, Serving, Phase, counted, request_at}
use Rattle.conversation.specs.declared.heard.Heard.{Heard}

-- what a line is answered in a conversation that counted it
abbrev pub Answers : ConversationValue → List ℕ → Answer → Type 0
Answers c text answer = AnswersSaid c (mark_of text) (said_by text) answer

-- the answer is said
pub record Says (answer : Answer) (heard : Heard) : Type 0 where
  pub explained_is : string_bytes heard.explained ≡ answer.explained
  pub text_is : string_bytes heard.text ≡ answer.text
  pub journal_is : string_bytes heard.journal ≡ answer.journal
  pub last_is : heard.is_last ≡ answer.is_last

-- and this stands: the requests under all other marks stay
pub record Stands (mark : List ℕ) (answer : Answer) (before after : ConversationValue) : Type 0 where
  pub lines_are : after.lines ≡ before.lines
  pub phase_is : after.phase ≡ answer.phase
  pub requests_are : Puts mark answer.held before.requests after.requests

-- ---- out of memory

-- a request was begun, at the first one over a new resolver, and what was stored for it so far stands
abbrev pub IsBegunOver : Settings → CacheValue → RequestValue → Phase → Type 0
IsBegunOver s cache request after =
    (after ≡ Serving s cache)
    ⊎ ((came : Came) × (left : CacheValue) × ComesTo s request cache came left × (after ≡ Serving s left))

abbrev pub IsBegunOut : Phase → RequestValue → Phase → Type 0
IsBegunOut before request after =
    (s : Settings) × (cache : CacheValue) × IsOpened before (moment_of request) (Ok (s, cache))
    × IsBegunOver s cache request after

-- a request went on with what came back to its question, and what was stored for it stands
abbrev pub IsFedOut : Phase → WaitingCallValue → OutcomeValue → Phase → Type 0
IsFedOut (Setting configuration files) w outcome after = ⊥
IsFedOut (Serving s cache) w outcome after =
    (progress : CallProgressValue) × (left : CacheValue)
    × ResumesCall (call_context_at s w.lookup.now) w outcome cache progress left × (after ≡ Serving s left)

-- the request that a line asks
abbrev pub IsRequestOf : SaidValue → RequestValue → Type 0
IsRequestOf (said.Request explains given) request = IsAsked given (Ok request)
IsRequestOf other request = ⊥

-- the outcome that a line brings to a request: at `done` the open reply, or the failure that the line says
abbrev pub IsOutcomeOf : SaidValue → InFlightValue → OutcomeValue → Type 0
IsOutcomeOf (said.Done []) r outcome = (reply : OpenReply) × (r.reply ≡ Some reply) × (outcome ≡ Ok reply.message)
IsOutcomeOf (said.Outcome begins given) r outcome =
    (failure : Failure) × ((begins && is_some r.reply) ≡ false)
    × IsScriptLine (is_some r.reply) given (Ok (line.Fail failure)) × (outcome ≡ Err (error_of failure.kind))
IsOutcomeOf other r outcome = ⊥

-- an outcome of this kind came back to the question of the mark's request, and what was stored for it stands
abbrev pub IsFedWith : ConversationValue → List ℕ → (InFlightValue → OutcomeValue → Type 0) → Phase → Type 0
IsFedWith c mark Comes after =
    (r : InFlightValue) × (outcome : OutcomeValue) × (request_at mark c.requests ≡ Some r) × Comes r outcome
    × IsFedOut c.phase r.waiting outcome after

-- What memory that ran out leaves of the resolver, where it is not as it was: the request that the line asks was begun,
-- under a mark that was free; or the request of the mark went on with the outcome that the line brings.
abbrev pub IsServedOut : ConversationValue → List ℕ → SaidValue → Phase → Type 0
IsServedOut c mark said after =
    ((request : RequestValue) × IsRequestOf said request × (request_at mark c.requests ≡ None)
    × IsBegunOut c.phase request after)
    ⊎ IsFedWith c mark (IsOutcomeOf said) after

-- memory ran out: the request of the mark is forgotten
pub record RunsOut (mark : List ℕ) (said : SaidValue) (before after : ConversationValue) : Type 0 where
  pub lines_are : after.lines ≡ before.lines
  pub phase_is : (after.phase ≡ before.phase) ⊎ IsServedOut before mark said after.phase
  pub requests_are : Puts mark None before.requests after.requests

-- ---- hearing

-- a line is counted, and answered; or memory runs out, and there is no answer
abbrev pub IsHeard : ConversationValue → List ℕ → Result Heard AllocError → ConversationValue → Type 0
IsHeard before text result after =
    MatchResult result
    (λ heard. (answer : Answer) × Answers (counted before) text answer × Says answer heard
    × Stands (mark_of text) answer (counted before) after)
    (λ error. RunsOut (mark_of text) (said_by text) (counted before) after)

-- a conversation in which nothing was said, over what a file of hosts says
abbrev pub silent : List ℕ → ConversationValue
silent hosts = record { lines = 0; phase = Setting (configured []) (only_hosts hosts); requests = [] }
