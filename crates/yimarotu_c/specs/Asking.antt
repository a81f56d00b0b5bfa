-- The questions that look-ups wait for.
use Rattle.std.specs.Prelude.{◌≡◌, ℕ, Bool, false, List, Option, MatchOption, MatchResult}
use Rattle.hickory_proto_core.specs.declared.dns_request.DnsRequestOptions.{DnsRequestOptions}
use Rattle.hickory_proto_core.specs.declared.query.Query.{Query}
use Rattle.hickory_resolver_model.specs.Options.{request_options_of}
use Rattle.yimarotu_c.specs.LookingUp.{status_of}
use Rattle.yimarotu_c.specs.Messages.{IsMessagePut}
use Rattle.yimarotu_c.specs.Statuses.{number_of}
use Rattle.yimarotu_c.specs.declared.asking.YimarotuAsked.{YimarotuAsked}
use Rattle.yimarotu_c.specs.declared.rewriting.YimarotuWritten.{YimarotuWritten}
use Rattle.yimarotu_c.specs.declared.status.Status.{Status}
use Rattle.yimarotu_c.specs.declared.status.Status.TheVariants.{AsksItself}
use Rattle.yimarotu_embedded.specs.declared.held.Held.{Held}
use Rattle.yimarotu_embedded.specs.declared.held.Held.TheVariants.{Fed, Driven}
use Rattle.yimarotu_session.specs.Calls.{question_at}
use Rattle.yimarotu_session.specs.Messages.{question_message}
use Rattle.yimarotu_session.specs.Sessions.{SessionValue}

-- A call that reads a session, and writes at the front of a room. Of one that is closed it ends so, and the room stays.
abbrev pub Reads : {A : Type 0} → (Held → List ℕ → List ℕ → A → Type 0) → A → Option Held → List ℕ → A → Option Held
    → List ℕ → Type 0
Reads Tells closed session before ended left after =
    (left ≡ session)
    × MatchOption session ((ended ≡ closed) × (after ≡ before)) (λ held. Tells held before after ended)

abbrev pub asked_end : Status → YimarotuAsked
asked_end status = record { status = number_of status; fault = 0; mixed = false; length = 0 }

-- what is told of a question that was written, or could not be
abbrev pub asked_of : Bool → YimarotuWritten → YimarotuAsked
asked_of mixed written =
    record { status = written.status; fault = written.fault; mixed = mixed; length = written.length }

-- a question is put in the room as a message
pub record IsQuestionPut
    (question : Query) (options : DnsRequestOptions) (before after : List ℕ) (ended : YimarotuAsked)
    : Type 0 where
  pub written : YimarotuWritten
  pub put : IsMessagePut (question_message question options) 65535 before after written
  pub told : ended ≡ asked_of options.case_randomization written

-- the question of a look-up that waits is put in the room; of any other the room stays
abbrev pub IsAsked : ℕ → SessionValue → List ℕ → List ℕ → YimarotuAsked → Type 0
IsAsked number session before after ended =
    MatchResult (question_at number session)
    (λ question. IsQuestionPut question (request_options_of session.resolver.options) before after ended)
    (λ error. (after ≡ before) × (ended ≡ asked_end (status_of error)))

-- a session that asks by itself tells no question
abbrev pub IsAskedIn : ℕ → Held → List ℕ → List ℕ → YimarotuAsked → Type 0
IsAskedIn number (Fed s) before after ended = IsAsked number s before after ended
IsAskedIn number (Driven d) before after ended = (after ≡ before) × (ended ≡ asked_end AsksItself)
