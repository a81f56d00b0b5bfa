-- A forwarder as a program drives it.
use Rattle.std.specs.Prelude.{◌≡◌, ◌⊎◌, ◌==◌, ℕ, Bool, true, false, List, Option, None, Some, Result, Ok, Err, MatchOption, MatchResult, if◌then◌else◌}
use Rattle.client_requests.specs.declared.client.Client.{Client}
use Rattle.yimarotu_forwarder.specs.Counting.{one_more}
use Rattle.yimarotu_forwarder.specs.Forwarders.{ForwarderValue, at_moment}
use Rattle.yimarotu_forwarder.specs.Leaving as leaving
use Rattle.yimarotu_forwarder.specs.Queries.{AnswersQuery}
use Rattle.yimarotu_forwarder.specs.Steps.{ForwarderSteps, StopsStep}
use Rattle.yimarotu_forwarder.specs.declared.answered.Answered.{Answered}
use Rattle.yimarotu_forwarder.specs.declared.steps.ForwarderAction.{ForwarderAction}
use Rattle.yimarotu_forwarder.specs.declared.steps.ForwarderAction.TheVariants as act
use Rattle.yimarotu_driven_forwarder.specs.Opening.{IsForwarderOpened}
use Rattle.yimarotu_driven_forwarder.specs.Seeds.{pool_seed}
use Rattle.yimarotu_driven_forwarder.specs.Texts.{TextsValue}
use Rattle.yimarotu_driven_forwarder.specs.declared.driven_forwarder.QueryError.{QueryError}
use Rattle.yimarotu_driven_forwarder.specs.declared.driven_forwarder.QueryError.TheVariants as query_error
use Rattle.yimarotu_driven_forwarder.specs.declared.open_error.ForwarderOpenError.{ForwarderOpenError}
use Rattle.yimarotu_driven_forwarder.specs.declared.open_error.ForwarderOpenError.TheVariants as open_error

-- With what the program has to do next and was not told whole, how many messages were to be sent, and what it was
-- opened with or read last.
pub record DrivenValue : Type 0 where
  pub forwarder : ForwarderValue
  pub action : Option ForwarderAction
  pub sent : ℕ
  pub texts : TextsValue

-- ---- it is opened

-- it did nothing yet
abbrev pub driven_of : ForwarderValue → TextsValue → DrivenValue
driven_of f texts = record { forwarder = f; action = None; sent = 0; texts = texts }

abbrev pub IsKept : TextsValue → ForwarderValue → Result DrivenValue ForwarderOpenError → Type 0
IsKept texts f result = MatchResult result (λ d. d ≡ driven_of f texts) (λ error. error ≡ open_error.OutOfMemory)

abbrev pub IsOpened : TextsValue → List ℕ → ℕ → Result DrivenValue ForwarderOpenError → Type 0
IsOpened texts seed now result =
    ((opened : Result ForwarderValue ForwarderOpenError) × IsForwarderOpened texts (pool_seed seed) now opened
    × MatchResult opened (λ f. IsKept texts f result) (λ error. result ≡ Err error))
    ⊎ (result ≡ Err open_error.OutOfMemory)

-- ---- events

abbrev pub over_forwarder : (ForwarderValue → ForwarderValue) → DrivenValue → DrivenValue
over_forwarder change d = record d { forwarder = change d.forwarder }

-- a reply to a client is to be told
abbrev pub is_reply_left : Option ForwarderAction → Bool
is_reply_left (Some (act.Reply client)) = true
is_reply_left other = false

-- the forwarder answers a query, where no reply is to be told first
pub record Asks (client : Client) (octets : List ℕ) (now : ℕ) (before : DrivenValue) (answered : Answered)
    (after : DrivenValue) : Type 0 where
  pub is_free : is_reply_left before.action ≡ false
  pub answers : AnswersQuery client octets now before.forwarder answered after.forwarder
  pub others_stay : after ≡ record before { forwarder = after.forwarder }

-- or it does not, and at most the moment passes
abbrev pub StopsAsking : ℕ → DrivenValue → QueryError → DrivenValue → Type 0
StopsAsking now before query_error.ReplyWaits after = (is_reply_left before.action ≡ true) × (after ≡ before)
StopsAsking now before query_error.OutOfMemory after =
    (is_reply_left before.action ≡ false) × (after ≡ over_forwarder (at_moment now) before)

-- the reply to a client is to be told
abbrev pub is_reply_to : ℕ → Option ForwarderAction → Bool
is_reply_to client (Some (act.Reply number)) = number == client
is_reply_to client other = false

abbrev pub without_reply_to : ℕ → Option ForwarderAction → Option ForwarderAction
without_reply_to client action = if is_reply_to client action then None else action

-- no request of a client is replied to any more, nor is it told the reply that is next
abbrev pub gone : ℕ → DrivenValue → DrivenValue
gone client d = record d {
  forwarder = leaving.gone client d.forwarder;
  action = without_reply_to client d.action;
}

-- ---- what the program has to do

-- how many messages were to be sent; the greatest number stays
abbrev pub sent_after : Option ForwarderAction → ℕ → ℕ
sent_after (Some (act.Send sent)) count = one_more count
sent_after other count = count

-- where nothing is left to be told, the forwarder does its next step
abbrev pub FetchesNext : DrivenValue → DrivenValue → Type 0
FetchesNext before after =
    ForwarderSteps before.forwarder after.action after.forwarder
    × (after ≡ record before {
      forwarder = after.forwarder;
      action = after.action;
      sent = sent_after after.action before.sent;
    })

abbrev pub Fetches : DrivenValue → DrivenValue → Type 0
Fetches before after = MatchOption before.action (FetchesNext before after) (λ action. after ≡ before)

-- or memory is refused, and nothing is to be told
pub record StopsFetching (before after : DrivenValue) : Type 0 where
  pub none : before.action ≡ None
  pub stops : StopsStep before.forwarder after.forwarder
  pub others_stay : after ≡ record before { forwarder = after.forwarder }

abbrev pub without_action : DrivenValue → DrivenValue
without_action d = record d { action = None }
