-- What holds after every list of events of a transaction.
use Rattle.std.specs.Prelude.{◌≡◌, ◌⊎◌, ◌≤◌, ◌<◌, ℕ, true, List, [], ◌∷◌, length, count_by, Contains, Option, None, Some}
use Rattle.std.specs.Option.{is_some}
use Rattle.std.specs.List.{AllByRecursion, flat_map, fold}
use Rattle.hickory_resolver_servers.specs.Server.{ServerState}
use Rattle.hickory_resolver_tries.specs.declared.outcome.ReplyOutcome.{ReplyOutcome}
use Rattle.hickory_resolver_transactions.specs.Candidates.{is_waiting, try_made, sent_with, freed_one, blocked_as, without_channel}
use Rattle.hickory_resolver_transactions.specs.Table.{sends_by}
use Rattle.hickory_resolver_transactions.specs.Transaction.{TransactionState, begun_with, came, opt_was_refused, other_letters_came, failed, blocked, freed, expired, without_oldest, with_round, sent, unsent, outcome_of, wants_round, wanted, next_deadline}
use Rattle.hickory_resolver_transactions.specs.declared.candidate.Candidate.{Candidate}
use Rattle.hickory_resolver_transactions.specs.declared.candidate.Made.{Made}
use Rattle.hickory_resolver_transactions.specs.declared.candidate.Progress.{Progress}
use Rattle.hickory_resolver_transactions.specs.declared.candidate.Progress.TheVariants.{Queued, Again, Blocked}
use Rattle.hickory_resolver_transactions.specs.declared.choices.TheConstants.{SENDS_BY_TRANSPORT, LATE_TRIES}
use Rattle.hickory_resolver_transactions.specs.declared.outcome.Outcome.{Outcome}
use Rattle.hickory_resolver_transactions.specs.declared.outcome.Outcome.TheVariants.{Reply, Cut, Code, Unreachable, Timeout}
use Rattle.hickory_resolver_transactions.specs.declared.candidate.Way.{Way}
use Rattle.hickory_resolver_transactions.specs.declared.settings.Settings.{Settings}

-- ---- events, one after another

pub data TransactionEvent : Type 0 where
  round_begins : List ℕ → TransactionEvent
  is_sent : Made → TransactionEvent
  has_no_room : ℕ → TransactionEvent
  reply_came : ℕ → ℕ → ReplyOutcome → ℕ → TransactionEvent
  opt_refused : ℕ → ℕ → TransactionEvent
  letters_differ : ℕ → ℕ → TransactionEvent
  channel_failed : ℕ → TransactionEvent
  no_channel : ℕ → TransactionEvent
  channel_free : TransactionEvent
  oldest_given_up : TransactionEvent
  time_passed : ℕ → TransactionEvent

abbrev pub after_event : TransactionState → TransactionEvent → TransactionState
after_event s (round_begins order) = with_round order s
after_event s (is_sent made) = sent made s
after_event s (has_no_room due) = unsent due s
after_event s (reply_came channel id outcome reply) = came channel id outcome reply s
after_event s (opt_refused channel id) = opt_was_refused channel id s
after_event s (letters_differ channel id) = other_letters_came channel id s
after_event s (channel_failed channel) = failed channel s
after_event s (no_channel channel) = blocked channel s
after_event s channel_free = freed s
after_event s oldest_given_up = without_oldest s
after_event s (time_passed now) = expired now s

abbrev pub after_events : TransactionState → List TransactionEvent → TransactionState
after_events s events = fold after_event s events

-- ---- bounded

-- what is still to be sent to a server has its place among the two by a transport
abbrev pub HasRoom : Progress → Candidate → Type 0
HasRoom Queued c = (c.udp_sends ≡ 0) × (c.tcp_sends ≡ 0)
HasRoom (Again way due) c = sends_by way.transport c < SENDS_BY_TRANSPORT
HasRoom (Blocked way due) c = sends_by way.transport c < SENDS_BY_TRANSPORT
HasRoom other c = Unit {0}

-- in a round a server is sent two messages at most by one transport
pub record IsWithinSends (c : Candidate) : Type 0 where
  pub udp : c.udp_sends ≤ SENDS_BY_TRANSPORT
  pub tcp : c.tcp_sends ≤ SENDS_BY_TRANSPORT
  pub room : HasRoom c.progress c

-- rounds, tries that wait, and late ones are within their bounds; a server has one try that waits, or none
pub record IsBounded (s : TransactionState) : Type 0 where
  pub sends : AllByRecursion IsWithinSends s.candidates
  pub waiting : count_by (λ c. is_waiting c.progress) s.candidates ≤ s.settings.concurrent
  pub late : length s.late ≤ LATE_TRIES
  pub rounds : s.round ≤ s.settings.rounds

abbrev pub StaysBounded : Type 0
StaysBounded =
    (settings : Settings) (servers : List ServerState) (events : List TransactionEvent)
    → IsBounded (after_events (begun_with settings servers) events)

-- ---- nothing is made up

-- the replies that came
abbrev pub reply_in : TransactionEvent → List ℕ
reply_in (reply_came channel id outcome reply) = reply ∷ []
reply_in other = []

abbrev pub replies_in : List TransactionEvent → List ℕ
replies_in events = flat_map reply_in events

-- an outcome that is a reply, or is made of one, is of one of these
abbrev pub IsOfReplies : List ℕ → Outcome → Type 0
IsOfReplies replies (Reply reply) = Contains replies reply
IsOfReplies replies (Cut reply) = Contains replies reply
IsOfReplies replies (Code reply) = Contains replies reply
IsOfReplies replies Unreachable = Unit {0}
IsOfReplies replies Timeout = Unit {0}

abbrev pub IsToldOf : List ℕ → Option Outcome → Type 0
IsToldOf replies None = Unit {0}
IsToldOf replies (Some outcome) = IsOfReplies replies outcome

abbrev pub NothingIsMadeUp : Type 0
NothingIsMadeUp =
    (settings : Settings) (servers : List ServerState) (events : List TransactionEvent)
    → IsToldOf (replies_in events) (outcome_of (after_events (begun_with settings servers) events))

-- ---- it waits for something

-- While it is not over, a round is to begin, or something is to be sent, or it waits up to a moment: so it never waits
-- for ever, where at least one try may wait at once.
abbrev pub WaitsForSomething : TransactionState → Type 0
WaitsForSomething s =
    (wants_round s ≡ true) ⊎ ((is_some (wanted s) ≡ true) ⊎ (is_some (next_deadline s) ≡ true))

abbrev pub NeverWaitsForEver : Type 0
NeverWaitsForEver =
    (s : TransactionState) → 1 ≤ s.settings.concurrent → outcome_of s ≡ None → WaitsForSomething s

-- ---- it does not wait for a channel for ever

-- What waits for a channel waits up to one moment, however often one comes free for it: where that is gone again before
-- it is sent, and where that cannot be opened.
pub record KeepsItsTime (c : Candidate) (made : Made) (settings : Settings) (way : Way) (due until : ℕ) : Type 0 where
  pub unsent : (without_channel until (freed_one c)).progress ≡ Blocked way due
  pub unopened :
      (blocked_as (try_made made (freed_one c) settings) (sent_with made settings (freed_one c))).progress
      ≡ Blocked way due

abbrev pub EachKeepsItsTime : Type 0
EachKeepsItsTime =
    (c : Candidate) (made : Made) (settings : Settings) (way : Way) (due until : ℕ) → c.progress ≡ Blocked way due
    → KeepsItsTime c made settings way due until
