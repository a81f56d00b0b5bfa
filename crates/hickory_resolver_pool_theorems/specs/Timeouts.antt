-- What a timeout says of all that its transaction went through.
use Rattle.std.specs.Prelude.{◌≡◌, ◌⊎◌, ℕ, Bool, true, false, ◌&&◌, ◌==◌, List, ◌∷◌, ◌++◌, Option, None, Some}
use Rattle.std.specs.List.{list_any}
use Rattle.hickory_resolver_servers.specs.Server.{ServerState}
use Rattle.hickory_resolver_transactions.specs.Candidates.{is_busy, is_due, waits_on}
use Rattle.hickory_resolver_transactions.specs.Laws.{TransactionEvent, channel_failed, time_passed, after_event, after_events}
use Rattle.hickory_resolver_transactions.specs.Transaction.{TransactionState, begun_with, picked}
use Rattle.hickory_resolver_transactions.specs.declared.candidate.Candidate.{Candidate}
use Rattle.hickory_resolver_transactions.specs.declared.outcome.Outcome.{Outcome}
use Rattle.hickory_resolver_transactions.specs.declared.outcome.Outcome.TheVariants.{Timeout}
use Rattle.hickory_resolver_transactions.specs.declared.settings.Settings.{Settings}

-- nothing was noted, or timeouts alone: of what is noted the best is kept, and a timeout is the least
abbrev pub IsTimeoutAtMost : Option Outcome → Type 0
IsTimeoutAtMost None = Unit {0}
IsTimeoutAtMost (Some Timeout) = Unit {0}
IsTimeoutAtMost (Some other) = ⊥

-- no reply ended it, and nothing was noted but timeouts
pub record HasTimedOutAtMost (t : TransactionState) : Type 0 where
  pub ended : t.ended ≡ None
  pub noted : IsTimeoutAtMost t.noted

-- something is still to come of the server at this place in this round
abbrev pub is_awaited : ℕ → TransactionState → Bool
is_awaited place t = list_any (λ c. (c.place == place) && is_busy c.progress) t.candidates

-- time passed up to a moment at which that server was to have answered, or a channel to have come free for it
pub record HasPassed (place : ℕ) (t : TransactionState) (e : TransactionEvent) : Type 0 where
  pub now : ℕ
  pub server : Candidate
  pub passed : e ≡ time_passed now
  pub due : picked (is_due now) t ≡ Some server
  pub at_place : server.place ≡ place

-- the channel failed on which a try at that server waited, which stays believed
pub record HasFailedThere (place : ℕ) (t : TransactionState) (e : TransactionEvent) : Type 0 where
  pub channel : ℕ
  pub server : Candidate
  pub failed : e ≡ channel_failed channel
  pub waited : picked (waits_on channel) t ≡ Some server
  pub at_place : server.place ≡ place

-- At no moment of what it went through more than timeouts was noted; and where nothing was to come of a server any more
-- in a round, that was since its time had passed, or since its channel had failed, of which nothing was noted either.
pub record OnlyTimePassed (start : TransactionState) (events : List TransactionEvent) : Type 0 where
  pub noted : (before later : List TransactionEvent) → events ≡ before ++ later
      → HasTimedOutAtMost (after_events start before)
  pub passed : (before later : List TransactionEvent) (e : TransactionEvent) (place : ℕ)
      → events ≡ before ++ e ∷ later → is_awaited place (after_events start before) ≡ true
      → is_awaited place (after_event (after_events start before) e) ≡ false
      → HasPassed place (after_events start before) e ⊎ HasFailedThere place (after_events start before) e

abbrev pub TimeoutsAreAlone : Type 0
TimeoutsAreAlone =
    (settings : Settings) (servers : List ServerState) (events : List TransactionEvent)
    → HasTimedOutAtMost (after_events (begun_with settings servers) events)
    → OnlyTimePassed (begun_with settings servers) events
