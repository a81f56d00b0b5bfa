-- What holds after every list of events of askers.
use Rattle.std.specs.Prelude.{ℕ, ◌≤◌, ◌<◌, List, length}
use Rattle.std.specs.List.{AllByRecursion, fold}
use Rattle.hickory_resolver_askers.specs.Askers.{AskersState, nobody, begun, joined, over, forgot, admitted}
use Rattle.hickory_resolver_askers.specs.declared.asker.Asker.{Asker}
use Rattle.hickory_resolver_askers.specs.declared.asker.AskerLimits.{AskerLimits}

pub data AskersEvent : Type 0 where
  begins : ℕ → AskersEvent
  joins : ℕ → AskersEvent
  is_over : ℕ → AskersEvent
  is_forgotten : Asker → AskersEvent
  is_admitted : AskersEvent

abbrev pub after_event : AskersState → AskersEvent → AskersState
after_event s (begins until) = begun until s
after_event s (joins transaction) = joined transaction s
after_event s (is_over transaction) = over transaction s
after_event s (is_forgotten asker) = forgot asker s
after_event s is_admitted = admitted s

abbrev pub after_events : AskersState → List AskersEvent → AskersState
after_events s events = fold after_event s events

-- its number was given: the next one is greater
abbrev pub HasOldNumber : {A : Type 0} → ℕ → ℕ × A → Type 0
HasOldNumber next p = p.0 < next

pub record IsWithinLimits (limits : AskerLimits) (s : AskersState) : Type 0 where
  pub in_flight : length s.in_flight ≤ limits.transactions
  pub waiting : length s.waiting ≤ limits.waiting
  pub flying_numbers : AllByRecursion (HasOldNumber s.next_transaction) s.in_flight
  pub waiting_numbers : AllByRecursion (HasOldNumber s.next_transaction) s.waiting

-- There are no more transactions in flight, and no more that wait, than the limits say, and the number of the next one
-- is greater than that of each.
abbrev pub StaysWithinLimits : Type 0
StaysWithinLimits =
    (limits : AskerLimits) (events : List AskersEvent)
    → IsWithinLimits limits (after_events (nobody limits) events)
