-- What holds of a question in flight after every list of events.
use Rattle.std.specs.Prelude.{◌≡◌, ℕ, List, [], ◌∷◌, ◌++◌, Some, IfSome, Contains}
use Rattle.std.specs.List.{fold}
use Rattle.hickory_resolver_servers.specs.Server.{ServerState}
use Rattle.hickory_resolver_tries.specs.Belief.{belief_of}
use Rattle.hickory_resolver_tries.specs.declared.belief.Belief.TheVariants.{Believed}
use Rattle.hickory_resolver_tries.specs.declared.pool_question.PoolQuestion.{PoolQuestion}
use Rattle.hickory_resolver_transactions.specs.Transaction.{with_round, unsent, failed, blocked, freed, expired, without_oldest, try_at}
use Rattle.hickory_resolver_transactions.specs.declared.candidate.Made.{Made}
use Rattle.hickory_resolver_transactions.specs.declared.candidate.Try.{Try}
use Rattle.hickory_resolver_transactions.specs.declared.settings.Settings.{Settings}
use Rattle.hickory_resolver_flights.specs.Flights.{FlightState, KeptValue, flight_of, sent_by, heard, kept_of, changed}

-- ---- events, one after another

pub data FlightEvent : Type 0 where
  round_begins : List ℕ → FlightEvent
  is_sent : Made → FlightEvent
  has_no_room : ℕ → FlightEvent
  octets_came : ℕ → ℕ → List ℕ → FlightEvent
  channel_failed : ℕ → FlightEvent
  no_channel : ℕ → FlightEvent
  channel_free : FlightEvent
  oldest_given_up : FlightEvent
  time_passed : ℕ → FlightEvent

abbrev pub after_event : FlightState → FlightEvent → FlightState
after_event s (round_begins order) = changed (with_round order) s
after_event s (is_sent made) = sent_by made s
after_event s (has_no_room due) = changed (unsent due) s
after_event s (octets_came channel id octets) = heard channel id octets s
after_event s (channel_failed channel) = changed (failed channel) s
after_event s (no_channel channel) = changed (blocked channel) s
after_event s channel_free = changed freed s
after_event s oldest_given_up = changed without_oldest s
after_event s (time_passed now) = changed (expired now) s

abbrev pub after_events : FlightState → List FlightEvent → FlightState
after_events s events = fold after_event s events

-- ---- nothing is made up

-- Octets came on a channel, with this number in their header, once these events were over. There a try of this form
-- waited, or was late; they were believed as a reply to it; and they spell this reply.
pub record IsOfOctets (start : FlightState) (events : List FlightEvent) (k : KeptValue) : Type 0 where
  pub before : List FlightEvent
  pub later : List FlightEvent
  pub channel : ℕ
  pub id : ℕ
  pub octets : List ℕ
  pub tried : Try
  pub came : events ≡ before ++ octets_came channel id octets ∷ later
  pub waited : try_at channel id (after_events start before).transaction ≡ Some tried
  pub believed : belief_of (after_events start before).question tried.form octets ≡ Believed
  pub spelled : k ≡ kept_of octets (after_events start before)

-- The question is the one that was asked, and the reply that is kept, of which alone an outcome is made, is of octets
-- that came and were believed.
abbrev pub NothingIsMadeUp : Type 0
NothingIsMadeUp =
    (settings : Settings) (servers : List ServerState) (question : PoolQuestion) (events : List FlightEvent)
    → ((after_events (flight_of settings servers question) events).question ≡ question)
    × IfSome (after_events (flight_of settings servers question) events).kept
    (IsOfOctets (flight_of settings servers question) events)

-- ---- what waits, or is late, was sent

-- it was sent on its channel, with its number
pub record WasSent (events : List FlightEvent) (t : Try) : Type 0 where
  pub made : Made
  pub sent : Contains events (is_sent made)
  pub channel : t.channel ≡ made.channel
  pub id : t.form.id ≡ made.id

abbrev pub EachTryWasSent : Type 0
EachTryWasSent =
    (settings : Settings) (servers : List ServerState) (question : PoolQuestion) (events : List FlightEvent)
    → (channel id : ℕ) (t : Try)
    → try_at channel id (after_events (flight_of settings servers question) events).transaction ≡ Some t
    → WasSent events t
