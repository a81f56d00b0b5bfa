-- The reply that is kept is of octets that came and were believed.
use Rattle.std.proofs.Common.{◌≡◌, ℕ, Bool, true, false, cond, List, [], ◌∷◌, ◌++◌, refl, ap, sym, subst, ◌∙◌, append_assoc}
use Rattle.std.specs.Prelude.{Option, None, Some, IfSome}
use Rattle.std.proofs.lemmas.List.{append-nil}
use Rattle.std.specs.Option.{option_map_or}
use Rattle.hickory_resolver_tries.specs.Belief.{belief_of}
use Rattle.hickory_resolver_tries.specs.declared.belief.Belief.{Belief}
use Rattle.hickory_resolver_tries.specs.declared.belief.Belief.TheVariants as belief
use Rattle.hickory_resolver_transactions.specs.Transaction.{try_at}
use Rattle.hickory_resolver_transactions.specs.declared.candidate.Try.{Try}
use Rattle.hickory_resolver_flights.specs.Flights.{FlightState, KeptValue, flight_of, names, kept_of, replied, heard_as, heard_by, heard}
use Rattle.hickory_resolver_flights.specs.Laws.{FlightEvent, round_begins, is_sent, has_no_room, octets_came, channel_failed, no_channel, channel_free, oldest_given_up, time_passed, after_event, after_events, IsOfOctets, NothingIsMadeUp}

-- ---- the question

same-heard_as : (b : Belief) (channel id : ℕ) (t : Try) (octets : List ℕ) (s : FlightState)
    → (heard_as b channel id t octets s).question ≡ s.question
same-heard_as belief.Believed channel id t octets s = refl
same-heard_as belief.OtherLetters channel id t octets s = refl
same-heard_as belief.OptRefused channel id t octets s = refl
same-heard_as belief.NotBelieved channel id t octets s = refl

same-event : (s : FlightState) (event : FlightEvent) → (after_event s event).question ≡ s.question
same-event s (round_begins order) = refl
same-event s (is_sent made) = refl
same-event s (has_no_room due) = refl
same-event s (octets_came channel id octets) = by (try_at channel id s.transaction)
  where
    by : (found : Option Try) → (option_map_or (heard_by channel id octets s) found s).question ≡ s.question
    by None = refl
    by (Some t) = same-heard_as (belief_of s.question t.form octets) channel id t octets s
same-event s (channel_failed channel) = refl
same-event s (no_channel channel) = refl
same-event s channel_free = refl
same-event s oldest_given_up = refl
same-event s (time_passed now) = refl

same-events : (s : FlightState) (events : List FlightEvent) → (after_events s events).question ≡ s.question
same-events s [] = refl
same-events s (event ∷ events) = same-events (after_event s event) events ∙ same-event s event

-- ---- events behind others

after-more : (s : FlightState) (events more : List FlightEvent)
    → after_events s (events ++ more) ≡ after_events (after_events s events) more
after-more s [] more = refl
after-more s (event ∷ events) more = after-more (after_event s event) events more

-- ---- the reply

abbrev KeptOf : FlightState → List FlightEvent → Option KeptValue → Type 0
KeptOf start events kept = IfSome kept (IsOfOctets start events)

module _ (start : FlightState) (done : List FlightEvent) where
  abbrev now : FlightState
  now = after_events start done

  later-too : (more : List FlightEvent) (k : KeptValue) → IsOfOctets start done k → IsOfOctets start (done ++ more) k
  later-too more k h = record {
    before = h.before;
    later = h.later ++ more;
    channel = h.channel;
    id = h.id;
    octets = h.octets;
    tried = h.tried;
    came = ap (λ (es : List FlightEvent). es ++ more) h.came ∙ append_assoc h.before (octets_came h.channel h.id h.octets ∷ h.later) more;
    waited = h.waited;
    believed = h.believed;
    spelled = h.spelled;
  }

  kept-later : (more : List FlightEvent) (kept : Option KeptValue) → KeptOf start done kept → KeptOf start (done ++ more) kept
  kept-later more None h = tt
  kept-later more (Some k) h = later-too more k h

  module _ (channel id : ℕ) (octets : List ℕ) (h : KeptOf start done now.kept) where
    abbrev event : FlightEvent
    event = octets_came channel id octets

    as-before : KeptOf start (done ++ event ∷ []) now.kept
    as-before = kept-later (event ∷ []) now.kept h

    kept-replied : (t : Try) → try_at channel id now.transaction ≡ Some t
        → belief_of now.question t.form octets ≡ belief.Believed
        → KeptOf start (done ++ event ∷ []) (replied channel id t octets now).kept
    kept-replied t waited believed = by (names now.replies (replied channel id t octets now).transaction)
      where
        by : (named : Bool) → KeptOf start (done ++ event ∷ []) (cond named (Some (kept_of octets now)) now.kept)
        by false = as-before
        by true = record {
          before = done;
          later = [];
          channel = channel;
          id = id;
          octets = octets;
          tried = t;
          came = refl;
          waited = waited;
          believed = believed;
          spelled = refl;
        }

    kept-heard_as : (b : Belief) (t : Try) → try_at channel id now.transaction ≡ Some t
        → belief_of now.question t.form octets ≡ b
        → KeptOf start (done ++ event ∷ []) (heard_as b channel id t octets now).kept
    kept-heard_as belief.Believed t waited is = kept-replied t waited is
    kept-heard_as belief.OtherLetters t waited is = as-before
    kept-heard_as belief.OptRefused t waited is = as-before
    kept-heard_as belief.NotBelieved t waited is = as-before

    kept-heard : KeptOf start (done ++ event ∷ []) (heard channel id octets now).kept
    kept-heard = by (try_at channel id now.transaction) refl
      where
        by : (found : Option Try) → try_at channel id now.transaction ≡ found
            → KeptOf start (done ++ event ∷ []) (option_map_or (heard_by channel id octets now) found now).kept
        by None e = as-before
        by (Some t) e = kept-heard_as (belief_of now.question t.form octets) t e refl

  kept-event : (event : FlightEvent) → KeptOf start done now.kept
      → KeptOf start (done ++ event ∷ []) (after_event now event).kept
  kept-event (round_begins order) h = kept-later (round_begins order ∷ []) now.kept h
  kept-event (is_sent made) h = kept-later (is_sent made ∷ []) now.kept h
  kept-event (has_no_room due) h = kept-later (has_no_room due ∷ []) now.kept h
  kept-event (octets_came channel id octets) h = kept-heard channel id octets h
  kept-event (channel_failed channel) h = kept-later (channel_failed channel ∷ []) now.kept h
  kept-event (no_channel channel) h = kept-later (no_channel channel ∷ []) now.kept h
  kept-event channel_free h = kept-later (channel_free ∷ []) now.kept h
  kept-event oldest_given_up h = kept-later (oldest_given_up ∷ []) now.kept h
  kept-event (time_passed at) h = kept-later (time_passed at ∷ []) now.kept h

kept-events : (start : FlightState) (done rest : List FlightEvent) → KeptOf start done (after_events start done).kept
    → KeptOf start (done ++ rest) (after_events start (done ++ rest)).kept
kept-events start done [] h =
    subst (λ (es : List FlightEvent). KeptOf start es (after_events start es).kept) (sym (append-nil done)) h
kept-events start done (event ∷ rest) h =
    let step = kept-event start done event h in
    let one : KeptOf start (done ++ event ∷ []) (after_events start (done ++ event ∷ [])).kept =
    subst (λ (s : FlightState). KeptOf start (done ++ event ∷ []) s.kept) (sym (after-more start done (event ∷ []))) step in
    let all = kept-events start (done ++ event ∷ []) rest one in
    subst (λ (es : List FlightEvent). KeptOf start es (after_events start es).kept) (append_assoc done (event ∷ []) rest) all

pub nothing_is_made_up : NothingIsMadeUp
nothing_is_made_up settings servers question events =
    let start = flight_of settings servers question in
    (same-events start events, kept-events start [] events tt)
