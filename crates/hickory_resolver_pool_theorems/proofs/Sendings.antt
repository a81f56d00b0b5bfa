-- What is sent for a question in flight: its new try goes out next, and the others were sent.
use Rattle.std.proofs.Common.{◌≡◌, ◌+◌, ℕ, Bool, true, false, cond, List, refl, ap, sym, subst, inl, inr, ◌⊎◌, true≢false}
use Rattle.std.specs.Prelude.{Option, None, Some}
use Rattle.std.specs.Option.{is_some, option_map, option_map_or, option_and_then}
use Rattle.hickory_resolver_channels.specs.Channels.{ChannelsState, transaction_at, number_given, has_place, joinable, joined_to, joined, opened_for, pair_cmp, with_one_more, new_channel}
use Rattle.std.specs.Ordering.{nat_cmp}
use Rattle.std.specs.BTreeMap.{insert_entry}
use Rattle.hickory_resolver_channels.specs.Draws.{try_drawn}
use Rattle.hickory_resolver_channels.specs.declared.channel.Channel.{Channel}
use Rattle.hickory_resolver_channels.specs.declared.channel.ChannelKind.{ChannelKind}
use Rattle.hickory_resolver_channels.specs.declared.channel.ChannelKind.TheVariants.{Datagram, Stream}
use Rattle.hickory_resolver_flights.specs.Flights.{FlightState, sent_by, changed}
use Rattle.hickory_resolver_steps.specs.Lists.{ListState, number_of, stream_of}
use Rattle.hickory_resolver_steps.specs.Steps.{Parts, FlyingState, SendingValue, kind_of, if_joinable, stream_for, stream_in, made_on, sent_on_open, sent_on_new, sent_on, sent_to, sent_as, sent, sending_of, out_on, out_to, out_as, out}
use Rattle.hickory_resolver_steps.specs.declared.flying.Step.{Step}
use Rattle.hickory_resolver_tries.specs.Tries.{octets_of_try}
use Rattle.hickory_resolver_tries.specs.declared.pool_question.PoolQuestion.{PoolQuestion}
use Rattle.hickory_resolver_transactions.specs.Candidates.{try_made}
use Rattle.hickory_resolver_transactions.specs.Transaction.{TransactionState, chosen, unsent}
use Rattle.hickory_resolver_transactions.specs.Transaction as transaction
use Rattle.hickory_resolver_transactions.specs.declared.candidate.Candidate.{Candidate}
use Rattle.hickory_resolver_transactions.specs.declared.candidate.Made.{Made}
use Rattle.hickory_resolver_transactions.specs.declared.candidate.Try.{Try}
use Rattle.hickory_resolver_transactions.specs.declared.transaction.Wanted.{Wanted}
use Rattle.hickory_resolver_transactions.specs.Laws.{is_sent, has_no_room}
use Rattle.hickory_resolver_pool_theorems.proofs.Causes.{made-next}
use Rattle.hickory_resolver_traffic.specs.Doing.{outgoing_of}
use Rattle.hickory_resolver_traffic.specs.Traffic.{OutgoingValue}
use Rattle.hickory_resolver_pool_theorems.specs.Runs.{Happening}
use Rattle.hickory_resolver_pool_theorems.proofs.Keys.{found-inserted, pair-self}
use Rattle.hickory_resolver_pool_theorems.proofs.Tries.{sent-sent, sent-unsent, sent-as}
use Rattle.hickory_resolver_pool_theorems.proofs.Best.{tells-sent, tells-unsent}
use Rattle.hickory_resolver_pool_theorems.proofs.Flights.{IsHeld, KeepsBest, Was, held-as, held-changed}

-- this try goes out next
pub record GoesOut (next : Option OutgoingValue) (channels : ChannelsState) (n : ℕ) (q : PoolQuestion) (t : Try)
    : Type 0 where
  pub outgoing : OutgoingValue
  pub next_is : next ≡ Some outgoing
  pub channel_is : outgoing.sending.channel ≡ t.channel
  pub octets_are : outgoing.sending.octets ≡ octets_of_try q t.form
  pub of_transaction : transaction_at t.channel t.form.id channels ≡ Some n

abbrev pub Sent : List Happening → Option OutgoingValue → ChannelsState → ℕ → PoolQuestion → Try → Type 0
Sent past next channels n q t = Was past n q t ⊎ GoesOut next channels n q t

-- a question in flight of a transaction
pub record IsFlying (P : ℕ → PoolQuestion → Try → Type 0) (past : List Happening) (n : ℕ) (q : PoolQuestion)
    (f : FlyingState) : Type 0 where
  pub flight : IsHeld (P n f.flight.question) past n f.flight
  pub question : f.flight.question ≡ q

-- ---- what channels say of it

joined-has : (channel id n : ℕ) (s : ChannelsState) → is_some (joinable channel id s) ≡ true
    → transaction_at channel id (joined channel id n s) ≡ Some n
joined-has channel id n s can = by (joinable channel id s) can
  where
    by : (c : Option Channel) → is_some c ≡ true
        → transaction_at channel id (option_map_or (joined_to channel id n s) c s) ≡ Some n
    by None h = absurd (true≢false (sym h))
    by (Some c) h = found-inserted pair_cmp pair-self (channel, id) n s.tries

pub open-is : (kind : ChannelKind) (place id : ℕ) (servers : ListState) (channels : ChannelsState) (channel : ℕ)
    → stream_for kind place id servers channels ≡ Some channel → is_some (joinable channel id channels) ≡ true
open-is Datagram place id servers channels channel e = absurd cc
open-is Stream place id servers channels channel e = by (stream_of place servers) e
  where
    test : (c : ℕ) (b : Bool) → is_some (joinable c id channels) ≡ b → cond b (Some c) None ≡ Some channel
        → is_some (joinable channel id channels) ≡ true
    test c true is h =
        let same : c ≡ channel = cc in
        subst (λ (m : ℕ). is_some (joinable m id channels) ≡ true) same is
    test c false is h = absurd cc

    by : (found : Option ℕ) → option_and_then (if_joinable id channels) found ≡ Some channel
        → is_some (joinable channel id channels) ≡ true
    by None h = absurd cc
    by (Some c) h = test c (is_some (joinable c id channels)) refl h

opened-has : (server : ℕ) (kind : ChannelKind) (id n channel : ℕ) (s : ChannelsState) → number_given s ≡ Some channel
    → transaction_at channel id (opened_for server kind id n s) ≡ Some n
opened-has server kind id n channel s e = by (has_place s) e
  where
    by : (b : Bool) → cond b (Some s.next) None ≡ Some channel
        → transaction_at channel id (cond b (record s {
          next = s.next + 1;
          channels = insert_entry nat_cmp s.channels s.next (with_one_more (new_channel server kind));
          tries = insert_entry pair_cmp s.tries (s.next, id) n;
        }) s) ≡ Some n
    by true h =
        let same : s.next ≡ channel = cc in
        subst (λ (m : ℕ). transaction_at m id (record s {
          next = s.next + 1;
          channels = insert_entry nat_cmp s.channels s.next (with_one_more (new_channel server kind));
          tries = insert_entry pair_cmp s.tries (s.next, id) n;
        }) ≡ Some n) same (found-inserted pair_cmp pair-self (s.next, id) n s.tries)
    by false h = absurd cc

-- ---- sending

module _ (past : List Happening) (n : ℕ) (q : PoolQuestion) where
  abbrev W : ℕ → PoolQuestion → Try → Type 0
  W m p t = Was past m p t

  flight-sent : (f : FlightState) (made : Made) (next : Option OutgoingValue) (channels : ChannelsState)
      → IsHeld (W n f.question) past n f
      → ((c : Candidate) → chosen f.transaction ≡ Some c
      → GoesOut next channels n f.question (try_made made c f.transaction.settings))
      → IsHeld (Sent past next channels n f.question) past n (sent_by made f)
  flight-sent f made next channels h goes = record {
    tries =
        sent-sent (Sent past next channels n f.question) f.transaction
        (sent-as (W n f.question) (Sent past next channels n f.question) (λ t w. inl w) f.transaction h.tries) made
        (λ c e. inr (goes c e));
    keeps = tells-sent (KeepsBest past n f.question f.kept) tt tt f.transaction h.keeps made;
    old = h.old;
    made = made-next f.transaction (is_sent made) h.made;
  }

  flying-same : (f : FlyingState) (next : Option OutgoingValue) (channels : ChannelsState) → IsFlying W past n q f
      → IsFlying (Sent past next channels) past n q f
  flying-same f next channels w = record {
    flight =
        held-as (W n f.flight.question) (Sent past next channels n f.flight.question) past n f.flight (λ t k. inl k) w.flight;
    question = w.question;
  }

  module _ (step : Step) (p : Parts) (list : ℕ) (own : step.transaction ≡ n) (w : IsFlying W past n q p.flying) where
    abbrev tr : TransactionState
    tr = p.flying.flight.transaction

    abbrev IsAfter : Option SendingValue → Parts → Type 0
    IsAfter sending after =
        IsFlying (Sent past (option_map (outgoing_of list) sending) after.shared.channels) past n q after.flying

    abbrev made : ℕ → Made
    made channel = made_on channel (try_drawn p.shared.draws) step.moment

    goes : (channel : ℕ) (kind : ChannelKind) (place : ℕ) (is_new : Bool) (channels : ChannelsState)
        → transaction_at channel (try_drawn p.shared.draws).id channels ≡ Some n
        → (c : Candidate) → chosen tr ≡ Some c
        → GoesOut (option_map (outgoing_of list) (out_on step kind place p is_new channel)) channels n
        p.flying.flight.question (try_made (made channel) c tr.settings)
    goes channel kind place is_new channels has c e = record {
      outgoing = outgoing_of list (sending_of kind place is_new channel
          (octets_of_try p.flying.flight.question (try_made (made channel) c tr.settings).form));
      next_is = ap (λ (found : Option Candidate). option_map (outgoing_of list)
          (option_map (sending_of kind place is_new channel)
          (option_map (λ t. octets_of_try p.flying.flight.question t.form)
          (option_map (λ x. try_made (made channel) x tr.settings) found)))) e;
      channel_is = refl;
      octets_are = refl;
      of_transaction = has;
    }

    on-open : (kind : ChannelKind) (place channel : ℕ) → stream_in kind place p ≡ Some channel
        → IsAfter (out_on step kind place p false channel) (sent_on_open step channel p)
    on-open kind place channel e =
        let after = joined channel (try_drawn p.shared.draws).id step.transaction p.shared.channels in
        let has = subst (λ (m : ℕ). transaction_at channel (try_drawn p.shared.draws).id after ≡ Some m) own
        (joined-has channel (try_drawn p.shared.draws).id step.transaction p.shared.channels
        (open-is kind place (try_drawn p.shared.draws).id p.servers p.shared.channels channel e)) in
        record {
          flight = flight-sent p.flying.flight (made channel)
              (option_map (outgoing_of list) (out_on step kind place p false channel)) after w.flight
              (goes channel kind place false after has);
          question = w.question;
        }

    on-new : (kind : ChannelKind) (place channel : ℕ) → number_given p.shared.channels ≡ Some channel
        → IsAfter (out_on step kind place p true channel) (sent_on_new step kind place channel p)
    on-new kind place channel e =
        let after = opened_for (number_of place p.servers) kind (try_drawn p.shared.draws).id step.transaction p.shared.channels in
        let has = subst (λ (m : ℕ). transaction_at channel (try_drawn p.shared.draws).id after ≡ Some m) own
        (opened-has (number_of place p.servers) kind (try_drawn p.shared.draws).id step.transaction channel p.shared.channels e) in
        record {
          flight = flight-sent p.flying.flight (made channel)
              (option_map (outgoing_of list) (out_on step kind place p true channel)) after w.flight
              (goes channel kind place true after has);
          question = w.question;
        }

    on-none : IsFlying (Sent past None p.shared.channels) past n q
        (record { flight = changed (unsent step.until) p.flying.flight; tries = p.flying.tries })
    on-none =
        let same = flying-same p.flying None p.shared.channels w in
        record {
          flight = held-changed (Sent past None p.shared.channels n p.flying.flight.question) past n p.flying.flight
              (unsent step.until) same.flight
              (λ t. sent-unsent (Sent past None p.shared.channels n p.flying.flight.question) tr t step.until)
              (λ k. tells-unsent (KeepsBest past n p.flying.flight.question p.flying.flight.kept) tt tt tr k step.until)
              (λ m. made-next tr (has_no_room step.until) m);
          question = w.question;
        }

    by-number : (kind : ChannelKind) (place : ℕ) (found : Option ℕ) → number_given p.shared.channels ≡ found
        → IsAfter (option_and_then (out_on step kind place p true) found) (sent_on step kind place p found)
    by-number kind place None e = on-none
    by-number kind place (Some channel) e = on-new kind place channel e

    by-stream : (kind : ChannelKind) (place : ℕ) (found : Option ℕ) → stream_in kind place p ≡ found
        → IsAfter (out_to step kind place p found) (sent_to step kind place p found)
    by-stream kind place None e = by-number kind place (number_given p.shared.channels) refl
    by-stream kind place (Some channel) e = on-open kind place channel e

    pub flying-sent : IsAfter (out step p) (sent step p)
    flying-sent = by (transaction.wanted tr)
      where
        same : IsAfter None p
        same = flying-same p.flying None p.shared.channels w

        by : (o : Option Wanted) → IsAfter (option_and_then (out_as step p) o) (option_map_or (sent_as step p) o p)
        by None = same
        by (Some o) = by-stream (kind_of o.way.transport) o.place (stream_in (kind_of o.way.transport) o.place p) refl
