-- What is sent goes out on a channel that is there: one that is opened for it, or one that there was.
use Rattle.std.proofs.Common.{◌≡◌, ℕ, Bool, true, false, cond, ◌&&◌, ◌||◌, eqb, eq-eqb, List, [], refl, ap, sym, subst, ◌∙◌, true≢false}
use Rattle.std.specs.Prelude.{Option, None, Some}
use Rattle.std.specs.Option.{is_some, option_map, option_map_or, option_and_then}
use Rattle.hickory_resolver_channels.specs.Channels.{ChannelsState, channel_at, has_try, has_place, joinable, if_it_takes_try}
use Rattle.hickory_resolver_channels.specs.Channels as channels
use Rattle.hickory_resolver_channels.specs.Draws.{try_drawn}
use Rattle.hickory_resolver_channels.specs.declared.channel.Channel.{Channel}
use Rattle.hickory_resolver_channels.specs.declared.channel.ChannelKind.{ChannelKind}
use Rattle.hickory_resolver_steps.specs.Lists.{number_of}
use Rattle.hickory_resolver_steps.specs.Steps.{Parts, kind_of, stream_in, sent_on, sent_to, sent_as, out_on, out_to, out_as, octets_on, sending_of, made_on}
use Rattle.hickory_resolver_steps.specs.declared.flying.Step.{Step}
use Rattle.hickory_resolver_tries.specs.Tries.{octets_of_try}
use Rattle.hickory_resolver_transactions.specs.Candidates.{way_of, try_made}
use Rattle.hickory_resolver_transactions.specs.Transaction.{TransactionState, chosen, wanted}
use Rattle.hickory_resolver_transactions.specs.declared.candidate.Candidate.{Candidate}
use Rattle.hickory_resolver_transactions.specs.declared.candidate.Try.{Try}
use Rattle.hickory_resolver_transactions.specs.declared.transaction.Wanted.{Wanted}
use Rattle.hickory_resolver_traffic.specs.Acting.{acted_with, value_with, nothing_acted, parts_of, step_of}
use Rattle.hickory_resolver_traffic.specs.Doing.{Scene, sends, outgoing_of, before_act, moment_of}
use Rattle.hickory_resolver_traffic.specs.Groups.{GroupListState, list_in}
use Rattle.hickory_resolver_traffic.specs.Traffic.{OutgoingValue}
use Rattle.hickory_resolver_traffic.specs.declared.acting.ServerAct.TheVariants.{Send}
use Rattle.hickory_resolver_pool_theorems.proofs.Present.{present, present-joined, present-opened}
use Rattle.hickory_resolver_pool_theorems.proofs.Sendings.{open-is}

-- ---- what is sent goes out on a channel that is there

abbrev pub opens_number : ℕ → Option OutgoingValue → Bool
opens_number k None = false
opens_number k (Some o) = o.sending.is_new && eqb o.sending.channel k

pub or-false : (b : Bool) → (b || false) ≡ b
or-false true = refl
or-false false = refl

pub and-true : (b : Bool) → (b && true) ≡ b
and-true true = refl
and-true false = refl

pub and-left : (a b : Bool) → (a && b) ≡ true → a ≡ true
and-left true b h = refl
and-left false b h = absurd (true≢false (sym h))

pub and-right : (a b : Bool) → (a && b) ≡ true → b ≡ true
and-right true b h = h
and-right false b h = absurd (true≢false (sym h))

-- of the channels before, what goes out, and the channels after
pub record SendsOne (s : ChannelsState) (o : OutgoingValue) (t : ChannelsState) : Type 0 where
  pub all : (k : ℕ) → present k t ≡ (present k s || (o.sending.is_new && eqb o.sending.channel k))
  pub there : present o.sending.channel t ≡ true
  pub fresh : o.sending.is_new ≡ true → present o.sending.channel s ≡ false

abbrev pub SendsSo : ChannelsState → Option OutgoingValue → ChannelsState → Type 0
SendsSo s None t = (k : ℕ) → present k t ≡ present k s
SendsSo s (Some o) t = SendsOne s o t

module _ (x : Scene) (none : channel_at x.traffic.shared.channels.next x.traffic.shared.channels ≡ None) where
  abbrev ch : ChannelsState
  ch = x.traffic.shared.channels

  abbrev tr : TransactionState
  tr = x.current.entry.flying.flight.transaction

  abbrev list : ℕ
  list = x.current.entry.asked.0

  chosen-of : (w : Wanted) → wanted tr ≡ Some w → (c : Candidate) × (chosen tr ≡ Some c)
  chosen-of w e = by (chosen tr) refl e
    where
      by : (o : Option Candidate) → chosen tr ≡ o
          → option_map {U = Wanted} (λ c. record { place = c.place; way = way_of c }) o ≡ Some w
          → (c : Candidate) × (chosen tr ≡ Some c)
      by None at g = absurd cc
      by (Some c) at g = (c, at)

  there-joinable : (id channel : ℕ) → is_some (joinable channel id ch) ≡ true → present channel ch ≡ true
  there-joinable id channel h = by (has_try channel id ch) h
    where
      on : (o : Option Channel) → is_some (option_and_then (if_it_takes_try ch.limits) o) ≡ true → is_some o ≡ true
      on None g = absurd (true≢false (sym g))
      on (Some c) g = refl

      by : (b : Bool) → is_some (cond b None (option_and_then (if_it_takes_try ch.limits) (channel_at channel ch))) ≡ true
          → present channel ch ≡ true
      by true g = absurd (true≢false (sym g))
      by false g = on (channel_at channel ch) g

  module _ (l : GroupListState) where
    abbrev p : Parts
    p = parts_of x.traffic.shared x.current.entry.flying l

    abbrev step : Step
    step = step_of x.current.number (moment_of x.traffic)

    abbrev id : ℕ
    id = (try_drawn x.traffic.shared.draws).id

    -- octets are there for what is wanted
    octets-some : (w : Wanted) → wanted tr ≡ Some w → (channel : ℕ) → (octets : List ℕ) × (octets_on channel step p ≡ Some octets)
    octets-some w e channel =
        let c = chosen-of w e in (
          octets_of_try x.current.entry.flying.flight.question
              (try_made (made_on channel (try_drawn x.traffic.shared.draws) step.moment) c.0 tr.settings).form,
          ap (λ (o : Option Candidate). option_map (λ t. octets_of_try x.current.entry.flying.flight.question t.form)
              (option_map {U = Try} (λ d. try_made (made_on channel (try_drawn x.traffic.shared.draws) step.moment) d tr.settings) o)) c.1,
        )

    abbrev goes_as : ChannelKind → ℕ → Bool → ℕ → List ℕ → OutgoingValue
    goes_as kind place is_new channel octets = outgoing_of list (sending_of kind place is_new channel octets)

    module _ (w : Wanted) (e : wanted tr ≡ Some w) (kind : ChannelKind) where
      sends-number : (b : Bool) → has_place ch ≡ b
          → SendsSo ch (option_map (outgoing_of list) (option_and_then (out_on step kind w.place p true) (cond b (Some ch.next) None)))
          (sent_on step kind w.place p (cond b (Some ch.next) None)).shared.channels
      sends-number false room = λ k. refl
      sends-number true room =
          subst (λ (o : Option (List ℕ)). SendsSo ch (option_map (outgoing_of list) (option_map (sending_of kind w.place true ch.next) o))
          (channels.opened_for (number_of w.place p.servers) kind id x.current.number ch))
          (sym (octets-some w e ch.next).1) (record {
            all = λ k. present-opened ch (number_of w.place p.servers) kind id x.current.number k room;
            there =
                present-opened ch (number_of w.place p.servers) kind id x.current.number ch.next room
                ∙ ap (λ (b : Bool). present ch.next ch || b) (eq-eqb ch.next ch.next refl) ∙ or-any (present ch.next ch);
            fresh = λ new. ap (λ (o : Option Channel). is_some o) none;
          })
        where
          or-any : (b : Bool) → (b || true) ≡ true
          or-any true = refl
          or-any false = refl

      sends-stream : (stream : Option ℕ) → stream_in kind w.place p ≡ stream
          → SendsSo ch (option_map (outgoing_of list) (out_to step kind w.place p stream))
          (sent_to step kind w.place p stream).shared.channels
      sends-stream None at = sends-number (has_place ch) refl
      sends-stream (Some channel) at =
          subst (λ (o : Option (List ℕ)). SendsSo ch (option_map (outgoing_of list) (option_map (sending_of kind w.place false channel) o))
          (channels.joined channel id x.current.number ch))
          (sym (octets-some w e channel).1) (record {
            all = λ k. present-joined ch channel id x.current.number k ∙ sym (or-false (present k ch));
            there =
                present-joined ch channel id x.current.number channel
                ∙ there-joinable id channel (open-is kind w.place id p.servers ch channel at);
            fresh = λ new. absurd (true≢false (sym new));
          })

    sends-wanted : (o : Option Wanted) → wanted tr ≡ o
        → SendsSo ch (option_map (outgoing_of list) (option_and_then (out_as step p) o))
        (option_map_or (sent_as step p) o p).shared.channels
    sends-wanted None e = λ k. refl
    sends-wanted (Some w) e =
        sends-stream w e (kind_of w.way.transport) (stream_in (kind_of w.way.transport) w.place p) refl

  pub sends-so : SendsSo ch (sends x).traffic.outgoing (sends x).traffic.shared.channels
  sends-so = by (list_in list x.traffic.groups.lists)
    where
      by : (l : Option GroupListState) → SendsSo ch
          (option_map (outgoing_of list)
          (option_map_or (value_with Send x.current.number (moment_of x.traffic) [] (before_act x)) l nothing_acted).sending)
          (option_map_or (acted_with Send x.current.number (moment_of x.traffic) [] list (before_act x)) l (before_act x)).shared.channels
      by None = λ k. refl
      by (Some l) = sends-wanted l (wanted tr) refl
