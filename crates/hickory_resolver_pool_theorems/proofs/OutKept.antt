-- What goes out next stays until it is written; and no number of a channel is given twice.
use Rattle.std.proofs.Common.{◌≡◌, ◌≤◌, ◌<◌, ◌+◌, ◌-◌, ◌^◌, min, ℕ, Bool, true, false, cond, List, [], refl, ap, sym, subst, ◌∙◌, arith}
use Rattle.std.specs.Prelude.{Option, None, Some}
use Rattle.std.specs.Option.{is_some, option_map, option_map_or, option_and_then}
use Rattle.std.specs.Ordering.{nat_cmp}
use Rattle.std.specs.BTreeMap.{insert_entry}
use Rattle.hickory_resolver_askers.specs.Askers.{WaitingValue, to_admit}
use Rattle.hickory_resolver_askers.specs.Askers as ask
use Rattle.hickory_resolver_channels.specs.Channels.{ChannelsState, number_given, has_place, pair_cmp, new_channel, with_one_more, joinable, joined, joined_to, opened_for, left, left_in, left_last, has_others, channel_of_try, closable, closed_one}
use Rattle.hickory_resolver_channels.specs.Channels as channels
use Rattle.hickory_resolver_channels.specs.Draws.{try_drawn}
use Rattle.hickory_resolver_channels.specs.declared.channel.Channel.{Channel}
use Rattle.hickory_resolver_channels.specs.declared.channel.ChannelKind.{ChannelKind}
use Rattle.hickory_resolver_channels.specs.declared.channel.ChannelKind.TheVariants.{Datagram, Stream}
use Rattle.hickory_resolver_flights.specs.Flights.{changed}
use Rattle.hickory_resolver_flights.specs.declared.heard.Heard.{Heard}
use Rattle.hickory_resolver_flights.specs.declared.heard.Heard.TheVariants as what_is
use Rattle.hickory_resolver_steps.specs.Ending.{try_at_place}
use Rattle.hickory_resolver_steps.specs.Lists.{number_of}
use Rattle.hickory_resolver_steps.specs.Steps.{Parts, SendingValue, sent_on, sent_to, sent_as, sent, stream_in, kind_of, out_on, out_to, out_as, octets_on, sending_of}
use Rattle.hickory_resolver_steps.specs.declared.flying.SentTry.{SentTry}
use Rattle.hickory_resolver_steps.specs.declared.flying.Step.{Step}
use Rattle.hickory_resolver_transactions.specs.Transaction.{wanted, freed}
use Rattle.hickory_resolver_transactions.specs.declared.candidate.Transport.{Transport}
use Rattle.hickory_resolver_transactions.specs.declared.transaction.Wanted.{Wanted}
use Rattle.hickory_resolver_traffic.specs.Acting.{Acted, acted, acted_on, acted_with, value_with, value_on, nothing_acted, parts_of, step_of}
use Rattle.hickory_resolver_traffic.specs.Acting as acting
use Rattle.hickory_resolver_traffic.specs.Doing.{Scene, IsDone, hears_octets, after_first, heard_of_first, hears_first, hears, doubts_message, doubts, is_empty, one_freed, fails_on, after_failed, fails, act_on, before_act, with_acted, moment_of, stalls_on, stalls, idle_until, leaving_at, leave_at, closed_at, freed_if, leaves, quits_at, after_quit, quits, place_on, with_to_do, expires, frees, then_do, changing, draws, gives_up, blocks, sends, outgoing_of, with_outgoing, dates, with_round_parts, is_stream}
use Rattle.hickory_resolver_traffic.specs.Groups.{GroupListState, list_in}
use Rattle.hickory_resolver_traffic.specs.Inbox.{MessageValue, first_message, first_failure}
use Rattle.hickory_resolver_traffic.specs.Table.{without_blocked}
use Rattle.hickory_resolver_traffic.specs.Tasks.{after_task, closed, freed_by, freed_by_first, without_taken, opened_outgoing}
use Rattle.hickory_resolver_traffic.specs.Traffic.{TrafficState, OutgoingValue}
use Rattle.hickory_resolver_traffic.specs.declared.acting.Moment.{Moment}
use Rattle.hickory_resolver_traffic.specs.declared.acting.ServerAct.{ServerAct}
use Rattle.hickory_resolver_traffic.specs.declared.acting.ServerAct.TheVariants as act
use Rattle.hickory_resolver_traffic.specs.declared.doing.Doing.{Doing}
use Rattle.hickory_resolver_traffic.specs.declared.doing.Doing.TheVariants.{Hears, Doubts, Stalls, Fails, Quits, PutsBack, Expires, Frees, Refused, Leaves, Ends, Draws, BeginsRound, GivesUp, Blocks, Sends, Dates, Rests}
use Rattle.hickory_resolver_traffic.specs.declared.entry.ToDo.TheVariants as todo
use Rattle.hickory_resolver_traffic.specs.declared.inbox.ChannelFailure.{ChannelFailure}
use Rattle.hickory_resolver_traffic.specs.declared.inbox.Failure.{Failure}
use Rattle.hickory_resolver_traffic.specs.declared.inbox.Failure.TheVariants as failure
use Rattle.hickory_resolver_traffic.specs.declared.tasks.Task.{Task}
use Rattle.hickory_resolver_traffic.specs.declared.tasks.Task.TheVariants as task
use Rattle.hickory_resolver_pool_theorems.proofs.Fits.{AreFor, by_kind, wanted-fits}

-- ---- numbers of channels

abbrev Later : ChannelsState → ChannelsState → Type 0
Later c d = c.next ≤ d.next

later-same : (c d : ChannelsState) → d.next ≡ c.next → Later c d
later-same c d is = omega (arith, is)

next-left : (number id until : ℕ) (c : ChannelsState) → (left number id until c).next ≡ c.next
next-left number id until c = by (channel_of_try number id c)
  where
    last : (x : Channel) (kind : ChannelKind) → (left_last number id until x kind c).next ≡ c.next
    last x Datagram = refl
    last x Stream = refl

    others : (x : Channel) (b : Bool)
        → (cond {A = ChannelsState} b (channels.left_to_others number id x c) (left_last number id until x x.kind c)).next ≡ c.next
    others x true = refl
    others x false = last x x.kind

    by : (x : Option Channel) → (option_map_or (left_in number id until c) x c).next ≡ c.next
    by None = refl
    by (Some x) = others x (has_others x)

next-closed : (number : ℕ) (c : ChannelsState) → (channels.closed number c).next ≡ c.next
next-closed number c = by (closable number c)
  where
    by : (x : Option Channel) → (option_map_or (closed_one number c) x c).next ≡ c.next
    by None = refl
    by (Some x) = refl

next-joined : (number id n : ℕ) (c : ChannelsState) → (joined number id n c).next ≡ c.next
next-joined number id n c = by (joinable number id c)
  where
    by : (x : Option Channel) → (option_map_or (joined_to number id n c) x c).next ≡ c.next
    by None = refl
    by (Some x) = refl

module _ (server : ℕ) (kind : ChannelKind) (id n : ℕ) (c : ChannelsState) where
  abbrev opened_if : Bool → ChannelsState
  opened_if b = cond b (record c {
    next = c.next + 1;
    channels = insert_entry nat_cmp c.channels c.next (with_one_more (new_channel server kind));
    tries = insert_entry pair_cmp c.tries (c.next, id) n;
  }) c

  next-opened : Later c (opened_for server kind id n c)
  next-opened = by (has_place c)
    where
      by : (b : Bool) → Later c (opened_if b)
      by true = omega arith
      by false = omega arith

  next-opened_is : has_place c ≡ true → (opened_for server kind id n c).next ≡ c.next + 1
  next-opened_is room = ap (λ (b : Bool). (opened_if b).next) room

-- ---- what is done

pub record IsCalm (t u : TrafficState) : Type 0 where
  pub outgoing : u.outgoing ≡ t.outgoing
  pub next : t.shared.channels.next ≤ u.shared.channels.next

calm-self : (t : TrafficState) → IsCalm t t
calm-self t = record { outgoing = refl; next = omega arith }

calm-then : (t u v : TrafficState) → IsCalm t u → IsCalm u v → IsCalm t v
calm-then t u v one two = record { outgoing = two.outgoing ∙ one.outgoing; next = omega (arith, one.next, two.next) }

later-sent : (step : Step) (p : Parts) → Later p.shared.channels (sent step p).shared.channels
later-sent step p = by (wanted p.flying.flight.transaction)
  where
    on : (kind : ChannelKind) (place : ℕ) (channel : Option ℕ)
        → Later p.shared.channels (sent_on step kind place p channel).shared.channels
    on kind place None = omega arith
    on kind place (Some channel) =
        next-opened (number_of place p.servers) kind (try_drawn p.shared.draws).id step.transaction p.shared.channels

    to : (kind : ChannelKind) (place : ℕ) (stream : Option ℕ)
        → Later p.shared.channels (sent_to step kind place p stream).shared.channels
    to kind place (Some channel) =
        later-same p.shared.channels (joined channel (try_drawn p.shared.draws).id step.transaction p.shared.channels)
        (next-joined channel (try_drawn p.shared.draws).id step.transaction p.shared.channels)
    to kind place None = on kind place (number_given p.shared.channels)

    by : (w : Option Wanted) → Later p.shared.channels (option_map_or (sent_as step p) w p).shared.channels
    by None = omega arith
    by (Some w) = to (kind_of w.way.transport) w.place (stream_in (kind_of w.way.transport) w.place p)

later-acted : (what : ServerAct) (n : ℕ) (m : Moment) (octets : List ℕ) (p : Parts)
    → Later p.shared.channels (acted what n m octets p).shared.channels
later-acted (act.Hear channel id) n m octets p = omega arith
later-acted (act.Fail channel) n m octets p = omega arith
later-acted act.Expire n m octets p = omega arith
later-acted act.Send n m octets p = later-sent (step_of n m) p

abbrev Calm : Scene → Scene → Type 0
Calm x y = IsCalm x.traffic y.traffic

calm-act : (what : ServerAct) (octets : List ℕ) (x : Scene) → Calm x (act_on what octets x)
calm-act what octets x = record { outgoing = refl; next = by (list_in x.current.entry.asked.0 x.traffic.groups.lists) }
  where
    by : (l : Option GroupListState) → Later x.traffic.shared.channels
        (option_map_or (acted_with what x.current.number (moment_of x.traffic) octets x.current.entry.asked.0 (before_act x)) l
        (before_act x)).shared.channels
    by None = omega arith
    by (Some l) =
        later-acted what x.current.number (moment_of x.traffic) octets (parts_of x.traffic.shared x.current.entry.flying l)

calm-as : (x y z : Scene) → z.traffic ≡ y.traffic → Calm x y → Calm x z
calm-as x y z is w = subst (λ (t : TrafficState). IsCalm x.traffic t) (sym is) w

calm-hears : (x : Scene) → Calm x (hears x)
calm-hears x = calm-then x.traffic (hears_first x).traffic (hears x).traffic (by (first_message x.traffic.inbox)) (after (heard_of_first x))
  where
    after : (heard : Option Heard) → Calm (hears_first x) (after_first heard (hears_first x))
    after None = calm-self (hears_first x).traffic
    after (Some what_is.Nothing) = calm-self (hears_first x).traffic
    after (Some what_is.OtherLetters) = record { outgoing = refl; next = omega arith }
    after (Some what_is.OptRefused) = record { outgoing = refl; next = omega arith }
    after (Some (what_is.Reply outcome)) = record { outgoing = refl; next = omega arith }

    by : (m : Option MessageValue) → Calm x (option_map_or (hears_octets x) m x)
    by None = calm-self x.traffic
    by (Some m) = calm-act (act.Hear m.channel _) m.octets x

calm-fails : (x : Scene) → Calm x (fails x)
calm-fails x = by (first_failure x.traffic.inbox)
  where
    after : (f : ChannelFailure) (stream : Bool) → Calm x (after_failed stream (act_on (act.Fail f.channel) [] x))
    after f true = calm-act (act.Fail f.channel) [] x
    after f false =
        let w = calm-act (act.Fail f.channel) [] x in record { outgoing = w.outgoing; next = w.next }

    by : (f : Option ChannelFailure) → Calm x (option_map_or (fails_on x) f (with_to_do todo.GoOn x))
    by None = calm-self x.traffic
    by (Some f) = after f (is_stream f.channel x.traffic.shared.channels)

calm-doubts : (t : TrafficState) → IsCalm t (option_map_or (doubts_message t) (first_message t.inbox) t)
calm-doubts t = by (first_message t.inbox)
  where
    by : (m : Option MessageValue) → IsCalm t (option_map_or (doubts_message t) m t)
    by None = calm-self t
    by (Some m) = record { outgoing = refl; next = omega arith }

calm-stalls : (x : Scene) → Calm x (stalls x)
calm-stalls x = by (first_failure x.traffic.inbox)
  where
    by : (f : Option ChannelFailure) → Calm x (option_map_or (stalls_on x) f (with_to_do todo.GoOn x))
    by None = calm-self x.traffic
    by (Some f) = record { outgoing = refl; next = omega arith }

calm-leave_at : (place : ℕ) (x : Scene) → Calm x (leave_at place x)
calm-leave_at place x = by (try_at_place x.current.entry.flying place)
  where
    by : (one : Option SentTry) → Calm x (option_map_or (leaving_at place x) one x)
    by None = calm-self x.traffic
    by (Some one) = record {
      outgoing = refl;
      next = later-same x.traffic.shared.channels
          (left one.channel one.id (idle_until x.traffic) x.traffic.shared.channels)
          (next-left one.channel one.id (idle_until x.traffic) x.traffic.shared.channels);
    }

calm-one_freed : (t : TrafficState) → IsCalm t (one_freed t)
calm-one_freed t = by (is_empty t.table.blocked)
  where
    by : (empty : Bool) → IsCalm t (cond {A = TrafficState} empty t (record t { freed = min (t.freed + 1) (2 ^ 64 - 1) }))
    by true = calm-self t
    by false = record { outgoing = refl; next = omega arith }

calm-leaves : (place : ℕ) (x : Scene) → Calm x (leaves place x)
calm-leaves place x =
    calm-then x.traffic (leave_at place x).traffic (leaves place x).traffic (calm-leave_at place x) (by (closed_at place x))
  where
    by : (closed : Option ℕ) → Calm (leave_at place x) (freed_if closed (leave_at place x))
    by None = calm-self (leave_at place x).traffic
    by (Some channel) = calm-one_freed (leave_at place x).traffic

calm-quits : (x : Scene) → Calm x (quits x)
calm-quits x = by (place_on x)
  where
    after : (place : ℕ) (closed : Option ℕ) → Calm x (after_quit closed (leave_at place x))
    after place None = calm-leave_at place x
    after place (Some channel) =
        let w = calm-leave_at place x in record { outgoing = w.outgoing; next = w.next }

    by : (place : Option ℕ) → Calm x (option_map_or (quits_at x) place (with_to_do todo.PutBack x))
    by None = calm-self x.traffic
    by (Some place) = after place (closed_at place x)

calm-frees : (x : Scene) → Calm x (frees x)
calm-frees x = by (is_some (wanted (changed freed x.current.entry.flying.flight).transaction))
  where
    by : (wants : Bool) → Calm x (cond {A = Scene} wants
        (record {
          traffic = x.traffic;
          current = then_do todo.GoOn (changing (changed freed) x.current);
        })
        (record {
          traffic = record x.traffic { table = without_blocked x.current.number x.traffic.table };
          current = then_do todo.GoOn (changing (changed freed) x.current);
        }))
    by true = record { outgoing = refl; next = omega arith }
    by false = record { outgoing = refl; next = omega arith }

-- ---- what is sent

-- it is of the list of its transaction, and a channel that is opened for it has the next number
pub record GoesTo (x y : Scene) (o : OutgoingValue) : Type 0 where
  pub list : o.list ≡ x.current.entry.asked.0
  pub is_new : o.sending.is_new ≡ true → (x.traffic.shared.channels.next ≤ o.sending.channel)
      × (o.sending.channel < y.traffic.shared.channels.next)
  pub port : (has : ℕ → Transport → Bool) → AreFor has x.current.entry.flying.flight.transaction
      → has o.sending.place (by_kind o.sending.kind) ≡ true

-- what goes out is what was sent, if anything is
pub data IsSent (x y : Scene) : Type 0 where
  sends_none : y.traffic.outgoing ≡ None → IsSent x y
  sends_one : (o : OutgoingValue) → y.traffic.outgoing ≡ Some o → GoesTo x y o → IsSent x y

-- a new number is the next, and is given
new-sent : (step : Step) (kind : ChannelKind) (place : ℕ) (p : Parts) (stream : Option ℕ) (sending : SendingValue)
    → out_to step kind place p stream ≡ Some sending → sending.is_new ≡ true
    → (sending.channel ≡ p.shared.channels.next) × ((sent_to step kind place p stream).shared.channels.next
    ≡ p.shared.channels.next + 1)
new-sent step kind place p (Some channel) sending is new = absurd (by (octets_on channel step p) is)
  where
    by : (octets : Option (List ℕ)) → option_map (sending_of kind place false channel) octets ≡ Some sending → ⊥
    by None h = absurd cc
    by (Some octets) h =
        let same : sending_of kind place false channel octets ≡ sending = cc in
        let no_such : false ≡ true = ap (λ (v : SendingValue). v.is_new) same ∙ new in cc
new-sent step kind place p None sending is new = by (has_place p.shared.channels) refl is
  where
    channel-is : (channel : ℕ) (octets : Option (List ℕ)) → option_map (sending_of kind place true channel) octets ≡ Some sending
        → sending.channel ≡ channel
    channel-is channel None h = absurd cc
    channel-is channel (Some octets) h =
        let same : sending_of kind place true channel octets ≡ sending = cc in sym (ap (λ (v : SendingValue). v.channel) same)

    by : (b : Bool) → has_place p.shared.channels ≡ b
        → option_and_then (out_on step kind place p true) (cond b (Some p.shared.channels.next) None) ≡ Some sending
        → (sending.channel ≡ p.shared.channels.next)
        × ((sent_on step kind place p (number_given p.shared.channels)).shared.channels.next ≡ p.shared.channels.next + 1)
    by false room h = absurd cc
    by true room h = (
      channel-is p.shared.channels.next (octets_on p.shared.channels.next step p) h,
      ap (λ (b : Bool). (sent_on step kind place p (cond b (Some p.shared.channels.next) None)).shared.channels.next) room
          ∙ next-opened_is (number_of place p.servers) kind (try_drawn p.shared.draws).id step.transaction p.shared.channels room,
    )

-- what goes out goes to the server that is wanted
sending-is : (step : Step) (kind : ChannelKind) (place : ℕ) (p : Parts) (stream : Option ℕ) (sending : SendingValue)
    → out_to step kind place p stream ≡ Some sending → (sending.place ≡ place) × (sending.kind ≡ kind)
sending-is step kind place p stream sending is = by stream is
  where
    on : (is_new : Bool) (channel : ℕ) (octets : Option (List ℕ))
        → option_map (sending_of kind place is_new channel) octets ≡ Some sending → (sending.place ≡ place) × (sending.kind ≡ kind)
    on is_new channel None h = absurd cc
    on is_new channel (Some octets) h =
        let same : sending_of kind place is_new channel octets ≡ sending = cc in
        (sym (ap (λ (v : SendingValue). v.place) same), sym (ap (λ (v : SendingValue). v.kind) same))

    number : (channel : Option ℕ) → option_and_then (out_on step kind place p true) channel ≡ Some sending
        → (sending.place ≡ place) × (sending.kind ≡ kind)
    number None h = absurd cc
    number (Some channel) h = on true channel (octets_on channel step p) h

    by : (o : Option ℕ) → out_to step kind place p o ≡ Some sending → (sending.place ≡ place) × (sending.kind ≡ kind)
    by None h = number (number_given p.shared.channels) h
    by (Some channel) h = on false channel (octets_on channel step p) h

sent-one : (x : Scene) → IsSent x (sends x)
sent-one x = by (list_in list x.traffic.groups.lists)
  where
    own : ℕ
    own = x.current.number

    at : Moment
    at = moment_of x.traffic

    list : ℕ
    list = x.current.entry.asked.0

    -- by what is wanted, and what goes out for it
    wants : (l : GroupListState) (w : Option Wanted) → wanted x.current.entry.flying.flight.transaction ≡ w
        → IsSent x (with_outgoing
        (option_and_then (out_as (step_of own at) (parts_of x.traffic.shared x.current.entry.flying l)) w)
        (with_acted x (acting.acted_to list x.traffic.groups.lists l
        (option_map_or (sent_as (step_of own at) (parts_of x.traffic.shared x.current.entry.flying l))
        w (parts_of x.traffic.shared x.current.entry.flying l)))))
    wants l None at_w = sends_none refl
    wants l (Some w) at_w = goes (out_to step kind w.place p stream) refl
      where
        p : Parts
        p = parts_of x.traffic.shared x.current.entry.flying l

        step : Step
        step = step_of own at

        kind : ChannelKind
        kind = kind_of w.way.transport

        stream : Option ℕ
        stream = stream_in kind w.place p

        goes : (o : Option SendingValue) → out_to step kind w.place p stream ≡ o → IsSent x (with_outgoing
            o (with_acted x (acting.acted_to list x.traffic.groups.lists l (sent_to step kind w.place p stream))))
        goes None is = sends_none refl
        goes (Some sending) is = sends_one (outgoing_of list sending) refl (record {
          list = refl;
          is_new = λ new.
              let number = new-sent step kind w.place p stream sending is new in
              (omega (arith, number.0), omega (arith, number.0, number.1));
          port = λ has fits.
              let to = sending-is step kind w.place p stream sending is in
              ap (λ (place : ℕ). has place (by_kind sending.kind)) to.0
              ∙ ap (λ (k : ChannelKind). has w.place (by_kind k)) to.1
              ∙ wanted-fits has x.current.entry.flying.flight.transaction fits w at_w;
        })

    by : (l : Option GroupListState) → IsSent x (with_outgoing
        (option_map_or (value_with act.Send own at [] (before_act x)) l nothing_acted).sending
        (with_acted x (option_map_or (acted_with act.Send own at [] list (before_act x)) l (before_act x))))
    by None = sends_none refl
    by (Some l) = wants l (wanted x.current.entry.flying.flight.transaction) refl

-- ---- all that is done

calm-by : (x y z : Scene) → y ≡ z → Calm x z → Calm x y
calm-by x y z is w = subst (λ (v : Scene). Calm x v) (sym is) w

calm-flat : (x y z : Scene) → y ≡ z → z.traffic.outgoing ≡ x.traffic.outgoing
    → z.traffic.shared.channels ≡ x.traffic.shared.channels → Calm x y
calm-flat x y z is outgoing channels =
    calm-by x y z is (record {
      outgoing = outgoing;
      next = later-same x.traffic.shared.channels z.traffic.shared.channels (ap (λ (c : ChannelsState). c.next) channels);
    })

-- what goes out stays, or something was sent
pub data IsOut (x y : Scene) : Type 0 where
  is_calm : Calm x y → IsOut x y
  is_sent : IsSent x y → x.traffic.shared.channels.next ≤ y.traffic.shared.channels.next → IsOut x y

later-sends : (x : Scene) → x.traffic.shared.channels.next ≤ (sends x).traffic.shared.channels.next
later-sends x = (calm-act act.Send [] x).next

abbrev pub IsNoSend : Doing → Type 0
IsNoSend Sends = ⊥
IsNoSend other = Unit {0}

pub calm-done : (what : Doing) (x y : Scene) → IsDone what x y → IsNoSend what → Calm x y
calm-done Hears x y is o = calm-by x y (hears x) is (calm-hears x)
calm-done Doubts x y is o =
    let w = calm-doubts x.traffic in calm-by x y (doubts x) is (record { outgoing = w.outgoing; next = w.next })
calm-done Stalls x y is o = calm-by x y (stalls x) is (calm-stalls x)
calm-done Fails x y is o = calm-by x y (fails x) is (calm-fails x)
calm-done Quits x y is o = calm-by x y (quits x) is (calm-quits x)
calm-done Expires x y is o = calm-by x y (expires x) is (calm-act act.Expire [] x)
calm-done Frees x y is o = calm-by x y (frees x) is (calm-frees x)
calm-done (Leaves place) x y is o = calm-by x y (leaves place x) is (calm-leaves place x)
calm-done Draws x y is o = calm-flat x y (draws x) is refl refl
calm-done (BeginsRound place) x y is o = calm-flat x y (with_round_parts place x y.current.entry.flying) is.after refl refl
calm-done GivesUp x y is o = calm-flat x y (gives_up x) is refl refl
calm-done Blocks x y is o = calm-flat x y (blocks x) is refl refl
calm-done Sends x y is o = absurd o
calm-done (Dates due) x y is o = calm-flat x y (dates due x) is refl refl
calm-done PutsBack x y is o = calm-flat x y x is refl refl
calm-done Refused x y is o = calm-flat x y x is refl refl
calm-done Ends x y is o = calm-flat x y x is refl refl
calm-done Rests x y is o = calm-flat x y x is refl refl

pub out-done : (what : Doing) (x y : Scene) → IsDone what x y → IsOut x y
out-done Sends x y is =
    subst (λ (v : Scene). IsOut x v) (sym is) (is_sent (sent-one x) (later-sends x))
out-done Hears x y is = is_calm (calm-done Hears x y is tt)
out-done Doubts x y is = is_calm (calm-done Doubts x y is tt)
out-done Stalls x y is = is_calm (calm-done Stalls x y is tt)
out-done Fails x y is = is_calm (calm-done Fails x y is tt)
out-done Quits x y is = is_calm (calm-done Quits x y is tt)
out-done Expires x y is = is_calm (calm-done Expires x y is tt)
out-done Frees x y is = is_calm (calm-done Frees x y is tt)
out-done (Leaves place) x y is = is_calm (calm-done (Leaves place) x y is tt)
out-done Draws x y is = is_calm (calm-done Draws x y is tt)
out-done (BeginsRound place) x y is = is_calm (calm-done (BeginsRound place) x y is tt)
out-done GivesUp x y is = is_calm (calm-done GivesUp x y is tt)
out-done Blocks x y is = is_calm (calm-done Blocks x y is tt)
out-done (Dates due) x y is = is_calm (calm-done (Dates due) x y is tt)
out-done PutsBack x y is = is_calm (calm-done PutsBack x y is tt)
out-done Refused x y is = is_calm (calm-done Refused x y is tt)
out-done Ends x y is = is_calm (calm-done Ends x y is tt)
out-done Rests x y is = is_calm (calm-done Rests x y is tt)

-- ---- where no transaction is worked on

calm-closed : (channel : ℕ) (t : TrafficState) → IsCalm t (closed channel t)
calm-closed channel t = record {
  outgoing = refl;
  next = later-same t.shared.channels (closed channel t).shared.channels (next-closed channel t.shared.channels);
}

calm-freed_first : (t : TrafficState) → IsCalm t (freed_by_first t)
calm-freed_first t = by (first_failure t.inbox)
  where
    why : (f : Failure) → IsCalm t (freed_by f t)
    why failure.Local = calm-self t
    why failure.Refused = calm-one_freed t
    why failure.Unreachable = calm-one_freed t
    why failure.Closed = calm-one_freed t

    by : (f : Option ChannelFailure) → IsCalm t (option_map_or (λ g. freed_by g.why t) f t)
    by None = calm-self t
    by (Some f) = why f.why

-- a channel is opened, or written on, or what goes out stays
pub data IsBegun (t u : TrafficState) : Type 0 where
  opens : u.outgoing ≡ option_map opened_outgoing t.outgoing → u.shared ≡ t.shared → IsBegun t u
  writes : u.outgoing ≡ None → u.shared ≡ t.shared → IsBegun t u
  keeps : IsCalm t u → IsBegun t u

pub begun-task : (what : Task) (t : TrafficState) → IsBegun t (after_task what t)
begun-task task.Opens t = opens refl refl
begun-task task.Writes t = writes refl refl
begun-task task.Doubts t = keeps (calm-doubts t)
begun-task task.PassesBy t = keeps (record { outgoing = refl; next = omega arith })
begun-task (task.Cuts channel) t = keeps (record { outgoing = refl; next = omega arith })
begun-task (task.ClosesFailed channel) t =
    let w = calm-then t (closed channel t) (freed_by_first (closed channel t)) (calm-closed channel t)
    (calm-freed_first (closed channel t)) in
    keeps (record { outgoing = w.outgoing; next = w.next })
begun-task task.DropsFailure t = keeps (record { outgoing = refl; next = omega arith })
begun-task (task.TakesReady n) t = keeps (record { outgoing = refl; next = omega arith })
begun-task (task.TakesUp n to_do) t = keeps (record { outgoing = refl; next = omega arith })
begun-task (task.Undates due n) t = keeps (record { outgoing = refl; next = omega arith })
begun-task (task.Strays n) t = keeps (record { outgoing = refl; next = omega arith })
begun-task (task.Unblocks n) t = keeps (record { outgoing = refl; next = omega arith })
begun-task (task.ClosesIdle channel) t =
    keeps (calm-then t (closed channel t) (one_freed (closed channel t)) (calm-closed channel t) (calm-one_freed (closed channel t)))
begun-task task.Admits t = by (to_admit t.askers)
  where
    by : (first : Option (ℕ × WaitingValue))
        → IsBegun t (option_map_or (λ f. without_taken f.0 (record t { askers = ask.admitted t.askers })) first t)
    by None = keeps (calm-self t)
    by (Some f) = keeps (record { outgoing = refl; next = omega arith })
