-- What is done with the transaction that is worked on, one thing at a time.
use Rattle.std.specs.Prelude.{◌≡◌, ℕ, ◌+◌, ◌-◌, ◌^◌, Bool, true, false, ◌&&◌, ◌||◌, ◌==◌, List, [], ◌∷◌, min, nat_le, position, Option, None, Some, if◌then◌else◌}
use Rattle.std.specs.Option.{is_some, is_none, option_map, option_map_or, option_and_then}
use Rattle.hickory_resolver_askers.specs.Askers.{askers_of}
use Rattle.hickory_resolver_channels.specs.Channels.{ChannelsState, channel_at, has_place}
use Rattle.hickory_resolver_channels.specs.Draws.{next_drawn}
use Rattle.hickory_resolver_channels.specs.declared.channel.ChannelKind.{ChannelKind}
use Rattle.hickory_resolver_channels.specs.declared.channel.ChannelKind.TheVariants.{Datagram, Stream}
use Rattle.hickory_resolver_flights.specs.Flights.{FlightState, changed}
use Rattle.hickory_resolver_flights.specs.declared.heard.Heard.{Heard}
use Rattle.hickory_resolver_flights.specs.declared.heard.Heard.TheVariants as what
use Rattle.hickory_resolver_config.specs.declared.strategies.ServerOrderingStrategy.{ServerOrderingStrategy}
use Rattle.hickory_resolver_servers.specs.Order.{IsOrder, probe_of, probed}
use Rattle.hickory_resolver_servers.specs.declared.order.RoundStart.{RoundStart}
use Rattle.hickory_resolver_steps.specs.Ending.{first_done, ended_of, try_at_place, channels_without, without_first}
use Rattle.hickory_resolver_steps.specs.Steps.{FlyingState, SendingValue}
use Rattle.hickory_resolver_steps.specs.declared.ending.Ended.{Ended}
use Rattle.hickory_resolver_steps.specs.declared.flying.SentTry.{SentTry}
use Rattle.hickory_resolver_tries.specs.Heads.{head_of}
use Rattle.hickory_resolver_transactions.specs.Transaction.{TransactionState, outcome_of, wants_round, wanted, has_late, next_deadline, places_left, with_round, blocked, freed, without_oldest}
use Rattle.hickory_resolver_traffic.specs.Acting.{Acted, ActedValue, acted_on, value_on, later, with_flight}
use Rattle.hickory_resolver_traffic.specs.Groups.{GroupListState, list_at, changed_list}
use Rattle.hickory_resolver_traffic.specs.Inbox.{InboxState, MessageValue, first_message, without_message, first_failure, with_failure, without_failure, is_read}
use Rattle.hickory_resolver_traffic.specs.Table.{EntryState, CurrentState, is_blocked, with_blocked, without_blocked, redated}
use Rattle.hickory_resolver_traffic.specs.Traffic.{TrafficState, OutgoingValue}
use Rattle.hickory_resolver_traffic.specs.declared.acting.ServerAct.{ServerAct}
use Rattle.hickory_resolver_traffic.specs.declared.acting.ServerAct.TheVariants as act
use Rattle.hickory_resolver_traffic.specs.declared.acting.Moment.{Moment}
use Rattle.hickory_resolver_traffic.specs.declared.choices.TheConstants.{IDLE_FOR}
use Rattle.hickory_resolver_traffic.specs.declared.doing.Doing.{Doing}
use Rattle.hickory_resolver_traffic.specs.declared.doing.Doing.TheVariants.{Hears, Doubts, Stalls, Fails, Quits, PutsBack, Expires, Frees, Refused, Leaves, Ends, Draws, BeginsRound, GivesUp, Blocks, Sends, Dates, Rests}
use Rattle.hickory_resolver_traffic.specs.declared.entry.ToDo.{ToDo}
use Rattle.hickory_resolver_traffic.specs.declared.entry.ToDo.TheVariants.{GoOn, Hear, Doubt, Fail, Quit, PutBack, Expire, Free, Refuse}
use Rattle.hickory_resolver_traffic.specs.declared.inbox.ChannelFailure.{ChannelFailure}
use Rattle.hickory_resolver_traffic.specs.declared.inbox.Failure.{Failure}
use Rattle.hickory_resolver_traffic.specs.declared.inbox.Failure.TheVariants.{Closed, Local}

-- ---- what is to be done next

abbrev pub same_moment : Option ℕ → Option ℕ → Bool
same_moment None None = true
same_moment None (Some m) = false
same_moment (Some n) None = false
same_moment (Some n) (Some m) = n == m

abbrev pub is_empty : {A : Type 0} → List A → Bool
is_empty [] = true
is_empty (x ∷ xs) = false

-- it came to something, or nobody asks for it any more
abbrev pub is_ending : ℕ → FlyingState → TrafficState → Bool
is_ending n f s = is_some (outcome_of f.flight.transaction) || is_none (askers_of n s.askers)

-- the moment up to which it waits, where it does not stand there yet
abbrev pub at_rest : EntryState → Doing
at_rest e =
    if same_moment (next_deadline e.flying.flight.transaction) e.due then Rests
    else Dates (next_deadline e.flying.flight.transaction)

-- Where there may be no channel more, its late tries give up theirs, the oldest first. Only with none left it is noted
-- that it waits for one.
abbrev pub sends_or_blocks : ℕ → TransactionState → TrafficState → Doing
sends_or_blocks n t s =
    if has_place s.shared.channels then Sends else (
    if has_late t then GivesUp else (if is_blocked n s.table then Sends else Blocks))

abbrev pub round_or_place : EntryState → Doing
round_or_place e = option_map_or BeginsRound e.place Draws

abbrev pub forward : ℕ → EntryState → TrafficState → Doing
forward n e s =
    if wants_round e.flying.flight.transaction then round_or_place e else (
    if is_some (wanted e.flying.flight.transaction) then sends_or_blocks n e.flying.flight.transaction s else at_rest e)

-- a deadline of it has come
abbrev pub is_due : EntryState → TrafficState → Bool
is_due e s = option_map_or (λ due. nat_le due s.clock) (next_deadline e.flying.flight.transaction) false

-- what came is read first, so that a reply that is there is never too late
abbrev pub runs_out : EntryState → TrafficState → Bool
runs_out e s = is_read s.inbox && is_due e s

-- what runs out ends first, and then a try that nothing waits for leaves its channel; of one that ends, all leave
abbrev pub going_on : ℕ → EntryState → TrafficState → Doing
going_on n e s =
    if is_ending n e.flying s then (if is_empty e.flying.tries then Ends else Leaves 0)
    else (if runs_out e s then Expires else option_map_or Leaves (first_done e.flying) (forward n e s))

abbrev pub by_failure : Failure → Doing
by_failure Local = Stalls
by_failure other = Fails

abbrev pub doing_for : ToDo → ℕ → EntryState → TrafficState → Doing
doing_for GoOn n e s = going_on n e s
doing_for Hear n e s = Hears
doing_for Doubt n e s = Doubts
doing_for Fail n e s = option_map_or (λ f. by_failure f.why) (first_failure s.inbox) PutsBack
doing_for Quit n e s = Quits
doing_for PutBack n e s = PutsBack
doing_for Expire n e s = Expires
doing_for Free n e s = Frees
doing_for Refuse n e s = Refused

abbrev pub doing : CurrentState → TrafficState → Doing
doing c s = doing_for c.to_do c.number c.entry s

-- ---- what it changes

-- the transaction, and all else; and the channel that is closed, if one is
pub record Scene : Type 0 where
  pub traffic : TrafficState
  pub current : CurrentState

abbrev pub with_flying : FlyingState → EntryState → EntryState
with_flying f e = record e { flying = f }

abbrev pub then_do : ToDo → CurrentState → CurrentState
then_do to_do c = record c { to_do = to_do }

abbrev pub changing : (FlightState → FlightState) → CurrentState → CurrentState
changing change c = record c {
  entry = with_flying (with_flight c.entry.flying (change c.entry.flying.flight)) c.entry;
}

-- something with the servers of its list

abbrev pub moment_of : TrafficState → Moment
moment_of s = record { clock = s.clock; timeout = s.rules.timeout }

abbrev pub before_act : Scene → Acted
before_act x = record {
  shared = x.traffic.shared;
  lists = x.traffic.groups.lists;
  flying = x.current.entry.flying;
}

abbrev pub with_acted : Scene → Acted → Scene
with_acted x a = record {
  traffic = record x.traffic { shared = a.shared; groups = record x.traffic.groups { lists = a.lists } };
  current = record x.current { entry = with_flying a.flying x.current.entry };
}

abbrev pub act_on : ServerAct → List ℕ → Scene → Scene
act_on w octets x =
    with_acted x (acted_on w x.current.number (moment_of x.traffic) octets x.current.entry.asked.0 (before_act x))

abbrev pub value_of_act : ServerAct → List ℕ → Scene → ActedValue
value_of_act w octets x =
    value_on w x.current.number (moment_of x.traffic) octets x.current.entry.asked.0 (before_act x)

abbrev pub with_to_do : ToDo → Scene → Scene
with_to_do to_do x = record { traffic = x.traffic; current = then_do to_do x.current }

abbrev pub with_inbox : (InboxState → InboxState) → Scene → Scene
with_inbox change x = record {
  traffic = record x.traffic { inbox = change x.traffic.inbox };
  current = x.current;
}

-- ---- it hears the first message

-- the number in a header, 0 where there is no header
abbrev pub id_of : List ℕ → ℕ
id_of octets = option_map_or (λ h. h.id) (head_of octets) 0

-- where nothing of it was heard the message stays, to be doubted
abbrev pub after_heard : Heard → Scene → Scene
after_heard what.Nothing x = with_to_do Doubt x
after_heard other x = with_to_do GoOn (with_inbox without_message x)

abbrev pub hear_of : MessageValue → ServerAct
hear_of m = act.Hear m.channel (id_of m.octets)

abbrev pub hears_octets : Scene → MessageValue → Scene
hears_octets x m = act_on (hear_of m) m.octets x

abbrev pub hears_first : Scene → Scene
hears_first x = option_map_or (hears_octets x) (first_message x.traffic.inbox) x

abbrev pub heard_of : Scene → MessageValue → Heard
heard_of x m = (value_of_act (hear_of m) m.octets x).heard

abbrev pub heard_of_first : Scene → Option Heard
heard_of_first x = option_map (heard_of x) (first_message x.traffic.inbox)

abbrev pub after_first : Option Heard → Scene → Scene
after_first None x = with_to_do GoOn x
after_first (Some heard) x = after_heard heard x

abbrev pub hears : Scene → Scene
hears x = after_first (heard_of_first x) (hears_first x)

-- ---- nothing was heard: by a datagram it changes nothing, and a stream is broken

abbrev pub is_stream_kind : ChannelKind → Bool
is_stream_kind Datagram = false
is_stream_kind Stream = true

abbrev pub is_stream : ℕ → ChannelsState → Bool
is_stream channel s = option_map_or (λ c. is_stream_kind c.kind) (channel_at channel s) false

abbrev pub broken : ℕ → ChannelFailure
broken channel = record { channel = channel; why = Closed }

abbrev pub doubted : MessageValue → TrafficState → InboxState
doubted m s =
    if is_stream m.channel s.shared.channels then without_message (with_failure (broken m.channel) s.inbox)
    else without_message s.inbox

abbrev pub doubts_message : TrafficState → MessageValue → TrafficState
doubts_message s m = record s { inbox = doubted m s }

abbrev pub doubts_first : TrafficState → TrafficState
doubts_first s = option_map_or (doubts_message s) (first_message s.inbox) s

abbrev pub doubts : Scene → Scene
doubts x = record { traffic = doubts_first x.traffic; current = then_do GoOn x.current }

-- ---- the first channel that failed has a try of it

-- what waits on a stream leaves it, and goes on once all have left it; a datagram channel is believed on
abbrev pub after_failed : Bool → Scene → Scene
after_failed true x = with_to_do Quit x
after_failed false x = with_to_do GoOn (with_inbox without_failure x)

abbrev pub fails_on : Scene → ChannelFailure → Scene
fails_on x f = after_failed (is_stream f.channel x.traffic.shared.channels) (act_on (act.Fail f.channel) [] x)

abbrev pub fails : Scene → Scene
fails x = option_map_or (fails_on x) (first_failure x.traffic.inbox) (with_to_do GoOn x)

-- it could not be opened: what was to go on it waits for a channel
abbrev pub stalls_on : Scene → ChannelFailure → Scene
stalls_on x f = record {
  traffic = record x.traffic { table = with_blocked x.current.number x.traffic.table };
  current = then_do Quit (changing (changed (blocked f.channel)) x.current);
}

abbrev pub stalls : Scene → Scene
stalls x = option_map_or (stalls_on x) (first_failure x.traffic.inbox) (with_to_do GoOn x)

-- ---- a try leaves its channel

abbrev pub idle_until : TrafficState → ℕ
idle_until s = later s.clock IDLE_FOR

abbrev pub leaving_at : ℕ → Scene → SentTry → Scene
leaving_at place x one = record {
  traffic = record x.traffic {
    shared = record x.traffic.shared {
      channels = channels_without (idle_until x.traffic) x.traffic.shared.channels one;
    };
  };
  current = record x.current { entry = with_flying (without_first x.current.entry.flying place) x.current.entry };
}

abbrev pub leave_at : ℕ → Scene → Scene
leave_at place x = option_map_or (leaving_at place x) (try_at_place x.current.entry.flying place) x

abbrev pub closed_if : Ended → Option ℕ
closed_if e = if e.is_closed then Some e.channel else None

abbrev pub closed_at : ℕ → Scene → Option ℕ
closed_at place x =
    option_map_or (λ one. closed_if (ended_of x.traffic.shared.channels one))
    (try_at_place x.current.entry.flying place) None

-- a channel more was closed, where something waits for one
abbrev pub one_freed : TrafficState → TrafficState
one_freed s = if is_empty s.table.blocked then s else record s { freed = min (s.freed + 1) (2 ^ 64 - 1) }

abbrev pub freed_if : Option ℕ → Scene → Scene
freed_if None x = x
freed_if (Some channel) x = record { traffic = one_freed x.traffic; current = x.current }

abbrev pub leaves : ℕ → Scene → Scene
leaves place x = freed_if (closed_at place x) (leave_at place x)

-- its try on a channel that failed
abbrev pub is_on : ℕ → SentTry → Bool
is_on channel one = one.channel == channel

abbrev pub place_on : Scene → Option ℕ
place_on x =
    option_and_then (λ f. position (is_on f.channel) x.current.entry.flying.tries) (first_failure x.traffic.inbox)

-- with the channel the failure is done with
abbrev pub after_quit : Option ℕ → Scene → Scene
after_quit None x = with_to_do PutBack x
after_quit (Some channel) x = with_to_do PutBack (with_inbox without_failure x)

abbrev pub quits_at : Scene → ℕ → Scene
quits_at x place = after_quit (closed_at place x) (leave_at place x)

abbrev pub quits : Scene → Scene
quits x = option_map_or (quits_at x) (place_on x) (with_to_do PutBack x)

abbrev pub closed_by_quitting : Scene → Option ℕ
closed_by_quitting x = option_and_then (λ place. closed_at place x) (place_on x)

-- ---- time, and channels that are free

abbrev pub expires : Scene → Scene
expires x = with_to_do GoOn (act_on act.Expire [] x)

-- a channel is free: the first that waits for one is sent; where none does, it waits for none
abbrev pub after_free : Scene → Scene
after_free x =
    if is_some (wanted x.current.entry.flying.flight.transaction) then x
    else record {
      traffic = record x.traffic { table = without_blocked x.current.number x.traffic.table };
      current = x.current;
    }

abbrev pub frees : Scene → Scene
frees x = after_free (record { traffic = x.traffic; current = then_do GoOn (changing (changed freed) x.current) })

-- ---- rounds, and what is sent

abbrev pub draws : Scene → Scene
draws x = record {
  traffic = record x.traffic { shared = record x.traffic.shared { draws = (next_drawn x.traffic.shared.draws).1 } };
  current = record x.current { entry = record x.current.entry { place = Some (next_drawn x.traffic.shared.draws).0 } };
}

abbrev pub gives_up : Scene → Scene
gives_up x = record { traffic = x.traffic; current = changing (changed without_oldest) x.current }

abbrev pub blocks : Scene → Scene
blocks x = record {
  traffic = record x.traffic { table = with_blocked x.current.number x.traffic.table };
  current = x.current;
}

abbrev pub outgoing_of : ℕ → SendingValue → OutgoingValue
outgoing_of list sending = record { list = list; sending = sending }

-- only what opens a channel takes one that came free
abbrev pub is_opening : Option SendingValue → Bool
is_opening sending = option_map_or (λ o. o.is_new) sending false

abbrev pub freed_after : Option SendingValue → ℕ → ℕ
freed_after sending freed = if is_opening sending then freed - 1 else freed

abbrev pub with_outgoing : Option SendingValue → Scene → Scene
with_outgoing sending x = record {
  traffic = record x.traffic {
    outgoing = option_map (outgoing_of x.current.entry.asked.0) sending;
    freed = freed_after sending x.traffic.freed;
  };
  current = x.current;
}

abbrev pub sends : Scene → Scene
sends x = with_outgoing (value_of_act act.Send [] x).sending (act_on act.Send [] x)

abbrev pub dates : Option ℕ → Scene → Scene
dates due x = record {
  traffic = record x.traffic { table = redated x.current.number x.current.entry.due due x.traffic.table };
  current = record x.current { entry = record x.current.entry { due = due } };
}

-- ---- a round begins in an order of the strategy, and it is noted who tries an unknown server

abbrev pub round_of : ℕ → Scene → RoundStart
round_of place x = record {
  transaction = x.current.number;
  place = place;
  moment = x.traffic.clock;
}

abbrev pub with_probe : ServerOrderingStrategy → RoundStart → List ℕ → GroupListState → GroupListState
with_probe strategy round left l = record l {
  servers = record l.servers {
    servers = probed round.transaction (probe_of strategy round l.servers.servers left) l.servers.servers;
  };
}

abbrev pub in_order_of : List ℕ → FlyingState → FlyingState
in_order_of order f = with_flight f (changed (with_round order) f.flight)

-- the question after it, in some order
pub record IsRound (strategy : ServerOrderingStrategy) (round : RoundStart) (l : GroupListState) (f after : FlyingState)
    : Type 0 where
  pub order : List ℕ
  pub in_order : IsOrder strategy round l.servers.servers (places_left f.flight.transaction) order
  pub begun : after ≡ in_order_of order f

-- where its list is gone, which cannot be, nothing begins
abbrev pub BeginsWith : ServerOrderingStrategy → RoundStart → Option GroupListState → FlyingState → FlyingState → Type 0
BeginsWith strategy round None f after = after ≡ f
BeginsWith strategy round (Some l) f after = IsRound strategy round l f after

abbrev pub probed_lists :
    ServerOrderingStrategy → RoundStart → ℕ → FlyingState → List (ℕ × GroupListState) → List (ℕ × GroupListState)
probed_lists strategy round list f lists =
    changed_list (with_probe strategy round (places_left f.flight.transaction)) list lists

abbrev pub with_round_parts : ℕ → Scene → FlyingState → Scene
with_round_parts place x f = with_acted x (record {
  shared = x.traffic.shared;
  lists = probed_lists x.traffic.rules.strategy (round_of place x) x.current.entry.asked.0 x.current.entry.flying
      x.traffic.groups.lists;
  flying = f;
})

pub record BeginsRoundIn (place : ℕ) (x y : Scene) : Type 0 where
  pub begins : BeginsWith x.traffic.rules.strategy (round_of place x) (list_at x.current.entry.asked.0 x.traffic.groups)
      x.current.entry.flying y.current.entry.flying
  pub after : y ≡ with_round_parts place x y.current.entry.flying

-- ---- all of it

-- what is done, where it is done with the transaction in hand
abbrev pub IsDone : Doing → Scene → Scene → Type 0
IsDone Hears x y = y ≡ hears x
IsDone Doubts x y = y ≡ doubts x
IsDone Stalls x y = y ≡ stalls x
IsDone Fails x y = y ≡ fails x
IsDone Quits x y = y ≡ quits x
IsDone Expires x y = y ≡ expires x
IsDone Frees x y = y ≡ frees x
IsDone (Leaves place) x y = y ≡ leaves place x
IsDone Draws x y = y ≡ draws x
IsDone (BeginsRound place) x y = BeginsRoundIn place x y
IsDone GivesUp x y = y ≡ gives_up x
IsDone Blocks x y = y ≡ blocks x
IsDone Sends x y = y ≡ sends x
IsDone (Dates due) x y = y ≡ dates due x
IsDone other x y = y ≡ x

-- and the channel that is closed by it
abbrev pub closed_by : Doing → Scene → Option ℕ
closed_by (Leaves place) x = closed_at place x
closed_by Quits x = closed_by_quitting x
closed_by other x = None
