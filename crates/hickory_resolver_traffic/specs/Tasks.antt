-- What is done where no transaction is worked on: the first of these that there is.
use Rattle.std.specs.Prelude.{ℕ, ◌/◌, ◌%◌, Bool, false, ◌&&◌, ◌==◌, List, [], ◌∷◌, ◌++◌, length, drop, min, nat_le, nat_lt, slice_get, unwrap_or, Option, None, Some, if◌then◌else◌}
use Rattle.std.specs.Option.{is_some, option_map, option_map_or, option_or, option_and_then}
use Rattle.std.specs.declared.net.SocketAddr.{SocketAddr}
use Rattle.hickory_resolver_askers.specs.Askers.{late_one, to_admit}
use Rattle.hickory_resolver_askers.specs.Askers as ask
use Rattle.hickory_resolver_channels.specs.Channels.{first_try, transaction_at, first_idle, channel_at, has_place}
use Rattle.hickory_resolver_channels.specs.Channels as channels
use Rattle.hickory_resolver_channels.specs.declared.channel.ChannelKind.{ChannelKind}
use Rattle.hickory_resolver_channels.specs.declared.channel.ChannelKind.TheVariants.{Datagram, Stream}
use Rattle.hickory_resolver_servers.specs.Server.{ServerState}
use Rattle.hickory_resolver_steps.specs.Steps.{SendingValue}
use Rattle.hickory_resolver_tries.specs.Heads.{head_of}
use Rattle.hickory_resolver_tries.specs.declared.head.Head.{Head}
use Rattle.hickory_resolver_traffic.specs.Doing.{id_of, one_freed, doubts_first}
use Rattle.hickory_resolver_traffic.specs.Groups.{GroupListState, list_at}
use Rattle.hickory_resolver_traffic.specs.Groups as groups
use Rattle.hickory_resolver_traffic.specs.Inbox.{first_message, without_message, first_unread, cut_on, first_failure, without_failure, without_stream}
use Rattle.hickory_resolver_traffic.specs.Table.{CurrentState, EntryState, TableState, entry_at, has_entry, without_entry, with_entry, first_due, undated, first_blocked, without_blocked}
use Rattle.hickory_resolver_traffic.specs.Traffic.{TrafficState, OutgoingValue}
use Rattle.hickory_resolver_traffic.specs.declared.entry.ToDo.{ToDo}
use Rattle.hickory_resolver_traffic.specs.declared.entry.ToDo.TheVariants.{GoOn, Hear, Fail, Expire, Free, Refuse}
use Rattle.hickory_resolver_traffic.specs.declared.groups.Sources.{Sources}
use Rattle.hickory_resolver_traffic.specs.declared.inbox.ChannelFailure.{ChannelFailure}
use Rattle.hickory_resolver_traffic.specs.declared.inbox.Failure.{Failure}
use Rattle.hickory_resolver_traffic.specs.declared.inbox.Failure.TheVariants.{Local}
use Rattle.hickory_resolver_traffic.specs.Openings.{OpeningValue, SentValue}
use Rattle.hickory_resolver_traffic.specs.declared.starting.Did.{Did}
use Rattle.hickory_resolver_traffic.specs.declared.starting.Did.TheVariants.{Idle, More, Opened, Written, Closed, TookUp}
use Rattle.hickory_resolver_traffic.specs.declared.tasks.Task.{Task}
use Rattle.hickory_resolver_traffic.specs.declared.tasks.Task.TheVariants.{Opens, Writes, Doubts, PassesBy, Cuts, ClosesFailed, DropsFailure, TakesReady, TakesUp, Undates, Strays, Unblocks, ClosesIdle, Admits}

-- ---- what goes out

abbrev pub outgoing_task : OutgoingValue → Task
outgoing_task o = if o.sending.is_new then Opens else Writes

-- ---- a message is of the try on its channel with its number

abbrev pub hears_or_doubts : TableState → ℕ → Task
hears_or_doubts t n = if has_entry n t then TakesUp n Hear else Doubts

-- Of a number that no try has there, a response to a query is one to a try that is over, as an honest server gives that
-- is slow: it is passed by, also on a stream.
abbrev pub is_response : Head → Bool
is_response h = (h.flags / 32768 % 2 == 1) && (h.flags / 2048 % 16 == 0)

abbrev pub passes_or_doubts : List ℕ → Task
passes_or_doubts octets = if option_map_or is_response (head_of octets) false then PassesBy else Doubts

abbrev pub message_task : TrafficState → ℕ → List ℕ → Task
message_task s channel octets =
    option_map_or (hears_or_doubts s.table) (transaction_at channel (id_of octets) s.shared.channels)
    (passes_or_doubts octets)

-- ---- a channel that failed: its tries, and then, where it is a stream, it is closed

abbrev pub fails_or_drops : TableState → ℕ × ℕ → Task
fails_or_drops t one = if has_entry one.1 t then TakesUp one.1 Fail else DropsFailure

abbrev pub failed_task : ℕ → TrafficState → Task
failed_task channel s =
    option_map_or (fails_or_drops s.table) (first_try channel s.shared.channels) (ClosesFailed channel)

abbrev pub failure_task : TrafficState → ChannelFailure → Task
failure_task s f =
    if is_some (channel_at f.channel s.shared.channels) then failed_task f.channel s else DropsFailure

-- ---- time

abbrev pub if_by : ℕ → ℕ × ℕ → Option (ℕ × ℕ)
if_by now p = if nat_le p.0 now then Some p else None

-- a stream without a try is kept up to its moment, and no longer where something waits for a channel
abbrev pub kept_until : TrafficState → ℕ → ℕ
kept_until s until = if is_some (first_blocked s.table) then 0 else until

abbrev pub if_kept_enough : TrafficState → ℕ × ℕ → Option (ℕ × ℕ)
if_kept_enough s p = if nat_le (kept_until s p.0) s.clock then Some p else None

abbrev pub expires_or_undates : TableState → ℕ × ℕ → Task
expires_or_undates t due = if has_entry due.1 t then TakesUp due.1 Expire else Undates due.0 due.1

-- one that waits for a place is refused only where there is none
abbrev pub refused_one : TrafficState → Option ℕ
refused_one s = if ask.has_place s.askers then None else late_one s.clock s.askers

abbrev pub refuses_or_strays : TableState → ℕ → Task
refuses_or_strays t n = if has_entry n t then TakesUp n Refuse else Strays n

abbrev pub frees_or_unblocks : TableState → ℕ → Task
frees_or_unblocks t n = if has_entry n t then TakesUp n Free else Unblocks n

-- where a channel came free, and was taken by none meanwhile
abbrev pub free_one : TrafficState → Option ℕ
free_one s = if nat_lt 0 s.freed && has_place s.shared.channels then first_blocked s.table else None

-- ---- the first of these

abbrev pub message_in : TrafficState → Option Task
message_in s = option_map (λ m. message_task s m.channel m.octets) (first_message s.inbox)

abbrev pub failure_in : TrafficState → Option Task
failure_in s = option_map (failure_task s) (first_failure s.inbox)

abbrev pub due_in : TrafficState → Option Task
due_in s = option_map (expires_or_undates s.table) (option_and_then (if_by s.clock) (first_due s.table))

abbrev pub late_in : TrafficState → Option Task
late_in s = option_map (refuses_or_strays s.table) (refused_one s)

abbrev pub free_in : TrafficState → Option Task
free_in s = option_map (frees_or_unblocks s.table) (free_one s)

abbrev pub idle_in : TrafficState → Option Task
idle_in s = option_map (λ p. ClosesIdle p.1) (option_and_then (if_kept_enough s) (first_idle s.shared.channels))

-- What came goes before what runs out, so that a reply that is there is never too late; and a channel that failed
-- before what came, so that what is behind an octet for which a stream is broken is read no more, however the stream
-- was cut. One that waits for a channel gets what is free before those that are ready, so that none overtakes it.
abbrev pub came_in : TrafficState → Option Task
came_in s =
    option_or (failure_in s) (option_or (message_in s) (option_or (option_map Cuts (first_unread s.inbox))
    (option_or (free_in s) (option_map TakesReady (slice_get s.ready 0)))))

abbrev pub ran_out : TrafficState → Option Task
ran_out s = option_or (due_in s) (option_or (late_in s) (idle_in s))

abbrev pub task_of : TrafficState → Task
task_of s =
    unwrap_or (option_or (option_map outgoing_task s.outgoing) (option_or (came_in s) (ran_out s))) Admits

-- ---- a transaction is taken up

abbrev pub current_of : ℕ → ToDo → EntryState → CurrentState
current_of n to_do e = record { number = n; to_do = to_do; entry = e }

abbrev pub taken_up : ℕ → ToDo → TableState → Option CurrentState
taken_up n to_do t = option_map (current_of n to_do) (entry_at n t)

abbrev pub without_taken : ℕ → TrafficState → TrafficState
without_taken n s = record s { table = without_entry n s.table }

-- ---- what a task changes

abbrev pub closed : ℕ → TrafficState → TrafficState
closed channel s = record s {
  shared = record s.shared { channels = channels.closed channel s.shared.channels };
  inbox = without_stream channel s.inbox;
}

-- a channel that could not be opened was no channel that is free now
abbrev pub freed_by : Failure → TrafficState → TrafficState
freed_by Local s = s
freed_by other s = one_freed s

abbrev pub without_first_failure : TrafficState → TrafficState
without_first_failure s = record s { inbox = without_failure s.inbox }

abbrev pub freed_by_first : TrafficState → TrafficState
freed_by_first s = option_map_or (λ f. freed_by f.why s) (first_failure s.inbox) s

abbrev pub opened_outgoing : OutgoingValue → OutgoingValue
opened_outgoing o = record o { sending = record o.sending { is_new = false } }

abbrev pub after_task : Task → TrafficState → TrafficState
after_task Opens s = record s { outgoing = option_map opened_outgoing s.outgoing }
after_task Writes s = record s { outgoing = None }
after_task Doubts s = doubts_first s
after_task PassesBy s = record s { inbox = without_message s.inbox }
after_task (Cuts channel) s = record s { inbox = cut_on channel s.inbox }
after_task (ClosesFailed channel) s = without_first_failure (freed_by_first (closed channel s))
after_task DropsFailure s = without_first_failure s
after_task (TakesReady n) s = without_taken n (record s { ready = drop 1 s.ready })
after_task (TakesUp n to_do) s = without_taken n s
after_task (Undates due n) s = record s { table = undated n (Some due) s.table }
after_task (Strays n) s = record s { askers = ask.over n s.askers }
after_task (Unblocks n) s = record s { table = without_blocked n s.table }
after_task (ClosesIdle channel) s = one_freed (closed channel s)
after_task Admits s =
    option_map_or (λ first. without_taken first.0 (record s { askers = ask.admitted s.askers }))
    (to_admit s.askers) s

-- ---- and what comes of it

abbrev pub port_for : ChannelKind → ServerState → ℕ
port_for Datagram server = unwrap_or server.udp_port 0
port_for Stream server = unwrap_or server.tcp_port 0

abbrev pub source_for : ChannelKind → Sources → Option SocketAddr
source_for Datagram sources = sources.udp
source_for Stream sources = sources.tcp

abbrev pub source_at : ChannelKind → ℕ → GroupListState → Option SocketAddr
source_at kind place l = option_and_then (source_for kind) (slice_get l.sources place)

abbrev pub opening_to : SendingValue → GroupListState → ServerState → OpeningValue
opening_to o l server = record {
  channel = o.channel;
  kind = o.kind;
  address = server.address;
  scope = server.scope;
  port = port_for o.kind server;
  bind_addr = source_at o.kind o.place l;
}

abbrev pub opening_in : SendingValue → GroupListState → Option OpeningValue
opening_in o l = option_map (opening_to o l) (slice_get l.servers.servers o.place)

abbrev pub opening_of : TrafficState → OutgoingValue → Option OpeningValue
opening_of s o = option_and_then (opening_in o.sending) (list_at o.list s.groups)

-- on a stream a message stands behind its length (RFC 1035, section 4.2.2)
abbrev pub written : ChannelKind → List ℕ → List ℕ
written Datagram octets = octets
written Stream octets = (length octets / 256 % 256) ∷ (length octets % 256) ∷ octets

abbrev pub sent_of : OutgoingValue → SentValue
sent_of o = record { channel = o.sending.channel; octets = written o.sending.kind o.sending.octets }

abbrev pub took_up : Option CurrentState → Did
took_up None = More
took_up (Some current) = TookUp current

abbrev pub did_open : Option OpeningValue → Did
did_open None = More
did_open (Some opening) = Opened opening

abbrev pub did_write : Option OutgoingValue → Did
did_write None = More
did_write (Some o) = Written (sent_of o)

abbrev pub did : Task → TrafficState → Did
did Opens s = did_open (option_and_then (opening_of s) s.outgoing)
did Writes s = did_write s.outgoing
did (ClosesFailed channel) s = Closed channel
did (ClosesIdle channel) s = Closed channel
did (TakesReady n) s = took_up (taken_up n GoOn s.table)
did (TakesUp n to_do) s = took_up (taken_up n to_do s.table)
did Admits s = option_map_or (λ first. took_up (taken_up first.0 GoOn s.table)) (to_admit s.askers) Idle
did other s = More

-- ---- a transaction is put back, or ends

abbrev pub put_back : ℕ → EntryState → TrafficState → TrafficState
put_back n e s = record s { table = with_entry n e s.table }

abbrev pub put_back_ready : ℕ → EntryState → TrafficState → TrafficState
put_back_ready n e s = record s { table = with_entry n e s.table; ready = s.ready ++ n ∷ [] }

abbrev pub ended : ℕ → EntryState → TrafficState → TrafficState
ended n e s = record s {
  askers = ask.over n s.askers;
  groups = groups.ended e.asked.0 n s.groups;
  table = without_blocked n (undated n e.due s.table);
}

-- ---- up to when nothing is to be done: the earliest of the deadlines, of the places that are waited for, and of the
-- streams that are kept

abbrev pub earlier : Option ℕ → Option ℕ → Option ℕ
earlier None other = other
earlier (Some one) None = Some one
earlier (Some one) (Some other) = Some (min one other)

abbrev pub next_deadline : TrafficState → Option ℕ
next_deadline s =
    earlier (option_map (λ p. p.0) (first_due s.table))
    (earlier (ask.next_deadline s.askers) (option_map (λ p. p.0) (first_idle s.shared.channels)))
