-- What is on its way, but for the transaction that is worked on; and what each event does with it.
use Rattle.std.specs.Prelude.{ℕ, List, [], ◌∷◌, ◌++◌, max, Option, None}
use Rattle.std.specs.Option.{option_map_or}
use Rattle.rand_chacha.specs.ChaCha.{of_seed}
use Rattle.hickory_resolver_askers.specs.Askers.{AskersState, nobody, place_for, asker_given, left_of, forgot}
use Rattle.hickory_resolver_askers.specs.Askers as ask
use Rattle.hickory_resolver_askers.specs.declared.asker.Asker.{Asker}
use Rattle.hickory_resolver_askers.specs.declared.asker.Forgotten.{Forgotten}
use Rattle.hickory_resolver_askers.specs.declared.asker.Forgotten.TheVariants.{Last}
use Rattle.hickory_resolver_askers.specs.declared.asker.Place.{Place}
use Rattle.hickory_resolver_askers.specs.declared.asker.Place.TheVariants.{InFlight, Waits, Overloaded}
use Rattle.hickory_resolver_channels.specs.Channels.{no_channels, channel_at}
use Rattle.hickory_resolver_channels.specs.declared.channel.Channel.{Channel}
use Rattle.hickory_resolver_channels.specs.declared.channel.ChannelKind.{ChannelKind}
use Rattle.hickory_resolver_channels.specs.declared.channel.ChannelKind.TheVariants.{Datagram, Stream}
use Rattle.hickory_resolver_flights.specs.Flights.{flight_of}
use Rattle.hickory_resolver_servers.specs.Server.{ServerState}
use Rattle.hickory_resolver_steps.specs.Steps.{SharedState, SendingValue}
use Rattle.hickory_resolver_transactions.specs.declared.settings.Settings.{Settings}
use Rattle.hickory_resolver_tries.specs.declared.pool_question.PoolQuestion.{PoolQuestion}
use Rattle.hickory_resolver_traffic.specs.Acting.{later}
use Rattle.hickory_resolver_traffic.specs.Groups.{GroupsState, GroupListState, no_groups, list_at, with_servers}
use Rattle.hickory_resolver_traffic.specs.Groups as groups
use Rattle.hickory_resolver_traffic.specs.Inbox.{InboxState, empty_inbox, with_message, with_piece, with_failure}
use Rattle.hickory_resolver_traffic.specs.Table.{TableState, EntryState, no_entries, with_entry}
use Rattle.hickory_resolver_traffic.specs.declared.groups.Sources.{Sources}
use Rattle.hickory_resolver_traffic.specs.declared.inbox.ChannelFailure.{ChannelFailure}
use Rattle.hickory_resolver_traffic.specs.declared.traffic.Rules.{Rules}
use Rattle.hickory_resolver_traffic.specs.declared.traffic.TrafficLimits.{TrafficLimits}

-- what goes out next, to a server of which list
pub record OutgoingValue : Type 0 where
  pub list : ℕ
  pub sending : SendingValue

-- The latest moment that was told; what all transactions share; who asks; the servers; the transactions; what came and
-- was not read; those that are ready to go on; what goes out next; and how many channels were closed for which
-- something waited, and for which none was opened since.
pub record TrafficState : Type 0 where
  pub rules : Rules
  pub clock : ℕ
  pub shared : SharedState
  pub askers : AskersState
  pub groups : GroupsState
  pub table : TableState
  pub inbox : InboxState
  pub ready : List ℕ
  pub outgoing : Option OutgoingValue
  pub freed : ℕ

abbrev pub no_traffic : Rules → TrafficLimits → List ℕ → TrafficState
no_traffic rules limits seed = record {
  rules = rules;
  clock = 0;
  shared = record { channels = no_channels limits.channels; draws = of_seed seed };
  askers = nobody limits.askers;
  groups = no_groups;
  table = no_entries;
  inbox = empty_inbox;
  ready = [];
  outgoing = None;
  freed = 0;
}

-- ---- time

abbrev pub ticked : ℕ → TrafficState → TrafficState
ticked now s = record s { clock = max s.clock now }

-- ---- servers

abbrev pub with_group : ℕ → List ServerState → List Sources → TrafficState → TrafficState
with_group group servers sources s = record s { groups = with_servers group servers sources s.groups }

-- ---- a question is asked that is asked already

abbrev pub joined : ℕ → ℕ → TrafficState → TrafficState
joined n now s =
    option_map_or (λ asker. ticked now (record s { askers = ask.joined n s.askers })) (ask.joiner n s.askers) s

-- ---- a new question is asked

-- nothing was sent for it
abbrev pub entry_of : ℕ → PoolQuestion → Settings → GroupListState → EntryState
entry_of list question settings l = record {
  asked = (list, question);
  flying = record { flight = flight_of settings l.servers.servers question; tries = [] };
  place = None;
  due = None;
}

abbrev pub ready_in : Place → ℕ → List ℕ → List ℕ
ready_in InFlight n ready = ready ++ n ∷ []
ready_in Waits n ready = ready
ready_in Overloaded n ready = ready

-- up to when it waits, where it waits for a place
abbrev pub until_of : ℕ → TrafficState → ℕ
until_of now s = later (max s.clock now) s.rules.timeout

abbrev pub begun_as : Place → EntryState → ℕ → ℕ → TrafficState → TrafficState
begun_as Overloaded e list now s = ticked now s
begun_as place e list now s = ticked now (record s {
  askers = ask.begun (until_of now s) s.askers;
  groups = groups.begun list s.groups;
  table = with_entry s.askers.next_transaction e s.table;
  ready = ready_in place s.askers.next_transaction s.ready;
})

abbrev pub begun_with : ℕ → PoolQuestion → Settings → ℕ → TrafficState → GroupListState → TrafficState
begun_with list question settings now s l =
    begun_as (place_for s.askers) (entry_of list question settings l) list now s

abbrev pub begun : ℕ → PoolQuestion → Settings → ℕ → TrafficState → TrafficState
begun list question settings now s =
    option_map_or (begun_with list question settings now s) (list_at list s.groups) (ticked now s)

-- its asker, where there is place
abbrev pub begun_asker : ℕ → TrafficState → Option Asker
begun_asker list s = option_map_or (λ l. asker_given s.askers) (list_at list s.groups) None

-- ---- octets came, or a channel failed: where it is not open, nothing of it is kept

abbrev pub taken_in : ChannelKind → ℕ → List ℕ → InboxState → InboxState
taken_in Datagram channel octets i = with_message channel octets i
taken_in Stream channel octets i = with_piece channel octets i

abbrev pub came_on : ℕ → List ℕ → TrafficState → Channel → TrafficState
came_on channel octets s c = record s { inbox = taken_in c.kind channel octets s.inbox }

abbrev pub came : ℕ → List ℕ → ℕ → TrafficState → TrafficState
came channel octets now s =
    ticked now (option_map_or (came_on channel octets s) (channel_at channel s.shared.channels) s)

abbrev pub failed_on : ChannelFailure → TrafficState → Channel → TrafficState
failed_on f s c = record s { inbox = with_failure f s.inbox }

abbrev pub failed : ChannelFailure → ℕ → TrafficState → TrafficState
failed f now s = ticked now (option_map_or (failed_on f s) (channel_at f.channel s.shared.channels) s)

-- ---- an asker is forgotten: with the last the transaction is to be ended

abbrev pub ready_after : Forgotten → ℕ → List ℕ → List ℕ
ready_after Last n ready = ready ++ n ∷ []
ready_after other n ready = ready

abbrev pub forgotten : Asker → TrafficState → TrafficState
forgotten a s = record s {
  askers = forgot a s.askers;
  ready = ready_after (left_of a s.askers) a.transaction s.ready;
}
