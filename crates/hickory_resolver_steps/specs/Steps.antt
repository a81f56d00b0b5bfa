-- What a question in flight does with the servers of its group and with what all questions share, one step at a time.
use Rattle.std.specs.Prelude.{ℕ, Bool, true, false, List, [], ◌∷◌, ◌++◌, Option, None, Some, if◌then◌else◌}
use Rattle.std.specs.Option.{is_some, option_map, option_map_or, option_and_then}
use Rattle.rand_chacha.specs.ChaCha.{ChaCha}
use Rattle.hickory_resolver_channels.specs.Channels.{ChannelsState, number_given, joinable, joined, opened_for}
use Rattle.hickory_resolver_channels.specs.Draws.{try_drawn, after_try}
use Rattle.hickory_resolver_channels.specs.declared.channel.ChannelKind.{ChannelKind}
use Rattle.hickory_resolver_channels.specs.declared.channel.ChannelKind.TheVariants.{Datagram, Stream}
use Rattle.hickory_resolver_channels.specs.declared.draws.Drawn.{Drawn}
use Rattle.hickory_resolver_flights.specs.Flights.{FlightState, octets_to_send, sent_by, changed}
use Rattle.hickory_resolver_transactions.specs.Transaction.{wanted, unsent}
use Rattle.hickory_resolver_transactions.specs.declared.candidate.Made.{Made}
use Rattle.hickory_resolver_transactions.specs.declared.candidate.Transport.{Transport}
use Rattle.hickory_resolver_transactions.specs.declared.candidate.Transport.TheVariants.{Udp, Tcp}
use Rattle.hickory_resolver_transactions.specs.declared.transaction.Wanted.{Wanted}
use Rattle.hickory_resolver_steps.specs.Lists.{ListState, number_of, stream_of, with_stream}
use Rattle.hickory_resolver_steps.specs.declared.flying.SentTry.{SentTry}
use Rattle.hickory_resolver_steps.specs.declared.flying.Step.{Step}

-- the channels and the draws, which all questions share
pub record SharedState : Type 0 where
  pub channels : ChannelsState
  pub draws : ChaCha

-- a question in flight, and its tries that are on a channel
pub record FlyingState : Type 0 where
  pub flight : FlightState
  pub tries : List SentTry

-- what is sent: on which channel, opened for it to the server of which place or not, and which octets
pub record SendingValue : Type 0 where
  pub channel : ℕ
  pub place : ℕ
  pub kind : ChannelKind
  pub is_new : Bool
  pub octets : List ℕ

-- ---- sending

-- what a step changes
pub record Parts : Type 0 where
  pub shared : SharedState
  pub servers : ListState
  pub flying : FlyingState

abbrev pub kind_of : Transport → ChannelKind
kind_of Udp = Datagram
kind_of Tcp = Stream

-- the stream that was opened last to the server of a place, where it takes this try
abbrev pub if_joinable : ℕ → ChannelsState → ℕ → Option ℕ
if_joinable id channels channel = if is_some (joinable channel id channels) then Some channel else None

abbrev pub stream_for : ChannelKind → ℕ → ℕ → ListState → ChannelsState → Option ℕ
stream_for Datagram place id servers channels = None
stream_for Stream place id servers channels = option_and_then (if_joinable id channels) (stream_of place servers)

abbrev pub stream_in : ChannelKind → ℕ → Parts → Option ℕ
stream_in kind place p = stream_for kind place (try_drawn p.shared.draws).id p.servers p.shared.channels

abbrev pub made_on : ℕ → Drawn → ℕ → Made
made_on channel drawn now = record { channel = channel; id = drawn.id; letters = drawn.letters; moment = now }

abbrev pub with_sent : ℕ → Drawn → ℕ → FlyingState → FlyingState
with_sent channel drawn now f = record {
  flight = sent_by (made_on channel drawn now) f.flight;
  tries = f.tries ++ record { channel = channel; id = drawn.id } ∷ [];
}

abbrev pub with_latest : ChannelKind → ℕ → ℕ → ListState → ListState
with_latest Datagram place channel servers = servers
with_latest Stream place channel servers = with_stream place channel servers

-- on a stream that is open
abbrev pub sent_on_open : Step → ℕ → Parts → Parts
sent_on_open step channel p = record {
  shared = record {
    channels = joined channel (try_drawn p.shared.draws).id step.transaction p.shared.channels;
    draws = after_try p.shared.draws;
  };
  servers = p.servers;
  flying = with_sent channel (try_drawn p.shared.draws) step.moment p.flying;
}

-- on a channel that is opened for it
abbrev pub sent_on_new : Step → ChannelKind → ℕ → ℕ → Parts → Parts
sent_on_new step kind place channel p = record {
  shared = record {
    channels =
        opened_for (number_of place p.servers) kind (try_drawn p.shared.draws).id step.transaction p.shared.channels;
    draws = after_try p.shared.draws;
  };
  servers = with_latest kind place channel p.servers;
  flying = with_sent channel (try_drawn p.shared.draws) step.moment p.flying;
}

-- where there may be no channel more, it waits for one
abbrev pub without_channel : Step → Parts → Parts
without_channel step p = record {
  shared = p.shared;
  servers = p.servers;
  flying = record { flight = changed (unsent step.until) p.flying.flight; tries = p.flying.tries };
}

abbrev pub sent_on : Step → ChannelKind → ℕ → Parts → Option ℕ → Parts
sent_on step kind place p None = without_channel step p
sent_on step kind place p (Some channel) = sent_on_new step kind place channel p

abbrev pub sent_to : Step → ChannelKind → ℕ → Parts → Option ℕ → Parts
sent_to step kind place p (Some channel) = sent_on_open step channel p
sent_to step kind place p None = sent_on step kind place p (number_given p.shared.channels)

abbrev pub sent_as : Step → Parts → Wanted → Parts
sent_as step p w =
    sent_to step (kind_of w.way.transport) w.place p (stream_in (kind_of w.way.transport) w.place p)

abbrev pub sent : Step → Parts → Parts
sent step p = option_map_or (sent_as step p) (wanted p.flying.flight.transaction) p

-- ---- and what goes out

abbrev pub octets_on : ℕ → Step → Parts → Option (List ℕ)
octets_on channel step p = octets_to_send (made_on channel (try_drawn p.shared.draws) step.moment) p.flying.flight

abbrev pub sending_of : ChannelKind → ℕ → Bool → ℕ → List ℕ → SendingValue
sending_of kind place is_new channel octets =
    record { channel = channel; place = place; kind = kind; is_new = is_new; octets = octets }

abbrev pub out_on : Step → ChannelKind → ℕ → Parts → Bool → ℕ → Option SendingValue
out_on step kind place p is_new channel = option_map (sending_of kind place is_new channel) (octets_on channel step p)

abbrev pub out_to : Step → ChannelKind → ℕ → Parts → Option ℕ → Option SendingValue
out_to step kind place p (Some channel) = out_on step kind place p false channel
out_to step kind place p None = option_and_then (out_on step kind place p true) (number_given p.shared.channels)

abbrev pub out_as : Step → Parts → Wanted → Option SendingValue
out_as step p w =
    out_to step (kind_of w.way.transport) w.place p (stream_in (kind_of w.way.transport) w.place p)

abbrev pub out : Step → Parts → Option SendingValue
out step p = option_and_then (out_as step p) (wanted p.flying.flight.transaction)
