-- What went over channels: messages that were sent, and octets that came.
use Rattle.std.specs.Prelude.{◌≡◌, ◌⊎◌, ℕ, ◌+◌, ◌*◌, Bool, false, not, ◌&&◌, ◌==◌, List, [], ◌∷◌, ◌++◌, length, Contains, Some, if◌then◌else◌}
use Rattle.std.specs.Option.{option_map_or}
use Rattle.hickory_resolver_channels.specs.Channels.{channel_at, transaction_at}
use Rattle.hickory_resolver_channels.specs.declared.channel.ChannelKind.{ChannelKind}
use Rattle.hickory_resolver_traffic.specs.Doing.{is_stream, is_stream_kind}
use Rattle.hickory_resolver_traffic.specs.Openings.{SentValue}
use Rattle.hickory_resolver_traffic.specs.Tasks.{written}
use Rattle.hickory_resolver_pool.specs.Laws.{octets_come}
use Rattle.hickory_resolver_pool.specs.Pool.{PoolState}
use Rattle.hickory_resolver_pool.specs.declared.pool.Action.TheVariants.{Send}
use Rattle.hickory_resolver_pool_theorems.specs.Runs.{Happening, came, did}

-- ---- what was sent

abbrev pub sent_value : ℕ → List ℕ → SentValue
sent_value channel octets = record { channel = channel; octets = octets }

-- The program had to send this message on a channel, on a stream behind its length. On that channel it was the one with
-- this number of this transaction.
pub record WasSent (past : List Happening) (transaction channel id : ℕ) (message : List ℕ) : Type 0 where
  pub later : List Happening
  pub earlier : List Happening
  pub pool : PoolState
  pub kind : ChannelKind
  pub happened : past ≡ later ++ did pool (Some (Send (sent_value channel (written kind message)))) ∷ earlier
  pub of_transaction : transaction_at channel id pool.traffic.shared.channels ≡ Some transaction

-- ---- what came

abbrev pub is_open_datagram : ℕ → PoolState → Bool
is_open_datagram channel s =
    option_map_or (λ c. not (is_stream_kind c.kind)) (channel_at channel s.traffic.shared.channels) false

abbrev pub is_open_stream : ℕ → PoolState → Bool
is_open_stream channel s = is_stream channel s.traffic.shared.channels

-- each datagram that came on a channel while it was open
abbrev pub datagrams_on : ℕ → List Happening → List (List ℕ)
datagrams_on channel [] = []
datagrams_on channel (came s (octets_come number octets now) ∷ past) =
    if (number == channel) && is_open_datagram channel s then datagrams_on channel past ++ octets ∷ []
    else datagrams_on channel past
datagrams_on channel (other ∷ past) = datagrams_on channel past

-- the octets that came on a stream while it was open
abbrev pub stream_on : ℕ → List Happening → List ℕ
stream_on channel [] = []
stream_on channel (came s (octets_come number octets now) ∷ past) =
    if (number == channel) && is_open_stream channel s then stream_on channel past ++ octets else stream_on channel past
stream_on channel (other ∷ past) = stream_on channel past

-- a message of a stream stands behind its length (RFC 1035, section 4.2.2)
pub record IsMessageOf (stream message : List ℕ) : Type 0 where
  pub before : List ℕ
  pub behind : List ℕ
  pub high : ℕ
  pub low : ℕ
  pub stands : stream ≡ before ++ high ∷ low ∷ (message ++ behind)
  pub length_is : length message ≡ high * 256 + low

-- these octets came on a channel while it was open: as a datagram, or as a message of a stream
abbrev pub CameOn : List Happening → ℕ → List ℕ → Type 0
CameOn past channel octets = Contains (datagrams_on channel past) octets ⊎ IsMessageOf (stream_on channel past) octets
