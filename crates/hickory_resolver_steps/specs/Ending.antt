-- Tries that nothing waits for any more.
use Rattle.std.specs.Prelude.{ℕ, Bool, remove, position, slice_get, Option}
use Rattle.std.specs.Option.{is_none}
use Rattle.hickory_resolver_channels.specs.Channels.{ChannelsState, left, closes}
use Rattle.hickory_resolver_transactions.specs.Transaction.{TransactionState, try_at}
use Rattle.hickory_resolver_steps.specs.Steps.{FlyingState}
use Rattle.hickory_resolver_steps.specs.declared.ending.Ended.{Ended}
use Rattle.hickory_resolver_steps.specs.declared.flying.SentTry.{SentTry}

-- it neither waits nor is late
abbrev pub is_done : TransactionState → SentTry → Bool
is_done t one = is_none (try_at one.channel one.id t)

abbrev pub first_done : FlyingState → Option ℕ
first_done f = position (is_done f.flight.transaction) f.tries

-- it is off its channel, and whether that closes the channel
abbrev pub ended_of : ChannelsState → SentTry → Ended
ended_of channels one = record { channel = one.channel; is_closed = closes one.channel one.id channels }

abbrev pub try_at_place : FlyingState → ℕ → Option SentTry
try_at_place f place = slice_get f.tries place

abbrev pub channels_without : ℕ → ChannelsState → SentTry → ChannelsState
channels_without until channels one = left one.channel one.id until channels

abbrev pub without_first : FlyingState → ℕ → FlyingState
without_first f place = record { flight = f.flight; tries = remove f.tries place }
