-- What holds after every list of events of the channels.
use Rattle.std.specs.Prelude.{ℕ, ◌≤◌, ◌<◌, List, length}
use Rattle.std.specs.List.{AllByRecursion, fold}
use Rattle.hickory_resolver_channels.specs.Channels.{ChannelsState, no_channels, opened, opened_for, joined, left, closed, most_on}
use Rattle.hickory_resolver_channels.specs.declared.channel.Channel.{Channel}
use Rattle.hickory_resolver_channels.specs.declared.channel.ChannelKind.{ChannelKind}
use Rattle.hickory_resolver_channels.specs.declared.channel.ChannelLimits.{ChannelLimits}

pub data ChannelEvent : Type 0 where
  opens : ℕ → ChannelKind → ChannelEvent
  opens_for : ℕ → ChannelKind → ℕ → ℕ → ChannelEvent
  joins : ℕ → ℕ → ℕ → ChannelEvent
  leaves : ℕ → ℕ → ℕ → ChannelEvent
  closes : ℕ → ChannelEvent

abbrev pub after_event : ChannelsState → ChannelEvent → ChannelsState
after_event s (opens server kind) = opened server kind s
after_event s (opens_for server kind id transaction) = opened_for server kind id transaction s
after_event s (joins number id transaction) = joined number id transaction s
after_event s (leaves number id until) = left number id until s
after_event s (closes number) = closed number s

abbrev pub after_events : ChannelsState → List ChannelEvent → ChannelsState
after_events s events = fold after_event s events

-- no more tries than may be on it
abbrev pub HasFewTries : ChannelLimits → ℕ × Channel → Type 0
HasFewTries limits p = p.1.tries ≤ most_on limits p.1.kind

-- its number was given: the next one is greater
abbrev pub HasOldNumber : ℕ → ℕ × Channel → Type 0
HasOldNumber next p = p.0 < next

pub record IsWithinLimits (limits : ChannelLimits) (s : ChannelsState) : Type 0 where
  pub count : length s.channels ≤ limits.channels
  pub tries : AllByRecursion (HasFewTries limits) s.channels
  pub numbers : AllByRecursion (HasOldNumber s.next) s.channels

-- One try at most is on a datagram channel, and on a stream as many as the limits say and at least one; there are no
-- more channels than they say; and the number of the next channel is greater than that of each before.
abbrev pub StaysWithinLimits : Type 0
StaysWithinLimits =
    (limits : ChannelLimits) (events : List ChannelEvent)
    → IsWithinLimits limits (after_events (no_channels limits) events)
