-- The channels of a pool. A datagram channel is one try's, and a stream channel a server's. Servers, channels and
-- transactions are named by numbers, and a try on a channel by the number of its message.
use Rattle.std.specs.Prelude.{ℕ, ◌+◌, ◌-◌, ◌^◌, Bool, false, not, ◌==◌, List, [], length, min, max, nat_lt, slice_get, Option, None, Some, if◌then◌else◌}
use Rattle.std.specs.declared.cmp.Ordering.{Ordering}
use Rattle.std.specs.Ordering.{nat_cmp, ordering_then}
use Rattle.std.specs.Option.{is_some, option_map, option_map_or, option_and_then}
use Rattle.std.specs.Map.{lookup, remove_entry, set_value}
use Rattle.std.specs.Set.{remove_key}
use Rattle.std.specs.BTreeMap.{insert_entry, is_at}
use Rattle.std.specs.BTreeMap.Range.{entries_between}
use Rattle.std.specs.declared.ops.Bound.TheVariants.{Included}
use Rattle.std.specs.BTreeSet.{insert_key}
use Rattle.hickory_resolver_channels.specs.declared.channel.Channel.{Channel}
use Rattle.hickory_resolver_channels.specs.declared.channel.ChannelKind.{ChannelKind}
use Rattle.hickory_resolver_channels.specs.declared.channel.ChannelKind.TheVariants.{Datagram, Stream}
use Rattle.hickory_resolver_channels.specs.declared.channel.ChannelLimits.{ChannelLimits}

-- two numbers, of which the first counts first
abbrev pub pair_cmp : ℕ × ℕ → ℕ × ℕ → Ordering
pair_cmp p q = ordering_then (nat_cmp p.0 q.0) (nat_cmp p.1 q.1)

-- The number of the next channel, which none had before; the channels that are open, by number; the tries on them, by
-- the numbers of channel and message, each with the transaction that made it; and the streams without a try, by the
-- moment up to which they are kept.
pub record ChannelsState : Type 0 where
  pub limits : ChannelLimits
  pub next : ℕ
  pub channels : List (ℕ × Channel)
  pub tries : List ((ℕ × ℕ) × ℕ)
  pub idle : List (ℕ × ℕ)

abbrev pub no_channels : ChannelLimits → ChannelsState
no_channels limits = record { limits = limits; next = 0; channels = []; tries = []; idle = [] }

-- ---- what there is

abbrev pub channel_in : ℕ → List (ℕ × Channel) → Option Channel
channel_in number channels = lookup (is_at (nat_cmp number)) channels

abbrev pub channel_at : ℕ → ChannelsState → Option Channel
channel_at number s = channel_in number s.channels

abbrev pub transaction_at : ℕ → ℕ → ChannelsState → Option ℕ
transaction_at number id s = lookup (is_at (pair_cmp (number, id))) s.tries

abbrev pub has_try : ℕ → ℕ → ChannelsState → Bool
has_try number id s = is_some (transaction_at number id s)

-- of the tries on a channel the first, by the numbers of their messages: its number, and its transaction
abbrev pub tries_on : ℕ → List ((ℕ × ℕ) × ℕ) → List ((ℕ × ℕ) × ℕ)
tries_on number tries = entries_between pair_cmp (Included (number, 0)) (Included (number, 65535)) tries

abbrev pub first_on : ℕ → List ((ℕ × ℕ) × ℕ) → Option (ℕ × ℕ)
first_on number tries = option_map (λ e. (e.0.1, e.1)) (slice_get (tries_on number tries) 0)

abbrev pub first_try : ℕ → ChannelsState → Option (ℕ × ℕ)
first_try number s = first_on number s.tries

-- the stream that is kept the shortest, after its moment
abbrev pub first_idle : ChannelsState → Option (ℕ × ℕ)
first_idle s = slice_get s.idle 0

-- ---- a channel is opened, unless there are as many as there may be

abbrev pub new_channel : ℕ → ChannelKind → Channel
new_channel server kind = record { server = server; kind = kind; tries = 0; idle_until = None }

abbrev pub has_place : ChannelsState → Bool
has_place s = nat_lt (length s.channels) s.limits.channels

abbrev pub number_given : ChannelsState → Option ℕ
number_given s = if has_place s then Some s.next else None

abbrev pub opened : ℕ → ChannelKind → ChannelsState → ChannelsState
opened server kind s =
    if has_place s then record s {
      next = s.next + 1;
      channels = insert_entry nat_cmp s.channels s.next (new_channel server kind);
    } else s

-- ---- a try is made on it

-- this one in the place of the channel of this number
abbrev pub replaced : ℕ → Channel → List (ℕ × Channel) → List (ℕ × Channel)
replaced number c channels =
    option_map_or (λ old. set_value (is_at (nat_cmp number)) channels c) (channel_in number channels) channels

-- one on a datagram channel, and at least one on a stream
abbrev pub most_on : ChannelLimits → ChannelKind → ℕ
most_on limits Datagram = 1
most_on limits Stream = max limits.tries_on_stream 1

abbrev pub takes_try : ChannelLimits → Channel → Bool
takes_try limits c = nat_lt c.tries (most_on limits c.kind)

abbrev pub with_one_more : Channel → Channel
with_one_more c = record c { tries = min (c.tries + 1) (2 ^ 64 - 1); idle_until = None }

-- a stream is not without a try any more, or is closed
abbrev pub not_idle : ℕ → Option ℕ → List (ℕ × ℕ) → List (ℕ × ℕ)
not_idle number None idle = idle
not_idle number (Some until) idle = remove_key (is_at (pair_cmp (until, number))) idle

abbrev pub if_it_takes_try : ChannelLimits → Channel → Option Channel
if_it_takes_try limits c = if takes_try limits c then Some c else None

-- the channel, where it takes one try more and has none of this number
abbrev pub joinable : ℕ → ℕ → ChannelsState → Option Channel
joinable number id s =
    if has_try number id s then None else option_and_then (if_it_takes_try s.limits) (channel_at number s)

abbrev pub joined_to : ℕ → ℕ → ℕ → ChannelsState → Channel → ChannelsState
joined_to number id transaction s c = record s {
  channels = replaced number (with_one_more c) s.channels;
  tries = insert_entry pair_cmp s.tries (number, id) transaction;
  idle = not_idle number c.idle_until s.idle;
}

abbrev pub joined : ℕ → ℕ → ℕ → ChannelsState → ChannelsState
joined number id transaction s = option_map_or (joined_to number id transaction s) (joinable number id s) s

-- ---- a channel is opened for a try, which is on it from the first

abbrev pub opened_for : ℕ → ChannelKind → ℕ → ℕ → ChannelsState → ChannelsState
opened_for server kind id transaction s =
    if has_place s then record s {
      next = s.next + 1;
      channels = insert_entry nat_cmp s.channels s.next (with_one_more (new_channel server kind));
      tries = insert_entry pair_cmp s.tries (s.next, id) transaction;
    } else s

-- ---- a try is over

abbrev pub with_one_less : Option ℕ → Channel → Channel
with_one_less until c = record c { tries = c.tries - 1; idle_until = until }

abbrev pub tries_without : ℕ → ℕ → ChannelsState → List ((ℕ × ℕ) × ℕ)
tries_without number id s = remove_entry (is_at (pair_cmp (number, id))) s.tries

-- others are on it
abbrev pub left_to_others : ℕ → ℕ → Channel → ChannelsState → ChannelsState
left_to_others number id c s = record s {
  channels = replaced number (with_one_less None c) s.channels;
  tries = tries_without number id s;
}

-- it was the last: a stream is kept up to a moment, and a datagram channel is closed
abbrev pub left_idle : ℕ → ℕ → ℕ → Channel → ChannelsState → ChannelsState
left_idle number id until c s = record s {
  channels = replaced number (with_one_less (Some until) c) s.channels;
  tries = tries_without number id s;
  idle = insert_key pair_cmp s.idle (until, number);
}

abbrev pub left_closed : ℕ → ℕ → ChannelsState → ChannelsState
left_closed number id s = record s {
  channels = remove_entry (is_at (nat_cmp number)) s.channels;
  tries = tries_without number id s;
}

abbrev pub left_last : ℕ → ℕ → ℕ → Channel → ChannelKind → ChannelsState → ChannelsState
left_last number id until c Datagram s = left_closed number id s
left_last number id until c Stream s = left_idle number id until c s

abbrev pub has_others : Channel → Bool
has_others c = nat_lt 1 c.tries

abbrev pub left_in : ℕ → ℕ → ℕ → ChannelsState → Channel → ChannelsState
left_in number id until s c =
    if has_others c then left_to_others number id c s else left_last number id until c c.kind s

-- the channel of a try
abbrev pub channel_of_try : ℕ → ℕ → ChannelsState → Option Channel
channel_of_try number id s = if has_try number id s then channel_at number s else None

abbrev pub left : ℕ → ℕ → ℕ → ChannelsState → ChannelsState
left number id until s = option_map_or (left_in number id until s) (channel_of_try number id s) s

-- whether that closes it
abbrev pub closes_last : Channel → ChannelKind → Bool
closes_last c Datagram = not (has_others c)
closes_last c Stream = false

abbrev pub closes : ℕ → ℕ → ChannelsState → Bool
closes number id s = option_map_or (λ c. closes_last c c.kind) (channel_of_try number id s) false

-- ---- a channel without a try is closed

abbrev pub if_empty : Channel → Option Channel
if_empty c = if c.tries == 0 then Some c else None

abbrev pub closable : ℕ → ChannelsState → Option Channel
closable number s = option_and_then if_empty (channel_at number s)

abbrev pub closed_one : ℕ → ChannelsState → Channel → ChannelsState
closed_one number s c = record s {
  channels = remove_entry (is_at (nat_cmp number)) s.channels;
  idle = not_idle number c.idle_until s.idle;
}

abbrev pub closed : ℕ → ChannelsState → ChannelsState
closed number s = option_map_or (closed_one number s) (closable number s) s
