-- What came and was not read yet: messages, and channels that failed, each in the order in which they came; the octets
-- of each stream behind the last message that was cut off, and the streams of which more came since.
use Rattle.std.specs.Prelude.{ℕ, Bool, ◌&&◌, List, [], ◌∷◌, ◌++◌, drop, slice_get, Option}
use Rattle.std.specs.Ordering.{nat_cmp}
use Rattle.std.specs.Option.{is_none, option_map_or, option_and_then}
use Rattle.std.specs.Map.{lookup, remove_entry, set_value}
use Rattle.std.specs.BTreeMap.{insert_entry, is_at}
use Rattle.hickory_resolver_tries.specs.Stream.{first_of}
use Rattle.hickory_resolver_traffic.specs.declared.inbox.ChannelFailure.{ChannelFailure}

-- a message that came on a channel
pub record MessageValue : Type 0 where
  pub channel : ℕ
  pub octets : List ℕ

pub record InboxState : Type 0 where
  pub messages : List MessageValue
  pub failures : List ChannelFailure
  pub streams : List (ℕ × List ℕ)
  pub unread : List ℕ

abbrev pub empty_inbox : InboxState
empty_inbox = record { messages = []; failures = []; streams = []; unread = [] }

-- ---- messages

abbrev pub message_on : ℕ → List ℕ → MessageValue
message_on channel octets = record { channel = channel; octets = octets }

abbrev pub with_message : ℕ → List ℕ → InboxState → InboxState
with_message channel octets s = record s { messages = s.messages ++ message_on channel octets ∷ [] }

abbrev pub first_message : InboxState → Option MessageValue
first_message s = slice_get s.messages 0

abbrev pub without_message : InboxState → InboxState
without_message s = record s { messages = drop 1 s.messages }

-- ---- channels that failed

abbrev pub with_failure : ChannelFailure → InboxState → InboxState
with_failure f s = record s { failures = s.failures ++ f ∷ [] }

abbrev pub first_failure : InboxState → Option ChannelFailure
first_failure s = slice_get s.failures 0

abbrev pub without_failure : InboxState → InboxState
without_failure s = record s { failures = drop 1 s.failures }

-- ---- streams

abbrev pub octets_in : ℕ → List (ℕ × List ℕ) → Option (List ℕ)
octets_in channel streams = lookup (is_at (nat_cmp channel)) streams

-- more of a stream came
abbrev pub with_octets : ℕ → List ℕ → List (ℕ × List ℕ) → List (ℕ × List ℕ)
with_octets channel octets streams =
    option_map_or (λ held. set_value (is_at (nat_cmp channel)) streams (held ++ octets))
    (octets_in channel streams) (insert_entry nat_cmp streams channel octets)

abbrev pub with_piece : ℕ → List ℕ → InboxState → InboxState
with_piece channel octets s = record s {
  streams = with_octets channel octets s.streams;
  unread = s.unread ++ channel ∷ [];
}

abbrev pub first_unread : InboxState → Option ℕ
first_unread s = slice_get s.unread 0

abbrev pub without_unread : InboxState → InboxState
without_unread s = record s { unread = drop 1 s.unread }

-- nothing that came is still to be read
abbrev pub is_read : InboxState → Bool
is_read s = is_none (first_failure s) && is_none (first_message s) && is_none (first_unread s)

abbrev pub without_stream : ℕ → InboxState → InboxState
without_stream channel s = record s { streams = remove_entry (is_at (nat_cmp channel)) s.streams }

-- the first message of a stream, and what is behind it, where a whole one came
abbrev pub first_on : ℕ → List (ℕ × List ℕ) → Option (List ℕ × List ℕ)
first_on channel streams = option_and_then first_of (octets_in channel streams)

-- it is cut off
abbrev pub cut_off : ℕ → InboxState → List ℕ × List ℕ → InboxState
cut_off channel s first = record s {
  messages = s.messages ++ message_on channel first.0 ∷ [];
  streams = set_value (is_at (nat_cmp channel)) s.streams first.1;
}

-- of a stream of which no whole message is left nothing is to be read
abbrev pub cut_on : ℕ → InboxState → InboxState
cut_on channel s = option_map_or (cut_off channel s) (first_on channel s.streams) (without_unread s)
