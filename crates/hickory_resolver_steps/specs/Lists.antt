-- The servers of a group. A server has a number that none had before; its place is what its number is past that of the
-- first.
use Rattle.std.specs.Prelude.{ℕ, ◌+◌, ◌-◌, ◌^◌, ◌==◌, List, map, set, min, slice_get, Option, None, Some, if◌then◌else◌}
use Rattle.std.specs.Option.{option_and_then, option_map_or}
use Rattle.hickory_resolver_servers.specs.Measures.{after_answer, after_failure, after_timeout, changed_at}
use Rattle.hickory_resolver_servers.specs.Server.{ServerState}

-- the number of the first, the servers, and the stream to each that new tries go on: the one that was opened last,
-- unless a try ran out of time on it
pub record ListState : Type 0 where
  pub first : ℕ
  pub servers : List ServerState
  pub streams : List (Option ℕ)

abbrev pub list_of : ℕ → List ServerState → ListState
list_of first servers = record {
  first = first;
  servers = servers;
  streams = map (λ server. None) servers;
}

abbrev pub number_of : ℕ → ListState → ℕ
number_of place s = min (s.first + place) (2 ^ 64 - 1)

abbrev pub place_of : ℕ → ListState → ℕ
place_of number s = number - s.first

abbrev pub the_same : Option ℕ → Option ℕ
the_same stream = stream

abbrev pub stream_of : ℕ → ListState → Option ℕ
stream_of place s = option_and_then the_same (slice_get s.streams place)

abbrev pub with_stream : ℕ → ℕ → ListState → ListState
with_stream place channel s =
    record s {
      streams = option_map_or (λ old. set s.streams place (Some channel)) (slice_get s.streams place) s.streams;
    }

-- a stream on which a try ran out of time: what is asked next goes on another one
abbrev pub unless_it_is : ℕ → ℕ → Option ℕ
unless_it_is channel latest = if latest == channel then None else Some latest

abbrev pub without : ℕ → Option ℕ → Option ℕ
without channel stream = option_and_then (unless_it_is channel) stream

abbrev pub without_stream : ℕ → ℕ → ListState → ListState
without_stream place channel s = record s {
  streams =
      option_map_or (λ latest. set s.streams place (without channel latest)) (slice_get s.streams place) s.streams;
}

-- ---- what is known of the servers

abbrev pub answered : ℕ → ℕ → ℕ → ListState → ListState
answered place sent_at now s = record s { servers = changed_at (after_answer sent_at now) place s.servers }

abbrev pub failed : ℕ → ℕ → ℕ → ℕ → ListState → ListState
failed place timeout sent_at now s =
    record s { servers = changed_at (after_failure timeout sent_at now) place s.servers }

abbrev pub timed_out : ℕ → ℕ → ℕ → ℕ → ℕ → ListState → ListState
timed_out place timeout sent_at due now s =
    record s { servers = changed_at (after_timeout timeout sent_at due now) place s.servers }
