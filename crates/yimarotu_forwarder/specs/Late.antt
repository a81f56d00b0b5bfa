-- Look-ups that are late: those who wait are told what is kept past its end (RFC 8767, section 5).
use Rattle.std.specs.Prelude.{◌≡◌, true, false, ℕ, ◌+◌, ◌&&◌, Bool, nat_le, nat_lt, List, [], ◌∷◌, ◌++◌, drop, length, Option, None, Some, MatchOption, slice_get, if◌then◌else◌}
use Rattle.std.specs.Option.{is_some, option_and_then, option_map, option_map_or}
use Rattle.hickory_resolver_traffic.specs.Tasks.{next_deadline}
use Rattle.client_requests.specs.Keys.{key_of}
use Rattle.client_requests.specs.Requests.{RequestValue}
use Rattle.client_requests.specs.declared.fetch_end.FetchEnd.TheVariants.{Failure}
use Rattle.failure_replies.specs.declared.failure.FailureReason.TheVariants.{NoReachableAuthority}
use Rattle.stored_replies.specs.Stored.{saturated}
use Rattle.whole_replies.specs.Kept.{lesser}
use Rattle.yimarotu_forwarder.specs.Fetches.{FetchValue, HoldsFetch, fetch_at}
use Rattle.yimarotu_forwarder.specs.Forwarders.{ForwarderValue, ReplyingValue, second_of}
use Rattle.yimarotu_forwarder.specs.Stale.{stale_hit, stale_in}
use Rattle.yimarotu_forwarder.specs.declared.choices.TheConstants.{LATE}

-- ---- when

-- something is kept past its end
abbrev pub has_stale : List ℕ → ForwarderValue → Bool
has_stale key s = is_some (stale_in s.cache key s.options (second_of s))

abbrev pub late_at : ℕ → ℕ
late_at began = saturated (began + LATE)

-- A look-up begins: the moment is noted at which it is late where something is kept past its end, and no more are noted
-- than clients may wait. (The moment of a look-up that ended earlier stands there, too.)
abbrev pub is_noted_late : List ℕ → ForwarderValue → Bool
is_noted_late key s = has_stale key s && nat_lt (length s.late) s.options.limits.all

abbrev pub late_after : List ℕ → ForwarderValue → List (ℕ × List ℕ)
late_after key s =
    if is_noted_late key s then s.late ++ (late_at s.clock, key) ∷ [] else s.late

abbrev pub is_late : FetchValue → ℕ → Bool
is_late f now = nat_le (late_at f.began) now

abbrev pub first_moment : List (ℕ × List ℕ) → Option ℕ
first_moment late = option_map (λ l. l.0) (slice_get late 0)

-- the earliest moment at which time ends something, or a look-up is late
abbrev pub deadline_of : ForwarderValue → Option ℕ
deadline_of s = lesser (next_deadline s.pool.traffic) (first_moment s.late)

-- ---- who comes later

-- It is told at once what is kept past its end.
abbrev pub late_hit : FetchValue → RequestValue → ForwarderValue → Option (List ℕ)
late_hit f r s = if is_late f s.clock then stale_hit r (key_of r) s else None

-- ---- who waits

-- the key of the first look-up whose moment has come
abbrev pub if_due : ℕ → ℕ × List ℕ → Option (List ℕ)
if_due now l = if nat_le l.0 now then Some l.1 else None

abbrev pub first_due : ForwarderValue → Option (List ℕ)
first_due s = option_and_then (if_due s.clock) (slice_get s.late 0)

abbrev pub passed_over : ForwarderValue → ForwarderValue
passed_over s = record s { late = drop 1 s.late }

-- The look-up still goes on: another of the same key may have begun since.
abbrev pub is_told_late : List ℕ → ForwarderValue → Bool
is_told_late key s = option_map_or (λ f. is_late f s.clock) (fetch_at key s.fetches) false && has_stale key s

abbrev pub with_nobody : FetchValue → FetchValue
with_nobody f = record f { waiting = [] }

-- told as those are whose look-up failed
abbrev pub late_replying : List ℕ → FetchValue → ReplyingValue
late_replying key f = record {
  key = key;
  end = Failure NoReachableAuthority;
  replies = 0;
  generation = f.generation;
  waiting = f.waiting;
}

-- Those who wait are told from then on, and the look-up goes on with nobody waiting.
pub record TellsWaiting (key : List ℕ) (before after : ForwarderValue) (f : FetchValue) : Type 0 where
  pub holds : HoldsFetch key (with_nobody f) before.fetches after.fetches
  pub others_are : after ≡ record before { fetches = after.fetches; replying = Some (late_replying key f) }

abbrev pub TellsWaitingOf : List ℕ → ForwarderValue → ForwarderValue → Type 0
TellsWaitingOf key before after =
    MatchOption (fetch_at key before.fetches) (after ≡ before) (TellsWaiting key before after)

abbrev pub TellsLateIf : Bool → List ℕ → ForwarderValue → ForwarderValue → Type 0
TellsLateIf false key before after = after ≡ before
TellsLateIf true key before after = TellsWaitingOf key before after

abbrev pub TellsLate : ForwarderValue → ForwarderValue → List ℕ → Type 0
TellsLate before after key = TellsLateIf (is_told_late key before) key (passed_over before) after
