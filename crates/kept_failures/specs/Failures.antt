-- Failures that are kept, and for how long they are told again (RFC 9520, section 3.2).
use Rattle.std.specs.Prelude.{ℕ, ◌+◌, ◌-◌, ◌*◌, ◌^◌, List, length, min, nat_le, Option, None, Some, if◌then◌else◌}
use Rattle.std.specs.Option.{option_and_then}
use Rattle.second_chance_cache.specs.SecondChance.{CacheValue, stored, told}
use Rattle.kept_failures.specs.declared.choices.TheConstants.{FIRST_SECONDS, MOST_SECONDS, REMEMBERED_SECONDS, FAILURE}
use Rattle.kept_failures.specs.declared.failure.KeptFailure.{KeptFailure}

abbrev pub FailuresValue : Type 0 → Type 0
FailuresValue R = CacheValue (KeptFailure R)

-- the greatest number of 64 bits, where it is more
abbrev pub saturated : ℕ → ℕ
saturated n = min n (2 ^ 64 - 1)

-- how many octets of memory a failure under this key takes
abbrev pub weight_of : List ℕ → ℕ
weight_of key = saturated (FAILURE + length key)

module _ {R : Type 0} where
  -- ---- one failure

  -- it is told for so many seconds from this one on, the last one too
  abbrev pub failure_from : R → ℕ → ℕ → KeptFailure R
  failure_from reason seconds now = record {
    reason = reason;
    seconds = seconds;
    until = saturated (now + seconds);
  }

  abbrev pub reason_at : ℕ → KeptFailure R → Option R
  reason_at now f = if nat_le now f.until then Some f.reason else None

  -- Each further failure is told for twice as long.
  abbrev pub seconds_behind : KeptFailure R → ℕ
  seconds_behind last = min (2 * last.seconds) MOST_SECONDS

  abbrev pub seconds_after : Option (KeptFailure R) → ℕ
  seconds_after None = FIRST_SECONDS
  seconds_after (Some last) = seconds_behind last

  -- the last second at which it is remembered
  abbrev pub remembered_until : KeptFailure R → ℕ
  remembered_until f = saturated (f.until + REMEMBERED_SECONDS)

  -- ---- all of them

  -- the reason that is told for a key at a second
  abbrev pub failure_at : List ℕ → ℕ → FailuresValue R → Option R
  failure_at key now c = option_and_then (reason_at now) (told key now c.entries)

  -- a failure at a second, behind the one that is remembered then
  abbrev pub failure_behind : Option (KeptFailure R) → R → ℕ → KeptFailure R
  failure_behind last reason now = failure_from reason (seconds_after last) now

  abbrev pub kept_with : List ℕ → KeptFailure R → ℕ → FailuresValue R → FailuresValue R
  kept_with key f now c = stored key f (weight_of key) (remembered_until f) now c

  -- once something failed at a second
  abbrev pub noted : List ℕ → R → ℕ → FailuresValue R → FailuresValue R
  noted key reason now c = kept_with key (failure_behind (told key now c.entries) reason now) now c
