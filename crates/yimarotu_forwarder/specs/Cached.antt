-- Replies that are kept.
use Rattle.std.specs.Prelude.{ℕ, ◌-◌, ◌/◌, nat_le, Option, None, Some, if◌then◌else◌}
use Rattle.stored_replies.specs.Stored.{StoredValue}

-- A reply; the last second before the last tenth of the time for which it is told, as it ages; the last second of that
-- time; and how many replies of servers made it, at the most.
pub record CachedValue : Type 0 where
  pub reply : StoredValue
  pub fresh_until : ℕ
  pub told_until : ℕ
  pub replies : ℕ

-- that time is not over
abbrev pub if_told : ℕ → CachedValue → Option CachedValue
if_told now cached = if nat_le now cached.told_until then Some cached else None

-- Up to then it is fresh that is kept from one second up to another. What is kept for less than ten seconds is fresh to
-- its end.
abbrev pub fresh_until : ℕ → ℕ → ℕ
fresh_until now deadline = deadline - (deadline - now) / 10
