-- What a session that asks by itself knows.
use Rattle.std.specs.Prelude.{◌≡◌, ◌-◌, ℕ, true, false, length, Option, None, Some, MatchOption}
use Rattle.std.specs.Option.{is_some, unwrap_or}
use Rattle.hickory_resolver_traffic.specs.Tasks.{next_deadline}
use Rattle.yimarotu_c.specs.Statuses.{number_of}
use Rattle.yimarotu_c.specs.declared.knowing.YimarotuStatisticsTold.{YimarotuStatisticsTold}
use Rattle.yimarotu_c.specs.declared.knowing.YimarotuWaits.{YimarotuWaits}
use Rattle.yimarotu_c.specs.declared.status.Status.{Status}
use Rattle.yimarotu_c.specs.declared.status.Status.TheVariants as status
use Rattle.yimarotu_embedded.specs.Driven.{DrivenValue, octets_held}
use Rattle.yimarotu_embedded.specs.declared.held.Held.{Held}
use Rattle.yimarotu_embedded.specs.declared.held.Held.TheVariants.{Fed, Driven}

-- a call that tells what a session knows, and changes nothing
abbrev pub AsksHeld : {A : Type 0} → (Held → A → Type 0) → A → Option Held → A → Option Held → Type 0
AsksHeld Tells closed session ended left =
    (left ≡ session) × MatchOption session (ended ≡ closed) (λ held. Tells held ended)

abbrev pub no_wait : Status → YimarotuWaits
no_wait s = record { status = number_of s; has_deadline = false; milliseconds = 0 }

-- from a moment up to a deadline; nothing where that is over
abbrev pub wait_of : Option ℕ → ℕ → YimarotuWaits
wait_of None moment = no_wait status.Ok
wait_of (Some deadline) moment =
    record { status = number_of status.Ok; has_deadline = true; milliseconds = deadline - moment }

abbrev pub IsWait : ℕ → Held → YimarotuWaits → Type 0
IsWait moment (Fed s) ended = ended ≡ no_wait status.IsFed
IsWait moment (Driven d) ended = ended ≡ wait_of (next_deadline d.session.pool.traffic) moment

abbrev pub no_statistics : Status → YimarotuStatisticsTold
no_statistics s = record {
  status = number_of s;
  is_bounded = false;
  started = 0;
  done_at_once = 0;
  sent = 0;
  timed_out = 0;
  entries = 0;
  octets = 0;
}

abbrev pub statistics_of : DrivenValue → YimarotuStatisticsTold
statistics_of d = record {
  status = number_of status.Ok;
  is_bounded = is_some (octets_held d.session.resolver.client.cache);
  started = d.counts.started;
  done_at_once = d.counts.done_at_once;
  sent = d.counts.sent;
  timed_out = d.counts.timed_out;
  entries = length d.session.resolver.client.cache.entries;
  octets = unwrap_or (octets_held d.session.resolver.client.cache) 0;
}

abbrev pub AreStatistics : Held → YimarotuStatisticsTold → Type 0
AreStatistics (Fed s) ended = ended ≡ no_statistics status.IsFed
AreStatistics (Driven d) ended = ended ≡ statistics_of d
