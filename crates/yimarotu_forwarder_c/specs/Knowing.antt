-- What a forwarder knows.
use Rattle.std.specs.Prelude.{◌≡◌, ◌-◌, ℕ, true, false, length, Option, None, Some}
use Rattle.yimarotu_forwarder.specs.Late.{deadline_of}
use Rattle.second_chance_cache.specs.SecondChance.{all_weight}
use Rattle.yimarotu_driven_forwarder.specs.Driven.{DrivenValue}
use Rattle.yimarotu_forwarder_c.specs.Statuses.{number_of}
use Rattle.yimarotu_forwarder_c.specs.declared.knowing.YimarotuForwarderCounts.{YimarotuForwarderCounts}
use Rattle.yimarotu_forwarder_c.specs.declared.knowing.YimarotuWaits.{YimarotuWaits}
use Rattle.yimarotu_forwarder_c.specs.declared.status.Status.{Status}
use Rattle.yimarotu_forwarder_c.specs.declared.status.Status.TheVariants as status

abbrev pub no_wait : Status → YimarotuWaits
no_wait s = record { status = number_of s; has_deadline = false; milliseconds = 0 }

-- from a moment up to a deadline; nothing where that is over
abbrev pub wait_of : Option ℕ → ℕ → YimarotuWaits
wait_of None moment = no_wait status.Ok
wait_of (Some deadline) moment =
    record { status = number_of status.Ok; has_deadline = true; milliseconds = deadline - moment }

abbrev pub IsWait : ℕ → DrivenValue → YimarotuWaits → Type 0
IsWait moment d ended = ended ≡ wait_of (deadline_of d.forwarder) moment

abbrev pub no_counts : Status → YimarotuForwarderCounts
no_counts s = record {
  status = number_of s;
  queries = 0;
  from_cache = 0;
  local = 0;
  failures_told = 0;
  refused = 0;
  dropped = 0;
  waited = 0;
  prefetched = 0;
  sent = 0;
  waiting = 0;
  entries = 0;
  octets = 0;
}

abbrev pub counts_of : DrivenValue → YimarotuForwarderCounts
counts_of d = record {
  status = number_of status.Ok;
  queries = d.forwarder.counted.queries;
  from_cache = d.forwarder.counted.from_cache;
  local = d.forwarder.counted.local;
  failures_told = d.forwarder.counted.failures_told;
  refused = d.forwarder.counted.refused;
  dropped = d.forwarder.counted.dropped;
  waited = d.forwarder.counted.waited;
  prefetched = d.forwarder.counted.prefetched;
  sent = d.sent;
  waiting = d.forwarder.counts.all;
  entries = length d.forwarder.cache.entries;
  octets = all_weight d.forwarder.cache.entries;
}

abbrev pub AreCounts : DrivenValue → YimarotuForwarderCounts → Type 0
AreCounts d ended = ended ≡ counts_of d
