-- How many queries came, and what became of them.
use Rattle.std.specs.Prelude.{ℕ, ◌+◌}
use Rattle.stored_replies.specs.Stored.{saturated}
use Rattle.yimarotu_forwarder.specs.declared.answered.Answered.{Answered}
use Rattle.yimarotu_forwarder.specs.declared.answered.Answered.TheVariants as answered
use Rattle.yimarotu_forwarder.specs.declared.answered.Outcome.{Outcome}
use Rattle.yimarotu_forwarder.specs.declared.answered.Outcome.TheVariants as outcome
use Rattle.yimarotu_forwarder.specs.declared.counting.ForwarderCounts.{ForwarderCounts}

-- what a program is told became of a query
abbrev pub answered_as : Outcome → Answered
answered_as outcome.FromCache = answered.Replied
answered_as outcome.Local = answered.Replied
answered_as outcome.Fails = answered.Replied
answered_as outcome.Refused = answered.Replied
answered_as outcome.Waits = answered.Waits
answered_as outcome.Dropped = answered.Dropped

abbrev pub no_counts : ForwarderCounts
no_counts = record {
  queries = 0;
  from_cache = 0;
  local = 0;
  failures_told = 0;
  refused = 0;
  dropped = 0;
  waited = 0;
  prefetched = 0;
}

-- the greatest number of 64 bits stays
abbrev pub one_more : ℕ → ℕ
one_more count = saturated (count + 1)

-- what became of a query
abbrev pub with_outcome : Outcome → ForwarderCounts → ForwarderCounts
with_outcome outcome.FromCache c = record c { from_cache = one_more c.from_cache }
with_outcome outcome.Local c = record c { local = one_more c.local }
with_outcome outcome.Fails c = record c { failures_told = one_more c.failures_told }
with_outcome outcome.Refused c = record c { refused = one_more c.refused }
with_outcome outcome.Waits c = record c { waited = one_more c.waited }
with_outcome outcome.Dropped c = record c { dropped = one_more c.dropped }

-- one more query came, and this became of it
abbrev pub counted : Outcome → ForwarderCounts → ForwarderCounts
counted became c = with_outcome became (record c { queries = one_more c.queries })
