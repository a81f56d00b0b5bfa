-- A caching forwarder: what it holds, and what time does with it.
use Rattle.std.specs.Prelude.{ℕ, ◌+◌, ◌/◌, ◌%◌, ◌^◌, max, Bool, false, nat_le, List, [], Option, None, Some}
use Rattle.std.specs.Option.{option_map_or}
use Rattle.hickory_resolver_pool.specs.Over.{OverValue}
use Rattle.hickory_resolver_pool.specs.Pool.{PoolState, after_failure, after_tick}
use Rattle.hickory_resolver_traffic.specs.declared.inbox.ChannelFailure.{ChannelFailure}
use Rattle.hickory_resolver_traffic.specs.declared.inbox.Failure.{Failure}
use Rattle.hickory_resolver_traffic.specs.declared.inbox.Failure.TheVariants.{Local}
use Rattle.client_limits.specs.Counts.{CountsValue, nobody}
use Rattle.client_requests.specs.Requests.{RequestValue}
use Rattle.client_requests.specs.declared.fetch_end.FetchEnd.{FetchEnd}
use Rattle.failure_replies.specs.declared.failure.FailureReason.{FailureReason}
use Rattle.kept_failures.specs.declared.failure.KeptFailure.{KeptFailure}
use Rattle.second_chance_cache.specs.SecondChance.{CacheValue, no_entries}
use Rattle.second_chance_cache.specs.declared.bounds.CacheBounds.{CacheBounds}
use Rattle.stored_replies.specs.Stored.{StoredValue}
use Rattle.yimarotu_forwarder.specs.Cached.{CachedValue}
use Rattle.yimarotu_forwarder.specs.Counting.{no_counts}
use Rattle.yimarotu_forwarder.specs.declared.counting.ForwarderCounts.{ForwarderCounts}
use Rattle.yimarotu_forwarder.specs.Fetches.{FetchesValue, no_fetches}
use Rattle.yimarotu_forwarder.specs.Options.{OptionsValue}
use Rattle.yimarotu_forwarder.specs.Local.{LocalValue}

-- a transaction of the pool that is over, and how many of its askers were told
pub record TellingValue : Type 0 where
  pub over : OverValue
  pub told : ℕ

-- What a look-up came to: its key, what it was, how many replies of servers made that, at the most, the generation under
-- which it began, and who is still to be told.
pub record ReplyingValue : Type 0 where
  pub key : List ℕ
  pub end : FetchEnd
  pub replies : ℕ
  pub generation : ℕ
  pub waiting : List RequestValue

-- The end of a chain, which is to be kept under its own question: its key, the reply, and the generation under which the
-- look-up began that it ended.
pub record ChainEndValue : Type 0 where
  pub key : List ℕ
  pub reply : StoredValue
  pub generation : ℕ

-- Options, local data and the servers; what is kept; how many wait, what became of how many queries, and what is looked
-- up; what is told to askers, and replied to clients; the end of a chain that is to be kept; the key of what is to be
-- looked up anew; the moments at which look-ups are late, with their keys, in this order; how often local data changed;
-- the latest moment at which a channel could not be opened here, and that which was told last (milliseconds); and the
-- octets of the reply that was written last.
pub record ForwarderValue : Type 0 where
  pub options : OptionsValue
  pub local : LocalValue
  pub pool : PoolState
  pub cache : CacheValue CachedValue
  pub failures : CacheValue (KeptFailure FailureReason)
  pub counts : CountsValue
  pub counted : ForwarderCounts
  pub fetches : FetchesValue
  pub telling : Option TellingValue
  pub replying : Option ReplyingValue
  pub chain_end : Option ChainEndValue
  pub prefetch : Option (List ℕ)
  pub late : List (ℕ × List ℕ)
  pub generation : ℕ
  pub stalled : Option ℕ
  pub clock : ℕ
  pub reply : List ℕ

abbrev pub second_of : ForwarderValue → ℕ
second_of s = s.clock / 1000

-- time passed up to this moment
abbrev pub at_moment : ℕ → ForwarderValue → ForwarderValue
at_moment now s = record s { clock = max s.clock now; pool = after_tick now s.pool }

abbrev pub with_pool : PoolState → ForwarderValue → ForwarderValue
with_pool pool s = record s { pool = pool }

-- an event of a channel came at this moment
abbrev pub moment_passes : ℕ → ForwarderValue → ForwarderValue
moment_passes now s = record s { clock = max s.clock now }

-- This machine has no descriptor or port left where a channel fails so.
abbrev pub stalled_after : Failure → ℕ → ForwarderValue → Option ℕ
stalled_after Local now s = Some (max s.clock now)
stalled_after other now s = s.stalled

-- a channel failed at this moment
abbrev pub channel_failed : ChannelFailure → ℕ → ForwarderValue → ForwarderValue
channel_failed failure now s =
    moment_passes now (record (with_pool (after_failure failure now s.pool) s) {
      stalled = stalled_after failure.why now s;
    })

-- that happened since a moment
abbrev pub is_since : ℕ → Option ℕ → Bool
is_since moment stalled = option_map_or (nat_le moment) stalled false

-- what is kept is let go
abbrev pub cleared : ForwarderValue → ForwarderValue
cleared s = record s { cache = no_entries s.cache.bounds; failures = no_entries s.failures.bounds }

abbrev pub next_generation : ℕ → ℕ
next_generation n = (n + 1) % 2 ^ 64

-- other local data, and the next generation of it
abbrev pub with_local : LocalValue → ForwarderValue → ForwarderValue
with_local local s = record (cleared s) { local = local; generation = next_generation s.generation }

-- nothing is kept, nobody waits, and no group has servers
abbrev pub new_forwarder : OptionsValue → LocalValue → CacheBounds → CacheBounds → PoolState → ForwarderValue
new_forwarder options local cache failures pool = record {
  options = options;
  local = local;
  pool = pool;
  cache = no_entries cache;
  failures = no_entries failures;
  counts = nobody;
  counted = no_counts;
  fetches = no_fetches;
  telling = None;
  replying = None;
  chain_end = None;
  prefetch = None;
  late = [];
  generation = 0;
  stalled = None;
  clock = 0;
  reply = [];
}
