-- How many wait, and how much is kept.
use Rattle.std.specs.Prelude.{◌≡◌, ℕ, ◌+◌, ◌≤◌, ◌==◌, Bool, List, length, filter}
use Rattle.std.specs.List.{AllByRecursion}
use Rattle.std.specs.declared.net.IpAddr.{IpAddr}
use Rattle.hickory_resolver_pool.specs.Pool.{PoolState}
use Rattle.client_limits.specs.Counts.{count_of}
use Rattle.client_limits.specs.Laws.{IsWithinLimits}
use Rattle.client_limits.specs.Networks.{counted_as}
use Rattle.client_limits.specs.declared.limits.ClientLimits.{ClientLimits}
use Rattle.client_requests.specs.Requests.{RequestValue}
use Rattle.second_chance_cache.specs.SecondChance.{IsCache}
use Rattle.second_chance_cache.specs.declared.bounds.CacheBounds.{CacheBounds}
use Rattle.yimarotu_forwarder.specs.Forwarders.{ForwarderValue, new_forwarder}
use Rattle.yimarotu_forwarder.specs.Local.{LocalValue}
use Rattle.yimarotu_forwarder.specs.Options.{OptionsValue}
use Rattle.yimarotu_forwarder_theorems.specs.Replies.{fetched_under, replied_in, waited_in}
use Rattle.yimarotu_forwarder_theorems.specs.Runs.{Happening, Runs, client_is_gone, happened, options_are}

-- What counts as waiting is within the limits, in all and of each network; no more wait for a look-up than may for one
-- question; and what is kept, replies and failures, is within its bounds, with one entry of a key at the most.
pub record IsWithinBounds (limits : ClientLimits) (cache failures : CacheBounds) (s : ForwarderValue) : Type 0 where
  pub clients : IsWithinLimits limits s.counts
  pub questions : (key : List ℕ) → length (fetched_under key s.fetches) ≤ limits.of_question
  pub kept_replies : IsCache s.cache
  pub replies_bounds : s.cache.bounds ≡ cache
  pub kept_failures : IsCache s.failures
  pub failures_bounds : s.failures.bounds ≡ failures

-- ---- the greatest limits that there were

-- they allow no more than these limits
pub record AllowNoMore (limits : ClientLimits) (options : OptionsValue) : Type 0 where
  pub all : options.limits.all ≤ limits.all
  pub of_address : options.limits.of_address ≤ limits.of_address
  pub of_question : options.limits.of_question ≤ limits.of_question

abbrev pub SetsNoMore : ClientLimits → Happening → Type 0
SetsNoMore limits (happened (options_are options) before after) = AllowNoMore limits options
SetsNoMore limits other = Unit {0}

-- So it is for limits that no options allowed more than, those at first and those that were set.
abbrev pub BoundsAreKept : Type 0
BoundsAreKept =
    (options : OptionsValue) (local : LocalValue) (cache failures : CacheBounds) (pool : PoolState)
    → (past : List Happening) (s : ForwarderValue) → Runs (new_forwarder options local cache failures pool) past s
    → (limits : ClientLimits) → AllowNoMore limits options → AllByRecursion (SetsNoMore limits) past
    → IsWithinBounds limits cache failures s

-- ---- how many wait

-- it came from the network of an address
abbrev pub of_network : IpAddr → RequestValue → Bool
of_network address w = counted_as w.client.address == counted_as address

abbrev pub number_of : (RequestValue → Bool) → List RequestValue → ℕ
number_of test requests = length (filter test requests)

abbrev pub NobodyGoes : Happening → Type 0
NobodyGoes (happened (client_is_gone client) before after) = ⊥
NobodyGoes other = Unit {0}

-- What is counted, and those who were replied to, are those who were told to wait: in all, and of each network.
pub record CountsWhoWait (past : List Happening) (s : ForwarderValue) : Type 0 where
  pub all : s.counts.all + length (replied_in past) ≡ length (waited_in past)
  pub each : (address : IpAddr)
      → count_of address s.counts + number_of (of_network address) (replied_in past)
      ≡ number_of (of_network address) (waited_in past)

-- Where no client is gone, it is counted how many wait.
abbrev pub WhoWaitsIsCounted : Type 0
WhoWaitsIsCounted =
    (options : OptionsValue) (local : LocalValue) (cache failures : CacheBounds) (pool : PoolState)
    → (past : List Happening) (s : ForwarderValue) → Runs (new_forwarder options local cache failures pool) past s
    → AllByRecursion NobodyGoes past → CountsWhoWait past s
