-- Replies that are told past their end, where servers fail (RFC 8767).
use Rattle.std.specs.Prelude.{ℕ, ◌+◌, ◌-◌, ◌&&◌, List, Option, None, Some, nat_le, nat_lt, unwrap_or, if◌then◌else◌}
use Rattle.std.specs.Option.{option_and_then}
use Rattle.client_requests.specs.Replies.{failure_reply, reply_to, stale_reply}
use Rattle.client_requests.specs.Requests.{RequestValue}
use Rattle.client_requests.specs.declared.fetch_end.FetchEnd.{FetchEnd}
use Rattle.client_requests.specs.declared.fetch_end.FetchEnd.TheVariants.{Reply, Failure}
use Rattle.second_chance_cache.specs.SecondChance.{CacheValue, told}
use Rattle.stored_replies.specs.Stored.{StoredValue, saturated}
use Rattle.yimarotu_forwarder.specs.Cached.{CachedValue}
use Rattle.yimarotu_forwarder.specs.Forwarders.{ForwarderValue, second_of}
use Rattle.yimarotu_forwarder.specs.Options.{OptionsValue, stale_seconds}

-- The last second at which a reply is kept that is told, as it ages, up to a second.
abbrev pub kept_until : OptionsValue → ℕ → ℕ
kept_until o told_until = saturated (told_until + stale_seconds o)

-- past its end, and by no more seconds than that
abbrev pub if_stale : OptionsValue → ℕ → CachedValue → Option StoredValue
if_stale o now cached =
    if nat_lt cached.told_until now && nat_le (now - cached.told_until) (stale_seconds o) then Some cached.reply
    else None

-- what is kept under a key past its end
abbrev pub stale_in : CacheValue CachedValue → List ℕ → OptionsValue → ℕ → Option StoredValue
stale_in cache key o now = option_and_then (if_stale o now) (told key now cache.entries)

module _ (cache : CacheValue CachedValue) (r : RequestValue) (key : List ℕ) (o : OptionsValue) (now : ℕ) where
  -- what a request is told of it
  abbrev pub stale_hit_in : Option (List ℕ)
  stale_hit_in = option_and_then (stale_reply r) (stale_in cache key o now)

  -- What a request is told of a look-up of the key: the reply; or where there is none what is kept past its end, and
  -- else that it failed.
  abbrev pub told_end_in : FetchEnd → List ℕ
  told_end_in (Reply s) = reply_to r (Reply s) o.trusts_authentic_data now
  told_end_in (Failure why) = unwrap_or stale_hit_in (failure_reply r why)

module _ (r : RequestValue) (key : List ℕ) where
  abbrev pub stale_hit : ForwarderValue → Option (List ℕ)
  stale_hit s = stale_hit_in s.cache r key s.options (second_of s)

  abbrev pub told_end : FetchEnd → ForwarderValue → List ℕ
  told_end end s = told_end_in s.cache r key s.options (second_of s) end
