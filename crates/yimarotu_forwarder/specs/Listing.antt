-- What is kept, one reply after another.
use Rattle.std.specs.Prelude.{ℕ, ◌-◌, List, Option, slice_get}
use Rattle.std.specs.Option.{option_map}
use Rattle.hickory_proto_codes.specs.Codes.{response_code}
use Rattle.second_chance_cache.specs.SecondChance.{Entry, behind}
use Rattle.yimarotu_forwarder.specs.Cached.{CachedValue}
use Rattle.yimarotu_forwarder.specs.Forwarders.{ForwarderValue, second_of}

-- its key, the response code, for how many seconds it is told, as it ages, and what it weighs
pub record ListedValue : Type 0 where
  pub key : List ℕ
  pub code : ℕ
  pub seconds : ℕ
  pub weight : ℕ

abbrev pub listed : ℕ → Entry CachedValue → ListedValue
listed now e = record {
  key = e.key;
  code = response_code e.value.reply.kept.code;
  seconds = e.value.told_until - now;
  weight = e.weight;
}

abbrev pub first_listed : ForwarderValue → Option ListedValue
first_listed s = option_map (listed (second_of s)) (slice_get s.cache.entries 0)

-- the one behind that of a key
abbrev pub listed_behind : List ℕ → ForwarderValue → Option ListedValue
listed_behind key s = option_map (listed (second_of s)) (slice_get (behind key s.cache.entries) 0)
