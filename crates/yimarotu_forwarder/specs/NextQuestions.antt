-- What is kept of a question that a reply led to.
use Rattle.std.specs.Prelude.{ℕ, ◌+◌, ◌-◌, ◌^◌, min, Bool, not, ◌&&◌, List, ◌++◌, nat_le, Option, None, Some, if◌then◌else◌}
use Rattle.std.specs.Option.{option_and_then, option_map, option_map_or}
use Rattle.hickory_proto_codes.specs.Codes.{class_code, type_code}
use Rattle.hickory_proto_core.specs.Name.{wire_form}
use Rattle.hickory_proto_core.specs.declared.query.Query.{Query}
use Rattle.hickory_proto_wire.specs.Writing.{u16_octets}
use Rattle.client_requests.specs.Keys.{key_for}
use Rattle.second_chance_cache.specs.SecondChance.{Entry, asked, told}
use Rattle.stored_replies.specs.Key.{is_same_question}
use Rattle.stored_replies.specs.Stored.{read_at, weight_of}
use Rattle.stored_replies.specs.Told.{own_question}
use Rattle.whole_lookups.specs.declared.choices.TheConstants.{MOST_QUESTIONS}
use Rattle.whole_replies.specs.Kept.{KeptValue}
use Rattle.yimarotu_forwarder.specs.Cached.{CachedValue, if_told}
use Rattle.yimarotu_forwarder.specs.Fetches.{FetchValue}
use Rattle.yimarotu_forwarder.specs.Forwarders.{ForwarderValue, second_of}
use Rattle.yimarotu_forwarder.specs.Options.{OptionsValue, is_exempt}
use Rattle.yimarotu_forwarder.specs.declared.choices.TheConstants.{HEAVIEST_END}

-- the octets of a question, its name spelled out (RFC 1035, section 4.1.2)
abbrev pub asked_octets : Query → List ℕ
asked_octets q =
    wire_form q.name.labels ++ (u16_octets (type_code q.query_type) ++ u16_octets (class_code q.query_class))

-- the key of the question that a fetch has to ask
abbrev pub next_key : FetchValue → Option (List ℕ)
next_key f = key_for (asked_octets f.lookup.next) f.lookup.dnssec f.checking_disabled

-- what is kept under it, up to its end
abbrev pub kept_under : ForwarderValue → List ℕ → Option CachedValue
kept_under s key = option_and_then (if_told (second_of s)) (told key (second_of s) s.cache.entries)

-- a reply to a question for one name may have the addresses that one for the other may
abbrev pub are_denied_alike : FetchValue → OptionsValue → Bool
are_denied_alike f o =
    if is_exempt f.lookup.asked.name o then is_exempt f.lookup.next.name o
    else not (is_exempt f.lookup.next.name o)

-- It is not in the last tenth of its time, so that what is looked up anew before its end is anew, and it takes little
-- memory.
abbrev pub is_fresh_and_light : ForwarderValue → CachedValue → Bool
is_fresh_and_light s cached =
    nat_le (second_of s) cached.fresh_until && nat_le (weight_of cached.reply) HEAVIEST_END

-- It is put behind what came where it answers that question, where few replies of servers made both, where no other
-- addresses are denied for the name that was asked, and where it is fresh and light.
abbrev pub may_end : FetchValue → ForwarderValue → CachedValue → Bool
may_end f s cached =
    is_same_question (asked_octets f.lookup.next) (own_question cached.reply)
    && nat_le (f.lookup.count + cached.replies) (MOST_QUESTIONS + 1)
    && (are_denied_alike f s.options && is_fresh_and_light s cached)

abbrev pub if_may_end : FetchValue → ForwarderValue → CachedValue → Option CachedValue
if_may_end f s cached = if may_end f s cached then Some cached else None

abbrev pub found_end : FetchValue → ForwarderValue → Option CachedValue
found_end f s = option_and_then (if_may_end f s) (option_and_then (kept_under s) (next_key f))

-- as it has aged, where it can be read again, and how many replies of servers made it
abbrev pub as_end : ForwarderValue → CachedValue → Option (KeptValue × ℕ)
as_end s cached =
    option_map {U = KeptValue × ℕ} (λ kept. (kept, cached.replies)) (read_at (second_of s) cached.reply)

abbrev pub kept_end : FetchValue → ForwarderValue → Option (KeptValue × ℕ)
kept_end f s = option_and_then (as_end s) (found_end f s)

-- It counts as asked for again: so entries are once this key, where there is one, is asked for.
abbrev pub asked_where : Option (List ℕ) → ℕ → List (Entry CachedValue) → List (Entry CachedValue)
asked_where key now es = option_map_or (λ k. asked k now es) key es

abbrev pub with_asked_where : Option (List ℕ) → ForwarderValue → ForwarderValue
with_asked_where key s =
    record s { cache = record s.cache { entries = asked_where key (second_of s) s.cache.entries } }

-- a fetch whose question is answered here, by what so many replies made
abbrev pub ended_by : ℕ → FetchValue → FetchValue
ended_by replies f = record f { lookup = record f.lookup { count = min (f.lookup.count - 1 + replies) (2 ^ 32 - 1) } }
