-- Where the records that a look-up gives and stores come from: its own exchanges, and the current entries of
-- the asked type in the cache before it, whatever is known of that cache (RFC 2181, section 8).
use Rattle.std.specs.Prelude.{◌⊎◌, ◌==◌, ◌&&◌, ℕ, Bool, true, false, List, [], ◌++◌, map, filter, Contains, Ok, Err, IfSome}
use mathlib.Core.Logic.{inl, inr}
use Rattle.std.specs.List.{AllByRecursion}
use Rattle.hickory_proto_core.specs.Codes.{type_code}
use Rattle.hickory_proto_core.specs.Handles.{OutcomeValue}
use Rattle.hickory_proto_core.specs.declared.query.Query.{Query}
use Rattle.hickory_proto_core.specs.declared.recorded.Exchange.{Exchange}
use Rattle.hickory_resolver_model.specs.Cache.{CacheValue, Entry, is_current}
use Rattle.hickory_resolver_model.specs.Lookup.{LookupResult}
use Rattle.hickory_resolver_model.specs.Hops.{LookupContext, Store, IsReplyOver, entry_of_store, passed_of, stores_of}
use Rattle.hickory_resolver_theorems.specs.Covered.{Dated, dated_exchanges}
use Rattle.hickory_resolver_theorems.specs.Statements.{LeastTtlIsZero, IsFreshReply, IsFreshEntry}

abbrev pub is_positive : OutcomeValue → Bool
is_positive (Ok m) = true
is_positive (Err error) = false

-- the current positive entries for questions of a type
abbrev pub is_source : ℕ → ℕ → Entry → Bool
is_source now code e = is_current now e && is_positive e.result && (type_code e.query.query_type == code)

-- an outcome with the answers of its message alone
abbrev pub answers_alone : OutcomeValue → OutcomeValue
answers_alone (Ok m) = Ok (record m { authorities = []; additionals = [] })
answers_alone (Err error) = Err error

-- an entry, at its own time, as what was received then: its answers count, and no other records
abbrev pub dated_entry : Entry → Dated
dated_entry e =
    record { moment = e.original_time; exchange = record { query = e.query; outcome = answers_alone e.result } }

abbrev pub sources_of : LookupContext → Query → List Exchange → List Dated
sources_of s question asks =
    map dated_entry (filter (is_source s.now (type_code question.query_type)) s.cache.entries)
    ++ dated_exchanges s.now asks

-- the stores that a look-up made
abbrev pub stores_made : (s : LookupContext) (caches : List CacheValue) (question : Query) (asks : List Exchange)
    (result : LookupResult) (after : CacheValue) → IsReplyOver s caches question asks result after → List Store
stores_made s caches question asks result after (inl whole) =
    stores_of s (passed_of s whole.hops.passed) whole.hops.last_hop whole.hops.last
stores_made s caches question asks result after (inr (out, inl cut)) = cut.begun.front
stores_made s caches question asks result after (inr (out, inr cut)) = []

-- Each answer of the asked type in the result, loopback records aside, is covered by the sources, and the
-- result may be used no longer than it lives; so it is with the entry that each store makes, and so with each
-- entry that was not in the cache before.
pub record IsFromSources
    (s : LookupContext) (question : Query) (asks : List Exchange) (result : LookupResult) (made : List Store)
    (after : CacheValue)
    : Type 0 where
  pub reply : IsFreshReply s.cache.config (sources_of s question asks)
      (type_code question.query_type) s.now result
  pub stores : AllByRecursion
      (λ store. IfSome (entry_of_store s.cache.config store)
      (IsFreshEntry s.cache.config (sources_of s question asks))) made
  pub entries : AllByRecursion
      (λ e. Contains s.cache.entries e
      ⊎ IsFreshEntry s.cache.config (sources_of s question asks) e) after.entries

-- Of a look-up: where the least TTL of the asked type is zero. A hit is read from no other cache than the one that stands
-- at its end.
abbrev pub HasProvenance : (s : LookupContext) (caches : List CacheValue) (question : Query) (asks : List Exchange)
    (result : LookupResult) (after : CacheValue) → IsReplyOver s caches question asks result after → Type 0
HasProvenance s caches question asks result after reply =
    LeastTtlIsZero s.cache.config (type_code question.query_type)
    → IsFromSources s question asks result (stores_made s caches question asks result after reply) after
