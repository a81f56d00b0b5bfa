-- What is kept is looked up anew before its end, while nobody waits for it.
use Rattle.std.specs.Prelude.{◌≡◌, ◌&&◌, ℕ, Bool, true, false, List, [], ◌∷◌, ◌++◌, drop, get_or, length, nat_lt, Option, None, MatchOption}
use Rattle.std.specs.Option.{is_none}
use Rattle.hickory_proto_core.specs.declared.query.Query.{Query}
use Rattle.hickory_proto_wire.specs.Messages.{bit, message_of}
use Rattle.hickory_resolver_pool.specs.declared.pool.Asked as pool_asked
use Rattle.hickory_resolver_pool.specs.declared.pool.Asked.TheVariants as asked
use Rattle.hickory_resolver_tries.specs.declared.pool_question.PoolQuestion.{PoolQuestion}
use Rattle.kept_failures.specs.Failures.{failure_at}
use Rattle.local_answers.specs.declared.local_data.Decision.{Decision}
use Rattle.local_answers.specs.declared.local_data.Decision.TheVariants as decision
use Rattle.whole_lookups.specs.Lookups.{begun}
use Rattle.yimarotu_forwarder.specs.Counting.{one_more}
use Rattle.yimarotu_forwarder.specs.Fetches.{Begins, FetchValue, fetch_at}
use Rattle.yimarotu_forwarder.specs.Forwarders.{ForwarderValue, second_of}
use Rattle.yimarotu_forwarder.specs.Local.{IsDecided}
use Rattle.yimarotu_forwarder.specs.LookingUp.{after_ask, pool_question, pool_says}
use Rattle.yimarotu_forwarder.specs.Queries.{first_query}
use Rattle.yimarotu_forwarder.specs.declared.choices.TheConstants.{FEW_FETCHES}

-- ---- what a key asks

-- a query with one question (RFC 1035, section 4.1.1)
abbrev pub query_header : List ℕ
query_header = 0 ∷ 0 ∷ 0 ∷ 0 ∷ 0 ∷ 1 ∷ 0 ∷ 0 ∷ 0 ∷ 0 ∷ 0 ∷ 0 ∷ []

-- the question behind the first octet of a key
abbrev pub key_query : List ℕ → Option Query
key_query key = first_query (message_of (query_header ++ drop 1 key))

-- DO and CD, by the first octet
abbrev pub key_dnssec : List ℕ → Bool
key_dnssec key = bit 1 (get_or key 0 0)

abbrev pub key_unchecked : List ℕ → Bool
key_unchecked key = bit 2 (get_or key 0 0)

-- ---- its question is asked

abbrev pub lone_fetch : Query → List ℕ → ℕ → ℕ → FetchValue
lone_fetch q key generation began = record {
  lookup = begun q (key_dnssec key);
  checking_disabled = key_unchecked key;
  heard = None;
  generation = generation;
  began = began;
  waiting = [];
}

abbrev pub one_prefetched : ForwarderValue → ForwarderValue
one_prefetched s = record s { counted = record s.counted { prefetched = one_more s.counted.prefetched } }

-- a fetch begins for which nobody waits, and that is counted
pub record BeginsLone (q : Query) (key : List ℕ) (asker : ℕ) (before after : ForwarderValue) : Type 0 where
  pub begins : Begins key (lone_fetch q key before.generation before.clock) asker before.fetches after.fetches
  pub others_are : after ≡ record (one_prefetched before) { fetches = after.fetches }

-- As the pool said. Where it has no place or no servers nothing is looked up.
abbrev pub BeginsLoneBy : pool_asked.Asked → Query → List ℕ → ForwarderValue → ForwarderValue → Type 0
BeginsLoneBy (asked.Asker a) q key before after = BeginsLone q key a.number before after
BeginsLoneBy asked.Overloaded q key before after = after ≡ before
BeginsLoneBy asked.NoServers q key before after = after ≡ before

abbrev pub BeginsLoneWith : Query → List ℕ → PoolQuestion → ℕ → ForwarderValue → ForwarderValue → Type 0
BeginsLoneWith q key question group before after =
    BeginsLoneBy (pool_says group question before) q key (after_ask group question before) after

-- what is known here is not asked
abbrev pub AsksLone : Decision → Query → List ℕ → ForwarderValue → ForwarderValue → Type 0
AsksLone (decision.Answer kept) q key before after = after ≡ before
AsksLone (decision.Ask group) q key before after =
    BeginsLoneWith q key (pool_question q (key_dnssec key) (key_unchecked key) before) group before after

pub record DecidesLone (key : List ℕ) (before after : ForwarderValue) (q : Query) : Type 0 where
  pub found : Decision
  pub decided : IsDecided before.local q (second_of before) found
  pub asks : AsksLone found q key before after

abbrev pub PrefetchesUnasked : List ℕ → ForwarderValue → ForwarderValue → Type 0
PrefetchesUnasked key before after = MatchOption (key_query key) (after ≡ before) (DecidesLone key before after)

-- Nobody waits for it, so nobody is counted for it: it is looked up while few are. One that failed shortly before is not
-- asked again (RFC 9520, section 3.2).
abbrev pub may_prefetch : List ℕ → ForwarderValue → Bool
may_prefetch key s =
    nat_lt (length s.fetches.fetches) FEW_FETCHES && is_none (failure_at key (second_of s) s.failures)

abbrev pub PrefetchesWhere : Bool → List ℕ → ForwarderValue → ForwarderValue → Type 0
PrefetchesWhere true key before after = PrefetchesUnasked key before after
PrefetchesWhere false key before after = after ≡ before

-- a question that is looked up is not asked again
abbrev pub PrefetchesKey : List ℕ → ForwarderValue → ForwarderValue → Type 0
PrefetchesKey key before after =
    MatchOption (fetch_at key before.fetches) (PrefetchesWhere (may_prefetch key before) key before after)
    (λ f. after ≡ before)

abbrev pub without_prefetch : ForwarderValue → ForwarderValue
without_prefetch s = record s { prefetch = None }

-- What is noted is looked up, and noted no more.
abbrev pub Prefetches : ForwarderValue → ForwarderValue → List ℕ → Type 0
Prefetches before after key = PrefetchesKey key (without_prefetch before) after
