-- Many look-ups over one cache, in any order. Each is started, waits for what comes back to its question, and goes on
-- with it; between two steps of one, others start, go on and end, entries are stored, evicted and cleared, and one that
-- blocks may be done at once. What is promised of a look-up alone holds of each of them.
use Rattle.std.specs.Prelude.{◌≡◌, ◌⊎◌, ◌≤◌, ℕ, Bool, false, List, [], ◌∷◌, ◌++◌, length, map, Err}
use Rattle.std.specs.List.{AllByRecursion}
use Rattle.hickory_proto_core.specs.Codes.{type_code}
use Rattle.hickory_proto_core.specs.Handles.{OutcomeValue}
use Rattle.hickory_proto_core.specs.Table.{TableValue}
use Rattle.hickory_proto_core.specs.declared.query.Query.{Query}
use Rattle.hickory_proto_core.specs.declared.recorded.Exchange.{Exchange}
use Rattle.hickory_proto_core.specs.declared.net_error.NetError.TheVariants.{OutOfMemory}
use Rattle.hickory_resolver_model.specs.Cache.{CacheValue, without_query}
use Rattle.hickory_resolver_model.specs.Lookup.{LookupResult}
use Rattle.hickory_resolver_model.specs.Hops.{LookupContext, IsReply, IsReplyOver}
use Rattle.hickory_resolver_model.specs.Resuming.{WaitingValue, ProgressValue, Waits, IsDone, Starts, Resumes}
use Rattle.hickory_resolver_theorems.specs.Aliases.{NoAliasOutlives}
use Rattle.hickory_resolver_theorems.specs.Cacheless.{IsTable, MeansWithinEight, ResolvesTo, IsConsistentWith}
use Rattle.hickory_resolver_theorems.specs.Cores.{reply_core}
use Rattle.hickory_resolver_theorems.specs.Covered.{Dated, dated_exchanges}
use Rattle.hickory_resolver_theorems.specs.Statements.{LeastTtlIsZero, IsFreshReply, AreFreshEntries, AreWhatTheyResolveTo}

-- ---- what there is

-- A look-up in flight: what it was asked, what was exchanged for it so far, and with what it waits. For each exchange
-- there is the cache that stood when its hop was taken, and one for the hop at which it waits.
pub record PendingValue : Type 0 where
  pub question : Query
  pub asks : List Exchange
  pub caches : List CacheValue
  pub cache : CacheValue
  pub waiting : WaitingValue

-- a look-up that is done, with the moment of its start (seconds)
pub record DoneValue : Type 0 where
  pub question : Query
  pub now : ℕ
  pub asks : List Exchange
  pub caches : List CacheValue
  pub result : LookupResult

-- the cache, and the look-ups in flight
pub record WorldValue : Type 0 where
  pub cache : CacheValue
  pub pending : List PendingValue

-- a cache over which no look-up is in flight
abbrev pub world_of : CacheValue → WorldValue
world_of cache = record { cache = cache; pending = [] }

-- the cache as it stands, for a look-up that was started at a moment
abbrev pub context_in : Bool → WorldValue → ℕ → LookupContext
context_in preserve world now = record { cache = world.cache; now = now; preserve_intermediates = preserve }

-- ---- what happens

-- A look-up is started at a moment; what came back is fed to one that waits; both tell how far it came. One that waits
-- is dropped. The cache is cleared of everything, or of a question. A look-up that blocks is done, from start to end.
pub data EventValue : Type 0 where
  Started : Query → ℕ → ProgressValue → EventValue
  Fed : PendingValue → OutcomeValue → ProgressValue → EventValue
  Dropped : PendingValue → EventValue
  ClearedOfAll : EventValue
  ClearedOf : Query → EventValue
  Blocked : DoneValue → EventValue

-- the exchanges of a look-up with the one that is made by what is fed to it, and their caches
abbrev pub asks_with : PendingValue → OutcomeValue → List Exchange
asks_with p outcome = p.asks ++ record { query = p.waiting.hop.query; outcome = outcome } ∷ []

abbrev pub caches_with : PendingValue → List CacheValue
caches_with p = p.caches ++ p.cache ∷ []

-- the look-up after a step over this cache, where it waits
abbrev pub pending_after : CacheValue → Query → List Exchange → List CacheValue → ProgressValue → List PendingValue
pending_after cache question asks caches (Waits w) =
    record { question = question; asks = asks; caches = caches; cache = cache; waiting = w } ∷ []
pending_after cache question asks caches (IsDone result) = []

-- and where it is done
abbrev pub done_after : Query → ℕ → List Exchange → List CacheValue → ProgressValue → List DoneValue
done_after question now asks caches (Waits w) = []
done_after question now asks caches (IsDone result) =
    record { question = question; now = now; asks = asks; caches = caches; result = result } ∷ []

-- a look-up is one of those in flight, between these
abbrev pub IsBetween : List PendingValue → PendingValue → List PendingValue → List PendingValue → Type 0
IsBetween front p back pending = pending ≡ front ++ p ∷ back

-- An event, from one world to the next. Each step of a look-up is a step of the definition over the cache that stands.
abbrev pub Happens : Bool → WorldValue → EventValue → WorldValue → Type 0
Happens preserve before (Started question now progress) after =
    Starts (context_in preserve before now) question progress after.cache
    × (after.pending ≡ before.pending ++ pending_after before.cache question [] [] progress)
Happens preserve before (Fed p outcome progress) after =
    (front : List PendingValue) × (back : List PendingValue) × IsBetween front p back before.pending
    × Resumes (context_in preserve before p.waiting.now) p.waiting outcome progress after.cache
    × (after.pending
    ≡ front ++ pending_after before.cache p.question (asks_with p outcome) (caches_with p) progress ++ back)
Happens preserve before (Dropped p) after =
    (front : List PendingValue) × (back : List PendingValue) × IsBetween front p back before.pending
    × (after ≡ record before { pending = front ++ back })
Happens preserve before ClearedOfAll after = after ≡ record before { cache = record before.cache { entries = [] } }
Happens preserve before (ClearedOf q) after = after ≡ record before { cache = without_query before.cache q }
Happens preserve before (Blocked d) after =
    IsReply (context_in preserve before d.now) d.question d.asks d.result after.cache
    × (d.caches ≡ map (λ x. before.cache) d.asks) × (after.pending ≡ before.pending)

-- one event after another
abbrev pub Happen : Bool → WorldValue → List EventValue → WorldValue → Type 0
Happen preserve before [] after = after ≡ before
Happen preserve before (event ∷ events) after =
    (mid : WorldValue) × Happens preserve before event mid × Happen preserve mid events after

-- the look-up that an event ended, if it ended one
abbrev pub ended_by : EventValue → List DoneValue
ended_by (Started question now progress) = done_after question now [] [] progress
ended_by (Fed p outcome progress) = done_after p.question p.waiting.now (asks_with p outcome) (caches_with p) progress
ended_by (Dropped p) = []
ended_by ClearedOfAll = []
ended_by (ClearedOf q) = []
ended_by (Blocked d) = d ∷ []

-- what came back, each exchange with the moment of its look-up's start
abbrev pub received_by : EventValue → List Dated
received_by (Started question now progress) = []
received_by (Fed p outcome progress) =
    dated_exchanges p.waiting.now (record { query = p.waiting.hop.query; outcome = outcome } ∷ [])
received_by (Dropped p) = []
received_by ClearedOfAll = []
received_by (ClearedOf q) = []
received_by (Blocked d) = dated_exchanges d.now d.asks

abbrev pub ended_in : List EventValue → List DoneValue
ended_in [] = []
ended_in (event ∷ events) = ended_by event ++ ended_in events

abbrev pub received_in : List EventValue → List Dated
received_in [] = []
received_in (event ∷ events) = received_by event ++ received_in events

-- ---- what is promised

-- the question of a look-up that is done means something within eight
abbrev pub DoneWithinEight : TableValue → DoneValue → Type 0
DoneWithinEight table d = MeansWithinEight table d.question

-- the result is what the question means, or out of memory
abbrev pub IsMeant : TableValue → DoneValue → Type 0
IsMeant table d =
    (d.result ≡ Err OutOfMemory) ⊎ ((n : ℕ) × ResolvesTo table d.question (reply_core d.result) n)

-- where a table tells what was received and the questions of the look-ups that ended mean something by it
abbrev pub IsSeenBy : TableValue → Bool → List Dated → List DoneValue → Type 0
IsSeenBy table preserve received ended =
    (preserve ≡ false) × IsTable table × AllByRecursion (λ x. IsConsistentWith table x.exchange) received
    × AllByRecursion (DoneWithinEight table) ended

-- A look-up that an event ended, from one world to the next, with what was received up to then and the look-ups that
-- ended up to then, its own among both. It comes to what the hops of its question say, each over the cache that stood
-- when the hop was taken. It sent eight questions at most. Where the least TTL of the asked type is zero, no record of
-- that type that it gives outlives what was received, for this look-up or another. No alias outlives its CNAMEs. Where
-- equal questions got equal outcomes, no chain needed a ninth question and intermediate records are not preserved, it
-- comes to what its question means without a cache, or out of memory.
pub record IsPromisedEnd
    (preserve : Bool) (received : List Dated) (ended : List DoneValue) (before after : WorldValue) (d : DoneValue)
    : Type 0 where
  pub reply : IsReplyOver (context_in preserve before d.now) d.caches d.question d.asks d.result after.cache
  pub few : length d.asks ≤ 8
  pub fresh : LeastTtlIsZero before.cache.config (type_code d.question.query_type)
      → IsFreshReply before.cache.config received (type_code d.question.query_type) d.now d.result
  pub no_alias_outlives : NoAliasOutlives (context_in preserve before d.now) d.caches d.question d.asks d.result
      after.cache reply
  pub transparent : (table : TableValue) → IsSeenBy table preserve received ended → IsMeant table d

-- The event after some events over a cache without entries, with no look-up in flight at first. The look-up that it
-- ended keeps its promises. Each entry of the cache is covered by what was received up to then, where the least TTL of
-- its type is zero, and is what its question means, as the results are. And a look-up that waits sent eight questions at
-- most, with the one whose outcome it waits for. The moments of the look-ups are in any order.
pub record IsPromisedEvent
    (preserve : Bool) (events : List EventValue) (event : EventValue) (before after : WorldValue)
    : Type 0 where
  pub ended : AllByRecursion
      (IsPromisedEnd preserve (received_in events ++ received_by event) (ended_in events ++ ended_by event)
      before after) (ended_by event)
  pub entries : AreFreshEntries after.cache (received_in events ++ received_by event)
  pub meant : (table : TableValue)
      → IsSeenBy table preserve (received_in events ++ received_by event) (ended_in events ++ ended_by event)
      → AreWhatTheyResolveTo table after.cache
  pub waiting : AllByRecursion (λ p. length p.asks ≤ 7) after.pending

-- Of every event, whatever came before it: so of each event of a list.
abbrev pub IsPromisedInterleaving : Bool → CacheValue → Type 0
IsPromisedInterleaving preserve empty =
    empty.entries ≡ [] → (events : List EventValue) (event : EventValue) (before after : WorldValue)
    → Happen preserve (world_of empty) events before → Happens preserve before event after
    → IsPromisedEvent preserve events event before after
