-- The facts that stand on the client's look-up and on the run, each by its name.
use Rattle.std.specs.Prelude.{◌≡◌, ◌⊎◌, ◌≤◌, ℕ, ◌+◌, Bool, true, false, List, [], ◌∷◌, ◌++◌, length, Some, Ok, Err}
use Rattle.std.specs.List.{AllByRecursion, Contains}
use Rattle.std.specs.declared.net.IpAddr.{IpAddr}
use Rattle.hickory_proto_core.specs.Codes.{type_code}
use Rattle.hickory_proto_core.specs.Name.{NameValue}
use Rattle.hickory_proto_core.specs.NameGiven.{IsReadAddress}
use Rattle.hickory_proto_core.specs.Records.{RecordValue, data_of_address}
use Rattle.hickory_proto_core.specs.ResponseKind.{record_type_code}
use Rattle.hickory_proto_core.specs.Table.{TableValue}
use Rattle.hickory_proto_core.specs.declared.query.Query.{Query}
use Rattle.hickory_proto_core.specs.declared.recorded.Exchange.{Exchange}
use Rattle.hickory_proto_core.specs.declared.net_error.NetError.TheVariants.{OutOfMemory}
use Rattle.hickory_resolver_model.specs.Bounds.{ConfigValue, bounds_for, positive_bounds, greatest_ttl}
use Rattle.hickory_resolver_model.specs.Cache.{CacheValue, Entry}
use Rattle.hickory_proto_core.specs.Handles.{OutcomeValue}
use Rattle.hickory_resolver_model.specs.Lookup.{LookupValue, LookupResult}
use Rattle.hickory_resolver_model.specs.Hops.{LookupContext}
use Rattle.hickory_resolver_model.specs.Hosts.{NotInHosts}
use Rattle.hickory_resolver_model.specs.Calls.{SubLookup, SubLookupRelation, CallContext, Client, IsAnsweredByHosts, is_out_of_memory, literal_at_once, last_resort}
use Rattle.hickory_resolver_model.specs.Run.{Settings, call_context_at, RequestValue, LookupIp, StepValue, StepReply, LookedUp, LookedUpIp, Cleared, ends_run, IsServed, Stage, exchanges_of, Run}
use Rattle.hickory_resolver_theorems.specs.Cacheless.{IsTable, MeansWithinEight, ResolvesTo, AreConsistentWith}
use Rattle.hickory_resolver_theorems.specs.Cores.{ReplyCore, reply_core, entry_core}
use Rattle.hickory_resolver_theorems.specs.Covered.{Dated, dated_exchanges, IsCovered, IsLoopback}

-- ---- freshness: no answer of the asked type outlives what was received (RFC 2181, section 8)

-- the least TTL of a type is zero
abbrev pub LeastTtlIsZero : ConfigValue → ℕ → Type 0
LeastTtlIsZero config code = (positive_bounds (bounds_for config code)).0 ≡ 0

-- a record of the asked type among the answers, given at a moment by what may be used up to a deadline: it is
-- a loopback record; or it is covered, its TTL is at most the greatest, and the deadline is not past the
-- moment and its TTL
abbrev pub IsFreshRecord : ConfigValue → List Dated → ℕ → ℕ → ℕ → RecordValue → Type 0
IsFreshRecord config sources code now deadline r =
    record_type_code r ≡ code
    → IsLoopback r ⊎ (IsCovered config sources now r × (r.ttl ≤ greatest_ttl config code)
    × (deadline ≤ now + r.ttl))

abbrev pub AreFreshRecords : ConfigValue → List Dated → ℕ → ℕ → ℕ → List RecordValue → Type 0
AreFreshRecords config sources code now deadline rs =
    AllByRecursion (IsFreshRecord config sources code now deadline) rs

abbrev pub IsFreshReply : ConfigValue → List Dated → ℕ → ℕ → LookupResult → Type 0
IsFreshReply config sources code now (Ok l) =
    AreFreshRecords config sources code now l.valid_until l.message.answers
IsFreshReply config sources code now (Err e) = Unit {0}

-- an entry of a positive answer, at its own moment
abbrev pub IsFreshOutcome : ConfigValue → List Dated → Entry → OutcomeValue → Type 0
IsFreshOutcome config sources e (Ok m) =
    LeastTtlIsZero config (type_code e.query.query_type)
    → AreFreshRecords config sources
    (type_code e.query.query_type) e.original_time e.valid_until m.answers
IsFreshOutcome config sources e (Err error) = Unit {0}

abbrev pub IsFreshEntry : ConfigValue → List Dated → Entry → Type 0
IsFreshEntry config sources e = IsFreshOutcome config sources e e.result

abbrev pub AreFreshEntries : CacheValue → List Dated → Type 0
AreFreshEntries cache sources = AllByRecursion (IsFreshEntry cache.config sources) cache.entries

-- Of a look-up: whatever covers the entries before it, together with the exchanges of the look-up covers its
-- reply and the entries after it.
abbrev pub IsFresh : LookupContext → Query → List Exchange → LookupResult → CacheValue → Type 0
IsFresh s question asks result after =
    (sources : List Dated) → AreFreshEntries s.cache sources
    → (LeastTtlIsZero s.cache.config (type_code question.query_type)
    → IsFreshReply s.cache.config (sources ++ dated_exchanges s.now asks)
    (type_code question.query_type) s.now result)
    × AreFreshEntries after (sources ++ dated_exchanges s.now asks)

-- ---- transparency: a cache does not change an answer

-- an entry is what its question means under a table, however long the way there
abbrev pub IsWhatItResolvesTo : TableValue → Entry → Type 0
IsWhatItResolvesTo table e = (n : ℕ) × ResolvesTo table e.query (entry_core e.result) n

abbrev pub AreWhatTheyResolveTo : TableValue → CacheValue → Type 0
AreWhatTheyResolveTo table cache = AllByRecursion (IsWhatItResolvesTo table) cache.entries

-- Of a look-up without preserved intermediate records: under every table that tells its exchanges and means
-- the entries before it, the reply is the meaning of the question, where that takes eight questions at most, or out of
-- memory, and the entries after it are meant.
abbrev pub IsTransparent : LookupContext → Query → List Exchange → LookupResult → CacheValue → Type 0
IsTransparent s question asks result after =
    (table : TableValue) → s.preserve_intermediates ≡ false → IsTable table → AreConsistentWith table asks
    → AreWhatTheyResolveTo table s.cache
    → (reply : ReplyCore) (n : ℕ) → ResolvesTo table question reply n → n ≤ 8
    → ((result ≡ Err OutOfMemory) ⊎ (reply_core result ≡ reply)) × AreWhatTheyResolveTo table after

-- ---- the headline, of a run

-- each sub-look-up, of one name and one type, sends at most eight questions
abbrev pub AsksAtMostEight : Stage → Type 0
AsksAtMostEight stage = AllByRecursion (λ p. length p.asks ≤ 8) stage.parts

-- What counts as received may depend on the type that is asked for: sources are given for each type's code.
-- Where the asked type's least TTL is zero, an answer of the client has no record of that type that outlives
-- what was received.
abbrev pub IsFreshSubLookup : ConfigValue → (ℕ → List Dated) → ℕ → SubLookup → Type 0
IsFreshSubLookup config sources now p =
    let code = type_code p.question.query_type in
    p.source ≡ Client → LeastTtlIsZero config code → IsFreshReply config (sources code) code now p.result

-- a sub-look-up has the record among its answers
abbrev pub Gives : SubLookup → RecordValue → Type 0
Gives p r = (found : LookupValue) × (p.result ≡ Ok found) × Contains found.message.answers r

-- A record of a reply, which may be used up to a deadline, beside a sub-look-up: where the client answered that
-- one and gave the record, and the least TTL of the type that it asked for is zero, the record does not outlive
-- what was received.
abbrev pub IsFreshWhereGiven : ConfigValue → (ℕ → List Dated) → ℕ → ℕ → RecordValue → SubLookup → Type 0
IsFreshWhereGiven config sources now deadline r p =
    let code = type_code p.question.query_type in
    p.source ≡ Client → Gives p r → LeastTtlIsZero config code
    → IsFreshRecord config (sources code) code now deadline r

-- An answer of a reply that may be used up to a deadline: a sub-look-up gave it, to be used as long or longer.
-- And one of the asked type that the client gave does not outlive what was received for that sub-look-up.
pub record IsFreshAnswer
    (config : ConfigValue) (sources : ℕ → List Dated) (now : ℕ) (parts : List SubLookup) (deadline : ℕ)
    (r : RecordValue)
    : Type 0 where
  pub part : SubLookup
  pub found : LookupValue
  pub is_part : Contains parts part
  pub result_is : part.result ≡ Ok found
  pub is_answer : Contains found.message.answers r
  pub usable : deadline ≤ found.valid_until
  pub fresh : AllByRecursion (IsFreshWhereGiven config sources now deadline r) parts

-- a look-up answers something of its own, or with answers of its sub-look-ups alone
abbrev pub HasFreshAnswers : (LookupValue → Type 0) → ConfigValue → (ℕ → List Dated) → ℕ → List SubLookup
    → LookupResult → Type 0
HasFreshAnswers IsOwn config sources now parts (Ok l) =
    IsOwn l ⊎ AllByRecursion (IsFreshAnswer config sources now parts l.valid_until) l.message.answers
HasFreshAnswers IsOwn config sources now parts (Err e) = Unit {0}

-- the addresses of a text are asked for, and the answer is the address that the text is
abbrev pub IsLiteral : RequestValue → LookupValue → Type 0
IsLiteral (LookupIp text now) l =
    (address : IpAddr) × IsReadAddress text (Some address)
    × ((l ≡ last_resort (data_of_address address) now) ⊎ ((owner : NameValue) × (l ≡ literal_at_once owner address now)))
IsLiteral other l = ⊥

-- what a step answers: the literal address, or answers of its sub-look-ups
abbrev pub AreFreshAnswers : ConfigValue → List Dated → Stage → StepReply → Type 0
AreFreshAnswers config sources stage (LookedUp reply) =
    HasFreshAnswers (IsLiteral stage.request) config (λ code. sources) stage.step.now stage.parts reply
AreFreshAnswers config sources stage (LookedUpIp reply) =
    HasFreshAnswers (IsLiteral stage.request) config (λ code. sources) stage.step.now stage.parts reply
AreFreshAnswers config sources stage (Cleared done) = Unit {0}

-- no answer outlives what an exchange of the same step or of an earlier one brought, neither in a sub-look-up
-- nor in what the step answers
abbrev pub NothingOutlives : List Dated → List Stage → Type 0
NothingOutlives earlier [] = Unit {0}
NothingOutlives earlier (stage ∷ stages) =
    let sources = earlier ++ dated_exchanges stage.step.now stage.piece in
    AllByRecursion (IsFreshSubLookup stage.before.config (λ code. sources) stage.step.now) stage.parts
    × AreFreshAnswers stage.before.config sources stage stage.step.reply × NothingOutlives sources stages

-- a question that the client was asked means something within eight
abbrev pub AskedWithinEight : TableValue → SubLookup → Type 0
AskedWithinEight table p = p.source ≡ Client → MeansWithinEight table p.question

-- how the resolver without a cache answers a question: by the table of hosts, as any, or by the meaning of
-- the question
pub record IsCachelessSubLookup
    (table : TableValue) (s : CallContext) (with_hosts : Bool) (q : Query) (p : SubLookup)
    : Type 0 where
  pub reply : ReplyCore
  pub length_is : ℕ
  pub not_in_hosts : NotInHosts with_hosts q s.now s.hosts
  pub means : ResolvesTo table q reply length_is
  pub result_is : reply_core p.result ≡ reply

abbrev pub CachelessSubLookup : TableValue → CallContext → SubLookupRelation
CachelessSubLookup table s with_hosts before q p after =
    (p.question ≡ q) × (IsAnsweredByHosts s with_hosts before p after
    ⊎ (IsCachelessSubLookup table s with_hosts q p × (after ≡ before)))

-- the resolver without a cache serves a request, by these sub-look-ups
abbrev pub IsServedCacheless : TableValue → Settings → CacheValue → RequestValue → List SubLookup → StepReply
    → Type 0
IsServedCacheless table s cache request parts reply =
    IsServed (λ now. CachelessSubLookup table (call_context_at s now)) s cache request parts reply cache

-- what a look-up came to, told in this form, is what the resolver without a cache answers to the request
abbrev pub ComesToCacheless : (LookupResult → StepReply) → TableValue → Settings → CacheValue → RequestValue
    → LookupResult → Type 0
ComesToCacheless form table s cache request reply =
    (parts : List SubLookup) × (cacheless : LookupResult)
    × IsServedCacheless table s cache request parts (form cacheless)
    × (reply_core reply ≡ reply_core cacheless)

-- a reply comes to what the resolver without a cache answers to the request
abbrev pub IsCacheless : TableValue → Settings → CacheValue → RequestValue → StepReply → Type 0
IsCacheless table s cache request (LookedUp reply) = ComesToCacheless LookedUp table s cache request reply
IsCacheless table s cache request (LookedUpIp reply) = ComesToCacheless LookedUpIp table s cache request reply
IsCacheless table s cache request (Cleared done) = Unit {0}

-- two cacheless replies to a request, told in this form, come to the same, out of memory aside
abbrev pub IsOneCachelessBy : (LookupResult → StepReply) → TableValue → Settings → CacheValue → RequestValue
    → Type 0
IsOneCachelessBy form table s cache request =
    (parts others : List SubLookup) (a b : LookupResult)
    → IsServedCacheless table s cache request parts (form a)
    → IsServedCacheless table s cache request others (form b)
    → is_out_of_memory a ≡ false → is_out_of_memory b ≡ false → reply_core a ≡ reply_core b

-- Two cacheless replies to a request come to the same, out of memory aside.
abbrev pub IsOneCacheless : TableValue → Settings → CacheValue → RequestValue → Type 0
IsOneCacheless table s cache request =
    IsOneCachelessBy LookedUp table s cache request × IsOneCachelessBy LookedUpIp table s cache request

-- the reply of a step is the cacheless resolver's, or out of memory
abbrev pub IsAsWithoutCache : TableValue → Settings → Stage → Type 0
IsAsWithoutCache table s stage =
    (ends_run stage.step.reply ≡ true) ⊎ IsCacheless table s stage.before stage.request stage.step.reply

-- Where equal questions get equal outcomes (a table tells every exchange up to and with a step), no chain
-- needs a ninth question (in the sub-look-ups up to and with the step) and intermediate records are not
-- preserved, the reply of the step is the cacheless resolver's, whatever comes after it.
abbrev pub AreAsWithoutCache : Settings → List Stage → Type 0
AreAsWithoutCache s stages =
    (earlier : List Stage) (stage : Stage) (later : List Stage) → stages ≡ earlier ++ stage ∷ later
    → (table : TableValue) → s.preserve_intermediates ≡ false → IsTable table
    → AreConsistentWith table (exchanges_of (earlier ++ stage ∷ []))
    → AllByRecursion (λ x. AllByRecursion (AskedWithinEight table) x.parts) (earlier ++ stage ∷ [])
    → IsAsWithoutCache table s stage

-- From a new resolver, over every run, each attempt at one name and type sends at most 8 questions; where the asked
-- type's least TTL is zero, no upstream answer record of that type outlives the received TTL, cut at the maximum, of an
-- equal record that was received so far; and where equal questions get equal outcomes, no chain needs a ninth question
-- and `preserve_intermediates` is off, every reply is the cacheless resolver's or out of memory, TTLs, deadlines, headers
-- and the case of names aside.
--
-- A new resolver is one whose cache is empty. An attempt at one name and type is a sub-look-up. It is said of the stages
-- of the run that is given.
abbrev pub Headline : (s : Settings) (empty : CacheValue) (requests : List RequestValue) (steps : List StepValue)
    (exchanges : List Exchange) (after : CacheValue) → Run s empty requests steps exchanges after → Type 0
Headline s empty requests steps exchanges after run =
    AllByRecursion AsksAtMostEight run.stages × NothingOutlives [] run.stages × AreAsWithoutCache s run.stages
