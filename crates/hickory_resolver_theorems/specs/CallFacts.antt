-- What is promised of a call of the resolver: the facts on a look-up of the client, carried over the attempts
-- of the call, for a user who knows nothing of earlier calls.
use Rattle.std.specs.Prelude.{◌≡◌, ◌≢◌, ◌⊎◌, ◌≤◌, ℕ, Bool, false, List, ◌++◌, length, map, filter, Option, Some, Result, Ok, Err, IfSome}
use Rattle.std.specs.List.{AllByRecursion, Contains}
use Rattle.std.specs.declared.net.IpAddr.{IpAddr}
use Rattle.hickory_proto_core.specs.Codes.{type_code}
use Rattle.hickory_proto_core.specs.Handles.{HandleStep}
use Rattle.hickory_proto_core.specs.Name.{NameValue}
use Rattle.hickory_proto_core.specs.Table.{TableValue}
use Rattle.hickory_proto_core.specs.codes.record_type.RecordType.{RecordType}
use Rattle.hickory_proto_core.specs.names.name_error.NameError.{NameError}
use Rattle.hickory_proto_core.specs.names.name_error.NameError.TheVariants as name_fault
use Rattle.hickory_proto_core.specs.declared.net_error.NetError.TheVariants.{OutOfMemory}
use Rattle.hickory_resolver_model.specs.Bounds.{ConfigValue}
use Rattle.hickory_resolver_model.specs.Cache.{CacheValue, Entry}
use Rattle.hickory_resolver_model.specs.Lookup.{LookupValue, LookupResult}
use Rattle.hickory_resolver_model.specs.Hops.{entry_of_store, one_cache}
use Rattle.hickory_resolver_model.specs.Calls.{CallContext, context_over, Source, Hosts, Client, SubLookup, SubLookupRelation, IsAnsweredByHosts, IsAnsweredByClient, asks_of_sub_lookups}
use Rattle.hickory_resolver_model.specs.Run.{Settings, call_context_at, Call, AtOnce, Attempt, IsCall, RanOutBeforeAsking, name_call, address_call}
use Rattle.hickory_resolver_model.specs.Resolver.{ResolverValue, settings, AnswersCall}
use Rattle.hickory_resolver_theorems.specs.Aliases.{SubLookupOutlivesNoAlias}
use Rattle.hickory_resolver_theorems.specs.Cacheless.{IsTable, AreConsistentWith}
use Rattle.hickory_resolver_theorems.specs.Covered.{Dated, dated_exchanges}
use Rattle.hickory_resolver_theorems.specs.Provenance.{is_source, dated_entry, stores_made}
use Rattle.hickory_resolver_theorems.specs.Statements.{IsFreshEntry, AreFreshEntries, IsFreshSubLookup, HasFreshAnswers, AreWhatTheyResolveTo, AskedWithinEight, CachelessSubLookup}

-- a call whose questions are answered in this way, or memory ran out before it
abbrev pub IsCallBy : SubLookupRelation → Settings → CacheValue → Call → List SubLookup → LookupResult
    → CacheValue → Type 0
IsCallBy Answers s before call parts reply after =
    IsCall Answers s before call parts reply after ⊎ RanOutBeforeAsking before parts reply after

-- ---- freshness: no answer of the asked type outlives what was received (RFC 2181, section 8)

-- what a call answers by itself: the literal address, at once or as its last resort
abbrev pub IsOwnAnswer : Call → LookupValue → Type 0
IsOwnAnswer (AtOnce answer) l = answer ≡ Ok l
IsOwnAnswer (Attempt n plan) l = plan.literal ≡ Some l

-- what the client answers to each question of a call, and each answer of the reply, do not outlive what was
-- received for the type that was asked
pub record AreFreshReplies
    (config : ConfigValue) (sources : ℕ → List Dated) (now : ℕ) (call : Call) (parts : List SubLookup)
    (reply : LookupResult)
    : Type 0 where
  pub parts_are : AllByRecursion (IsFreshSubLookup config sources now) parts
  pub answers_are : HasFreshAnswers (IsOwnAnswer call) config sources now parts reply

-- the entry does not outlive what was received for its type
abbrev pub IsFreshForType : ConfigValue → (ℕ → List Dated) → Entry → Type 0
IsFreshForType config sources e = IsFreshEntry config (sources (type_code e.query.query_type)) e

-- a question of a call is answered by the table of hosts, or by the client, and each store of that look-up
-- makes an entry that does not outlive what was received for its type
abbrev pub IsFreshlyStoredBy : (ℕ → List Dated) → Source → CallContext → Bool → CacheValue → SubLookup → CacheValue
    → Type 0
IsFreshlyStoredBy sources Hosts s with_hosts before p after = IsAnsweredByHosts s with_hosts before p after
IsFreshlyStoredBy sources Client s with_hosts before p after =
    (is : IsAnsweredByClient s with_hosts before p after)
    × AllByRecursion
    (λ store. IfSome (entry_of_store before.config store) (IsFreshForType before.config sources))
    (stores_made (context_over s before) (one_cache (context_over s before) p.asks) p.question p.asks p.result after is.reply)

abbrev pub FreshlyStoredSubLookup : (ℕ → List Dated) → CallContext → SubLookupRelation
FreshlyStoredSubLookup sources s with_hosts before q p after =
    (p.question ≡ q) × IsFreshlyStoredBy sources p.source s with_hosts before p after

-- What was received for a type, as far as a call can know: the current positive entries for questions of that
-- type in the cache before the call, each at its own moment and by its answers alone; and the exchanges of
-- the call.
abbrev pub call_sources : CacheValue → ℕ → List SubLookup → ℕ → List Dated
call_sources before now parts code =
    map dated_entry (filter (is_source now code) before.entries) ++ dated_exchanges now (asks_of_sub_lookups parts)

-- Whatever is known of the cache before: the replies of the call are fresh, and so is each store; and each
-- entry after it was there before, or is fresh.
pub record HasCallProvenance
    (s : Settings) (now : ℕ) (before : CacheValue) (call : Call) (parts : List SubLookup) (reply : LookupResult)
    (after : CacheValue)
    : Type 0 where
  pub replies : AreFreshReplies before.config (call_sources before now parts) now call parts reply
  pub stores : IsCallBy (FreshlyStoredSubLookup (call_sources before now parts) (call_context_at s now)) s before
      call parts reply after
  pub entries : AllByRecursion
      (λ e. Contains before.entries e ⊎ IsFreshForType before.config (call_sources before now parts) e)
      after.entries

-- What covers the entries before a call, together with the exchanges of the call covers its replies and the
-- entries after it. So calls, and what they receive, may be told one after another.
abbrev pub IsFreshCall : ℕ → CacheValue → Call → List SubLookup → LookupResult → CacheValue → Type 0
IsFreshCall now before call parts reply after =
    (earlier : List Dated) → AreFreshEntries before earlier
    → let received = earlier ++ dated_exchanges now (asks_of_sub_lookups parts) in
    AreFreshReplies before.config (λ code. received) now call parts reply × AreFreshEntries after received

-- ---- transparency: a cache does not change an answer

-- Under every table that tells the exchanges of a call and means the entries before it, where intermediate
-- records are not preserved and each question of the client means something that takes eight questions at
-- most: the reply is out of memory, or what the call comes to without a cache; and the entries after it are
-- meant.
abbrev pub IsTransparentCall : Settings → ℕ → CacheValue → Call → List SubLookup → LookupResult → CacheValue
    → Type 0
IsTransparentCall s now before call parts reply after =
    (table : TableValue) → s.preserve_intermediates ≡ false → IsTable table
    → AreConsistentWith table (asks_of_sub_lookups parts) → AreWhatTheyResolveTo table before
    → AllByRecursion (AskedWithinEight table) parts
    → ((reply ≡ Err OutOfMemory)
    ⊎ IsCall (CachelessSubLookup table (call_context_at s now)) s before call parts reply before)
    × AreWhatTheyResolveTo table after

-- ---- a call

-- A call of a resolver: each question of it sends eight at most; every answer of the asked type has a source, and
-- outlives nothing that was received; a cache changes no answer; no alias outlives its CNAMEs. Each has its own premises.
pub record IsPromisedCall
    {H : Type 0} (step : HandleStep H) (now : ℕ) (call : Call) (before : ResolverValue H) (result : LookupResult)
    (after : ResolverValue H)
    : Type 0 where
  pub is : AnswersCall step now call before result after
  pub few : AllByRecursion (λ p. length p.asks ≤ 8) is.parts
  pub provenance : HasCallProvenance (settings before) now before.client.cache call is.parts result
      after.client.cache
  pub fresh : IsFreshCall now before.client.cache call is.parts result after.client.cache
  pub transparent : IsTransparentCall (settings before) now before.client.cache call is.parts result
      after.client.cache
  pub no_alias_outlives : IsCallBy (SubLookupOutlivesNoAlias (call_context_at (settings before) now)) (settings before)
      before.client.cache call is.parts result after.client.cache

-- what is given for a name is looked up, with these promises: it gives a name, or its fault
abbrev pub PromisesName : {H : Type 0} → HandleStep H → (Result NameValue NameError → Type 0) → RecordType → ℕ
    → ResolverValue H → LookupResult → ResolverValue H → Type 0
PromisesName step Gives t now before result after =
    (name : Result NameValue NameError) × Gives name
    × IsPromisedCall step now (name_call t name) before result after

-- What is given for a host is looked up, with these promises: it spells an address or none, and gives a name,
-- or its fault. Where memory runs out while the name is read, that is the answer, and nothing is asked.
abbrev pub PromisesHost : {H : Type 0} → HandleStep H → (Option IpAddr → Type 0)
    → (Result NameValue NameError → Type 0) → ℕ → ResolverValue H → LookupResult → ResolverValue H → Type 0
PromisesHost step Spells Gives now before result after =
    (address : Option IpAddr) × Spells address × (name : Result NameValue NameError) × Gives name
    × (((name ≢ Err name_fault.OutOfMemory)
    × IsPromisedCall step now (address_call (settings before) address name now) before result after)
    ⊎ ((name ≡ Err name_fault.OutOfMemory) × (result ≡ Err OutOfMemory) × (after ≡ before)))

-- ---- a clear

-- What is known of the entries before is known of those after: what covers them, and what they mean.
pub record KeepsWhatIsKnown (before after : CacheValue) : Type 0 where
  pub covered : (sources : List Dated) → AreFreshEntries before sources → AreFreshEntries after sources
  pub meant : (table : TableValue) → AreWhatTheyResolveTo table before → AreWhatTheyResolveTo table after
