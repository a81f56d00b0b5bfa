-- A run: a list of requests, one after another, over one cache; the exchanges of the whole run are cut into
-- one piece for each.
use Rattle.std.specs.Prelude.{◌≡◌, ◌⊎◌, ℕ, Bool, nat_le, if◌then◌else◌, true, false, List, [], ◌∷◌, codes, length, map, flat_map, Option, Some, None, Result, Ok, Err}
use Rattle.hickory_proto_core.specs.Name.{NameValue}
use Rattle.hickory_proto_core.specs.NameDecided.{IsReading}
use Rattle.hickory_proto_core.specs.NameGiven.{IsReadAddress}
use Rattle.hickory_proto_core.specs.NetErrors.{net_error_of}
use Rattle.hickory_proto_core.specs.Handles.{HandleStep, Leads}
use Rattle.hickory_proto_core.specs.codes.record_type.RecordType.{RecordType}
use Rattle.hickory_proto_core.specs.codes.record_type.RecordType.TheVariants as type
use Rattle.hickory_proto_core.specs.declared.dns_request.DnsRequestOptions.{DnsRequestOptions}
use Rattle.hickory_proto_core.specs.declared.recorded.Exchange.{Exchange}
use Rattle.hickory_proto_core.specs.names.name_error.NameError.{NameError}
use Rattle.hickory_proto_core.specs.declared.net_error.NetError.{NetError}
use Rattle.hickory_proto_core.specs.declared.net_error.NetError.TheVariants.{OutOfMemory}
use Rattle.std.specs.declared.net.IpAddr.{IpAddr}
use Rattle.hickory_resolver_config.specs.ResolverConfig.{ResolverConfigValue, OptionsValue}
use Rattle.hickory_resolver_config.specs.declared.strategies.LookupIpStrategy.{LookupIpStrategy}
use Rattle.hickory_resolver_config.specs.declared.strategies.LookupIpStrategy.TheVariants.{Ipv4Only, Ipv6Only, Ipv4AndIpv6, Ipv6AndIpv4, Ipv6thenIpv4, Ipv4thenIpv6}
use Rattle.hickory_proto_core.specs.Records.{data_of_address}
use Rattle.hickory_resolver_model.specs.Bounds.{BoundsValue}
use Rattle.hickory_resolver_model.specs.Cache.{CacheValue, without_query}
use Rattle.hickory_resolver_model.specs.Lookup.{LookupValue, LookupResult, question_of}
use Rattle.hickory_resolver_model.specs.Hosts.{Host}
use Rattle.hickory_resolver_model.specs.Attempts.{Search, attempts}
use Rattle.hickory_resolver_model.specs.Options.{search_of, bounds_of, request_options_of}
use Rattle.hickory_resolver_model.specs.Calls.{CallContext, FamilyOrder, One, Both, Fallback, SubLookup, SubLookupRelation, IsAnsweredFor, CallPlan, Says, AreAttempts, no_name, literal_at_once, last_resort, asks_of_sub_lookups, is_out_of_memory}

-- which addresses a look-up of addresses asks for
abbrev pub family_order : LookupIpStrategy → FamilyOrder
family_order Ipv4Only = One type.A
family_order Ipv6Only = One type.AAAA
family_order Ipv4AndIpv6 = Both type.A type.AAAA
family_order Ipv6AndIpv4 = Both type.AAAA type.A
family_order Ipv6thenIpv4 = Fallback type.AAAA type.A
family_order Ipv4thenIpv6 = Fallback type.A type.AAAA

-- what stays the same in a run: how names are attempted, which addresses are asked for, whether intermediate
-- records are preserved, how many entries and how many octets the cache has room for and the bounds on times to live, how each
-- question is sent, and the table of hosts
pub record Settings : Type 0 where
  pub search : Search
  pub strategy : LookupIpStrategy
  pub preserve_intermediates : Bool
  pub capacity : ℕ
  pub octets : Option ℕ
  pub bounds : BoundsValue
  pub request_options : DnsRequestOptions
  pub hosts : List Host

-- the settings of a resolver with this configuration, these options and this table of hosts
abbrev pub settings_of : ResolverConfigValue → OptionsValue → List Host → Settings
settings_of config options hosts = record {
  search = search_of config options;
  strategy = options.ip_strategy;
  preserve_intermediates = options.preserve_intermediates;
  capacity = options.cache_size;
  octets = options.cache_octets;
  bounds = bounds_of options;
  request_options = request_options_of options;
  hosts = hosts;
}

-- the cache of a new resolver
abbrev pub first_cache : Settings → CacheValue
first_cache s =
    record { capacity = s.capacity; octets = s.octets; config = record { default = s.bounds; by_type = [] }; entries = [] }

abbrev pub call_context_at : Settings → ℕ → CallContext
call_context_at s now = record { now = now; preserve_intermediates = s.preserve_intermediates; hosts = s.hosts }

-- requests: names and hosts are texts, moments are seconds
pub data RequestValue : Type 0 where
  Lookup : List ℕ → RecordType → ℕ → RequestValue
  LookupIp : List ℕ → ℕ → RequestValue
  ClearLookup : List ℕ → RecordType → ℕ → RequestValue
  Clear : ℕ → RequestValue

abbrev pub moment_of : RequestValue → ℕ
moment_of (Lookup name t now) = now
moment_of (LookupIp host now) = now
moment_of (ClearLookup name t now) = now
moment_of (Clear now) = now

-- what a request is answered: what a look-up of a name or of addresses came to, or whether a clear was done
pub data StepReply : Type 0 where
  LookedUp : LookupResult → StepReply
  LookedUpIp : LookupResult → StepReply
  Cleared : Result (Unit {0}) NetError → StepReply

abbrev pub ends_run : StepReply → Bool
ends_run (LookedUp r) = is_out_of_memory r
ends_run (LookedUpIp r) = is_out_of_memory r
ends_run (Cleared (Ok u)) = false
ends_run (Cleared (Err e)) = true

-- What is given for a name: the address that it spells, if it spells one, and the name, or why it is none.
pub record GivenName : Type 0 where
  pub address : Option IpAddr
  pub name : Result NameValue NameError

-- what a text gives
abbrev pub IsGivenBy : List ℕ → GivenName → Type 0
IsGivenBy text given = IsReadAddress text given.address × IsReading text given.name

-- what a look-up does: it answers at once, or attempts a name
pub data Call : Type 0 where
  AtOnce : LookupResult → Call
  Attempt : NameValue → CallPlan → Call

-- the attempts of a look-up of a name: the hosts are looked at for the first one alone
abbrev pub name_plan : RecordType → CallPlan
name_plan t = record {
  types = One t;
  hosts_for_all = false;
  literal = None;
  no_names = codes "can not lookup for no names";
}

-- A look-up of a name. What is no name is answered its fault.
abbrev pub name_call : RecordType → Result NameValue NameError → Call
name_call t (Ok n) = Attempt n (name_plan t)
name_call t (Err fault) = AtOnce (Err (net_error_of fault))

-- the attempts of a look-up of addresses: the hosts are looked at for every name
abbrev pub address_plan : LookupIpStrategy → Option LookupValue → CallPlan
address_plan strategy literal = record {
  types = family_order strategy;
  hosts_for_all = true;
  literal = literal;
  no_names = codes "can not lookup IPs for no names";
}

-- A look-up of addresses: an address is the reply at once where `ndots` is 4 at the most or it is no name;
-- else it is the last resort. What is neither an address nor a name is answered its fault.
abbrev pub address_call : Settings → Option IpAddr → Result NameValue NameError → ℕ → Call
address_call s None (Ok n) now = Attempt n (address_plan s.strategy None)
address_call s None (Err fault) now = AtOnce (Err (net_error_of fault))
address_call s (Some address) (Ok n) now =
    if nat_le s.search.ndots 4 then AtOnce (Ok (literal_at_once n address now))
    else Attempt n (address_plan s.strategy (Some (last_resort (data_of_address address) now)))
address_call s (Some address) (Err fault) now = AtOnce (Ok (literal_at_once no_name address now))

-- the reply, the sub-look-ups and the cache after a look-up, where each sub-look-up is answered by the relation `Answers`
abbrev pub IsCall : SubLookupRelation → Settings → CacheValue → Call → List SubLookup → LookupResult
    → CacheValue → Type 0
IsCall Answers s before (AtOnce answer) parts reply after = (parts ≡ []) × (reply ≡ answer) × (after ≡ before)
IsCall Answers s before (Attempt n plan) parts reply after =
    AreAttempts Answers plan true before (attempts s.search n) (Says plan.no_names) parts reply after

-- memory ran out before anything was asked
abbrev pub RanOutBeforeAsking : CacheValue → List SubLookup → LookupResult → CacheValue → Type 0
RanOutBeforeAsking before parts reply after = (parts ≡ []) × (reply ≡ Err OutOfMemory) × (after ≡ before)

-- the cache without the questions of a name's attempts; what is no name clears nothing
abbrev pub drop_each : RecordType → List NameValue → CacheValue → CacheValue
drop_each t [] cache = cache
drop_each t (n ∷ ns) cache = drop_each t ns (without_query cache (question_of n t))

abbrev pub after_clear : Settings → RecordType → Result NameValue NameError → CacheValue → CacheValue
after_clear s t (Ok n) cache = drop_each t (attempts s.search n) cache
after_clear s t (Err fault) cache = cache

-- a request is served: its sub-look-ups, each answered by the relation `Answers`, what it is answered, and the
-- cache after it
abbrev pub IsServed : (ℕ → SubLookupRelation) → Settings → CacheValue → RequestValue → List SubLookup
    → StepReply → CacheValue → Type 0
IsServed Answers s before (Lookup text t now) parts (LookedUp reply) after =
    ((name : Result NameValue NameError) × IsReading text name
    × IsCall (Answers now) s before (name_call t name) parts reply after)
    ⊎ RanOutBeforeAsking before parts reply after
IsServed Answers s before (LookupIp text now) parts (LookedUpIp reply) after =
    ((given : GivenName) × IsGivenBy text given
    × IsCall (Answers now) s before (address_call s given.address given.name now) parts reply after)
    ⊎ RanOutBeforeAsking before parts reply after
IsServed Answers s before (ClearLookup text t now) parts (Cleared (Ok u)) after =
    (parts ≡ []) × ((name : Result NameValue NameError) × IsReading text name
    × (after ≡ after_clear s t name before))
IsServed Answers s before (ClearLookup text t now) parts (Cleared (Err e)) after =
    (parts ≡ []) × (e ≡ OutOfMemory) × (after ≡ before)
IsServed Answers s before (Clear now) parts (Cleared (Ok u)) after =
    (parts ≡ []) × (after ≡ record before { entries = [] })
IsServed Answers s before _ parts _ after = ⊥

-- one step a request: its moment, how many exchanges it made, and what it is answered
pub record StepValue : Type 0 where
  pub now : ℕ
  pub exchanges : ℕ
  pub reply : StepReply

-- a step with what it was made of: the request, the cache before it, its piece of the exchanges, and its
-- parts
pub record Stage : Type 0 where
  pub request : RequestValue
  pub before : CacheValue
  pub piece : List Exchange
  pub parts : List SubLookup
  pub step : StepValue

-- the request is served, its sub-look-ups are answered by the relation `Answers`, and their exchanges are its piece
pub record IsStageBy
    (Answers : ℕ → SubLookupRelation) (s : Settings) (stage : Stage) (after : CacheValue)
    : Type 0 where
  pub served : IsServed Answers s stage.before stage.request stage.parts stage.step.reply after
  pub piece_is : stage.piece ≡ asks_of_sub_lookups stage.parts
  pub now_is : stage.step.now ≡ moment_of stage.request
  pub count_is : stage.step.exchanges ≡ length stage.piece

-- One stage a request: each is served over the cache that the one before it left. A request that is answered
-- out of memory is the last.
abbrev pub AreStagesBy : (ℕ → SubLookupRelation) → Settings → CacheValue → List RequestValue → List Stage
    → CacheValue → Type 0
AreStagesBy Answers s before [] [] after = after ≡ before
AreStagesBy Answers s before (request ∷ requests) (stage ∷ stages) after =
    (mid : CacheValue) × (stage.request ≡ request) × (stage.before ≡ before) × IsStageBy Answers s stage mid
    × (((ends_run stage.step.reply ≡ true) × (stages ≡ []) × (after ≡ mid))
    ⊎ ((ends_run stage.step.reply ≡ false) × AreStagesBy Answers s mid requests stages after))
AreStagesBy Answers s before _ _ after = ⊥

-- by the table of hosts and by the client
abbrev pub answers_at : Settings → ℕ → SubLookupRelation
answers_at s now = IsAnsweredFor (call_context_at s now)

abbrev pub IsStage : Settings → Stage → CacheValue → Type 0
IsStage s stage after = IsStageBy (answers_at s) s stage after

abbrev pub AreStages : Settings → CacheValue → List RequestValue → List Stage → CacheValue → Type 0
AreStages s before requests stages after = AreStagesBy (answers_at s) s before requests stages after

abbrev pub exchanges_of : List Stage → List Exchange
exchanges_of stages = flat_map (λ stage. stage.piece) stages

-- A run: the exchanges are cut into pieces, one a request, and the steps are those of the requests over these
-- pieces.
pub record Run
    (s : Settings) (before : CacheValue) (requests : List RequestValue) (steps : List StepValue)
    (exchanges : List Exchange) (after : CacheValue)
    : Type 0 where
  pub stages : List Stage
  pub joined : exchanges_of stages ≡ exchanges
  pub steps_are : map (λ stage. stage.step) stages ≡ steps
  pub are : AreStages s before requests stages after

-- A run over a handle: the exchanges led the handle, each with the options of the settings, and the replies
-- and the cache are those of a run from a new resolver's cache.
pub record LedRun
    {H : Type 0} (step : HandleStep H) (s : Settings) (handle : H) (requests : List RequestValue)
    (steps : List StepValue) (exchanges : List Exchange) (handle_after : H) (cache_after : CacheValue)
    : Type 0 where
  pub led : Leads step s.request_options handle exchanges handle_after
  pub run : Run s (first_cache s) requests steps exchanges cache_after
