-- A resolver: a client, a table of hosts, and what it is configured with; and what a look-up by it does.
use Rattle.std.specs.Prelude.{◌≡◌, ◌≢◌, ◌⊎◌, ℕ, Bool, List, [], Option, Result, Ok, Err}
use Rattle.std.specs.Option.{option_map_or}
use Rattle.std.specs.declared.net.IpAddr.{IpAddr}
use Rattle.hickory_proto_core.specs.Name.{NameValue}
use Rattle.hickory_proto_core.specs.Handles.{HandleStep, Leads}
use Rattle.hickory_proto_core.specs.codes.record_type.RecordType.{RecordType}
use Rattle.hickory_proto_core.specs.names.name_error.NameError.{NameError}
use Rattle.hickory_proto_core.specs.names.name_error.NameError.TheVariants as name_fault
use Rattle.hickory_proto_core.specs.declared.net_error.NetError.{NetError}
use Rattle.hickory_proto_core.specs.declared.net_error.NetError.TheVariants.{Bounds, OutOfMemory}
use Rattle.hickory_proto_core.specs.declared.dns_request.DnsRequestOptions.{DnsRequestOptions}
use Rattle.hickory_resolver_config.specs.ResolverConfig.{ResolverConfigValue, OptionsValue}
use Rattle.hickory_resolver_model.specs.Bounds.{bounds_fault}
use Rattle.hickory_resolver_model.specs.Options.{bounds_of}
use Rattle.hickory_resolver_model.specs.Lookup.{LookupResult}
use Rattle.hickory_resolver_model.specs.Hosts.{Host}
use Rattle.hickory_resolver_model.specs.Client.{ClientValue}
use Rattle.hickory_resolver_model.specs.Calls.{CallContext, SubLookup, CallPlan, IsAnsweredAlone, Says, AreAttempts, asks_of_sub_lookups}
use Rattle.hickory_resolver_model.specs.Run.{Settings, settings_of, call_context_at, first_cache, Call, IsCall, RanOutBeforeAsking, name_call, address_call, after_clear}

-- where a call of a client starts, over a table of hosts
abbrev pub call_context_of : {H : Type 0} → ClientValue H → List Host → ℕ → CallContext
call_context_of client hosts now =
    record { now = now; preserve_intermediates = client.preserve_intermediates; hosts = hosts }

-- A client looks these names up: the exchanges of the sub-look-ups led its handle, each with these options;
-- the reply and the cache after it are those of the attempts at the names. The flag says whether the hosts are
-- looked at for the first name.
pub record LooksUp
    {H : Type 0} (step : HandleStep H) (options : DnsRequestOptions) (hosts : List Host) (now : ℕ) (plan : CallPlan)
    (with_hosts : Bool) (names : List NameValue) (before : ClientValue H) (result : LookupResult)
    (after : ClientValue H)
    : Type 0 where
  pub parts : List SubLookup
  pub led : Leads step options before.handle (asks_of_sub_lookups parts) after.handle
  pub are : AreAttempts
      (IsAnsweredAlone
      (call_context_of before hosts now)) plan with_hosts before.cache names
      (Says plan.no_names) parts result after.cache
  pub option_stays : after.preserve_intermediates ≡ before.preserve_intermediates

-- what a caller sees of a resolver
pub record ResolverValue (H : Type 0) : Type 0 where
  pub client : ClientValue H
  pub hosts : List Host
  pub config : ResolverConfigValue
  pub options : OptionsValue

-- what a resolver is set to. The client knows whether intermediate records are preserved
abbrev pub settings : {H : Type 0} → ResolverValue H → Settings
settings r =
    record (settings_of r.config r.options r.hosts) {
      preserve_intermediates = r.client.preserve_intermediates;
    }

-- a new resolver has an empty cache and an empty table of hosts
abbrev pub new_resolver : {H : Type 0} → ResolverConfigValue → OptionsValue → H → ResolverValue H
new_resolver config options handle = record {
  client =
      record {
        cache = first_cache (settings_of config options []);
        handle = handle;
        preserve_intermediates = options.preserve_intermediates;
      };
  hosts = [];
  config = config;
  options = options;
}

-- A resolver answers a call: the exchanges of the call's sub-look-ups led its handle, each with its options;
-- the reply and the cache after it are those of the call. All else stays.
pub record AnswersCall
    {H : Type 0} (step : HandleStep H) (now : ℕ) (call : Call) (before : ResolverValue H) (result : LookupResult)
    (after : ResolverValue H)
    : Type 0 where
  pub parts : List SubLookup
  pub led : Leads step (settings before).request_options before.client.handle (asks_of_sub_lookups parts)
      after.client.handle
  pub is :
      IsCall (IsAnsweredAlone (call_context_at (settings before) now)) (settings before) before.client.cache call
      parts result after.client.cache
      ⊎ RanOutBeforeAsking before.client.cache parts result after.client.cache
  pub option_stays : after.client.preserve_intermediates ≡ before.client.preserve_intermediates
  pub others_stay : after ≡ record before { client = after.client }

-- what is given for a name is looked up: it gives a name, or its fault
abbrev pub AnswersName : {H : Type 0} → HandleStep H → (Result NameValue NameError → Type 0) → RecordType → ℕ
    → ResolverValue H → LookupResult → ResolverValue H → Type 0
AnswersName step Gives t now before result after =
    (name : Result NameValue NameError) × Gives name × AnswersCall step now (name_call t name) before result after

-- What is given for a host is looked up: it spells an address or none, and gives a name, or its fault. Where
-- memory runs out while the name is read, that is the answer, and nothing is asked.
abbrev pub AnswersHost : {H : Type 0} → HandleStep H → (Option IpAddr → Type 0)
    → (Result NameValue NameError → Type 0) → ℕ → ResolverValue H → LookupResult → ResolverValue H → Type 0
AnswersHost step Spells Gives now before result after =
    (address : Option IpAddr) × Spells address × (name : Result NameValue NameError) × Gives name
    × (((name ≢ Err name_fault.OutOfMemory)
    × AnswersCall step now (address_call (settings before) address name now) before result after)
    ⊎ ((name ≡ Err name_fault.OutOfMemory) × (result ≡ Err OutOfMemory) × (after ≡ before)))

-- the resolver without what its cache had for the attempts at a name
abbrev pub after_clear_lookup : {H : Type 0} → RecordType → Result NameValue NameError → ResolverValue H
    → ResolverValue H
after_clear_lookup t name r =
    record r { client = record r.client { cache = after_clear (settings r) t name r.client.cache } }

-- what a builder of a resolver was given
pub record BuilderValue (H : Type 0) : Type 0 where
  pub config : ResolverConfigValue
  pub options : OptionsValue
  pub handle : H

-- the resolver that is built, or the fault of its bounds
abbrev pub built : {H : Type 0} → BuilderValue H → Result (ResolverValue H) NetError
built b =
    option_map_or (λ fault. Err (Bounds fault)) (bounds_fault (bounds_of b.options))
    (Ok (new_resolver b.config b.options b.handle))
