-- Calls of a resolver that do no I/O: one is started, and one goes on.
use Rattle.std.specs.Prelude.{◌≡◌, ◌≢◌, ◌⊎◌, ℕ, Option, Result, Err}
use Rattle.std.specs.declared.net.IpAddr.{IpAddr}
use Rattle.hickory_proto_core.specs.Handles.{OutcomeValue}
use Rattle.hickory_proto_core.specs.Name.{NameValue}
use Rattle.hickory_proto_core.specs.codes.record_type.RecordType.{RecordType}
use Rattle.hickory_proto_core.specs.names.name_error.NameError.{NameError}
use Rattle.hickory_proto_core.specs.names.name_error.NameError.TheVariants as name_fault
use Rattle.hickory_proto_core.specs.declared.net_error.NetError.TheVariants.{OutOfMemory}
use Rattle.hickory_resolver_model.specs.Resuming.{IsDone}
use Rattle.hickory_resolver_model.specs.Resolver.{ResolverValue, settings}
use Rattle.hickory_resolver_model.specs.Run.{Call, call_context_at, name_call, address_call}
use Rattle.hickory_resolver_theorems.specs.ResumingCalls.{WaitingCallValue, CallProgressValue}
use Rattle.hickory_resolver_theorems.specs.ResumingCalls.{StartsCall, RunsOutAtStart, ResumesCall}

-- of a resolver the cache alone may have changed
abbrev pub KeepsAllButCache : {H : Type 0} → ResolverValue H → ResolverValue H → Type 0
KeepsAllButCache before after =
    after ≡ record before { client = record before.client { cache = after.client.cache } }

-- a resolver starts a call, or memory runs out before anything is looked up
pub record StartsAt
    {H : Type 0} (now : ℕ) (call : Call) (before : ResolverValue H) (progress : CallProgressValue)
    (after : ResolverValue H)
    : Type 0 where
  pub starts :
      StartsCall (call_context_at (settings before) now) (settings before) call before.client.cache progress
      after.client.cache
      ⊎ RunsOutAtStart before.client.cache progress after.client.cache
  pub others_stay : KeepsAllButCache before after

-- a look-up of what is given for a name is started: it gives a name, or its fault
abbrev pub StartsName : {H : Type 0} → (Result NameValue NameError → Type 0) → RecordType → ℕ → ResolverValue H
    → CallProgressValue → ResolverValue H → Type 0
StartsName Gives t now before progress after =
    (name : Result NameValue NameError) × Gives name × StartsAt now (name_call t name) before progress after

-- A look-up of what is given for a host is started: it spells an address or none, and gives a name, or its fault.
-- Where memory runs out while the name is read, that is the answer, and nothing is looked up.
abbrev pub StartsHost : {H : Type 0} → (Option IpAddr → Type 0) → (Result NameValue NameError → Type 0) → ℕ
    → ResolverValue H → CallProgressValue → ResolverValue H → Type 0
StartsHost Spells Gives now before progress after =
    (address : Option IpAddr) × Spells address × (name : Result NameValue NameError) × Gives name
    × (((name ≢ Err name_fault.OutOfMemory)
    × StartsAt now (address_call (settings before) address name now) before progress after)
    ⊎ ((name ≡ Err name_fault.OutOfMemory) × (progress ≡ IsDone (Err OutOfMemory)) × (after ≡ before)))

-- a resolver goes on with a call by what came back to its question
pub record ResumesAt
    {H : Type 0} (w : WaitingCallValue) (outcome : OutcomeValue) (before : ResolverValue H)
    (progress : CallProgressValue) (after : ResolverValue H)
    : Type 0 where
  pub resumes : ResumesCall (call_context_at (settings before) w.lookup.now) w outcome before.client.cache progress
      after.client.cache
  pub others_stay : KeepsAllButCache before after
