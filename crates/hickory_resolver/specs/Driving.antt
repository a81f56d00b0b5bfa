-- A call that is driven to its end: each of its questions is sent, and it goes on with what comes back.
use Rattle.std.specs.Prelude.{◌≡◌, ℕ, Bool, List}
use Rattle.hickory_proto_core.specs.Handles.{HandleStep, OutcomeValue}
use Rattle.hickory_proto_core.specs.Name.{NameValue}
use Rattle.hickory_proto_core.specs.declared.dns_request.DnsRequestOptions.{DnsRequestOptions}
use Rattle.hickory_resolver_client.specs.declared.waiting.Progress.{Progress}
use Rattle.hickory_resolver_model.specs.Calls.{CallPlan}
use Rattle.hickory_resolver_model.specs.Client.{ClientValue, KeepsHandle}
use Rattle.hickory_resolver_model.specs.Hosts.{Host}
use Rattle.hickory_resolver_model.specs.Lookup.{LookupResult}
use Rattle.hickory_resolver_model.specs.Resolver.{ResolverValue, AnswersCall, LooksUp, call_context_of}
use Rattle.hickory_resolver_model.specs.Resuming.{IsDone}
use Rattle.hickory_resolver_model.specs.Run.{Call}
use Rattle.hickory_resolver_theorems.specs.ResumingCalls.{WaitingCallValue, CallProgressValue, StartsNames, ResumesCall}
use Rattle.hickory_resolver.specs.Starting.{StartsAt}

-- how far a call of the code came
abbrev pub CallProgress : Type 0
CallProgress = Progress WaitingCallValue

-- a call sends its question to the handle of a client, with these options, and goes on with what comes back
pub record AdvancesCall
    {H : Type 0} (step : HandleStep H) (options : DnsRequestOptions) (hosts : List Host) (w : WaitingCallValue)
    (before : ClientValue H) (progress : CallProgressValue) (after : ClientValue H)
    : Type 0 where
  pub outcome : OutcomeValue
  pub sent : step before.handle (record { query = w.lookup.hop.query; options = options }) outcome after.handle
  pub resumes : ResumesCall (call_context_of before hosts w.lookup.now) w outcome before.cache progress after.cache
  pub option_stays : after.preserve_intermediates ≡ before.preserve_intermediates

-- what is done is given as it is, and nothing changes
abbrev pub IsGiven : {S : Type 0} → CallProgressValue → S → LookupResult → S → Type 0
IsGiven progress before result after =
    (given : LookupResult) → progress ≡ IsDone given → (result ≡ given) × (after ≡ before)

-- where names were begun with a client, it ends as what looking them up comes to
abbrev pub EndsNames : {H : Type 0} → HandleStep H → DnsRequestOptions → List Host → CallProgressValue
    → ClientValue H → LookupResult → ClientValue H → Type 0
EndsNames {H} step options hosts progress begun result after =
    (before : ClientValue H) (now : ℕ) (plan : CallPlan) (with_hosts : Bool) (names : List NameValue)
    → StartsNames (call_context_of before hosts now) plan with_hosts names before.cache progress begun.cache
    → KeepsHandle before begun → LooksUp step options hosts now plan with_hosts names before result after

-- where a resolver started a call, it ends as the call's answer
abbrev pub EndsCall : {H : Type 0} → HandleStep H → CallProgressValue → ResolverValue H → LookupResult
    → ResolverValue H → Type 0
EndsCall {H} step progress begun result after =
    (before : ResolverValue H) (now : ℕ) (call : Call) → StartsAt now call before progress begun
    → AnswersCall step now call before result after
