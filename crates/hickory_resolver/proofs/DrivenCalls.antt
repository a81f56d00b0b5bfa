-- A call whose questions a handle answers, step by step: it comes to the look-ups of the definition.
use Rattle.std.proofs.Common.{◌≡◌, ◌++◌, ◌∷◌, ◌∙◌, ℕ, Bool, List, [], refl, subst}
use Rattle.hickory_proto_core.specs.Name.{NameValue}
use Rattle.hickory_proto_core.specs.Handles.{HandleStep, Leads, Leads-append}
use Rattle.hickory_proto_core.specs.declared.dns_request.DnsRequestOptions.{DnsRequestOptions}
use Rattle.hickory_proto_core.specs.declared.recorded.Exchange.{Exchange}
use Rattle.hickory_resolver_model.specs.Cache.{CacheValue}
use Rattle.hickory_resolver_model.specs.Calls.{CallContext, CallPlan, IsAnsweredAlone, Says, AreAttempts}
use Rattle.hickory_resolver_model.specs.Client.{ClientValue, KeepsHandle}
use Rattle.hickory_resolver_model.specs.Hosts.{Host}
use Rattle.hickory_resolver_model.specs.Lookup.{LookupResult}
use Rattle.hickory_resolver_model.specs.Resolver.{call_context_of, LooksUp}
use Rattle.hickory_resolver_model.specs.Resuming.{IsDone, Waits}
use Rattle.hickory_resolver_theorems.proofs.SentAlone.{CallRelation, CallSoFar}
use Rattle.hickory_resolver_theorems.specs.ResumingCalls.{WaitingCallValue, CallProgressValue}
use Rattle.hickory_resolver_theorems.specs.ResumingCalls.{StartsNames, ResumesCall}
use Rattle.hickory_resolver_theorems.proofs.CallsAlone.{started, resumed}
use Rattle.hickory_resolver.specs.Driving.{AdvancesCall, EndsNames, IsGiven}

-- the attempts at some names, by the definition
abbrev pub whole_attempts : CallContext → CallPlan → Bool → List NameValue → CacheValue → CallRelation
whole_attempts s plan with_hosts names before =
    λ parts result after. AreAttempts (IsAnsweredAlone s) plan with_hosts before names (Says plan.no_names) parts result after

-- a call came so far over a client: these exchanges led its handle
pub record IsDriven
    {H : Type 0} (step : HandleStep H) (options : DnsRequestOptions) (hosts : List Host) (now : ℕ) (plan : CallPlan)
    (with_hosts : Bool) (names : List NameValue) (before : ClientValue H) (progress : CallProgressValue)
    (client : ClientValue H)
    : Type 0 where
  pub asks : List Exchange
  pub led : Leads step options before.handle asks client.handle
  pub far :
      CallSoFar (call_context_of before hosts now)
      (whole_attempts (call_context_of before hosts now) plan with_hosts names before.cache) asks progress client.cache
  pub option_is : client.preserve_intermediates ≡ before.preserve_intermediates

module _ {H : Type 0} (step : HandleStep H) (options : DnsRequestOptions) (hosts : List Host) (now : ℕ)
    (plan : CallPlan) (with_hosts : Bool) (names : List NameValue) (before : ClientValue H) where
  abbrev s : CallContext
  s = call_context_of before hosts now

  abbrev IsWhole : CallRelation
  IsWhole = whole_attempts s plan with_hosts names before.cache

  pub driven_start : (progress : CallProgressValue) (client : ClientValue H)
      → StartsNames s plan with_hosts names before.cache progress client.cache → KeepsHandle before client
      → IsDriven step options hosts now plan with_hosts names before progress client
  driven_start progress client starts keeps =
      record {
        asks = [];
        led = keeps.handle_is;
        far = started s plan with_hosts names before.cache progress client.cache starts;
        option_is = keeps.option_is;
      }

  pub driven_done : (result : LookupResult) (client : ClientValue H)
      → IsDriven step options hosts now plan with_hosts names before (IsDone result) client
      → LooksUp step options hosts now plan with_hosts names before result client
  driven_done result client d = record {
    parts = d.far.parts;
    led = subst (λ xs. Leads step options before.handle xs client.handle) d.far.asks_are d.led;
    are = d.far.whole;
    option_stays = d.option_is;
  }

  -- the question was sent, and the call went on with what came back
  module _ (w : WaitingCallValue) (client : ClientValue H)
      (d : IsDriven step options hosts now plan with_hosts names before (Waits w) client)
      (progress : CallProgressValue) (after : ClientValue H)
      (a : AdvancesCall step options hosts w client progress after) where
    abbrev x : Exchange
    x = record { query = w.lookup.hop.query; outcome = a.outcome }

    same : call_context_of client hosts w.lookup.now ≡ s
    same = λ i. record { now = d.far.lookup.now_is i; preserve_intermediates = d.option_is i; hosts = hosts }

    pub driven_on : IsDriven step options hosts now plan with_hosts names before progress after
    driven_on = record {
      asks = d.asks ++ x ∷ [];
      led = Leads-append step options before.handle client.handle after.handle d.asks (x ∷ []) d.led
          (after.handle, a.sent, refl);
      far = resumed s IsWhole d.asks w client.cache d.far a.outcome progress after.cache
          (subst (λ t. ResumesCall t w a.outcome client.cache progress after.cache) same a.resumes);
      option_is = a.option_stays ∙ d.option_is;
    }

-- A call that stood so, over this client, came so far: it is driven, by whatever names it was begun; and what was done
-- is as it was.
pub record DrivenSoFar
    {H : Type 0} (step : HandleStep H) (options : DnsRequestOptions) (hosts : List Host) (first : CallProgressValue)
    (begun : ClientValue H) (progress : CallProgressValue) (client : ClientValue H)
    : Type 0 where
  pub names :
      (before : ClientValue H) (now : ℕ) (plan : CallPlan) (with_hosts : Bool) (names : List NameValue)
      → StartsNames (call_context_of before hosts now) plan with_hosts names before.cache first begun.cache
      → KeepsHandle before begun → IsDriven step options hosts now plan with_hosts names before progress client
  pub given : (given : LookupResult) → first ≡ IsDone given → (progress ≡ IsDone given) × (client ≡ begun)

module _ {H : Type 0} (step : HandleStep H) (options : DnsRequestOptions) (hosts : List Host)
    (first : CallProgressValue) (begun : ClientValue H) where
  pub so_far_first : DrivenSoFar step options hosts first begun first begun
  so_far_first = record {
    names = λ before now plan with_hosts names starts keeps.
        driven_start step options hosts now plan with_hosts names before first begun starts keeps;
    given = λ given is. (is, refl);
  }

  pub so_far_on : (w : WaitingCallValue) (client : ClientValue H)
      → DrivenSoFar step options hosts first begun (Waits w) client → (progress : CallProgressValue)
      (after : ClientValue H) → AdvancesCall step options hosts w client progress after
      → DrivenSoFar step options hosts first begun progress after
  so_far_on w client d progress after a = record {
    names = λ before now plan with_hosts names starts keeps.
        driven_on step options hosts now plan with_hosts names before w client
        (d.names before now plan with_hosts names starts keeps) progress after a;
    given = λ given is. absurd (let clash : Waits w ≡ IsDone given = (d.given given is).0 in cc);
  }

  module _ (result : LookupResult) (client : ClientValue H)
      (d : DrivenSoFar step options hosts first begun (IsDone result) client) where
    pub so_far_names : EndsNames step options hosts first begun result client
    so_far_names = λ before now plan with_hosts names starts keeps.
        driven_done step options hosts now plan with_hosts names before result client
        (d.names before now plan with_hosts names starts keeps)

    pub so_far_given : IsGiven first begun result client
    so_far_given = λ given is.
        let same = (d.given given is).0 in
        let result_is : result ≡ given = cc in
        (result_is, (d.given given is).1)
