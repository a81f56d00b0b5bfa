-- A client without its handle, and how far its look-ups come.
use Rattle.std.specs.Prelude.{◌≡◌, ℕ, Bool, List, [], ◌∷◌, Option, None, Some}
use Rattle.hickory_proto_core.specs.Handles.{HandleStep, OutcomeValue}
use Rattle.hickory_proto_core.specs.declared.dns_request.DnsRequestOptions.{DnsRequestOptions}
use Rattle.hickory_proto_core.specs.declared.query.Query.{Query}
use Rattle.hickory_resolver_model.specs.Cache.{CacheValue}
use Rattle.hickory_resolver_model.specs.Hops.{LookupContext, PassedValue}
use Rattle.hickory_resolver_model.specs.Client.{ClientValue, context_of}
use Rattle.hickory_resolver_model.specs.Resuming.{Progress, ProgressValue, Waits, IsDone, WaitingValue, Resumes}
use Rattle.hickory_resolver_client.specs.declared.waiting.Progress as code
use Rattle.hickory_resolver_client.specs.declared.waiting.Progress.TheVariants.{Waiting, Done}

-- what a caller sees of it
pub record ClientStateValue : Type 0 where
  pub cache : CacheValue
  pub preserve_intermediates : Bool

-- where a look-up stands with it, whose moment this is
abbrev pub state_context : ClientStateValue → ℕ → LookupContext
state_context state now =
    record { cache = state.cache; now = now; preserve_intermediates = state.preserve_intermediates }

-- how far a look-up or a call of the code came
abbrev pub progress_of : {W : Type 0} → code.Progress W → Progress W
progress_of (Waiting w) = Waits w
progress_of (Done result) = IsDone result

-- a look-up sends its question to the handle of a client, with these options, and goes on with what comes back
pub record Advances
    {H : Type 0} (step : HandleStep H) (options : DnsRequestOptions) (w : WaitingValue) (before : ClientValue H)
    (progress : ProgressValue) (after : ClientValue H)
    : Type 0 where
  pub outcome : OutcomeValue
  pub sent : step before.handle (record { query = w.hop.query; options = options }) outcome after.handle
  pub resumes : Resumes (context_of before w.now) w outcome progress after.cache
  pub option_stays : after.preserve_intermediates ≡ before.preserve_intermediates

-- the first of some passed questions, where there is one
abbrev pub first_passed : List PassedValue → Option Query
first_passed [] = None
first_passed (p ∷ ps) = Some p.query
