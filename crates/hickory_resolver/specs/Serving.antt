-- What the parts of a run say of each other: a request, and requests in order.
use Rattle.std.specs.Prelude.{◌≡◌, ◌⊎◌, List, [], ◌∷◌, ◌++◌}
use Rattle.hickory_proto_core.specs.declared.recorded.Exchange.{Exchange}
use Rattle.hickory_proto_core.specs.Handles.{HandleStep, Leads, RecordedValue}
use Rattle.hickory_resolver_model.specs.Calls.{SubLookup, asks_of_sub_lookups}
use Rattle.hickory_resolver_model.specs.Resolver.{ResolverValue, settings}
use Rattle.hickory_resolver_model.specs.Run.{answers_at, RequestValue, StepReply, StepValue, IsServed, Run}
use Rattle.hickory_resolver.specs.Listening.{Hears}

-- A resolver answers a request: the exchanges of the request's sub-look-ups led its handle. Nothing but the
-- client changes.
pub record Answered
    {R : Type 0} (step : HandleStep R) (request : RequestValue) (before : ResolverValue R) (reply : StepReply)
    (after : ResolverValue R)
    : Type 0 where
  pub parts : List SubLookup
  pub led : Leads step (settings before).request_options before.client.handle (asks_of_sub_lookups parts)
      after.client.handle
  pub served : IsServed (answers_at (settings before)) (settings before)
      before.client.cache request parts reply after.client.cache
  pub option_stays : after.client.preserve_intermediates ≡ before.client.preserve_intermediates
  pub others_stay : after ≡ record before { client = after.client }

-- Requests make a run of the definition from this resolver on: these steps and these exchanges, which led the
-- handle below and were kept.
pub record MakesRun
    {H : Type 0} (step : HandleStep H) (before : ResolverValue (RecordedValue H)) (requests : List RequestValue)
    (steps : List StepValue) (exchanges : List Exchange) (after : ResolverValue (RecordedValue H))
    : Type 0 where
  pub run : Run (settings before) before.client.cache requests steps exchanges after.client.cache
  pub led : Leads step (settings before).request_options before.client.handle.handle exchanges
      after.client.handle.handle
  pub exchanges_are : after.client.handle.exchanges ≡ before.client.handle.exchanges ++ exchanges
  pub option_stays : after.client.preserve_intermediates ≡ before.client.preserve_intermediates
  pub others_stay : after ≡ record before { client = after.client }

-- a listener hears of the steps of some requests in order, and fails at the next
abbrev pub FailsToHear : {L : Type 0} → Hears L → Hears L → L → List RequestValue → L → Type 0
FailsToHear hears fails before [] after = ⊥
FailsToHear {L} hears fails before (request ∷ requests) after =
    (sent : List Exchange) × (made : StepValue)
    × (fails before request sent made after
    ⊎ ((mid : L) × hears before request sent made mid × FailsToHear hears fails mid requests after))
