-- What a recording handle keeps of a request.
use Rattle.std.specs.Prelude.{◌≡◌, List}
use Rattle.hickory_proto_core.specs.declared.recorded.Exchange.{Exchange}
use Rattle.hickory_resolver_model.specs.Cache.{CacheValue}
use Rattle.hickory_resolver_model.specs.Calls.{SubLookup, IsAnsweredFor, asks_of_sub_lookups}
use Rattle.hickory_resolver_model.specs.Run.{Settings, call_context_at, RequestValue, StepReply, IsServed}

-- a request is served by sub-look-ups, and these are their exchanges
pub record IsServedOver
    (s : Settings) (before : CacheValue) (request : RequestValue) (exchanges : List Exchange)
    (reply : StepReply) (after : CacheValue)
    : Type 0 where
  pub parts : List SubLookup
  pub asks_are : asks_of_sub_lookups parts ≡ exchanges
  pub served : IsServed (λ now. IsAnsweredFor (call_context_at s now)) s before request parts reply after
