-- A client: a cache over a handle, and what a look-up by it does.
use Rattle.std.specs.Prelude.{◌≡◌, ℕ, Bool, List, [], None}
use Rattle.hickory_proto_core.specs.Handles.{HandleStep, Leads}
use Rattle.hickory_proto_core.specs.declared.query.Query.{Query}
use Rattle.hickory_proto_core.specs.declared.dns_request.DnsRequestOptions.{DnsRequestOptions}
use Rattle.hickory_proto_core.specs.declared.recorded.Exchange.{Exchange}
use Rattle.hickory_resolver_model.specs.Bounds.{no_bounds}
use Rattle.hickory_resolver_model.specs.Cache.{CacheValue}
use Rattle.hickory_resolver_model.specs.Lookup.{LookupResult}
use Rattle.hickory_resolver_model.specs.Hops.{LookupContext, RunsOutForAReply, IsReply}

-- what a caller sees of a client
pub record ClientValue (H : Type 0) : Type 0 where
  pub cache : CacheValue
  pub handle : H
  pub preserve_intermediates : Bool

abbrev pub context_of : {H : Type 0} → ClientValue H → ℕ → LookupContext
context_of client now =
    record { cache = client.cache; now = now; preserve_intermediates = client.preserve_intermediates }

-- A look-up: the exchanges that it made led the handle, each with these options; the reply and the cache
-- after it are those of the hops of the question.
pub record IsLookup
    {H : Type 0} (step : HandleStep H) (options : DnsRequestOptions) (now : ℕ) (before : ClientValue H)
    (question : Query) (result : LookupResult) (after : ClientValue H)
    : Type 0 where
  pub asks : List Exchange
  pub led : Leads step options before.handle asks after.handle
  pub reply : IsReply (context_of before now) question asks result after.cache
  pub runs_out : RunsOutForAReply (context_of before now) question asks result
  pub option_stays : after.preserve_intermediates ≡ before.preserve_intermediates

-- the cache alone may have changed
pub record KeepsHandle {H : Type 0} (before after : ClientValue H) : Type 0 where
  pub handle_is : after.handle ≡ before.handle
  pub option_is : after.preserve_intermediates ≡ before.preserve_intermediates

-- a cache without entries and with the default bounds: every least is 0, and every greatest a day
abbrev pub empty_cache : ℕ → CacheValue
empty_cache capacity =
    record { capacity = capacity; octets = None; config = record { default = no_bounds; by_type = [] }; entries = [] }
