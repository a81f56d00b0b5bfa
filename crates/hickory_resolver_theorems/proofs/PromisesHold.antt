-- What is promised of look-ups and runs holds of those of the definition.
use Rattle.std.proofs.Common.{refl, ℕ, List}
use Rattle.hickory_proto_core.specs.Handles.{HandleStep}
use Rattle.hickory_proto_core.specs.declared.query.Query.{Query}
use Rattle.hickory_proto_core.specs.declared.dns_request.DnsRequestOptions.{DnsRequestOptions}
use Rattle.hickory_proto_core.specs.declared.recorded.Exchange.{Exchange}
use Rattle.hickory_resolver_model.specs.Cache.{CacheValue, IsCache}
use Rattle.hickory_resolver_model.specs.Lookup.{LookupResult}
use Rattle.hickory_resolver_model.specs.Client.{ClientValue, context_of, IsLookup}
use Rattle.hickory_resolver_model.specs.Hops.{LookupContext, IsReplyOver, one_cache}
use Rattle.hickory_resolver_model.specs.Run.{Settings, first_cache, RequestValue, StepValue, LedRun}
use Rattle.hickory_resolver_theorems.specs.Promises.{IsPromisedLookup, PromisedRun}
use Rattle.hickory_resolver_theorems.specs.Resumed.{IsPromisedOver}
use Rattle.hickory_resolver_theorems.proofs.Few.{few}
use Rattle.hickory_resolver_theorems.proofs.Provenances.{from_sources}
use Rattle.hickory_resolver_theorems.proofs.Fresh.{fresh}
use Rattle.hickory_resolver_theorems.proofs.Transparent.{transparent}
use Rattle.hickory_resolver_theorems.proofs.Headlines.{headline}
use Rattle.hickory_resolver_theorems.proofs.AliasLifetimes.{no_alias_outlives, run_limited}

pub promised_lookup : {H : Type 0} (step : HandleStep H) (options : DnsRequestOptions) (now : ℕ) (before : ClientValue H) (question : Query) (result : LookupResult) (after : ClientValue H) → IsCache before.cache.config before.cache.capacity before.cache.entries → IsLookup step options now before question result after
    → IsPromisedLookup step options now before question result after
promised_lookup step options now before question result after cache is =
    let s = context_of before now in
    let caches = one_cache s is.asks in
    record {
      is = is;
      few = few s caches question is.asks result after.cache is.reply;
      provenance = from_sources s caches question is.asks result after.cache cache is.reply;
      fresh = fresh s caches question is.asks result after.cache is.reply;
      transparent = transparent s caches question is.asks result after.cache is.reply;
      no_alias_outlives = no_alias_outlives s caches question is.asks result after.cache is.reply;
    }

pub promised_run : {H : Type 0} (step : HandleStep H) (s : Settings) (handle : H) (requests : List RequestValue) (steps : List StepValue) (exchanges : List Exchange) (handle_after : H) (cache_after : CacheValue) → LedRun step s handle requests steps exchanges handle_after cache_after
    → PromisedRun step s handle requests steps exchanges handle_after cache_after
promised_run step s handle requests steps exchanges handle_after cache_after is = record {
  is = is;
  headline = headline s (first_cache s) requests steps exchanges cache_after is.run refl;
  no_alias_outlives = run_limited s (first_cache s) requests steps exchanges cache_after is.run;
}

pub promised_over : (s : LookupContext) (caches : List CacheValue) (question : Query) (asks : List Exchange) (result : LookupResult) (after : CacheValue) (reply : IsReplyOver s caches question asks result after) → IsPromisedOver s caches question asks result after reply
promised_over s caches question asks result after reply = record {
  few = few s caches question asks result after reply;
  provenance = λ cache. from_sources s caches question asks result after cache reply;
  fresh = fresh s caches question asks result after reply;
  transparent = transparent s caches question asks result after reply;
  no_alias_outlives = no_alias_outlives s caches question asks result after reply;
}
