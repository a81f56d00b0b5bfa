-- What is promised of a look-up of the client, and of a run: each is one statement, that there is a look-up (a run)
-- of the definition which is what was done, and of it these hold.
use Rattle.std.specs.Prelude.{◌≤◌, ℕ, List, length}
use Rattle.hickory_proto_core.specs.Handles.{HandleStep}
use Rattle.hickory_proto_core.specs.declared.query.Query.{Query}
use Rattle.hickory_proto_core.specs.declared.dns_request.DnsRequestOptions.{DnsRequestOptions}
use Rattle.hickory_proto_core.specs.declared.recorded.Exchange.{Exchange}
use Rattle.hickory_resolver_model.specs.Cache.{CacheValue}
use Rattle.hickory_resolver_model.specs.Lookup.{LookupResult}
use Rattle.hickory_resolver_model.specs.Hops.{one_cache}
use Rattle.hickory_resolver_model.specs.Client.{ClientValue, context_of, IsLookup}
use Rattle.hickory_resolver_model.specs.Run.{Settings, first_cache, RequestValue, StepValue, LedRun}
use Rattle.hickory_resolver_theorems.specs.Statements.{IsFresh, IsTransparent, Headline}
use Rattle.hickory_resolver_theorems.specs.Provenance.{HasProvenance}
use Rattle.hickory_resolver_theorems.specs.Aliases.{NoAliasOutlives, RunOutlivesNoAlias}

-- A look-up of a client: eight questions are sent at most; every answer of the asked type has a source, and outlives
-- nothing that was received; a cache changes no answer; no alias outlives its CNAMEs. Each has its own premises.
pub record IsPromisedLookup
    {H : Type 0} (step : HandleStep H) (options : DnsRequestOptions) (now : ℕ) (before : ClientValue H)
    (question : Query) (result : LookupResult) (after : ClientValue H)
    : Type 0 where
  pub is : IsLookup step options now before question result after
  pub few : length is.asks ≤ 8
  pub provenance : HasProvenance (context_of before now) (one_cache (context_of before now) is.asks) question is.asks
      result after.cache is.reply
  pub fresh : IsFresh (context_of before now) question is.asks result after.cache
  pub transparent : IsTransparent (context_of before now) question is.asks result after.cache
  pub no_alias_outlives : NoAliasOutlives (context_of before now) (one_cache (context_of before now) is.asks) question
      is.asks result after.cache is.reply

-- A run over a handle, from a new resolver: the headline, and that no alias outlives its CNAMEs.
pub record PromisedRun
    {H : Type 0} (step : HandleStep H) (s : Settings) (handle : H) (requests : List RequestValue)
    (steps : List StepValue) (exchanges : List Exchange) (handle_after : H) (cache_after : CacheValue)
    : Type 0 where
  pub is : LedRun step s handle requests steps exchanges handle_after cache_after
  pub headline : Headline s (first_cache s) requests steps exchanges cache_after is.run
  pub no_alias_outlives : RunOutlivesNoAlias s (first_cache s) requests steps exchanges cache_after is.run
