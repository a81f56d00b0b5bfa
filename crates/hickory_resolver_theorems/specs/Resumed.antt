-- What is promised of a look-up whose hops each read the cache that stood when the hop was taken. It is what is promised
-- of one over one cache: the entries before it are those of the cache that stands at its end, and what was received is
-- its own exchanges, dated with the moment of its start.
use Rattle.std.specs.Prelude.{◌≡◌, ◌≤◌, List, [], ◌∷◌, length}
use Rattle.hickory_proto_core.specs.declared.query.Query.{Query}
use Rattle.hickory_proto_core.specs.declared.recorded.Exchange.{Exchange}
use Rattle.hickory_resolver_model.specs.Cache.{CacheValue, IsCache}
use Rattle.hickory_resolver_model.specs.Lookup.{LookupResult}
use Rattle.hickory_resolver_model.specs.Hops.{LookupContext, IsWhole, IsReply, IsReplyOver, one_cache}
use Rattle.hickory_resolver_model.specs.Resuming.{ProgressValue, Waits, IsDone, Starts, Resumes}
use Rattle.hickory_resolver_theorems.specs.Aliases.{NoAliasOutlives}
use Rattle.hickory_resolver_theorems.specs.Provenance.{HasProvenance}
use Rattle.hickory_resolver_theorems.specs.Statements.{IsFresh, IsTransparent}

-- ---- a look-up that blocks

-- A look-up is driven from where it stands: what comes back to each of its questions is fed to it at once, so that
-- nothing but itself changes the cache.
abbrev pub IsDriven : LookupContext → ProgressValue → CacheValue → List Exchange → LookupResult → CacheValue → Type 0
IsDriven s progress cache [] result after = (progress ≡ IsDone result) × (after ≡ cache)
IsDriven s (Waits w) cache (x ∷ xs) result after =
    (x.query ≡ w.hop.query) × (next : ProgressValue) × (mid : CacheValue)
    × Resumes (record s { cache = cache }) w x.outcome next mid × IsDriven s next mid xs result after
IsDriven s (IsDone early) cache (x ∷ xs) result after = ⊥

-- it is started, and driven to its end
pub record IsStartedAndDriven
    (s : LookupContext) (question : Query) (asks : List Exchange) (result : LookupResult) (after : CacheValue)
    : Type 0 where
  pub progress : ProgressValue
  pub cache : CacheValue
  pub starts : Starts s question progress cache
  pub driven : IsDriven s progress cache asks result after

-- A look-up that is driven is one that blocks. One that blocks can be driven, where it ends with all its stores; where
-- memory runs out, a look-up that blocks may end in more ways, as after an error came back.
pub record IsDrivenAlike
    (s : LookupContext) (question : Query) (asks : List Exchange) (result : LookupResult) (after : CacheValue)
    : Type 0 where
  pub forth : IsStartedAndDriven s question asks result after → IsReply s question asks result after
  pub back : IsWhole s (one_cache s asks) question asks result after → IsStartedAndDriven s question asks result after

-- ---- the promises

-- Eight questions are sent at most; every answer of the asked type has a source, over what a cache may hold, and outlives
-- nothing that was received; a cache changes no answer; no alias outlives its CNAMEs. Each has its own premises. What the
-- hops before the last found in the caches that they read does not count.
pub record IsPromisedOver
    (s : LookupContext) (caches : List CacheValue) (question : Query) (asks : List Exchange) (result : LookupResult)
    (after : CacheValue) (reply : IsReplyOver s caches question asks result after)
    : Type 0 where
  pub few : length asks ≤ 8
  pub provenance : IsCache s.cache.config s.cache.capacity s.cache.entries
      → HasProvenance s caches question asks result after reply
  pub fresh : IsFresh s question asks result after
  pub transparent : IsTransparent s question asks result after
  pub no_alias_outlives : NoAliasOutlives s caches question asks result after reply
