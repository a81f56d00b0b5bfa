-- No event of a look-up changes the bounds of the cache.
use Rattle.std.proofs.Common.{◌≡◌, ◌∙◌, Bool, List, [], ◌∷◌, ◌++◌, ap, inl, inr}
use Rattle.hickory_proto_core.specs.Handles.{OutcomeValue}
use Rattle.hickory_resolver_model.specs.Cache.{CacheValue}
use Rattle.hickory_resolver_model.specs.Lookup.{LookupResult}
use Rattle.hickory_resolver_model.specs.Verdict.{Hop, first_hop}
use Rattle.hickory_resolver_model.specs.Hops.{LookupContext, ChainEnd, Asked, PassedValue, passed_by, one_cache, stores_of}
use Rattle.hickory_resolver_model.specs.Resuming.{WaitingValue, ProgressValue, Waits, IsDone, EndsAs, ComesTo, Resumes}
use Rattle.hickory_resolver_theorems.specs.Interleaved.{WorldValue, context_in, EventValue, Started, Fed, Dropped, ClearedOfAll, ClearedOf, Blocked, Happens, Happen}
use Rattle.hickory_resolver_theorems.proofs.Stores.{stores-config}
use Rattle.hickory_resolver_theorems.proofs.Runs.{reply-config}

ends-config : (s : LookupContext) (passed : List PassedValue) (hop : Hop) (last : ChainEnd) (result : LookupResult) (after : CacheValue) → EndsAs s passed hop last result after → after.config ≡ s.cache.config
ends-config s passed hop last result after (inl (result_is, after_is)) = ap (λ c. c.config) after_is ∙ stores-config (stores_of s passed hop last) s.cache
ends-config s passed hop last result after (inr (out, takes, begun)) = ap (λ c. c.config) begun.after_is ∙ stores-config begun.front s.cache

comes-config : (s : LookupContext) (passed : List PassedValue) (hop : Hop) (progress : ProgressValue) (after : CacheValue) → ComesTo s passed hop progress after → after.config ≡ s.cache.config
comes-config s passed hop (Waits w) after (up, w_is, same) = ap (λ c. c.config) same
comes-config s passed hop (IsDone result) after (last, unasked, ends, how) = ends-config s passed hop last result after how

resumes-config : (s : LookupContext) (w : WaitingValue) (outcome : OutcomeValue) (progress : ProgressValue) (after : CacheValue) → Resumes s w outcome progress after → after.config ≡ s.cache.config
resumes-config s w outcome progress after (inl f) = elim f.goes_on [
  | inl comes ↦ comes-config s (w.passed ++ passed_by s w.hop.query outcome ∷ []) f.next progress after comes
  | inr out ↦ ap (λ c. c.config) out.1
]
resumes-config s w outcome progress after (inr e) = ends-config s w.passed w.hop (Asked outcome) e.result after e.ends

happens-config : (preserve : Bool) (before : WorldValue) (event : EventValue) (after : WorldValue) → Happens preserve before event after → after.cache.config ≡ before.cache.config
happens-config preserve before (Started question now progress) after (starts, pending_is) = comes-config (context_in preserve before now) [] (first_hop question) progress after.cache starts
happens-config preserve before (Fed p outcome progress) after (front, back, is, resumes, pending_is) = resumes-config (context_in preserve before p.waiting.now) p.waiting outcome progress after.cache resumes
happens-config preserve before (Dropped p) after (front, back, is, e) = ap (λ (w : WorldValue). w.cache.config) e
happens-config preserve before ClearedOfAll after e = ap (λ (w : WorldValue). w.cache.config) e
happens-config preserve before (ClearedOf q) after e = ap (λ (w : WorldValue). w.cache.config) e
happens-config preserve before (Blocked d) after (reply, caches_are, pending_is) = reply-config (context_in preserve before d.now) (one_cache (context_in preserve before d.now) d.asks) d.question d.asks d.result after.cache reply

pub happen-config : (preserve : Bool) (before : WorldValue) (events : List EventValue) (after : WorldValue) → Happen preserve before events after → after.cache.config ≡ before.cache.config
happen-config preserve before [] after e = ap (λ (w : WorldValue). w.cache.config) e
happen-config preserve before (event ∷ events) after (mid, is, rest) = happen-config preserve mid events after rest ∙ happens-config preserve before event mid is
