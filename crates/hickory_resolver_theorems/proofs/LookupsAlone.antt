-- A look-up over a cache that nobody else changes, step by step: it comes to the look-up of the definition.
use Rattle.std.proofs.Common.{◌≡◌, ◌∙◌, ℕ, true, false, List, [], ◌∷◌, ◌++◌, Some, None, refl, sym, subst}
use Rattle.std.proofs.lemmas.List.{map-append}
use Rattle.hickory_proto_core.specs.Handles.{OutcomeValue}
use Rattle.hickory_proto_core.specs.declared.query.Query.{Query}
use Rattle.hickory_proto_core.specs.declared.recorded.Exchange.{Exchange}
use Rattle.hickory_resolver_model.specs.Cache.{CacheValue}
use Rattle.hickory_resolver_model.specs.Lookup.{LookupResult}
use Rattle.hickory_resolver_model.specs.Verdict.{Hop, first_hop}
use Rattle.hickory_resolver_model.specs.Hops.{LookupContext, GoesUpstream, FollowsAliases, ChainEnd, Special, Hit, Asked, IsChainEnd, IsReplyOver, one_cache, is_asked}
use Rattle.hickory_resolver_model.specs.Resuming.{WaitingValue, ProgressValue, Waits, IsDone, Starts, Resumes}
use Rattle.hickory_resolver_theorems.proofs.SentAlone.{IsSentAlone, LookupSoFar}
use Rattle.hickory_resolver_theorems.specs.Interleaved.{PendingValue}
use Rattle.hickory_resolver_theorems.proofs.InFlight.{IsInFlight, IsOnItsWay, started, resumed}

-- it is one whose hops all read the cache of the context
alone : (s : LookupContext) (question : Query) (asks : List Exchange) (caches : List CacheValue) (progress : ProgressValue) (after : CacheValue) → caches ≡ one_cache s asks → IsOnItsWay s question asks caches progress after → LookupSoFar s question asks progress after
alone s question asks caches (Waits w) after one (is, now_is, same) = record {
  follows = subst (λ cs. FollowsAliases s cs (first_hop question) asks w.hop) one is.passed.leads;
  passed_are = is.passed.passed_are;
  now_is = now_is;
  few = is.passed.short;
  upstream = is.upstream;
  unchanged = same;
}
alone s question asks caches (IsDone result) after one is = subst (λ cs. IsReplyOver s cs question asks result after) one is

-- where a look-up ends and was not asked, its question does not go upstream
pub unasked_end : (s : LookupContext) (hop : Hop) (last : ChainEnd) (count : ℕ) → is_asked last ≡ false → IsChainEnd s count hop last → GoesUpstream s hop.query → ⊥
unasked_end s hop (Special reply) count unasked special up = let clash : None ≡ Some reply = sym up.0 ∙ special in cc
unasked_end s hop (Hit entry) count unasked hit up = let clash : None ≡ Some entry = sym up.1 ∙ hit.1 in cc
unasked_end s hop (Asked outcome) count unasked ends up = let clash : true ≡ false = unasked in cc

-- a look-up that is done as it is started did not go upstream
pub done_unasked : (s : LookupContext) (question : Query) (result : LookupResult) (after : CacheValue) → Starts s question (IsDone result) after → GoesUpstream s question → ⊥
done_unasked s question result after (last, unasked, ends, is) = unasked_end s (first_hop question) last 0 unasked ends

pub some_asked : (xs : List Exchange) (x : Exchange) → xs ++ x ∷ [] ≡ [] → ⊥
some_asked [] x e = cc
some_asked (y ∷ ys) x e = cc

pub lookup_started : (s : LookupContext) (question : Query) (progress : ProgressValue) (after : CacheValue) → Starts s question progress after → LookupSoFar s question [] progress after
lookup_started s question progress after starts = alone s question [] [] progress after refl (started s question progress after starts)

-- as one among those in flight
abbrev pending : LookupContext → Query → List Exchange → WaitingValue → PendingValue
pending s question asks w = record { question = question; asks = asks; caches = one_cache s asks; cache = s.cache; waiting = w }

in-flight : (s : LookupContext) (question : Query) (asks : List Exchange) (w : WaitingValue) (before : CacheValue) → IsSentAlone s question asks w before → IsInFlight s (pending s question asks w)
in-flight s question asks w before sent = record {
  passed = record { leads = sent.follows; short = sent.few; passed_are = sent.passed_are };
  upstream = sent.upstream;
}

pub lookup_resumed : (s : LookupContext) (question : Query) (asks : List Exchange) (w : WaitingValue) (before : CacheValue) → IsSentAlone s question asks w before → (outcome : OutcomeValue) (after : CacheValue) (progress : ProgressValue) → Resumes s w outcome progress after
    → LookupSoFar s question (asks ++ record { query = w.hop.query; outcome = outcome } ∷ []) progress after
lookup_resumed s question asks w before sent outcome after progress resumes =
    let x : Exchange = record { query = w.hop.query; outcome = outcome } in
    alone s question (asks ++ x ∷ []) (one_cache s asks ++ s.cache ∷ []) progress after (sym (map-append (λ y. s.cache) asks (x ∷ [])))
    (resumed s (pending s question asks w) outcome progress after (in-flight s question asks w before sent) resumes)
