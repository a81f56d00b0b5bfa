-- A look-up that is started and driven to its end is one that blocks; and one that blocks can be driven, where memory
-- does not run out.
use Rattle.std.proofs.Common.{◌≡◌, ◌≤◌, ◌+◌, List, [], ◌∷◌, ◌++◌, length, append_assoc, length-append, refl, sym, ap, ◌∙◌, subst, arith, inl, inr, if◌then◌else◌}
use Rattle.std.proofs.lemmas.List.{append-nil, map-append}
use Rattle.hickory_proto_core.specs.declared.query.Query.{Query}
use Rattle.hickory_proto_core.specs.declared.recorded.Exchange.{Exchange}
use Rattle.hickory_resolver_model.specs.Cache.{CacheValue}
use Rattle.hickory_resolver_model.specs.Lookup.{LookupResult}
use Rattle.hickory_resolver_model.specs.Verdict.{Hop, first_hop}
use Rattle.hickory_resolver_model.specs.Hops.{LookupContext, FollowsAliases, ChainEnd, Special, Hit, Asked, IsChainEnd, IsWhole, IsReply, PassedValue, passed_by, passed_of, one_cache, is_asked, asks_of, stores_of, reply_of, after_stores}
use Rattle.hickory_resolver_model.specs.Resuming.{ProgressValue, Waits, IsDone, ComesTo, Resumes}
use Rattle.hickory_resolver_theorems.specs.Resumed.{IsDriven, IsStartedAndDriven, IsDrivenAlike}
use Rattle.hickory_resolver_theorems.specs.Interleaved.{PendingValue}
use Rattle.hickory_resolver_theorems.proofs.OneCache.{one-before, last-read}
use Rattle.hickory_resolver_theorems.proofs.InFlight.{passed_of-length, passed_of-more, IsOnItsWay, started, resumed}

driven-on : (s : LookupContext) (question : Query) (xs : List Exchange) (progress : ProgressValue) (cache : CacheValue) (ys : List Exchange) (result : LookupResult) (after : CacheValue)
    → IsOnItsWay s question xs (one_cache s xs) progress cache → IsDriven s progress cache ys result after → IsReply s question (xs ++ ys) result after
driven-on s question xs progress cache [] result after is (done, same) =
    subst (λ zs. IsReply s question zs result after) (sym (append-nil xs))
    (subst (λ c. IsReply s question xs result c) (sym same) (subst (λ g. IsOnItsWay s question xs (one_cache s xs) g cache) done is))
driven-on s question xs (Waits w) cache (x ∷ ys) result after (is, now_is, same) (asked, next, mid, resumes, rest) =
    let p : PendingValue = record { question = question; asks = xs; caches = one_cache s xs; cache = s.cache; waiting = w } in
    let own : record { query = w.hop.query; outcome = x.outcome } ≡ x = λ i. record { query = sym asked i; outcome = x.outcome } in
    let there : IsOnItsWay s question (xs ++ x ∷ []) (one_cache s xs ++ s.cache ∷ []) next mid =
    subst (λ y. IsOnItsWay s question (xs ++ y ∷ []) (one_cache s xs ++ s.cache ∷ []) next mid) own
    (resumed s p x.outcome next mid is (subst (λ c. Resumes (record s { cache = c }) w x.outcome next mid) same resumes)) in
    let here : IsOnItsWay s question (xs ++ x ∷ []) (one_cache s (xs ++ x ∷ [])) next mid =
    subst (λ cs. IsOnItsWay s question (xs ++ x ∷ []) cs next mid) (sym (map-append (λ y. s.cache) xs (x ∷ []))) there in
    subst (λ zs. IsReply s question zs result after) (append_assoc xs (x ∷ []) ys) (driven-on s question (xs ++ x ∷ []) next mid ys result after here rest)
driven-on s question xs (IsDone early) cache (x ∷ ys) result after is never = absurd never

driven_blocks : (s : LookupContext) (question : Query) (asks : List Exchange) (result : LookupResult) (after : CacheValue) → IsStartedAndDriven s question asks result after → IsReply s question asks result after
driven_blocks s question asks result after is = driven-on s question [] is.progress is.cache asks result after (started s question is.progress is.cache is.starts) is.driven

-- ---- and back, where memory did not run out

-- from a hop on, by the exchanges that are left
record CanBeDriven (s : LookupContext) (passed : List PassedValue) (hop : Hop) (asks : List Exchange) (result : LookupResult) (after : CacheValue) : Type 0 where
  progress : ProgressValue
  cache : CacheValue
  comes : ComesTo s passed hop progress cache
  driven : IsDriven s progress cache asks result after

module _ (s : LookupContext) (last_hop : Hop) (last : ChainEnd) (result : LookupResult) (after : CacheValue) where
  -- it ends here
  end-driven : (passed : List PassedValue) → IsChainEnd s (length passed) last_hop last → result ≡ reply_of s passed last_hop last → after ≡ after_stores (stores_of s passed last_hop last) s.cache
      → CanBeDriven s passed last_hop (asks_of last_hop last) result after
  end-driven passed = by last
    where
      by : (e : ChainEnd) → IsChainEnd s (length passed) last_hop e → result ≡ reply_of s passed last_hop e → after ≡ after_stores (stores_of s passed last_hop e) s.cache
          → CanBeDriven s passed last_hop (asks_of last_hop e) result after
      by (Special reply) ends result_is after_is = record { progress = IsDone result; cache = after; comes = (Special reply, refl, ends, inl (result_is, after_is)); driven = (refl, refl) }
      by (Hit entry) ends result_is after_is = record { progress = IsDone result; cache = after; comes = (Hit entry, refl, ends, inl (result_is, after_is)); driven = (refl, refl) }
      by (Asked outcome) ends result_is after_is = record {
        progress = Waits (record { now = s.now; passed = passed; hop = last_hop });
        cache = s.cache;
        comes = (ends.0, refl, refl);
        driven = (refl, IsDone result, after, inr (record { result = result; progress_is = refl; no_alias = ends.1; ends = inl (result_is, after_is) }), (refl, refl));
      }

  from-hop : (front back : List Exchange) (hop : Hop) → FollowsAliases s (one_cache s back) hop back last_hop → length front + length back ≤ 7 → IsChainEnd s (length (passed_of s (front ++ back))) last_hop last
      → result ≡ reply_of s (passed_of s (front ++ back)) last_hop last → after ≡ after_stores (stores_of s (passed_of s (front ++ back)) last_hop last) s.cache
      → CanBeDriven s (passed_of s front) hop (back ++ asks_of last_hop last) result after
  from-hop front [] hop same short ends result_is after_is =
      let whole = append-nil front in
      subst (λ h. CanBeDriven s (passed_of s front) h (asks_of last_hop last) result after) same
      (end-driven (passed_of s front) (subst (λ xs. IsChainEnd s (length (passed_of s xs)) last_hop last) whole ends) (subst (λ xs. result ≡ reply_of s (passed_of s xs) last_hop last) whole result_is)
      (subst (λ xs. after ≡ after_stores (stores_of s (passed_of s xs) last_hop last) s.cache) whole after_is))
  from-hop front (x ∷ xs) hop (next, p, rest) short ends result_is after_is =
      let whole : front ++ x ∷ xs ≡ (front ++ x ∷ []) ++ xs = sym (append_assoc front (x ∷ []) xs) in
      let more = from-hop (front ++ x ∷ []) xs next rest (omega (arith, short, length-append front (x ∷ []))) (subst (λ ys. IsChainEnd s (length (passed_of s ys)) last_hop last) whole ends)
      (subst (λ ys. result ≡ reply_of s (passed_of s ys) last_hop last) whole result_is) (subst (λ ys. after ≡ after_stores (stores_of s (passed_of s ys) last_hop last) s.cache) whole after_is) in
      let kept : passed_of s (front ++ x ∷ []) ≡ passed_of s front ++ passed_by s hop.query x.outcome ∷ [] =
      passed_of-more s front x hop.query p.asked in
      record {
        progress = Waits (record { now = s.now; passed = passed_of s front; hop = hop });
        cache = s.cache;
        comes = (p.upstream, refl, refl);
        driven = (
          p.asked,
          more.progress,
          more.cache,
          inl (record {
            next = next;
            alias = p.alias;
            early = omega (arith, short, passed_of-length s front);
            goes_on = inl (subst (λ ps. ComesTo s ps next more.progress more.cache) kept more.comes);
          }),
          more.driven,
        );
      }

pub whole_driven : (s : LookupContext) (question : Query) (asks : List Exchange) (result : LookupResult) (after : CacheValue) → IsWhole s (one_cache s asks) question asks result after → IsStartedAndDriven s question asks result after
whole_driven s question asks result after whole =
    let h = whole.hops in
    let read = one-before s h.before (first_hop question) h.passed h.last_hop (asks_of h.last_hop h.last) (if is_asked h.last then h.last_cache ∷ [] else []) h.leads (sym (ap (one_cache s) h.asks_are) ∙ h.caches_are) in
    let from = from-hop s h.last_hop h.last result after [] h.passed (first_hop question) (subst (λ cs. FollowsAliases s cs (first_hop question) h.passed h.last_hop) read.0 h.leads) (omega (arith, h.short))
    (subst (λ n. IsChainEnd s n h.last_hop h.last) (sym (passed_of-length s h.passed)) (subst (λ c. IsChainEnd (record s { cache = c }) (length h.passed) h.last_hop h.last) (last-read s h.last_hop h.last h.last_cache h.at_once read.1) h.ends))
    whole.result_is whole.after_is in
    record {
      progress = from.progress;
      cache = from.cache;
      starts = from.comes;
      driven = subst (λ xs. IsDriven s from.progress from.cache xs result after) (sym h.asks_are) from.driven;
    }

pub driven_alike : (s : LookupContext) (question : Query) (asks : List Exchange) (result : LookupResult) (after : CacheValue) → IsDrivenAlike s question asks result after
driven_alike s question asks result after = record {
  forth = driven_blocks s question asks result after;
  back = whole_driven s question asks result after;
}
