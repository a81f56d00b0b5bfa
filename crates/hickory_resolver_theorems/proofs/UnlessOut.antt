-- What answers the questions of a call in one way answers them in another, where each part does so or ran out of memory:
-- then the call does so, or ran out of memory.
use Rattle.std.proofs.Common.{◌≡◌, ◌⊎◌, Bool, true, false, ◌||◌, List, [], ◌∷◌, ◌++◌, cond, None, Some, refl, sym, ap, ◌∙◌, subst, inl, inr}
use Rattle.std.specs.List.{AllByRecursion}
use Rattle.hickory_proto_core.specs.Name.{NameValue}
use Rattle.hickory_proto_core.specs.declared.query.Query.{Query}
use Rattle.hickory_proto_core.specs.codes.record_type.RecordType.{RecordType}
use Rattle.hickory_resolver_model.specs.Cache.{CacheValue}
use Rattle.hickory_resolver_model.specs.Lookup.{LookupResult, question_of}
use Rattle.hickory_resolver_model.specs.Calls.{SubLookup, SubLookupRelation, FamilyOrder, One, Both, Fallback, has_answers, is_out_of_memory, both_results, next_type, attempt_result, IsAttemptResult, AreSubLookups, results_of, IsAttempt, stops, CallPlan, Says, AreAttempts}
use Rattle.hickory_resolver_model.specs.Attempts.{attempts}
use Rattle.hickory_resolver_model.specs.Run.{Settings, Call, AtOnce, Attempt, IsCall}
use Rattle.hickory_resolver_theorems.proofs.Lists.{all-front, all-back}

-- whether the last of some sub-look-ups ran out of memory
abbrev last_is_out : List SubLookup → Bool
last_is_out [] = false
last_is_out (p ∷ []) = is_out_of_memory p.result
last_is_out (p ∷ q ∷ qs) = last_is_out (q ∷ qs)

or_right-false : (a b : Bool) → (a || b) ≡ false → b ≡ false
or_right-false true b h = cc
or_right-false false b h = h

-- an attempt goes on only after a result that is not out of memory
goes-on : (plan : FamilyOrder) (results : List LookupResult) (r : LookupResult) (u : RecordType) → next_type plan (results ++ r ∷ []) ≡ Some u → is_out_of_memory r ≡ false
goes-on (One t) [] r u h = let clash : None ≡ Some u = h in cc
goes-on (One t) (x ∷ xs) r u h = let clash : None ≡ Some u = h in cc
goes-on (Both t v) [] r u h = by (is_out_of_memory r) refl h
  where
    by : (b : Bool) → is_out_of_memory r ≡ b → cond b None (Some v) ≡ Some u → is_out_of_memory r ≡ false
    by true e k = let clash : None ≡ Some u = k in cc
    by false e k = e
goes-on (Both t v) (x ∷ []) r u h = let clash : None ≡ Some u = h in cc
goes-on (Both t v) (x ∷ y ∷ ys) r u h = let clash : None ≡ Some u = h in cc
goes-on (Fallback t v) [] r u h = by (has_answers r || is_out_of_memory r) refl h
  where
    by : (b : Bool) → (has_answers r || is_out_of_memory r) ≡ b → cond b None (Some v) ≡ Some u → is_out_of_memory r ≡ false
    by true e k = let clash : None ≡ Some u = k in cc
    by false e k = or_right-false (has_answers r) (is_out_of_memory r) e
goes-on (Fallback t v) (x ∷ []) r u h = let clash : None ≡ Some u = h in cc
goes-on (Fallback t v) (x ∷ y ∷ ys) r u h = let clash : None ≡ Some u = h in cc

-- an attempt whose last sub-look-up ran out of memory did so too
out-result : (Answers : SubLookupRelation) (with_hosts : Bool) (n : NameValue) (plan : FamilyOrder) (before : CacheValue) (ps : List SubLookup) (after : CacheValue) → AreSubLookups Answers with_hosts n plan before [] ps after → last_is_out ps ≡ true
    → is_out_of_memory (attempt_result plan (results_of ps)) ≡ true
out-result Answers with_hosts n plan before [] after are out = let clash : false ≡ true = out in cc
out-result Answers with_hosts n plan before (p ∷ []) after are out = out
out-result Answers with_hosts n (One t) before (p ∷ q ∷ []) after are out = out
out-result Answers with_hosts n (Fallback t u) before (p ∷ q ∷ []) after are out = out
out-result Answers with_hosts n (Both t u) before (p ∷ q ∷ []) after are out = by (is_out_of_memory q.result) refl
  where
    by : (b : Bool) → is_out_of_memory q.result ≡ b → is_out_of_memory (cond b q.result (both_results p.result q.result)) ≡ true
    by true e = e
    by false e = let clash : false ≡ true = sym e ∙ out in cc
out-result Answers with_hosts n (One t) before (p ∷ q ∷ x ∷ xs) after (a, b, next, is, (v, m, on, second, (w, k, more, third, rest))) out = let clash : None ≡ Some w = more in cc
out-result Answers with_hosts n (Both t u) before (p ∷ q ∷ x ∷ xs) after (a, b, next, is, (v, m, on, second, (w, k, more, third, rest))) out = let clash : None ≡ Some w = more in cc
out-result Answers with_hosts n (Fallback t u) before (p ∷ q ∷ x ∷ xs) after (a, b, next, is, (v, m, on, second, (w, k, more, third, rest))) out = let clash : None ≡ Some w = more in cc

-- The other way answers over other caches, one for each; something holds of each cache on the way and of each part.
module _ (A B : SubLookupRelation) (Holds : CacheValue → Type 0) (Q : SubLookup → Type 0) (over : CacheValue → CacheValue)
    (step : (with_hosts : Bool) (before : CacheValue) (q : Query) (p : SubLookup) (after : CacheValue) → Holds before → Q p → A with_hosts before q p after
    → ((is_out_of_memory p.result ≡ true) ⊎ B with_hosts (over before) q p (over after)) × Holds after) where
  -- where it is not out of memory
  part-live : (with_hosts : Bool) (before : CacheValue) (q : Query) (p : SubLookup) (after : CacheValue) → is_out_of_memory p.result ≡ false → (is_out_of_memory p.result ≡ true) ⊎ B with_hosts (over before) q p (over after) → B with_hosts (over before) q p (over after)
  part-live with_hosts before q p after live (inl out) = let clash : false ≡ true = sym live ∙ out in cc
  part-live with_hosts before q p after live (inr is) = is

  subs-unless : (with_hosts : Bool) (n : NameValue) (plan : FamilyOrder) (before : CacheValue) (results : List LookupResult) (ps : List SubLookup) (after : CacheValue) → Holds before → AllByRecursion Q ps → AreSubLookups A with_hosts n plan before results ps after
      → ((last_is_out ps ≡ true) ⊎ AreSubLookups B with_hosts n plan (over before) results ps (over after)) × Holds after
  subs-unless with_hosts n plan before results [] after holds all same = (inr (ap over same), subst Holds (sym same) holds)
  subs-unless with_hosts n plan before results (p ∷ []) after holds (own, none) (u, mid, next, is, same) = (by here.0, subst Holds (sym same) here.1)
    where
      here : ((is_out_of_memory p.result ≡ true) ⊎ B with_hosts (over before) (question_of n u) p (over mid)) × Holds mid
      here = step with_hosts before (question_of n u) p mid holds own is

      by : (is_out_of_memory p.result ≡ true) ⊎ B with_hosts (over before) (question_of n u) p (over mid) → (is_out_of_memory p.result ≡ true) ⊎ AreSubLookups B with_hosts n plan (over before) results (p ∷ []) (over after)
      by (inl out) = inl out
      by (inr other) = inr (u, over mid, next, other, ap over same)
  subs-unless with_hosts n plan before results (p ∷ q ∷ qs) after holds (own, others) (u, mid, next, is, (v, m, on, second, rest)) =
      let there = subs-unless with_hosts n plan mid (results ++ p.result ∷ []) (q ∷ qs) after here.1 others (v, m, on, second, rest) in
      (by there.0, there.1)
    where
      here : ((is_out_of_memory p.result ≡ true) ⊎ B with_hosts (over before) (question_of n u) p (over mid)) × Holds mid
      here = step with_hosts before (question_of n u) p mid holds own is

      live : B with_hosts (over before) (question_of n u) p (over mid)
      live = part-live with_hosts before (question_of n u) p mid (goes-on plan results p.result v on) here.0

      by : (last_is_out (q ∷ qs) ≡ true) ⊎ AreSubLookups B with_hosts n plan (over mid) (results ++ p.result ∷ []) (q ∷ qs) (over after)
          → (last_is_out (q ∷ qs) ≡ true) ⊎ AreSubLookups B with_hosts n plan (over before) results (p ∷ q ∷ qs) (over after)
      by (inl out) = inl out
      by (inr other) = inr (u, over mid, next, live, other)

  attempt-unless : (with_hosts : Bool) (before : CacheValue) (n : NameValue) (plan : FamilyOrder) (parts : List SubLookup) (r : LookupResult) (after : CacheValue) → Holds before → AllByRecursion Q parts → IsAttempt A with_hosts before n plan parts r after
      → ((is_out_of_memory r ≡ true) ⊎ IsAttempt B with_hosts (over before) n plan parts r (over after)) × Holds after
  attempt-unless with_hosts before n plan parts r after holds all attempt = (by there.0 attempt.result_is, there.1)
    where
      there : ((last_is_out parts ≡ true) ⊎ AreSubLookups B with_hosts n plan (over before) [] parts (over after)) × Holds after
      there = subs-unless with_hosts n plan before [] parts after holds all attempt.are

      by : (last_is_out parts ≡ true) ⊎ AreSubLookups B with_hosts n plan (over before) [] parts (over after) → IsAttemptResult plan (results_of parts) r
          → (is_out_of_memory r ≡ true) ⊎ IsAttempt B with_hosts (over before) n plan parts r (over after)
      by is (inr (takes, out)) = inl (ap is_out_of_memory out)
      by (inl out) (inl (done, e)) = inl (ap is_out_of_memory e ∙ out-result A with_hosts n plan before parts after attempt.are out)
      by (inr is) (inl (done, e)) = inr (record { are = is; result_is = inl (done, e) })

  attempts-unless : (plan : CallPlan) (with_hosts : Bool) (before : CacheValue) (names : List NameValue) (last : LookupResult → Type 0) (parts : List SubLookup) (r : LookupResult) (after : CacheValue) → Holds before → AllByRecursion Q parts → AreAttempts A plan with_hosts before names last parts r after
      → ((is_out_of_memory r ≡ true) ⊎ AreAttempts B plan with_hosts (over before) names last parts r (over after)) × Holds after
  attempts-unless plan with_hosts before [] last parts r after holds all (none, fallback, same) = (inr (none, fallback, ap over same), subst Holds (sym same) holds)
  attempts-unless plan with_hosts before (n ∷ ns) last parts r after holds all (front, back, result, mid, are, attempt, goes) =
      by first.0 goes (λ rest. attempts-unless plan plan.hosts_for_all mid ns (λ x. x ≡ result) back r after first.1 (all-back Q front back each) rest)
    where
      each : AllByRecursion Q (front ++ back)
      each = subst (AllByRecursion Q) are all

      first : ((is_out_of_memory result ≡ true) ⊎ IsAttempt B with_hosts (over before) n plan.types front result (over mid)) × Holds mid
      first = attempt-unless with_hosts before n plan.types front result mid holds (all-front Q front back each) attempt

      on_with : IsAttempt B with_hosts (over before) n plan.types front result (over mid) → stops result ≡ false → (is_out_of_memory r ≡ true) ⊎ AreAttempts B plan plan.hosts_for_all (over mid) ns (λ x. x ≡ result) back r (over after)
          → (is_out_of_memory r ≡ true) ⊎ AreAttempts B plan with_hosts (over before) (n ∷ ns) last parts r (over after)
      on_with is live (inl out) = inl out
      on_with is live (inr rest) = inr (front, back, result, over mid, are, is, inr (live, rest))

      by : (is_out_of_memory result ≡ true) ⊎ IsAttempt B with_hosts (over before) n plan.types front result (over mid)
          → ((stops result ≡ true) × (back ≡ []) × (r ≡ result) × (after ≡ mid)) ⊎ ((stops result ≡ false) × AreAttempts A plan plan.hosts_for_all mid ns (λ x. x ≡ result) back r after)
          → (AreAttempts A plan plan.hosts_for_all mid ns (λ x. x ≡ result) back r after → ((is_out_of_memory r ≡ true) ⊎ AreAttempts B plan plan.hosts_for_all (over mid) ns (λ x. x ≡ result) back r (over after)) × Holds after)
          → ((is_out_of_memory r ≡ true) ⊎ AreAttempts B plan with_hosts (over before) (n ∷ ns) last parts r (over after)) × Holds after
      by (inl out) (inl (stopped, none, e, same)) rest = (inl (ap is_out_of_memory e ∙ out), subst Holds (sym same) first.1)
      by (inr is) (inl (stopped, none, e, same)) rest = (inr (front, back, result, over mid, are, is, inl (stopped, none, e, ap over same)), subst Holds (sym same) first.1)
      by (inl out) (inr (live, k)) rest = let clash : false ≡ true = sym (or_right-false (has_answers result) (is_out_of_memory result) live) ∙ out in cc
      by (inr is) (inr (live, k)) rest = let more = rest k in (on_with is live more.0, more.1)

  pub call-unless : (s : Settings) (before : CacheValue) (call : Call) (parts : List SubLookup) (reply : LookupResult) (after : CacheValue) → Holds before → AllByRecursion Q parts → IsCall A s before call parts reply after
      → ((is_out_of_memory reply ≡ true) ⊎ IsCall B s (over before) call parts reply (over after)) × Holds after
  call-unless s before (AtOnce answer) parts reply after holds all (none, e, same) = (inr (none, e, ap over same), subst Holds (sym same) holds)
  call-unless s before (Attempt n plan) parts reply after holds all tries = attempts-unless plan true before (attempts s.search n) (Says plan.no_names) parts reply after holds all tries
