-- What answers the questions of a call in one way answers them in each weaker way.
use Rattle.std.proofs.Common.{◌≡◌, ℕ, Bool, true, List, [], ◌∷◌, ◌++◌, Ok, Err, sym, subst, inl, inr}
use Rattle.std.specs.List.{AllByRecursion}
use Rattle.hickory_proto_core.specs.Name.{NameValue}
use Rattle.hickory_proto_core.specs.declared.query.Query.{Query}
use Rattle.hickory_resolver_model.specs.Cache.{CacheValue}
use Rattle.hickory_resolver_model.specs.Lookup.{LookupResult, question_of}
use Rattle.hickory_resolver_model.specs.Attempts.{attempts}
use Rattle.hickory_resolver_model.specs.Calls.{SubLookup, SubLookupRelation, FamilyOrder, AreSubLookups, CallPlan, Says, AreAttempts}
use Rattle.hickory_resolver_model.specs.Run.{Settings, RequestValue, Lookup, LookupIp, ClearLookup, Clear, StepReply, LookedUp, LookedUpIp, Cleared, Call, AtOnce, Attempt, name_call, address_call, IsCall, IsServed, Stage, IsStageBy, AreStagesBy}
use Rattle.hickory_resolver_theorems.proofs.Lists.{all-front, all-back}

module _ (A B : SubLookupRelation) (weaker : (with_hosts : Bool) (before : CacheValue) (q : Query) (p : SubLookup) (after : CacheValue) → A with_hosts before q p after → B with_hosts before q p after) where
  subs-weaker : (with_hosts : Bool) (n : NameValue) (plan : FamilyOrder) (before : CacheValue) (results : List LookupResult) (ps : List SubLookup) (after : CacheValue) → AreSubLookups A with_hosts n plan before results ps after → AreSubLookups B with_hosts n plan before results ps after
  subs-weaker with_hosts n plan before results [] after same = same
  subs-weaker with_hosts n plan before results (p ∷ ps) after (t, mid, next, is, rest) = (t, mid, next, weaker with_hosts before _ p mid is, subs-weaker with_hosts n plan mid (results ++ p.result ∷ []) ps after rest)

  attempts-weaker : (plan : CallPlan) (with_hosts : Bool) (before : CacheValue) (names : List NameValue) (last : LookupResult → Type 0) (parts : List SubLookup) (result : LookupResult) (after : CacheValue) → AreAttempts A plan with_hosts before names last parts result after → AreAttempts B plan with_hosts before names last parts result after
  attempts-weaker plan with_hosts before [] last parts result after is = is
  attempts-weaker plan with_hosts before (n ∷ ns) last parts result after (front, back, r, mid, are, attempt, inl stopped) =
      (front, back, r, mid, are, record { are = subs-weaker with_hosts n plan.types before [] front mid attempt.are; result_is = attempt.result_is }, inl stopped)
  attempts-weaker plan with_hosts before (n ∷ ns) last parts result after (front, back, r, mid, are, attempt, inr (on, rest)) =
      (front, back, r, mid, are, record { are = subs-weaker with_hosts n plan.types before [] front mid attempt.are; result_is = attempt.result_is }, inr (on, attempts-weaker plan plan.hosts_for_all mid ns (λ x. x ≡ r) back result after rest))

  pub call-weaker : (s : Settings) (before : CacheValue) (call : Call) (parts : List SubLookup) (reply : LookupResult) (after : CacheValue) → IsCall A s before call parts reply after → IsCall B s before call parts reply after
  call-weaker s before (AtOnce answer) parts reply after is = is
  call-weaker s before (Attempt n plan) parts reply after is = attempts-weaker plan true before (attempts s.search n) (Says plan.no_names) parts reply after is

-- What answers the questions of a call in one way answers them in another, where something holds of each cache on the
-- way and of each part.
module _ (A B : SubLookupRelation) (Holds : CacheValue → Type 0) (Q : SubLookup → Type 0)
    (step : (with_hosts : Bool) (before : CacheValue) (q : Query) (p : SubLookup) (after : CacheValue) → Holds before → Q p → A with_hosts before q p after → B with_hosts before q p after × Holds after) where
  subs-along : (with_hosts : Bool) (n : NameValue) (plan : FamilyOrder) (before : CacheValue) (results : List LookupResult) (ps : List SubLookup) (after : CacheValue) → Holds before → AllByRecursion Q ps → AreSubLookups A with_hosts n plan before results ps after → AreSubLookups B with_hosts n plan before results ps after × Holds after
  subs-along with_hosts n plan before results [] after holds all same = (same, subst Holds (sym same) holds)
  subs-along with_hosts n plan before results (p ∷ ps) after holds (own, all) (t, mid, next, is, rest) =
      let here = step with_hosts before (question_of n t) p mid holds own is in
      let there = subs-along with_hosts n plan mid (results ++ p.result ∷ []) ps after here.1 all rest in
      ((t, mid, next, here.0, there.0), there.1)

  attempts-along : (plan : CallPlan) (with_hosts : Bool) (before : CacheValue) (names : List NameValue) (last : LookupResult → Type 0) (parts : List SubLookup) (result : LookupResult) (after : CacheValue) → Holds before → AllByRecursion Q parts → AreAttempts A plan with_hosts before names last parts result after
      → AreAttempts B plan with_hosts before names last parts result after × Holds after
  attempts-along plan with_hosts before [] last parts result after holds all (none, is, same) = ((none, is, same), subst Holds (sym same) holds)
  attempts-along plan with_hosts before (n ∷ ns) last parts result after holds all (front, back, r, mid, are, attempt, inl (stopped, none, e, same)) =
      let each : AllByRecursion Q (front ++ back) = subst (AllByRecursion Q) are all in
      let here = subs-along with_hosts n plan.types before [] front mid holds (all-front Q front back each) attempt.are in
      ((front, back, r, mid, are, record { are = here.0; result_is = attempt.result_is }, inl (stopped, none, e, same)), subst Holds (sym same) here.1)
  attempts-along plan with_hosts before (n ∷ ns) last parts result after holds all (front, back, r, mid, are, attempt, inr (on, rest)) =
      let each : AllByRecursion Q (front ++ back) = subst (AllByRecursion Q) are all in
      let here = subs-along with_hosts n plan.types before [] front mid holds (all-front Q front back each) attempt.are in
      let there = attempts-along plan plan.hosts_for_all mid ns (λ x. x ≡ r) back result after here.1 (all-back Q front back each) rest in
      ((front, back, r, mid, are, record { are = here.0; result_is = attempt.result_is }, inr (on, there.0)), there.1)

  pub call-along : (s : Settings) (before : CacheValue) (call : Call) (parts : List SubLookup) (reply : LookupResult) (after : CacheValue) → Holds before → AllByRecursion Q parts → IsCall A s before call parts reply after → IsCall B s before call parts reply after × Holds after
  call-along s before (AtOnce answer) parts reply after holds all (none, e, same) = ((none, e, same), subst Holds (sym same) holds)
  call-along s before (Attempt n plan) parts reply after holds all is = attempts-along plan true before (attempts s.search n) (Says plan.no_names) parts reply after holds all is

module _ (A B : ℕ → SubLookupRelation) (weaker : (now : ℕ) (with_hosts : Bool) (before : CacheValue) (q : Query) (p : SubLookup) (after : CacheValue) → A now with_hosts before q p after → B now with_hosts before q p after) where
  pub served-weaker : (s : Settings) (before : CacheValue) (request : RequestValue) (parts : List SubLookup) (reply : StepReply) (after : CacheValue) → IsServed A s before request parts reply after → IsServed B s before request parts reply after
  served-weaker s before (Lookup text t now) parts (LookedUp reply) after (inl (name, said, is)) = inl (name, said, call-weaker (A now) (B now) (weaker now) s before (name_call t name) parts reply after is)
  served-weaker s before (Lookup text t now) parts (LookedUp reply) after (inr unserved) = inr unserved
  served-weaker s before (LookupIp text now) parts (LookedUpIp reply) after (inl (given, said, is)) = inl (given, said, call-weaker (A now) (B now) (weaker now) s before (address_call s given.address given.name now) parts reply after is)
  served-weaker s before (LookupIp text now) parts (LookedUpIp reply) after (inr unserved) = inr unserved
  served-weaker s before (ClearLookup text t now) parts (Cleared (Ok u)) after is = is
  served-weaker s before (ClearLookup text t now) parts (Cleared (Err e)) after is = is
  served-weaker s before (Clear now) parts (Cleared (Ok u)) after is = is
  served-weaker s before (Lookup text t now) parts (LookedUpIp reply) after is = absurd is
  served-weaker s before (Lookup text t now) parts (Cleared (Ok u)) after is = absurd is
  served-weaker s before (Lookup text t now) parts (Cleared (Err e)) after is = absurd is
  served-weaker s before (LookupIp text now) parts (LookedUp reply) after is = absurd is
  served-weaker s before (LookupIp text now) parts (Cleared (Ok u)) after is = absurd is
  served-weaker s before (LookupIp text now) parts (Cleared (Err e)) after is = absurd is
  served-weaker s before (ClearLookup text t now) parts (LookedUp reply) after is = absurd is
  served-weaker s before (ClearLookup text t now) parts (LookedUpIp reply) after is = absurd is
  served-weaker s before (Clear now) parts (LookedUp reply) after is = absurd is
  served-weaker s before (Clear now) parts (LookedUpIp reply) after is = absurd is
  served-weaker s before (Clear now) parts (Cleared (Err e)) after is = absurd is

  stage-weaker : (s : Settings) (stage : Stage) (after : CacheValue) → IsStageBy A s stage after → IsStageBy B s stage after
  stage-weaker s stage after is = record {
    served = served-weaker s stage.before stage.request stage.parts stage.step.reply after is.served;
    piece_is = is.piece_is;
    now_is = is.now_is;
    count_is = is.count_is;
  }

  pub stages-weaker : (s : Settings) (before : CacheValue) (requests : List RequestValue) (stages : List Stage) (after : CacheValue) → AreStagesBy A s before requests stages after → AreStagesBy B s before requests stages after
  stages-weaker s before [] [] after same = same
  stages-weaker s before [] (stage ∷ stages) after e = absurd e
  stages-weaker s before (request ∷ requests) [] after e = absurd e
  stages-weaker s before (request ∷ requests) (stage ∷ stages) after (mid, for, starts, is, inl ended) = (mid, for, starts, stage-weaker s stage mid is, inl ended)
  stages-weaker s before (request ∷ requests) (stage ∷ stages) after (mid, for, starts, is, inr (on, rest)) = (mid, for, starts, stage-weaker s stage mid is, inr (on, stages-weaker s mid requests stages after rest))
