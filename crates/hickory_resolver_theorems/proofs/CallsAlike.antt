-- A call that is started and driven to its end is one that blocks; and one that blocks can be driven, where memory does
-- not run out.
use Rattle.std.proofs.Common.{◌≡◌, ◌∙◌, ◌⊎◌, true, false, List, [], ◌∷◌, ◌++◌, sym, subst, inl, inr, append_assoc}
use Rattle.std.proofs.lemmas.List.{append-nil}
use Rattle.hickory_proto_core.specs.declared.recorded.Exchange.{Exchange}
use Rattle.hickory_resolver_model.specs.Resuming.{Waits, IsDone}
use Rattle.hickory_resolver_model.specs.Cache.{CacheValue}
use Rattle.hickory_resolver_model.specs.Lookup.{LookupResult}
use Rattle.hickory_resolver_model.specs.Calls.{CallContext, SubLookup, IsAnsweredAlone, asks_of_sub_lookups, is_out_of_memory}
use Rattle.hickory_resolver_model.specs.Run.{Settings, Call, IsCall}
use Rattle.hickory_resolver_theorems.specs.ResumingCalls.{CallProgressValue, IsCallDriven, IsCallStartedAndDriven, IsCallDrivenAlike}
use Rattle.hickory_resolver_theorems.proofs.SentAlone.{CallRelation, IsCallDoneAlone, CallSoFar}
use Rattle.hickory_resolver_theorems.proofs.CallsAlone.{call-alone, started_call, resumed}
use Rattle.hickory_resolver_theorems.proofs.DrivenCalls.{WholeSubLookup, call-whole, call-driven}

module _ (s : CallContext) (IsWhole : CallRelation) where
  driven-on : (xs : List Exchange) (progress : CallProgressValue) (cache : CacheValue) (ys : List Exchange) (result : LookupResult) (after : CacheValue) → CallSoFar s IsWhole xs progress cache → IsCallDriven s progress cache ys result after → IsCallDoneAlone IsWhole (xs ++ ys) result after
  driven-on xs progress cache [] result after far (done, same) =
      subst (λ zs. IsCallDoneAlone IsWhole zs result after) (sym (append-nil xs))
      (subst (λ c. IsCallDoneAlone IsWhole xs result c) (sym same) (subst (λ p. CallSoFar s IsWhole xs p cache) done far))
  driven-on xs (Waits w) cache (x ∷ ys) result after far (now_is, asked, next, mid, resumes, rest) =
      let own : record { query = w.lookup.hop.query; outcome = x.outcome } ≡ x = λ i. record { query = sym asked i; outcome = x.outcome } in
      let there : CallSoFar s IsWhole (xs ++ x ∷ []) next mid =
      subst (λ y. CallSoFar s IsWhole (xs ++ y ∷ []) next mid) own (resumed s IsWhole xs w cache far x.outcome next mid resumes) in
      subst (λ zs. IsCallDoneAlone IsWhole zs result after) (append_assoc xs (x ∷ []) ys) (driven-on (xs ++ x ∷ []) next mid ys result after there rest)
  driven-on xs (IsDone early) cache (x ∷ ys) result after far never = absurd never

pub call_driven_alike : (s : CallContext) (settings : Settings) (call : Call) (before : CacheValue) (asks : List Exchange) (result : LookupResult) (after : CacheValue) → IsCallDrivenAlike s settings call before asks result after
call_driven_alike s settings call before asks result after = record {
  forth = λ is.
      let done = driven-on s (IsCall (IsAnsweredAlone s) settings before call) [] is.progress is.cache asks result after (started_call s settings call before is.progress is.cache is.starts) is.driven in
      (done.parts, done.asks_are, call-alone s settings before call done.parts result after done.whole);
  back = λ parts are is live. by parts are live (call-whole s settings before call parts result after is);
}
  where
    by : (parts : List SubLookup) → asks ≡ asks_of_sub_lookups parts → is_out_of_memory result ≡ false → (is_out_of_memory result ≡ true) ⊎ IsCall (WholeSubLookup s) settings before call parts result after → IsCallStartedAndDriven s settings call before asks result after
    by parts are live (inl out) = let clash : false ≡ true = sym live ∙ out in cc
    by parts are live (inr whole) = subst (λ xs. IsCallStartedAndDriven s settings call before xs result after) (sym are) (call-driven s settings call before parts result after whole)
