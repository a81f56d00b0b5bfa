-- What a call comes to over the exchanges that were answered, it comes to over those that a recording handle kept.
use Rattle.std.proofs.Common.{◌≡◌, ◌⊎◌, ℕ, Bool, true, false, List, [], ◌∷◌, ◌++◌, Ok, Err, refl, sym, ap, ◌∙◌, subst, inl, inr, append_assoc}
use Rattle.std.proofs.lemmas.List.{append-nil}
use Rattle.hickory_proto_core.specs.Name.{NameValue}
use Rattle.hickory_proto_core.specs.Recorded.{RecordedAs}
use Rattle.hickory_proto_core.specs.declared.query.Query.{Query}
use Rattle.hickory_proto_core.specs.declared.recorded.Exchange.{Exchange}
use Rattle.hickory_resolver_model.specs.Attempts.{attempts}
use Rattle.hickory_resolver_model.specs.Cache.{CacheValue}
use Rattle.hickory_resolver_model.specs.Lookup.{LookupResult}
use Rattle.hickory_resolver_model.specs.Calls.{CallContext, Source, Hosts, Client, SubLookup, IsAnsweredFrom, IsAnsweredFor, FamilyOrder, IsAttemptResult, AreSubLookups, results_of, stops, CallPlan, Says, AreAttempts, asks_of_sub_lookups, context_over}
use Rattle.hickory_resolver_model.specs.Run.{Settings, call_context_at, RequestValue, Lookup, LookupIp, ClearLookup, Clear, StepReply, LookedUp, LookedUpIp, Cleared, Call, AtOnce, Attempt, name_call, address_call, IsCall, IsServed}
use Rattle.hickory_resolver_theorems.specs.Keeping.{IsServedOver}
use Rattle.hickory_resolver_theorems.proofs.Kept.{kept_reply}

-- ---- what was kept for exchanges one after another

record SplitKept (xs ys kept : List Exchange) : Type 0 where
  front : List Exchange
  back : List Exchange
  parts : kept ≡ front ++ back
  first : RecordedAs xs front
  then : RecordedAs ys back

recorded_split : (xs ys kept : List Exchange) → RecordedAs (xs ++ ys) kept → SplitKept xs ys kept
recorded_split [] ys kept r = record { front = []; back = kept; parts = refl; first = refl; then = r }
recorded_split (x ∷ xs) ys kept (inl (out, r)) =
    let s = recorded_split xs ys kept r in
    record { front = s.front; back = s.back; parts = s.parts; first = inl (out, s.first); then = s.then }
recorded_split (x ∷ xs) ys kept (inr (y, zs, e, q, o, r)) =
    let s = recorded_split xs ys zs r in
    record { front = y ∷ s.front; back = s.back; parts = e ∙ ap (λ l. y ∷ l) s.parts; first = inr (y, s.front, refl, q, o, s.first); then = s.then }

pub asks-append : (ps qs : List SubLookup) → asks_of_sub_lookups (ps ++ qs) ≡ asks_of_sub_lookups ps ++ asks_of_sub_lookups qs
asks-append [] qs = refl
asks-append (p ∷ ps) qs = ap (λ xs. p.asks ++ xs) (asks-append ps qs) ∙ sym (append_assoc p.asks (asks_of_sub_lookups ps) (asks_of_sub_lookups qs))

no_asks : (ps : List SubLookup) (kept : List Exchange) → ps ≡ [] → RecordedAs (asks_of_sub_lookups ps) kept → [] ≡ kept
no_asks ps kept none r = sym (subst (λ qs. RecordedAs (asks_of_sub_lookups qs) kept) none r)

module _ (t : CallContext) where
  -- ---- a sub-look-up

  kept_part : (with_hosts : Bool) (before : CacheValue) (q : Query) (p : SubLookup) (after : CacheValue) (kept : List Exchange) → RecordedAs p.asks kept → IsAnsweredFor t with_hosts before q p after
      → IsAnsweredFor t with_hosts before q (record { question = p.question; source = p.source; asks = kept; result = p.result }) after
  kept_part with_hosts before q p after kept r (for, is) = (for, by p.source is)
    where
      by : (source : Source) → IsAnsweredFrom source t with_hosts before p after → IsAnsweredFrom source t with_hosts before (record { question = p.question; source = p.source; asks = kept; result = p.result }) after
      by Hosts is = record {
        asks_hosts = is.asks_hosts;
        found = is.found;
        has = is.has;
        result_is = is.result_is;
        nothing_asked = subst (λ xs. RecordedAs xs kept) is.nothing_asked r;
        unchanged = is.unchanged;
      }
      by Client is = record { not_in_hosts = is.not_in_hosts; reply = kept_reply (context_over t before) p.question p.asks kept p.result after is.reply r }

  -- ---- the sub-look-ups of an attempt

  record KeptSubs (with_hosts : Bool) (n : NameValue) (plan : FamilyOrder) (before : CacheValue) (results : List LookupResult) (ps : List SubLookup) (after : CacheValue) (kept : List Exchange) : Type 0 where
    parts : List SubLookup
    asks_are : asks_of_sub_lookups parts ≡ kept
    results_are : results_of parts ≡ results_of ps
    are : AreSubLookups (IsAnsweredFor t) with_hosts n plan before results parts after

  kept_subs : (with_hosts : Bool) (n : NameValue) (plan : FamilyOrder) (before : CacheValue) (results : List LookupResult) (ps : List SubLookup) (after : CacheValue) (kept : List Exchange) → RecordedAs (asks_of_sub_lookups ps) kept
      → AreSubLookups (IsAnsweredFor t) with_hosts n plan before results ps after → KeptSubs with_hosts n plan before results ps after kept
  kept_subs with_hosts n plan before results [] after kept r same = record { parts = []; asks_are = sym r; results_are = refl; are = same }
  kept_subs with_hosts n plan before results (p ∷ ps) after kept r (u, mid, next, is, rest) =
      let s = recorded_split p.asks (asks_of_sub_lookups ps) kept r in
      let more = kept_subs with_hosts n plan mid (results ++ p.result ∷ []) ps after s.back s.then rest in
      record {
        parts = record { question = p.question; source = p.source; asks = s.front; result = p.result } ∷ more.parts;
        asks_are = ap (λ xs. s.front ++ xs) more.asks_are ∙ sym s.parts;
        results_are = ap (λ rs. p.result ∷ rs) more.results_are;
        are = (u, mid, next, kept_part with_hosts before _ p mid s.front s.first is, more.are);
      }

  -- ---- the attempts of a call

  record KeptAttempts (plan : CallPlan) (with_hosts : Bool) (before : CacheValue) (names : List NameValue) (last : LookupResult → Type 0) (result : LookupResult) (after : CacheValue) (kept : List Exchange) : Type 0 where
    parts : List SubLookup
    asks_are : asks_of_sub_lookups parts ≡ kept
    are : AreAttempts (IsAnsweredFor t) plan with_hosts before names last parts result after

  kept_attempts : (plan : CallPlan) (with_hosts : Bool) (before : CacheValue) (names : List NameValue) (last : LookupResult → Type 0) (ps : List SubLookup) (result : LookupResult) (after : CacheValue) (kept : List Exchange) → RecordedAs (asks_of_sub_lookups ps) kept
      → AreAttempts (IsAnsweredFor t) plan with_hosts before names last ps result after → KeptAttempts plan with_hosts before names last result after kept
  kept_attempts plan with_hosts before [] last ps result after kept r (none, is, same) = record { parts = []; asks_are = no_asks ps kept none r; are = (refl, is, same) }
  kept_attempts plan with_hosts before (n ∷ ns) last ps result after kept r (front, back, one, mid, are, attempt, goes) = on (λ xs rs rest. kept_attempts plan plan.hosts_for_all mid ns (λ x. x ≡ one) back result after xs rs rest) goes
    where
      split : SplitKept (asks_of_sub_lookups front) (asks_of_sub_lookups back) kept
      split = recorded_split (asks_of_sub_lookups front) (asks_of_sub_lookups back) kept (subst (λ xs. RecordedAs xs kept) (ap asks_of_sub_lookups are ∙ asks-append front back) r)

      here : KeptSubs with_hosts n plan.types before [] front mid split.front
      here = kept_subs with_hosts n plan.types before [] front mid split.front split.first attempt.are

      on : ((xs : List Exchange) → RecordedAs (asks_of_sub_lookups back) xs → AreAttempts (IsAnsweredFor t) plan plan.hosts_for_all mid ns (λ x. x ≡ one) back result after → KeptAttempts plan plan.hosts_for_all mid ns (λ x. x ≡ one) result after xs)
          → ((stops one ≡ true) × (back ≡ []) × (result ≡ one) × (after ≡ mid)) ⊎ ((stops one ≡ false) × AreAttempts (IsAnsweredFor t) plan plan.hosts_for_all mid ns (λ x. x ≡ one) back result after)
          → KeptAttempts plan with_hosts before (n ∷ ns) last result after kept
      on again (inl (stopped, none, e, same)) = record {
        parts = here.parts;
        asks_are = here.asks_are ∙ sym (append-nil split.front) ∙ ap (λ xs. split.front ++ xs) (no_asks back split.back none split.then) ∙ sym split.parts;
        are = (here.parts, [], one, mid, sym (append-nil here.parts), record { are = here.are; result_is = subst (λ rs. IsAttemptResult plan.types rs one) (sym here.results_are) attempt.result_is }, inl (stopped, refl, e, same));
      }
      on again (inr (live, rest)) =
          let more = again split.back split.then rest in
          record {
            parts = here.parts ++ more.parts;
            asks_are = asks-append here.parts more.parts ∙ ap (λ xs. xs ++ asks_of_sub_lookups more.parts) here.asks_are ∙ ap (λ xs. split.front ++ xs) more.asks_are ∙ sym split.parts;
            are = (here.parts, more.parts, one, mid, refl, record { are = here.are; result_is = subst (λ rs. IsAttemptResult plan.types rs one) (sym here.results_are) attempt.result_is }, inr (live, more.are));
          }

-- ---- a call

module _ (s : Settings) (before : CacheValue) where
  record KeptCall (now : ℕ) (call : Call) (result : LookupResult) (after : CacheValue) (kept : List Exchange) : Type 0 where
    parts : List SubLookup
    asks_are : asks_of_sub_lookups parts ≡ kept
    is : IsCall (IsAnsweredFor (call_context_at s now)) s before call parts result after

  kept_call : (now : ℕ) (call : Call) (ps : List SubLookup) (result : LookupResult) (after : CacheValue) (kept : List Exchange) → RecordedAs (asks_of_sub_lookups ps) kept
      → IsCall (IsAnsweredFor (call_context_at s now)) s before call ps result after → KeptCall now call result after kept
  kept_call now (AtOnce answer) ps result after kept r (none, e, same) = record { parts = []; asks_are = no_asks ps kept none r; is = (refl, e, same) }
  kept_call now (Attempt n plan) ps result after kept r are =
      let k = kept_attempts (call_context_at s now) plan true before (attempts s.search n) (Says plan.no_names) ps result after kept r are in
      record { parts = k.parts; asks_are = k.asks_are; is = k.are }

  -- ---- a request

  pub kept_request : (request : RequestValue) (ps : List SubLookup) (reply : StepReply) (after : CacheValue) (kept : List Exchange) → IsServed (λ now. IsAnsweredFor (call_context_at s now)) s before request ps reply after
      → RecordedAs (asks_of_sub_lookups ps) kept → IsServedOver s before request kept reply after
  kept_request (Lookup text t now) ps (LookedUp reply) after kept (inl (name, said, is)) r =
      let k = kept_call now (name_call t name) ps reply after kept r is in
      record { parts = k.parts; asks_are = k.asks_are; served = inl (name, said, k.is) }
  kept_request (Lookup text t now) ps (LookedUp reply) after kept (inr (none, e, same)) r = record { parts = []; asks_are = no_asks ps kept none r; served = inr (refl, e, same) }
  kept_request (LookupIp text now) ps (LookedUpIp reply) after kept (inl (given, said, is)) r =
      let k = kept_call now (address_call s given.address given.name now) ps reply after kept r is in
      record { parts = k.parts; asks_are = k.asks_are; served = inl (given, said, k.is) }
  kept_request (LookupIp text now) ps (LookedUpIp reply) after kept (inr (none, e, same)) r = record { parts = []; asks_are = no_asks ps kept none r; served = inr (refl, e, same) }
  kept_request (ClearLookup text t now) ps (Cleared (Ok u)) after kept (none, is) r = record { parts = []; asks_are = no_asks ps kept none r; served = (refl, is) }
  kept_request (ClearLookup text t now) ps (Cleared (Err e)) after kept (none, out, same) r = record { parts = []; asks_are = no_asks ps kept none r; served = (refl, out, same) }
  kept_request (Clear now) ps (Cleared (Ok u)) after kept (none, is) r = record { parts = []; asks_are = no_asks ps kept none r; served = (refl, is) }
  kept_request (Lookup text t now) ps (LookedUpIp reply) after kept is r = absurd is
  kept_request (Lookup text t now) ps (Cleared (Ok u)) after kept is r = absurd is
  kept_request (Lookup text t now) ps (Cleared (Err e)) after kept is r = absurd is
  kept_request (LookupIp text now) ps (LookedUp reply) after kept is r = absurd is
  kept_request (LookupIp text now) ps (Cleared (Ok u)) after kept is r = absurd is
  kept_request (LookupIp text now) ps (Cleared (Err e)) after kept is r = absurd is
  kept_request (ClearLookup text t now) ps (LookedUp reply) after kept is r = absurd is
  kept_request (ClearLookup text t now) ps (LookedUpIp reply) after kept is r = absurd is
  kept_request (Clear now) ps (LookedUp reply) after kept is r = absurd is
  kept_request (Clear now) ps (LookedUpIp reply) after kept is r = absurd is
  kept_request (Clear now) ps (Cleared (Err e)) after kept is r = absurd is
