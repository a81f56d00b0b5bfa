-- A call that does no I/O, step by step.
use Rattle.std.proofs.Common.{◌≡◌, ◌∙◌, ℕ, Bool, true, false, ◌||◌, List, [], ◌∷◌, ◌++◌, Option, Some}
use Rattle.std.proofs.Common.{None, Ok, Err, refl, sym, ap, subst, inl, inr, reverse, arith, ◌≤◌, length}
use Rattle.std.proofs.lemmas.List.{reverse-append}
use Rattle.std.specs.Option.{is_some}
use Rattle.hickory_proto_core.specs.Name.{NameValue}
use Rattle.hickory_proto_core.specs.Handles.{OutcomeValue}
use Rattle.hickory_proto_core.specs.codes.record_type.RecordType.{RecordType}
use Rattle.hickory_proto_core.specs.declared.query.Query.{Query}
use Rattle.hickory_proto_core.specs.declared.net_error.NetError.TheVariants.{OutOfMemory}
use Rattle.hickory_resolver_model.specs.Cache.{CacheValue}
use Rattle.hickory_resolver_model.specs.Calls.{CallContext, context_over, FamilyOrder, One, Both, Fallback}
use Rattle.hickory_resolver_model.specs.Calls.{CallPlan, Says, next_type, IsAttemptResult, IsLastReply}
use Rattle.hickory_resolver_model.specs.Calls.{joins_results, takes_memory, stops}
use Rattle.hickory_resolver_model.specs.Client.{ClientValue, KeepsHandle}
use Rattle.hickory_resolver_model.specs.Hops.{LookupContext, PassedValue, passed_by}
use Rattle.hickory_resolver_model.specs.Hosts.{Host}
use Rattle.hickory_resolver_model.specs.Lookup.{LookupValue, LookupResult, question_of}
use Rattle.hickory_resolver_model.specs.Resuming.{WaitingValue, ProgressValue, Waits, IsDone, ComesTo, Starts, Resumes}
use Rattle.hickory_resolver_model.specs.Resolver.{call_context_of}
use Rattle.hickory_resolver_model.specs.Verdict.{Hop}
use Rattle.hickory_resolver_theorems.specs.ResumingCalls.{AttemptValue, CallProgressValue}
use Rattle.hickory_resolver_theorems.specs.ResumingCalls.{Continues, by_hosts, waits, at_once, stopped, next_name}
use Rattle.hickory_resolver_theorems.specs.ResumingCalls.{no_name, ContinuesAfter, StartsNames, with_result, at_next}
use Rattle.hickory_resolver.specs.declared.attempting.Attempt.{Attempt}
use Rattle.hickory_resolver.specs.CallSteps.{first_of, first_question, CallStepValue, Goes, Over, LooksUpOnce}
use Rattle.hickory_resolver_attempts.specs.Sought.{kept_name_for}
use Rattle.hickory_resolver.specs.CallSteps.{ComesAfter, IsBegunWith, IsReady, IsReadyAfter, ContinuesFrom}
use Rattle.hickory_resolver_attempts.specs.Sought.{order_of, first_type, results_so_far}
use Rattle.hickory_resolver.specs.CallSteps.{attempt_value, second_of}
use Rattle.hickory_resolver.specs.CallSteps.{count_kept, turns_left, IsFewer}

module _ (s : CallContext) where
  -- a call that is done with this result
  is_done : (a : AttemptValue) (before : CacheValue) (result : LookupResult) (end : CallProgressValue)
      (after : CacheValue) → Continues s a before (IsDone result) before → (end ≡ IsDone result)
      × (after ≡ before) → Continues s a before end after
  is_done a before result end after done (end_is, after_is) =
      subst (λ e. Continues s a before e after) (sym end_is)
      (subst (λ c. Continues s a before (IsDone result) c) (sym after_is) done)

  -- a type was looked up
  module _ (a : AttemptValue) (t : RecordType) (next : next_type a.plan.types a.results ≡ Some t)
      (before : CacheValue) (step : CallStepValue) (mid : CacheValue) where
    pub looked_up : LooksUpOnce s a.with_hosts a.name t before step mid → (end : CallProgressValue) (after : CacheValue)
        → ComesAfter s a step mid end after → Continues s a before end after
    looked_up (inl (progress, step_is, not_in_hosts, starts)) end after comes =
        let P : CallStepValue → Type 0 = λ x. ComesAfter s a x mid end after in
        by progress starts (subst P step_is comes)
      where
        by : (p : ProgressValue) → Starts (context_over s before) (question_of a.name t) p mid
            → ContinuesAfter s a p mid end after → Continues s a before end after
        by (Waits w) starts (end_is, after_is) =
            let here : Continues s a before (Waits (record { attempt = a; lookup = w })) mid =
            waits (record { next = next; not_in_hosts = not_in_hosts; starts = starts }) in
            subst (λ e. Continues s a before e after) (sym end_is)
            (subst (λ c. Continues s a before (Waits (record { attempt = a; lookup = w })) c) (sym after_is) here)
        by (IsDone r) starts rest = at_once (record { next = next; not_in_hosts = not_in_hosts; starts = starts }) rest
    looked_up (inr (inl (found, step_is, asked, has, mid_is))) end after comes =
        let P : CallStepValue → Type 0 = λ x. ComesAfter s a x mid end after in
        let rest : Continues s (with_result a (Ok found)) mid end after = subst P step_is comes in
        by_hosts (record { next = next; with_hosts = asked; found = found; has = has; result_is = inl refl })
        (subst (λ c. Continues s (with_result a (Ok found)) c end after) mid_is rest)
    looked_up (inr (inr (step_is, mid_is))) end after comes =
        let P : CallStepValue → Type 0 = λ x. ComesAfter s a x mid end after in
        let over : (end ≡ IsDone (Err OutOfMemory)) × (after ≡ mid) = subst P step_is comes in
        let takes : takes_memory a.plan.types a.results ≡ true =
        ap (λ o. is_some o || joins_results a.plan.types a.results) next in
        is_done a before (Err OutOfMemory) end after (stopped (inr (takes, refl)) refl) (over.0, over.1 ∙ mid_is)

  -- a look-up that waits was started with the name, at the moment of the call
  module _ (with_hosts : Bool) (name : NameValue) (t : RecordType) (before : CacheValue) (mid : CacheValue) where
    pub looked_up_begun : (step : CallStepValue) → LooksUpOnce s with_hosts name t before step mid
        → (progress : ProgressValue) → step ≡ Goes progress → IsBegunWith name s.now progress
    looked_up_begun step (inl (p, step_is, not_in_hosts, starts)) progress is =
        let same : p ≡ progress = cc in
        subst (λ x. IsBegunWith name s.now x) same (by p starts)
      where
        by : (p : ProgressValue) → Starts (context_over s before) (question_of name t) p mid → IsBegunWith name s.now p
        by (Waits w) (upstream, w_is, same) = (
          ap (λ (v : WaitingValue). (first_question v).name) w_is,
          ap (λ (v : WaitingValue). v.now) w_is,
        )
        by (IsDone r) starts = tt
    looked_up_begun step (inr (inl (found, step_is, asked, has, same_cache))) progress is =
        let same : IsDone (Ok found) ≡ progress = cc in
        subst (λ x. IsBegunWith name s.now x) same tt
    looked_up_begun step (inr (inr (step_is, same))) progress is =
        let clash : Goes progress ≡ Over (Err OutOfMemory) = sym is ∙ step_is in cc

  -- the types of a name are over, with this result
  module _ (a : AttemptValue) (r : LookupResult) (made : IsAttemptResult a.plan.types a.results r)
      (before : CacheValue) (end : CallProgressValue) (after : CacheValue) where
    pub ends_call : stops r ≡ true → (end ≡ IsDone r) × (after ≡ before) → Continues s a before end after
    ends_call stopping over = is_done a before r end after (stopped made stopping) over

    pub ends_names : stops r ≡ false → a.left ≡ [] → (result : LookupResult)
        → IsLastReply a.plan.literal (λ x. x ≡ r) result → (end ≡ IsDone result) × (after ≡ before)
        → Continues s a before end after
    ends_names live none result last over = is_done a before result end after (no_name made live none last) over

    pub goes_to_next : stops r ≡ false → (name : NameValue) (names : List NameValue) → a.left ≡ name ∷ names
        → Continues s (at_next a name names) before end after → Continues s a before end after
    goes_to_next live name names left rest = next_name made live left rest

first_push : (passed : List PassedValue) (p : PassedValue) (query : Query) → first_of (passed ++ p ∷ []) query
    ≡ first_of passed p.query
first_push [] p query = refl
first_push (q ∷ qs) p query = refl

module _ (s : LookupContext) (w : WaitingValue) (now_is : s.now ≡ w.now) (outcome : OutcomeValue) where
  comes_begun : (passed : List PassedValue) (next : Hop) → passed ≡ w.passed ++ passed_by s w.hop.query outcome ∷ []
      → (p : ProgressValue) (mid : CacheValue) → ComesTo s passed next p mid → IsBegunWith (first_question w).name w.now p
  comes_begun passed next passed_are (Waits v) mid (upstream, v_is, same) = (
    ap (λ (x : WaitingValue). (first_question x).name) v_is ∙ ap (λ ps. (first_of ps next.query).name) passed_are
        ∙ ap (λ (q : Query). q.name) (first_push w.passed (passed_by s w.hop.query outcome) next.query),
    ap (λ (x : WaitingValue). x.now) v_is ∙ now_is,
  )
  comes_begun passed next passed_are (IsDone r) mid comes = tt

  -- a look-up goes on with the name that it was started with
  pub resumed_begun : (p : ProgressValue) (mid : CacheValue) → Resumes s w outcome p mid
      → IsBegunWith (first_question w).name w.now p
  resumed_begun p mid (inl f) = elim f.goes_on [
    | inl comes ↦ comes_begun (w.passed ++ passed_by s w.hop.query outcome ∷ []) f.next refl p mid comes
    | inr out ↦ subst (λ x. IsBegunWith (first_question w).name w.now x) (sym out.0) tt
  ]
  resumed_begun p mid (inr e) = subst (λ x. IsBegunWith (first_question w).name w.now x) (sym e.progress_is) tt

-- ---- the code at a name

module _ (s : CallContext) (from : AttemptValue) (a : Attempt) (name : NameValue)
    (from_is : from ≡ attempt_value a name s.now) (kept_is : a.kept_name ≡ kept_name_for (order_of a.sought) a.first name)
    (before : CacheValue) where
  -- a type of the name is looked up
  pub goes_by_look_up : (t : RecordType) → next_type from.plan.types from.results ≡ Some t
      → (step : CallStepValue) (mid : CacheValue) → LooksUpOnce s from.with_hosts from.name t before step mid
      → ContinuesFrom s from before a s.now step mid
  goes_by_look_up t next step mid once = record {
    name = name;
    ready = ready step once;
    goes = λ end after comes. looked_up s from t next before step mid once end after
        (subst (λ x. ComesAfter s x step mid end after) (sym from_is) comes);
  }
    where
      ready : (x : CallStepValue) → LooksUpOnce s from.with_hosts from.name t before x mid → IsReadyAfter a name s.now x
      ready (Goes p) looks = record {
        kept_is = kept_is;
        begun = subst (λ (f : AttemptValue). IsBegunWith f.name s.now p) from_is
            (looked_up_begun s from.with_hosts from.name t before mid (Goes p) looks p refl);
      }
      ready (Over r) looks = tt

-- ---- what the code knows of the types of a name

pub first_next : (plan : FamilyOrder) → next_type plan [] ≡ Some (first_type plan)
first_next (One t) = refl
first_next (Both t u) = refl
first_next (Fallback t u) = refl

pub kept_none : (plan : FamilyOrder) (r : LookupResult) (name : NameValue) → None ≡ kept_name_for plan (Some r) name
kept_none (One t) r name = refl
kept_none (Both t u) r name = refl
kept_none (Fallback t u) r name = refl

pub one_at_most : (first : Option LookupResult) → length (results_so_far first) ≤ 1
one_at_most None = omega arith
one_at_most (Some r) = omega arith

-- a second type is looked up behind the first result alone
pub one_before : (plan : FamilyOrder) (first : Option LookupResult) (latest : LookupResult) (t : RecordType)
    → next_type plan (results_so_far first ++ latest ∷ []) ≡ Some t → first ≡ None
one_before plan None latest t next = refl
one_before (One a) (Some r) latest t next = let clash : None ≡ Some t = next in cc
one_before (Both a b) (Some r) latest t next = let clash : None ≡ Some t = next in cc
one_before (Fallback a b) (Some r) latest t next = let clash : None ≡ Some t = next in cc

pub second_some : (name other : NameValue) (o : Option RecordType) (t : RecordType) → Some (other, t)
    ≡ second_of name o → (o ≡ Some t) × (other ≡ name)
second_some name other None t is = let clash : Some (other, t) ≡ None = is in cc
second_some name other (Some u) t is = let both : (other, t) ≡ (name, u) = cc in
    (ap (λ (p : NameValue × RecordType). Some p.1) (sym both), ap (λ (p : NameValue × RecordType). p.0) both)

pub second_none : (name : NameValue) (o : Option RecordType) → None ≡ second_of name o → o ≡ None
second_none name None is = refl
second_none name (Some u) is = let clash : None ≡ Some (name, u) = is in cc

-- the last reply, by what is known of what came last
pub last_known : (o : Option LookupValue) (P Q : LookupResult → Type 0) → ((x : LookupResult) → P x → Q x)
    → (r : LookupResult) → IsLastReply o P r → IsLastReply o Q r
last_known None P Q more r is = more r is
last_known (Some literal) P Q more r is = is

-- ---- steps one after another

pub keeps_on : {H : Type 0} (before mid after : ClientValue H) → KeepsHandle before mid → KeepsHandle mid after
    → KeepsHandle before after
keeps_on before mid after a b = record { handle_is = b.handle_is ∙ a.handle_is; option_is = b.option_is ∙ a.option_is }

pub same_context : {H : Type 0} (before after : ClientValue H) (hosts : List Host) (now : ℕ)
    → KeepsHandle before after → call_context_of after hosts now ≡ call_context_of before hosts now
same_context before after hosts now keeps = ap (λ b. record { now = now; preserve_intermediates = b; hosts = hosts })
    keeps.option_is

module _ (s : CallContext) where
  -- memory ran out before a type of a name was looked up
  pub refused : (a : AttemptValue) (t : RecordType) (next : next_type a.plan.types a.results ≡ Some t)
      (before : CacheValue) (end : CallProgressValue) (after : CacheValue) → (end ≡ IsDone (Err OutOfMemory))
      × (after ≡ before) → Continues s a before end after
  refused a t next before end after over =
      let takes : takes_memory a.plan.types a.results ≡ true = ap (λ o. is_some o || joins_results a.plan.types a.results) next in
      is_done s a before (Err OutOfMemory) end after (stopped (inr (takes, refl)) refl) over

-- ---- the steps of the code

module _ (s : CallContext) (old : Attempt) (latest : LookupResult) (name : NameValue) (before : CacheValue) where
  -- a second type is looked up
  pub goes_second : (other : NameValue) (t : RecordType) → Some (other, t)
      ≡ second_of name (next_type (order_of old.sought) (results_so_far old.first ++ latest ∷ [])) → (a : Attempt) → a
      ≡ record old { kept_name = None } → (step : CallStepValue) (mid : CacheValue)
      → LooksUpOnce s a.with_hosts other t before step mid
      → ContinuesFrom s (with_result (attempt_value old name s.now) latest) before (record a { first = Some latest }) s.now step mid
  goes_second other t is a a_is step mid =
      let P : Attempt → Type 0 = λ m. LooksUpOnce s m.with_hosts other t before step mid
      → ContinuesFrom s (with_result (attempt_value old name s.now) latest) before (record m { first = Some latest }) s.now step mid in
      subst P (sym a_is) here
    where
      here : LooksUpOnce s old.with_hosts other t before step mid
          → ContinuesFrom s (with_result (attempt_value old name s.now) latest) before
          (record old { kept_name = None; first = Some latest }) s.now step mid
      here once =
          let both = second_some name other (next_type (order_of old.sought) (results_so_far old.first ++ latest ∷ [])) t is in
          let none : old.first ≡ None = one_before (order_of old.sought) old.first latest t both.0 in
          let N : NameValue → Type 0 = λ n. LooksUpOnce s old.with_hosts n t before step mid in
          let from : AttemptValue = with_result (attempt_value old name s.now) latest in
          goes_by_look_up s from (record old { kept_name = None; first = Some latest }) name
          (λ i. record from { results = results_so_far (none i) ++ latest ∷ [] })
          (kept_none (order_of old.sought) latest name) before t both.0 step mid (subst N both.1 once)

  -- no other type follows
  pub goes_on_end : None ≡ second_of name (next_type (order_of old.sought) (results_so_far old.first ++ latest ∷ []))
      → (a : Attempt) → a ≡ record old { kept_name = None } → (b : Attempt) (step : CallStepValue) (mid : CacheValue)
      → (next_type (order_of a.sought) (results_so_far a.first ++ latest ∷ []) ≡ None
      → ContinuesFrom s (with_result (attempt_value a name s.now) latest) before b s.now step mid)
      → ContinuesFrom s (with_result (attempt_value old name s.now) latest) before b s.now step mid
  goes_on_end is a a_is b step mid goes =
      let P : Attempt → Type 0 = λ m. next_type (order_of m.sought) (results_so_far m.first ++ latest ∷ []) ≡ None
      → ContinuesFrom s (with_result (attempt_value m name s.now) latest) before b s.now step mid in
      subst P a_is goes (second_none name (next_type (order_of old.sought) (results_so_far old.first ++ latest ∷ [])) is)

  module _ (reply : LookupResult) (made : IsAttemptResult (order_of old.sought)
      (results_so_far old.first ++ latest ∷ []) reply) (b : Attempt) where
    abbrev at_end : AttemptValue
    at_end = with_result (attempt_value old name s.now) latest

    -- the reply of the name is that of the call
    pub goes_over : stops reply ≡ true → ContinuesFrom s at_end before b s.now (Over reply) before
    goes_over stopping = record {
      name = name;
      ready = tt;
      goes = λ end after comes. ends_call s at_end reply made before end after stopping comes;
    }

    -- it was the last name
    pub goes_last : stops reply ≡ false → old.left.items ≡ [] → (result : LookupResult)
        → IsLastReply at_end.plan.literal (λ x. x ≡ reply) result → ContinuesFrom s at_end before b s.now (Over result) before
    goes_last live none result last = record {
      name = name;
      ready = tt;
      goes = λ end after comes. ends_names s at_end reply made before end after live (ap (λ ns. reverse ns) none)
          result last comes;
    }

    -- another name follows
    pub goes_next : stops reply ≡ false → (rest : List NameValue) (other : NameValue) → old.left.items
        ≡ rest ++ other ∷ [] → (step : CallStepValue) (mid : CacheValue)
        → ContinuesFrom s (at_next at_end other (reverse rest)) before b s.now step mid → ContinuesFrom s at_end before b s.now step mid
    goes_next live rest other are step mid next =
        let turned : reverse old.left.items ≡ other ∷ reverse rest =
        ap (λ ns. reverse ns) are ∙ reverse-append rest (other ∷ []) in
        record {
          name = next.name;
          ready = next.ready;
          goes = λ end after comes. goes_to_next s at_end reply made before end after live other (reverse rest) turned
              (next.goes end after comes);
        }

-- the name that was there once more is taken
pub fewer_second : (old a : Attempt) (latest : LookupResult) (name : NameValue) → a ≡ record old { kept_name = None }
    → old.kept_name ≡ Some name → (step : CallStepValue) → IsFewer step (turns_left (record a { first = Some latest })) (turns_left old)
fewer_second old a latest name a_is kept_name (Goes p) =
    omega (arith, ap (λ (m : Attempt). turns_left m) a_is, ap (λ o. count_kept o) kept_name)
fewer_second old a latest name a_is kept_name (Over r) = tt

-- ---- the loop

-- whatever a call comes to from here, it comes to from where the loop began
pub record StillGoes
    (s : CallContext) (from : AttemptValue) (first : ProgressValue) (before : CacheValue) (a : Attempt) (now : ℕ)
    (lookup : ProgressValue) (mid : CacheValue)
    : Type 0 where
  pub name : NameValue
  pub ready : IsReady a name now lookup
  pub goes : (end : CallProgressValue) (after : CacheValue)
      → ContinuesAfter s (attempt_value a name now) lookup mid end after → ContinuesAfter s from first before end after

pub still_first : (s : CallContext) (a : Attempt) (name : NameValue) (now : ℕ) (lookup : ProgressValue)
    (before : CacheValue) → IsReady a name now lookup → StillGoes s (attempt_value a name now) lookup before a now lookup before
still_first s a name now lookup before ready = record { name = name; ready = ready; goes = λ end after comes. comes }

module _ (s : CallContext) (from : AttemptValue) (first : ProgressValue) (before : CacheValue) (a : Attempt) (now : ℕ) where
  pub still_next : (r : LookupResult) (mid : CacheValue) (still : StillGoes s from first before a now (IsDone r) mid)
      (b : Attempt) (p : ProgressValue) (after : CacheValue)
      → ContinuesFrom s (with_result (attempt_value a still.name now) r) mid b now (Goes p) after
      → StillGoes s from first before b now p after
  still_next r mid still b p after step = record {
    name = step.name;
    ready = step.ready;
    goes = λ end last comes. still.goes end last (step.goes end last comes);
  }

  pub still_over : (r : LookupResult) (mid : CacheValue) (still : StillGoes s from first before a now (IsDone r) mid)
      (b : Attempt) (result : LookupResult) (after : CacheValue)
      → ContinuesFrom s (with_result (attempt_value a still.name now) r) mid b now (Over result) after
      → ContinuesAfter s from first before (IsDone result) after
  still_over r mid still b result after step = still.goes (IsDone result) after
      (step.goes (IsDone result) after (refl, refl))

  module _ (w : WaitingValue) (mid : CacheValue) (still : StillGoes s from first before a now (Waits w) mid) where
    pub still_waits : ContinuesAfter s from first before
        (Waits (record { attempt = attempt_value a (first_question w).name w.now; lookup = w })) mid
    still_waits =
        let same : attempt_value a (first_question w).name w.now ≡ attempt_value a still.name now =
        λ i. attempt_value a (still.ready.begun.0 i) (still.ready.begun.1 i) in
        still.goes (Waits (record { attempt = attempt_value a (first_question w).name w.now; lookup = w })) mid
        (ap (λ (x : AttemptValue). Waits (record { attempt = x; lookup = w })) same, refl)

    pub still_kept : a.kept_name ≡ kept_name_for (order_of a.sought) a.first (first_question w).name
    still_kept = still.ready.kept_is ∙ ap (λ n. kept_name_for (order_of a.sought) a.first n) (sym still.ready.begun.0)

-- ---- a call is started

module _ (s : CallContext) (with_hosts : Bool) where
  -- a name is the first
  pub starts_names : (plan : CallPlan) (all left : List NameValue) (name : NameValue) → all ≡ left ++ name ∷ []
      → (before : CacheValue) (end : CallProgressValue) (after : CacheValue)
      → Continues s (record { plan = plan; with_hosts = with_hosts; name = name; results = []; left = reverse left }) before end
      after → StartsNames s plan with_hosts (reverse all) before end after
  starts_names plan all left name are before end after goes =
      let turned : reverse all ≡ name ∷ reverse left = ap (λ ns. reverse ns) are ∙ reverse-append left (name ∷ []) in
      subst (λ ns. StartsNames s plan with_hosts ns before end after) (sym turned) goes

  -- there is none
  pub starts_none : (plan : CallPlan) (all : List NameValue) → all ≡ [] → (said : LookupResult)
      → Says plan.no_names said → (result : LookupResult) → IsLastReply plan.literal (λ x. x ≡ said) result
      → (before : CacheValue)
      → StartsNames s plan with_hosts (reverse all) before (IsDone result) before
  starts_none plan all none said says result last before =
      subst (λ ns. StartsNames s plan with_hosts ns before (IsDone result) before) (sym (ap (λ ns. reverse ns) none)) (
        result,
        last_known plan.literal (λ x. x ≡ said) (Says plan.no_names)
            (λ x is. subst (Says plan.no_names) (sym is) says) result last,
        refl,
        refl,
      )
