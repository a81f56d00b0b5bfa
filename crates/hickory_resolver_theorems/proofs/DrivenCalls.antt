-- A call that blocks, and for which memory does not run out, can be driven: it is started, and what comes back to each of
-- its questions is fed to it at once.
use Rattle.std.proofs.Common.{◌≡◌, ◌∙◌, ◌⊎◌, Bool, true, false, List, [], ◌∷◌, ◌++◌, Some, refl, sym, ap, subst, inl, inr, append_assoc}
use Rattle.std.proofs.lemmas.List.{append-nil}
use Rattle.hickory_proto_core.specs.Name.{NameValue}
use Rattle.hickory_proto_core.specs.declared.query.Query.{Query}
use Rattle.hickory_proto_core.specs.declared.recorded.Exchange.{Exchange}
use Rattle.hickory_proto_core.specs.codes.record_type.RecordType.{RecordType}
use Rattle.hickory_resolver_model.specs.Attempts.{attempts}
use Rattle.hickory_resolver_model.specs.Cache.{CacheValue}
use Rattle.hickory_resolver_model.specs.Lookup.{LookupResult, question_of}
use Rattle.hickory_resolver_model.specs.Hops.{IsWhole, one_cache}
use Rattle.hickory_resolver_model.specs.Hosts.{HostsHave, NotInHosts}
use Rattle.hickory_resolver_model.specs.Calls.{CallContext, context_over, Source, Hosts, Client, SubLookup, SubLookupRelation, IsAnsweredByHosts, IsAnsweredFrom, IsAnsweredFor, is_out_of_memory, next_type, IsAttemptResult, AreSubLookups, results_of, IsAttempt, stops, CallPlan, Says, AreAttempts, asks_of_sub_lookups}
use Rattle.hickory_resolver_model.specs.Resuming.{WaitingValue, ProgressValue, Waits, IsDone, Starts, Resumes}
use Rattle.hickory_resolver_model.specs.Run.{Settings, Call, AtOnce, Attempt, IsCall}
use Rattle.hickory_resolver_theorems.specs.Resumed.{IsDriven, IsStartedAndDriven}
use Rattle.hickory_resolver_theorems.specs.ResumingCalls.{AttemptValue, CallProgressValue, with_result, Continues, by_hosts, waits, at_once, stopped, next_name, no_name, StartsNames, IsCallDriven, IsCallStartedAndDriven}
use Rattle.hickory_resolver_theorems.proofs.Lists.{has-all}
use Rattle.hickory_resolver_theorems.proofs.CallInterleavings.{now-stays}
use Rattle.hickory_resolver_theorems.proofs.Driven.{whole_driven}
use Rattle.hickory_resolver_theorems.proofs.UnlessOut.{call-unless}

-- a question is answered by the table of hosts, or by a look-up of the client that ends with all its stores
abbrev pub IsWholeFrom : Source → CallContext → Bool → CacheValue → SubLookup → CacheValue → Type 0
IsWholeFrom Hosts t with_hosts before p after = IsAnsweredByHosts t with_hosts before p after
IsWholeFrom Client t with_hosts before p after = NotInHosts with_hosts p.question t.now t.hosts × IsWhole (context_over t before) (one_cache (context_over t before) p.asks) p.question p.asks p.result after

abbrev pub WholeSubLookup : CallContext → SubLookupRelation
WholeSubLookup t with_hosts before q p after = (p.question ≡ q) × IsWholeFrom p.source t with_hosts before p after

asks-append : (ps qs : List SubLookup) → asks_of_sub_lookups (ps ++ qs) ≡ asks_of_sub_lookups ps ++ asks_of_sub_lookups qs
asks-append [] qs = refl
asks-append (p ∷ ps) qs = ap (λ xs. p.asks ++ xs) (asks-append ps qs) ∙ sym (append_assoc p.asks (asks_of_sub_lookups ps) (asks_of_sub_lookups qs))

module _ (t : CallContext) where
  -- memory does not run out for it
  part-whole : (with_hosts : Bool) (before : CacheValue) (q : Query) (p : SubLookup) (after : CacheValue) → IsAnsweredFor t with_hosts before q p after → (is_out_of_memory p.result ≡ true) ⊎ WholeSubLookup t with_hosts before q p after
  part-whole with_hosts before q p after (for, is) = by p.source is (λ whole. (for, whole))
    where
      by : (source : Source) → IsAnsweredFrom source t with_hosts before p after → (IsWholeFrom source t with_hosts before p after → WholeSubLookup t with_hosts before q p after) → (is_out_of_memory p.result ≡ true) ⊎ WholeSubLookup t with_hosts before q p after
      by Hosts part k = inr (k part)
      by Client part k = elim part.reply [
        | inl whole ↦ inr (k (part.not_in_hosts, whole))
        | inr out ↦ inl (ap is_out_of_memory out.0)
      ]

  pub call-whole : (s : Settings) (before : CacheValue) (call : Call) (parts : List SubLookup) (reply : LookupResult) (after : CacheValue) → IsCall (IsAnsweredFor t) s before call parts reply after → (is_out_of_memory reply ≡ true) ⊎ IsCall (WholeSubLookup t) s before call parts reply after
  call-whole s before call parts reply after is =
      (call-unless (IsAnsweredFor t) (WholeSubLookup t) (λ c. Unit {0}) (λ p. Unit {0}) (λ c. c) (λ with_hosts mid q p end holds own answered. (part-whole with_hosts mid q p end answered, tt))
      s before call parts reply after tt (has-all (λ p. Unit {0}) parts (λ p h. tt)) is).0

  -- ---- a call goes on, and is driven

  record GoesOnDriven (a : AttemptValue) (before : CacheValue) (asks : List Exchange) (result : LookupResult) (after : CacheValue) : Type 0 where
    progress : CallProgressValue
    cache : CacheValue
    goes : Continues t a before progress cache
    driven : IsCallDriven t progress cache asks result after

  -- a look-up that waits is driven to its end, and the call from there
  sub-driven : (a : AttemptValue) (first : CacheValue) (w : WaitingValue) (cache : CacheValue) (xs ys : List Exchange) (r : LookupResult) (mid : CacheValue) (result : LookupResult) (after : CacheValue) → w.now ≡ t.now → IsDriven (context_over t first) (Waits w) cache xs r mid → GoesOnDriven (with_result a r) mid ys result after
      → IsCallDriven t (Waits (record { attempt = a; lookup = w })) cache (xs ++ ys) result after
  sub-driven a first w cache [] ys r mid result after now_is (done, same) more = let clash : Waits w ≡ IsDone r = done in cc
  sub-driven a first w cache (x ∷ xs) ys r mid result after now_is (asked, next, m, resumes, rest) more = by next xs resumes rest (λ v. sub-driven a first v m xs ys r mid result after)
    where
      Driven : List Exchange → Type 0
      Driven zs = IsCallDriven t (Waits (record { attempt = a; lookup = w })) cache (x ∷ zs ++ ys) result after

      by : (lookup : ProgressValue) (zs : List Exchange) → Resumes (context_over t cache) w x.outcome lookup m → IsDriven (context_over t first) lookup m zs r mid
          → ((v : WaitingValue) → v.now ≡ t.now → IsDriven (context_over t first) (Waits v) m zs r mid → GoesOnDriven (with_result a r) mid ys result after → IsCallDriven t (Waits (record { attempt = a; lookup = v })) m (zs ++ ys) result after)
          → Driven zs
      by (Waits v) zs resumes rest on =
          (now_is, asked, Waits (record { attempt = a; lookup = v }), m, (Waits v, m, resumes, (refl, refl)), on v (now-stays (context_over t cache) w x.outcome v m resumes) rest more)
      by (IsDone early) [] resumes (done, same) on =
          let one : early ≡ r = cc in
          let ended : GoesOnDriven (with_result a early) m ys result after = subst (λ c. GoesOnDriven (with_result a early) c ys result after) same (subst (λ e. GoesOnDriven (with_result a e) mid ys result after) (sym one) more) in
          (now_is, asked, ended.progress, ended.cache, (IsDone early, m, resumes, ended.goes), ended.driven)
      by (IsDone early) (z ∷ zs) resumes never on = absurd never

  -- a look-up of the client is started and driven
  client-driven : (a : AttemptValue) (u : RecordType) (before : CacheValue) (xs ys : List Exchange) (r : LookupResult) (mid : CacheValue) (result : LookupResult) (after : CacheValue) → next_type a.plan.types a.results ≡ Some u → NotInHosts a.with_hosts (question_of a.name u) t.now t.hosts
      → IsWhole (context_over t before) (one_cache (context_over t before) xs) (question_of a.name u) xs r mid → GoesOnDriven (with_result a r) mid ys result after → GoesOnDriven a before (xs ++ ys) result after
  client-driven a u before xs ys r mid result after next not_in_hosts whole more = by d.progress xs d.starts d.driven
    where
      d : IsStartedAndDriven (context_over t before) (question_of a.name u) xs r mid
      d = whole_driven (context_over t before) (question_of a.name u) xs r mid whole

      by : (lookup : ProgressValue) (zs : List Exchange) → Starts (context_over t before) (question_of a.name u) lookup d.cache → IsDriven (context_over t before) lookup d.cache zs r mid → GoesOnDriven a before (zs ++ ys) result after
      by (Waits w) zs starts driven = record {
        progress = Waits (record { attempt = a; lookup = w });
        cache = d.cache;
        goes = waits (record { next = next; not_in_hosts = not_in_hosts; starts = starts });
        driven = sub-driven a before w d.cache zs ys r mid result after (ap (λ (v : WaitingValue). v.now) starts.1) driven more;
      }
      by (IsDone early) [] starts (done, same) =
          let one : early ≡ r = cc in
          let ended : GoesOnDriven (with_result a early) d.cache ys result after = subst (λ c. GoesOnDriven (with_result a early) c ys result after) same (subst (λ e. GoesOnDriven (with_result a e) mid ys result after) (sym one) more) in
          record { progress = ended.progress; cache = ended.cache; goes = at_once (record { next = next; not_in_hosts = not_in_hosts; starts = starts }) ended.goes; driven = ended.driven }
      by (IsDone early) (z ∷ zs) starts never = absurd never

  hosts-driven : (a : AttemptValue) (u : RecordType) (before : CacheValue) (p : SubLookup) (ys : List Exchange) (mid : CacheValue) (result : LookupResult) (after : CacheValue) → next_type a.plan.types a.results ≡ Some u → p.question ≡ question_of a.name u → IsAnsweredByHosts t a.with_hosts before p mid
      → GoesOnDriven (with_result a p.result) mid ys result after → GoesOnDriven a before (p.asks ++ ys) result after
  hosts-driven a u before p ys mid result after next for part more =
      let here : GoesOnDriven (with_result a p.result) before ys result after = subst (λ c. GoesOnDriven (with_result a p.result) c ys result after) part.unchanged more in
      let has : HostsHave (question_of a.name u) t.now t.hosts (Some part.found) = subst (λ q. HostsHave q t.now t.hosts (Some part.found)) for part.has in
      subst (λ xs. GoesOnDriven a before (xs ++ ys) result after) (sym part.nothing_asked)
      (record { progress = here.progress; cache = here.cache; goes = by_hosts (record { next = next; with_hosts = part.asks_hosts; found = part.found; has = has; result_is = part.result_is }) here.goes; driven = here.driven })

  part-driven : (a : AttemptValue) (u : RecordType) (before : CacheValue) (p : SubLookup) (ys : List Exchange) (mid : CacheValue) (result : LookupResult) (after : CacheValue) → next_type a.plan.types a.results ≡ Some u → WholeSubLookup t a.with_hosts before (question_of a.name u) p mid
      → GoesOnDriven (with_result a p.result) mid ys result after → GoesOnDriven a before (p.asks ++ ys) result after
  part-driven a u before p ys mid result after next (for, is) more = by p.source is
    where
      by : (source : Source) → IsWholeFrom source t a.with_hosts before p mid → GoesOnDriven a before (p.asks ++ ys) result after
      by Hosts part = hosts-driven a u before p ys mid result after next for part more
      by Client (not_in_hosts, whole) =
          client-driven a u before p.asks ys p.result mid result after next (subst (λ q. NotInHosts a.with_hosts q t.now t.hosts) for not_in_hosts)
          (subst (λ q. IsWhole (context_over t before) (one_cache (context_over t before) p.asks) q p.asks p.result mid) for whole) more

  -- the parts of an attempt, and what is left behind them
  subs-driven : (a : AttemptValue) (before : CacheValue) (ps : List SubLookup) (mid : CacheValue) (ys : List Exchange) (result : LookupResult) (after : CacheValue) → AreSubLookups (WholeSubLookup t) a.with_hosts a.name a.plan.types before a.results ps mid
      → GoesOnDriven (record a { results = a.results ++ results_of ps }) mid ys result after → GoesOnDriven a before (asks_of_sub_lookups ps ++ ys) result after
  subs-driven a before [] mid ys result after same more =
      subst (λ c. GoesOnDriven a c ys result after) same (subst (λ rs. GoesOnDriven (record a { results = rs }) mid ys result after) (append-nil a.results) more)
  subs-driven a before (p ∷ ps) mid ys result after (u, m, next, is, rest) more =
      let there = subs-driven (with_result a p.result) m ps mid ys result after rest
      (subst (λ rs. GoesOnDriven (record a { results = rs }) mid ys result after) (sym (append_assoc a.results (p.result ∷ []) (results_of ps))) more) in
      subst (λ xs. GoesOnDriven a before xs result after) (sym (append_assoc p.asks (asks_of_sub_lookups ps) ys))
      (part-driven a u before p (asks_of_sub_lookups ps ++ ys) m result after next is there)

  -- an attempt, and what is left behind it
  abbrev AttemptDone : CallPlan → Bool → NameValue → List NameValue → List SubLookup → AttemptValue
  AttemptDone plan with_hosts name names front = record { plan = plan; with_hosts = with_hosts; name = name; results = results_of front; left = names }

  attempt-driven : (plan : CallPlan) (with_hosts : Bool) (name : NameValue) (names : List NameValue) (before : CacheValue) (front back parts : List SubLookup) (r : LookupResult) (mid : CacheValue) (result : LookupResult) (after : CacheValue) → parts ≡ front ++ back → IsAttempt (WholeSubLookup t) with_hosts before name plan.types front r mid
      → GoesOnDriven (AttemptDone plan with_hosts name names front) mid (asks_of_sub_lookups back) result after → GoesOnDriven (AttemptDone plan with_hosts name names []) before (asks_of_sub_lookups parts) result after
  attempt-driven plan with_hosts name names before front back parts r mid result after are attempt more =
      subst (λ xs. GoesOnDriven (AttemptDone plan with_hosts name names []) before xs result after) (sym (ap asks_of_sub_lookups are ∙ asks-append front back))
      (subs-driven (AttemptDone plan with_hosts name names []) before front mid (asks_of_sub_lookups back) result after attempt.are more)

  -- the call is done by it
  stop-driven : (a : AttemptValue) (back : List SubLookup) (r : LookupResult) (mid : CacheValue) (result : LookupResult) (after : CacheValue) → IsAttemptResult a.plan.types a.results r → stops r ≡ true → back ≡ [] → result ≡ r → after ≡ mid → GoesOnDriven a mid (asks_of_sub_lookups back) result after
  stop-driven a back r mid result after is stop none e same =
      subst (λ ps. GoesOnDriven a mid (asks_of_sub_lookups ps) result after) (sym none)
      (record { progress = IsDone r; cache = mid; goes = stopped is stop; driven = (ap IsDone (sym e), same) })

  attempts-driven : (plan : CallPlan) (with_hosts : Bool) (name : NameValue) (names : List NameValue) (before : CacheValue) (last : LookupResult → Type 0) (parts : List SubLookup) (result : LookupResult) (after : CacheValue) → AreAttempts (WholeSubLookup t) plan with_hosts before (name ∷ names) last parts result after
      → GoesOnDriven (AttemptDone plan with_hosts name names []) before (asks_of_sub_lookups parts) result after
  attempts-driven plan with_hosts name [] before last parts result after (front, back, r, mid, are, attempt, goes) =
      attempt-driven plan with_hosts name [] before front back parts r mid result after are attempt (by goes)
    where
      by : ((stops r ≡ true) × (back ≡ []) × (result ≡ r) × (after ≡ mid)) ⊎ ((stops r ≡ false) × AreAttempts (WholeSubLookup t) plan plan.hosts_for_all mid [] (λ x. x ≡ r) back result after)
          → GoesOnDriven (AttemptDone plan with_hosts name [] front) mid (asks_of_sub_lookups back) result after
      by (inl (stop, none, e, same)) = stop-driven (AttemptDone plan with_hosts name [] front) back r mid result after attempt.result_is stop none e same
      by (inr (live, (none, reply, same))) =
          subst (λ ps. GoesOnDriven (AttemptDone plan with_hosts name [] front) mid (asks_of_sub_lookups ps) result after) (sym none)
          (record { progress = IsDone result; cache = mid; goes = no_name attempt.result_is live refl reply; driven = (refl, same) })
  attempts-driven plan with_hosts name (m ∷ ms) before last parts result after (front, back, r, mid, are, attempt, goes) =
      attempt-driven plan with_hosts name (m ∷ ms) before front back parts r mid result after are attempt (by goes (λ rest. attempts-driven plan plan.hosts_for_all m ms mid (λ x. x ≡ r) back result after rest))
    where
      by : ((stops r ≡ true) × (back ≡ []) × (result ≡ r) × (after ≡ mid)) ⊎ ((stops r ≡ false) × AreAttempts (WholeSubLookup t) plan plan.hosts_for_all mid (m ∷ ms) (λ x. x ≡ r) back result after)
          → (AreAttempts (WholeSubLookup t) plan plan.hosts_for_all mid (m ∷ ms) (λ x. x ≡ r) back result after → GoesOnDriven (AttemptDone plan plan.hosts_for_all m ms []) mid (asks_of_sub_lookups back) result after)
          → GoesOnDriven (AttemptDone plan with_hosts name (m ∷ ms) front) mid (asks_of_sub_lookups back) result after
      by (inl (stop, none, e, same)) on = stop-driven (AttemptDone plan with_hosts name (m ∷ ms) front) back r mid result after attempt.result_is stop none e same
      by (inr (live, rest)) on =
          let more = on rest in
          record { progress = more.progress; cache = more.cache; goes = next_name attempt.result_is live refl more.goes; driven = more.driven }

  -- ---- a call

  pub call-driven : (s : Settings) (call : Call) (before : CacheValue) (parts : List SubLookup) (result : LookupResult) (after : CacheValue) → IsCall (WholeSubLookup t) s before call parts result after → IsCallStartedAndDriven t s call before (asks_of_sub_lookups parts) result after
  call-driven s (AtOnce answer) before parts result after (none, e, same) =
      subst (λ ps. IsCallStartedAndDriven t s (AtOnce answer) before (asks_of_sub_lookups ps) result after) (sym none)
      (record { progress = IsDone answer; cache = before; starts = (refl, refl); driven = (ap IsDone (sym e), same) })
  call-driven s (Attempt n plan) before parts result after tries = by (attempts s.search n) refl tries
    where
      by : (names : List NameValue) → attempts s.search n ≡ names → AreAttempts (WholeSubLookup t) plan true before names (Says plan.no_names) parts result after → IsCallStartedAndDriven t s (Attempt n plan) before (asks_of_sub_lookups parts) result after
      by [] e (none, reply, same) =
          subst (λ ps. IsCallStartedAndDriven t s (Attempt n plan) before (asks_of_sub_lookups ps) result after) (sym none)
          (record { progress = IsDone result; cache = before; starts = subst (λ ns. StartsNames t plan true ns before (IsDone result) before) (sym e) (result, reply, refl, refl); driven = (refl, same) })
      by (name ∷ names) e tried =
          let d = attempts-driven plan true name names before (Says plan.no_names) parts result after tried in
          record { progress = d.progress; cache = d.cache; starts = subst (λ ns. StartsNames t plan true ns before d.progress d.cache) (sym e) d.goes; driven = d.driven }
