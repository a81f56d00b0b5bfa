-- A call over a cache that nobody else changes, step by step: it comes to the call of the definition.
use Rattle.std.proofs.Common.{◌≡◌, ◌∙◌, Bool, true, List, [], ◌∷◌, ◌++◌, refl, sym, ap, subst, inl, inr, append_assoc}
use Rattle.std.proofs.lemmas.List.{append-nil}
use Rattle.hickory_proto_core.specs.Name.{NameValue}
use Rattle.hickory_proto_core.specs.Handles.{OutcomeValue}
use Rattle.hickory_proto_core.specs.declared.query.Query.{Query}
use Rattle.hickory_proto_core.specs.declared.recorded.Exchange.{Exchange}
use Rattle.hickory_proto_core.specs.codes.record_type.RecordType.{RecordType}
use Rattle.hickory_resolver_model.specs.Attempts.{attempts}
use Rattle.hickory_resolver_model.specs.Cache.{CacheValue}
use Rattle.hickory_resolver_model.specs.Lookup.{LookupResult, question_of}
use Rattle.hickory_resolver_model.specs.Calls.{CallContext, context_over, Hosts, Client, SubLookup, IsAnsweredFor, IsAnsweredAlone, CallPlan, Says, AreAttempts, asks_of_sub_lookups}
use Rattle.hickory_resolver_model.specs.Resuming.{WaitingValue, ProgressValue, Waits, IsDone}
use Rattle.hickory_resolver_model.specs.Run.{Settings, Call, AtOnce, Attempt, IsCall, RanOutBeforeAsking}
use Rattle.hickory_resolver_theorems.specs.CallFacts.{IsCallBy}
use Rattle.hickory_resolver_theorems.specs.ResumingCalls.{AttemptValue, WaitingCallValue, CallProgressValue, with_result, at_next, FindsInHosts, StartsSub, Continues, by_hosts, waits, at_once, stopped, next_name, no_name, StartsNames, StartsCall, RunsOutAtStart, ContinuesAfter, ResumesCall}
use Rattle.hickory_resolver_theorems.proofs.SentAlone.{LookupSoFar, IsRestOfCall, CallRelation, LeadsToWhole, IsCallSentAlone, IsCallDoneAlone, CallSoFar}
use Rattle.hickory_resolver_theorems.proofs.RestOfCall.{asks-append, by_client, hosts_part, rest_stopped, attempts_of, rest_next, rest_none, more_done}
use Rattle.hickory_resolver_theorems.proofs.Weaker.{call-weaker}
use Rattle.hickory_resolver_theorems.proofs.LookupsAlone.{done_unasked, some_asked, lookup_started, lookup_resumed}

module _ (s : CallContext) where
  module _ (IsWhole : CallRelation) where
    at_end : (done : List SubLookup) (a : AttemptValue) (result : LookupResult) (before : CacheValue) → LeadsToWhole (IsAnsweredAlone s) IsWhole done a before → IsRestOfCall (IsAnsweredAlone s) a before [] result before → IsCallDoneAlone IsWhole (asks_of_sub_lookups done) result before
    at_end done a result before whole rest =
        record { parts = done; asks_are = refl; whole = subst (λ ps. IsWhole ps result before) (append-nil done) (whole [] result before rest) }

    found_done : (done : List SubLookup) (a : AttemptValue) (t : RecordType) (result : LookupResult) (before : CacheValue) → FindsInHosts s a t result → LeadsToWhole (IsAnsweredAlone s) IsWhole done a before → LeadsToWhole (IsAnsweredAlone s) IsWhole (done ++ hosts_part a t result ∷ []) (with_result a result) before
    found_done done a t result before f whole =
        more_done (IsAnsweredAlone s) IsWhole done a t before before (hosts_part a t result) f.next ((refl, record { asks_hosts = f.with_hosts; found = f.found; has = f.has; result_is = f.result_is; nothing_asked = refl; unchanged = refl }), (λ client. let clash : Hosts ≡ Client = client in cc)) whole

    started_wait : (done : List SubLookup) (a : AttemptValue) (t : RecordType) (w : WaitingValue) (before after : CacheValue) → StartsSub s a t before (Waits w) after → LeadsToWhole (IsAnsweredAlone s) IsWhole done a before → IsCallSentAlone s IsWhole (asks_of_sub_lookups done) (record { attempt = a; lookup = w }) after
    started_wait done a t w before after started whole =
        let lookup = lookup_started (context_over s before) (question_of a.name t) (Waits w) after started.starts in
        let P : CacheValue → Type 0 = λ c. IsCallSentAlone s IsWhole (asks_of_sub_lookups done) (record { attempt = a; lookup = w }) c in
        let Q : CacheValue → Type 0 = λ c. LookupSoFar (context_over s before) (question_of a.name t) [] (Waits w) c in
        subst P (sym lookup.unchanged) (record {
          done = done;
          sent = [];
          asked_type = t;
          next = started.next;
          not_in_hosts = started.not_in_hosts;
          lookup = subst Q lookup.unchanged lookup;
          asks_are = sym (append-nil (asks_of_sub_lookups done));
          rest = whole;
        })

    started_done : (done : List SubLookup) (a : AttemptValue) (t : RecordType) (result : LookupResult) (before mid : CacheValue) → StartsSub s a t before (IsDone result) mid → LeadsToWhole (IsAnsweredAlone s) IsWhole done a before → LeadsToWhole (IsAnsweredAlone s) IsWhole (done ++ by_client a t [] result ∷ []) (with_result a result) mid
    started_done done a t result before mid started whole =
        more_done (IsAnsweredAlone s) IsWhole done a t before mid (by_client a t [] result) started.next ((refl, record { not_in_hosts = started.not_in_hosts; reply = lookup_started (context_over s before) (question_of a.name t) (IsDone result) mid started.starts }), (λ client none out. done_unasked (context_over s before) (question_of a.name t) result mid started.starts)) whole

    asks_stay : (done : List SubLookup) (p : SubLookup) (progress : CallProgressValue) (after : CacheValue) → p.asks ≡ [] → CallSoFar s IsWhole (asks_of_sub_lookups (done ++ p ∷ [])) progress after → CallSoFar s IsWhole (asks_of_sub_lookups done) progress after
    asks_stay done p progress after none far =
        subst (λ xs. CallSoFar s IsWhole xs progress after) (asks-append done p ∙ ap (λ xs. asks_of_sub_lookups done ++ xs) none ∙ append-nil (asks_of_sub_lookups done)) far

    pub goes_on : (a : AttemptValue) (before : CacheValue) (progress : CallProgressValue) (after : CacheValue) (done : List SubLookup) → LeadsToWhole (IsAnsweredAlone s) IsWhole done a before → Continues s a before progress after → CallSoFar s IsWhole (asks_of_sub_lookups done) progress after
    goes_on a before progress after done whole (by_hosts {t = t} {result = result} found more) =
        asks_stay done (hosts_part a t result) progress after refl
        (goes_on (with_result a result) before progress after (done ++ hosts_part a t result ∷ []) (found_done done a t result before found whole) more)
    goes_on a before progress after done whole (waits {t = t} {w = w} started) = started_wait done a t w before after started whole
    goes_on a before progress after done whole (at_once {t = t} {result = result} {mid = mid} started more) =
        asks_stay done (by_client a t [] result) progress after refl
        (goes_on (with_result a result) mid progress after (done ++ by_client a t [] result ∷ []) (started_done done a t result before mid started whole) more)
    goes_on a before progress after done whole (stopped {result = result} is stop) = at_end done a result before whole (rest_stopped (IsAnsweredAlone s) a result before is stop)
    goes_on a before progress after done whole (next_name {result = result} {name = name} {names = names} is on left more) =
        goes_on (at_next a name names) before progress after done (λ parts r end rest. whole parts r end (rest_next (IsAnsweredAlone s) a result name names before is on left parts r end rest)) more
    goes_on a before progress after done whole (no_name {last = last} {result = result} is on left reply) = at_end done a result before whole (rest_none (IsAnsweredAlone s) a last result before is on left reply)

  -- ---- what is answered alone is answered

  pub answered-alone : (with_hosts : Bool) (before : CacheValue) (q : Query) (p : SubLookup) (after : CacheValue) → IsAnsweredAlone s with_hosts before q p after → IsAnsweredFor s with_hosts before q p after
  answered-alone with_hosts before q p after is = is.0

  pub call-alone : (settings : Settings) (before : CacheValue) (call : Call) (parts : List SubLookup) (result : LookupResult) (after : CacheValue) → IsCall (IsAnsweredAlone s) settings before call parts result after → IsCall (IsAnsweredFor s) settings before call parts result after
  call-alone = call-weaker (IsAnsweredAlone s) (IsAnsweredFor s) answered-alone

  pub call_by-alone : (settings : Settings) (before : CacheValue) (call : Call) (parts : List SubLookup) (result : LookupResult) (after : CacheValue) → IsCallBy (IsAnsweredAlone s) settings before call parts result after → IsCallBy (IsAnsweredFor s) settings before call parts result after
  call_by-alone settings before call parts result after (inl is) = inl (call-alone settings before call parts result after is)
  call_by-alone settings before call parts result after (inr out) = inr out

  -- ---- a call is started

  pub started : (plan : CallPlan) (with_hosts : Bool) (names : List NameValue) (first : CacheValue) (progress : CallProgressValue) (after : CacheValue) → StartsNames s plan with_hosts names first progress after
      → CallSoFar s (λ parts result end. AreAttempts (IsAnsweredAlone s) plan with_hosts first names (Says plan.no_names) parts result end) [] progress after
  started plan with_hosts [] first progress after (result, reply, done, e) =
      let IsWhole : CallRelation = λ parts result end. AreAttempts (IsAnsweredAlone s) plan with_hosts first [] (Says plan.no_names) parts result end in
      subst (λ p. CallSoFar s IsWhole [] p after) (sym done) (record { parts = []; asks_are = refl; whole = (refl, reply, e) })
  started plan with_hosts (name ∷ names) first progress after more =
      goes_on (λ parts result end. AreAttempts (IsAnsweredAlone s) plan with_hosts first (name ∷ names) (Says plan.no_names) parts result end)
      (record { plan = plan; with_hosts = with_hosts; name = name; results = []; left = names }) first progress after [] (attempts_of (IsAnsweredAlone s) plan with_hosts name names first (Says plan.no_names)) more

  pub started_call : (settings : Settings) (call : Call) (first : CacheValue) (progress : CallProgressValue) (after : CacheValue) → StartsCall s settings call first progress after → CallSoFar s (IsCall (IsAnsweredAlone s) settings first call) [] progress after
  started_call settings (AtOnce answer) first progress after (done, e) =
      subst (λ p. CallSoFar s (IsCall (IsAnsweredAlone s) settings first (AtOnce answer)) [] p after) (sym done) (record { parts = []; asks_are = refl; whole = (refl, refl, e) })
  started_call settings (Attempt name plan) first progress after starts = started plan true (attempts settings.search name) first progress after starts

  -- memory ran out before anything was attempted
  pub started_out : (first : CacheValue) (progress : CallProgressValue) (after : CacheValue) → RunsOutAtStart first progress after → CallSoFar s (RanOutBeforeAsking first) [] progress after
  started_out first progress after (done, e) = subst (λ p. CallSoFar s (RanOutBeforeAsking first) [] p after) (sym done) (record { parts = []; asks_are = refl; whole = (refl, refl, e) })

  -- ---- a call goes on with what came back

  module _ (IsWhole : CallRelation) (asks : List Exchange) (w : WaitingCallValue) (cache : CacheValue) (far : IsCallSentAlone s IsWhole asks w cache) (outcome : OutcomeValue) where
    abbrev came : Exchange
    came = record { query = w.lookup.hop.query; outcome = outcome }

    abbrev sent : List Exchange
    sent = far.sent ++ came ∷ []

    abbrev question : Query
    question = question_of w.attempt.name far.asked_type

    asks_now : asks_of_sub_lookups far.done ++ sent ≡ asks ++ came ∷ []
    asks_now = sym (append_assoc (asks_of_sub_lookups far.done) far.sent (came ∷ [])) ∙ ap (λ xs. xs ++ came ∷ []) (sym far.asks_are)

    resumed_by : (lookup : ProgressValue) (mid : CacheValue) → LookupSoFar (context_over s cache) question sent lookup mid → (progress : CallProgressValue) (after : CacheValue) → ContinuesAfter s w.attempt lookup mid progress after → CallSoFar s IsWhole (asks ++ came ∷ []) progress after
    resumed_by (Waits lookup) mid still progress after (is, e) =
        let P : CacheValue → Type 0 = λ c. CallSoFar s IsWhole (asks ++ came ∷ []) progress c in
        let Q : CacheValue → Type 0 = λ c. LookupSoFar (context_over s cache) question sent (Waits lookup) c in
        subst P (sym (e ∙ still.unchanged)) (subst (λ p. CallSoFar s IsWhole (asks ++ came ∷ []) p cache) (sym is) (record {
          done = far.done;
          sent = sent;
          asked_type = far.asked_type;
          next = far.next;
          not_in_hosts = far.not_in_hosts;
          lookup = subst Q still.unchanged still;
          asks_are = sym asks_now;
          rest = far.rest;
        }))
    resumed_by (IsDone result) mid reply progress after more =
        let p = by_client w.attempt far.asked_type sent result in
        subst (λ xs. CallSoFar s IsWhole xs progress after) (asks-append far.done p ∙ asks_now)
        (goes_on IsWhole (with_result w.attempt result) mid progress after (far.done ++ p ∷ [])
        (more_done (IsAnsweredAlone s) IsWhole far.done w.attempt far.asked_type cache mid p far.next ((refl, record { not_in_hosts = far.not_in_hosts; reply = reply }), (λ client none out. absurd (some_asked far.sent came none))) far.rest) more)

    pub resumed : (progress : CallProgressValue) (after : CacheValue) → ResumesCall s w outcome cache progress after → CallSoFar s IsWhole (asks ++ came ∷ []) progress after
    resumed progress after (lookup, mid, resumes, more) =
        resumed_by lookup mid (lookup_resumed (context_over s cache) question far.sent w.lookup cache far.lookup outcome mid lookup resumes) progress after more
