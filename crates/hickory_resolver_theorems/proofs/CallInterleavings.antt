-- Calls in flight over one resolver are look-ups in flight over its client.
use Rattle.std.proofs.Common.{◌≡◌, ◌∙◌, ◌⊎◌, ℕ, Bool, true, List, [], ◌∷◌, ◌++◌, Some, Ok, Err, refl, sym, ap, ap₂, subst, inl, inr, append_assoc}
use Rattle.std.proofs.lemmas.List.{append-nil}
use Rattle.std.specs.List.{AllByRecursion, Contains}
use Rattle.hickory_proto_core.specs.Name.{NameValue}
use Rattle.hickory_proto_core.specs.Handles.{OutcomeValue}
use Rattle.hickory_proto_core.specs.declared.recorded.Exchange.{Exchange}
use Rattle.hickory_proto_core.specs.codes.record_type.RecordType.{RecordType}
use Rattle.hickory_proto_core.specs.declared.net_error.NetError.TheVariants.{OutOfMemory}
use Rattle.hickory_resolver_model.specs.Attempts.{attempts}
use Rattle.hickory_resolver_model.specs.Cache.{CacheValue, without_query}
use Rattle.hickory_resolver_model.specs.Lookup.{LookupResult, question_of}
use Rattle.hickory_resolver_model.specs.Hops.{LookupContext}
use Rattle.hickory_resolver_model.specs.Hosts.{Host, NotInHosts}
use Rattle.hickory_resolver_model.specs.Calls.{CallContext, context_over, SubLookup, SubLookupRelation, next_type, CallPlan, Says, AreAttempts, asks_of_sub_lookups}
use Rattle.hickory_resolver_model.specs.Resuming.{WaitingValue, ProgressValue, Waits, IsDone, Resumes}
use Rattle.hickory_resolver_model.specs.Run.{Settings, Call, AtOnce, Attempt, IsCall, drop_each}
use Rattle.hickory_resolver_theorems.proofs.SentAlone.{IsRestOfCall, LeadsToWhole}
use Rattle.hickory_resolver_theorems.specs.Covered.{Dated, dated_exchanges}
use Rattle.hickory_resolver_theorems.specs.Interleaved.{PendingValue, DoneValue, WorldValue, world_of, EventValue, Started, Fed, Dropped, ClearedOfAll, ClearedOf, asks_with, caches_with, Happens, Happen, ended_by, received_by, ended_in, received_in}
use Rattle.hickory_resolver_theorems.specs.InterleavedCalls.{PendingCallValue, DoneCallValue, CallWorldValue, call_world_of, call_context_over, CallEventValue, CallStarted, CallFed, CallDropped, AllCleared, NameCleared, HostsReplaced, exchange_with, call_pending, call_done, placed, CallHappens, CallsHappen, calls_ended_by, calls_received_by, calls_received_in, tables_by, tables_in, IsQuestionOf, last_table, StoodSince, IsStartedIn, IsAskedIn, IsPromisedAmong, InterleavedSubLookup, IsPromisedCallEnd, IsPromisedCallEndSince, IsPromisedCallInterleaving}
use Rattle.hickory_resolver_theorems.specs.ResumingCalls.{AttemptValue, WaitingCallValue, CallProgressValue, with_result, at_next, FindsInHosts, StartsSub, Continues, by_hosts, waits, at_once, stopped, next_name, no_name, StartsNames, StartsCall, RunsOutAtStart, ContinuesAfter}
use Rattle.hickory_resolver_theorems.proofs.Fronts.{IsFront, front-self, front-more, front-trans, contains-front}
use Rattle.hickory_resolver_theorems.proofs.Interleavings.{interleaved}
use Rattle.hickory_resolver_theorems.proofs.Lists.{ContainsByRecursion, all-weaker, all-append, all-front, all-back, contains-from_recursion, contains-to_recursion, has-right}
use Rattle.hickory_resolver_theorems.proofs.RunEvents.{happen-append, received-append, ended-append}
use Rattle.hickory_resolver_theorems.proofs.RestOfCall.{asks-append, by_client, hosts_part, rest_stopped, attempts_of, rest_next, rest_none, more_done}

happen-more : (preserve : Bool) (first : WorldValue) (events : List EventValue) (mid : WorldValue) (event : EventValue) (after : WorldValue) → Happen preserve first events mid → Happens preserve mid event after → Happen preserve first (events ++ event ∷ []) after
happen-more preserve first [] mid event after e happens = (after, subst (λ w. Happens preserve w event after) e happens, refl)
happen-more preserve first (one ∷ events) mid event after (next, is, rest) happens = (next, is, happen-more preserve next events mid event after rest happens)

-- a look-up that waits on has the moment of its start
pub now-stays : (s : LookupContext) (w : WaitingValue) (outcome : OutcomeValue) (lookup : WaitingValue) (after : CacheValue) → Resumes s w outcome (Waits lookup) after → lookup.now ≡ s.now
now-stays s w outcome lookup after (inl f) = elim f.goes_on [
  | inl comes ↦ ap (λ (v : WaitingValue). v.now) comes.1
  | inr out ↦ let clash = out.0 in cc
]
now-stays s w outcome lookup after (inr e) = let clash = e.progress_is in cc

received-fed : (before : List EventValue) (event : EventValue) (after : List EventValue) (received own : List Dated) → received_in before ≡ received → received_by event ≡ own → received_in after ≡ [] → received_in ((before ++ event ∷ []) ++ after) ≡ received ++ own
received-fed before event after received own e k none =
    received-append (before ++ event ∷ []) after
    ∙ ap₂ (λ xs ys. xs ++ ys) (received-append before (event ∷ []) ∙ ap₂ (λ xs ys. xs ++ ys) e (append-nil (received_by event) ∙ k)) none ∙ append-nil (received ++ own)

among-later : (preserve : Bool) (empty : CacheValue) (xs ys : List EventValue) (d : DoneValue) → IsPromisedAmong preserve empty xs d → IsFront xs ys → IsPromisedAmong preserve empty ys d
among-later preserve empty xs ys d is (more, e) = record {
  earlier = is.earlier;
  event = is.event;
  later = is.later ++ more;
  are = e ∙ ap (λ l. l ++ more) is.are ∙ append_assoc is.earlier (is.event ∷ is.later) more;
  before = is.before;
  after = is.after;
  happened = is.happened;
  happens = is.happens;
  is_end = is.is_end;
  promised = is.promised;
}

module _ (s : Settings) (empty : CacheValue) (none : empty.entries ≡ []) (opening : List Host) where
  abbrev preserve : Bool
  preserve = s.preserve_intermediates

  abbrev Answers : List (List Host) → List EventValue → ℕ → SubLookupRelation
  Answers tables lookups now = InterleavedSubLookup s empty tables lookups now

  -- whatever tables and look-ups come later, the rest of a call with the parts that are done is the whole call
  abbrev Leads : List (List Host) → List EventValue → Call → ℕ → List SubLookup → AttemptValue → Type 0
  Leads tables lookups call now done a = (T : List (List Host)) (L : List EventValue) → IsFront tables T → IsFront lookups L
      → LeadsToWhole (Answers T L now) (IsCall (Answers T L now) s empty call) done a empty

  leads-later : (tables others : List (List Host)) (lookups more : List EventValue) (call : Call) (now : ℕ) (done : List SubLookup) (a : AttemptValue) → IsFront tables others → IsFront lookups more → Leads tables lookups call now done a → Leads others more call now done a
  leads-later tables others lookups more call now done a f g leads T L h k = leads T L (front-trans tables others T f h) (front-trans lookups more L g k)

  -- what it may look up are questions of the call
  abbrev Within : Call → AttemptValue → Type 0
  Within call a = (name : NameValue) (t : RecordType) (results : List LookupResult) → Contains (a.name ∷ a.left) name → next_type a.plan.types results ≡ Some t → IsQuestionOf s call (question_of name t)

  within-own : (call : Call) (a : AttemptValue) (t : RecordType) → Within call a → next_type a.plan.types a.results ≡ Some t → IsQuestionOf s call (question_of a.name t)
  within-own call a t within next = within a.name t a.results (contains-from_recursion (a.name ∷ a.left) a.name (inl refl)) next

  within-next : (call : Call) (a : AttemptValue) (name : NameValue) (names : List NameValue) → a.left ≡ name ∷ names → Within call a → Within call (at_next a name names)
  within-next call a name names left within other t results has next =
      within other t results (contains-from_recursion (a.name ∷ a.left) other (inr (contains-to_recursion a.left other (subst (λ ns. Contains ns other) (sym left) has)))) next

  -- a look-up of a question of a call, from its moment
  abbrev IsOfCall : Call → ℕ → DoneValue → Type 0
  IsOfCall call now d = (d.now ≡ now) × IsQuestionOf s call d.question

  -- a call in flight is this one
  abbrev IsThisCall : Call → ℕ → PendingCallValue → Type 0
  IsThisCall call now c = (c.call ≡ call) × (c.waiting.lookup.now ≡ now)

  -- what is known of a call in flight and of the look-up for which it waits
  record IsKnownCall (tables : List (List Host)) (lookups : List EventValue) (c : PendingCallValue) (p : PendingValue) : Type 0 where
    same : p.waiting ≡ c.waiting.lookup
    hosts : List Host
    stood : Contains tables hosts
    asked_type : RecordType
    next : next_type c.waiting.attempt.plan.types c.waiting.attempt.results ≡ Some asked_type
    question_is : p.question ≡ question_of c.waiting.attempt.name asked_type
    not_in_hosts : NotInHosts c.waiting.attempt.with_hosts (question_of c.waiting.attempt.name asked_type) c.waiting.lookup.now hosts
    done : List SubLookup
    asks_are : c.asks ≡ asks_of_sub_lookups done ++ p.asks
    leads : Leads tables lookups c.call c.waiting.lookup.now done c.waiting.attempt
    within : Within c.call c.waiting.attempt

  known-later : (tables others : List (List Host)) (lookups more : List EventValue) (c : PendingCallValue) (p : PendingValue) → IsFront tables others → IsFront lookups more → IsKnownCall tables lookups c p → IsKnownCall others more c p
  known-later tables others lookups more c p f g is = record {
    same = is.same;
    hosts = is.hosts;
    stood = contains-front tables others is.hosts is.stood f;
    asked_type = is.asked_type;
    next = is.next;
    question_is = is.question_is;
    not_in_hosts = is.not_in_hosts;
    done = is.done;
    asks_are = is.asks_are;
    leads = leads-later tables others lookups more c.call c.waiting.lookup.now is.done c.waiting.attempt f g is.leads;
    within = is.within;
  }

  -- for each call in flight there is its look-up, in the same order
  abbrev Match : List (List Host) → List EventValue → List PendingCallValue → List PendingValue → Type 0
  Match tables lookups [] [] = Unit {0}
  Match tables lookups (c ∷ cs) (p ∷ ps) = IsKnownCall tables lookups c p × Match tables lookups cs ps
  Match tables lookups [] (p ∷ ps) = ⊥
  Match tables lookups (c ∷ cs) [] = ⊥

  -- ---- the tables that stood since the start of a call

  tables-append : (xs ys : List CallEventValue) → tables_in (xs ++ ys) ≡ tables_in xs ++ tables_in ys
  tables-append [] ys = refl
  tables-append (x ∷ xs) ys = ap (λ l. tables_by x ++ l) (tables-append xs ys) ∙ sym (append_assoc (tables_by x) (tables_in xs) (tables_in ys))

  last-append : (hosts : List Host) (xs ys : List (List Host)) → last_table hosts (xs ++ ys) ≡ last_table (last_table hosts xs) ys
  last-append hosts [] ys = refl
  last-append hosts (x ∷ xs) ys = last-append x xs ys

  last-has : (hosts : List Host) (tables : List (List Host)) → ContainsByRecursion (hosts ∷ tables) (last_table hosts tables)
  last-has hosts [] = inl refl
  last-has hosts (x ∷ xs) = inr (last-has x xs)

  stood-later : (events more : List CallEventValue) (call : Call) (now : ℕ) (tables : List (List Host)) → StoodSince opening events call now tables → StoodSince opening (events ++ more) call now (tables ++ tables_in more)
  stood-later events more call now tables is = record {
    earlier = is.earlier;
    progress = is.progress;
    later = is.later ++ more;
    are = ap (λ l. l ++ more) is.are ∙ append_assoc is.earlier (CallStarted call now is.progress ∷ is.later) more;
    tables_are = ap (λ l. l ++ tables_in more) is.tables_are ∙ ap (λ l. last_table opening (tables_in is.earlier) ∷ l) (sym (tables-append is.later more));
  }

  -- the one that stands now is among them
  stands-since : (events : List CallEventValue) (call : Call) (now : ℕ) (tables : List (List Host)) (hosts : List Host) → StoodSince opening events call now tables → last_table opening (tables_in events) ≡ hosts → Contains tables hosts
  stands-since events call now tables hosts is stands =
      let at_start = last_table opening (tables_in is.earlier) in
      let now_is : last_table at_start (tables_in is.later) ≡ hosts =
      sym (last-append opening (tables_in is.earlier) (tables_in is.later))
      ∙ ap (last_table opening) (sym (tables-append is.earlier (CallStarted call now is.progress ∷ is.later)))
      ∙ ap (λ es. last_table opening (tables_in es)) (sym is.are) ∙ stands in
      subst (λ h. Contains tables h) now_is
      (subst (λ ts. Contains ts (last_table at_start (tables_in is.later))) (sym is.tables_are)
      (contains-from_recursion (at_start ∷ tables_in is.later) (last_table at_start (tables_in is.later)) (last-has at_start (tables_in is.later))))

  -- what is known of a call in flight, by the tables that stood since its start
  record IsKnownSince (events : List CallEventValue) (lookups : List EventValue) (c : PendingCallValue) (p : PendingValue) : Type 0 where
    tables : List (List Host)
    since : StoodSince opening events c.call c.waiting.lookup.now tables
    known : IsKnownCall tables lookups c p

  since-later : (events more : List CallEventValue) (lookups others : List EventValue) (c : PendingCallValue) (p : PendingValue) → IsFront lookups others → IsKnownSince events lookups c p → IsKnownSince (events ++ more) others c p
  since-later events more lookups others c p g is = record {
    tables = is.tables ++ tables_in more;
    since = stood-later events more c.call c.waiting.lookup.now is.tables is.since;
    known = known-later is.tables (is.tables ++ tables_in more) lookups others c p (front-more is.tables (tables_in more)) g is.known;
  }

  abbrev MatchSince : List CallEventValue → List EventValue → List PendingCallValue → List PendingValue → Type 0
  MatchSince events lookups [] [] = Unit {0}
  MatchSince events lookups (c ∷ cs) (p ∷ ps) = IsKnownSince events lookups c p × MatchSince events lookups cs ps
  MatchSince events lookups [] (p ∷ ps) = ⊥
  MatchSince events lookups (c ∷ cs) [] = ⊥

  match_since-later : (events more : List CallEventValue) (lookups others : List EventValue) → IsFront lookups others → (cs : List PendingCallValue) (ps : List PendingValue) → MatchSince events lookups cs ps → MatchSince (events ++ more) others cs ps
  match_since-later events more lookups others g [] [] all = tt
  match_since-later events more lookups others g (c ∷ cs) (p ∷ ps) (one, all) = (since-later events more lookups others c p g one, match_since-later events more lookups others g cs ps all)
  match_since-later events more lookups others g [] (p ∷ ps) never = absurd never
  match_since-later events more lookups others g (c ∷ cs) [] never = absurd never

  match_since-append : (events : List CallEventValue) (lookups : List EventValue) (cs ds : List PendingCallValue) (ps qs : List PendingValue) → MatchSince events lookups cs ps → MatchSince events lookups ds qs → MatchSince events lookups (cs ++ ds) (ps ++ qs)
  match_since-append events lookups [] ds [] qs all more = more
  match_since-append events lookups (c ∷ cs) ds (p ∷ ps) qs (one, all) more = (one, match_since-append events lookups cs ds ps qs all more)
  match_since-append events lookups [] ds (p ∷ ps) qs never more = absurd never
  match_since-append events lookups (c ∷ cs) ds [] qs never more = absurd never

  -- the same of one call alone
  match-since : (events : List CallEventValue) (tables : List (List Host)) (lookups : List EventValue) (call : Call) (now : ℕ) → StoodSince opening events call now tables → (cs : List PendingCallValue) (ps : List PendingValue) → AllByRecursion (IsThisCall call now) cs → Match tables lookups cs ps → MatchSince events lookups cs ps
  match-since events tables lookups call now since [] [] own all = tt
  match-since events tables lookups call now since (c ∷ cs) (p ∷ ps) ((same, now_is), own) (one, all) = (
    record {
      tables = tables;
      since = subst (λ k. StoodSince opening events k c.waiting.lookup.now tables) (sym same) (subst (λ n. StoodSince opening events call n tables) (sym now_is) since);
      known = one;
    },
    match-since events tables lookups call now since cs ps own all,
  )
  match-since events tables lookups call now since [] (p ∷ ps) own never = absurd never
  match-since events tables lookups call now since (c ∷ cs) [] own never = absurd never

  -- the look-ups around that of a call
  record IsAround (events : List CallEventValue) (lookups : List EventValue) (front : List PendingCallValue) (c : PendingCallValue) (back : List PendingCallValue) (ps : List PendingValue) : Type 0 where
    first : List PendingValue
    own : PendingValue
    rest : List PendingValue
    are : ps ≡ first ++ own ∷ rest
    fronts : MatchSince events lookups front first
    known : IsKnownSince events lookups c own
    backs : MatchSince events lookups back rest

  match-around : (events : List CallEventValue) (lookups : List EventValue) (front : List PendingCallValue) (c : PendingCallValue) (back : List PendingCallValue) (ps : List PendingValue) → MatchSince events lookups (front ++ c ∷ back) ps → IsAround events lookups front c back ps
  match-around events lookups [] c back (p ∷ ps) (one, all) = record { first = []; own = p; rest = ps; are = refl; fronts = tt; known = one; backs = all }
  match-around events lookups (d ∷ front) c back (p ∷ ps) (one, all) =
      let there = match-around events lookups front c back ps all in
      record { first = p ∷ there.first; own = there.own; rest = there.rest; are = ap (λ l. p ∷ l) there.are; fronts = (one, there.fronts); known = there.known; backs = there.backs }
  match-around events lookups [] c back [] never = absurd never
  match-around events lookups (d ∷ front) c back [] never = absurd never

  -- ---- a part

  module _ (tables : List (List Host)) (hosts : List Host) (stood : Contains tables hosts) (call : Call) (now : ℕ) where
    abbrev ctx : CallContext
    ctx = call_context_over s now hosts

    leads-found : (lookups : List EventValue) (done : List SubLookup) (a : AttemptValue) (t : RecordType) (result : LookupResult) → FindsInHosts ctx a t result → Leads tables lookups call now done a → Leads tables lookups call now (done ++ hosts_part a t result ∷ []) (with_result a result)
    leads-found lookups done a t result f leads T L h k =
        more_done (Answers T L now) (IsCall (Answers T L now) s empty call) done a t empty empty (hosts_part a t result) f.next
        (refl, (hosts, contains-front tables T hosts stood h, record { asks_hosts = f.with_hosts; found = f.found; has = f.has; result_is = f.result_is; nothing_asked = refl; unchanged = refl }))
        (leads T L h k)

    -- a look-up of the client ended
    leads-ended : (lookups more : List EventValue) (done : List SubLookup) (a : AttemptValue) (t : RecordType) (d : DoneValue) → next_type a.plan.types a.results ≡ Some t → NotInHosts a.with_hosts (question_of a.name t) now hosts → d.question ≡ question_of a.name t → d.now ≡ now
        → IsFront lookups more → IsPromisedAmong preserve empty more d → Leads tables lookups call now done a → Leads tables more call now (done ++ by_client a t d.asks d.result ∷ []) (with_result a d.result)
    leads-ended lookups more done a t d next not_in_hosts question_is now_is g among leads T L h k =
        more_done (Answers T L now) (IsCall (Answers T L now) s empty call) done a t empty empty (by_client a t d.asks d.result) next (
          refl,
          (
            record {
              hosts = hosts;
              stood = contains-front tables T hosts stood h;
              not_in_hosts = not_in_hosts;
              lookup = d;
              question_is = question_is;
              now_is = now_is;
              asks_are = refl;
              result_is = refl;
              promised = among-later preserve empty more L d among k;
            },
            refl,
          ),
        )
        (leads T L h (front-trans lookups more L g k))

    -- ---- a call goes on

    -- the look-ups' world after it, and what is known of the call
    record Gone (lookups : List EventValue) (asks : List Exchange) (progress : CallProgressValue) (after : CacheValue) (ps : List PendingValue) : Type 0 where
      more : List EventValue
      new : List PendingValue
      happened : Happen preserve (world_of empty) (lookups ++ more) (record { cache = after; pending = ps ++ new })
      nothing : received_in more ≡ []
      known : Match tables (lookups ++ more) (call_pending call asks progress) new
      ended : AllByRecursion (IsPromisedCallEnd s empty tables (lookups ++ more)) (call_done call now asks progress)
      asked : AllByRecursion (IsOfCall call now) (ended_in more)
      own : AllByRecursion (IsThisCall call now) (call_pending call asks progress)

    -- it is done, and nothing more was looked up
    gone-done : (lookups : List EventValue) (parts : List SubLookup) (result : LookupResult) (after : CacheValue) (ps : List PendingValue) → Happen preserve (world_of empty) lookups (record { cache = after; pending = ps }) → IsPromisedCallEnd s empty tables lookups (record { call = call; now = now; asks = asks_of_sub_lookups parts; result = result })
        → Gone lookups (asks_of_sub_lookups parts) (IsDone result) after ps
    gone-done lookups parts result after ps happened is =
        let Q : List EventValue → List PendingValue → Type 0 = λ ls qs. Happen preserve (world_of empty) ls (record { cache = after; pending = qs }) in
        record {
          more = [];
          new = [];
          happened = subst (λ ls. Q ls (ps ++ [])) (sym (append-nil lookups)) (subst (Q lookups) (sym (append-nil ps)) happened);
          nothing = refl;
          known = tt;
          ended = (subst (λ ls. IsPromisedCallEnd s empty tables ls (record { call = call; now = now; asks = asks_of_sub_lookups parts; result = result })) (sym (append-nil lookups)) is, tt);
          asked = tt;
          own = tt;
        }

    gone-over : (lookups : List EventValue) (done : List SubLookup) (a : AttemptValue) (result : LookupResult) (after : CacheValue) (ps : List PendingValue) → Happen preserve (world_of empty) lookups (record { cache = after; pending = ps }) → Leads tables lookups call now done a → IsRestOfCall (Answers tables lookups now) a empty [] result empty
        → Gone lookups (asks_of_sub_lookups done) (IsDone result) after ps
    gone-over lookups done a result after ps happened leads rest =
        let whole = leads tables lookups (front-self tables) (front-self lookups) [] result empty rest in
        gone-done lookups done result after ps happened
        (record { parts = done; asks_are = refl; is = inl (subst (λ xs. IsCall (Answers tables lookups now) s empty call xs result empty) (append-nil done) whole) })

    -- the first look-up's event, and the others'
    gone-after : (lookups : List EventValue) (event : EventValue) (asks : List Exchange) (progress : CallProgressValue) (after : CacheValue) (ps : List PendingValue) → received_by event ≡ [] → AllByRecursion (IsOfCall call now) (ended_by event) → Gone (lookups ++ event ∷ []) asks progress after ps → Gone lookups asks progress after ps
    gone-after lookups event asks progress after ps nothing asked g =
        let e = append_assoc lookups (event ∷ []) g.more in
        record {
          more = event ∷ g.more;
          new = g.new;
          happened = subst (λ ls. Happen preserve (world_of empty) ls (record { cache = after; pending = ps ++ g.new })) e g.happened;
          nothing = ap₂ (λ xs ys. xs ++ ys) nothing g.nothing;
          known = subst (λ ls. Match tables ls (call_pending call asks progress) g.new) e g.known;
          ended = subst (λ ls. AllByRecursion (IsPromisedCallEnd s empty tables ls) (call_done call now asks progress)) e g.ended;
          asked = all-append (IsOfCall call now) (ended_by event) (ended_in g.more) asked g.asked;
          own = g.own;
        }

    gone-asks : (lookups : List EventValue) (done : List SubLookup) (p : SubLookup) (progress : CallProgressValue) (after : CacheValue) (ps : List PendingValue) → p.asks ≡ [] → Gone lookups (asks_of_sub_lookups (done ++ p ∷ [])) progress after ps → Gone lookups (asks_of_sub_lookups done) progress after ps
    gone-asks lookups done p progress after ps unasked g =
        subst (λ xs. Gone lookups xs progress after ps) (asks-append done p ∙ ap (λ xs. asks_of_sub_lookups done ++ xs) unasked ∙ append-nil (asks_of_sub_lookups done)) g

    gone-waits : (lookups : List EventValue) (done : List SubLookup) (a : AttemptValue) (t : RecordType) (w : WaitingValue) (before after : CacheValue) (ps : List PendingValue) → Happen preserve (world_of empty) lookups (record { cache = before; pending = ps }) → Leads tables lookups call now done a → Within call a → StartsSub ctx a t before (Waits w) after
        → Gone lookups (asks_of_sub_lookups done) (Waits (record { attempt = a; lookup = w })) after ps
    gone-waits lookups done a t w before after ps happened leads within started =
        let q = question_of a.name t in
        let p : PendingValue = record { question = q; asks = []; caches = []; cache = before; waiting = w } in
        let event = Started q now (Waits w) in
        let now_is : w.now ≡ now = ap (λ (v : WaitingValue). v.now) started.starts.1 in
        record {
          more = event ∷ [];
          new = p ∷ [];
          happened = happen-more preserve (world_of empty) lookups (record { cache = before; pending = ps }) event (record { cache = after; pending = ps ++ p ∷ [] }) happened (started.starts, refl);
          nothing = refl;
          known = (
            record {
              same = refl;
              hosts = hosts;
              stood = stood;
              asked_type = t;
              next = started.next;
              question_is = refl;
              not_in_hosts = subst (λ n. NotInHosts a.with_hosts q n hosts) (sym now_is) started.not_in_hosts;
              done = done;
              asks_are = sym (append-nil (asks_of_sub_lookups done));
              leads = subst (λ n. Leads tables (lookups ++ event ∷ []) call n done a) (sym now_is) (leads-later tables tables lookups (lookups ++ event ∷ []) call now done a (front-self tables) (front-more lookups (event ∷ [])) leads);
              within = within;
            },
            tt,
          );
          ended = tt;
          asked = tt;
          own = ((refl, now_is), tt);
        }

    -- the look-up that an event ended, among those that ended up to then
    among-now : (lookups : List EventValue) (event : EventValue) (before after : WorldValue) (d : DoneValue) → Happen preserve (world_of empty) lookups before → Happens preserve before event after → ended_by event ≡ d ∷ [] → IsPromisedAmong preserve empty (lookups ++ event ∷ []) d
    among-now lookups event before after d happened happens is_end =
        let all = (interleaved preserve empty none lookups event before after happened happens).ended in
        record {
          earlier = lookups;
          event = event;
          later = [];
          are = refl;
          before = before;
          after = after;
          happened = happened;
          happens = happens;
          is_end = is_end;
          promised = (subst (AllByRecursion _) is_end all).0;
        }

    goes : (a : AttemptValue) (before : CacheValue) (progress : CallProgressValue) (after : CacheValue) (lookups : List EventValue) (done : List SubLookup) (ps : List PendingValue) → Happen preserve (world_of empty) lookups (record { cache = before; pending = ps }) → Leads tables lookups call now done a → Within call a → Continues ctx a before progress after
        → Gone lookups (asks_of_sub_lookups done) progress after ps
    goes a before progress after lookups done ps happened leads within (by_hosts {t = t} {result = result} found more) =
        gone-asks lookups done (hosts_part a t result) progress after ps refl
        (goes (with_result a result) before progress after lookups (done ++ hosts_part a t result ∷ []) ps happened (leads-found lookups done a t result found leads) within more)
    goes a before progress after lookups done ps happened leads within (waits {t = t} {w = w} started) = gone-waits lookups done a t w before after ps happened leads within started
    goes a before progress after lookups done ps happened leads within (at_once {t = t} {result = result} {mid = mid} started more) =
        let q = question_of a.name t in
        let event = Started q now (IsDone result) in
        let d : DoneValue = record { question = q; now = now; asks = []; caches = []; result = result } in
        let first : WorldValue = record { cache = before; pending = ps } in
        let second : WorldValue = record { cache = mid; pending = ps } in
        let happens : Happens preserve first event second = (started.starts, sym (append-nil ps)) in
        gone-after lookups event (asks_of_sub_lookups done) progress after ps refl ((refl, within-own call a t within started.next), tt)
        (gone-asks (lookups ++ event ∷ []) done (by_client a t [] result) progress after ps refl
        (goes (with_result a result) mid progress after (lookups ++ event ∷ []) (done ++ by_client a t [] result ∷ []) ps (happen-more preserve (world_of empty) lookups first event second happened happens)
        (leads-ended lookups (lookups ++ event ∷ []) done a t d started.next started.not_in_hosts refl refl (front-more lookups (event ∷ [])) (among-now lookups event first second d happened happens refl) leads) within more))
    goes a before progress after lookups done ps happened leads within (stopped {result = result} is stop) =
        gone-over lookups done a result before ps happened leads (rest_stopped (Answers tables lookups now) a result empty is stop)
    goes a before progress after lookups done ps happened leads within (next_name {result = result} {name = name} {names = names} is on left more) =
        goes (at_next a name names) before progress after lookups done ps happened
        (λ T L h k parts r end rest. leads T L h k parts r end (rest_next (Answers T L now) a result name names empty is on left parts r end rest)) (within-next call a name names left within) more
    goes a before progress after lookups done ps happened leads within (no_name {last = last} {result = result} is on left reply) =
        gone-over lookups done a result before ps happened leads (rest_none (Answers tables lookups now) a last result empty is on left reply)

    run_out : (lookups : List EventValue) (before : CacheValue) (progress : CallProgressValue) (after : CacheValue) (ps : List PendingValue) → Happen preserve (world_of empty) lookups (record { cache = before; pending = ps }) → RunsOutAtStart before progress after → Gone lookups [] progress after ps
    run_out lookups before progress after ps happened (done, e) =
        subst (λ c. Gone lookups [] progress c ps) (sym e)
        (subst (λ g. Gone lookups [] g before ps) (sym done) (gone-done lookups [] (Err OutOfMemory) before ps happened (record { parts = []; asks_are = refl; is = inr (refl, refl, refl) })))

  -- ---- a call is started

  module _ (tables : List (List Host)) (hosts : List Host) (stood : Contains tables hosts) (now : ℕ) (lookups : List EventValue) (before : CacheValue) (ps : List PendingValue) (happened : Happen preserve (world_of empty) lookups (record { cache = before; pending = ps })) (progress : CallProgressValue) (after : CacheValue) where
    by_names : (n : NameValue) (plan : CallPlan) (names : List NameValue) → attempts s.search n ≡ names → StartsNames (call_context_over s now hosts) plan true names before progress after → Gone tables hosts stood (Attempt n plan) now lookups [] progress after ps
    by_names n plan [] e (result, reply, done, same) =
        let W : List NameValue → Type 0 = λ ns. AreAttempts (Answers tables lookups now) plan true empty ns (Says plan.no_names) [] result empty in
        let is : IsPromisedCallEnd s empty tables lookups (record { call = Attempt n plan; now = now; asks = []; result = result }) = record { parts = []; asks_are = refl; is = inl (subst W (sym e) (refl, reply, refl)) } in
        subst (λ c. Gone tables hosts stood (Attempt n plan) now lookups [] progress c ps) (sym same)
        (subst (λ g. Gone tables hosts stood (Attempt n plan) now lookups [] g before ps) (sym done) (gone-done tables hosts stood (Attempt n plan) now lookups [] result before ps happened is))
    by_names n plan (name ∷ names) e more =
        goes tables hosts stood (Attempt n plan) now (record { plan = plan; with_hosts = true; name = name; results = []; left = names }) before progress after lookups [] ps happened
        (λ T L h k parts r end rest.
        subst (λ ns. AreAttempts (Answers T L now) plan true empty ns (Says plan.no_names) parts r end) (sym e)
        (attempts_of (Answers T L now) plan true name names empty (Says plan.no_names) parts r end rest))
        (λ other t results has next. (other, t, results, subst (λ ns. Contains ns other) (sym e) has, next, refl)) more

    begun : (call : Call) → StartsCall (call_context_over s now hosts) s call before progress after ⊎ RunsOutAtStart before progress after → Gone tables hosts stood call now lookups [] progress after ps
    begun call (inr out) = run_out tables hosts stood call now lookups before progress after ps happened out
    begun (AtOnce answer) (inl (done, e)) =
        subst (λ c. Gone tables hosts stood (AtOnce answer) now lookups [] progress c ps) (sym e)
        (subst (λ g. Gone tables hosts stood (AtOnce answer) now lookups [] g before ps) (sym done)
        (gone-done tables hosts stood (AtOnce answer) now lookups [] answer before ps happened (record { parts = []; asks_are = refl; is = inl (refl, refl, refl) })))
    begun (Attempt n plan) (inl starts) = by_names n plan (attempts s.search n) refl starts

  -- ---- events

  -- a call in flight was started
  abbrev IsBegun : List CallEventValue → PendingCallValue → Type 0
  IsBegun events c = IsStartedIn events c.call c.waiting.lookup.now

  started-later : (events more : List CallEventValue) (call : Call) (now : ℕ) → IsStartedIn events call now → IsStartedIn (events ++ more) call now
  started-later events more call now (progress, has) = (progress, contains-front events (events ++ more) (CallStarted call now progress) has (front-more events more))

  begun-later : (events more : List CallEventValue) (cs : List PendingCallValue) → AllByRecursion (IsBegun events) cs → AllByRecursion (IsBegun (events ++ more)) cs
  begun-later events more cs all = all-weaker (IsBegun events) (IsBegun (events ++ more)) (λ c h. started-later events more c.call c.waiting.lookup.now h) cs all

  asked-later : (events more : List CallEventValue) (d : DoneValue) → IsAskedIn s events d → IsAskedIn s (events ++ more) d
  asked-later events more d (call, started, is) = (call, started-later events more call d.now started, is)

  -- the look-ups of a call are asked by it, where it was started
  own-asked : (events : List CallEventValue) (call : Call) (now : ℕ) → IsStartedIn events call now → (d : DoneValue) → IsOfCall call now d → IsAskedIn s events d
  own-asked events call now started d (same, is) = (call, subst (IsStartedIn events call) (sym same) started, is)

  asked-more : (events more : List CallEventValue) (before after : List EventValue) (call : Call) (now : ℕ) → IsStartedIn (events ++ more) call now → AllByRecursion (IsAskedIn s events) (ended_in before) → AllByRecursion (IsOfCall call now) (ended_in after) → AllByRecursion (IsAskedIn s (events ++ more)) (ended_in (before ++ after))
  asked-more events more before after call now started all own =
      subst (AllByRecursion (IsAskedIn s (events ++ more))) (sym (ended-append before after))
      (all-append (IsAskedIn s (events ++ more)) (ended_in before) (ended_in after)
      (all-weaker (IsAskedIn s events) (IsAskedIn s (events ++ more)) (asked-later events more) (ended_in before) all)
      (all-weaker (IsOfCall call now) (IsAskedIn s (events ++ more)) (own-asked (events ++ more) call now started) (ended_in after) own))

  asked-none : (events more : List CallEventValue) (before after : List EventValue) → ended_in after ≡ [] → AllByRecursion (IsAskedIn s events) (ended_in before) → AllByRecursion (IsAskedIn s (events ++ more)) (ended_in (before ++ after))
  asked-none events more before after none all =
      subst (AllByRecursion (IsAskedIn s (events ++ more))) (sym (ended-append before after ∙ ap (λ l. ended_in before ++ l) none ∙ append-nil (ended_in before)))
      (all-weaker (IsAskedIn s events) (IsAskedIn s (events ++ more)) (asked-later events more) (ended_in before) all)

  asked-fed : (before : List EventValue) (event : EventValue) (after : List EventValue) (events : List CallEventValue) → AllByRecursion (IsAskedIn s events) (ended_in (before ++ event ∷ after)) → AllByRecursion (IsAskedIn s events) (ended_in ((before ++ event ∷ []) ++ after))
  asked-fed before event after events all = subst (λ ls. AllByRecursion (IsAskedIn s events) (ended_in ls)) (sym (append_assoc before (event ∷ []) after)) all

  this-begun : (events : List CallEventValue) (call : Call) (now : ℕ) → IsStartedIn events call now → (c : PendingCallValue) → IsThisCall call now c → IsBegun events c
  this-begun events call now started c (same, now_is) = subst (λ k. IsStartedIn events k c.waiting.lookup.now) (sym same) (subst (IsStartedIn events call) (sym now_is) started)

  own-begun : (events : List CallEventValue) (call : Call) (now : ℕ) → IsStartedIn events call now → (cs : List PendingCallValue) → AllByRecursion (IsThisCall call now) cs → AllByRecursion (IsBegun events) cs
  own-begun events call now started cs own = all-weaker (IsThisCall call now) (IsBegun events) (this-begun events call now started) cs own

  -- what is known of the resolver after some events
  record Good (events : List CallEventValue) (received : List Dated) (world : CallWorldValue) : Type 0 where
    lookups : List EventValue
    pending : List PendingValue
    happened : Happen preserve (world_of empty) lookups (record { cache = world.cache; pending = pending })
    received_is : received_in lookups ≡ received
    stands : last_table opening (tables_in events) ≡ world.hosts
    known : MatchSince events lookups world.calls pending
    asked : AllByRecursion (IsAskedIn s events) (ended_in lookups)
    begun_in : AllByRecursion (IsBegun events) world.calls

  -- and of the calls that the last one ended
  record GoodStep (events : List CallEventValue) (received : List Dated) (ended : List DoneCallValue) (world : CallWorldValue) : Type 0 where
    good : Good events received world
    ends : AllByRecursion (IsPromisedCallEndSince s empty opening events good.lookups) ended

  -- a call that is done, by the tables that stood since its start
  ends-since : (events : List CallEventValue) (tables : List (List Host)) (lookups : List EventValue) (call : Call) (now : ℕ) (asks : List Exchange) (progress : CallProgressValue) → StoodSince opening events call now tables → AllByRecursion (IsPromisedCallEnd s empty tables lookups) (call_done call now asks progress)
      → AllByRecursion (IsPromisedCallEndSince s empty opening events lookups) (call_done call now asks progress)
  ends-since events tables lookups call now asks (Waits w) since ends = tt
  ends-since events tables lookups call now asks (IsDone result) since (ends, none_else) = ((tables, since, ends), tt)

  -- an event that leaves the table of hosts
  stands-on : (events : List CallEventValue) (event : CallEventValue) (hosts others : List Host) → tables_by event ≡ [] → last_table opening (tables_in events) ≡ hosts → others ≡ hosts → last_table opening (tables_in (events ++ event ∷ [])) ≡ others
  stands-on events event hosts others left stands same =
      ap (last_table opening) (tables-append events (event ∷ []) ∙ ap (λ l. tables_in events ++ l) (append-nil (tables_by event) ∙ left) ∙ append-nil (tables_in events)) ∙ stands ∙ sym same

  module _ (events : List CallEventValue) (received : List Dated) (before : CallWorldValue) (good : Good events received before) (after : CallWorldValue) where
    started-good : (call : Call) (now : ℕ) (progress : CallProgressValue) → CallHappens s before (CallStarted call now progress) after → GoodStep (events ++ CallStarted call now progress ∷ []) (received ++ []) (call_done call now [] progress) after
    started-good call now progress (starts, hosts_is, calls_is) =
        let event = CallStarted call now progress in
        let now_events = events ++ event ∷ [] in
        let now_begun : IsStartedIn now_events call now = (progress, contains-from_recursion now_events event (has-right events (event ∷ []) event (inl refl))) in
        let tables = before.hosts ∷ [] in
        let since : StoodSince opening now_events call now tables = record { earlier = events; progress = progress; later = []; are = refl; tables_are = ap (λ h. h ∷ []) (sym good.stands) } in
        let g = begun tables before.hosts (contains-from_recursion tables before.hosts (inl refl)) now good.lookups before.cache good.pending good.happened progress after.cache call starts in
        let all = good.lookups ++ g.more in
        let others = match_since-later events (event ∷ []) good.lookups all (front-more good.lookups g.more) before.calls good.pending good.known in
        let own = match-since now_events tables all call now since (call_pending call [] progress) g.new g.own g.known in
        record {
          good = record {
            lookups = all;
            pending = good.pending ++ g.new;
            happened = g.happened;
            received_is = received-append good.lookups g.more ∙ ap₂ (λ xs ys. xs ++ ys) good.received_is g.nothing;
            stands = stands-on events event before.hosts after.hosts refl good.stands hosts_is;
            known = subst (λ cs. MatchSince now_events all cs (good.pending ++ g.new)) (sym calls_is) (match_since-append now_events all before.calls (call_pending call [] progress) good.pending g.new others own);
            asked = asked-more events (event ∷ []) good.lookups g.more call now now_begun good.asked g.asked;
            begun_in = subst (AllByRecursion (IsBegun now_events)) (sym calls_is)
                (all-append (IsBegun now_events) before.calls (call_pending call [] progress) (begun-later events (event ∷ []) before.calls good.begun_in) (own-begun now_events call now now_begun (call_pending call [] progress) g.own));
          };
          ends = ends-since now_events tables all call now [] progress since g.ended;
        }

    module _ (c : PendingCallValue) (outcome : OutcomeValue) (front back : List PendingCallValue) (around : IsAround events good.lookups front c back good.pending) (now_event : CallEventValue) (left : tables_by now_event ≡ []) (others_begun : AllByRecursion (IsBegun events) front × IsBegun events c × AllByRecursion (IsBegun events) back) where
      abbrev now_events : List CallEventValue
      now_events = events ++ now_event ∷ []

      abbrev own_begun : IsStartedIn now_events c.call c.waiting.lookup.now
      own_begun = started-later events (now_event ∷ []) c.call c.waiting.lookup.now others_begun.1

      abbrev p : PendingValue
      p = around.own

      abbrev tables : List (List Host)
      tables = around.known.tables

      abbrev k : IsKnownCall tables good.lookups c p
      k = around.known.known

      -- the tables that stood since its start are still these
      abbrev since : StoodSince opening now_events c.call c.waiting.lookup.now tables
      since =
          subst (StoodSince opening now_events c.call c.waiting.lookup.now) (ap (λ l. tables ++ l) (append-nil (tables_by now_event) ∙ left) ∙ append-nil tables)
          (stood-later events (now_event ∷ []) c.call c.waiting.lookup.now tables around.known.since)

      abbrev stood : Contains tables before.hosts
      stood = stands-since events c.call c.waiting.lookup.now tables before.hosts around.known.since good.stands

      abbrev first : WorldValue
      first = record { cache = before.cache; pending = good.pending }

      abbrev x : Exchange
      x = exchange_with c outcome

      asks_now : c.asks ++ x ∷ [] ≡ asks_of_sub_lookups k.done ++ asks_with p outcome
      asks_now =
          ap (λ l. l ++ x ∷ []) k.asks_are ∙ append_assoc (asks_of_sub_lookups k.done) p.asks (x ∷ [])
          ∙ ap (λ (v : WaitingValue). asks_of_sub_lookups k.done ++ (p.asks ++ record { query = v.hop.query; outcome = outcome } ∷ [])) (sym k.same)

      received_now : dated_exchanges p.waiting.now (record { query = p.waiting.hop.query; outcome = outcome } ∷ []) ≡ dated_exchanges c.waiting.lookup.now (x ∷ [])
      received_now = ap (λ (v : WaitingValue). dated_exchanges v.now (record { query = v.hop.query; outcome = outcome } ∷ [])) k.same

      abbrev step : CallContext
      step = call_context_over s c.waiting.lookup.now before.hosts

      resumes_own : (lookup : ProgressValue) (mid : CacheValue) → Resumes (context_over step before.cache) c.waiting.lookup outcome lookup mid → Resumes (context_over (call_context_over s p.waiting.now before.hosts) before.cache) p.waiting outcome lookup mid
      resumes_own lookup mid resumes = let P : WaitingValue → Type 0 = λ v. Resumes (context_over (call_context_over s v.now before.hosts) before.cache) v outcome lookup mid in subst P (sym k.same) resumes

      -- its look-up waits on
      waits-good : (lookup : WaitingValue) (mid : CacheValue) → Resumes (context_over step before.cache) c.waiting.lookup outcome (Waits lookup) mid → (progress : CallProgressValue) → ContinuesAfter step c.waiting.attempt (Waits lookup) mid progress after.cache → after.hosts ≡ before.hosts
          → after.calls ≡ front ++ call_pending c.call (c.asks ++ x ∷ []) progress ++ back → GoodStep now_events (received ++ dated_exchanges c.waiting.lookup.now (x ∷ [])) (call_done c.call c.waiting.lookup.now (c.asks ++ x ∷ []) progress) after
      waits-good lookup mid resumes progress (is, cache_is) hosts_is calls_is =
          let w : WaitingCallValue = record { attempt = c.waiting.attempt; lookup = lookup } in
          let own : PendingValue = record { question = p.question; asks = asks_with p outcome; caches = caches_with p; cache = before.cache; waiting = lookup } in
          let next : PendingCallValue = record { call = c.call; asks = c.asks ++ x ∷ []; waiting = w } in
          let event = Fed p outcome (Waits lookup) in
          let all = good.lookups ++ event ∷ [] in
          let pending = around.first ++ own ∷ around.rest in
          let second : WorldValue = record { cache = mid; pending = pending } in
          let happens : Happens preserve first event second = (around.first, around.rest, around.are, resumes_own (Waits lookup) mid resumes, sym (append_assoc around.first (own ∷ []) around.rest)) in
          let now_is : lookup.now ≡ c.waiting.lookup.now = now-stays (context_over step before.cache) c.waiting.lookup outcome lookup mid resumes in
          let later : (cs : List PendingCallValue) (ps : List PendingValue) → MatchSince events good.lookups cs ps → MatchSince now_events all cs ps = match_since-later events (now_event ∷ []) good.lookups all (front-more good.lookups (event ∷ [])) in
          let known : IsKnownCall tables all next own = record {
            same = refl;
            hosts = k.hosts;
            stood = k.stood;
            asked_type = k.asked_type;
            next = k.next;
            question_is = k.question_is;
            not_in_hosts = subst (λ n. NotInHosts c.waiting.attempt.with_hosts (question_of c.waiting.attempt.name k.asked_type) n k.hosts) (sym now_is) k.not_in_hosts;
            done = k.done;
            asks_are = asks_now;
            leads = subst (λ n. Leads tables all c.call n k.done c.waiting.attempt) (sym now_is)
                (leads-later tables tables good.lookups all c.call c.waiting.lookup.now k.done c.waiting.attempt (front-self tables) (front-more good.lookups (event ∷ [])) k.leads);
            within = k.within;
          } in
          let calls : after.calls ≡ front ++ next ∷ back = subst (λ g. after.calls ≡ front ++ call_pending c.call (c.asks ++ x ∷ []) g ++ back) is calls_is ∙ append_assoc front (next ∷ []) back in
          record {
            good = record {
              lookups = all;
              pending = pending;
              happened = subst (λ m. Happen preserve (world_of empty) all (record { cache = m; pending = pending })) (sym cache_is) (happen-more preserve (world_of empty) good.lookups first event second good.happened happens);
              received_is = received-append good.lookups (event ∷ []) ∙ ap₂ (λ xs ys. xs ++ ys) good.received_is (append-nil (received_by event) ∙ received_now);
              stands = stands-on events now_event before.hosts after.hosts left good.stands hosts_is;
              known = subst (λ cs. MatchSince now_events all cs pending) (sym calls)
                  (match_since-append now_events all front (next ∷ back) around.first (own ∷ around.rest) (later front around.first around.fronts)
                  (record { tables = tables; since = subst (λ n. StoodSince opening now_events c.call n tables) (sym now_is) since; known = known }, later back around.rest around.backs));
              asked = asked-none events (now_event ∷ []) good.lookups (event ∷ []) refl good.asked;
              begun_in = subst (AllByRecursion (IsBegun now_events)) (sym calls)
                  (all-append (IsBegun now_events) front (next ∷ back) (begun-later events (now_event ∷ []) front others_begun.0) (subst (IsStartedIn now_events c.call) (sym now_is) own_begun, begun-later events (now_event ∷ []) back others_begun.2));
            };
            ends = subst (λ g. AllByRecursion (IsPromisedCallEndSince s empty opening now_events all) (call_done c.call c.waiting.lookup.now (c.asks ++ x ∷ []) g)) (sym is) tt;
          }

      -- its look-up is done
      done-good : (result : LookupResult) (mid : CacheValue) → Resumes (context_over step before.cache) c.waiting.lookup outcome (IsDone result) mid → (progress : CallProgressValue) → ContinuesAfter step c.waiting.attempt (IsDone result) mid progress after.cache → after.hosts ≡ before.hosts
          → after.calls ≡ (front ++ back) ++ call_pending c.call (c.asks ++ x ∷ []) progress → GoodStep now_events (received ++ dated_exchanges c.waiting.lookup.now (x ∷ [])) (call_done c.call c.waiting.lookup.now (c.asks ++ x ∷ []) progress) after
      done-good result mid resumes progress more hosts_is calls_is =
          let now = c.waiting.lookup.now in
          let a = c.waiting.attempt in
          let d : DoneValue = record { question = p.question; now = p.waiting.now; asks = asks_with p outcome; caches = caches_with p; result = result } in
          let event = Fed p outcome (IsDone result) in
          let fed = good.lookups ++ event ∷ [] in
          let pending = around.first ++ around.rest in
          let second : WorldValue = record { cache = mid; pending = pending } in
          let happens : Happens preserve first event second = (around.first, around.rest, around.are, resumes_own (IsDone result) mid resumes, ap (λ l. l ++ around.rest) (sym (append-nil around.first))) in
          let leads = leads-ended tables k.hosts k.stood c.call now good.lookups fed k.done a k.asked_type d k.next k.not_in_hosts k.question_is (ap (λ (v : WaitingValue). v.now) k.same) (front-more good.lookups (event ∷ []))
          (among-now tables k.hosts k.stood c.call now good.lookups event first second d good.happened happens refl) k.leads in
          let part = by_client a k.asked_type (asks_with p outcome) result in
          let gone = goes tables before.hosts stood c.call now (with_result a result) mid progress after.cache fed (k.done ++ part ∷ []) pending (happen-more preserve (world_of empty) good.lookups first event second good.happened happens) leads k.within more in
          let g = subst (λ xs. Gone tables before.hosts stood c.call now fed xs progress after.cache pending) (asks-append k.done part ∙ sym asks_now) gone in
          let all = fed ++ g.more in
          let own_question : IsQuestionOf s c.call p.question = subst (IsQuestionOf s c.call) (sym k.question_is) (within-own c.call a k.asked_type k.within k.next) in
          let asked = asked-fed good.lookups event g.more now_events
          (asked-more events (now_event ∷ []) good.lookups (event ∷ g.more) c.call now own_begun good.asked ((ap (λ (v : WaitingValue). v.now) k.same, own_question), g.asked)) in
          let front_is : IsFront good.lookups all = front-trans good.lookups fed all (front-more good.lookups (event ∷ [])) (front-more fed g.more) in
          let later : (cs : List PendingCallValue) (ps : List PendingValue) → MatchSince events good.lookups cs ps → MatchSince now_events all cs ps = match_since-later events (now_event ∷ []) good.lookups all front_is in
          let others = match_since-append now_events all front back around.first around.rest (later front around.first around.fronts) (later back around.rest around.backs) in
          let own = match-since now_events tables all c.call now since (call_pending c.call (c.asks ++ x ∷ []) progress) g.new g.own g.known in
          record {
            good = record {
              lookups = all;
              pending = pending ++ g.new;
              happened = g.happened;
              received_is = received-fed good.lookups event g.more received (dated_exchanges c.waiting.lookup.now (x ∷ [])) good.received_is received_now g.nothing;
              stands = stands-on events now_event before.hosts after.hosts left good.stands hosts_is;
              known = subst (λ cs. MatchSince now_events all cs (pending ++ g.new)) (sym calls_is) (match_since-append now_events all (front ++ back) (call_pending c.call (c.asks ++ x ∷ []) progress) pending g.new others own);
              asked = asked;
              begun_in = subst (AllByRecursion (IsBegun now_events)) (sym calls_is)
                  (all-append (IsBegun now_events) (front ++ back) (call_pending c.call (c.asks ++ x ∷ []) progress)
                  (all-append (IsBegun now_events) front back (begun-later events (now_event ∷ []) front others_begun.0) (begun-later events (now_event ∷ []) back others_begun.2))
                  (own-begun now_events c.call now own_begun (call_pending c.call (c.asks ++ x ∷ []) progress) g.own));
            };
            ends = ends-since now_events tables all c.call now (c.asks ++ x ∷ []) progress since g.ended;
          }

    -- ---- an event

    -- nothing is received and no call ends, beside calls in flight whose look-ups are these
    kept-good : (event : CallEventValue) → last_table opening (tables_in (events ++ event ∷ [])) ≡ after.hosts → (more : List EventValue) → received_in more ≡ [] → ended_in more ≡ [] → AllByRecursion (IsBegun events) after.calls → (pending : List PendingValue) → Happen preserve (world_of empty) (good.lookups ++ more) (record { cache = after.cache; pending = pending })
        → MatchSince events good.lookups after.calls pending → GoodStep (events ++ event ∷ []) (received ++ []) [] after
    kept-good event stands more nothing none_ended begun pending happened known = record {
      good = record {
        lookups = good.lookups ++ more;
        pending = pending;
        happened = happened;
        received_is = received-append good.lookups more ∙ ap₂ (λ xs ys. xs ++ ys) good.received_is nothing;
        stands = stands;
        known = match_since-later events (event ∷ []) good.lookups (good.lookups ++ more) (front-more good.lookups more) after.calls pending known;
        asked = asked-none events (event ∷ []) good.lookups more none_ended good.asked;
        begun_in = begun-later events (event ∷ []) after.calls begun;
      };
      ends = tt;
    }

    dropped-good : (c : PendingCallValue) → CallHappens s before (CallDropped c) after → GoodStep (events ++ CallDropped c ∷ []) (received ++ []) [] after
    dropped-good c (front, back, is, e) =
        let around = match-around events good.lookups front c back good.pending (subst (λ cs. MatchSince events good.lookups cs good.pending) is good.known) in
        let p = around.own in
        let pending = around.first ++ around.rest in
        let first : WorldValue = record { cache = before.cache; pending = good.pending } in
        let second : WorldValue = record { cache = before.cache; pending = pending } in
        let happens : Happens preserve first (Dropped p) second = (around.first, around.rest, around.are, refl) in
        let happened = happen-more preserve (world_of empty) good.lookups first (Dropped p) second good.happened happens in
        let begun = subst (AllByRecursion (IsBegun events)) is good.begun_in in
        let rest = all-back (IsBegun events) front (c ∷ back) begun in
        let left : AllByRecursion (IsBegun events) (front ++ back) = all-append (IsBegun events) front back (all-front (IsBegun events) front (c ∷ back) begun) rest.1 in
        kept-good (CallDropped c) (stands-on events (CallDropped c) before.hosts after.hosts refl good.stands (ap (λ (w : CallWorldValue). w.hosts) e)) (Dropped p ∷ []) refl refl
        (subst (λ (w : CallWorldValue). AllByRecursion (IsBegun events) w.calls) (sym e) left) pending
        (subst (λ (w : CallWorldValue). Happen preserve (world_of empty) (good.lookups ++ Dropped p ∷ []) (record { cache = w.cache; pending = pending })) (sym e) happened)
        (subst (λ (w : CallWorldValue). MatchSince events good.lookups w.calls pending) (sym e) (match_since-append events good.lookups front back around.first around.rest around.fronts around.backs))

    -- the cache is cleared by events of the client
    cleared-good : (event : CallEventValue) (cache : CacheValue) → tables_by event ≡ [] → after ≡ record before { cache = cache } → (more : List EventValue) → received_in more ≡ [] → ended_in more ≡ [] → Happen preserve (world_of empty) (good.lookups ++ more) (record { cache = cache; pending = good.pending }) → GoodStep (events ++ event ∷ []) (received ++ []) [] after
    cleared-good event cache left e more nothing none_ended happened =
        kept-good event (stands-on events event before.hosts after.hosts left good.stands (ap (λ (w : CallWorldValue). w.hosts) e)) more nothing none_ended
        (subst (λ (w : CallWorldValue). AllByRecursion (IsBegun events) w.calls) (sym e) good.begun_in) good.pending
        (subst (λ (w : CallWorldValue). Happen preserve (world_of empty) (good.lookups ++ more) (record { cache = w.cache; pending = good.pending })) (sym e) happened)
        (subst (λ (w : CallWorldValue). MatchSince events good.lookups w.calls good.pending) (sym e) good.known)

    hosts-good : (hosts : List Host) → after ≡ record before { hosts = hosts } → GoodStep (events ++ HostsReplaced hosts ∷ []) (received ++ []) [] after
    hosts-good hosts e =
        let stands : last_table opening (tables_in (events ++ HostsReplaced hosts ∷ [])) ≡ after.hosts =
        ap (last_table opening) (tables-append events (HostsReplaced hosts ∷ [])) ∙ last-append opening (tables_in events) (hosts ∷ []) ∙ sym (ap (λ (w : CallWorldValue). w.hosts) e) in
        kept-good (HostsReplaced hosts) stands [] refl refl (subst (λ (w : CallWorldValue). AllByRecursion (IsBegun events) w.calls) (sym e) good.begun_in) good.pending
        (subst (λ (w : CallWorldValue). Happen preserve (world_of empty) (good.lookups ++ []) (record { cache = w.cache; pending = good.pending })) (sym e)
        (subst (λ ls. Happen preserve (world_of empty) ls (record { cache = before.cache; pending = good.pending })) (sym (append-nil good.lookups)) good.happened))
        (subst (λ (w : CallWorldValue). MatchSince events good.lookups w.calls good.pending) (sym e) good.known)

  -- a clear of a name's attempts is one of the question of each
  abbrev clears : RecordType → List NameValue → List EventValue
  clears t [] = []
  clears t (n ∷ ns) = ClearedOf (question_of n t) ∷ clears t ns

  clears-nothing : (t : RecordType) (ns : List NameValue) → received_in (clears t ns) ≡ []
  clears-nothing t [] = refl
  clears-nothing t (n ∷ ns) = clears-nothing t ns

  clears-end-none : (t : RecordType) (ns : List NameValue) → ended_in (clears t ns) ≡ []
  clears-end-none t [] = refl
  clears-end-none t (n ∷ ns) = clears-end-none t ns

  clears-each : (t : RecordType) (ns : List NameValue) (cache : CacheValue) (pending : List PendingValue) → Happen preserve (record { cache = cache; pending = pending }) (clears t ns) (record { cache = drop_each t ns cache; pending = pending })
  clears-each t [] cache pending = refl
  clears-each t (n ∷ ns) cache pending = (record { cache = without_query cache (question_of n t); pending = pending }, refl, clears-each t ns (without_query cache (question_of n t)) pending)

  fed-good : (events : List CallEventValue) (received : List Dated) (before : CallWorldValue) (good : Good events received before) (c : PendingCallValue) (outcome : OutcomeValue) (progress : CallProgressValue) (after : CallWorldValue) → CallHappens s before (CallFed c outcome progress) after
      → GoodStep (events ++ CallFed c outcome progress ∷ []) (received ++ dated_exchanges c.waiting.lookup.now (exchange_with c outcome ∷ [])) (call_done c.call c.waiting.lookup.now (c.asks ++ exchange_with c outcome ∷ []) progress) after
  fed-good events received before good c outcome progress after (front, back, calls, (lookup, mid, resumes, more), hosts_is, calls_is) = by lookup resumes more calls_is
    where
      around : IsAround events good.lookups front c back good.pending
      around = match-around events good.lookups front c back good.pending (subst (λ cs. MatchSince events good.lookups cs good.pending) calls good.known)

      begun : AllByRecursion (IsBegun events) front × IsBegun events c × AllByRecursion (IsBegun events) back
      begun =
          let all = subst (AllByRecursion (IsBegun events)) calls good.begun_in in
          let rest = all-back (IsBegun events) front (c ∷ back) all in
          (all-front (IsBegun events) front (c ∷ back) all, rest.0, rest.1)

      by : (lookup : ProgressValue) → Resumes (context_over (call_context_over s c.waiting.lookup.now before.hosts) before.cache) c.waiting.lookup outcome lookup mid → ContinuesAfter (call_context_over s c.waiting.lookup.now before.hosts) c.waiting.attempt lookup mid progress after.cache
          → after.calls ≡ placed lookup front (call_pending c.call (c.asks ++ exchange_with c outcome ∷ []) progress) back
          → GoodStep (events ++ CallFed c outcome progress ∷ []) (received ++ dated_exchanges c.waiting.lookup.now (exchange_with c outcome ∷ [])) (call_done c.call c.waiting.lookup.now (c.asks ++ exchange_with c outcome ∷ []) progress) after
      by (Waits w) resumes more calls_is = waits-good events received before good after c outcome front back around (CallFed c outcome progress) refl begun w mid resumes progress more hosts_is calls_is
      by (IsDone result) resumes more calls_is = done-good events received before good after c outcome front back around (CallFed c outcome progress) refl begun result mid resumes progress more hosts_is calls_is

  event-good : (events : List CallEventValue) (received : List Dated) (before : CallWorldValue) → Good events received before → (event : CallEventValue) (after : CallWorldValue) → CallHappens s before event after
      → GoodStep (events ++ event ∷ []) (received ++ calls_received_by event) (calls_ended_by event) after
  event-good events received before good (CallStarted call now progress) after happens =
      started-good events received before good after call now progress happens
  event-good events received before good (CallFed c outcome progress) after happens =
      fed-good events received before good c outcome progress after happens
  event-good events received before good (CallDropped c) after happens = dropped-good events received before good after c happens
  event-good events received before good AllCleared after e =
      let first : WorldValue = record { cache = before.cache; pending = good.pending } in
      let second : WorldValue = record { cache = record before.cache { entries = [] }; pending = good.pending } in
      cleared-good events received before good after AllCleared (record before.cache { entries = [] }) refl e (ClearedOfAll ∷ []) refl refl (happen-more preserve (world_of empty) good.lookups first ClearedOfAll second good.happened refl)
  event-good events received before good (NameCleared t (Ok n)) after e =
      let ns = attempts s.search n in
      let first : WorldValue = record { cache = before.cache; pending = good.pending } in
      let second : WorldValue = record { cache = drop_each t ns before.cache; pending = good.pending } in
      cleared-good events received before good after (NameCleared t (Ok n)) (drop_each t ns before.cache) refl e (clears t ns) (clears-nothing t ns) (clears-end-none t ns) (happen-append preserve (world_of empty) first second good.lookups (clears t ns) good.happened (clears-each t ns before.cache good.pending))
  event-good events received before good (NameCleared t (Err fault)) after e =
      cleared-good events received before good after (NameCleared t (Err fault)) before.cache refl e [] refl refl
      (subst (λ ls. Happen preserve (world_of empty) ls (record { cache = before.cache; pending = good.pending })) (sym (append-nil good.lookups)) good.happened)
  event-good events received before good (HostsReplaced hosts) after e = hosts-good events received before good after hosts e

  events-good : (earlier : List CallEventValue) (received : List Dated) (before : CallWorldValue) → Good earlier received before → (events : List CallEventValue) (after : CallWorldValue) → CallsHappen s before events after → Good (earlier ++ events) (received ++ calls_received_in events) after
  events-good earlier received before good [] after e =
      subst (λ es. Good es (received ++ []) after) (sym (append-nil earlier))
      (subst (λ r. Good earlier r after) (sym (append-nil received)) (subst (Good earlier received) (sym e) good))
  events-good earlier received before good (event ∷ events) after (mid, is, rest) =
      let more = events-good (earlier ++ event ∷ []) (received ++ calls_received_by event) mid (event-good earlier received before good event mid is).good events after rest in
      subst (λ es. Good es (received ++ calls_received_in (event ∷ events)) after) (append_assoc earlier (event ∷ []) events)
      (subst (λ r. Good ((earlier ++ event ∷ []) ++ events) r after) (append_assoc received (calls_received_by event) (calls_received_in events)) more)

pub calls_interleaved : (s : Settings) (empty : CacheValue) (first : List Host) → IsPromisedCallInterleaving s empty first
calls_interleaved s empty first none events event before after happen happens =
    let start : Good s empty none first [] [] (call_world_of empty first) = record {
      lookups = [];
      pending = [];
      happened = refl;
      received_is = refl;
      stands = refl;
      known = tt;
      asked = tt;
      begun_in = tt;
    } in
    let good = events-good s empty none first [] [] (call_world_of empty first) start events before happen in
    let step = event-good s empty none first events (calls_received_in events) before good event after happens in
    record {
      lookups = step.good.lookups;
      world = record { cache = after.cache; pending = step.good.pending };
      happen = step.good.happened;
      cache_is = refl;
      received_is = step.good.received_is;
      asked = step.good.asked;
      ended = step.ends;
    }
