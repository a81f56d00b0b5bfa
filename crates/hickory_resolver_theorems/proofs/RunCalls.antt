-- A run, as long as memory does not run out, is a list of events of calls over one resolver, one call at a time.
use Rattle.std.proofs.Common.{◌≡◌, ◌⊎◌, ◌∙◌, ℕ, true, false, List, [], ◌∷◌, ◌++◌, flat_map, Result, Ok, Err, append_assoc, refl, sym, ap, ap₂, subst, inl, inr}
use Rattle.std.proofs.lemmas.List.{append-nil}
use Rattle.hickory_proto_core.specs.declared.recorded.Exchange.{Exchange}
use Rattle.hickory_proto_core.specs.declared.net_error.NetError.{NetError}
use Rattle.hickory_resolver_model.specs.Cache.{CacheValue}
use Rattle.hickory_resolver_model.specs.Lookup.{LookupResult}
use Rattle.hickory_resolver_model.specs.Calls.{CallContext, IsAnsweredFor, is_out_of_memory, asks_of_sub_lookups}
use Rattle.hickory_resolver_model.specs.Resuming.{ProgressValue, Waits, IsDone, Resumes}
use Rattle.hickory_resolver_model.specs.Run.{Settings, call_context_at, moment_of, RequestValue, Lookup, LookupIp, ClearLookup, Clear, StepValue, StepReply, LookedUp, LookedUpIp, Cleared, ends_run, Call, name_call, address_call, IsCall, IsServed, Stage, IsStage, AreStages, Run}
use Rattle.hickory_resolver_theorems.specs.Covered.{Dated, dated_exchanges}
use Rattle.hickory_resolver_theorems.specs.InterleavedCalls.{PendingCallValue, DoneCallValue, CallWorldValue, call_world_of, CallEventValue, CallStarted, CallFed, AllCleared, NameCleared, call_pending, call_done, placed, CallHappens, CallsHappen, calls_ended_by, calls_received_by, calls_received_in}
use Rattle.hickory_resolver_theorems.specs.OneCallAtATime.{HappensAlone, HappenAlone, IsCallOf, AreOfCall, IsClearOf, AreOfReply, HaveMemory, cache_before, AreOneCallAtATime, IsOneCallAtATime}
use Rattle.hickory_resolver_theorems.specs.ResumingCalls.{WaitingCallValue, CallProgressValue, ContinuesAfter, ResumesCall, IsCallDriven, IsCallStartedAndDriven}
use Rattle.hickory_resolver_theorems.proofs.DrivenCalls.{WholeSubLookup, call-whole, call-driven}

-- ---- lists of events

-- events from one world to another, with one call in flight at a time
abbrev HappenInTurn : Settings → CallWorldValue → List CallEventValue → CallWorldValue → Type 0
HappenInTurn s before events after = (happen : CallsHappen s before events after) × HappenAlone s before events after happen

turn-append : (s : Settings) (before mid after : CallWorldValue) (es fs : List CallEventValue) → HappenInTurn s before es mid → HappenInTurn s mid fs after → HappenInTurn s before (es ++ fs) after
turn-append s before mid after [] fs (same, alone) more = subst (λ w. HappenInTurn s w fs after) same more
turn-append s before mid after (event ∷ es) fs ((next, is, rest), (own, alone)) more =
    let there = turn-append s next mid after es fs (rest, alone) more in
    ((next, is, there.0), (own, there.1))

-- with what was received and the calls that are done
record AreEvents (s : Settings) (before after : CallWorldValue) (received : List Dated) (ended : List DoneCallValue) : Type 0 where
  events : List CallEventValue
  turn : HappenInTurn s before events after
  received_are : calls_received_in events ≡ received
  ended_are : flat_map calls_ended_by events ≡ ended

no-events : (s : Settings) (before after : CallWorldValue) → after ≡ before → AreEvents s before after [] []
no-events s before after same = record { events = []; turn = (same, tt); received_are = refl; ended_are = refl }

then-events : (s : Settings) (before mid after : CallWorldValue) (event : CallEventValue) (received : List Dated) (ended : List DoneCallValue) → HappensAlone before event → CallHappens s before event mid → AreEvents s mid after received ended
    → AreEvents s before after (calls_received_by event ++ received) (calls_ended_by event ++ ended)
then-events s before mid after event received ended alone is rest = record {
  events = event ∷ rest.events;
  turn = ((mid, is, rest.turn.0), (alone, rest.turn.1));
  received_are = ap (λ xs. calls_received_by event ++ xs) rest.received_are;
  ended_are = ap (λ ds. calls_ended_by event ++ ds) rest.ended_are;
}

-- ---- a call that is driven

module _ (s : Settings) (call : Call) (now : ℕ) where
  -- the call waits, and no other does
  abbrev world_with : CacheValue → List PendingCallValue → CallWorldValue
  world_with cache calls = record { cache = cache; hosts = s.hosts; calls = calls }

  abbrev done_with : List Exchange → LookupResult → List DoneCallValue
  done_with asks result = record { call = call; now = now; asks = asks; result = result } ∷ []

  placed-alone : (lookup : ProgressValue) (new : List PendingCallValue) → new ≡ placed lookup [] new []
  placed-alone (Waits w) new = sym (append-nil new)
  placed-alone (IsDone result) new = refl

  -- what comes back to it is fed to it
  fed : (w : WaitingCallValue) (asks : List Exchange) (cache : CacheValue) (x : Exchange) (next : CallProgressValue) (mid : CacheValue) → w.lookup.now ≡ now → ResumesCall (call_context_at s now) w x.outcome cache next mid
      → CallHappens s (world_with cache (record { call = call; asks = asks; waiting = w } ∷ [])) (CallFed (record { call = call; asks = asks; waiting = w }) x.outcome next)
      (world_with mid (call_pending call (asks ++ record { query = w.lookup.hop.query; outcome = x.outcome } ∷ []) next))
  fed w asks cache x next mid now_is (lookup, end, resumes, more) = (
    [],
    [],
    refl,
    (
      lookup,
      end,
      subst (λ n. Resumes (record { cache = cache; now = n; preserve_intermediates = s.preserve_intermediates }) w.lookup x.outcome lookup end) (sym now_is) resumes,
      subst (λ n. ContinuesAfter (call_context_at s n) w.attempt lookup end next mid) (sym now_is) more,
    ),
    refl,
    placed-alone lookup (call_pending call (asks ++ record { query = w.lookup.hop.query; outcome = x.outcome } ∷ []) next),
  )

  -- from where it stands
  wait-events : (progress : CallProgressValue) (asks : List Exchange) (cache : CacheValue) (xs : List Exchange) (result : LookupResult) (after : CacheValue) → IsCallDriven (call_context_at s now) progress cache xs result after
      → (rest : List DoneCallValue) × AreEvents s (world_with cache (call_pending call asks progress)) (world_with after []) (dated_exchanges now xs) rest × (call_done call now asks progress ++ rest ≡ done_with (asks ++ xs) result)
  wait-events (Waits w) asks cache [] result after (done, same) = let clash : Waits w ≡ IsDone result = done in cc
  wait-events (IsDone early) asks cache [] result after (done, same) =
      let one : early ≡ result = cc in (
        [],
        no-events s (world_with cache []) (world_with after []) (ap (λ c. world_with c []) same),
        ap₂ done_with (sym (append-nil asks)) one,
      )
  wait-events (IsDone early) asks cache (x ∷ xs) result after never = absurd never
  wait-events (Waits w) asks cache (x ∷ xs) result after (now_is, asked, next, mid, resumes, driven) =
      let c : PendingCallValue = record { call = call; asks = asks; waiting = w } in
      let came : Exchange = record { query = w.lookup.hop.query; outcome = x.outcome } in
      let same : came ≡ x = λ i. record { query = sym asked i; outcome = x.outcome } in
      let event = CallFed c x.outcome next in
      let there = wait-events next (asks ++ came ∷ []) mid xs result after driven in
      let all = then-events s (world_with cache (c ∷ [])) (world_with mid (call_pending call (asks ++ came ∷ []) next)) (world_with after []) event (dated_exchanges now xs) there.0 tt (fed w asks cache x next mid now_is resumes) there.1 in
      let ended : calls_ended_by event ++ there.0 ≡ done_with (asks ++ x ∷ xs) result =
      ap (λ n. call_done call n (asks ++ came ∷ []) next ++ there.0) now_is ∙ there.2 ∙ ap (λ zs. done_with zs result) (append_assoc asks (came ∷ []) xs ∙ ap (λ y. asks ++ y ∷ xs) same) in (
        calls_ended_by event ++ there.0,
        subst (λ ds. AreEvents s (world_with cache (c ∷ [])) (world_with after []) ds (calls_ended_by event ++ there.0)) (ap₂ (λ n y. record { moment = n; exchange = y } ∷ dated_exchanges now xs) now_is same) all,
        ended,
      )

  call-events : (before : CacheValue) (asks : List Exchange) (result : LookupResult) (after : CacheValue) → IsCallStartedAndDriven (call_context_at s now) s call before asks result after → AreEvents s (call_world_of before s.hosts) (call_world_of after s.hosts) (dated_exchanges now asks) (done_with asks result)
  call-events before asks result after d =
      let event = CallStarted call now d.progress in
      let there = wait-events d.progress [] d.cache asks result after d.driven in
      subst (AreEvents s (call_world_of before s.hosts) (call_world_of after s.hosts) (dated_exchanges now asks)) there.2
      (then-events s (call_world_of before s.hosts) (world_with d.cache (call_pending call [] d.progress)) (call_world_of after s.hosts) event (dated_exchanges now asks) there.0 refl (inl d.starts, refl, refl) there.1)

-- ---- a request

-- the events of a step, by its reply
record IsServedBy (s : Settings) (stage : Stage) (reply : StepReply) (after : CacheValue) : Type 0 where
  own : List CallEventValue
  turn : HappenInTurn s (call_world_of stage.before s.hosts) own (call_world_of after s.hosts)
  of_reply : AreOfReply s stage reply own
  received : calls_received_in own ≡ dated_exchanges stage.step.now stage.piece

module _ (s : Settings) (stage : Stage) (after : CacheValue) (piece_is : stage.piece ≡ asks_of_sub_lookups stage.parts) where
  abbrev first : CallWorldValue
  first = call_world_of stage.before s.hosts

  abbrev last : CallWorldValue
  last = call_world_of after s.hosts

  -- the events of a look-up
  record IsLookedUp (result : LookupResult) : Type 0 where
    own : List CallEventValue
    turn : HappenInTurn s first own last
    of_call : AreOfCall s stage result own
    received : calls_received_in own ≡ dated_exchanges stage.step.now stage.piece

  looked-up : (call : Call) (result : LookupResult) → IsCallOf s stage.request call → is_out_of_memory result ≡ false → IsCall (IsAnsweredFor (call_context_at s stage.step.now)) s stage.before call stage.parts result after → IsLookedUp result
  looked-up call result of live is = by (call-whole t s stage.before call stage.parts result after is)
    where
      t : CallContext
      t = call_context_at s stage.step.now

      by : (is_out_of_memory result ≡ true) ⊎ IsCall (WholeSubLookup t) s stage.before call stage.parts result after → IsLookedUp result
      by (inl out) = let clash : false ≡ true = sym live ∙ out in cc
      by (inr whole) =
          let d = subst (λ xs. IsCallStartedAndDriven t s call stage.before xs result after) (sym piece_is) (call-driven t s call stage.before stage.parts result after whole) in
          let are = call-events s call stage.step.now stage.before stage.piece result after d in
          record { own = are.events; turn = are.turn; of_call = (call, of, are.ended_are); received = are.received_are }

  -- nothing is asked in a clear
  cleared : (event : CallEventValue) (done : Result (Unit {0}) NetError) → stage.parts ≡ [] → IsClearOf stage.request event → HappensAlone first event → CallHappens s first event last → calls_received_by event ≡ [] → IsServedBy s stage (Cleared done) after
  cleared event done none of alone is nothing =
      let asked : stage.piece ≡ [] = piece_is ∙ ap asks_of_sub_lookups none in
      record {
        own = event ∷ [];
        turn = ((last, is, refl), (alone, tt));
        of_reply = (event, of, refl);
        received = append-nil (calls_received_by event) ∙ nothing ∙ sym (ap (dated_exchanges stage.step.now) asked);
      }

  served : (request : RequestValue) (reply : StepReply) → stage.request ≡ request → stage.step.now ≡ moment_of request → ends_run reply ≡ false → IsServed (λ now. IsAnsweredFor (call_context_at s now)) s stage.before request stage.parts reply after → IsServedBy s stage reply after
  served (Lookup text t now) (LookedUp reply) for now_is live (inl (name, said, is)) =
      let of : IsCallOf s stage.request (name_call t name) = subst (λ r. IsCallOf s r (name_call t name)) (sym for) (name, said, refl) in
      let there = looked-up (name_call t name) reply of live (subst (λ n. IsCall (IsAnsweredFor (call_context_at s n)) s stage.before (name_call t name) stage.parts reply after) (sym now_is) is) in
      record { own = there.own; turn = there.turn; of_reply = there.of_call; received = there.received }
  served (Lookup text t now) (LookedUp reply) for now_is live (inr (none, e, same)) = let clash : false ≡ true = sym live ∙ ap is_out_of_memory e in cc
  served (LookupIp text now) (LookedUpIp reply) for now_is live (inl (given, said, is)) =
      let call = address_call s given.address given.name now in
      let of : IsCallOf s stage.request call = subst (λ r. IsCallOf s r call) (sym for) (given, said, refl) in
      let there = looked-up call reply of live (subst (λ n. IsCall (IsAnsweredFor (call_context_at s n)) s stage.before call stage.parts reply after) (sym now_is) is) in
      record { own = there.own; turn = there.turn; of_reply = there.of_call; received = there.received }
  served (LookupIp text now) (LookedUpIp reply) for now_is live (inr (none, e, same)) = let clash : false ≡ true = sym live ∙ ap is_out_of_memory e in cc
  served (ClearLookup text t now) (Cleared (Ok u)) for now_is live (none, (name, said, is)) = cleared (NameCleared t name) (Ok u) none (subst (λ r. IsClearOf r (NameCleared t name)) (sym for) (name, said, refl)) refl (ap (λ c. call_world_of c s.hosts) is) refl
  served (ClearLookup text t now) (Cleared (Err e)) for now_is live (none, out, same) = let clash : true ≡ false = live in cc
  served (Clear now) (Cleared (Ok u)) for now_is live (none, is) = cleared AllCleared (Ok u) none (subst (λ r. IsClearOf r AllCleared) (sym for) refl) refl (ap (λ c. call_world_of c s.hosts) is) refl
  served (Lookup text t now) (LookedUpIp reply) for now_is live is = absurd is
  served (Lookup text t now) (Cleared (Ok u)) for now_is live is = absurd is
  served (Lookup text t now) (Cleared (Err e)) for now_is live is = absurd is
  served (LookupIp text now) (LookedUp reply) for now_is live is = absurd is
  served (LookupIp text now) (Cleared (Ok u)) for now_is live is = absurd is
  served (LookupIp text now) (Cleared (Err e)) for now_is live is = absurd is
  served (ClearLookup text t now) (LookedUp reply) for now_is live is = absurd is
  served (ClearLookup text t now) (LookedUpIp reply) for now_is live is = absurd is
  served (Clear now) (LookedUp reply) for now_is live is = absurd is
  served (Clear now) (LookedUpIp reply) for now_is live is = absurd is
  served (Clear now) (Cleared (Err e)) for now_is live is = absurd is

-- ---- a run

none-served : (s : Settings) (before after : CacheValue) → after ≡ before → AreOneCallAtATime s before [] after
none-served s before after same = record { events = []; happen = ap (λ c. call_world_of c s.hosts) same; alone = tt; are = refl }

then-served : (s : Settings) (before mid after : CacheValue) (stage : Stage) (stages : List Stage) → stage.before ≡ before → ends_run stage.step.reply ≡ false → IsStage s stage mid → AreOneCallAtATime s mid stages after → AreOneCallAtATime s before (stage ∷ stages) after
then-served s before mid after stage stages starts live is rest =
    let one = served s stage mid is.piece_is stage.request stage.step.reply refl is.now_is live is.served in
    let own = subst (λ c. HappenInTurn s (call_world_of c s.hosts) one.own (call_world_of mid s.hosts)) starts one.turn in
    let turn = turn-append s (call_world_of before s.hosts) (call_world_of mid s.hosts) (call_world_of after s.hosts) one.own rest.events own (rest.happen, rest.alone) in
    record {
      events = one.own ++ rest.events;
      happen = turn.0;
      alone = turn.1;
      are = (one.own, rest.events, refl, (one.of_reply, one.received), rest.are);
    }

stages-served : (s : Settings) (before : CacheValue) (requests : List RequestValue) (earlier later : List Stage) (after : CacheValue) → HaveMemory earlier → AreStages s before requests (earlier ++ later) after → AreOneCallAtATime s before earlier (cache_before later after)
stages-served s before [] [] [] after live same = none-served s before after same
stages-served s before [] [] (stage ∷ later) after live never = absurd never
stages-served s before [] (stage ∷ stages) later after live never = absurd never
stages-served s before (request ∷ requests) [] [] after live never = absurd never
stages-served s before (request ∷ requests) [] (stage ∷ later) after live (mid, for, starts, is, goes) = none-served s before stage.before starts
stages-served s before (request ∷ requests) (stage ∷ stages) later after (own, live) (mid, for, starts, is, inl (ended, none, same)) = let clash : true ≡ false = sym ended ∙ own in cc
stages-served s before (request ∷ requests) (stage ∷ stages) later after (own, live) (mid, for, starts, is, inr (on, rest)) =
    then-served s before mid (cache_before later after) stage stages starts own is (stages-served s mid requests stages later after live rest)

pub one_call_at_a_time : (s : Settings) (before : CacheValue) (requests : List RequestValue) (steps : List StepValue) (exchanges : List Exchange) (after : CacheValue) → (run : Run s before requests steps exchanges after) → IsOneCallAtATime s before requests steps exchanges after run
one_call_at_a_time s before requests steps exchanges after run earlier later split live =
    stages-served s before requests earlier later after live (subst (λ stages. AreStages s before requests stages after) split run.are)
