-- What an event does to the resolver: nothing, or a call begins, goes on, or is dropped.
use Rattle.std.proofs.Common.{◌≡◌, ◌∙◌, ℕ, Bool, true, false, cond, List, [], ◌∷◌, ◌++◌, nat_eq, refl, sym, ap, subst, inl, inr, arith}
use Rattle.std.specs.Prelude.{MatchOption, Option, None, Result, Some}
use Rattle.std.specs.Option.{is_some, option_and_then}
use Rattle.std.proofs.lemmas.Bool.Decides.{nat_tests}
use Rattle.hickory_proto_core.specs.Handles.{OutcomeValue}
use Rattle.hickory_proto_core.specs.Name.{NameValue}
use Rattle.hickory_proto_core.specs.names.name_error.NameError.{NameError}
use Rattle.hickory_resolver.specs.Contexts.{progress_of}
use Rattle.hickory_resolver.specs.Driving.{CallProgress}
use Rattle.hickory_resolver.specs.Starting.{ResumesAt, StartsAt}
use Rattle.hickory_resolver_askers.specs.declared.asker.Asker.{Asker}
use Rattle.hickory_resolver_events.specs.Events.{pending_after}
use Rattle.hickory_resolver_model.specs.Cache.{CacheValue}
use Rattle.hickory_resolver_model.specs.Resolver.{ResolverValue, settings}
use Rattle.hickory_resolver_model.specs.Resuming.{IsDone, Waits as Waiting}
use Rattle.hickory_resolver_model.specs.Run.{Call, name_call}
use Rattle.hickory_resolver_pool.specs.declared.limits.PoolLimits.{PoolLimits}
use Rattle.hickory_resolver_pool_theorems.specs.Runs.{Happening}
use Rattle.hickory_resolver_theorems.specs.InterleavedCalls.{PendingCallValue, CallDropped, CallEventValue, CallFed, CallStarted, exchange_with}
use Rattle.hickory_resolver_theorems.specs.ResumingCalls.{CallProgressValue, WaitingCallValue}
use Rattle.yimarotu_session.specs.Ahead.{Hears, ResumesFor, ResumesIf, StartsAlone, is_waited_for}
use Rattle.yimarotu_session.specs.LookupTables.{TableValue, held_at, lookup_of}
use Rattle.yimarotu_session.specs.NetworkSessions.{NetworkValue}
use Rattle.yimarotu_session.specs.NetworkSteps.{GoesOn, GoesOnAt, GoesOnWith, Resumes}
use Rattle.yimarotu_session.specs.Sessions.{PutsUnder, value_at}
use Rattle.yimarotu_session.specs.declared.ahead.Ahead.TheVariants.{Waits}
use Rattle.yimarotu_session.specs.declared.ahead.SecondQuestion.{SecondQuestion}
use Rattle.yimarotu_session.specs.declared.network_lookup.NetworkLookup.{NetworkLookup}
use Rattle.yimarotu_session.specs.declared.network_lookup.NetworkLookup.TheVariants.{Asks, Asked, Done}
use Rattle.yimarotu_session.specs.declared.network_session.NetworkAction.{NetworkAction}
use Rattle.yimarotu_session_theorems.specs.NetworkCalls.{Calls, EventTells, IsOfSecond, dropped, has_call, under, waits_now}
use Rattle.yimarotu_session_theorems.specs.NetworkLaws.{IsAsCall, IsFedFrom, IsFromPool, IsWaiting, question_with}
use Rattle.yimarotu_session_theorems.specs.NetworkRuns.{NetworkEvent, is_cancelled, is_stepped}
use Rattle.yimarotu_session_theorems.proofs.Calls.{AreAs, AreSinceStart, IsLater, Lookups, alike, as-begun, as-fed, as-put, as-same, as-under, is-there, since-begun, since-fed, since-under, waits-under, waits_by}
use Rattle.yimarotu_session_theorems.proofs.Kept.{AsksLess, Done-to, EndsLess, IsSecond, Kept, LookupsLess, Places, PlacesLess, asks-same, call_at, call_of, comes-at-once, ends-put, ends-put-undone, ends-same, first, keeps-telling, lookup-not-asked, lookups-less, lookups-same, options, places-same, pool-stays}
use Rattle.yimarotu_session_theorems.proofs.Moves.{Comes-and-goes, begins, drops, feeds, heard, over, stays, unheard}

module _ (resolver : ResolverValue (List OutcomeValue)) (limits : PoolLimits) (seed : List ℕ) where
  abbrev pub Resolver : Type 0
  Resolver = ResolverValue (List OutcomeValue)

  module _ (events : List NetworkEvent) (s : NetworkValue) (k : Kept resolver limits seed events s) (after : NetworkValue) where
    abbrev cache : CacheValue
    cache = s.resolver.client.cache

    -- the resolver as it was kept
    abbrev pub before_it : Resolver
    before_it = over resolver cache

    abbrev pub Played : NetworkEvent → List Happening → Type 0
    Played e past = Done-to resolver limits seed events s k after e past

    -- this outcome is from the pool, to the question of a call
    abbrev pub From : List Happening → WaitingCallValue → OutcomeValue → Type 0
    From past w outcome = IsFromPool (first resolver limits seed) past (question_with (options resolver limits seed) w) outcome

    abbrev pub Less : List Happening → Type 0
    Less past = AsksLess resolver limits seed past s.table after.table

    -- ---- what was done to the resolver

    -- look-ups that are done were so before, or a call came to what they came to
    abbrev pub Ends : List CallEventValue → Type 0
    Ends told = EndsLess told s.table.lookups after.table.lookups

    -- what is told of an event
    abbrev pub Tells : NetworkEvent → List CallEventValue → Calls → Type 0
    Tells e told calls = EventTells (settings resolver) e k.calls told calls

    -- look-ups are as these calls
    abbrev pub AreBy : Calls → Type 0
    AreBy calls = AreAs calls after.table.lookups

    pub as-stay : after.table.lookups ≡ s.table.lookups → AreBy k.calls
    as-stay same = as-same k.calls s.table.lookups after.table.lookups same k.as_calls

    -- nothing is asked ahead of this one
    abbrev pub IsUnplaced : ℕ → Type 0
    IsUnplaced n = (q : SecondQuestion) (a : Asker) → value_at n after.table.ahead ≡ Some (Waits q a) → ⊥

    later-unplaced : (n : ℕ) (call : List CallEventValue) → IsUnplaced n → (m : ℕ) (q : SecondQuestion) (a : Asker)
        → value_at m after.table.ahead ≡ Some (Waits q a) → IsLater (under n call k.calls m) (k.calls m)
    later-unplaced n call none m q a there = by (nat_eq n m) refl
      where
        by : (b : Bool) → nat_eq n m ≡ b → IsLater (cond b call (k.calls m)) (k.calls m)
        by true e =
            let same : m ≡ n = grind (arith, nat_tests) in
            absurd (none q a (subst (λ (i : ℕ). value_at i after.table.ahead ≡ Some (Waits q a)) same there))
        by false e = ([], refl)

    later-fed : (n : ℕ) (event : CallEventValue) (m : ℕ) → IsLater (under n (event ∷ k.calls n) k.calls m) (k.calls m)
    later-fed n event m = by (nat_eq n m) refl
      where
        by : (b : Bool) → nat_eq n m ≡ b → IsLater (cond b (event ∷ k.calls n) (k.calls m)) (k.calls m)
        by true e =
            let same : n ≡ m = grind (arith, nat_tests) in
            (event ∷ [], ap (λ (i : ℕ). event ∷ k.calls i) same)
        by false e = ([], refl)

    abbrev pub none-done : (e : NetworkEvent) (past : List Happening) → Tells e [] k.calls → after.resolver ≡ s.resolver
        → AreBy k.calls → Ends [] → Played e past
    none-done e past silent same are ends = record {
      told = [];
      calls = k.calls;
      tells = silent;
      moves = stays resolver cache k.flights (waits_by k.calls) k.flying after.resolver (waits_by k.calls) (same ∙ k.after_is) (λ n. refl);
      since = k.since;
      as_calls = are;
      later = λ n q a there. ([], refl);
      fed = tt;
      ends = ends;
    }

    pub started : (e : NetworkEvent) (past : List Happening) (n : ℕ) (call : Call) (now : ℕ) (p : CallProgress)
        → Tells e (CallStarted call now (progress_of p) ∷ []) (under n (CallStarted call now (progress_of p) ∷ []) k.calls)
        → k.calls n ≡ [] → StartsAt now call before_it (progress_of p) after.resolver
        → PutsUnder n (Some (lookup_of p)) s.table.lookups after.table.lookups → IsUnplaced n → Played e past
    started e past n call now p tells free starts puts none =
        let event = CallStarted call now (progress_of p) in
        record {
          told = event ∷ [];
          calls = under n (event ∷ []) k.calls;
          tells = tells;
          moves = begins resolver cache k.flights (waits_by k.calls) k.flying after.resolver (waits_by (under n (event ∷ []) k.calls)) n call now (progress_of p)
              (ap waits_now free) starts
              (waits-under n (event ∷ []) (pending_after call [] (progress_of p)) k.calls refl);
          since = since-under n (event ∷ []) k.calls (since-begun before_it after.resolver now call (progress_of p) starts) k.since;
          as_calls = as-under n (Some (lookup_of p)) (event ∷ []) k.calls s.table.lookups after.table.lookups puts (as-begun call now p) k.as_calls;
          later = later-unplaced n (event ∷ []) none;
          fed = (tt, tt);
          ends = ends-put (event ∷ []) n (Some (lookup_of p)) s.table.lookups after.table.lookups
              (λ found b is. inr (comes-at-once event p found b (λ r done. done) is)) puts;
        }

    -- what is told of a call that comes and goes
    abbrev IsFed : List Happening → CallEventValue → Type 0
    IsFed past = IsFedFrom (first resolver limits seed) (options resolver limits seed) past

    abbrev Passing : List Happening → Call → ℕ → Type 0
    Passing past call now =
        Comes-and-goes resolver cache k.flights (waits_by k.calls) k.flying after.resolver (waits_by k.calls) (IsFed past) (λ n. refl) call now (λ p. tt) (λ c. tt)

    -- it is of the second family of this look-up
    abbrev OfSecond : ℕ → Call → ℕ → Type 0
    OfSecond n call now = IsOfSecond (settings resolver) (k.calls n) call now

    passing : (action : Option NetworkAction) (past : List Happening) (n : ℕ) (call : Call) (now : ℕ)
        → OfSecond n call now → after.table.lookups ≡ s.table.lookups → Passing past call now
        → Played (is_stepped action) past
    passing action past n call now second same p = record {
      told = p.told;
      calls = k.calls;
      tells = inr (inr (record {
        number = n;
        call = call;
        now = now;
        second = second;
        comes_and_goes = p.comes_and_goes;
        calls_stay = refl;
      }));
      moves = p.moves;
      since = k.since;
      as_calls = as-stay same;
      later = λ m q a there. ([], refl);
      fed = p.all;
      ends = ends-same p.told s.table.lookups after.table.lookups same;
    }

    abbrev StartsOwn : Call → ℕ → CallProgressValue → Type 0
    StartsOwn call now progress = StartsAt now call before_it progress before_it

    -- a look-up of one question is started, goes on with this where it asks that, and is let go
    pub heard-alone : (action : Option NetworkAction) (past : List Happening) (n : ℕ) (q : SecondQuestion)
        (outcome : OutcomeValue) → IsSecond resolver limits seed q (k.calls n)
        → ((w : WaitingCallValue) → is_waited_for q.query w ≡ true → From past w outcome)
        → Hears q outcome s.resolver after.resolver → after.table.lookups ≡ s.table.lookups
        → Played (is_stepped action) past
    heard-alone action past n q outcome second from h lookups = by-start h.starts
      where
        unheard-by : (call : Call) → OfSecond n call q.started → (p : CallProgressValue) → StartsOwn call q.started p
            → after.resolver ≡ s.resolver → Played (is_stepped action) past
        unheard-by call own p starts same =
            passing action past n call q.started own lookups
            (unheard resolver cache k.flights (waits_by k.calls) k.flying after.resolver (waits_by k.calls) (IsFed past) (λ n. refl) call q.started (λ p. tt) (λ c. tt) p starts (same ∙ k.after_is))

        by-test : (call : Call) → OfSecond n call q.started → (w : WaitingCallValue) (b : Bool) → is_waited_for q.query w ≡ b
            → StartsOwn call q.started (Waiting w) → ResumesIf b w outcome s.resolver after.resolver
            → Played (is_stepped action) past
        by-test call own w true is starts (progress, resumes) =
            passing action past n call q.started own lookups
            (heard resolver cache k.flights (waits_by k.calls) k.flying after.resolver (waits_by k.calls) (IsFed past) (λ n. refl) call q.started (λ p. tt) (λ c. tt) w outcome progress starts
            (subst (λ (r : Resolver). ResumesAt w outcome r progress after.resolver) k.after_is resumes) (from w is))
        by-test call own w false is starts same = unheard-by call own (Waiting w) starts same

        by : (call : Call) → OfSecond n call q.started → (p : CallProgressValue) → ResumesFor q.query p outcome s.resolver after.resolver
            → StartsOwn call q.started p → Played (is_stepped action) past
        by call own (Waiting w) goes_on starts = by-test call own w (is_waited_for q.query w) refl starts goes_on
        by call own (IsDone result) same starts = unheard-by call own (IsDone result) starts same

        by-start : StartsAlone q s.resolver h.progress → Played (is_stepped action) past
        by-start (given, gives, starts) =
            by (name_call q.query.query_type given)
            (subst (λ (g : Result NameValue NameError). OfSecond n (name_call q.query.query_type g) q.started) (sym gives) second)
            h.progress h.goes_on
            (subst (λ (r : Resolver). StartsAt q.started (name_call q.query.query_type given) r h.progress r) k.after_is starts)

    -- ---- a look-up goes on

    -- its call waits as it does
    pub waits-there : (n : ℕ) (held : NetworkLookup) → value_at n s.table.lookups ≡ Some held
        → IsAsCall (k.calls n) (Some held)
    waits-there n held there = subst (λ (h : Option NetworkLookup). IsAsCall (k.calls n) h) there (k.as_calls n)

    resumed : (action : Option NetworkAction) (past : List Happening) (n : ℕ) (w : WaitingCallValue)
        (outcome : OutcomeValue) (held : NetworkLookup) → IsWaiting w (waits_now (k.calls n))
        → PutsUnder n (Some held) s.table.lookups after.table.lookups → From past w outcome
        → Resumes w outcome s.resolver after.resolver held → Played (is_stepped action) past
    resumed action past n w outcome held (c, there, same) puts from r =
        let progress = progress_of r.progress in
        let event = CallFed c outcome progress in
        let call = event ∷ k.calls n in
        let kept = subst (λ (x : Resolver). ResumesAt w outcome x progress after.resolver) k.after_is r.resumes in
        let own = subst (λ (v : WaitingCallValue). ResumesAt v outcome before_it progress after.resolver) (sym same) kept in
        record {
          told = event ∷ [];
          calls = under n call k.calls;
          tells = inr (inl (record {
            number = n;
            call = c;
            outcome = outcome;
            progress = progress;
            waits = there;
            told_is = refl;
            after_is = refl;
          }));
          moves = feeds resolver cache k.flights (waits_by k.calls) k.flying after.resolver (waits_by (under n call k.calls)) n c outcome progress there own
              (waits-under n call (pending_after c.call (c.asks ++ exchange_with c outcome ∷ []) progress) k.calls refl);
          since = since-under n call k.calls (since-fed before_it after.resolver c outcome progress (k.calls n) there (k.since n) own) k.since;
          as_calls = as-under n (Some held) call k.calls s.table.lookups after.table.lookups puts
              (subst (λ (h : NetworkLookup). IsAsCall call (Some h)) (sym r.held_is) (as-fed c outcome (k.calls n) r.progress)) k.as_calls;
          later = λ m q a there. later-fed n event m;
          fed = (subst (λ (v : WaitingCallValue). From past v outcome) (sym same) from, tt);
          ends = ends-put (event ∷ []) n (Some held) s.table.lookups after.table.lookups
              (λ found b e. inr (comes-at-once event r.progress found b (λ x is. is) (ap (λ (h : NetworkLookup). Some h) (sym r.held_is) ∙ e))) puts;
        }

    resumed-less : (n : ℕ) (w : WaitingCallValue) (outcome : OutcomeValue) (held : NetworkLookup)
        → PutsUnder n (Some held) s.table.lookups after.table.lookups → Resumes w outcome s.resolver after.resolver held
        → LookupsLess s.table.lookups after.table.lookups
    resumed-less n w outcome held puts r =
        lookups-less n (Some held) s.table.lookups after.table.lookups
        (λ v a e. lookup-not-asked r.progress v a (ap (λ (h : NetworkLookup). Some h) (sym r.held_is) ∙ e)) puts

    pub record Went (action : Option NetworkAction) (past : List Happening) : Type 0 where
      pub played : Played (is_stepped action) past
      pub less : Less past

    -- nothing is told of a step
    pub silent : (action : Option NetworkAction) → Tells (is_stepped action) [] k.calls
    silent action = inl (refl, refl)

    gone-on : (action : Option NetworkAction) (past : List Happening) (n : ℕ) (outcome : OutcomeValue)
        (old new : NetworkLookup) → value_at n s.table.lookups ≡ Some old
        → PutsUnder n (Some new) s.table.lookups after.table.lookups
        → ((w : WaitingCallValue) → call_of old ≡ Some w → From past w outcome)
        → PlacesLess resolver limits seed past s.table.ahead after.table.ahead
        → GoesOn outcome s.resolver old after.resolver new → Went action past
    gone-on action past n outcome (Asks w) new there puts from places r = record {
      played = resumed action past n w outcome new (waits-there n (Asks w) there) puts (from w refl) r;
      less = record { lookups = resumed-less n w outcome new puts r; places = places };
    }
    gone-on action past n outcome (Asked w a) new there puts from places r = record {
      played = resumed action past n w outcome new (waits-there n (Asked w a) there) puts (from w refl) r;
      less = record { lookups = resumed-less n w outcome new puts r; places = places };
    }
    gone-on action past n outcome (Done found b) new there puts from places (is, same) = record {
      played = none-done (is_stepped action) past (silent action) same
          (as-put n (Some new) k.calls s.table.lookups after.table.lookups puts
          (subst (λ (h : NetworkLookup). IsAsCall (k.calls n) (Some h)) (sym is) (waits-there n (Done found b) there)) k.as_calls)
          (ends-put [] n (Some new) s.table.lookups after.table.lookups
          (λ f c e. inl (c, there ∙ (ap (λ (h : NetworkLookup). Some h) (sym is) ∙ e))) puts);
      less = record {
        lookups = lookups-less n (Some new) s.table.lookups after.table.lookups
            (λ v a e. let clash : Some (Done found b) ≡ Some (Asked v a) = ap (λ (h : NetworkLookup). Some h) (sym is) ∙ e in absurd cc) puts;
        places = places;
      };
    }

    -- from a table in which nothing more is asked ahead
    pub gone-on-at : (action : Option NetworkAction) (past : List Happening) (n : ℕ) (outcome : OutcomeValue)
        (table : TableValue) → table.lookups ≡ s.table.lookups
        → PlacesLess resolver limits seed past s.table.ahead table.ahead
        → ((w : WaitingCallValue) → call_at s.table.lookups n ≡ Some w → From past w outcome)
        → GoesOnAt outcome n s.resolver table after.resolver after.table → Went action past
    gone-on-at action past n outcome table same places from h = by (held_at n table) refl h
      where
        places-by : after.table.ahead ≡ table.ahead → PlacesLess resolver limits seed past s.table.ahead after.table.ahead
        places-by e = subst (λ (l : Places). PlacesLess resolver limits seed past s.table.ahead l) (sym e) places

        by : (held : Option NetworkLookup) → held_at n table ≡ held
            → MatchOption held ((after.resolver ≡ s.resolver) × (after.table ≡ table)) (GoesOnWith outcome n s.resolver table after.resolver after.table)
            → Went action past
        by None none (resolver_stays, table_stays) =
            let lookups_stay : after.table.lookups ≡ s.table.lookups = ap (λ (t : TableValue). t.lookups) table_stays ∙ same in
            record {
              played = none-done (is_stepped action) past (silent action) resolver_stays (as-stay lookups_stay)
                  (ends-same [] s.table.lookups after.table.lookups lookups_stay);
              less = record {
                lookups = lookups-same s.table.lookups after.table.lookups lookups_stay;
                places = places-by (ap (λ (t : TableValue). t.ahead) table_stays);
              };
            }
        by (Some held) there g =
            let here : value_at n s.table.lookups ≡ Some held = ap (λ (l : Lookups). value_at n l) (sym same) ∙ there in
            gone-on action past n outcome held g.held' here
            (subst (λ (l : Lookups). PutsUnder n (Some g.held') l after.table.lookups) same g.takes_place.puts)
            (λ w is. from w (ap (λ (x : Option NetworkLookup). option_and_then call_of x) here ∙ is))
            (places-by (ap (λ (t : TableValue). t.ahead) g.takes_place.others_stay)) g.goes_on

    pub own-places : (past : List Happening) → PlacesLess resolver limits seed past s.table.ahead s.table.ahead
    own-places past = places-same resolver limits seed past s.table.ahead s.table.ahead refl

    -- nothing but a queue has changed
    pub passed : (action : Option NetworkAction) (table : TableValue) → table.lookups ≡ s.table.lookups
        → table.ahead ≡ s.table.ahead → after ≡ record s { table = table }
        → Kept resolver limits seed (is_stepped action ∷ events) after
    passed action table same same_ahead is =
        let lookups : after.table.lookups ≡ s.table.lookups = ap (λ (x : NetworkValue). x.table.lookups) is ∙ same in
        let places : after.table.ahead ≡ s.table.ahead = ap (λ (x : NetworkValue). x.table.ahead) is ∙ same_ahead in
        keeps-telling resolver limits seed events s k after (is_stepped action) (pool-stays resolver limits seed events s k after (ap (λ (x : NetworkValue). x.pool) is)) refl
        (none-done (is_stepped action) k.past (silent action) (ap (λ (x : NetworkValue). x.resolver) is) (as-stay lookups)
        (ends-same [] s.table.lookups after.table.lookups lookups))
        (record {
          lookups = lookups-same s.table.lookups after.table.lookups lookups;
          places = places-same resolver limits seed k.past s.table.ahead after.table.ahead places;
        })
        (ap (λ (x : NetworkValue). x.telling) is)

    pub table-stays : (action : Option NetworkAction) (past : List Happening) → after.resolver ≡ s.resolver
        → after.table ≡ s.table → Went action past
    table-stays action past resolver_stays stays = record {
      played = none-done (is_stepped action) past (silent action) resolver_stays (as-stay (ap (λ (t : TableValue). t.lookups) stays))
          (ends-same [] s.table.lookups after.table.lookups (ap (λ (t : TableValue). t.lookups) stays));
      less = asks-same resolver limits seed past s.table after.table stays;
    }

    -- ---- a look-up is forgotten

    pub cancelled-call : (past : List Happening) (n now : ℕ) (was_there : Bool) → was_there ≡ is_some (held_at n s.table)
        → after.resolver ≡ s.resolver → PutsUnder n None s.table.lookups after.table.lookups → IsUnplaced n
        → Played (is_cancelled n now was_there) past
    cancelled-call past n now was_there was same puts none = by (waits_now (k.calls n)) refl
      where
        said : was_there ≡ has_call (k.calls n)
        said = was ∙ is-there (k.calls n) (held_at n s.table) (k.as_calls n)

        since : AreSinceStart (under n [] k.calls)
        since = since-under n [] k.calls (λ c e. let clash : None ≡ Some c = e in absurd cc) k.since

        are : AreBy (under n [] k.calls)
        are = as-under n None [] k.calls s.table.lookups after.table.lookups puts refl k.as_calls

        ends : (told : List CallEventValue) → Ends told
        ends told =
            ends-put-undone told n None s.table.lookups after.table.lookups
            (λ found b e. let clash : None ≡ Some (Done found b) = e in absurd cc) puts

        by : (x : Option PendingCallValue) → waits_now (k.calls n) ≡ x → Played (is_cancelled n now was_there) past
        by None free = record {
          told = [];
          calls = under n [] k.calls;
          tells = (said, ap dropped (sym free), refl);
          moves = stays resolver cache k.flights (waits_by k.calls) k.flying after.resolver (waits_by (under n [] k.calls)) (same ∙ k.after_is)
              (alike n None (waits_by k.calls) (waits_by (under n [] k.calls)) free (waits-under n [] None k.calls refl));
          since = since;
          as_calls = are;
          later = later-unplaced n [] none;
          fed = tt;
          ends = ends [];
        }
        by (Some c) there = record {
          told = CallDropped c ∷ [];
          calls = under n [] k.calls;
          tells = (said, ap dropped (sym there), refl);
          moves = drops resolver cache k.flights (waits_by k.calls) k.flying after.resolver (waits_by (under n [] k.calls)) n c there (same ∙ k.after_is)
              (waits-under n [] None k.calls refl);
          since = since;
          as_calls = are;
          later = later-unplaced n [] none;
          fed = (tt, tt);
          ends = ends (CallDropped c ∷ []);
        }
