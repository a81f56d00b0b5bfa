-- Nothing is left ahead of a look-up that was announced or forgotten.
use Rattle.std.proofs.Common.{◌≡◌, ◌∙◌, ℕ, Bool, true, false, cond, List, nat_eq, refl, sym, ap, subst, arith}
use Rattle.std.specs.Prelude.{MatchOption, MatchResult, Option, None, Some, Result, Ok, Err, slice_get}
use Rattle.std.specs.Option.{option_map}
use Rattle.std.proofs.lemmas.Bool.Decides.{nat_tests}
use Rattle.std.proofs.lemmas.Map.Made.{lookup-map_values}
use Rattle.hickory_proto_core.specs.Handles.{OutcomeValue}
use Rattle.hickory_proto_core.specs.NameGiven.{IsReadAddress, IsReadName}
use Rattle.hickory_proto_core.specs.codes.record_type.RecordType.{RecordType}
use Rattle.hickory_resolver.specs.Driving.{CallProgress}
use Rattle.hickory_resolver.specs.Starting.{StartsHost, StartsName}
use Rattle.hickory_resolver.specs.client.waiting.Progress.TheVariants as progress
use Rattle.hickory_resolver_askers.specs.declared.asker.Asker.{Asker}
use Rattle.hickory_resolver_model.specs.Resolver.{ResolverValue, settings}
use Rattle.hickory_resolver_pool.specs.declared.limits.PoolLimits.{PoolLimits}
use Rattle.hickory_resolver_pool.specs.declared.pool.Asked as pool_asked
use Rattle.hickory_resolver_pool.specs.declared.pool.Asked.TheVariants as asked
use Rattle.hickory_resolver_theorems.specs.ResumingCalls.{WaitingCallValue}
use Rattle.hickory_proto_core.specs.declared.query.Query.{Query}
use Rattle.yimarotu_session.specs.Ahead.{Resolver, ahead_of, untold}
use Rattle.yimarotu_session.specs.Calls.{Does}
use Rattle.yimarotu_session.specs.LookupTables.{ChangesAhead, TableValue, ahead_at, announced, emptied, first_announced, first_asked, held_at, lookup_of, question_ahead, waits_ahead, waits_for, without_asker, without_told}
use Rattle.yimarotu_session.specs.Messages.{whole_query}
use Rattle.yimarotu_session.specs.NetworkSessions.{Begins, BeginsLookup, Cancels, ClearsName, NetworkValue, TellingValue, is_attempted, new_session, seconds_of}
use Rattle.yimarotu_session.specs.NetworkSteps.{Announces, AnnouncesAs, AnnouncesFirst, AsksAs, AsksBy, AsksFirst, AsksFor, AsksIf, AsksPool, AsksSecond, ForgetsFirst, GoesOn, GoesOnAt, GoesOnWith, IsAnswered, IsAskedAhead, StepsPool, Tells, TellsAhead, TellsLookup, TellsNext, TellsOther, WaitsFor, asker_with, forgotten, pool_says}
use Rattle.yimarotu_session.specs.Sessions.{PutsUnder, value_at}
use Rattle.yimarotu_session.specs.declared.ahead.Ahead.{Ahead}
use Rattle.yimarotu_session.specs.declared.ahead.Ahead.TheVariants.{Nothing, Told, Waits}
use Rattle.yimarotu_session.specs.declared.ahead.SecondQuestion.{SecondQuestion}
use Rattle.yimarotu_session.specs.declared.network_lookup.NetworkLookup.{NetworkLookup}
use Rattle.yimarotu_session.specs.declared.network_lookup.NetworkLookup.TheVariants.{Asks, Asked, Done}
use Rattle.yimarotu_session.specs.declared.network_session.NetworkAction.{NetworkAction}
use Rattle.yimarotu_session.specs.declared.network_session.NetworkAction.TheVariants as act
use Rattle.yimarotu_session.specs.declared.session_error.SessionError.{SessionError}
use Rattle.yimarotu_session.specs.declared.session_error.SessionError.TheVariants.{InUse, OutOfMemory}
use Rattle.yimarotu_session_theorems.specs.NetworkPlaces.{AsksAheadOfUnfinished, IsUnfinished, NothingIsLeftAhead}
use Rattle.yimarotu_session_theorems.specs.NetworkRuns.{Happens, NetworkEvent, NetworkRuns, all_is_cleared, at_first, channel_fails, host_is_started, is_cancelled, is_started, is_stepped, name_is_cleared, next, octets_come, servers_are, time_passes}

abbrev Fine : TableValue → Type 0
Fine table = AsksAheadOfUnfinished table

-- ---- tables

fine-same : (before after : TableValue) → after.lookups ≡ before.lookups → after.ahead ≡ before.ahead → Fine before → Fine after
fine-same before after lookups ahead fine n x there =
    subst (λ (l : List (ℕ × NetworkLookup)). IsUnfinished (value_at n l)) (sym lookups)
    (fine n x (ap (λ (l : List (ℕ × Ahead)). value_at n l) (sym ahead) ∙ there))

-- under one number stands another look-up, and something else is asked ahead of it
fine-put : (n : ℕ) (held : Option NetworkLookup) (place : Option Ahead) (before after : TableValue)
    → PutsUnder n held before.lookups after.lookups → PutsUnder n place before.ahead after.ahead
    → ((x : Ahead) → place ≡ Some x → IsUnfinished held) → Fine before → Fine after
fine-put n held place before after puts puts_ahead new fine m x there =
    subst (λ (h : Option NetworkLookup). IsUnfinished h) (sym (puts m)) (by (nat_eq n m) (sym (puts_ahead m) ∙ there))
  where
    by : (b : Bool) → cond b place (value_at m before.ahead) ≡ Some x
        → IsUnfinished (cond b held (value_at m before.lookups))
    by true e = new x e
    by false e = fine m x e

-- what stands under a number stands there
puts-itself : {A : Type 0} (n : ℕ) (values : List (ℕ × A)) → PutsUnder n (value_at n values) values values
puts-itself n values m = by (nat_eq n m) refl
  where
    by : (b : Bool) → nat_eq n m ≡ b → value_at m values ≡ cond b (value_at n values) (value_at m values)
    by true e = let same : n ≡ m = grind (arith, nat_tests) in ap (λ i. value_at i values) (sym same)
    by false e = refl

-- a look-up under its number is another one, which is unfinished where that one was
fine-lookup : (n : ℕ) (new : NetworkLookup) (before after : TableValue) → PutsUnder n (Some new) before.lookups after.lookups
    → after.ahead ≡ before.ahead → (IsUnfinished (value_at n before.lookups) → IsUnfinished (Some new)) → Fine before
    → Fine after
fine-lookup n new before after puts ahead keeps fine =
    fine-put n (Some new) (value_at n before.ahead) before after puts
    (subst (λ (l : List (ℕ × Ahead)). PutsUnder n (value_at n before.ahead) before.ahead l) (sym ahead) (puts-itself n before.ahead))
    (λ x there. keeps (fine n x there)) fine

fine-changed : (n : ℕ) (change : Ahead → Ahead) (before after : TableValue) → ChangesAhead n change before after
    → Fine before → Fine after
fine-changed n change before after c fine =
    fine-put n (value_at n before.lookups) (option_map change (value_at n before.ahead)) before after
    (subst (λ (l : List (ℕ × NetworkLookup)). PutsUnder n (value_at n before.lookups) before.lookups l)
    (sym (ap (λ (t : TableValue). t.lookups) c.others_stay)) (puts-itself n before.lookups)) c.puts
    (λ x e. by (value_at n before.ahead) refl x e) fine
  where
    by : (place : Option Ahead) → value_at n before.ahead ≡ place → (x : Ahead) → option_map change place ≡ Some x
        → IsUnfinished (value_at n before.lookups)
    by None is x e = let clash : None ≡ Some x = e in absurd cc
    by (Some y) is x e = fine n y is

-- what was told is let go
fine-untold : (passes : Query → Bool) (before after : TableValue) → after ≡ without_told passes before → Fine before
    → Fine after
fine-untold passes before after same fine n x there =
    subst (λ (h : Option NetworkLookup). IsUnfinished h) (sym (ap (λ (t : TableValue). value_at n t.lookups) same))
    (by (value_at n before.ahead) refl
    (sym (lookup-map_values (untold passes) (nat_eq n) before.ahead) ∙ sym (ap (λ (t : TableValue). value_at n t.ahead) same) ∙ there))
  where
    by : (place : Option Ahead) → value_at n before.ahead ≡ place → option_map (untold passes) place ≡ Some x
        → IsUnfinished (value_at n before.lookups)
    by None is e = let clash : None ≡ Some x = e in absurd cc
    by (Some y) is e = fine n y is

lookup-unfinished : (p : CallProgress) → IsUnfinished (Some (lookup_of p))
lookup-unfinished (progress.Waiting w) = tt
lookup-unfinished (progress.Done found) = tt

fine-waits : (w : WaitingCallValue) (a : Asker) (n : ℕ) (before after : TableValue) → WaitsFor w a n before after
    → Fine before → Fine after
fine-waits w a n before after h fine =
    fine-lookup n (Asked w a) before after h.puts (ap (λ (t : TableValue). t.ahead) h.others_are) (λ u. tt) fine

fine-gone : (n : ℕ) (outcome : OutcomeValue) (resolver : Resolver) (before : TableValue) (resolver' : Resolver)
    (after : TableValue) → GoesOnAt outcome n resolver before resolver' after → Fine before → Fine after
fine-gone n outcome resolver before resolver' after h fine = by (held_at n before) refl h
  where
    unfinished : (old new : NetworkLookup) → GoesOn outcome resolver old resolver' new → IsUnfinished (Some old)
        → IsUnfinished (Some new)
    unfinished (Asks w) new r u = subst (λ (h : NetworkLookup). IsUnfinished (Some h)) (sym r.held_is) (lookup-unfinished r.progress)
    unfinished (Asked w a) new r u = subst (λ (h : NetworkLookup). IsUnfinished (Some h)) (sym r.held_is) (lookup-unfinished r.progress)
    unfinished (Done found b) new r u = subst (λ (h : NetworkLookup). IsUnfinished (Some h)) (sym r.0) u

    by : (held : Option NetworkLookup) → held_at n before ≡ held
        → MatchOption held ((resolver' ≡ resolver) × (after ≡ before)) (GoesOnWith outcome n resolver before resolver' after)
        → Fine after
    by None none (same, stays) = fine-same before after (ap (λ (t : TableValue). t.lookups) stays) (ap (λ (t : TableValue). t.ahead) stays) fine
    by (Some old) there g =
        fine-lookup n g.held' before after g.takes_place.puts (ap (λ (t : TableValue). t.ahead) g.takes_place.others_stay)
        (λ u. unfinished old g.held' g.goes_on (subst (λ (h : Option NetworkLookup). IsUnfinished h) there u)) fine

-- ---- events and steps

module _ (s : NetworkValue) (fine : Fine s.table) (after : NetworkValue) where
  stays : after.table ≡ s.table → Fine after.table
  stays same = subst (λ (t : TableValue). Fine t) (sym same) fine

  begins : (Comes : Does) (place : Option Ahead) (n now : ℕ) (result : Result (Unit {0}) SessionError)
      → BeginsLookup Comes place n now s result after → Fine after.table
  begins Comes place n now result h = by (held_at n s.table) h
    where
      by-result : (r : Result (Unit {0}) SessionError)
          → MatchResult r (λ u. Begins Comes place n now s after) (λ error. (error ≡ OutOfMemory) × (after ≡ s)) → Fine after.table
      by-result (Ok u) b =
          fine-put n (Some (lookup_of b.progress)) place s.table after.table b.begins.puts b.begins.puts_ahead
          (λ x e. lookup-unfinished b.progress) fine
      by-result (Err e) (is, same) = stays (ap (λ (x : NetworkValue). x.table) same)

      by : (held : Option NetworkLookup)
          → MatchOption held (MatchResult result (λ u. Begins Comes place n now s after) (λ error. (error ≡ OutOfMemory) × (after ≡ s))) (λ x. (result ≡ Err InUse) × (after ≡ s))
          → Fine after.table
      by None h = by-result result h
      by (Some x) (is, same) = stays (ap (λ (x : NetworkValue). x.table) same)

  none-there : (held : Option NetworkLookup) (x : Ahead) → None ≡ Some x → IsUnfinished held
  none-there held x e = let clash : None ≡ Some x = e in absurd cc

  cancelled : (n now : ℕ) (was_there : Bool) → Cancels n now s was_there after → Fine after.table
  cancelled n now was_there c =
      fine-put n None None s.table after.table c.is_forgotten.puts c.is_forgotten.puts_ahead (none-there None) fine

  name-cleared : (text : List ℕ) (t : RecordType) (result : Result (Unit {0}) SessionError) → ClearsName text t s result after
      → Fine after.table
  name-cleared text t (Ok u) ((given, gives, live, same), unchanged, out) =
      fine-untold (is_attempted (settings s.resolver) t given) s.table after.table (ap (λ (x : NetworkValue). x.table) same) fine
  name-cleared text t (Err e) (cleared, same, out) = stays (ap (λ (x : NetworkValue). x.table) same)

  tells : (t : TellingValue) → Tells s after t → Fine after.table
  tells t h = by (slice_get t.over.askers t.told) h
    where
      other : (number : ℕ) (n : Option ℕ)
          → MatchOption n ((after.resolver ≡ s.resolver) × (after.table ≡ s.table)) (TellsAhead t.over (asker_with t.over number) s.resolver s.table after.resolver after.table)
          → Fine after.table
      other number None (same, is) = stays is
      other number (Some n) l = fine-changed n _ (without_asker number s.table) after.table l.changes fine

      one : (number : ℕ) (n : Option ℕ)
          → MatchOption n (TellsOther t.over (asker_with t.over number) s.resolver s.table after.resolver after.table) (TellsLookup t.over (asker_with t.over number) s.resolver s.table after.resolver after.table)
          → Fine after.table
      one number None h = other number (waits_ahead (asker_with t.over number) s.table) h
      one number (Some n) l = fine-gone n l.outcome s.resolver (without_asker number s.table) after.resolver after.table l.goes_on fine

      by : (number : Option ℕ) → MatchOption number (after ≡ record s { telling = None }) (TellsNext t s after) → Fine after.table
      by None same = stays (ap (λ (x : NetworkValue). x.table) same)
      by (Some number) n = one number (waits_for (asker_with t.over number) s.table) n.told

  passed : (table : TableValue) → table.lookups ≡ s.table.lookups → table.ahead ≡ s.table.ahead → after.table ≡ table
      → Fine after.table
  passed table lookups ahead same =
      subst (λ (t : TableValue). Fine t) (sym same) (fine-same s.table table lookups ahead fine)

  asks-pool : (n : ℕ) (w : WaitingCallValue) → AsksPool w n s after → Fine after.table
  asks-pool n w a = by (pool_says (whole_query w.lookup.hop.query) s) a.answered
    where
      by : (said : pool_asked.Asked) → IsAnswered said w n s.resolver s.table after.resolver after.table → Fine after.table
      by (asked.Asker b) (same, waits) = fine-waits w b n s.table after.table waits fine
      by asked.Overloaded r = fine-gone n r.outcome s.resolver (first_asked s.table) after.resolver after.table r.goes_on fine
      by asked.NoServers r = fine-gone n r.outcome s.resolver (first_asked s.table) after.resolver after.table r.goes_on fine

  asks-own : (n : ℕ) (w : WaitingCallValue) (found : Ahead) → AsksBy found w n s after → Fine after.table
  asks-own n w Nothing h = asks-pool n w h
  asks-own n w (Waits q b) h =
      fine-waits w b n (first_asked h.mid) after.table h.waits (fine-changed n emptied s.table h.mid h.empties fine)
  asks-own n w (Told q outcome) h =
      fine-gone n outcome s.resolver (first_asked h.mid) after.resolver after.table h.goes_on
      (fine-changed n emptied s.table h.mid h.empties fine)

  asks-second : (n : ℕ) (q : SecondQuestion) (asks : Bool) → AsksIf asks n q s after → Fine after.table
  asks-second n q false same = passed (first_asked s.table) refl refl (ap (λ (x : NetworkValue). x.table) same)
  asks-second n q true h = by (pool_says q.query s) h.asked
    where
      by : (said : pool_asked.Asked) → IsAskedAhead said q n s.table after.table → Fine after.table
      by (asked.Asker b) c = fine-changed n _ _ after.table c fine
      by asked.Overloaded same = passed (first_asked s.table) refl refl same
      by asked.NoServers same = passed (first_asked s.table) refl refl same

  asks-other : (n : ℕ) (q : Option SecondQuestion)
      → MatchOption q (after ≡ record s { table = first_asked s.table }) (AsksSecond n s after) → Fine after.table
  asks-other n None same = passed (first_asked s.table) refl refl (ap (λ (x : NetworkValue). x.table) same)
  asks-other n (Some q) h = asks-second n q h.asks h.goes_on

  asks : (n : ℕ) (held : Option NetworkLookup) → AsksAs held n s after → Fine after.table
  asks n None h = asks-other n (question_ahead s.resolver None (ahead_at n s.table)) h
  asks n (Some (Asks w)) h = asks-own n w (ahead_of (whole_query w.lookup.hop.query) (ahead_at n s.table)) h
  asks n (Some (Asked w a)) h = asks-other n (question_ahead s.resolver (Some (Asked w a)) (ahead_at n s.table)) h
  asks n (Some (Done found b)) h = asks-other n (question_ahead s.resolver (Some (Done found b)) (ahead_at n s.table)) h

  passed-announcing : after ≡ record s { table = first_announced s.table } → Fine after.table
  passed-announcing same = passed (first_announced s.table) refl refl (ap (λ (x : NetworkValue). x.table) same)

  announces : (n : ℕ) (action : Option NetworkAction) (held : Option NetworkLookup) → AnnouncesAs held n s action after
      → Fine after.table
  announces n action None (is, same) = passed-announcing same
  announces n action (Some (Asks w)) (is, same) = passed-announcing same
  announces n action (Some (Asked w a)) (is, same) = passed-announcing same
  announces n action (Some (Done found true)) (is, same) = passed-announcing same
  announces n action (Some (Done found false)) a =
      fine-put n (option_map announced (held_at n s.table)) None s.table after.table a.is_announced.puts
      a.is_announced.puts_ahead (none-there (option_map announced (held_at n s.table))) fine

  announces-first : (action : Option NetworkAction) (number : Option ℕ)
      → MatchOption number (StepsPool s action after) (Announces s action after) → Fine after.table
  announces-first action None steps = stays (ap (λ (x : NetworkValue). x.table) steps.others_are)
  announces-first action (Some n) a = announces n action (held_at n s.table) a

  asks-first : (action : Option NetworkAction) (number : Option ℕ)
      → MatchOption number (AnnouncesFirst s action after) (λ n. (action ≡ Some act.Continue) × AsksFor s after n)
      → Fine after.table
  asks-first action None h = announces-first action (slice_get s.table.to_announce 0) h
  asks-first action (Some n) (is, h) = asks n (held_at n s.table) h

  forgets-first : (action : Option NetworkAction) (a : Option Asker)
      → MatchOption a (AsksFirst s action after) (λ a. (action ≡ Some act.Continue) × (after ≡ forgotten s a))
      → Fine after.table
  forgets-first action None h = asks-first action (slice_get s.table.to_ask 0) h
  forgets-first action (Some a) (is, same) =
      passed (forgotten s a).table refl refl (ap (λ (x : NetworkValue). x.table) same)

  stepped : (action : Option NetworkAction) (t : Option TellingValue)
      → MatchOption t (ForgetsFirst s action after) (λ t. (action ≡ Some act.Continue) × Tells s after t)
      → Fine after.table
  stepped action None h = forgets-first action (slice_get s.table.to_forget 0) h
  stepped action (Some t) (said, h) = tells t h

  happens : (e : NetworkEvent) → Happens e s after → Fine after.table
  happens (is_started number name t now result) h =
      begins (StartsName (IsReadName name) t (seconds_of now)) None number now result h
  happens (host_is_started number host now result) h =
      begins (StartsHost (IsReadAddress host) (IsReadName host) (seconds_of now)) (Some Nothing) number now result h
  happens (is_cancelled number now was_there) h = cancelled number now was_there h
  happens (servers_are servers) same = stays (ap (λ (x : NetworkValue). x.table) same)
  happens (octets_come channel octets now) same = stays (ap (λ (x : NetworkValue). x.table) same)
  happens (channel_fails failure now) same = stays (ap (λ (x : NetworkValue). x.table) same)
  happens (time_passes now) same = stays (ap (λ (x : NetworkValue). x.table) same)
  happens (name_is_cleared name t result) h = name-cleared name t result h
  happens all_is_cleared same = fine-untold (λ q. true) s.table after.table (ap (λ (x : NetworkValue). x.table) same) fine
  happens (is_stepped action) h = stepped action s.telling h

module _ (resolver : ResolverValue (List OutcomeValue)) (limits : PoolLimits) (seed : List ℕ) where
  kept : {events : List NetworkEvent} {session : NetworkValue} → NetworkRuns (new_session resolver limits seed) events session
      → Fine session.table
  kept at_first = λ n x there. let clash : None ≡ Some x = there in absurd cc
  kept (next past event before after is runs) = happens before (kept runs) after event is

pub nothing_is_left_ahead : NothingIsLeftAhead
nothing_is_left_ahead resolver limits seed events session runs = kept resolver limits seed runs
