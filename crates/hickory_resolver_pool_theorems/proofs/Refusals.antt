-- A transaction is refused only where it waited in vain for a place.
use Rattle.std.proofs.Common.{◌≡◌, ◌≤◌, ℕ, Bool, true, false, cond, List, [], ◌∷◌, refl, ap, sym, subst, ◌∙◌, inl, inr, ◌⊎◌, leb, leb-true, length, arith}
use Rattle.std.specs.Prelude.{Option, None, Some, IfSome, unwrap_or, slice_get}
use Rattle.std.specs.Option.{is_some, option_map, option_map_or, option_or, option_and_then}
use Rattle.std.proofs.lemmas.Bool.{ltb-false}
use Rattle.hickory_resolver_askers.specs.Askers.{AskersState, WaitingValue, nobody, first_waiting, late_one, if_late, to_admit}
use Rattle.hickory_resolver_askers.specs.Askers as ask
use Rattle.hickory_resolver_askers.specs.Laws.{AskersEvent, begins, joins, is_over, is_forgotten, is_admitted, after_event, after_events}
use Rattle.hickory_resolver_askers.specs.declared.asker.Asker.{Asker}
use Rattle.hickory_resolver_askers.specs.declared.asker.AskerLimits.{AskerLimits}
use Rattle.hickory_resolver_askers.specs.declared.asker.Forgotten.{Forgotten}
use Rattle.hickory_resolver_askers.specs.declared.asker.Forgotten.TheVariants.{Nobody, OthersAsk, Last}
use Rattle.hickory_resolver_askers.specs.declared.asker.Place.{Place}
use Rattle.hickory_resolver_askers.specs.declared.asker.Place.TheVariants as gets
use Rattle.hickory_resolver_config.specs.ResolverConfig.{OptionsValue}
use Rattle.hickory_resolver_channels.specs.Channels.{channel_at, transaction_at, first_try, first_idle}
use Rattle.hickory_resolver_tries.specs.Heads.{head_of}
use Rattle.hickory_resolver_transactions.specs.Transaction.{outcome_of}
use Rattle.hickory_resolver_transactions.specs.declared.outcome.Outcome.{Outcome}
use Rattle.hickory_resolver_transactions.specs.declared.outcome.Outcome.TheVariants as kind
use Rattle.hickory_resolver_traffic.specs.Doing.{doing, id_of}
use Rattle.hickory_resolver_traffic.specs.Inbox.{MessageValue, first_message, first_failure, first_unread}
use Rattle.hickory_resolver_traffic.specs.Table.{CurrentState, EntryState, has_entry, entry_at, first_due}
use Rattle.hickory_resolver_traffic.specs.Tasks.{task_of, did, outgoing_task, took_up, taken_up, did_open, did_write, opening_of, if_by, if_kept_enough, came_in, ran_out, due_in, late_in, free_in, idle_in, free_one, message_in, failure_in, message_task, failure_task, failed_task, hears_or_doubts, passes_or_doubts, is_response, fails_or_drops, expires_or_undates, refused_one, refuses_or_strays, frees_or_unblocks}
use Rattle.hickory_resolver_traffic.specs.Tasks as tasks
use Rattle.hickory_resolver_traffic.specs.Openings.{OpeningValue}
use Rattle.hickory_resolver_traffic.specs.Traffic.{TrafficState, OutgoingValue}
use Rattle.hickory_resolver_traffic.specs.declared.doing.Doing.{Doing}
use Rattle.hickory_resolver_traffic.specs.declared.doing.Doing.TheVariants.{Hears, Doubts, Stalls, Fails, Quits, PutsBack, Expires, Frees, Refused, Leaves, Ends, Draws, BeginsRound, GivesUp, Blocks, Sends, Dates, Rests}
use Rattle.hickory_resolver_traffic.specs.declared.entry.ToDo.{ToDo}
use Rattle.hickory_resolver_traffic.specs.declared.entry.ToDo.TheVariants as todo
use Rattle.hickory_resolver_traffic.specs.declared.inbox.ChannelFailure.{ChannelFailure}
use Rattle.hickory_resolver_traffic.specs.declared.starting.Did.TheVariants as done
use Rattle.hickory_resolver_traffic.specs.declared.tasks.Task.{Task}
use Rattle.hickory_resolver_traffic.specs.declared.tasks.Task.TheVariants as task
use Rattle.hickory_resolver_pool.specs.Over.{OverValue}
use Rattle.hickory_resolver_pool.proofs.Bounded.{tracked-reached, stays_bounded}
use Rattle.hickory_resolver_pool.specs.Pool.{PoolState, no_servers, limits_of, current_after, told_outcome, outcome_in, Starts, IsDoneTo, StepsBy, StepsIn, StepsAs, Steps, scene_of, is_end, is_put, put_by}
use Rattle.hickory_resolver_pool.specs.declared.limits.PoolLimits.{PoolLimits}
use Rattle.hickory_resolver_pool.specs.declared.over.PoolOutcome.TheVariants.{Overloaded}
use Rattle.hickory_resolver_pool.specs.declared.pool.Action.{Action}
use Rattle.hickory_resolver_pool_theorems.specs.Failures.{WaitedInVain, OverloadedOnlyWithoutPlace}
use Rattle.hickory_resolver_pool_theorems.specs.Runs.{Happening, came as event_of, did as step_of, Runs, at_first, by_event, by_step}
use Rattle.hickory_resolver_pool_theorems.proofs.Failures.{end-for, IsEnding}
use Rattle.hickory_resolver_pool_theorems.proofs.Overs.{IsEnd, told-at_end}
use Rattle.hickory_resolver_pool_theorems.proofs.Reaching.{reached_is_what_happens}
use Rattle.hickory_resolver_pool_theorems.proofs.Scenes.{same-done}
use Rattle.hickory_resolver_pool_theorems.proofs.Traces.{current-event}

vain-more : (limits : PoolLimits) (a : Happening) (past : List Happening) (n : ℕ) → WaitedInVain limits past n
    → WaitedInVain limits (a ∷ past) n
vain-more limits a past n w = record {
  later = a ∷ w.later;
  earlier = w.earlier;
  pool = w.pool;
  action = w.action;
  waiting = w.waiting;
  happened = ap (λ (p : List Happening). a ∷ p) w.happened;
  first = w.first;
  late = w.late;
  no_place = w.no_place;
}

-- one that is to be refused waited in vain
abbrev Refuses : PoolLimits → List Happening → CurrentState → Type 0
Refuses limits past c = c.to_do ≡ todo.Refuse → WaitedInVain limits past c.number

abbrev IsFair : PoolLimits → List Happening → Option CurrentState → Type 0
IsFair limits past c = IfSome c (Refuses limits past)

fair-more : (limits : PoolLimits) (a : Happening) (past : List Happening) (c : Option CurrentState) → IsFair limits past c
    → IsFair limits (a ∷ past) c
fair-more limits a past None w = tt
fair-more limits a past (Some c) w = λ refuse. vain-more limits a past c.number (w refuse)

-- ---- the limits of those who ask stay as they are

limits-joined : (n : ℕ) (a : AskersState) → (ask.joined n a).limits ≡ a.limits
limits-joined n a = by (ask.is_flying n a) (ask.is_waiting n a)
  where
    by : (flying waiting : Bool)
        → (cond flying (ask.joined_flying n a) (cond waiting (ask.joined_waiting n a) a)).limits ≡ a.limits
    by true waiting = refl
    by false true = refl
    by false false = refl

limits-begun : (p : Place) (until : ℕ) (a : AskersState) → (ask.begun_in p until a).limits ≡ a.limits
limits-begun gets.InFlight until a = refl
limits-begun gets.Waits until a = refl
limits-begun gets.Overloaded until a = refl

limits-forgot : (f : Forgotten) (asker : Asker) (a : AskersState) → (ask.forgot_as f asker a).limits ≡ a.limits
limits-forgot Nobody asker a = refl
limits-forgot OthersAsk asker a = refl
limits-forgot Last asker a = refl

limits-admitted : (a : AskersState) → (ask.admitted a).limits ≡ a.limits
limits-admitted a = by (to_admit a)
  where
    by : (first : Option (ℕ × WaitingValue)) → (option_map_or (ask.admitted_one a) first a).limits ≡ a.limits
    by None = refl
    by (Some first) = refl

limits-event : (a : AskersState) (e : AskersEvent) → (after_event a e).limits ≡ a.limits
limits-event a (begins until) = limits-begun (ask.place_for a) until a
limits-event a (joins n) = limits-joined n a
limits-event a (is_over n) = refl
limits-event a (is_forgotten asker) = limits-forgot (ask.left_of asker a) asker a
limits-event a is_admitted = limits-admitted a

limits-events : (a : AskersState) (events : List AskersEvent) → (after_events a events).limits ≡ a.limits
limits-events a [] = refl
limits-events a (e ∷ es) = limits-events (after_event a e) es ∙ limits-event a e

-- where there is no place, as many are in flight as the limits say
is-full : (options : OptionsValue) (limits : PoolLimits) (seed : List ℕ) (past : List Happening) (s : PoolState)
    → Runs (no_servers options limits seed) past s → ask.has_place s.traffic.askers ≡ false
    → length s.traffic.askers.in_flight ≡ limits.transactions
is-full options limits seed past s runs none =
    let reached = (reached_is_what_happens (no_servers options limits seed) s).reached past runs in
    let made = (tracked-reached options limits seed s reached).askers in
    let bounded = (stays_bounded options limits seed s reached).askers in
    let same : s.traffic.askers.limits ≡ (limits_of limits options).askers =
    ap (λ (a : AskersState). a.limits) made.made ∙ limits-events (nobody (limits_of limits options).askers) made.events in
    let most : s.traffic.askers.limits.transactions ≡ limits.transactions =
    ap (λ (l : AskerLimits). l.transactions) same in
    let within : length s.traffic.askers.in_flight ≤ limits.transactions = bounded.in_flight in
    omega (arith, most, within, ltb-false (length s.traffic.askers.in_flight) s.traffic.askers.limits.transactions none)

-- ---- what is done first where none is worked on

module _ (t : TrafficState) where
  -- it is to be refused only where it is late, and there is no place
  abbrev Fair : Task → Type 0
  Fair what = (n : ℕ) → what ≡ task.TakesUp n todo.Refuse → refused_one t ≡ Some n

  abbrev FairIf : Option Task → Type 0
  FairIf o = IfSome o Fair

  fair-or : (a b : Option Task) → FairIf a → FairIf b → FairIf (option_or a b)
  fair-or None b h k = k
  fair-or (Some what) b h k = h

  fair-map : {A : Type 0} (f : A → Task) (o : Option A) → ((a : A) → o ≡ Some a → Fair (f a)) → FairIf (option_map f o)
  fair-map f None h = tt
  fair-map f (Some a) h = h a refl

  fair-if : (b : Bool) (one two : Task) → Fair one → Fair two → Fair (cond b one two)
  fair-if true one two h k = h
  fair-if false one two h k = k

  fair-unwrap : (o : Option Task) → FairIf o → Fair (unwrap_or o task.Admits)
  fair-unwrap None h n e = absurd cc
  fair-unwrap (Some what) h n e = h n e

  fair-message : (m : MessageValue) → Fair (message_task t m.channel m.octets)
  fair-message m = by (transaction_at m.channel (id_of m.octets) t.shared.channels)
    where
      by : (n : Option ℕ) → Fair (option_map_or (hears_or_doubts t.table) n (passes_or_doubts m.octets))
      by None =
          fair-if (option_map_or is_response (head_of m.octets) false) task.PassesBy task.Doubts
          (λ k e. absurd cc) (λ k e. absurd cc)
      by (Some n) =
          fair-if (has_entry n t.table) (task.TakesUp n todo.Hear) task.Doubts (λ k e. absurd cc) (λ k e. absurd cc)

  fair-failed : (channel : ℕ) → Fair (failed_task channel t)
  fair-failed channel = by (first_try channel t.shared.channels)
    where
      by : (one : Option (ℕ × ℕ)) → Fair (option_map_or (fails_or_drops t.table) one (task.ClosesFailed channel))
      by None = λ k e. absurd cc
      by (Some one) =
          fair-if (has_entry one.1 t.table) (task.TakesUp one.1 todo.Fail) task.DropsFailure
          (λ k e. absurd cc) (λ k e. absurd cc)

  fair-failure : (f : ChannelFailure) → Fair (failure_task t f)
  fair-failure f =
      fair-if (is_some (channel_at f.channel t.shared.channels)) (failed_task f.channel t) task.DropsFailure
      (fair-failed f.channel) (λ k e. absurd cc)

  fair-came : FairIf (came_in t)
  fair-came =
      fair-or (failure_in t) (option_or (message_in t) (option_or cuts (option_or (free_in t) ready)))
      (fair-map (failure_task t) (first_failure t.inbox) (λ f is. fair-failure f))
      (fair-or (message_in t) (option_or cuts (option_or (free_in t) ready))
      (fair-map (λ m. message_task t m.channel m.octets) (first_message t.inbox) (λ m is. fair-message m))
      (fair-or cuts (option_or (free_in t) ready)
      (fair-map (λ channel. task.Cuts channel) (first_unread t.inbox) (λ channel is k e. absurd cc))
      (fair-or (free_in t) ready
      (fair-map (frees_or_unblocks t.table) (free_one t)
      (λ n is. fair-if (has_entry n t.table) (task.TakesUp n todo.Free) (task.Unblocks n)
      (λ k e. absurd cc) (λ k e. absurd cc)))
      (fair-map (λ n. task.TakesReady n) (slice_get t.ready 0) (λ n is k e. absurd cc)))))
    where
      cuts : Option Task
      cuts = option_map task.Cuts (first_unread t.inbox)

      ready : Option Task
      ready = option_map task.TakesReady (slice_get t.ready 0)

  fair-late : (m : ℕ) → refused_one t ≡ Some m → Fair (refuses_or_strays t.table m)
  fair-late m is =
      fair-if (has_entry m t.table) (task.TakesUp m todo.Refuse) (task.Strays m)
      (λ k e. let same : m ≡ k = cc in is ∙ ap (λ (x : ℕ). Some x) same) (λ k e. absurd cc)

  fair-ran : FairIf (ran_out t)
  fair-ran =
      fair-or (due_in t) (option_or (late_in t) (idle_in t))
      (fair-map (expires_or_undates t.table) (option_and_then (if_by t.clock) (first_due t.table))
      (λ due is. fair-if (has_entry due.1 t.table) (task.TakesUp due.1 todo.Expire) (task.Undates due.0 due.1)
      (λ k e. absurd cc) (λ k e. absurd cc)))
      (fair-or (late_in t) (idle_in t)
      (fair-map (refuses_or_strays t.table) (refused_one t) fair-late)
      (fair-map (λ p. task.ClosesIdle p.1) (option_and_then (if_kept_enough t) (first_idle t.shared.channels))
      (λ p is k e. absurd cc)))

  fair-out : (o : OutgoingValue) → Fair (outgoing_task o)
  fair-out o = fair-if o.sending.is_new task.Opens task.Writes (λ k e. absurd cc) (λ k e. absurd cc)

  fair-task : Fair (task_of t)
  fair-task =
      fair-unwrap (option_or (option_map outgoing_task t.outgoing) (option_or (came_in t) (ran_out t)))
      (fair-or (option_map outgoing_task t.outgoing) (option_or (came_in t) (ran_out t))
      (fair-map outgoing_task t.outgoing (λ o is. fair-out o)) (fair-or (came_in t) (ran_out t) fair-came fair-ran))

module _ (limits : PoolLimits) (past : List Happening) (s : PoolState) (r : Option Action)
    (full : ask.has_place s.traffic.askers ≡ false → length s.traffic.askers.in_flight ≡ limits.transactions) where
  abbrev later : List Happening
  later = step_of s r ∷ past

  vain : ask.has_place s.traffic.askers ≡ false → (n : ℕ) (f : Option (ℕ × WaitingValue))
      → first_waiting s.traffic.askers ≡ f → option_and_then (if_late s.traffic.clock) f ≡ Some n
      → WaitedInVain limits later n
  vain none n None is e = absurd cc
  vain none n (Some f) is e = by (leb f.1.until s.traffic.clock) refl e
    where
      by : (b : Bool) → leb f.1.until s.traffic.clock ≡ b → cond b (Some f.0) None ≡ Some n → WaitedInVain limits later n
      by true late h =
          let same : f.0 ≡ n = cc in
          record {
            later = [];
            earlier = past;
            pool = s;
            action = r;
            waiting = f.1;
            happened = refl;
            first = is ∙ ap (λ (m : ℕ). Some (m, f.1)) same;
            late = leb-true f.1.until s.traffic.clock late;
            no_place = full none;
          }
      by false late h = absurd cc

  refused : (n : ℕ) → refused_one s.traffic ≡ Some n → WaitedInVain limits later n
  refused n e = by (ask.has_place s.traffic.askers) refl e
    where
      by : (place : Bool) → ask.has_place s.traffic.askers ≡ place
          → cond place None (late_one s.traffic.clock s.traffic.askers) ≡ Some n → WaitedInVain limits later n
      by true is h = absurd cc
      by false is h = vain is n (first_waiting s.traffic.askers) refl h

  taken-fair : (n : ℕ) (to_do : ToDo) → Fair s.traffic (task.TakesUp n to_do) → (e : Option EntryState)
      → (before : Option CurrentState) → IsFair limits later before
      → IsFair limits later (current_after (took_up (option_map (tasks.current_of n to_do) e)) before)
  taken-fair n to_do fair None before w = w
  taken-fair n to_do fair (Some e) before w =
      λ refuse. refused n (fair n (ap (λ (d : ToDo). task.TakesUp n d) refuse))

  goes-on : (n : ℕ) (e : Option EntryState) (before : Option CurrentState) → IsFair limits later before
      → IsFair limits later (current_after (took_up (option_map (tasks.current_of n todo.GoOn) e)) before)
  goes-on n None before w = w
  goes-on n (Some e) before w = λ refuse. absurd cc

  fair-did : (what : Task) → Fair s.traffic what → (before : Option CurrentState) → IsFair limits later before
      → IsFair limits later (current_after (did what s.traffic) before)
  fair-did task.Opens fair before w = by (option_and_then (opening_of s.traffic) s.traffic.outgoing)
    where
      by : (o : Option OpeningValue) → IsFair limits later (current_after (did_open o) before)
      by None = w
      by (Some o) = w
  fair-did task.Writes fair before w = by s.traffic.outgoing
    where
      by : (o : Option OutgoingValue) → IsFair limits later (current_after (did_write o) before)
      by None = w
      by (Some o) = w
  fair-did task.Doubts fair before w = w
  fair-did task.PassesBy fair before w = w
  fair-did (task.Cuts channel) fair before w = w
  fair-did (task.ClosesFailed channel) fair before w = w
  fair-did task.DropsFailure fair before w = w
  fair-did (task.TakesReady n) fair before w = goes-on n (entry_at n s.traffic.table) before w
  fair-did (task.TakesUp n to_do) fair before w = taken-fair n to_do fair (entry_at n s.traffic.table) before w
  fair-did (task.Undates due n) fair before w = w
  fair-did (task.Strays n) fair before w = w
  fair-did (task.Unblocks n) fair before w = w
  fair-did (task.ClosesIdle channel) fair before w = w
  fair-did task.Admits fair before w = by (to_admit s.traffic.askers)
    where
      by : (first : Option (ℕ × WaitingValue)) → IsFair limits later (current_after
          (option_map_or (λ f. took_up (taken_up f.0 todo.GoOn s.traffic.table)) first done.Idle) before)
      by None = w
      by (Some f) = goes-on f.0 (entry_at f.0 s.traffic.table) before w

-- ---- steps

put-none : (what : Doing) (c : CurrentState) (s : PoolState) → (put_by what c s).current ≡ None
put-none PutsBack c s = refl
put-none Rests c s = refl
put-none Ends c s = refl
put-none Refused c s = refl
put-none Hears c s = refl
put-none Doubts c s = refl
put-none Stalls c s = refl
put-none Fails c s = refl
put-none Quits c s = refl
put-none Expires c s = refl
put-none Frees c s = refl
put-none (Leaves place) c s = refl
put-none Draws c s = refl
put-none (BeginsRound place) c s = refl
put-none GivesUp c s = refl
put-none Blocks c s = refl
put-none Sends c s = refl
put-none (Dates due) c s = refl

module _ (limits : PoolLimits) (past : List Happening) (s t : PoolState) (r : Option Action)
    (full : ask.has_place s.traffic.askers ≡ false → length s.traffic.askers.in_flight ≡ limits.transactions)
    (w : IsFair limits past s.current) where
  fair-starts : Starts s r t → IsFair limits (step_of s r ∷ past) t.current
  fair-starts is =
      subst (λ (u : PoolState). IsFair limits (step_of s r ∷ past) u.current) (sym is.1)
      (fair-did limits past s r full (task_of s.traffic) (fair-task s.traffic) s.current (fair-more limits (step_of s r) past s.current w))

  fair-done : (c : CurrentState) → Refuses limits past c → (what : Doing) (after : Option CurrentState)
      → IsDoneTo what (scene_of s c) t.traffic after → IsFair limits (step_of s r ∷ past) after
  fair-done c own what None is = absurd is
  fair-done c own what (Some after) is =
      let same = same-done what (scene_of s c) (record { traffic = t.traffic; current = after }) is in
      λ refuse. vain-more limits (step_of s r) past after.number
      (subst (λ (n : ℕ). WaitedInVain limits past n) (sym same.number) (own (same.to_do refuse)))

  fair-by : (c : CurrentState) → Refuses limits past c → (ends puts : Bool) (what : Doing) → StepsBy ends puts what c s r t
      → IsFair limits (step_of s r ∷ past) t.current
  fair-by c own true puts what is =
      subst (λ (u : PoolState). IsFair limits (step_of s r ∷ past) u.current) (sym is.pool) tt
  fair-by c own false true what is =
      subst (λ (u : PoolState). IsFair limits (step_of s r ∷ past) u.current) (sym is.pool)
      (subst (IsFair limits (step_of s r ∷ past)) (sym (put-none what c s)) tt)
  fair-by c own false false what is = fair-done c own what t.current is.done

  fair-in : (c : Option CurrentState) → s.current ≡ c → StepsIn c s r t → IsFair limits (step_of s r ∷ past) t.current
  fair-in None works is = fair-starts is
  fair-in (Some c) works is =
      fair-by c (subst (IsFair limits past) works w) (is_end (doing c s.traffic)) (is_put (doing c s.traffic))
      (doing c s.traffic) is

  fair-step : Steps s r t → IsFair limits (step_of s r ∷ past) t.current
  fair-step is = by (is_some s.traffic.outgoing) is
    where
      by : (writes : Bool) → StepsAs writes s r t → IsFair limits (step_of s r ∷ past) t.current
      by true steps = fair-starts steps
      by false steps = fair-in s.current refl steps

fair-runs : (options : OptionsValue) (limits : PoolLimits) (seed : List ℕ) (past : List Happening) (s : PoolState)
    → Runs (no_servers options limits seed) past s → IsFair limits past s.current
fair-runs options limits seed _ _ at_first = tt
fair-runs options limits seed _ _ (by_event past s e more) =
    subst (IsFair limits (event_of s e ∷ past)) (sym (current-event s e))
    (fair-more limits (event_of s e) past s.current (fair-runs options limits seed past s more))
fair-runs options limits seed _ _ (by_step past s after r is more) =
    fair-step limits past s after r (is-full options limits seed past s more)
    (fair-runs options limits seed past s more) is

-- ---- what is told as overloaded was refused

not-overloaded : (o : Option Outcome) → told_outcome o ≡ Overloaded → ⊥
not-overloaded None e = cc
not-overloaded (Some (kind.Reply reply)) e = cc
not-overloaded (Some (kind.Cut reply)) e = cc
not-overloaded (Some (kind.Code reply)) e = cc
not-overloaded (Some kind.Unreachable) e = cc
not-overloaded (Some kind.Timeout) e = cc

pub overloaded_only_without_place : OverloadedOnlyWithoutPlace
overloaded_only_without_place options limits seed past s after o runs steps overloaded =
    by-end (told-at_end o s after steps)
  where
    by-end : IsEnd s o → WaitedInVain limits past o.transaction
    by-end end = by (end-for end.current.to_do end.current.number end.current.entry s.traffic end.ends)
      where
        own : Refuses limits past end.current
        own = subst (IsFair limits past) end.works (fair-runs options limits seed past s runs)

        by : (end.current.to_do ≡ todo.Refuse)
            ⊎ IsEnding (doing end.current s.traffic) end.current.number end.current.entry s.traffic
            → WaitedInVain limits past o.transaction
        by (inl refuse) =
            subst (λ (n : ℕ). WaitedInVain limits past n) (sym (ap (λ (x : OverValue). x.transaction) end.told)) (own refuse)
        by (inr ending) =
            absurd (not-overloaded (outcome_of end.current.entry.flying.flight.transaction)
            (sym (ap (λ (x : OverValue). x.outcome) end.told ∙ ap (λ (d : Doing). outcome_in d end.current.entry) ending.ends)
            ∙ overloaded))
