-- Each transaction of the table goes on next, waits for a place, or waits up to its moment.
use Rattle.std.proofs.Common.{◌≡◌, ◌≤◌, ◌+◌, ◌-◌, ◌^◌, min, ℕ, Bool, true, false, cond, ◌||◌, eqb, eqb-true, eq-eqb, List, [], ◌∷◌, ◌++◌, drop, refl, ap, sym, subst, ◌∙◌, true≢false, inl, inr, ◌⊎◌, arith}
use Rattle.std.specs.Prelude.{Option, None, Some, IfSome, slice_get}
use Rattle.std.specs.Ordering.{nat_cmp, is_eq}
use Rattle.std.specs.List.{list_any}
use Rattle.std.specs.Map.{lookup, remove_entry, set_value}
use Rattle.std.specs.BTreeMap.{insert_entry, is_at}
use Rattle.std.specs.Option.{is_some, is_none, option_map_or}
use Rattle.hickory_resolver_askers.specs.Askers.{AskersState, WaitingValue, askers_of, to_admit, place_for, joiner, first_waiting, left_of, forgot_as, with_asker, without_asker}
use Rattle.hickory_resolver_askers.specs.Askers as ask
use Rattle.hickory_resolver_askers.specs.declared.asker.Asker.{Asker}
use Rattle.hickory_resolver_askers.specs.declared.asker.Forgotten.{Forgotten}
use Rattle.hickory_resolver_askers.specs.declared.asker.Forgotten.TheVariants.{Nobody, OthersAsk, Last}
use Rattle.hickory_resolver_askers.specs.declared.asker.Place.{Place}
use Rattle.hickory_resolver_askers.specs.declared.asker.Place.TheVariants.{InFlight, Waits, Overloaded}
use Rattle.hickory_resolver_channels.specs.Channels.{channel_at}
use Rattle.hickory_resolver_channels.specs.declared.channel.Channel.{Channel}
use Rattle.hickory_resolver_config.specs.ResolverConfig.{OptionsValue}
use Rattle.hickory_resolver_flights.specs.Flights.{changed}
use Rattle.hickory_resolver_flights.specs.declared.heard.Heard.{Heard}
use Rattle.hickory_resolver_flights.specs.declared.heard.Heard.TheVariants.{Nothing, OtherLetters, OptRefused, Reply}
use Rattle.hickory_resolver_steps.specs.Ending.{try_at_place}
use Rattle.hickory_resolver_steps.specs.declared.flying.SentTry.{SentTry}
use Rattle.hickory_resolver_transactions.proofs.Waiting.{never_waits_for_ever}
use Rattle.hickory_resolver_transactions.specs.Laws.{WaitsForSomething}
use Rattle.hickory_resolver_transactions.specs.Transaction.{TransactionState, next_deadline, outcome_of, wanted, freed}
use Rattle.hickory_resolver_transactions.specs.declared.outcome.Outcome.{Outcome}
use Rattle.hickory_resolver_transactions.specs.declared.settings.Settings.{Settings}
use Rattle.hickory_resolver_tries.specs.Question.{question_of}
use Rattle.hickory_resolver_tries.specs.declared.pool_question.PoolQuestion.{PoolQuestion}
use Rattle.hickory_resolver_traffic.specs.Doing.{Scene, IsDone, doing, doing_for, by_failure, is_empty, same_moment, doubts_message, one_freed, after_first, heard_of_first, hears_first, hears_octets, hears, doubts, stalls_on, stalls, fails_on, after_failed, fails, act_on, leaving_at, leave_at, closed_at, freed_if, leaves, quits_at, after_quit, quits, place_on, with_to_do, frees, then_do, changing, is_stream}
use Rattle.hickory_resolver_traffic.specs.Groups.{GroupListState, list_at}
use Rattle.hickory_resolver_traffic.specs.Inbox.{MessageValue, first_message, first_failure}
use Rattle.hickory_resolver_traffic.specs.Table.{CurrentState, EntryState, entry_at, without_blocked}
use Rattle.hickory_resolver_traffic.specs.Tasks.{task_of, after_task, closed, freed_by, freed_by_first, without_taken}
use Rattle.hickory_resolver_traffic.specs.Traffic.{TrafficState, ticked, begun_as, begun_with, entry_of, came_on, failed_on, forgotten, joined, begun, until_of, ready_after}
use Rattle.hickory_resolver_traffic.specs.declared.acting.ServerAct.TheVariants.{Fail}
use Rattle.hickory_resolver_traffic.specs.declared.doing.Doing.{Doing}
use Rattle.hickory_resolver_traffic.specs.declared.doing.Doing.TheVariants as doings
use Rattle.hickory_resolver_traffic.specs.declared.entry.ToDo.{ToDo}
use Rattle.hickory_resolver_traffic.specs.declared.entry.ToDo.TheVariants as todo
use Rattle.hickory_resolver_traffic.specs.declared.inbox.ChannelFailure.{ChannelFailure}
use Rattle.hickory_resolver_traffic.specs.declared.inbox.Failure.{Failure}
use Rattle.hickory_resolver_traffic.specs.declared.inbox.Failure.TheVariants as failure
use Rattle.hickory_resolver_traffic.specs.declared.tasks.Task.{Task}
use Rattle.hickory_resolver_traffic.specs.declared.tasks.Task.TheVariants as task
use Rattle.hickory_resolver_pool.specs.Laws.{PoolEvent, time_passes, group_has, is_asked, octets_come, channel_fails, is_forgotten, after_event}
use Rattle.hickory_resolver_pool.specs.Pool.{PoolState, AskedOf, no_servers, settings_for, list_of, joiner_of, join_in, join_or_begin, ask_of, after_asking, scene_of, is_put, put_by}
use Rattle.hickory_resolver_pool.specs.Pool as pool
use Rattle.hickory_resolver_pool.specs.declared.limits.PoolLimits.{PoolLimits}
use Rattle.hickory_resolver_pool_theorems.specs.Runs.{Happening, Runs, at_first, by_event, by_step}
use Rattle.hickory_resolver_pool_theorems.proofs.EachEntry.{HoldOfEach, AtCurrent, Begins, each-step, each-event}
use Rattle.hickory_resolver_pool_theorems.proofs.Keys.{Apart, nat-self, at-is, found-inserted, found-set, others-inserted, others-set, others-removed, gone-removed}
use Rattle.hickory_resolver_pool_theorems.proofs.KeySets.{or-true, or-left, or-split}
use Rattle.hickory_resolver_pool_theorems.proofs.Numbers.{AreApart, apart-runs}
use Rattle.hickory_resolver_pool_theorems.proofs.PutAway.{WhyGo, why-going}
use Rattle.hickory_resolver_pool_theorems.proofs.Scenes.{same-done}
use Rattle.hickory_resolver_pool_theorems.proofs.SettingsKept.{settings-done}
use Rattle.hickory_resolver_pool_theorems.proofs.Shapes.{IsStep, goes_out, begins, does, puts, ends, step-is}
use Rattle.hickory_resolver_pool_theorems.proofs.Tasking.{TaskIs, task-is}

-- ---- at least one try may wait at once

abbrev MaySend : ℕ → EntryState → Type 0
MaySend n e = 1 ≤ e.flying.flight.transaction.settings.concurrent

may-new : (s : PoolState) (e : PoolEvent) → Begins MaySend s e
may-new s (time_passes at) = tt
may-new s (group_has group servers) = tt
may-new s (octets_come channel octets at) = tt
may-new s (channel_fails f at) = tt
may-new s (is_forgotten a) = tt
may-new s (is_asked group query request dnssec at) = λ list l at_list there said. omega arith

pub may-runs : (options : OptionsValue) (limits : PoolLimits) (seed : List ℕ) (past : List Happening) (s : PoolState)
    → Runs (no_servers options limits seed) past s → HoldOfEach MaySend s
may-runs options limits seed _ _ at_first = record { table = tt; worked = tt }
may-runs options limits seed _ _ (by_event past s e more) =
    each-event MaySend s e (may-runs options limits seed past s more) (may-new s e)
may-runs options limits seed _ _ (by_step past s after r is more) =
    each-step MaySend
    (λ what x y done w.
    let same = ap (λ (v : Settings). v.concurrent) (settings-done what x y done) in omega (arith, same, w))
    s after r (may-runs options limits seed past s more) is

-- ---- those that go on next stay so

abbrev IsReady : ℕ → List ℕ → Type 0
IsReady n ready = list_any (eqb n) ready ≡ true

ready-pushed : (n k : ℕ) (xs : List ℕ) → IsReady n xs → IsReady n (xs ++ k ∷ [])
ready-pushed n k [] h = absurd (true≢false (sym h))
ready-pushed n k (x ∷ xs) h = by (ready-pushed n k xs) (or-split (eqb n x) (list_any (eqb n) xs) h)
  where
    by : (IsReady n xs → IsReady n (xs ++ k ∷ [])) → (eqb n x ≡ true) ⊎ IsReady n xs → IsReady n ((x ∷ xs) ++ k ∷ [])
    by more (inl e) = or-left (eqb n x) (list_any (eqb n) (xs ++ k ∷ [])) e
    by more (inr e) = or-true (eqb n x) (list_any (eqb n) (xs ++ k ∷ [])) (more e)

ready-own : (n : ℕ) (xs : List ℕ) → IsReady n (xs ++ n ∷ [])
ready-own n [] = or-left (eqb n n) false (eq-eqb n n refl)
ready-own n (x ∷ xs) = or-true (eqb n x) (list_any (eqb n) (xs ++ n ∷ [])) (ready-own n xs)

ready-dropped : (n k : ℕ) (xs : List ℕ) → slice_get xs 0 ≡ Some k → (n ≡ k → ⊥) → IsReady n xs → IsReady n (drop 1 xs)
ready-dropped n k [] is apart h = h
ready-dropped n k (x ∷ xs) is apart h = by (or-split (eqb n x) (list_any (eqb n) xs) h)
  where
    by : (eqb n x ≡ true) ⊎ IsReady n xs → IsReady n xs
    by (inl e) = let same : x ≡ k = cc in absurd (apart (eqb-true n x e ∙ same))
    by (inr e) = e

-- ---- those that wait for a place stay so

abbrev Line : Type 0
Line = List (ℕ × WaitingValue)

abbrev InLine : ℕ → Line → Type 0
InLine n line = is_some (lookup (is_at (nat_cmp n)) line) ≡ true

number-or : (P : Type 0) (q k : ℕ) → (q ≡ k → P) → (is_at (nat_cmp q) k ≡ false → P) → P
number-or P q k one two = by (is_at (nat_cmp q) k) refl
  where
    by : (b : Bool) → is_at (nat_cmp q) k ≡ b → P
    by true is = one (at-is q k is)
    by false is = two is

line-inserted : (n k : ℕ) (v : WaitingValue) (es : Line) → InLine n es → InLine n (insert_entry nat_cmp es k v)
line-inserted n k v es h =
    number-or (InLine n (insert_entry nat_cmp es k v)) n k
    (λ same. ap (λ (m : ℕ). is_some (lookup (is_at (nat_cmp m)) (insert_entry nat_cmp es k v))) same
    ∙ ap (λ (o : Option WaitingValue). is_some o) (found-inserted nat_cmp nat-self k v es))
    (λ apart. ap (λ (o : Option WaitingValue). is_some o) (others-inserted n k apart v es) ∙ h)

line-set : (n k : ℕ) (old v : WaitingValue) (es : Line) → lookup (is_at (nat_cmp k)) es ≡ Some old → InLine n es
    → InLine n (set_value (is_at (nat_cmp k)) es v)
line-set n k old v es at h =
    number-or (InLine n (set_value (is_at (nat_cmp k)) es v)) n k
    (λ same. ap (λ (m : ℕ). is_some (lookup (is_at (nat_cmp m)) (set_value (is_at (nat_cmp k)) es v))) same
    ∙ ap (λ (o : Option WaitingValue). is_some o) (found-set (is_at (nat_cmp k)) es old v at))
    (λ apart. ap (λ (o : Option WaitingValue). is_some o) (others-set n k apart v es) ∙ h)

line-removed : (n k : ℕ) (es : Line) → (n ≡ k → ⊥) → InLine n es → InLine n (remove_entry (is_at (nat_cmp k)) es)
line-removed n k es other h =
    number-or (InLine n (remove_entry (is_at (nat_cmp k)) es)) n k (λ same. absurd (other same))
    (λ apart. ap (λ (o : Option WaitingValue). is_some o) (others-removed n k apart es) ∙ h)

line-dropped : (n : ℕ) (f : ℕ × WaitingValue) (es : Line) → slice_get es 0 ≡ Some f → (n ≡ f.0 → ⊥) → InLine n es
    → InLine n (drop 1 es)
line-dropped n f [] is other h = h
line-dropped n f (x ∷ xs) is other h = by (is_at (nat_cmp n) x.0) refl h
  where
    by : (b : Bool) → is_at (nat_cmp n) x.0 ≡ b → is_some (cond b (Some x.1) (lookup (is_at (nat_cmp n)) xs)) ≡ true
        → InLine n xs
    by true at g =
        let same : ◌≡◌ {A = ℕ × WaitingValue} x f = cc in
        absurd (other (at-is n x.0 at ∙ ap (λ (p : ℕ × WaitingValue). p.0) same))
    by false at g = g

-- ---- what holds of each

pub data IsAlive (ready : List ℕ) (line : Line) (n : ℕ) (e : EntryState) : Type 0 where
  is_next : IsReady n ready → IsAlive ready line n e
  is_in_line : InLine n line → e.due ≡ None → IsAlive ready line n e
  is_settled : (due : ℕ) → next_deadline e.flying.flight.transaction ≡ Some due → e.due ≡ Some due → IsAlive ready line n e

abbrev pub AreAlive : List ℕ → Line → List (ℕ × EntryState) → Type 0
AreAlive ready line es = (n : ℕ) (e : EntryState) → lookup (is_at (nat_cmp n)) es ≡ Some e → IsAlive ready line n e

abbrev pub OfTraffic : TrafficState → Type 0
OfTraffic t = AreAlive t.ready t.askers.waiting t.table.entries

alive-as : (ready after : List ℕ) (line later : Line) (n : ℕ) (e : EntryState) → (IsReady n ready → IsReady n after)
    → (InLine n line → InLine n later ⊎ IsReady n after) → IsAlive ready line n e → IsAlive after later n e
alive-as ready after line later n e one two (is_next h) = is_next (one h)
alive-as ready after line later n e one two (is_in_line h none) = by (two h)
  where
    by : InLine n later ⊎ IsReady n after → IsAlive after later n e
    by (inl k) = is_in_line k none
    by (inr k) = is_next k
alive-as ready after line later n e one two (is_settled due nd own) = is_settled due nd own

-- another state with the same of these
alive-same : (t u : TrafficState) → u.ready ≡ t.ready → u.askers.waiting ≡ t.askers.waiting
    → u.table.entries ≡ t.table.entries → OfTraffic t → OfTraffic u
alive-same t u ready line entries w =
    subst (λ (x : List ℕ). AreAlive x u.askers.waiting u.table.entries) (sym ready)
    (subst (λ (x : Line). AreAlive t.ready x u.table.entries) (sym line)
    (subst (λ (x : List (ℕ × EntryState)). AreAlive t.ready t.askers.waiting x) (sym entries) w))

-- ---- one is taken out of the table

some-in : (n k : ℕ) (e : EntryState) (es : List (ℕ × EntryState))
    → lookup (is_at (nat_cmp n)) (remove_entry (is_at (nat_cmp k)) es) ≡ Some e → is_at (nat_cmp n) k ≡ false
    → lookup (is_at (nat_cmp n)) es ≡ Some e
some-in n k e es h apart = sym (others-removed n k apart es) ∙ h

module _ (t : TrafficState) (w : OfTraffic t) where
  -- all but one
  alive-without : (k : ℕ) (ready : List ℕ) (line : Line) → Apart t.table.entries
      → ((n : ℕ) → (n ≡ k → ⊥) → IsReady n t.ready → IsReady n ready)
      → ((n : ℕ) → (n ≡ k → ⊥) → InLine n t.askers.waiting → InLine n line)
      → AreAlive ready line (remove_entry (is_at (nat_cmp k)) t.table.entries)
  alive-without k ready line apart one two n e h =
      number-or (IsAlive ready line n e) n k
      (λ same.
      let gone : lookup (is_at (nat_cmp n)) (remove_entry (is_at (nat_cmp k)) t.table.entries) ≡ None =
      ap (λ (m : ℕ). lookup (is_at (nat_cmp m)) (remove_entry (is_at (nat_cmp k)) t.table.entries)) same
      ∙ gone-removed k t.table.entries apart in
      let no_such : None ≡ Some e = sym gone ∙ h in absurd cc)
      (λ other.
      let distinct : n ≡ k → ⊥ = λ same.
      true≢false (sym (ap (λ (m : ℕ). is_at (nat_cmp n) m) (sym same) ∙ ap is_eq (nat-self n)) ∙ other) in
      alive-as t.ready ready t.askers.waiting line n e (one n distinct) (λ h. inl (two n distinct h))
      (w n e (some-in n k e t.table.entries h other)))

  -- what one that is in no table has is no matter
  alive-others : (k : ℕ) (line : Line) → entry_at k t.table ≡ None
      → ((n : ℕ) → (n ≡ k → ⊥) → InLine n t.askers.waiting → InLine n line) → AreAlive t.ready line t.table.entries
  alive-others k line none two n e h =
      alive-as t.ready t.ready t.askers.waiting line n e (λ r. r)
      (λ l. inl (two n (λ same.
      let no_such : None ≡ Some e = sym (ap (λ (m : ℕ). entry_at m t.table) same ∙ none) ∙ h in absurd cc) l)) (w n e h)

  one_freed-same : (u : TrafficState) → OfTraffic u → OfTraffic (one_freed u)
  one_freed-same u v = by (is_empty u.table.blocked)
    where
      by : (empty : Bool) → OfTraffic (cond {A = TrafficState} empty u (record u { freed = min (u.freed + 1) (2 ^ 64 - 1) }))
      by true = v
      by false = v

  freed_first-same : (u : TrafficState) → OfTraffic u → OfTraffic (freed_by_first u)
  freed_first-same u v = by (first_failure u.inbox)
    where
      why : (f : Failure) → OfTraffic (freed_by f u)
      why failure.Local = v
      why failure.Refused = one_freed-same u v
      why failure.Unreachable = one_freed-same u v
      why failure.Closed = one_freed-same u v

      by : (f : Option ChannelFailure) → OfTraffic (option_map_or (λ g. freed_by g.why u) f u)
      by None = v
      by (Some f) = why f.why

  pub alive-task : Apart t.table.entries → (what : Task) → TaskIs t what → OfTraffic (after_task what t)
  alive-task apart task.Opens is = w
  alive-task apart task.Writes is = w
  alive-task apart task.Doubts is = by (first_message t.inbox)
    where
      by : (m : Option MessageValue) → OfTraffic (option_map_or (doubts_message t) m t)
      by None = w
      by (Some m) = w
  alive-task apart task.PassesBy is = w
  alive-task apart (task.Cuts channel) is = w
  alive-task apart (task.ClosesFailed channel) is = freed_first-same (closed channel t) w
  alive-task apart task.DropsFailure is = w
  alive-task apart (task.TakesReady n) is =
      alive-without n (drop 1 t.ready) t.askers.waiting apart
      (λ m other h. ready-dropped m n t.ready is.1 other h) (λ m other h. h)
  alive-task apart (task.TakesUp n to_do) is =
      alive-without n t.ready t.askers.waiting apart (λ m other h. h) (λ m other h. h)
  alive-task apart (task.Undates due n) is = w
  alive-task apart (task.Strays n) is =
      alive-others n (remove_entry (is_at (nat_cmp n)) t.askers.waiting) (none-at (entry_at n t.table) is.2)
      (λ m other h. line-removed m n t.askers.waiting other h)
    where
      none-at : (o : Option EntryState) → is_some o ≡ false → o ≡ None
      none-at None h = refl
      none-at (Some e) h = absurd (true≢false h)
  alive-task apart (task.Unblocks n) is = w
  alive-task apart (task.ClosesIdle channel) is = one_freed-same (closed channel t) w
  alive-task apart task.Admits is = by (to_admit t.askers) refl
    where
      waits : (f : ℕ × WaitingValue) (b : Bool) → cond b (first_waiting t.askers) None ≡ Some f → first_waiting t.askers ≡ Some f
      waits f true h = h
      waits f false h = absurd cc

      by : (f : Option (ℕ × WaitingValue)) → to_admit t.askers ≡ f
          → OfTraffic (option_map_or (λ p. without_taken p.0 (record t { askers = ask.admitted t.askers })) f t)
      by None at = w
      by (Some f) at =
          alive-without f.0 t.ready (ask.admitted t.askers).waiting apart (λ m other h. h)
          (λ m other h. subst (λ (line : Line). InLine m line)
          (sym (ap (λ (o : Option (ℕ × WaitingValue)). (option_map_or (ask.admitted_one t.askers) o t.askers).waiting) at))
          (line-dropped m f t.askers.waiting (waits f (ask.has_place t.askers) at) other h))

-- ---- what is done with a transaction leaves who goes on next

abbrev ready_in : Scene → List ℕ
ready_in x = x.traffic.ready

ready-hears : (x : Scene) → ready_in (hears x) ≡ ready_in x
ready-hears x = after (heard_of_first x) (hears_first x) ∙ by (first_message x.traffic.inbox)
  where
    after : (heard : Option Heard) (z : Scene) → ready_in (after_first heard z) ≡ ready_in z
    after None z = refl
    after (Some Nothing) z = refl
    after (Some OtherLetters) z = refl
    after (Some OptRefused) z = refl
    after (Some (Reply outcome)) z = refl

    by : (m : Option MessageValue) → ready_in (option_map_or (hears_octets x) m x) ≡ ready_in x
    by None = refl
    by (Some m) = refl

ready-doubts : (x : Scene) → ready_in (doubts x) ≡ ready_in x
ready-doubts x = by (first_message x.traffic.inbox)
  where
    by : (m : Option MessageValue) → (option_map_or (doubts_message x.traffic) m x.traffic).ready ≡ ready_in x
    by None = refl
    by (Some m) = refl

ready-stalls : (x : Scene) → ready_in (stalls x) ≡ ready_in x
ready-stalls x = by (first_failure x.traffic.inbox)
  where
    by : (f : Option ChannelFailure) → ready_in (option_map_or (stalls_on x) f (with_to_do todo.GoOn x)) ≡ ready_in x
    by None = refl
    by (Some f) = refl

ready-fails : (x : Scene) → ready_in (fails x) ≡ ready_in x
ready-fails x = by (first_failure x.traffic.inbox)
  where
    after : (f : ChannelFailure) (b : Bool) → ready_in (after_failed b (act_on (Fail f.channel) [] x)) ≡ ready_in x
    after f true = refl
    after f false = refl

    by : (f : Option ChannelFailure) → ready_in (option_map_or (fails_on x) f (with_to_do todo.GoOn x)) ≡ ready_in x
    by None = refl
    by (Some f) = after f (is_stream f.channel x.traffic.shared.channels)

ready-leave_at : (place : ℕ) (x : Scene) → ready_in (leave_at place x) ≡ ready_in x
ready-leave_at place x = by (try_at_place x.current.entry.flying place)
  where
    by : (one : Option SentTry) → ready_in (option_map_or (leaving_at place x) one x) ≡ ready_in x
    by None = refl
    by (Some one) = refl

ready-leaves : (place : ℕ) (x : Scene) → ready_in (leaves place x) ≡ ready_in x
ready-leaves place x = by (closed_at place x) (leave_at place x) ∙ ready-leave_at place x
  where
    by : (shut : Option ℕ) (y : Scene) → ready_in (freed_if shut y) ≡ ready_in y
    by None y = refl
    by (Some channel) y = empty (is_empty y.traffic.table.blocked)
      where
        empty : (b : Bool)
            → (cond {A = TrafficState} b y.traffic (record y.traffic { freed = min (y.traffic.freed + 1) (2 ^ 64 - 1) })).ready
            ≡ ready_in y
        empty true = refl
        empty false = refl

ready-quits : (x : Scene) → ready_in (quits x) ≡ ready_in x
ready-quits x = by (place_on x)
  where
    after : (shut : Option ℕ) (z : Scene) → ready_in (after_quit shut z) ≡ ready_in z
    after None z = refl
    after (Some channel) z = refl

    by : (place : Option ℕ) → ready_in (option_map_or (quits_at x) place (with_to_do todo.PutBack x)) ≡ ready_in x
    by None = refl
    by (Some place) = after (closed_at place x) (leave_at place x) ∙ ready-leave_at place x

ready-frees : (x : Scene) → ready_in (frees x) ≡ ready_in x
ready-frees x = by (is_some (wanted (changed freed x.current.entry.flying.flight).transaction))
  where
    by : (wants : Bool) → ready_in (cond {A = Scene} wants
        (record {
          traffic = x.traffic;
          current = then_do todo.GoOn (changing (changed freed) x.current);
        })
        (record {
          traffic = record x.traffic { table = without_blocked x.current.number x.traffic.table };
          current = then_do todo.GoOn (changing (changed freed) x.current);
        })) ≡ ready_in x
    by true = refl
    by false = refl

ready-done : (what : Doing) (x y : Scene) → IsDone what x y → ready_in y ≡ ready_in x
ready-done doings.Hears x y is = ap ready_in is ∙ ready-hears x
ready-done doings.Doubts x y is = ap ready_in is ∙ ready-doubts x
ready-done doings.Stalls x y is = ap ready_in is ∙ ready-stalls x
ready-done doings.Fails x y is = ap ready_in is ∙ ready-fails x
ready-done doings.Quits x y is = ap ready_in is ∙ ready-quits x
ready-done (doings.Leaves place) x y is = ap ready_in is ∙ ready-leaves place x
ready-done doings.Frees x y is = ap ready_in is ∙ ready-frees x
ready-done doings.Expires x y is = ap ready_in is
ready-done doings.Draws x y is = ap ready_in is
ready-done (doings.BeginsRound place) x y is = ap ready_in is.after
ready-done doings.GivesUp x y is = ap ready_in is
ready-done doings.Blocks x y is = ap ready_in is
ready-done doings.Sends x y is = ap ready_in is
ready-done (doings.Dates due) x y is = ap ready_in is
ready-done doings.PutsBack x y is = ap ready_in is
ready-done doings.Refused x y is = ap ready_in is
ready-done doings.Ends x y is = ap ready_in is
ready-done doings.Rests x y is = ap ready_in is

-- ---- it is put away

-- what rests waits up to a moment, which is noted
settled-at : (e : EntryState) (n : ℕ) (t : TrafficState) → MaySend n e → WhyGo e n t doings.Rests
    → (due : ℕ) × (next_deadline e.flying.flight.transaction ≡ Some due) × (e.due ≡ Some due)
settled-at e n t may why = by (next_deadline tr) refl (waits (never_waits_for_ever tr may none))
  where
    tr : TransactionState
    tr = e.flying.flight.transaction

    no_outcome : (o : Option Outcome) (b : Bool) → (is_some o || b) ≡ false → o ≡ None
    no_outcome None b h = refl
    no_outcome (Some o) b h = absurd (true≢false h)

    none : outcome_of tr ≡ None
    none = no_outcome (outcome_of tr) (is_none (askers_of n t.askers)) why.1

    waits : WaitsForSomething tr → is_some (next_deadline tr) ≡ true
    waits (inl h) = absurd (true≢false (sym h ∙ why.2))
    waits (inr (inl h)) = absurd (true≢false (sym h ∙ why.3))
    waits (inr (inr h)) = h

    same : (d : ℕ) (o : Option ℕ) → same_moment (Some d) o ≡ true → o ≡ Some d
    same d None h = absurd (true≢false (sym h))
    same d (Some m) h = ap (λ (k : ℕ). Some k) (sym (eqb-true d m h))

    by : (o : Option ℕ) → next_deadline tr ≡ o → is_some o ≡ true
        → (due : ℕ) × (next_deadline tr ≡ Some due) × (e.due ≡ Some due)
    by None is h = absurd (true≢false (sym h))
    by (Some d) is h =
        (d, is, same d e.due (sym (ap (λ (o : Option ℕ). same_moment o e.due) is) ∙ why.0))

module _ (s : PoolState) (w : OfTraffic s.traffic) (c : CurrentState) (may : MaySend c.number c.entry) where
  -- all others, and the one that is put in
  alive-put : (ready : List ℕ) → ((n : ℕ) → IsReady n s.traffic.ready → IsReady n ready)
      → IsAlive ready s.traffic.askers.waiting c.number c.entry
      → AreAlive ready s.traffic.askers.waiting (insert_entry nat_cmp s.traffic.table.entries c.number c.entry)
  alive-put ready more own n e h =
      number-or (IsAlive ready s.traffic.askers.waiting n e) n c.number
      (λ same.
      let found : lookup (is_at (nat_cmp n)) (insert_entry nat_cmp s.traffic.table.entries c.number c.entry) ≡ Some c.entry =
      ap (λ (m : ℕ). lookup (is_at (nat_cmp m)) (insert_entry nat_cmp s.traffic.table.entries c.number c.entry)) same
      ∙ found-inserted nat_cmp nat-self c.number c.entry s.traffic.table.entries in
      let both : Some c.entry ≡ Some e = sym found ∙ h in
      let is : c.entry ≡ e = cc in
      subst (λ (m : ℕ). IsAlive ready s.traffic.askers.waiting m e) (sym same)
      (subst (λ (x : EntryState). IsAlive ready s.traffic.askers.waiting c.number x) is own))
      (λ other.
      alive-as s.traffic.ready ready s.traffic.askers.waiting s.traffic.askers.waiting n e (more n) (λ l. inl l)
      (w n e (sym (others-inserted n c.number other c.entry s.traffic.table.entries) ∙ h)))

  abbrev Puts : Doing → Type 0
  Puts what = is_put what ≡ true → OfTraffic (put_by what c s).traffic

  put-off : OfTraffic (put_by doings.PutsBack c s).traffic
  put-off =
      alive-put (s.traffic.ready ++ c.number ∷ []) (λ n h. ready-pushed n c.number s.traffic.ready h)
      (is_next (ready-own c.number s.traffic.ready))

  put-going : (what : Doing) → WhyGo c.entry c.number s.traffic what → Puts what
  put-going doings.Rests why h =
      let at = settled-at c.entry c.number s.traffic may why in
      alive-put s.traffic.ready (λ n r. r) (is_settled at.0 at.1 at.2)
  put-going doings.PutsBack why h = absurd why
  put-going doings.Hears why h = absurd why
  put-going doings.Doubts why h = absurd why
  put-going doings.Stalls why h = absurd why
  put-going doings.Fails why h = absurd why
  put-going doings.Quits why h = absurd why
  put-going doings.Expires why h = absurd (true≢false (sym h))
  put-going doings.Frees why h = absurd why
  put-going doings.Refused why h = absurd why
  put-going (doings.Leaves place) why h = absurd (true≢false (sym h))
  put-going doings.Ends why h = absurd (true≢false (sym h))
  put-going doings.Draws why h = absurd (true≢false (sym h))
  put-going (doings.BeginsRound place) why h = absurd (true≢false (sym h))
  put-going doings.GivesUp why h = absurd (true≢false (sym h))
  put-going doings.Blocks why h = absurd (true≢false (sym h))
  put-going doings.Sends why h = absurd (true≢false (sym h))
  put-going (doings.Dates due) why h = absurd (true≢false (sym h))

  put-to_do : (d : ToDo) → Puts (doing_for d c.number c.entry s.traffic)
  put-to_do todo.GoOn = put-going (doing_for todo.GoOn c.number c.entry s.traffic) (why-going c.entry c.number s.traffic)
  put-to_do todo.Hear = λ h. absurd (true≢false (sym h))
  put-to_do todo.Doubt = λ h. absurd (true≢false (sym h))
  put-to_do todo.Fail = by (first_failure s.traffic.inbox)
    where
      why : (f : Failure) → Puts (by_failure f)
      why failure.Local = λ h. absurd (true≢false (sym h))
      why failure.Refused = λ h. absurd (true≢false (sym h))
      why failure.Unreachable = λ h. absurd (true≢false (sym h))
      why failure.Closed = λ h. absurd (true≢false (sym h))

      by : (f : Option ChannelFailure) → Puts (option_map_or (λ g. by_failure g.why) f doings.PutsBack)
      by None = λ h. put-off
      by (Some f) = why f.why
  put-to_do todo.Quit = λ h. absurd (true≢false (sym h))
  put-to_do todo.PutBack = λ h. put-off
  put-to_do todo.Expire = λ h. absurd (true≢false (sym h))
  put-to_do todo.Free = λ h. absurd (true≢false (sym h))
  put-to_do todo.Refuse = λ h. absurd (true≢false (sym h))

-- ---- events

alive-joined : (n at : ℕ) (t : TrafficState) → OfTraffic t → OfTraffic (joined n at t)
alive-joined n at t w = by (joiner n t.askers)
  where
    line : (a : AskersState) (m : ℕ) → InLine m a.waiting → InLine m (ask.joined n a).waiting
    line a m h = on (ask.is_flying n a) (ask.is_waiting n a)
      where
        pushed : (o : Option WaitingValue) → lookup (is_at (nat_cmp n)) a.waiting ≡ o
            → InLine m (option_map_or (λ v. set_value (is_at (nat_cmp n)) a.waiting (with_asker a.next_asker v)) o a.waiting)
        pushed None is = h
        pushed (Some v) is = line-set m n v (with_asker a.next_asker v) a.waiting is h

        on : (flying waiting : Bool)
            → InLine m (cond flying (ask.joined_flying n a) (cond waiting (ask.joined_waiting n a) a)).waiting
        on true waiting = h
        on false true = pushed (lookup (is_at (nat_cmp n)) a.waiting) refl
        on false false = h

    by : (a : Option Asker) → OfTraffic (option_map_or (λ b. ticked at (record t { askers = ask.joined n t.askers })) a t)
    by None = w
    by (Some a) = λ m e h.
        alive-as t.ready t.ready t.askers.waiting (ask.joined n t.askers).waiting m e (λ r. r)
        (λ l. inl (line t.askers m l)) (w m e h)

module _ (t : TrafficState) (w : OfTraffic t) (list : ℕ) (question : PoolQuestion) (settings : Settings) (at : ℕ) where
  abbrev k : ℕ
  k = t.askers.next_transaction

  -- the new one, and all others
  alive-entered : (e : EntryState) (ready : List ℕ) (line : Line) → ((n : ℕ) → IsReady n t.ready → IsReady n ready)
      → ((n : ℕ) → InLine n t.askers.waiting → InLine n line) → IsAlive ready line k e
      → AreAlive ready line (insert_entry nat_cmp t.table.entries k e)
  alive-entered e ready line one two own n f h =
      number-or (IsAlive ready line n f) n k
      (λ same.
      let found : lookup (is_at (nat_cmp n)) (insert_entry nat_cmp t.table.entries k e) ≡ Some e =
      ap (λ (m : ℕ). lookup (is_at (nat_cmp m)) (insert_entry nat_cmp t.table.entries k e)) same
      ∙ found-inserted nat_cmp nat-self k e t.table.entries in
      let both : Some e ≡ Some f = sym found ∙ h in
      let is : e ≡ f = cc in
      subst (λ (m : ℕ). IsAlive ready line m f) (sym same) (subst (λ (x : EntryState). IsAlive ready line k x) is own))
      (λ other.
      alive-as t.ready ready t.askers.waiting line n f (one n) (λ l. inl (two n l))
      (w n f (sym (others-inserted n k other e t.table.entries) ∙ h)))

  alive-begun : OfTraffic (begun list question settings at t)
  alive-begun = by (list_at list t.groups)
    where
      line-is : (p : Place) → place_for t.askers ≡ p
          → (ask.begun (until_of at t) t.askers).waiting ≡ (ask.begun_in p (until_of at t) t.askers).waiting
      line-is p is = ap (λ (q : Place). (ask.begun_in q (until_of at t) t.askers).waiting) is

      place : (l : GroupListState) (p : Place) → place_for t.askers ≡ p
          → OfTraffic (begun_as p (entry_of list question settings l) list at t)
      place l Overloaded is = w
      place l InFlight is =
          subst (λ (line : Line). AreAlive (t.ready ++ k ∷ []) line (insert_entry nat_cmp t.table.entries k (entry_of list question settings l)))
          (sym (line-is InFlight is))
          (alive-entered (entry_of list question settings l) (t.ready ++ k ∷ []) t.askers.waiting
          (λ n h. ready-pushed n k t.ready h) (λ n h. h) (is_next (ready-own k t.ready)))
      place l Waits is =
          let v : WaitingValue = record { until = until_of at t; askers = t.askers.next_asker ∷ [] } in
          subst (λ (line : Line). AreAlive t.ready line (insert_entry nat_cmp t.table.entries k (entry_of list question settings l)))
          (sym (line-is Waits is))
          (alive-entered (entry_of list question settings l) t.ready (insert_entry nat_cmp t.askers.waiting k v) (λ n h. h)
          (λ n h. line-inserted n k v t.askers.waiting h)
          (is_in_line (ap (λ (o : Option WaitingValue). is_some o) (found-inserted nat_cmp nat-self k v t.askers.waiting)) refl))

      by : (l : Option GroupListState) → OfTraffic (option_map_or (begun_with list question settings at t) l (ticked at t))
      by None = w
      by (Some l) = place l (place_for t.askers) refl

alive-asked : (key : AskedOf) (settings : Settings) (at : ℕ) (s : PoolState) → OfTraffic s.traffic
    → OfTraffic (ask_of key settings at s).traffic
alive-asked key settings at s w = by (joiner_of key s)
  where
    joins : (n : Option ℕ) → OfTraffic (option_map_or (join_in at s) n s).traffic
    joins None = w
    joins (Some n) = alive-joined n at s.traffic w

    by : (a : Option Asker) → OfTraffic (join_or_begin a key settings at s).traffic
    by None = alive-begun s.traffic w key.0 key.1 settings at
    by (Some a) = joins (pool.number_of key s.questions)

alive-asks : (list : Option ℕ) (question : PoolQuestion) (settings : Settings) (at : ℕ) (s : PoolState) → OfTraffic s.traffic
    → OfTraffic (after_asking list question settings at s).traffic
alive-asks None question settings at s w = w
alive-asks (Some list) question settings at s w = alive-asked (list, question) settings at s w

alive-forgotten : (a : Asker) (t : TrafficState) → OfTraffic t → OfTraffic (forgotten a t)
alive-forgotten a t w = by (left_of a t.askers)
  where
    removed : (m : ℕ) → InLine m t.askers.waiting → (o : Option WaitingValue)
        → lookup (is_at (nat_cmp a.transaction)) t.askers.waiting ≡ o
        → InLine m (option_map_or (λ v. set_value (is_at (nat_cmp a.transaction)) t.askers.waiting (without_asker a.number v)) o t.askers.waiting)
    removed m h None is = h
    removed m h (Some v) is = line-set m a.transaction v (without_asker a.number v) t.askers.waiting is h

    by : (f : Forgotten) → AreAlive (ready_after f a.transaction t.ready) (forgot_as f a t.askers).waiting t.table.entries
    by Nobody = w
    by OthersAsk = λ m e h.
        alive-as t.ready t.ready t.askers.waiting (forgot_as OthersAsk a t.askers).waiting m e (λ r. r)
        (λ l. inl (removed m l (lookup (is_at (nat_cmp a.transaction)) t.askers.waiting) refl)) (w m e h)
    by Last = λ m e h.
        alive-as t.ready (t.ready ++ a.transaction ∷ []) t.askers.waiting (remove_entry (is_at (nat_cmp a.transaction)) t.askers.waiting)
        m e (λ r. ready-pushed m a.transaction t.ready r)
        (λ l. number-or (InLine m (remove_entry (is_at (nat_cmp a.transaction)) t.askers.waiting)
        ⊎ IsReady m (t.ready ++ a.transaction ∷ [])) m a.transaction
        (λ same. inr (subst (λ (n : ℕ). IsReady n (t.ready ++ a.transaction ∷ [])) (sym same) (ready-own a.transaction t.ready)))
        (λ apart. inl (ap (λ (o : Option WaitingValue). is_some o) (others-removed m a.transaction apart t.askers.waiting) ∙ l)))
        (w m e h)

alive-event : (s : PoolState) (e : PoolEvent) → OfTraffic s.traffic → OfTraffic (after_event s e).traffic
alive-event s (time_passes at) w = w
alive-event s (group_has group servers) w = w
alive-event s (is_asked group query options dnssec at) w =
    alive-asks (list_of group s.traffic) (question_of query options dnssec) (settings_for s.options options) at s w
alive-event s (octets_come channel octets at) w = by (channel_at channel s.traffic.shared.channels)
  where
    by : (c : Option Channel) → OfTraffic (ticked at (option_map_or (came_on channel octets s.traffic) c s.traffic))
    by None = w
    by (Some c) = w
alive-event s (channel_fails f at) w = by (channel_at f.channel s.traffic.shared.channels)
  where
    by : (c : Option Channel) → OfTraffic (ticked at (option_map_or (failed_on f s.traffic) c s.traffic))
    by None = w
    by (Some c) = w
alive-event s (is_forgotten a) w = alive-forgotten a s.traffic w

-- ---- all that happens

alive-step : (s t : PoolState) → AreApart s → ((c : CurrentState) → s.current ≡ Some c → MaySend c.number c.entry)
    → OfTraffic s.traffic → IsStep s t → OfTraffic t.traffic
alive-step s t apart may w (goes_out o out current traffic is) =
    alive-same s.traffic t.traffic (ap (λ (u : TrafficState). u.ready) traffic)
    (ap (λ (u : TrafficState). u.askers.waiting) traffic) (ap (λ (u : TrafficState). u.table.entries) traffic) w
alive-step s t apart may w (begins calm none is) =
    subst OfTraffic (sym (ap (λ (u : PoolState). u.traffic) is))
    (alive-task s.traffic w apart.table (task_of s.traffic) (task-is s.traffic calm))
alive-step s t apart may w (does c after calm works at is) =
    let y : Scene = record { traffic = t.traffic; current = after } in
    let one = same-done (doing c s.traffic) (scene_of s c) y is in
    alive-same s.traffic t.traffic (ready-done (doing c s.traffic) (scene_of s c) y is)
    (ap (λ (a : AskersState). a.waiting) one.askers) one.entries w
alive-step s t apart may w (puts c calm works p is) =
    subst OfTraffic (sym (ap (λ (u : PoolState). u.traffic) is)) (put-to_do s w c (may c works) c.to_do p)
alive-step s t apart may w (ends c calm works e is) =
    subst OfTraffic (sym (ap (λ (u : PoolState). u.traffic) is))
    (alive-others s.traffic w c.number (remove_entry (is_at (nat_cmp c.number)) s.traffic.askers.waiting)
    (subst (λ (x : Option CurrentState). IfSome x (λ y. entry_at y.number s.traffic.table ≡ None)) works apart.worked)
    (λ n other h. line-removed n c.number s.traffic.askers.waiting other h))

pub alive-runs : (options : OptionsValue) (limits : PoolLimits) (seed : List ℕ) (past : List Happening) (s : PoolState)
    → Runs (no_servers options limits seed) past s → OfTraffic s.traffic
alive-runs options limits seed _ _ at_first = λ n e h. absurd cc
alive-runs options limits seed _ _ (by_event past s e more) = alive-event s e (alive-runs options limits seed past s more)
alive-runs options limits seed _ _ (by_step past s after r is more) =
    alive-step s after (apart-runs options limits seed past s more)
    (λ c works. subst (λ (x : Option CurrentState). IfSome x (AtCurrent MaySend)) works (may-runs options limits seed past s more).worked)
    (alive-runs options limits seed past s more) (step-is s after r is)
