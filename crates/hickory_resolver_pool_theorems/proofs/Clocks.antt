-- Time passed for each transaction up to moments that were told, and up to no others.
use Rattle.std.proofs.Common.{◌≡◌, ◌≤◌, ◌+◌, ◌^◌, ◌-◌, min, ℕ, Bool, true, false, cond, List, [], ◌∷◌, refl, ap, subst, ◌∙◌, arith}
use Rattle.std.specs.Prelude.{Option, None, Some, IfSome}
use Rattle.std.specs.List.{AllByRecursion}
use Rattle.std.specs.Option.{is_some, option_map_or}
use Rattle.hickory_resolver_askers.specs.Askers.{WaitingValue, to_admit}
use Rattle.hickory_resolver_askers.specs.Askers as ask
use Rattle.hickory_resolver_config.specs.ResolverConfig.{OptionsValue}
use Rattle.hickory_resolver_transactions.specs.Laws.{TransactionEvent, round_begins, is_sent, has_no_room, reply_came, opt_refused, letters_differ, channel_failed, no_channel, channel_free, oldest_given_up, time_passed}
use Rattle.hickory_resolver_transactions.specs.Transaction.{TransactionState}
use Rattle.hickory_resolver_traffic.specs.Doing.{doing, doubts_message, one_freed, is_empty}
use Rattle.hickory_resolver_traffic.specs.Inbox.{MessageValue, first_message, first_failure}
use Rattle.hickory_resolver_traffic.specs.Table.{CurrentState, EntryState}
use Rattle.hickory_resolver_traffic.specs.Tasks.{task_of, after_task, closed, freed_by, freed_by_first, without_taken}
use Rattle.hickory_resolver_traffic.specs.Traffic.{TrafficState}
use Rattle.hickory_resolver_traffic.specs.declared.doing.Doing.{Doing}
use Rattle.hickory_resolver_traffic.specs.declared.inbox.ChannelFailure.{ChannelFailure}
use Rattle.hickory_resolver_traffic.specs.declared.inbox.Failure.{Failure}
use Rattle.hickory_resolver_traffic.specs.declared.inbox.Failure.TheVariants as failure
use Rattle.hickory_resolver_traffic.specs.declared.tasks.Task.{Task}
use Rattle.hickory_resolver_traffic.specs.declared.tasks.Task.TheVariants as task
use Rattle.hickory_resolver_pool.specs.Laws.{PoolEvent, time_passes, group_has, is_asked, octets_come, channel_fails, is_forgotten}
use Rattle.hickory_resolver_pool.specs.Pool.{PoolState, no_servers, settings_for, Starts, IsDoneTo, StepsBy, StepsIn, StepsAs, Steps, is_end, is_put, scene_of}
use Rattle.hickory_resolver_pool.specs.declared.limits.PoolLimits.{PoolLimits}
use Rattle.hickory_resolver_pool.specs.declared.pool.Action.{Action}
use Rattle.hickory_resolver_pool_theorems.specs.Causes.{PassesToldTime}
use Rattle.hickory_resolver_pool_theorems.specs.Runs.{Happening, came, latest_told, Runs, at_first, by_event, by_step}
use Rattle.hickory_resolver_pool_theorems.proofs.Askings.{put-is}
use Rattle.hickory_resolver_pool_theorems.proofs.ByEvents.{keeps-done}
use Rattle.hickory_resolver_pool_theorems.proofs.Causes.{IsMadeBy, by-none, by-next}
use Rattle.hickory_resolver_pool_theorems.proofs.EachEntry.{HoldOfEach, AtCurrent, Begins, each-step-in, each-event, each-as}
use Rattle.hickory_resolver_pool_theorems.proofs.Scenes.{same-done}
use Rattle.hickory_resolver_pool_theorems.proofs.Traces.{shared-event, some-rounds}

-- ---- of a transaction

module _ (latest later : ℕ) (le : latest ≤ later) where
  told-later : (e : TransactionEvent) → PassesToldTime latest e → PassesToldTime later e
  told-later (round_begins order) k = tt
  told-later (is_sent made) k = tt
  told-later (has_no_room due) k = tt
  told-later (reply_came channel id outcome number) k = tt
  told-later (opt_refused channel id) k = tt
  told-later (letters_differ channel id) k = tt
  told-later (channel_failed channel) k = tt
  told-later (no_channel channel) k = tt
  told-later channel_free k = tt
  told-later oldest_given_up k = tt
  told-later (time_passed now) k = omega (arith, le, k)

  all-later : (es : List TransactionEvent) → AllByRecursion (PassesToldTime latest) es → AllByRecursion (PassesToldTime later) es
  all-later [] all = tt
  all-later (e ∷ es) all = (told-later e all.0, all-later es all.1)

  made-later : (t : TransactionState) → IsMadeBy latest t → IsMadeBy later t
  made-later t m = record { made = m.made; told = all-later m.made.events m.told }

-- ---- a step leaves the clock

module _ (t : TrafficState) where
  abbrev Stays : TrafficState → Type 0
  Stays u = u.clock ≡ t.clock

  clock-one_freed : (u : TrafficState) → Stays u → Stays (one_freed u)
  clock-one_freed u same = by (is_empty u.table.blocked)
    where
      by : (empty : Bool) → Stays (cond {A = TrafficState} empty u (record u { freed = min (u.freed + 1) (2 ^ 64 - 1) }))
      by true = same
      by false = same

  clock-freed_first : (u : TrafficState) → Stays u → Stays (freed_by_first u)
  clock-freed_first u same = by (first_failure u.inbox)
    where
      why : (f : Failure) → Stays (freed_by f u)
      why failure.Local = same
      why failure.Refused = clock-one_freed u same
      why failure.Unreachable = clock-one_freed u same
      why failure.Closed = clock-one_freed u same

      by : (f : Option ChannelFailure) → Stays (option_map_or (λ g. freed_by g.why u) f u)
      by None = same
      by (Some f) = why f.why

  clock-task : (what : Task) → Stays (after_task what t)
  clock-task task.Opens = refl
  clock-task task.Writes = refl
  clock-task task.Doubts = by (first_message t.inbox)
    where
      by : (m : Option MessageValue) → Stays (option_map_or (doubts_message t) m t)
      by None = refl
      by (Some m) = refl
  clock-task task.PassesBy = refl
  clock-task (task.Cuts channel) = refl
  clock-task (task.ClosesFailed channel) = clock-freed_first (closed channel t) refl
  clock-task task.DropsFailure = refl
  clock-task (task.TakesReady n) = refl
  clock-task (task.TakesUp n to_do) = refl
  clock-task (task.Undates due n) = refl
  clock-task (task.Strays n) = refl
  clock-task (task.Unblocks n) = refl
  clock-task (task.ClosesIdle channel) = clock-one_freed (closed channel t) refl
  clock-task task.Admits = by (to_admit t.askers)
    where
      by : (first : Option (ℕ × WaitingValue))
          → Stays (option_map_or (λ f. without_taken f.0 (record t { askers = ask.admitted t.askers })) first t)
      by None = refl
      by (Some f) = refl

module _ (s t : PoolState) (r : Option Action) where
  abbrev Same : Type 0
  Same = t.traffic.clock ≡ s.traffic.clock

  clock-starts : Starts s r t → Same
  clock-starts is = ap (λ (u : PoolState). u.traffic.clock) is.1 ∙ clock-task s.traffic (task_of s.traffic)

  clock-done : (c : CurrentState) (what : Doing) (after : Option CurrentState)
      → IsDoneTo what (scene_of s c) t.traffic after → Same
  clock-done c what None is = absurd is
  clock-done c what (Some after) is =
      (same-done what (scene_of s c) (record { traffic = t.traffic; current = after }) is).clock

  clock-by : (c : CurrentState) (ends puts : Bool) (what : Doing) → StepsBy ends puts what c s r t → Same
  clock-by c true puts what is = ap (λ (u : PoolState). u.traffic.clock) is.pool
  clock-by c false true what is = ap (λ (u : PoolState). u.traffic.clock) is.pool ∙ (put-is what c s).clock
  clock-by c false false what is = clock-done c what t.current is.done

  clock-in : (c : Option CurrentState) → StepsIn c s r t → Same
  clock-in None is = clock-starts is
  clock-in (Some c) is = clock-by c (is_end (doing c s.traffic)) (is_put (doing c s.traffic)) (doing c s.traffic) is

  clock-step : Steps s r t → Same
  clock-step is = by (is_some s.traffic.outgoing) is
    where
      by : (writes : Bool) → StepsAs writes s r t → Same
      by true steps = clock-starts steps
      by false steps = clock-in s.current steps

-- ---- whatever happens

clock-runs : (options : OptionsValue) (limits : PoolLimits) (seed : List ℕ) (past : List Happening) (s : PoolState)
    → Runs (no_servers options limits seed) past s → s.traffic.clock ≤ latest_told past
clock-runs options limits seed _ _ at_first = omega arith
clock-runs options limits seed _ _ (by_event past s e more) =
    let before = clock-runs options limits seed past s more in
    let event = (shared-event s e).clock in
    omega (arith, before, event)
clock-runs options limits seed _ _ (by_step past s after r is more) =
    let before = clock-runs options limits seed past s more in
    let same = clock-step s after r is in
    omega (arith, before, same)

abbrev pub MadeIn : ℕ → ℕ → EntryState → Type 0
MadeIn latest n e = IsMadeBy latest e.flying.flight.transaction

begins-made : (latest : ℕ) (s : PoolState) (e : PoolEvent) → Begins (MadeIn latest) s e
begins-made latest s (time_passes at) = tt
begins-made latest s (group_has group servers) = tt
begins-made latest s (octets_come channel octets at) = tt
begins-made latest s (channel_fails f at) = tt
begins-made latest s (is_forgotten a) = tt
begins-made latest s (is_asked group query request dnssec at) = λ list l at_list there said.
    by-none latest (settings_for s.options request) l.servers.servers (some-rounds s.options request)

made-runs : (options : OptionsValue) (limits : PoolLimits) (seed : List ℕ) (past : List Happening) (s : PoolState)
    → Runs (no_servers options limits seed) past s → HoldOfEach (MadeIn (latest_told past)) s
made-runs options limits seed _ _ at_first = record { table = tt; worked = tt }
made-runs options limits seed _ _ (by_event past s e more) =
    each-event (MadeIn (latest_told (came s e ∷ past))) s e
    (each-as (MadeIn (latest_told past)) (MadeIn (latest_told (came s e ∷ past)))
    (λ n f w. made-later (latest_told past) (latest_told (came s e ∷ past)) (omega arith) f.flying.flight.transaction w) s
    (made-runs options limits seed past s more))
    (begins-made (latest_told (came s e ∷ past)) s e)
made-runs options limits seed _ _ (by_step past s after r is more) =
    let up_to = clock-runs options limits seed past s more in
    each-step-in (MadeIn (latest_told past)) s after r
    (λ what x y same done w.
    let clock : x.traffic.clock ≡ s.traffic.clock = ap (λ (t : TrafficState). t.clock) same in
    keeps-done (IsMadeBy (latest_told past)) (latest_told past) (by-next (latest_told past)) what x y
    (omega (arith, clock, up_to)) done w)
    (made-runs options limits seed past s more) is

pub worked-made : (options : OptionsValue) (limits : PoolLimits) (seed : List ℕ) (past : List Happening) (s : PoolState)
    → (c : CurrentState) → Runs (no_servers options limits seed) past s → s.current ≡ Some c
    → IsMadeBy (latest_told past) c.entry.flying.flight.transaction
worked-made options limits seed past s c runs works =
    subst (λ (o : Option CurrentState). IfSome o (AtCurrent (MadeIn (latest_told past)))) works
    (made-runs options limits seed past s runs).worked
