-- Each transaction stands in the table, or is worked on, and none stands twice.
use Rattle.std.proofs.Common.{◌≡◌, ◌<◌, ◌-◌, ◌+◌, ◌^◌, min, ℕ, Bool, true, false, cond, List, [], ◌∷◌, refl, ap, sym, subst, ◌∙◌, arith, ne_eqb}
use Rattle.std.specs.Prelude.{Option, None, Some, IfSome}
use Rattle.std.specs.Ordering.{nat_cmp}
use Rattle.std.specs.List.{AllByRecursion}
use Rattle.std.specs.Map.{lookup, remove_entry}
use Rattle.std.specs.BTreeMap.{insert_entry, is_at}
use Rattle.std.specs.Option.{option_map, option_map_or, option_and_then}
use Rattle.hickory_resolver_askers.specs.Askers.{WaitingValue, to_admit}
use Rattle.hickory_resolver_askers.specs.Askers as ask
use Rattle.hickory_resolver_config.specs.ResolverConfig.{OptionsValue}
use Rattle.hickory_resolver_traffic.specs.Doing.{doing, doubts_message, one_freed, is_empty}
use Rattle.hickory_resolver_traffic.specs.Inbox.{MessageValue, first_message, first_failure}
use Rattle.hickory_resolver_traffic.specs.Table.{CurrentState, EntryState, TableState, entry_at}
use Rattle.hickory_resolver_traffic.specs.Tasks.{task_of, after_task, did, closed, freed_by, freed_by_first, without_taken, took_up, taken_up, did_open, did_write, opening_of}
use Rattle.hickory_resolver_traffic.specs.Tasks as tasks
use Rattle.hickory_resolver_traffic.specs.Openings.{OpeningValue}
use Rattle.hickory_resolver_traffic.specs.Traffic.{TrafficState, OutgoingValue, entry_of}
use Rattle.hickory_resolver_traffic.specs.declared.entry.ToDo.{ToDo}
use Rattle.hickory_resolver_traffic.specs.declared.entry.ToDo.TheVariants.{GoOn}
use Rattle.hickory_resolver_traffic.specs.declared.inbox.ChannelFailure.{ChannelFailure}
use Rattle.hickory_resolver_traffic.specs.declared.inbox.Failure.{Failure}
use Rattle.hickory_resolver_traffic.specs.declared.inbox.Failure.TheVariants as failure
use Rattle.hickory_resolver_traffic.specs.declared.starting.Did.TheVariants as done
use Rattle.hickory_resolver_traffic.specs.declared.tasks.Task.{Task}
use Rattle.hickory_resolver_traffic.specs.declared.tasks.Task.TheVariants as task
use Rattle.hickory_resolver_pool.specs.Laws.{after_event}
use Rattle.hickory_resolver_pool.specs.Pool.{PoolState, no_servers, current_after, scene_of}
use Rattle.hickory_resolver_pool.specs.declared.limits.PoolLimits.{PoolLimits}
use Rattle.hickory_resolver_pool_theorems.specs.Agreement.{NoNumberTwice, EachTransactionStandsOnce}
use Rattle.hickory_resolver_pool_theorems.specs.Runs.{Happening, Runs, at_first, by_event, by_step}
use Rattle.hickory_resolver_pool_theorems.proofs.Asked.{known-runs}
use Rattle.hickory_resolver_pool_theorems.proofs.Askings.{next_of, put-is}
use Rattle.hickory_resolver_pool_theorems.proofs.Keys.{Apart, apart-removed, apart-inserted, gone-removed, apart-is, others-inserted}
use Rattle.hickory_resolver_pool_theorems.proofs.Scenes.{same-done}
use Rattle.hickory_resolver_pool_theorems.proofs.Shapes.{IsStep, goes_out, begins, does, puts, ends, step-is, IsEvent, keeps, regroups, enters, event-is}
use Rattle.hickory_resolver_pool_theorems.proofs.Traces.{current-event}

-- ---- what a task does with the table and with what is taken up

-- the entries stay, or one is taken up, or is over
pub data Takes (t u : TableState) (c : Option CurrentState) : Type 0 where
  none_taken : u.entries ≡ t.entries → c ≡ None → Takes t u c
  one_gone : (n : ℕ) → entry_at n t ≡ None → u.entries ≡ remove_entry (is_at (nat_cmp n)) t.entries → c ≡ None → Takes t u c
  one_taken : (n : ℕ) (to_do : ToDo) (e : EntryState) → entry_at n t ≡ Some e
      → u.entries ≡ remove_entry (is_at (nat_cmp n)) t.entries
      → c ≡ Some (record { number = n; to_do = to_do; entry = e }) → Takes t u c

module _ (t : TrafficState) where
  abbrev TakesBy : Task → Type 0
  TakesBy what = Takes t.table (after_task what t).table (current_after (did what t) None)

  takes-up : (n : ℕ) (to_do : ToDo) (u : TableState) → u.entries ≡ remove_entry (is_at (nat_cmp n)) t.table.entries
      → Takes t.table u (current_after (took_up (taken_up n to_do t.table)) None)
  takes-up n to_do u is = by (entry_at n t.table) refl
    where
      by : (e : Option EntryState) → entry_at n t.table ≡ e
          → Takes t.table u (current_after (took_up (option_map (tasks.current_of n to_do) e)) None)
      by None h = one_gone n h is refl
      by (Some e) h = one_taken n to_do e h is refl

  entries-one_freed : (u : TrafficState) → (one_freed u).table.entries ≡ u.table.entries
  entries-one_freed u = by (is_empty u.table.blocked)
    where
      by : (empty : Bool)
          → (cond {A = TrafficState} empty u (record u { freed = min (u.freed + 1) (2 ^ 64 - 1) })).table.entries
          ≡ u.table.entries
      by true = refl
      by false = refl

  entries-freed_first : (u : TrafficState) → (freed_by_first u).table.entries ≡ u.table.entries
  entries-freed_first u = by (first_failure u.inbox)
    where
      why : (f : Failure) → (freed_by f u).table.entries ≡ u.table.entries
      why failure.Local = refl
      why failure.Refused = entries-one_freed u
      why failure.Unreachable = entries-one_freed u
      why failure.Closed = entries-one_freed u

      by : (f : Option ChannelFailure) → (option_map_or (λ g. freed_by g.why u) f u).table.entries ≡ u.table.entries
      by None = refl
      by (Some f) = why f.why

  pub takes-task : (what : Task) → TakesBy what
  takes-task task.Opens = none_taken refl (by (option_and_then (opening_of t) t.outgoing))
    where
      by : (o : Option OpeningValue) → current_after (did_open o) None ≡ None
      by None = refl
      by (Some o) = refl
  takes-task task.Writes = none_taken refl (by t.outgoing)
    where
      by : (o : Option OutgoingValue) → current_after (did_write o) None ≡ None
      by None = refl
      by (Some o) = refl
  takes-task task.Doubts = none_taken (by (first_message t.inbox)) refl
    where
      by : (m : Option MessageValue) → (option_map_or (doubts_message t) m t).table.entries ≡ t.table.entries
      by None = refl
      by (Some m) = refl
  takes-task task.PassesBy = none_taken refl refl
  takes-task (task.Cuts channel) = none_taken refl refl
  takes-task (task.ClosesFailed channel) = none_taken (entries-freed_first (closed channel t)) refl
  takes-task task.DropsFailure = none_taken refl refl
  takes-task (task.TakesReady n) = takes-up n GoOn (after_task (task.TakesReady n) t).table refl
  takes-task (task.TakesUp n to_do) = takes-up n to_do (after_task (task.TakesUp n to_do) t).table refl
  takes-task (task.Undates due n) = none_taken refl refl
  takes-task (task.Strays n) = none_taken refl refl
  takes-task (task.Unblocks n) = none_taken refl refl
  takes-task (task.ClosesIdle channel) = none_taken (entries-one_freed (closed channel t)) refl
  takes-task task.Admits = by (to_admit t.askers)
    where
      by : (first : Option (ℕ × WaitingValue)) → Takes t.table
          (option_map_or (λ f. without_taken f.0 (record t { askers = ask.admitted t.askers })) first t).table
          (current_after (option_map_or (λ f. took_up (taken_up f.0 GoOn t.table)) first done.Idle) None)
      by None = none_taken refl refl
      by (Some f) =
          takes-up f.0 GoOn (without_taken f.0 (record t { askers = ask.admitted t.askers })).table refl

-- ---- none stands twice

pub record AreApart (s : PoolState) : Type 0 where
  pub table : Apart s.traffic.table.entries
  pub worked : IfSome s.current (λ c. entry_at c.number s.traffic.table ≡ None)

abbrev NotIn : List (ℕ × EntryState) → CurrentState → Type 0
NotIn es c = lookup (is_at (nat_cmp c.number)) es ≡ None

abbrev ApartIn : List (ℕ × EntryState) → Option CurrentState → Type 0
ApartIn es c = Apart es × IfSome c (NotIn es)

apart-of : (s : PoolState) (es : List (ℕ × EntryState)) (c : Option CurrentState) → s.traffic.table.entries ≡ es
    → s.current ≡ c → ApartIn es c → AreApart s
apart-of s es c table current w = record {
  table = subst Apart (sym table) w.0;
  worked = subst (λ (x : Option CurrentState). IfSome x (NotIn s.traffic.table.entries)) (sym current)
      (subst (λ (xs : List (ℕ × EntryState)). IfSome c (NotIn xs)) (sym table) w.1);
}

apart-takes : (t u : TableState) (c : Option CurrentState) → Apart t.entries → Takes t u c → ApartIn u.entries c
apart-takes t u c w (none_taken table none) =
    (subst Apart (sym table) w, subst (λ (x : Option CurrentState). IfSome x (NotIn u.entries)) (sym none) tt)
apart-takes t u c w (one_gone n not table none) = (
  subst Apart (sym table) (apart-removed n t.entries w),
  subst (λ (x : Option CurrentState). IfSome x (NotIn u.entries)) (sym none) tt,
)
apart-takes t u c w (one_taken n to_do e found table taken) = (
  subst Apart (sym table) (apart-removed n t.entries w),
  subst (λ (x : Option CurrentState). IfSome x (NotIn u.entries)) (sym taken)
      (subst (λ (xs : List (ℕ × EntryState)). lookup (is_at (nat_cmp n)) xs ≡ None) (sym table) (gone-removed n t.entries w)),
)

module _ (s t : PoolState) (w : AreApart s) where
  own : (c : CurrentState) → s.current ≡ Some c → NotIn s.traffic.table.entries c
  own c works = subst (λ (x : Option CurrentState). IfSome x (NotIn s.traffic.table.entries)) works w.worked

  apart-step : IsStep s t → AreApart t
  apart-step (goes_out o out current traffic is) =
      apart-of t s.traffic.table.entries s.current (ap (λ (u : TrafficState). u.table.entries) traffic) current
      (w.table, w.worked)
  apart-step (begins calm none is) =
      let taken = takes-task s.traffic (task_of s.traffic) in
      let now = apart-takes s.traffic.table (after_task (task_of s.traffic) s.traffic).table
      (current_after (did (task_of s.traffic) s.traffic) None) w.table taken in
      apart-of t (after_task (task_of s.traffic) s.traffic).table.entries
      (current_after (did (task_of s.traffic) s.traffic) None)
      (ap (λ (u : PoolState). u.traffic.table.entries) is)
      (ap (λ (u : PoolState). u.current) is
      ∙ ap (λ (x : Option CurrentState). current_after (did (task_of s.traffic) s.traffic) x) none) now
  apart-step (does c after calm works at is) =
      let same = same-done (doing c s.traffic) (scene_of s c) (record { traffic = t.traffic; current = after }) is in
      apart-of t s.traffic.table.entries (Some after) same.entries at
      (w.table, ap (λ (n : ℕ). lookup (is_at (nat_cmp n)) s.traffic.table.entries) same.number ∙ own c works)
  apart-step (puts c calm works p is) =
      let put = put-is (doing c s.traffic) c s in
      apart-of t (insert_entry nat_cmp s.traffic.table.entries c.number c.entry) None
      (ap (λ (u : PoolState). u.traffic.table.entries) is ∙ put.entries)
      (ap (λ (u : PoolState). u.current) is ∙ put.none)
      (apart-inserted c.number c.entry s.traffic.table.entries (own c works) w.table, tt)
  apart-step (ends c calm works e is) =
      apart-of t s.traffic.table.entries None (ap (λ (u : PoolState). u.traffic.table.entries) is)
      (ap (λ (u : PoolState). u.current) is) (w.table, tt)

-- a number that none has yet
pub fresh-in : (next : ℕ) (es : List (ℕ × EntryState)) → AllByRecursion (λ p. p.0 < next) es
    → lookup (is_at (nat_cmp next)) es ≡ None
fresh-in next [] all = refl
fresh-in next (e ∷ es) all =
    ap (λ (b : Bool). cond b (Some e.1) (lookup (is_at (nat_cmp next)) es))
    (apart-is next e.0 (ne_eqb next e.0 (λ (h : next ≡ e.0). let less : e.0 < next = all.0 in omega (arith, h, less))))
    ∙ fresh-in next es all.1

module _ (s t : PoolState) (w : AreApart s) (current : t.current ≡ s.current)
    (old : AllByRecursion (λ p. p.0 < next_of s) s.traffic.table.entries)
    (worked : IfSome s.current (λ c. c.number < next_of s)) where
  not-next : (c : Option CurrentState) → IfSome c (λ x. x.number < next_of s)
      → IfSome c (NotIn s.traffic.table.entries) → (e : EntryState)
      → IfSome c (NotIn (insert_entry nat_cmp s.traffic.table.entries (next_of s) e))
  not-next None less none e = tt
  not-next (Some c) less none e =
      others-inserted c.number (next_of s)
      (apart-is c.number (next_of s) (ne_eqb c.number (next_of s) (λ (h : c.number ≡ next_of s). omega (arith, h, less))))
      e s.traffic.table.entries ∙ none

  apart-event : IsEvent s t → AreApart t
  apart-event (keeps table groups) =
      apart-of t s.traffic.table.entries s.current (ap (λ (x : TableState). x.entries) table) current (w.table, w.worked)
  apart-event (regroups group servers sources table groups) =
      apart-of t s.traffic.table.entries s.current (ap (λ (x : TableState). x.entries) table) current (w.table, w.worked)
  apart-event (enters list question settings l is table groups) =
      let e : EntryState = entry_of list question settings l in
      apart-of t (insert_entry nat_cmp s.traffic.table.entries (next_of s) e) s.current
      (ap (λ (x : TableState). x.entries) table) current (
        apart-inserted (next_of s) e s.traffic.table.entries (fresh-in (next_of s) s.traffic.table.entries old) w.table,
        not-next s.current worked w.worked e,
      )

pub apart-runs : (options : OptionsValue) (limits : PoolLimits) (seed : List ℕ) (past : List Happening) (s : PoolState)
    → Runs (no_servers options limits seed) past s → AreApart s
apart-runs options limits seed past s runs = by past s runs
  where
    by : (p : List Happening) (u : PoolState) → Runs (no_servers options limits seed) p u → AreApart u
    by _ _ at_first = record { table = tt; worked = tt }
    by _ _ (by_event p u e more) =
        let known = known-runs options limits seed p u more in
        apart-event u (after_event u e) (by p u more) (current-event u e) known.numbers.table known.numbers.worked
        (event-is u e)
    by _ _ (by_step p u after r is more) = apart-step u after (by p u more) (step-is u after r is)

no-twice : (es : List (ℕ × EntryState)) → Apart es → NoNumberTwice es
no-twice [] a = tt
no-twice (e ∷ es) a = (a.0, no-twice es a.1)

pub each_transaction_stands_once : EachTransactionStandsOnce
each_transaction_stands_once options limits seed past s runs =
    let apart = apart-runs options limits seed past s runs in
    record { table = no-twice s.traffic.table.entries apart.table; worked = apart.worked }
