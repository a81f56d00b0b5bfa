-- Each transaction stands among the deadlines under its own moment, and under no other.
use Rattle.std.proofs.Common.{◌≡◌, ◌≤◌, ◌<◌, ◌-◌, ◌+◌, ◌^◌, min, ℕ, Bool, true, false, cond, List, refl, ap, sym, subst, ◌∙◌, true≢false, inl, inr, ◌⊎◌, arith, eq-eqb}
use Rattle.std.specs.Prelude.{Option, None, Some, IfSome}
use Rattle.std.specs.Ordering.{nat_cmp}
use Rattle.std.specs.Map.{lookup}
use Rattle.std.specs.BTreeMap.{insert_entry, is_at}
use Rattle.std.specs.Set.{remove_key}
use Rattle.std.specs.Option.{is_some, option_map_or}
use Rattle.hickory_resolver_askers.specs.Askers.{WaitingValue, to_admit}
use Rattle.hickory_resolver_askers.specs.Askers as ask
use Rattle.hickory_resolver_channels.specs.Channels.{pair_cmp}
use Rattle.hickory_resolver_config.specs.ResolverConfig.{OptionsValue}
use Rattle.hickory_resolver_pool.specs.declared.limits.PoolLimits.{PoolLimits}
use Rattle.hickory_resolver_traffic.specs.Doing.{Scene, IsDone, doing, dates, doubts_message, one_freed, is_empty, same_moment}
use Rattle.hickory_resolver_traffic.specs.Inbox.{MessageValue, first_message, first_failure}
use Rattle.hickory_resolver_traffic.specs.Table.{CurrentState, EntryState, TableState, entry_at, dated, not_dated}
use Rattle.hickory_resolver_traffic.specs.Tasks.{task_of, after_task, did, closed, freed_by, freed_by_first, without_taken}
use Rattle.hickory_resolver_traffic.specs.Traffic.{TrafficState, entry_of}
use Rattle.hickory_resolver_traffic.specs.declared.doing.Doing.{Doing}
use Rattle.hickory_resolver_traffic.specs.declared.doing.Doing.TheVariants.{Hears, Doubts, Stalls, Fails, Quits, PutsBack, Expires, Frees, Refused, Leaves, Ends, Draws, BeginsRound, GivesUp, Blocks, Sends, Dates, Rests}
use Rattle.hickory_resolver_traffic.specs.declared.inbox.ChannelFailure.{ChannelFailure}
use Rattle.hickory_resolver_traffic.specs.declared.inbox.Failure.{Failure}
use Rattle.hickory_resolver_traffic.specs.declared.inbox.Failure.TheVariants as failure
use Rattle.hickory_resolver_traffic.specs.declared.tasks.Task.{Task}
use Rattle.hickory_resolver_traffic.specs.declared.tasks.Task.TheVariants as task
use Rattle.hickory_resolver_pool.specs.Laws.{after_event}
use Rattle.hickory_resolver_pool.specs.Pool.{PoolState, no_servers, current_after, scene_of, put_by}
use Rattle.hickory_resolver_pool_theorems.specs.Agreement.{Has, in_table, in_hand, IsNotedAsDue, DeadlinesAgree}
use Rattle.hickory_resolver_pool_theorems.specs.Runs.{Happening, Runs, at_first, by_event, by_step}
use Rattle.hickory_resolver_pool_theorems.proofs.Asked.{known-runs, next-step, grows-event}
use Rattle.hickory_resolver_pool_theorems.proofs.Askings.{next_of, put-is}
use Rattle.hickory_resolver_pool_theorems.proofs.Entries.{AllOf, WorkedOf, all-inserted, all-removed, all-found, all-others}
use Rattle.hickory_resolver_pool_theorems.proofs.Frames.{IsNoDate, dated-done}
use Rattle.hickory_resolver_pool_theorems.proofs.Guards.{IsNew, new-date, Why, why-task}
use Rattle.hickory_resolver_pool_theorems.proofs.Keys.{pair-self}
use Rattle.hickory_resolver_pool_theorems.proofs.KeySets.{pair-is, In, Once, in-inserted, in-kept, in-old, once-inserted, in-removed, in-before, not-in-removed, once-removed}
use Rattle.hickory_resolver_pool_theorems.proofs.Numbers.{AreApart, apart-runs, Takes, none_taken, one_gone, one_taken, takes-task}
use Rattle.hickory_resolver_pool_theorems.proofs.Scenes.{same-done}
use Rattle.hickory_resolver_pool_theorems.proofs.Shapes.{IsStep, goes_out, begins, does, puts, ends, step-is, IsEvent, keeps, regroups, enters, event-is}
use Rattle.hickory_resolver_pool_theorems.proofs.Traces.{current-event}

abbrev pub Keys : Type 0
Keys = List (ℕ × ℕ)

abbrev pub Stands : ℕ → ℕ → Keys → Type 0
Stands due n ds = In pair_cmp pair-self pair-is (due, n) ds

abbrev pub OneEach : Keys → Type 0
OneEach ds = Once pair_cmp pair-self pair-is ds

pub record Agrees (ds : Keys) (n : ℕ) (e : EntryState) : Type 0 where
  pub own : (due : ℕ) → e.due ≡ Some due → Stands due n ds
  pub no_other : (due : ℕ) → Stands due n ds → e.due ≡ Some due

-- of each transaction of a table and the one in hand; and what stands there has a number that was given
pub record AreDated (next : ℕ) (ds : Keys) (es : List (ℕ × EntryState)) (c : Option CurrentState) : Type 0 where
  pub table : AllOf (Agrees ds) es
  pub worked : WorkedOf (Agrees ds) c
  pub once : OneEach ds
  pub old : (due n : ℕ) → Stands due n ds → n < next

-- ---- another moment in the place of the one before

module _ (n : ℕ) (old new : Option ℕ) (ds : Keys) where
  abbrev redone : Keys
  redone = not_dated n old (dated n new ds)

  pub in-dated : (due m : ℕ) → Stands due m (dated n new ds) → ((m ≡ n) × (new ≡ Some due)) ⊎ Stands due m ds
  in-dated due m h = by new h
    where
      same : (d : ℕ) → (◌≡◌ {A = ℕ × ℕ} (due, m) (d, n)) ⊎ Stands due m ds → ((m ≡ n) × (Some d ≡ Some due)) ⊎ Stands due m ds
      same d (inl e) = inl (ap (λ (p : ℕ × ℕ). p.1) e, ap (λ (p : ℕ × ℕ). Some p.0) (sym e))
      same d (inr e) = inr e

      by : (o : Option ℕ) → Stands due m (dated n o ds) → ((m ≡ n) × (o ≡ Some due)) ⊎ Stands due m ds
      by None g = inr g
      by (Some d) g = same d (in-old pair_cmp pair-self pair-is (due, m) (d, n) ds g)

  dated-kept : (due m : ℕ) → Stands due m ds → Stands due m (dated n new ds)
  dated-kept due m h = by new
    where
      by : (o : Option ℕ) → Stands due m (dated n o ds)
      by None = h
      by (Some d) = in-kept pair_cmp pair-self pair-is (due, m) (d, n) ds h

  dated-own : (due : ℕ) → new ≡ Some due → Stands due n (dated n new ds)
  dated-own due is =
      subst (λ (o : Option ℕ). Stands due n (dated n o ds)) (sym is)
      (in-inserted pair_cmp pair-self pair-is (due, n) ds)

  module _ (ks : Keys) where
    pub undated-before : (due m : ℕ) → Stands due m (not_dated n old ks) → Stands due m ks
    undated-before due m h = by old h
      where
        by : (o : Option ℕ) → Stands due m (not_dated n o ks) → Stands due m ks
        by None g = g
        by (Some d) g = in-before pair_cmp pair-self pair-is (due, m) (is_at (pair_cmp (d, n))) ks g

    undated-kept : (due m : ℕ) → (old ≡ Some due → m ≡ n → ⊥) → Stands due m ks → Stands due m (not_dated n old ks)
    undated-kept due m apart h = by old refl
      where
        by : (o : Option ℕ) → old ≡ o → Stands due m (not_dated n o ks)
        by None is = h
        by (Some d) is =
            in-removed pair_cmp pair-self pair-is (due, m) (d, n) ks
            (λ (e : ◌≡◌ {A = ℕ × ℕ} (d, n) (due, m)). apart (is ∙ ap (λ (p : ℕ × ℕ). Some p.0) e) (sym (ap (λ (p : ℕ × ℕ). p.1) e))) h

    pub undated-gone : (due : ℕ) → old ≡ Some due → OneEach ks → Stands due n (not_dated n old ks) → ⊥
    undated-gone due is once h =
        not-in-removed pair_cmp pair-self pair-is (due, n) ks once
        (subst (λ (o : Option ℕ). Stands due n (not_dated n o ks)) is h)

    undated-once : OneEach ks → OneEach (not_dated n old ks)
    undated-once once = by old
      where
        by : (o : Option ℕ) → OneEach (not_dated n o ks)
        by None = once
        by (Some d) = once-removed pair_cmp pair-self pair-is (is_at (pair_cmp (d, n))) ks once

  dated-once : OneEach ds → ((due : ℕ) → new ≡ Some due → Stands due n ds → ⊥) → OneEach (dated n new ds)
  dated-once once none = by new refl
    where
      by : (o : Option ℕ) → new ≡ o → OneEach (dated n o ds)
      by None is = once
      by (Some d) is = once-inserted pair_cmp pair-self pair-is (d, n) ds once (none d is)

  -- others keep theirs
  redone-others : (m : ℕ) (e : EntryState) → (m ≡ n → ⊥) → Agrees ds m e → Agrees redone m e
  redone-others m e apart a = record {
    own = λ due is. undated-kept (dated n new ds) due m (λ was same. apart same) (dated-kept due m (a.own due is));
    no_other = λ due h. other due (in-dated due m (undated-before (dated n new ds) due m h));
  }
    where
      other : (due : ℕ) → ((m ≡ n) × (new ≡ Some due)) ⊎ Stands due m ds → e.due ≡ Some due
      other due (inl k) = absurd (apart k.0)
      other due (inr k) = a.no_other due k

apart-moments : (a b : Option ℕ) (due : ℕ) → same_moment a b ≡ false → a ≡ Some due → b ≡ Some due → ⊥
apart-moments a b due new one two =
    true≢false (sym (eq-eqb due due refl) ∙ sym (ap (λ (x : Option ℕ). same_moment x (Some due)) one)
    ∙ sym (ap (λ (x : Option ℕ). same_moment a x) two) ∙ new)

module _ (next : ℕ) (ds : Keys) (es : List (ℕ × EntryState)) (c : CurrentState) (w : AreDated next ds es (Some c))
    (not : lookup (is_at (nat_cmp c.number)) es ≡ None) where
  dated-new : (due : Option ℕ) (to_do : CurrentState) → same_moment due c.entry.due ≡ false → c.number < next
      → to_do.number ≡ c.number → to_do.entry.due ≡ due
      → AreDated next (redone c.number c.entry.due due ds) es (Some to_do)
  dated-new due d new less number is = record {
    table = all-others (Agrees ds) (Agrees now) c.number es not (λ m e apart a. redone-others c.number c.entry.due due ds m e apart a) w.table;
    worked = subst (λ (n : ℕ). Agrees now n d.entry) (sym number) mine;
    once = undated-once c.number c.entry.due due ds (dated c.number due ds)
        (dated-once c.number c.entry.due due ds w.once apart);
    old = λ at m h. older at m (in-dated c.number c.entry.due due ds at m
        (undated-before c.number c.entry.due due ds (dated c.number due ds) at m h));
  }
    where
      now : Keys
      now = redone c.number c.entry.due due ds

      apart : (at : ℕ) → due ≡ Some at → Stands at c.number ds → ⊥
      apart at e h = apart-moments due c.entry.due at new e (w.worked.no_other at h)

      older : (at m : ℕ) → ((m ≡ c.number) × (due ≡ Some at)) ⊎ Stands at m ds → m < next
      older at m (inl k) = omega (arith, k.0, less)
      older at m (inr k) = w.old at m k

      mine : Agrees now c.number d.entry
      mine = record {
        own = λ at e. undated-kept c.number c.entry.due due ds (dated c.number due ds) at c.number
            (λ was same. apart-moments due c.entry.due at new (sym is ∙ e) was)
            (dated-own c.number c.entry.due due ds at (sym is ∙ e));
        no_other = λ at h. is ∙ which at h (in-dated c.number c.entry.due due ds at c.number
            (undated-before c.number c.entry.due due ds (dated c.number due ds) at c.number h));
      }
        where
          which : (at : ℕ) → Stands at c.number now → ((c.number ≡ c.number) × (due ≡ Some at)) ⊎ Stands at c.number ds
              → due ≡ Some at
          which at h (inl k) = k.1
          which at h (inr k) =
              absurd (undated-gone c.number c.entry.due due ds (dated c.number due ds) at (w.worked.no_other at k)
              (dated-once c.number c.entry.due due ds w.once apart) h)

  dated-ended : AreDated next (not_dated c.number c.entry.due ds) es None
  dated-ended = record {
    table = all-others (Agrees ds) (Agrees (not_dated c.number c.entry.due ds)) c.number es not
        (λ m e apart a. redone-others c.number c.entry.due None ds m e apart a) w.table;
    worked = tt;
    once = undated-once c.number c.entry.due None ds ds w.once;
    old = λ at m h. w.old at m (undated-before c.number c.entry.due None ds ds at m h);
  }

-- ---- what a task does

-- a deadline that is nobody's is taken away
pub data Dated (t u : TableState) : Type 0 where
  same_dates : u.deadlines ≡ t.deadlines → Dated t u
  one_undated : (due n : ℕ) → entry_at n t ≡ None → u.entries ≡ t.entries
      → u.deadlines ≡ remove_key (is_at (pair_cmp (due, n))) t.deadlines → Dated t u

dates-one_freed : (u : TrafficState) → (one_freed u).table.deadlines ≡ u.table.deadlines
dates-one_freed u = by (is_empty u.table.blocked)
  where
    by : (empty : Bool)
        → (cond {A = TrafficState} empty u (record u { freed = min (u.freed + 1) (2 ^ 64 - 1) })).table.deadlines
        ≡ u.table.deadlines
    by true = refl
    by false = refl

dates-freed_first : (u : TrafficState) → (freed_by_first u).table.deadlines ≡ u.table.deadlines
dates-freed_first u = by (first_failure u.inbox)
  where
    why : (f : Failure) → (freed_by f u).table.deadlines ≡ u.table.deadlines
    why failure.Local = refl
    why failure.Refused = dates-one_freed u
    why failure.Unreachable = dates-one_freed u
    why failure.Closed = dates-one_freed u

    by : (f : Option ChannelFailure) → (option_map_or (λ g. freed_by g.why u) f u).table.deadlines ≡ u.table.deadlines
    by None = refl
    by (Some f) = why f.why

not-has : (o : Option EntryState) → is_some o ≡ false → o ≡ None
not-has None e = refl
not-has (Some x) e = absurd (true≢false e)

pub dates-task : (t : TrafficState) (what : Task) → Why t what → Dated t.table (after_task what t).table
dates-task t task.Opens why = same_dates refl
dates-task t task.Writes why = same_dates refl
dates-task t task.Doubts why = same_dates (by (first_message t.inbox))
  where
    by : (m : Option MessageValue) → (option_map_or (doubts_message t) m t).table.deadlines ≡ t.table.deadlines
    by None = refl
    by (Some m) = refl
dates-task t task.PassesBy why = same_dates refl
dates-task t (task.Cuts channel) why = same_dates refl
dates-task t (task.ClosesFailed channel) why = same_dates (dates-freed_first (closed channel t))
dates-task t task.DropsFailure why = same_dates refl
dates-task t (task.TakesReady n) why = same_dates refl
dates-task t (task.TakesUp n to_do) why = same_dates refl
dates-task t (task.Undates due n) why = one_undated due n (not-has (entry_at n t.table) why.1) refl refl
dates-task t (task.Strays n) why = same_dates refl
dates-task t (task.Unblocks n) why = same_dates refl
dates-task t (task.ClosesIdle channel) why = same_dates (dates-one_freed (closed channel t))
dates-task t task.Admits why = same_dates (by (to_admit t.askers))
  where
    by : (first : Option (ℕ × WaitingValue)) →
        (option_map_or (λ f. without_taken f.0 (record t { askers = ask.admitted t.askers })) first t).table.deadlines
        ≡ t.table.deadlines
    by None = refl
    by (Some f) = refl

dated-taken : (next : ℕ) (t u : TableState) (c : Option CurrentState) → AreDated next t.deadlines t.entries None
    → Takes t u c → AreDated next t.deadlines u.entries c
dated-taken next t u c w (none_taken table none) = record {
  table = subst (AllOf (Agrees t.deadlines)) (sym table) w.table;
  worked = subst (WorkedOf (Agrees t.deadlines)) (sym none) tt;
  once = w.once;
  old = w.old;
}
dated-taken next t u c w (one_gone n not table none) = record {
  table = subst (AllOf (Agrees t.deadlines)) (sym table)
      (all-removed (Agrees t.deadlines) (is_at (nat_cmp n)) t.entries w.table);
  worked = subst (WorkedOf (Agrees t.deadlines)) (sym none) tt;
  once = w.once;
  old = w.old;
}
dated-taken next t u c w (one_taken n to_do e found table taken) = record {
  table = subst (AllOf (Agrees t.deadlines)) (sym table)
      (all-removed (Agrees t.deadlines) (is_at (nat_cmp n)) t.entries w.table);
  worked = subst (WorkedOf (Agrees t.deadlines)) (sym taken) (all-found (Agrees t.deadlines) n e t.entries w.table found);
  once = w.once;
  old = w.old;
}

dated-task : (next : ℕ) (t u : TableState) (c : Option CurrentState) → AreDated next t.deadlines t.entries None
    → Takes t u c → Dated t u → AreDated next u.deadlines u.entries c
dated-task next t u c w takes (same_dates same) =
    subst (λ (ds : Keys). AreDated next ds u.entries c) (sym same) (dated-taken next t u c w takes)
dated-task next t u c w takes (one_undated due n not table gone) =
    subst (λ (ds : Keys). AreDated next ds u.entries c) (sym gone) (by takes)
  where
    now : Keys
    now = remove_key (is_at (pair_cmp (due, n))) t.deadlines

    rest : AreDated next now t.entries None
    rest = record {
      table = all-others (Agrees t.deadlines) (Agrees now) n t.entries not
          (λ m e apart a. redone-others n (Some due) None t.deadlines m e apart a) w.table;
      worked = tt;
      once = undated-once n (Some due) None t.deadlines t.deadlines w.once;
      old = λ at m h. w.old at m (undated-before n (Some due) None t.deadlines t.deadlines at m h);
    }

    by : Takes t u c → AreDated next now u.entries c
    by k = dated-taken next (record t { deadlines = now }) (record u { deadlines = now }) c rest (again k)
      where
        again : Takes t u c → Takes (record t { deadlines = now }) (record u { deadlines = now }) c
        again (none_taken one none) = none_taken one none
        again (one_gone m gone_is one none) = one_gone m gone_is one none
        again (one_taken m to_do e found one taken) = one_taken m to_do e found one taken

-- ---- steps and events

abbrev OfPool : PoolState → Type 0
OfPool s = AreDated (next_of s) s.traffic.table.deadlines s.traffic.table.entries s.current

dated-of : (s : PoolState) (next : ℕ) (ds : Keys) (es : List (ℕ × EntryState)) (c : Option CurrentState) → next ≤ next_of s
    → s.traffic.table.deadlines ≡ ds → s.traffic.table.entries ≡ es → s.current ≡ c → AreDated next ds es c → OfPool s
dated-of s next ds es c more dates table current w = record {
  table = subst (λ (x : Keys). AllOf (Agrees x) s.traffic.table.entries) (sym dates) (subst (AllOf (Agrees ds)) (sym table) w.table);
  worked = subst (λ (x : Keys). WorkedOf (Agrees x) s.current) (sym dates) (subst (WorkedOf (Agrees ds)) (sym current) w.worked);
  once = subst OneEach (sym dates) w.once;
  old = λ due n h. let less = w.old due n (subst (λ (x : Keys). Stands due n x) dates h) in omega (arith, less, more);
}

module _ (s t : PoolState) (apart : AreApart s) (w : OfPool s) (same : next_of t ≡ next_of s) where
  stays : next_of s ≤ next_of t
  stays = omega (arith, same)

  abbrev With : Option CurrentState → Type 0
  With c = AreDated (next_of s) s.traffic.table.deadlines s.traffic.table.entries c

  with-own : (c : Option CurrentState) → s.current ≡ c → With c
  with-own c works = subst With works w

  not-in : (c : CurrentState) → s.current ≡ Some c → entry_at c.number s.traffic.table ≡ None
  not-in c works =
      subst (λ (x : Option CurrentState). IfSome x (λ y. entry_at y.number s.traffic.table ≡ None)) works apart.worked

  agrees-as : (n m : ℕ) (e d : EntryState) → m ≡ n → d.due ≡ e.due → Agrees s.traffic.table.deadlines n e
      → Agrees s.traffic.table.deadlines m d
  agrees-as n m e d number due a =
      subst (λ (k : ℕ). Agrees s.traffic.table.deadlines k d) (sym number)
      (record { own = λ at is. a.own at (sym due ∙ is); no_other = λ at h. due ∙ a.no_other at h })

  dated-same : (c after : CurrentState) → s.current ≡ Some c → t.current ≡ Some after → (what : Doing) → IsNoDate what
      → IsDone what (scene_of s c) (record { traffic = t.traffic; current = after }) → OfPool t
  dated-same c after works at what other is =
      let y : Scene = record { traffic = t.traffic; current = after } in
      let one = same-done what (scene_of s c) y is in
      let two = dated-done what (scene_of s c) y is other in
      let before = with-own (Some c) works in
      dated-of t (next_of s) s.traffic.table.deadlines s.traffic.table.entries (Some after) stays two.deadlines one.entries at
      (record {
        table = before.table;
        worked = agrees-as c.number after.number c.entry after.entry one.number two.due before.worked;
        once = before.once;
        old = before.old;
      })

  dated-doing : (c after : CurrentState) → s.current ≡ Some c → c.number < next_of s → t.current ≡ Some after
      → (what : Doing) → IsNew c.entry what → IsDone what (scene_of s c) (record { traffic = t.traffic; current = after })
      → OfPool t
  dated-doing c after works less at (Dates due) new is =
      let one = same-done (Dates due) (scene_of s c) (record { traffic = t.traffic; current = after }) is in
      dated-of t (next_of s) (redone c.number c.entry.due due s.traffic.table.deadlines) s.traffic.table.entries (Some after)
      stays (ap (λ (x : Scene). x.traffic.table.deadlines) is) one.entries at
      (dated-new (next_of s) s.traffic.table.deadlines s.traffic.table.entries c (with-own (Some c) works) (not-in c works)
      due after new less one.number (ap (λ (x : Scene). x.current.entry.due) is))
  dated-doing c after works less at Hears new is = dated-same c after works at Hears tt is
  dated-doing c after works less at Doubts new is = dated-same c after works at Doubts tt is
  dated-doing c after works less at Stalls new is = dated-same c after works at Stalls tt is
  dated-doing c after works less at Fails new is = dated-same c after works at Fails tt is
  dated-doing c after works less at Quits new is = dated-same c after works at Quits tt is
  dated-doing c after works less at PutsBack new is = dated-same c after works at PutsBack tt is
  dated-doing c after works less at Expires new is = dated-same c after works at Expires tt is
  dated-doing c after works less at Frees new is = dated-same c after works at Frees tt is
  dated-doing c after works less at Refused new is = dated-same c after works at Refused tt is
  dated-doing c after works less at (Leaves place) new is = dated-same c after works at (Leaves place) tt is
  dated-doing c after works less at Ends new is = dated-same c after works at Ends tt is
  dated-doing c after works less at Draws new is = dated-same c after works at Draws tt is
  dated-doing c after works less at (BeginsRound place) new is = dated-same c after works at (BeginsRound place) tt is
  dated-doing c after works less at GivesUp new is = dated-same c after works at GivesUp tt is
  dated-doing c after works less at Blocks new is = dated-same c after works at Blocks tt is
  dated-doing c after works less at Sends new is = dated-same c after works at Sends tt is
  dated-doing c after works less at Rests new is = dated-same c after works at Rests tt is

  put-dates : (what : Doing) (c : CurrentState) → (put_by what c s).traffic.table.deadlines ≡ s.traffic.table.deadlines
  put-dates Hears c = refl
  put-dates Doubts c = refl
  put-dates Stalls c = refl
  put-dates Fails c = refl
  put-dates Quits c = refl
  put-dates PutsBack c = refl
  put-dates Expires c = refl
  put-dates Frees c = refl
  put-dates Refused c = refl
  put-dates (Leaves place) c = refl
  put-dates Ends c = refl
  put-dates Draws c = refl
  put-dates (BeginsRound place) c = refl
  put-dates GivesUp c = refl
  put-dates Blocks c = refl
  put-dates Sends c = refl
  put-dates Rests c = refl
  put-dates (Dates due) c = refl

  dated-step : IsStep s t → ((c : CurrentState) → s.current ≡ Some c → c.number < next_of s) → OfPool t
  dated-step (goes_out o out current traffic is) less =
      dated-of t (next_of s) s.traffic.table.deadlines s.traffic.table.entries s.current stays
      (ap (λ (u : TrafficState). u.table.deadlines) traffic) (ap (λ (u : TrafficState). u.table.entries) traffic) current w
  dated-step (begins calm none is) less =
      let what : Task = task_of s.traffic in
      let now = dated-task (next_of s) s.traffic.table (after_task what s.traffic).table
      (current_after (did what s.traffic) None) (with-own None none) (takes-task s.traffic what)
      (dates-task s.traffic what (why-task s.traffic calm)) in
      dated-of t (next_of s) (after_task what s.traffic).table.deadlines (after_task what s.traffic).table.entries
      (current_after (did what s.traffic) None) stays (ap (λ (u : PoolState). u.traffic.table.deadlines) is)
      (ap (λ (u : PoolState). u.traffic.table.entries) is)
      (ap (λ (u : PoolState). u.current) is ∙ ap (λ (x : Option CurrentState). current_after (did what s.traffic) x) none)
      now
  dated-step (does c after calm works at is) less =
      dated-doing c after works (less c works) at (doing c s.traffic) (new-date c s.traffic) is
  dated-step (puts c calm works p is) less =
      let put = put-is (doing c s.traffic) c s in
      let before = with-own (Some c) works in
      dated-of t (next_of s) s.traffic.table.deadlines (insert_entry nat_cmp s.traffic.table.entries c.number c.entry) None
      stays (ap (λ (u : PoolState). u.traffic.table.deadlines) is ∙ put-dates (doing c s.traffic) c)
      (ap (λ (u : PoolState). u.traffic.table.entries) is ∙ put.entries) (ap (λ (u : PoolState). u.current) is ∙ put.none)
      (record {
        table = all-inserted (Agrees s.traffic.table.deadlines) c.number c.entry s.traffic.table.entries before.table before.worked;
        worked = tt;
        once = before.once;
        old = before.old;
      })
  dated-step (ends c calm works e is) less =
      dated-of t (next_of s) (not_dated c.number c.entry.due s.traffic.table.deadlines) s.traffic.table.entries None
      stays (ap (λ (u : PoolState). u.traffic.table.deadlines) is) (ap (λ (u : PoolState). u.traffic.table.entries) is)
      (ap (λ (u : PoolState). u.current) is)
      (dated-ended (next_of s) s.traffic.table.deadlines s.traffic.table.entries c (with-own (Some c) works) (not-in c works))

module _ (s t : PoolState) (w : OfPool s) (current : t.current ≡ s.current) (grows : next_of s ≤ next_of t) where
  kept : t.traffic.table ≡ s.traffic.table → OfPool t
  kept table =
      dated-of t (next_of s) s.traffic.table.deadlines s.traffic.table.entries s.current grows
      (ap (λ (x : TableState). x.deadlines) table) (ap (λ (x : TableState). x.entries) table) current w

  dated-event : IsEvent s t → OfPool t
  dated-event (keeps table groups) = kept table
  dated-event (regroups group servers sources table groups) = kept table
  dated-event (enters list question settings l is table groups) =
      dated-of t (next_of s) s.traffic.table.deadlines
      (insert_entry nat_cmp s.traffic.table.entries (next_of s) (entry_of list question settings l)) s.current grows
      (ap (λ (x : TableState). x.deadlines) table) (ap (λ (x : TableState). x.entries) table) current
      (record {
        table = all-inserted (Agrees s.traffic.table.deadlines) (next_of s) (entry_of list question settings l)
            s.traffic.table.entries w.table fresh;
        worked = w.worked;
        once = w.once;
        old = w.old;
      })
    where
      fresh : Agrees s.traffic.table.deadlines (next_of s) (entry_of list question settings l)
      fresh = record {
        own = λ due e. absurd cc;
        no_other = λ due h. let less = w.old due (next_of s) h in absurd (omega (arith, less));
      }

pub dated-runs : (options : OptionsValue) (limits : PoolLimits) (seed : List ℕ) (past : List Happening) (s : PoolState)
    → Runs (no_servers options limits seed) past s → OfPool s
dated-runs options limits seed past s runs = by past s runs
  where
    old : (p : List Happening) (u : PoolState) → Runs (no_servers options limits seed) p u → (c : CurrentState)
        → u.current ≡ Some c → c.number < next_of u
    old p u more c works =
        subst (λ (x : Option CurrentState). IfSome x (λ y. y.number < next_of u)) works
        (known-runs options limits seed p u more).numbers.worked

    by : (p : List Happening) (u : PoolState) → Runs (no_servers options limits seed) p u → OfPool u
    by _ _ at_first = record { table = tt; worked = tt; once = tt; old = λ due n h. absurd (true≢false (sym h)) }
    by _ _ (by_event p u e more) =
        dated-event u (after_event u e) (by p u more) (current-event u e) (grows-event u e) (event-is u e)
    by _ _ (by_step p u after r is more) =
        dated-step u after (apart-runs options limits seed p u more) (by p u more) (next-step u after r is)
        (step-is u after r is) (old p u more)

pub deadlines_agree : DeadlinesAgree
deadlines_agree options limits seed past s runs n e has = by has
  where
    all : OfPool s
    all = dated-runs options limits seed past s runs

    noted : Agrees s.traffic.table.deadlines n e → IsNotedAsDue s n e
    noted a = record { own = a.own; no_other = a.no_other }

    by : Has s n e → IsNotedAsDue s n e
    by (in_table found) = noted (all-found (Agrees s.traffic.table.deadlines) n e s.traffic.table.entries all.table found)
    by (in_hand to_do works) =
        noted (subst (λ (x : Option CurrentState). WorkedOf (Agrees s.traffic.table.deadlines) x) works all.worked)
