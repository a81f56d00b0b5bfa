-- What holds of each transaction, in the table or in hand, holds after each step and each event.
use Rattle.std.proofs.Common.{◌≡◌, ◌+◌, ◌-◌, ◌^◌, min, ℕ, Bool, true, false, cond, List, [], ◌∷◌, refl, ap, sym, subst, ◌∙◌}
use Rattle.std.specs.Prelude.{Option, None, Some, IfSome}
use Rattle.std.specs.declared.cmp.Ordering.{Ordering}
use Rattle.std.specs.declared.cmp.Ordering.TheVariants.{Less, Equal, Greater}
use Rattle.std.specs.Ordering.{nat_cmp, is_eq, match_ordering}
use Rattle.std.specs.List.{AllByRecursion}
use Rattle.std.specs.Map.{lookup, remove_entry}
use Rattle.std.specs.BTreeMap.{insert_entry, is_at}
use Rattle.std.specs.Option.{is_some, option_map, option_map_or, option_and_then}
use Rattle.hickory_resolver_askers.specs.Askers.{WaitingValue, joiner, to_admit, place_for}
use Rattle.hickory_resolver_askers.specs.Askers as ask
use Rattle.hickory_resolver_askers.specs.declared.asker.Asker.{Asker}
use Rattle.hickory_resolver_askers.specs.declared.asker.Place.{Place}
use Rattle.hickory_resolver_askers.specs.declared.asker.Place.TheVariants.{InFlight, Waits, Overloaded}
use Rattle.hickory_resolver_channels.specs.Channels.{channel_at}
use Rattle.hickory_resolver_channels.specs.declared.channel.Channel.{Channel}
use Rattle.hickory_resolver_tries.specs.Question.{question_of}
use Rattle.hickory_resolver_tries.specs.declared.pool_question.PoolQuestion.{PoolQuestion}
use Rattle.hickory_resolver_transactions.specs.declared.settings.Settings.{Settings}
use Rattle.hickory_resolver_traffic.specs.Doing.{Scene, IsDone, doing, doubts_message, one_freed, is_empty}
use Rattle.hickory_resolver_traffic.specs.Groups.{GroupListState, list_at}
use Rattle.hickory_resolver_traffic.specs.Inbox.{MessageValue, first_message, first_failure}
use Rattle.hickory_resolver_traffic.specs.Openings.{OpeningValue}
use Rattle.hickory_resolver_traffic.specs.Table.{CurrentState, EntryState, entry_at}
use Rattle.hickory_resolver_traffic.specs.Tasks.{task_of, after_task, did, closed, freed_by, freed_by_first, without_taken, took_up, taken_up, did_open, did_write, opening_of}
use Rattle.hickory_resolver_traffic.specs.Tasks as tasks
use Rattle.hickory_resolver_traffic.specs.Traffic.{TrafficState, OutgoingValue, ticked, begun_as, begun_with, entry_of, came_on, failed_on, joined, begun}
use Rattle.hickory_resolver_traffic.specs.declared.doing.Doing.{Doing}
use Rattle.hickory_resolver_traffic.specs.declared.entry.ToDo.{ToDo}
use Rattle.hickory_resolver_traffic.specs.declared.entry.ToDo.TheVariants.{GoOn}
use Rattle.hickory_resolver_traffic.specs.declared.inbox.ChannelFailure.{ChannelFailure}
use Rattle.hickory_resolver_traffic.specs.declared.inbox.Failure.{Failure}
use Rattle.hickory_resolver_traffic.specs.declared.inbox.Failure.TheVariants as failure
use Rattle.hickory_resolver_traffic.specs.declared.starting.Did.TheVariants as done
use Rattle.hickory_resolver_traffic.specs.declared.tasks.Task.{Task}
use Rattle.hickory_resolver_traffic.specs.declared.tasks.Task.TheVariants as task
use Rattle.hickory_resolver_pool.specs.Laws.{PoolEvent, time_passes, group_has, is_asked, octets_come, channel_fails, is_forgotten, after_event}
use Rattle.hickory_resolver_pool.specs.Pool.{PoolState, AskedOf, settings_for, list_of, joiner_of, join_in, join_or_begin, ask_of, after_asking, asking_told, current_after, started, Starts, IsDoneTo, scene_of, is_end, is_put, StepsBy, StepsIn, StepsAs, Steps, let_go, put_by}
use Rattle.hickory_resolver_pool.specs.Pool as pool
use Rattle.hickory_resolver_pool.specs.declared.pool.Action.{Action}
use Rattle.hickory_resolver_pool.specs.declared.pool.Asked.TheVariants as told
use Rattle.hickory_resolver_pool_theorems.proofs.Askings.{put-is}
use Rattle.hickory_resolver_pool_theorems.proofs.Keys.{at-is}
use Rattle.hickory_resolver_pool_theorems.proofs.Scenes.{same-done}
use Rattle.hickory_resolver_pool_theorems.proofs.Traces.{current-event}

module _ (G : ℕ → EntryState → Type 0) where
  abbrev At : ℕ × EntryState → Type 0
  At p = G p.0 p.1

  abbrev pub AtCurrent : CurrentState → Type 0
  AtCurrent c = G c.number c.entry

  abbrev pub AllEntries : List (ℕ × EntryState) → Type 0
  AllEntries es = AllByRecursion At es

  pub record HoldOfEach (s : PoolState) : Type 0 where
    pub table : AllEntries s.traffic.table.entries
    pub worked : IfSome s.current AtCurrent

  entries-inserted : (n : ℕ) (e : EntryState) (es : List (ℕ × EntryState)) → AllEntries es → G n e
      → AllEntries (insert_entry nat_cmp es n e)
  entries-inserted n e [] all w = (w, tt)
  entries-inserted n e (x ∷ xs) all w = by (nat_cmp n x.0) refl (entries-inserted n e xs all.1 w)
    where
      by : (o : Ordering) → nat_cmp n x.0 ≡ o → AllEntries (insert_entry nat_cmp xs n e)
          → AllEntries (match_ordering o ((n, e) ∷ x ∷ xs) ((x.0, e) ∷ xs) (x ∷ insert_entry nat_cmp xs n e))
      by Less is more = (w, all)
      by Equal is more = (subst (λ (k : ℕ). G k e) (at-is n x.0 (ap is_eq is)) w, all.1)
      by Greater is more = (all.0, more)

  entries-removed : (test : ℕ → Bool) (es : List (ℕ × EntryState)) → AllEntries es → AllEntries (remove_entry test es)
  entries-removed test [] all = tt
  entries-removed test (x ∷ xs) all = by (test x.0) (entries-removed test xs all.1)
    where
      by : (b : Bool) → AllEntries (remove_entry test xs) → AllEntries (cond b xs (x ∷ remove_entry test xs))
      by true more = all.1
      by false more = (all.0, more)

  entries-found : (n : ℕ) (e : EntryState) (es : List (ℕ × EntryState)) → AllEntries es
      → lookup (is_at (nat_cmp n)) es ≡ Some e → G n e
  entries-found n e [] all h = absurd cc
  entries-found n e (x ∷ xs) all h = by (is_at (nat_cmp n) x.0) refl (entries-found n e xs all.1) h
    where
      by : (b : Bool) → is_at (nat_cmp n) x.0 ≡ b → (lookup (is_at (nat_cmp n)) xs ≡ Some e → G n e)
          → cond b (Some x.1) (lookup (is_at (nat_cmp n)) xs) ≡ Some e → G n e
      by true is more g =
          let same : x.1 ≡ e = cc in
          subst (λ (y : EntryState). G n y) same (subst (λ (k : ℕ). G k x.1) (sym (at-is n x.0 is)) all.0)
      by false is more g = more g

  -- ---- where no transaction is worked on

  module _ (t : TrafficState) (w : AllEntries t.table.entries) where
    entries-one_freed : (u : TrafficState) → AllEntries u.table.entries → AllEntries (one_freed u).table.entries
    entries-one_freed u v = by (is_empty u.table.blocked)
      where
        by : (empty : Bool)
            → AllEntries (cond {A = TrafficState} empty u (record u { freed = min (u.freed + 1) (2 ^ 64 - 1) })).table.entries
        by true = v
        by false = v

    entries-freed_first : (u : TrafficState) → AllEntries u.table.entries → AllEntries (freed_by_first u).table.entries
    entries-freed_first u v = by (first_failure u.inbox)
      where
        why : (f : Failure) → AllEntries (freed_by f u).table.entries
        why failure.Local = v
        why failure.Refused = entries-one_freed u v
        why failure.Unreachable = entries-one_freed u v
        why failure.Closed = entries-one_freed u v

        by : (f : Option ChannelFailure) → AllEntries (option_map_or (λ g. freed_by g.why u) f u).table.entries
        by None = v
        by (Some f) = why f.why

    entries-task : (what : Task) → AllEntries (after_task what t).table.entries
    entries-task task.Opens = w
    entries-task task.Writes = w
    entries-task task.Doubts = by (first_message t.inbox)
      where
        by : (m : Option MessageValue) → AllEntries (option_map_or (doubts_message t) m t).table.entries
        by None = w
        by (Some m) = w
    entries-task task.PassesBy = w
    entries-task (task.Cuts channel) = w
    entries-task (task.ClosesFailed channel) = entries-freed_first (closed channel t) w
    entries-task task.DropsFailure = w
    entries-task (task.TakesReady n) = entries-removed (is_at (nat_cmp n)) t.table.entries w
    entries-task (task.TakesUp n to_do) = entries-removed (is_at (nat_cmp n)) t.table.entries w
    entries-task (task.Undates due n) = w
    entries-task (task.Strays n) = w
    entries-task (task.Unblocks n) = w
    entries-task (task.ClosesIdle channel) = entries-one_freed (closed channel t) w
    entries-task task.Admits = by (to_admit t.askers)
      where
        by : (first : Option (ℕ × WaitingValue)) → AllEntries
            (option_map_or (λ f. without_taken f.0 (record t { askers = ask.admitted t.askers })) first t).table.entries
        by None = w
        by (Some f) = entries-removed (is_at (nat_cmp f.0)) t.table.entries w

    abbrev Taken : Option CurrentState → Type 0
    Taken c = IfSome c AtCurrent

    taken-after : (n : ℕ) (to_do : ToDo) (before : Option CurrentState) → Taken before
        → Taken (current_after (took_up (taken_up n to_do t.table)) before)
    taken-after n to_do before h = by (entry_at n t.table) refl
      where
        by : (e : Option EntryState) → entry_at n t.table ≡ e
            → Taken (current_after (took_up (option_map (tasks.current_of n to_do) e)) before)
        by None is = h
        by (Some e) is = entries-found n e t.table.entries w is

    taken-did : (what : Task) (before : Option CurrentState) → Taken before → Taken (current_after (did what t) before)
    taken-did task.Opens before h = by (option_and_then (opening_of t) t.outgoing)
      where
        by : (o : Option OpeningValue) → Taken (current_after (did_open o) before)
        by None = h
        by (Some o) = h
    taken-did task.Writes before h = by t.outgoing
      where
        by : (o : Option OutgoingValue) → Taken (current_after (did_write o) before)
        by None = h
        by (Some o) = h
    taken-did task.Doubts before h = h
    taken-did task.PassesBy before h = h
    taken-did (task.Cuts channel) before h = h
    taken-did (task.ClosesFailed channel) before h = h
    taken-did task.DropsFailure before h = h
    taken-did (task.TakesReady n) before h = taken-after n GoOn before h
    taken-did (task.TakesUp n to_do) before h = taken-after n to_do before h
    taken-did (task.Undates due n) before h = h
    taken-did (task.Strays n) before h = h
    taken-did (task.Unblocks n) before h = h
    taken-did (task.ClosesIdle channel) before h = h
    taken-did task.Admits before h = by (to_admit t.askers)
      where
        by : (first : Option (ℕ × WaitingValue)) → Taken (current_after
            (option_map_or (λ f. took_up (taken_up f.0 GoOn t.table)) first done.Idle) before)
        by None = h
        by (Some f) = taken-after f.0 GoOn before h

  -- ---- steps, where what is done with a transaction keeps it

  each-by : (s t : PoolState) → t ≡ s → HoldOfEach s → HoldOfEach t
  each-by s t is w = subst HoldOfEach (sym is) w

  module _ (s t : PoolState) (r : Option Action)
      (keeps : (what : Doing) (x y : Scene) → x.traffic ≡ s.traffic → IsDone what x y → G x.current.number x.current.entry
      → G x.current.number y.current.entry) where
    module _ (w : HoldOfEach s) where
      each-starts : Starts s r t → HoldOfEach t
      each-starts is = each-by (started s) t is.1 (record {
        table = entries-task s.traffic w.table (task_of s.traffic);
        worked = taken-did s.traffic w.table (task_of s.traffic) s.current w.worked;
      })

      each-done : (c : CurrentState) → AtCurrent c → (what : Doing) (after : Option CurrentState) → t.current ≡ after
          → IsDoneTo what (scene_of s c) t.traffic after → HoldOfEach t
      each-done c own what None at is = absurd is
      each-done c own what (Some after) at is =
          let y : Scene = record { traffic = t.traffic; current = after } in
          let same = same-done what (scene_of s c) y is in
          let mine : G after.number after.entry =
          subst (λ (n : ℕ). G n after.entry) (sym same.number) (keeps what (scene_of s c) y refl is own) in
          record {
            table = subst AllEntries (sym same.entries) w.table;
            worked = subst (λ (o : Option CurrentState). IfSome o AtCurrent) (sym at) mine;
          }

      each-stepped : (c : CurrentState) → AtCurrent c → (ends puts : Bool) (what : Doing) → StepsBy ends puts what c s r t
          → HoldOfEach t
      each-stepped c own true puts what is = each-by (let_go c s) t is.pool (record { table = w.table; worked = tt })
      each-stepped c own false true what is = each-by (put_by what c s) t is.pool (record {
        table = subst AllEntries (sym (put-is what c s).entries)
            (entries-inserted c.number c.entry s.traffic.table.entries w.table own);
        worked = subst (λ (o : Option CurrentState). IfSome o AtCurrent) (sym (put-is what c s).none) tt;
      })
      each-stepped c own false false what is = each-done c own what t.current refl is.done

      each-in : (c : Option CurrentState) → s.current ≡ c → StepsIn c s r t → HoldOfEach t
      each-in None works is = each-starts is
      each-in (Some c) works is =
          each-stepped c (subst (λ (o : Option CurrentState). IfSome o AtCurrent) works w.worked)
          (is_end (doing c s.traffic)) (is_put (doing c s.traffic)) (doing c s.traffic) is

      pub each-step-in : Steps s r t → HoldOfEach t
      each-step-in is = by (is_some s.traffic.outgoing) is
        where
          by : (writes : Bool) → StepsAs writes s r t → HoldOfEach t
          by true steps = each-starts steps
          by false steps = each-in s.current refl steps

  pub each-step : ((what : Doing) (x y : Scene) → IsDone what x y → G x.current.number x.current.entry
      → G x.current.number y.current.entry) → (s t : PoolState) (r : Option Action) → HoldOfEach s → Steps s r t → HoldOfEach t
  each-step keeps s t r w is = each-step-in s t r (λ what x y same done k. keeps what x y done k) w is

  -- ---- events: one that begins has the next number, and is given to who asks

  abbrev pub Begins : PoolState → PoolEvent → Type 0
  Begins s (is_asked group query options dnssec at) =
      (list : ℕ) (l : GroupListState) → list_of group s.traffic ≡ Some list → list_at list s.traffic.groups ≡ Some l
      → asking_told (list_of group s.traffic) (question_of query options dnssec) s
      ≡ told.Asker (ask.next_one s.traffic.askers)
      → G s.traffic.askers.next_transaction
      (entry_of list (question_of query options dnssec) (settings_for s.options options) l)
  Begins s other = Unit {0}

  entries-joined : (n at : ℕ) (t : TrafficState) → AllEntries t.table.entries → AllEntries (joined n at t).table.entries
  entries-joined n at t w = by (joiner n t.askers)
    where
      by : (a : Option Asker)
          → AllEntries (option_map_or (λ b. ticked at (record t { askers = ask.joined n t.askers })) a t).table.entries
      by None = w
      by (Some a) = w

  module _ (s : PoolState) (w : AllEntries s.traffic.table.entries) (list : ℕ) (question : PoolQuestion)
      (settings : Settings) (at : ℕ) where
    abbrev key : AskedOf
    key = (list, question)

    -- what has to hold of one that begins
    abbrev New : Type 0
    New =
        (l : GroupListState) → list_at list s.traffic.groups ≡ Some l
        → pool.told_to_joiner (joiner_of key s) key s ≡ told.Asker (ask.next_one s.traffic.askers)
        → G s.traffic.askers.next_transaction (entry_of list question settings l)

    entries-begun : joiner_of key s ≡ None → New → AllEntries (begun list question settings at s.traffic).table.entries
    entries-begun none new = by (list_at list s.traffic.groups) refl
      where
        said : (l : GroupListState) → list_at list s.traffic.groups ≡ Some l → (p : Place) → place_for s.traffic.askers ≡ p
            → ask.given_in p s.traffic.askers ≡ Some (ask.next_one s.traffic.askers)
            → pool.told_to_joiner (joiner_of key s) key s ≡ told.Asker (ask.next_one s.traffic.askers)
        said l is p at_p given =
            ap (λ (j : Option Asker). pool.told_to_joiner j key s) none
            ∙ ap (λ (o : Option GroupListState). pool.asked_by (option_map_or (λ x. ask.asker_given s.traffic.askers) o None)) is
            ∙ ap (λ (q : Place). pool.asked_by (ask.given_in q s.traffic.askers)) at_p
            ∙ ap pool.asked_by given

        place : (l : GroupListState) → list_at list s.traffic.groups ≡ Some l → (p : Place) → place_for s.traffic.askers ≡ p
            → AllEntries (begun_as p (entry_of list question settings l) list at s.traffic).table.entries
        place l is Overloaded at_p = w
        place l is InFlight at_p =
            entries-inserted s.traffic.askers.next_transaction (entry_of list question settings l)
            s.traffic.table.entries w (new l is (said l is InFlight at_p refl))
        place l is Waits at_p =
            entries-inserted s.traffic.askers.next_transaction (entry_of list question settings l)
            s.traffic.table.entries w (new l is (said l is Waits at_p refl))

        by : (l : Option GroupListState) → list_at list s.traffic.groups ≡ l
            → AllEntries (option_map_or (begun_with list question settings at s.traffic) l (ticked at s.traffic)).table.entries
        by None is = w
        by (Some l) is = place l is (place_for s.traffic.askers) refl

    entries-asked : New → AllEntries (ask_of key settings at s).traffic.table.entries
    entries-asked new = by (joiner_of key s) refl
      where
        joins : (n : Option ℕ) → AllEntries (option_map_or (join_in at s) n s).traffic.table.entries
        joins None = w
        joins (Some n) = entries-joined n at s.traffic w

        by : (a : Option Asker) → joiner_of key s ≡ a → AllEntries (join_or_begin a key settings at s).traffic.table.entries
        by None is = entries-begun is new
        by (Some a) is = joins (pool.number_of key s.questions)

  entries-asks : (s : PoolState) → AllEntries s.traffic.table.entries → (list : Option ℕ) (question : PoolQuestion)
      → (settings : Settings) (at : ℕ)
      → ((n : ℕ) (l : GroupListState) → list ≡ Some n → list_at n s.traffic.groups ≡ Some l
      → asking_told list question s ≡ told.Asker (ask.next_one s.traffic.askers)
      → G s.traffic.askers.next_transaction (entry_of n question settings l))
      → AllEntries (after_asking list question settings at s).traffic.table.entries
  entries-asks s w None question settings at new = w
  entries-asks s w (Some list) question settings at new =
      entries-asked s w list question settings at (λ l is said. new list l refl is said)

  entries-event : (s : PoolState) (e : PoolEvent) → AllEntries s.traffic.table.entries → Begins s e
      → AllEntries (after_event s e).traffic.table.entries
  entries-event s (time_passes at) w new = w
  entries-event s (group_has group servers) w new = w
  entries-event s (is_asked group query options dnssec at) w new =
      entries-asks s w (list_of group s.traffic) (question_of query options dnssec) (settings_for s.options options) at
      (λ n l is there said. new n l is there said)
  entries-event s (octets_come channel octets at) w new = by (channel_at channel s.traffic.shared.channels)
    where
      by : (c : Option Channel)
          → AllEntries (ticked at (option_map_or (came_on channel octets s.traffic) c s.traffic)).table.entries
      by None = w
      by (Some c) = w
  entries-event s (channel_fails f at) w new = by (channel_at f.channel s.traffic.shared.channels)
    where
      by : (c : Option Channel) → AllEntries (ticked at (option_map_or (failed_on f s.traffic) c s.traffic)).table.entries
      by None = w
      by (Some c) = w
  entries-event s (is_forgotten a) w new = w

  pub each-event : (s : PoolState) (e : PoolEvent) → HoldOfEach s → Begins s e → HoldOfEach (after_event s e)
  each-event s e w new = record {
    table = entries-event s e w.table new;
    worked = subst (λ (c : Option CurrentState). IfSome c AtCurrent) (sym (current-event s e)) w.worked;
  }

-- ---- the same of another

pub each-as : (G H : ℕ → EntryState → Type 0) → ((n : ℕ) (e : EntryState) → G n e → H n e) → (s : PoolState)
    → HoldOfEach G s → HoldOfEach H s
each-as G H gives s w = record { table = all s.traffic.table.entries w.table; worked = one s.current w.worked }
  where
    all : (es : List (ℕ × EntryState)) → AllEntries G es → AllEntries H es
    all [] k = tt
    all (e ∷ es) k = (gives e.0 e.1 k.0, all es k.1)

    one : (c : Option CurrentState) → IfSome c (AtCurrent G) → IfSome c (AtCurrent H)
    one None k = tt
    one (Some c) k = gives c.number c.entry k
