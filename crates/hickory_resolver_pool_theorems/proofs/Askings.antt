-- What a transaction asks stays what it asks, and who joins one asks the same.
use Rattle.std.proofs.Common.{◌≡◌, ◌<◌, ◌+◌, ◌-◌, ◌^◌, min, suc, zero, ℕ, Bool, true, false, cond, List, [], ◌∷◌, length, take, refl, ap, sym, subst, arith}
use Rattle.std.specs.Prelude.{Option, None, Some, IfSome, slice_set, slice_index_or, position, swap_remove}
use Rattle.std.specs.declared.cmp.Ordering.{Ordering}
use Rattle.std.specs.declared.cmp.Ordering.TheVariants.{Less, Equal, Greater}
use Rattle.std.specs.Ordering.{nat_cmp, is_eq, match_ordering}
use Rattle.std.specs.List.{AllByRecursion}
use Rattle.std.specs.Map.{lookup, remove_entry, keys_of}
use Rattle.std.specs.BTreeMap.{insert_entry, is_at}
use Rattle.std.specs.Option.{is_some, option_map, option_map_or, option_and_then}
use Rattle.indexmap.specs.IndexMap.{swap_remove_entry}
use Rattle.hickory_resolver_askers.specs.Askers.{AskersState, WaitingValue, joiner, to_admit, place_for, is_flying, is_waiting, given_in, asker_given}
use Rattle.hickory_resolver_askers.specs.Askers as ask
use Rattle.hickory_resolver_askers.specs.declared.asker.Asker.{Asker}
use Rattle.hickory_resolver_askers.specs.declared.asker.Place.{Place}
use Rattle.hickory_resolver_askers.specs.declared.asker.Place.TheVariants.{InFlight, Waits, Overloaded}
use Rattle.hickory_resolver_channels.specs.Channels.{channel_at}
use Rattle.hickory_resolver_channels.specs.declared.channel.Channel.{Channel}
use Rattle.hickory_resolver_tries.specs.Question.{question_of}
use Rattle.hickory_resolver_tries.specs.declared.pool_question.PoolQuestion.{PoolQuestion}
use Rattle.hickory_resolver_transactions.specs.declared.settings.Settings.{Settings}
use Rattle.hickory_resolver_traffic.specs.Doing.{doing, doubts_message, one_freed, is_empty}
use Rattle.hickory_resolver_traffic.specs.Groups.{GroupListState, list_at}
use Rattle.hickory_resolver_traffic.specs.Inbox.{MessageValue, first_message, first_failure}
use Rattle.hickory_resolver_traffic.specs.Openings.{OpeningValue}
use Rattle.hickory_resolver_traffic.specs.Table.{CurrentState, EntryState, entry_at}
use Rattle.hickory_resolver_traffic.specs.Tasks.{task_of, after_task, did, closed, freed_by, freed_by_first, without_taken, took_up, taken_up, did_open, did_write, opening_of}
use Rattle.hickory_resolver_traffic.specs.Tasks as tasks
use Rattle.hickory_resolver_traffic.specs.Traffic.{TrafficState, OutgoingValue, ticked, until_of, begun_as, begun_with, entry_of, came_on, came, failed_on, failed, joined, begun}
use Rattle.hickory_resolver_traffic.specs.declared.doing.Doing.{Doing}
use Rattle.hickory_resolver_traffic.specs.declared.entry.ToDo.{ToDo}
use Rattle.hickory_resolver_traffic.specs.declared.entry.ToDo.TheVariants.{GoOn}
use Rattle.hickory_resolver_traffic.specs.declared.inbox.ChannelFailure.{ChannelFailure}
use Rattle.hickory_resolver_traffic.specs.declared.inbox.Failure.{Failure}
use Rattle.hickory_resolver_traffic.specs.declared.inbox.Failure.TheVariants as failure
use Rattle.hickory_resolver_traffic.specs.declared.starting.Did.TheVariants as done
use Rattle.hickory_resolver_traffic.specs.declared.tasks.Task.{Task}
use Rattle.hickory_resolver_traffic.specs.declared.tasks.Task.TheVariants as task
use Rattle.hickory_resolver_traffic.specs.declared.doing.Doing.TheVariants.{Hears, Doubts, Stalls, Fails, Quits, PutsBack, Expires, Frees, Refused, Leaves, Ends, Draws, BeginsRound, GivesUp, Blocks, Sends, Dates, Rests}
use Rattle.hickory_resolver_pool.specs.Laws.{PoolEvent, time_passes, group_has, is_asked, octets_come, channel_fails, is_forgotten, after_event}
use Rattle.hickory_resolver_pool.specs.Pool.{PoolState, AskedOf, asked_eq, no_servers, settings_for, list_of, joiner_of, join_in, join_or_begin, ask_of, after_asking, asking_told, asked_of, told_to_joiner, asked_by, with_question, current_after, started, Starts, Carries, IsDoneTo, scene_of, is_end, is_put, StepsBy, StepsIn, StepsAs, Steps, let_go, put_by, without_question, is_its_own}
use Rattle.hickory_resolver_pool.specs.Pool as pool
use Rattle.hickory_resolver_pool.specs.declared.pool.Action.{Action}
use Rattle.hickory_resolver_pool_theorems.proofs.Keys.{at-is}
use Rattle.hickory_resolver_pool_theorems.proofs.Scenes.{same-done}
use Rattle.hickory_resolver_pool_theorems.proofs.Traces.{current-event}

-- ---- lists

module _ {A : Type 0} (P : A → Type 0) where
  all-take : (n : ℕ) (xs : List A) → AllByRecursion P xs → AllByRecursion P (take n xs)
  all-take zero xs all = tt
  all-take (suc n) [] all = tt
  all-take (suc n) (x ∷ xs) all = (all.0, all-take n xs all.1)

  all-set : (xs : List A) (i : ℕ) (v : A) → P v → AllByRecursion P xs → AllByRecursion P (slice_set xs i v)
  all-set [] i v k all = tt
  all-set (x ∷ xs) zero v k all = (k, all.1)
  all-set (x ∷ xs) (suc i) v k all = (all.0, all-set xs i v k all.1)

  all-index : (xs : List A) (i : ℕ) (d : A) → P d → AllByRecursion P xs → P (slice_index_or xs i d)
  all-index [] i d k all = k
  all-index (x ∷ xs) zero d k all = all.0
  all-index (x ∷ xs) (suc i) d k all = all-index xs i d k all.1

pub all-swap_removed : {K V : Type 0} (P : K × V → Type 0) (test : K → Bool) (es : List (K × V)) → AllByRecursion P es
    → AllByRecursion P (swap_remove_entry test es)
all-swap_removed P test [] all = tt
all-swap_removed {K} {V} P test (e ∷ es) all = by (position test (keys_of (e ∷ es)))
  where
    by : (i : Option ℕ) → AllByRecursion P (option_map_or (λ j. swap_remove (e ∷ es) j e) i (e ∷ es))
    by None = all
    by (Some i) =
        let last = all-index P (e ∷ es) (length (e ∷ es) - 1) e all.0 all in
        all-take P (length (e ∷ es) - 1) (slice_set (e ∷ es) i (slice_index_or (e ∷ es) (length (e ∷ es) - 1) e))
        (all-set P (e ∷ es) i (slice_index_or (e ∷ es) (length (e ∷ es) - 1) e) last all)

-- what is put away
pub record IsPut (c : CurrentState) (s t : PoolState) : Type 0 where
  pub entries : t.traffic.table.entries ≡ insert_entry nat_cmp s.traffic.table.entries c.number c.entry
  pub none : t.current ≡ None
  pub askers : t.traffic.askers ≡ s.traffic.askers
  pub questions : t.questions ≡ s.questions
  pub clock : t.traffic.clock ≡ s.traffic.clock

pub put-is : (what : Doing) (c : CurrentState) (s : PoolState) → IsPut c s (put_by what c s)
put-is PutsBack c s = record { entries = refl; none = refl; askers = refl; questions = refl; clock = refl }
put-is Rests c s = record { entries = refl; none = refl; askers = refl; questions = refl; clock = refl }
put-is Ends c s = record { entries = refl; none = refl; askers = refl; questions = refl; clock = refl }
put-is Refused c s = record { entries = refl; none = refl; askers = refl; questions = refl; clock = refl }
put-is Hears c s = record { entries = refl; none = refl; askers = refl; questions = refl; clock = refl }
put-is Doubts c s = record { entries = refl; none = refl; askers = refl; questions = refl; clock = refl }
put-is Stalls c s = record { entries = refl; none = refl; askers = refl; questions = refl; clock = refl }
put-is Fails c s = record { entries = refl; none = refl; askers = refl; questions = refl; clock = refl }
put-is Quits c s = record { entries = refl; none = refl; askers = refl; questions = refl; clock = refl }
put-is Expires c s = record { entries = refl; none = refl; askers = refl; questions = refl; clock = refl }
put-is Frees c s = record { entries = refl; none = refl; askers = refl; questions = refl; clock = refl }
put-is (Leaves place) c s = record { entries = refl; none = refl; askers = refl; questions = refl; clock = refl }
put-is Draws c s = record { entries = refl; none = refl; askers = refl; questions = refl; clock = refl }
put-is (BeginsRound place) c s = record { entries = refl; none = refl; askers = refl; questions = refl; clock = refl }
put-is GivesUp c s = record { entries = refl; none = refl; askers = refl; questions = refl; clock = refl }
put-is Blocks c s = record { entries = refl; none = refl; askers = refl; questions = refl; clock = refl }
put-is Sends c s = record { entries = refl; none = refl; askers = refl; questions = refl; clock = refl }
put-is (Dates due) c s = record { entries = refl; none = refl; askers = refl; questions = refl; clock = refl }

-- ---- of each transaction, by its number and what it asks

abbrev pub next_of : PoolState → ℕ
next_of s = s.traffic.askers.next_transaction

-- one that begins by this event asks this
abbrev pub AsksFor : PoolState → PoolEvent → AskedOf → Type 0
AsksFor s (is_asked group query options dnssec at) key =
    (list_of group s.traffic ≡ Some key.0) × (key.1 ≡ question_of query options dnssec)
AsksFor s other key = ⊥

module _ (G : ℕ → AskedOf → Type 0) where
  abbrev At : ℕ × EntryState → Type 0
  At p = G p.0 p.1.asked

  abbrev AtCurrent : CurrentState → Type 0
  AtCurrent c = G c.number c.entry.asked

  abbrev AllEntries : List (ℕ × EntryState) → Type 0
  AllEntries es = AllByRecursion At es

  pub record OfEach (s : PoolState) : Type 0 where
    pub table : AllEntries s.traffic.table.entries
    pub worked : IfSome s.current AtCurrent

  entries-inserted : (n : ℕ) (e : EntryState) (es : List (ℕ × EntryState)) → AllEntries es → G n e.asked
      → AllEntries (insert_entry nat_cmp es n e)
  entries-inserted n e [] all w = (w, tt)
  entries-inserted n e (x ∷ xs) all w = by (nat_cmp n x.0) refl (entries-inserted n e xs all.1 w)
    where
      by : (o : Ordering) → nat_cmp n x.0 ≡ o → AllEntries (insert_entry nat_cmp xs n e)
          → AllEntries (match_ordering o ((n, e) ∷ x ∷ xs) ((x.0, e) ∷ xs) (x ∷ insert_entry nat_cmp xs n e))
      by Less is more = (w, all)
      by Equal is more = (subst (λ (k : ℕ). G k e.asked) (at-is n x.0 (ap is_eq is)) w, all.1)
      by Greater is more = (all.0, more)

  entries-removed : (test : ℕ → Bool) (es : List (ℕ × EntryState)) → AllEntries es → AllEntries (remove_entry test es)
  entries-removed test [] all = tt
  entries-removed test (x ∷ xs) all = by (test x.0) (entries-removed test xs all.1)
    where
      by : (b : Bool) → AllEntries (remove_entry test xs) → AllEntries (cond b xs (x ∷ remove_entry test xs))
      by true more = all.1
      by false more = (all.0, more)

  entries-found : (n : ℕ) (e : EntryState) (es : List (ℕ × EntryState)) → AllEntries es
      → lookup (is_at (nat_cmp n)) es ≡ Some e → G n e.asked
  entries-found n e [] all h = absurd cc
  entries-found n e (x ∷ xs) all h = by (is_at (nat_cmp n) x.0) refl (entries-found n e xs all.1) h
    where
      by : (b : Bool) → is_at (nat_cmp n) x.0 ≡ b → (lookup (is_at (nat_cmp n)) xs ≡ Some e → G n e.asked)
          → cond b (Some x.1) (lookup (is_at (nat_cmp n)) xs) ≡ Some e → G n e.asked
      by true is more g =
          let same : x.1 ≡ e = cc in
          subst (λ (y : EntryState). G n y.asked) same (subst (λ (k : ℕ). G k x.1.asked) (sym (at-is n x.0 is)) all.0)
      by false is more g = more g

  -- ---- where no transaction is worked on

  module _ (t : TrafficState) (w : AllEntries t.table.entries) where
    entries-one_freed : (u : TrafficState) → AllEntries u.table.entries → AllEntries (one_freed u).table.entries
    entries-one_freed u v = by (is_empty u.table.blocked)
      where
        by : (empty : Bool)
            → AllEntries (cond {A = TrafficState} empty u (record u { freed = min (u.freed + 1) (2 ^ 64 - 1) })).table.entries
        by true = v
        by false = v

    entries-freed_first : (u : TrafficState) → AllEntries u.table.entries → AllEntries (freed_by_first u).table.entries
    entries-freed_first u v = by (first_failure u.inbox)
      where
        why : (f : Failure) → AllEntries (freed_by f u).table.entries
        why failure.Local = v
        why failure.Refused = entries-one_freed u v
        why failure.Unreachable = entries-one_freed u v
        why failure.Closed = entries-one_freed u v

        by : (f : Option ChannelFailure) → AllEntries (option_map_or (λ g. freed_by g.why u) f u).table.entries
        by None = v
        by (Some f) = why f.why

    entries-task : (what : Task) → AllEntries (after_task what t).table.entries
    entries-task task.Opens = w
    entries-task task.Writes = w
    entries-task task.Doubts = by (first_message t.inbox)
      where
        by : (m : Option MessageValue) → AllEntries (option_map_or (doubts_message t) m t).table.entries
        by None = w
        by (Some m) = w
    entries-task task.PassesBy = w
    entries-task (task.Cuts channel) = w
    entries-task (task.ClosesFailed channel) = entries-freed_first (closed channel t) w
    entries-task task.DropsFailure = w
    entries-task (task.TakesReady n) = entries-removed (is_at (nat_cmp n)) t.table.entries w
    entries-task (task.TakesUp n to_do) = entries-removed (is_at (nat_cmp n)) t.table.entries w
    entries-task (task.Undates due n) = w
    entries-task (task.Strays n) = w
    entries-task (task.Unblocks n) = w
    entries-task (task.ClosesIdle channel) = entries-one_freed (closed channel t) w
    entries-task task.Admits = by (to_admit t.askers)
      where
        by : (first : Option (ℕ × WaitingValue)) → AllEntries
            (option_map_or (λ f. without_taken f.0 (record t { askers = ask.admitted t.askers })) first t).table.entries
        by None = w
        by (Some f) = entries-removed (is_at (nat_cmp f.0)) t.table.entries w

    abbrev Taken : Option CurrentState → Type 0
    Taken c = IfSome c AtCurrent

    taken-after : (n : ℕ) (to_do : ToDo) (before : Option CurrentState) → Taken before
        → Taken (current_after (took_up (taken_up n to_do t.table)) before)
    taken-after n to_do before h = by (entry_at n t.table) refl
      where
        by : (e : Option EntryState) → entry_at n t.table ≡ e
            → Taken (current_after (took_up (option_map (tasks.current_of n to_do) e)) before)
        by None is = h
        by (Some e) is = entries-found n e t.table.entries w is

    taken-did : (what : Task) (before : Option CurrentState) → Taken before → Taken (current_after (did what t) before)
    taken-did task.Opens before h = by (option_and_then (opening_of t) t.outgoing)
      where
        by : (o : Option OpeningValue) → Taken (current_after (did_open o) before)
        by None = h
        by (Some o) = h
    taken-did task.Writes before h = by t.outgoing
      where
        by : (o : Option OutgoingValue) → Taken (current_after (did_write o) before)
        by None = h
        by (Some o) = h
    taken-did task.Doubts before h = h
    taken-did task.PassesBy before h = h
    taken-did (task.Cuts channel) before h = h
    taken-did (task.ClosesFailed channel) before h = h
    taken-did task.DropsFailure before h = h
    taken-did (task.TakesReady n) before h = taken-after n GoOn before h
    taken-did (task.TakesUp n to_do) before h = taken-after n to_do before h
    taken-did (task.Undates due n) before h = h
    taken-did (task.Strays n) before h = h
    taken-did (task.Unblocks n) before h = h
    taken-did (task.ClosesIdle channel) before h = h
    taken-did task.Admits before h = by (to_admit t.askers)
      where
        by : (first : Option (ℕ × WaitingValue)) → Taken (current_after
            (option_map_or (λ f. took_up (taken_up f.0 GoOn t.table)) first done.Idle) before)
        by None = h
        by (Some f) = taken-after f.0 GoOn before h

  -- ---- steps

  each-by : (s t : PoolState) → t ≡ s → OfEach s → OfEach t
  each-by s t is w = subst OfEach (sym is) w

  module _ (s t : PoolState) (r : Option Action) (w : OfEach s) where
    each-starts : Starts s r t → OfEach t
    each-starts is = each-by (started s) t is.1 (record {
      table = entries-task s.traffic w.table (task_of s.traffic);
      worked = taken-did s.traffic w.table (task_of s.traffic) s.current w.worked;
    })

    each-done : (c : CurrentState) → AtCurrent c → (what : Doing) (after : Option CurrentState) → t.current ≡ after
        → IsDoneTo what (scene_of s c) t.traffic after → OfEach t
    each-done c own what None at is = absurd is
    each-done c own what (Some after) at is =
        let same = same-done what (scene_of s c) (record { traffic = t.traffic; current = after }) is in
        let mine : G after.number after.entry.asked =
        subst (λ (n : ℕ). G n after.entry.asked) (sym same.number) (subst (λ (a : AskedOf). G c.number a) (sym same.asked) own) in
        record {
          table = subst AllEntries (sym same.entries) w.table;
          worked = subst (λ (o : Option CurrentState). IfSome o AtCurrent) (sym at) mine;
        }

    each-stepped : (c : CurrentState) → AtCurrent c → (ends puts : Bool) (what : Doing) → StepsBy ends puts what c s r t → OfEach t
    each-stepped c own true puts what is = each-by (let_go c s) t is.pool (record { table = w.table; worked = tt })
    each-stepped c own false true what is = each-by (put_by what c s) t is.pool (record {
      table = subst AllEntries (sym (put-is what c s).entries)
          (entries-inserted c.number c.entry s.traffic.table.entries w.table own);
      worked = subst (λ (o : Option CurrentState). IfSome o AtCurrent) (sym (put-is what c s).none) tt;
    })
    each-stepped c own false false what is = each-done c own what t.current refl is.done

    each-in : (c : Option CurrentState) → s.current ≡ c → StepsIn c s r t → OfEach t
    each-in None works is = each-starts is
    each-in (Some c) works is =
        each-stepped c (subst (λ (o : Option CurrentState). IfSome o AtCurrent) works w.worked)
        (is_end (doing c s.traffic)) (is_put (doing c s.traffic)) (doing c s.traffic) is

    pub each-step : Steps s r t → OfEach t
    each-step is = by (is_some s.traffic.outgoing) is
      where
        by : (writes : Bool) → StepsAs writes s r t → OfEach t
        by true steps = each-starts steps
        by false steps = each-in s.current refl steps

  -- ---- events: a new one has the next number, and asks what is asked for

  module _ (K : AskedOf → Type 0) where
    abbrev MayBegin : TrafficState → TrafficState → Type 0
    MayBegin t u =
        (key : AskedOf) → K key → t.askers.next_transaction < u.askers.next_transaction → G t.askers.next_transaction key

    module _ (t : TrafficState) (w : AllEntries t.table.entries) where
      entries-joined : (n at : ℕ) → AllEntries (joined n at t).table.entries
      entries-joined n at = by (joiner n t.askers)
        where
          by : (a : Option Asker) → AllEntries
              (option_map_or (λ b. ticked at (record t { askers = ask.joined n t.askers })) a t).table.entries
          by None = w
          by (Some a) = w

      entries-begun : (list : ℕ) (question : PoolQuestion) (settings : Settings) (at : ℕ) → K (list, question)
          → MayBegin t (begun list question settings at t) → AllEntries (begun list question settings at t).table.entries
      entries-begun list question settings at k new = by (list_at list t.groups) new
        where
          more : (l : GroupListState) → G t.askers.next_transaction (list, question)
              → AllEntries (insert_entry nat_cmp t.table.entries t.askers.next_transaction (entry_of list question settings l))
          more l g = entries-inserted t.askers.next_transaction (entry_of list question settings l) t.table.entries w g

          grows : (p : Place) → place_for t.askers ≡ p
              → t.askers.next_transaction < (ask.begun_in p (until_of at t) t.askers).next_transaction
              → t.askers.next_transaction < (ask.begun (until_of at t) t.askers).next_transaction
          grows p is less =
              subst (λ (q : Place). t.askers.next_transaction < (ask.begun_in q (until_of at t) t.askers).next_transaction) (sym is) less

          place : (p : Place) (l : GroupListState) → place_for t.askers ≡ p
              → MayBegin t (begun_as p (entry_of list question settings l) list at t)
              → AllEntries (begun_as p (entry_of list question settings l) list at t).table.entries
          place Overloaded l is new = w
          place InFlight l is new = more l (new (list, question) k (grows InFlight is (omega arith)))
          place Waits l is new = more l (new (list, question) k (grows Waits is (omega arith)))

          by : (l : Option GroupListState)
              → MayBegin t (option_map_or (begun_with list question settings at t) l (ticked at t))
              → AllEntries (option_map_or (begun_with list question settings at t) l (ticked at t)).table.entries
          by None new = w
          by (Some l) new = place (place_for t.askers) l refl new

    entries-asked : (key : AskedOf) (settings : Settings) (at : ℕ) (s : PoolState) → AllEntries s.traffic.table.entries
        → K key → MayBegin s.traffic (ask_of key settings at s).traffic
        → AllEntries (ask_of key settings at s).traffic.table.entries
    entries-asked key settings at s w k new = by (joiner_of key s) new
      where
        joins : (n : Option ℕ) → AllEntries (option_map_or (join_in at s) n s).traffic.table.entries
        joins None = w
        joins (Some n) = entries-joined s.traffic w n at

        by : (a : Option Asker) → MayBegin s.traffic (join_or_begin a key settings at s).traffic
            → AllEntries (join_or_begin a key settings at s).traffic.table.entries
        by None new = entries-begun s.traffic w key.0 key.1 settings at k new
        by (Some a) new = joins (pool.number_of key s.questions)

    entries-asks : (list : Option ℕ) (question : PoolQuestion) (settings : Settings) (at : ℕ) (s : PoolState)
        → AllEntries s.traffic.table.entries → ((l : ℕ) → list ≡ Some l → K (l, question))
        → MayBegin s.traffic (after_asking list question settings at s).traffic
        → AllEntries (after_asking list question settings at s).traffic.table.entries
    entries-asks None question settings at s w k new = w
    entries-asks (Some list) question settings at s w k new = entries-asked (list, question) settings at s w (k list refl) new

  entries-came : (channel : ℕ) (octets : List ℕ) (at : ℕ) (t : TrafficState) → AllEntries t.table.entries
      → AllEntries (came channel octets at t).table.entries
  entries-came channel octets at t w = by (channel_at channel t.shared.channels)
    where
      by : (c : Option Channel) → AllEntries (ticked at (option_map_or (came_on channel octets t) c t)).table.entries
      by None = w
      by (Some c) = w

  entries-failed : (f : ChannelFailure) (at : ℕ) (t : TrafficState) → AllEntries t.table.entries
      → AllEntries (failed f at t).table.entries
  entries-failed f at t w = by (channel_at f.channel t.shared.channels)
    where
      by : (c : Option Channel) → AllEntries (ticked at (option_map_or (failed_on f t) c t)).table.entries
      by None = w
      by (Some c) = w

  abbrev pub Begins : PoolState → PoolEvent → Type 0
  Begins s e = (key : AskedOf) → AsksFor s e key → next_of s < next_of (after_event s e) → G (next_of s) key

  entries-event : (s : PoolState) (e : PoolEvent) → AllEntries s.traffic.table.entries → Begins s e
      → AllEntries (after_event s e).traffic.table.entries
  entries-event s (time_passes at) w new = w
  entries-event s (group_has group servers) w new = w
  entries-event s (is_asked group query options dnssec at) w new =
      entries-asks (AsksFor s (is_asked group query options dnssec at)) (list_of group s.traffic)
      (question_of query options dnssec) (settings_for s.options options) at s w (λ l is. (is, refl)) new
  entries-event s (octets_come channel octets at) w new = entries-came channel octets at s.traffic w
  entries-event s (channel_fails f at) w new = entries-failed f at s.traffic w
  entries-event s (is_forgotten a) w new = w

  pub each-event : (s : PoolState) (e : PoolEvent) → OfEach s → Begins s e → OfEach (after_event s e)
  each-event s e w new = record {
    table = entries-event s e w.table new;
    worked = subst (λ (c : Option CurrentState). IfSome c AtCurrent) (sym (current-event s e)) w.worked;
  }
