-- What is begun where no transaction is worked on and nothing goes out, with all that is known of it.
use Rattle.std.proofs.Common.{◌≡◌, ◌≤◌, ℕ, Bool, true, false, cond, ◌&&◌, refl, ap, sym, subst, ◌∙◌, leb, leb-true, ltb}
use Rattle.std.specs.Prelude.{Option, None, Some, IfSome, unwrap_or, slice_get}
use Rattle.std.specs.Option.{is_some, option_map, option_map_or, option_or, option_and_then}
use Rattle.hickory_resolver_askers.specs.Askers.{AskersState, WaitingValue, first_waiting, if_late, late_one}
use Rattle.hickory_resolver_askers.specs.Askers as ask
use Rattle.hickory_resolver_channels.specs.Channels.{channel_at, transaction_at, first_try, first_idle, has_place}
use Rattle.hickory_resolver_tries.specs.Heads.{head_of}
use Rattle.hickory_resolver_traffic.specs.Doing.{id_of}
use Rattle.hickory_resolver_traffic.specs.Inbox.{MessageValue, first_message, first_failure, first_unread}
use Rattle.hickory_resolver_traffic.specs.Table.{has_entry, first_due, first_blocked}
use Rattle.hickory_resolver_traffic.specs.Tasks.{task_of, outgoing_task, if_by, if_kept_enough, came_in, ran_out, due_in, late_in, free_in, idle_in, free_one, message_in, message_task, failure_task, failed_task, hears_or_doubts, passes_or_doubts, is_response, fails_or_drops, expires_or_undates, refused_one, refuses_or_strays, frees_or_unblocks, kept_until}
use Rattle.hickory_resolver_traffic.specs.Traffic.{TrafficState, OutgoingValue}
use Rattle.hickory_resolver_traffic.specs.declared.entry.ToDo.{ToDo}
use Rattle.hickory_resolver_traffic.specs.declared.entry.ToDo.TheVariants as todo
use Rattle.hickory_resolver_traffic.specs.declared.inbox.ChannelFailure.{ChannelFailure}
use Rattle.hickory_resolver_traffic.specs.declared.tasks.Task.{Task}
use Rattle.hickory_resolver_traffic.specs.declared.tasks.Task.TheVariants as task

module _ (t : TrafficState) where
  -- no channel failed
  abbrev pub IsSound : Type 0
  IsSound = first_failure t.inbox ≡ None

  -- a transaction has the first try on the first channel that failed
  pub record IsFailing (n : ℕ) : Type 0 where
    pub failure : ChannelFailure
    pub first : first_failure t.inbox ≡ Some failure
    pub is_open : is_some (channel_at failure.channel t.shared.channels) ≡ true
    pub id : ℕ
    pub tried : first_try failure.channel t.shared.channels ≡ Some (id, n)
    pub there : has_entry n t.table ≡ true

  -- its deadline is the first, and past, and none goes on before
  pub record IsPast (due n : ℕ) : Type 0 where
    pub sound : IsSound
    pub none_ready : slice_get t.ready 0 ≡ None
    pub first : first_due t.table ≡ Some (due, n)
    pub come : due ≤ t.clock

  -- a channel is free, and it waits for one before all others
  pub record IsFree (n : ℕ) : Type 0 where
    pub sound : IsSound
    pub first : first_blocked t.table ≡ Some n
    pub place : has_place t.shared.channels ≡ true

  abbrev pub TakesIs : ℕ → ToDo → Type 0
  TakesIs n todo.Hear = (is_some (first_message t.inbox) ≡ true) × (has_entry n t.table ≡ true)
  TakesIs n todo.Fail = IsFailing n
  TakesIs n todo.Expire = ((due : ℕ) × IsPast due n) × (has_entry n t.table ≡ true)
  TakesIs n todo.Free = IsFree n × (has_entry n t.table ≡ true)
  TakesIs n todo.Refuse = IsSound × (has_entry n t.table ≡ true)
  TakesIs n other = ⊥

  abbrev pub TaskIs : Task → Type 0
  TaskIs task.Opens = ⊥
  TaskIs task.Writes = ⊥
  TaskIs task.Doubts = is_some (first_message t.inbox) ≡ true
  TaskIs task.PassesBy = is_some (first_message t.inbox) ≡ true
  TaskIs (task.Cuts channel) = first_unread t.inbox ≡ Some channel
  TaskIs (task.ClosesFailed channel) =
      (is_some (first_failure t.inbox) ≡ true) × (first_try channel t.shared.channels ≡ None)
      × (is_some (channel_at channel t.shared.channels) ≡ true)
  TaskIs task.DropsFailure = is_some (first_failure t.inbox) ≡ true
  TaskIs (task.TakesReady n) = IsSound × (slice_get t.ready 0 ≡ Some n)
  TaskIs (task.TakesUp n to_do) = TakesIs n to_do
  TaskIs (task.Undates due n) = IsPast due n × (has_entry n t.table ≡ false)
  TaskIs (task.Strays n) =
      IsSound × ((w : WaitingValue) × (first_waiting t.askers ≡ Some (n, w))) × (has_entry n t.table ≡ false)
  TaskIs (task.Unblocks n) = IsSound × (first_blocked t.table ≡ Some n)
  TaskIs (task.ClosesIdle channel) = IsSound × ((until : ℕ) × (first_idle t.shared.channels ≡ Some (until, channel)))
  TaskIs task.Admits = IsSound × (slice_get t.ready 0 ≡ None)

  abbrev TaskIf : Option Task → Type 0
  TaskIf o = IfSome o TaskIs

  task-else : (a b : Option Task) → TaskIf a → (a ≡ None → TaskIf b) → TaskIf (option_or a b)
  task-else None b h k = k refl
  task-else (Some what) b h k = h

  task-or : (a b : Option Task) → TaskIf a → TaskIf b → TaskIf (option_or a b)
  task-or None b h k = k
  task-or (Some what) b h k = h

  task-map : {A : Type 0} (f : A → Task) (o : Option A) → ((a : A) → o ≡ Some a → TaskIs (f a)) → TaskIf (option_map f o)
  task-map f None h = tt
  task-map f (Some a) h = h a refl

  task-unwrap : (o : Option Task) → TaskIf o → (o ≡ None → TaskIs task.Admits) → TaskIs (unwrap_or o task.Admits)
  task-unwrap None h last = last refl
  task-unwrap (Some what) h last = h

  or-none : (a b : Option Task) → option_or a b ≡ None → a ≡ None
  or-none None b h = refl
  or-none (Some what) b h = absurd cc

  -- ---- a channel failed

  task-failure : (f : ChannelFailure) → first_failure t.inbox ≡ Some f → TaskIs (failure_task t f)
  task-failure f is = by (is_some (channel_at f.channel t.shared.channels)) refl
    where
      some : is_some (first_failure t.inbox) ≡ true
      some = ap (λ (x : Option ChannelFailure). is_some x) is

      fails : is_some (channel_at f.channel t.shared.channels) ≡ true → (one : ℕ × ℕ)
          → first_try f.channel t.shared.channels ≡ Some one → (b : Bool) → has_entry one.1 t.table ≡ b
          → TaskIs (cond b (task.TakesUp one.1 todo.Fail) task.DropsFailure)
      fails opened one tried true there = record {
        failure = f;
        first = is;
        is_open = opened;
        id = one.0;
        tried = tried;
        there = there;
      }
      fails opened one tried false there = some

      tries : is_some (channel_at f.channel t.shared.channels) ≡ true → (one : Option (ℕ × ℕ))
          → first_try f.channel t.shared.channels ≡ one
          → TaskIs (option_map_or (fails_or_drops t.table) one (task.ClosesFailed f.channel))
      tries opened None tried = (some, tried, opened)
      tries opened (Some one) tried = fails opened one tried (has_entry one.1 t.table) refl

      by : (opened : Bool) → is_some (channel_at f.channel t.shared.channels) ≡ opened
          → TaskIs (cond opened (failed_task f.channel t) task.DropsFailure)
      by true opened = tries opened (first_try f.channel t.shared.channels) refl
      by false opened = some

  -- ---- a message came

  task-message : (m : MessageValue) → first_message t.inbox ≡ Some m → TaskIs (message_task t m.channel m.octets)
  task-message m is = by (transaction_at m.channel (id_of m.octets) t.shared.channels)
    where
      some : is_some (first_message t.inbox) ≡ true
      some = ap (λ (x : Option MessageValue). is_some x) is

      passes : (b : Bool) → TaskIs (cond b task.PassesBy task.Doubts)
      passes true = some
      passes false = some

      hears : (n : ℕ) (b : Bool) → has_entry n t.table ≡ b → TaskIs (cond b (task.TakesUp n todo.Hear) task.Doubts)
      hears n true there = (some, there)
      hears n false there = some

      by : (n : Option ℕ) → TaskIs (option_map_or (hears_or_doubts t.table) n (passes_or_doubts m.octets))
      by None = passes (option_map_or is_response (head_of m.octets) false)
      by (Some n) = hears n (has_entry n t.table) refl

  -- ---- what runs out

  module _ (sound : IsSound) where
    task-due : slice_get t.ready 0 ≡ None → (due : ℕ × ℕ) → option_and_then (if_by t.clock) (first_due t.table) ≡ Some due
        → TaskIs (expires_or_undates t.table due)
    task-due calm due is = by (first_due t.table) refl is
      where
        come : (first : ℕ × ℕ) (b : Bool) → leb first.0 t.clock ≡ b → cond b (Some first) None ≡ Some due
            → (first ≡ due) × (first.0 ≤ t.clock)
        come first true le e = let same : first ≡ due = cc in (same, leb-true first.0 t.clock le)
        come first false le e = absurd cc

        has : (first_due t.table ≡ Some due) → (due.0 ≤ t.clock) → (b : Bool) → has_entry due.1 t.table ≡ b
            → TaskIs (cond b (task.TakesUp due.1 todo.Expire) (task.Undates due.0 due.1))
        has found le true h = ((due.0, record { sound = sound; none_ready = calm; first = found; come = le }), h)
        has found le false h = (record { sound = sound; none_ready = calm; first = found; come = le }, h)

        by : (first : Option (ℕ × ℕ)) → first_due t.table ≡ first → option_and_then (if_by t.clock) first ≡ Some due
            → TaskIs (expires_or_undates t.table due)
        by None found e = absurd cc
        by (Some first) found e =
            let both = come first (leb first.0 t.clock) refl e in
            has (found ∙ ap (λ (p : ℕ × ℕ). Some p) both.0)
            (subst (λ (p : ℕ × ℕ). p.0 ≤ t.clock) both.0 both.1) (has_entry due.1 t.table) refl

    task-late : (n : ℕ) → refused_one t ≡ Some n → TaskIs (refuses_or_strays t.table n)
    task-late n is = by (has_entry n t.table) refl
      where
        first : (o : Option (ℕ × WaitingValue)) → first_waiting t.askers ≡ o
            → option_and_then (if_late t.clock) o ≡ Some n
            → (w : WaitingValue) × (first_waiting t.askers ≡ Some (n, w))
        first None at h = absurd cc
        first (Some p) at h = late (leb p.1.until t.clock) h
          where
            late : (b : Bool) → cond b (Some p.0) None ≡ Some n → (w : WaitingValue) × (first_waiting t.askers ≡ Some (n, w))
            late true e =
                let same : p.0 ≡ n = cc in (p.1, at ∙ ap (λ (m : ℕ). Some (m, p.1)) same)
            late false e = absurd cc

        full : (b : Bool) → cond b None (late_one t.clock t.askers) ≡ Some n
            → (w : WaitingValue) × (first_waiting t.askers ≡ Some (n, w))
        full true e = absurd cc
        full false e = first (first_waiting t.askers) refl e

        by : (b : Bool) → has_entry n t.table ≡ b → TaskIs (cond b (task.TakesUp n todo.Refuse) (task.Strays n))
        by true h = (sound, h)
        by false h = (sound, full (ask.has_place t.askers) is, h)

    task-free : (n : ℕ) → free_one t ≡ Some n → TaskIs (frees_or_unblocks t.table n)
    task-free n is = has (first (ltb 0 t.freed) (has_place t.shared.channels) refl is) (has_entry n t.table) refl
      where
        first : (some place : Bool) → has_place t.shared.channels ≡ place
            → cond (some && place) (first_blocked t.table) None ≡ Some n → IsFree n
        first true true there e = record { sound = sound; first = e; place = there }
        first true false there e = absurd cc
        first false place there e = absurd cc

        has : IsFree n → (b : Bool) → has_entry n t.table ≡ b
            → TaskIs (cond b (task.TakesUp n todo.Free) (task.Unblocks n))
        has free true h = (free, h)
        has free false h = (sound, free.first)

    task-idle : (p : ℕ × ℕ) → option_and_then (if_kept_enough t) (first_idle t.shared.channels) ≡ Some p
        → TaskIs (task.ClosesIdle p.1)
    task-idle p is = by (first_idle t.shared.channels) refl is
      where
        kept : (first : ℕ × ℕ) (b : Bool) → cond b (Some first) None ≡ Some p → first ≡ p
        kept first true e = cc
        kept first false e = absurd cc

        by : (first : Option (ℕ × ℕ)) → first_idle t.shared.channels ≡ first
            → option_and_then (if_kept_enough t) first ≡ Some p → TaskIs (task.ClosesIdle p.1)
        by None found e = absurd cc
        by (Some first) found e =
            (sound, (p.0, found ∙ ap (λ (q : ℕ × ℕ). Some q) (kept first (leb (kept_until t first.0) t.clock) e)))

    task-ran : slice_get t.ready 0 ≡ None → TaskIf (ran_out t)
    task-ran calm =
        task-or (due_in t) (option_or (late_in t) (idle_in t))
        (task-map (expires_or_undates t.table) (option_and_then (if_by t.clock) (first_due t.table)) (task-due calm))
        (task-or (late_in t) (idle_in t)
        (task-map (refuses_or_strays t.table) (refused_one t) task-late)
        (task-map (λ p. task.ClosesIdle p.1) (option_and_then (if_kept_enough t) (first_idle t.shared.channels)) task-idle))

    abbrev goes_next : Option Task
    goes_next = option_or (free_in t) (option_map task.TakesReady (slice_get t.ready 0))

    abbrev others : Option Task
    others = option_or (message_in t) (option_or (option_map task.Cuts (first_unread t.inbox)) goes_next)

    task-others : TaskIf others
    task-others =
        task-or (message_in t) (option_or (option_map task.Cuts (first_unread t.inbox)) goes_next)
        (task-map (λ m. message_task t m.channel m.octets) (first_message t.inbox) task-message)
        (task-or (option_map task.Cuts (first_unread t.inbox)) goes_next
        (task-map (λ channel. task.Cuts channel) (first_unread t.inbox) (λ channel is. is))
        (task-or (free_in t) (option_map task.TakesReady (slice_get t.ready 0))
        (task-map (frees_or_unblocks t.table) (free_one t) task-free)
        (task-map (λ n. task.TakesReady n) (slice_get t.ready 0) (λ n is. (sound, is)))))

    none-left : (a b c : Option Task) (ready : Option ℕ)
        → option_or a (option_or b (option_or c (option_map task.TakesReady ready))) ≡ None → ready ≡ None
    none-left None None None None h = refl
    none-left None None None (Some n) h = absurd cc
    none-left None None (Some c) ready h = absurd cc
    none-left None (Some b) c ready h = absurd cc
    none-left (Some a) b c ready h = absurd cc

    calm-of : others ≡ None → slice_get t.ready 0 ≡ None
    calm-of h =
        none-left (message_in t) (option_map task.Cuts (first_unread t.inbox)) (free_in t) (slice_get t.ready 0) h

  pub task-is : t.outgoing ≡ None → TaskIs (task_of t)
  task-is calm =
      subst (λ (o : Option OutgoingValue). TaskIs (unwrap_or (option_or (option_map outgoing_task o) (option_or (came_in t) (ran_out t))) task.Admits))
      (sym calm) (by (first_failure t.inbox) refl)
    where
      by : (f : Option ChannelFailure) → first_failure t.inbox ≡ f
          → TaskIs (unwrap_or (option_or (option_or (option_map (failure_task t) f)
          (option_or (message_in t) (option_or (option_map task.Cuts (first_unread t.inbox))
          (option_or (free_in t) (option_map task.TakesReady (slice_get t.ready 0))))))
          (ran_out t)) task.Admits)
      by None none =
          task-unwrap (option_or (others none) (ran_out t))
          (task-else (others none) (ran_out t) (task-others none) (λ h. task-ran none (calm-of none h)))
          (λ h. (none, calm-of none (or-none (others none) (ran_out t) h)))
      by (Some f) is = task-failure f is
