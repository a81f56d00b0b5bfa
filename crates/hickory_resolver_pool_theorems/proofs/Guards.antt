-- Why a thing is done.
use Rattle.std.proofs.Common.{◌≡◌, ◌≤◌, ℕ, Bool, true, false, cond, ◌&&◌, refl, ap, sym, subst, ◌∙◌, leb, leb-true, ltb}
use Rattle.std.specs.Prelude.{Option, None, Some, IfSome, unwrap_or, slice_get}
use Rattle.std.specs.Option.{is_some, option_map, option_map_or, option_or, option_and_then}
use Rattle.hickory_resolver_channels.specs.Channels.{channel_at, transaction_at, first_try, first_idle, has_place}
use Rattle.hickory_resolver_steps.specs.Ending.{first_done}
use Rattle.hickory_resolver_tries.specs.Heads.{head_of}
use Rattle.hickory_resolver_transactions.specs.Transaction.{wants_round, wanted, has_late, next_deadline}
use Rattle.hickory_resolver_traffic.specs.Doing.{doing, doing_for, going_on, is_ending, runs_out, is_empty, forward, round_or_place, sends_or_blocks, at_rest, same_moment, by_failure, id_of}
use Rattle.hickory_resolver_traffic.specs.Inbox.{MessageValue, first_message, first_failure, first_unread}
use Rattle.hickory_resolver_traffic.specs.Table.{CurrentState, EntryState, has_entry, first_due, first_blocked, is_blocked}
use Rattle.hickory_resolver_traffic.specs.Tasks.{task_of, outgoing_task, if_by, if_kept_enough, came_in, ran_out, due_in, late_in, free_in, idle_in, free_one, message_in, failure_in, message_task, failure_task, failed_task, hears_or_doubts, passes_or_doubts, is_response, fails_or_drops, expires_or_undates, refused_one, refuses_or_strays, frees_or_unblocks, kept_until}
use Rattle.hickory_resolver_traffic.specs.Traffic.{TrafficState, OutgoingValue}
use Rattle.hickory_resolver_traffic.specs.declared.doing.Doing.{Doing}
use Rattle.hickory_resolver_traffic.specs.declared.doing.Doing.TheVariants.{PutsBack, Expires, Leaves, Ends, Draws, BeginsRound, GivesUp, Blocks, Sends, Dates, Rests}
use Rattle.hickory_resolver_traffic.specs.declared.entry.ToDo.{ToDo}
use Rattle.hickory_resolver_traffic.specs.declared.entry.ToDo.TheVariants as todo
use Rattle.hickory_resolver_traffic.specs.declared.inbox.ChannelFailure.{ChannelFailure}
use Rattle.hickory_resolver_traffic.specs.declared.inbox.Failure.{Failure}
use Rattle.hickory_resolver_traffic.specs.declared.inbox.Failure.TheVariants as failure
use Rattle.hickory_resolver_traffic.specs.declared.tasks.Task.{Task}
use Rattle.hickory_resolver_traffic.specs.declared.tasks.Task.TheVariants as task

-- ---- a deadline is noted only where it is another one

abbrev pub IsNew : EntryState → Doing → Type 0
IsNew e (Dates due) = same_moment due e.due ≡ false
IsNew e other = Unit {0}

new-if : (e : EntryState) (b : Bool) (one two : Doing) → IsNew e one → IsNew e two → IsNew e (cond b one two)
new-if e true one two h k = h
new-if e false one two h k = k

new-map : {A : Type 0} (e : EntryState) (f : A → Doing) (o : Option A) (d : Doing) → ((a : A) → IsNew e (f a)) → IsNew e d
    → IsNew e (option_map_or f o d)
new-map e f None d h k = k
new-map e f (Some a) d h k = h a

new-rest : (e : EntryState) → IsNew e (at_rest e)
new-rest e = by (same_moment (next_deadline e.flying.flight.transaction) e.due) refl
  where
    by : (b : Bool) → same_moment (next_deadline e.flying.flight.transaction) e.due ≡ b
        → IsNew e (cond b Rests (Dates (next_deadline e.flying.flight.transaction)))
    by true is = tt
    by false is = is

new-forward : (n : ℕ) (e : EntryState) (t : TrafficState) → IsNew e (forward n e t)
new-forward n e t =
    new-if e (wants_round e.flying.flight.transaction) (round_or_place e)
    (cond (is_some (wanted e.flying.flight.transaction)) (sends_or_blocks n e.flying.flight.transaction t) (at_rest e))
    (new-map e BeginsRound e.place Draws (λ place. tt) tt)
    (new-if e (is_some (wanted e.flying.flight.transaction)) (sends_or_blocks n e.flying.flight.transaction t) (at_rest e)
    (new-if e (has_place t.shared.channels) Sends
    (cond (has_late e.flying.flight.transaction) GivesUp (cond (is_blocked n t.table) Sends Blocks)) tt
    (new-if e (has_late e.flying.flight.transaction) GivesUp (cond (is_blocked n t.table) Sends Blocks) tt
    (new-if e (is_blocked n t.table) Sends Blocks tt tt))) (new-rest e))

new-going : (n : ℕ) (e : EntryState) (t : TrafficState) → IsNew e (going_on n e t)
new-going n e t =
    new-if e (is_ending n e.flying t) (cond (is_empty e.flying.tries) Ends (Leaves 0))
    (cond (runs_out e t) Expires (option_map_or Leaves (first_done e.flying) (forward n e t)))
    (new-if e (is_empty e.flying.tries) Ends (Leaves 0) tt tt)
    (new-if e (runs_out e t) Expires (option_map_or Leaves (first_done e.flying) (forward n e t)) tt
    (new-map e Leaves (first_done e.flying) (forward n e t) (λ place. tt) (new-forward n e t)))

pub new-date : (c : CurrentState) (t : TrafficState) → IsNew c.entry (doing c t)
new-date c t = by c.to_do
  where
    why : (f : Failure) → IsNew c.entry (by_failure f)
    why failure.Local = tt
    why failure.Refused = tt
    why failure.Unreachable = tt
    why failure.Closed = tt

    by : (d : ToDo) → IsNew c.entry (doing_for d c.number c.entry t)
    by todo.GoOn = new-going c.number c.entry t
    by todo.Hear = tt
    by todo.Doubt = tt
    by todo.Fail = new-map c.entry (λ f. by_failure f.why) (first_failure t.inbox) PutsBack (λ f. why f.why) tt
    by todo.Quit = tt
    by todo.PutBack = tt
    by todo.Expire = tt
    by todo.Free = tt
    by todo.Refuse = tt

-- ---- what is begun where no transaction is worked on, and nothing goes out

abbrev pub Why : TrafficState → Task → Type 0
Why t task.Opens = ⊥
Why t task.Writes = ⊥
Why t task.Doubts = is_some (first_message t.inbox) ≡ true
Why t task.PassesBy = is_some (first_message t.inbox) ≡ true
Why t (task.Cuts channel) = first_unread t.inbox ≡ Some channel
Why t (task.ClosesFailed channel) = is_some (first_failure t.inbox) ≡ true
Why t task.DropsFailure = is_some (first_failure t.inbox) ≡ true
Why t (task.TakesReady n) = slice_get t.ready 0 ≡ Some n
Why t (task.TakesUp n todo.Hear) = is_some (first_message t.inbox) ≡ true
Why t (task.TakesUp n todo.Fail) =
    (f : ChannelFailure) × (first_failure t.inbox ≡ Some f) × (is_some (channel_at f.channel t.shared.channels) ≡ true)
    × ((one : ℕ × ℕ) × (first_try f.channel t.shared.channels ≡ Some one) × (one.1 ≡ n))
Why t (task.TakesUp n todo.Expire) = (due : ℕ) × (first_due t.table ≡ Some (due, n)) × (due ≤ t.clock)
Why t (task.TakesUp n todo.Free) = first_blocked t.table ≡ Some n
Why t (task.TakesUp n todo.Refuse) = has_entry n t.table ≡ true
Why t (task.TakesUp n other) = ⊥
Why t (task.Undates due n) = (first_due t.table ≡ Some (due, n)) × (has_entry n t.table ≡ false)
Why t (task.Strays n) = has_entry n t.table ≡ false
Why t (task.Unblocks n) = (first_blocked t.table ≡ Some n) × (has_entry n t.table ≡ false)
Why t (task.ClosesIdle channel) = (until : ℕ) × (first_idle t.shared.channels ≡ Some (until, channel))
Why t task.Admits = Unit {0}

module _ (t : TrafficState) where
  abbrev WhyIf : Option Task → Type 0
  WhyIf o = IfSome o (Why t)

  why-or : (a b : Option Task) → WhyIf a → WhyIf b → WhyIf (option_or a b)
  why-or None b h k = k
  why-or (Some what) b h k = h

  why-map : {A : Type 0} (f : A → Task) (o : Option A) → ((a : A) → o ≡ Some a → Why t (f a)) → WhyIf (option_map f o)
  why-map f None h = tt
  why-map f (Some a) h = h a refl

  why-unwrap : (o : Option Task) → WhyIf o → Why t (unwrap_or o task.Admits)
  why-unwrap None h = tt
  why-unwrap (Some what) h = h

  some-of : {A : Type 0} (o : Option A) (a : A) → o ≡ Some a → is_some o ≡ true
  some-of o a e = ap (λ x. is_some x) e

  why-message : (m : MessageValue) → first_message t.inbox ≡ Some m → Why t (message_task t m.channel m.octets)
  why-message m is = by (transaction_at m.channel (id_of m.octets) t.shared.channels)
    where
      some : is_some (first_message t.inbox) ≡ true
      some = ap (λ (x : Option MessageValue). is_some x) is

      passes : (b : Bool) → Why t (cond b task.PassesBy task.Doubts)
      passes true = some
      passes false = some

      hears : (n : ℕ) (b : Bool) → Why t (cond b (task.TakesUp n todo.Hear) task.Doubts)
      hears n true = some
      hears n false = some

      by : (n : Option ℕ) → Why t (option_map_or (hears_or_doubts t.table) n (passes_or_doubts m.octets))
      by None = passes (option_map_or is_response (head_of m.octets) false)
      by (Some n) = hears n (has_entry n t.table)

  why-failure : (f : ChannelFailure) → first_failure t.inbox ≡ Some f → Why t (failure_task t f)
  why-failure f is = by (is_some (channel_at f.channel t.shared.channels)) refl
    where
      some : is_some (first_failure t.inbox) ≡ true
      some = ap (λ (x : Option ChannelFailure). is_some x) is

      fails : is_some (channel_at f.channel t.shared.channels) ≡ true → (one : ℕ × ℕ)
          → first_try f.channel t.shared.channels ≡ Some one → (b : Bool)
          → Why t (cond b (task.TakesUp one.1 todo.Fail) task.DropsFailure)
      fails opened one try_is true = (f, is, opened, (one, try_is, refl))
      fails opened one try_is false = some

      tries : is_some (channel_at f.channel t.shared.channels) ≡ true → (one : Option (ℕ × ℕ))
          → first_try f.channel t.shared.channels ≡ one
          → Why t (option_map_or (fails_or_drops t.table) one (task.ClosesFailed f.channel))
      tries opened None try_is = some
      tries opened (Some one) try_is = fails opened one try_is (has_entry one.1 t.table)

      by : (opened : Bool) → is_some (channel_at f.channel t.shared.channels) ≡ opened
          → Why t (cond opened (failed_task f.channel t) task.DropsFailure)
      by true opened = tries opened (first_try f.channel t.shared.channels) refl
      by false opened = some

  why-due : (due : ℕ × ℕ) → option_and_then (if_by t.clock) (first_due t.table) ≡ Some due
      → Why t (expires_or_undates t.table due)
  why-due due is = by (first_due t.table) refl is
    where
      come : (first : ℕ × ℕ) (b : Bool) → leb first.0 t.clock ≡ b → cond b (Some first) None ≡ Some due
          → (first ≡ due) × (first.0 ≤ t.clock)
      come first true le e = let same : first ≡ due = cc in (same, leb-true first.0 t.clock le)
      come first false le e = absurd cc

      has : (first_due t.table ≡ Some due) → (due.0 ≤ t.clock) → (b : Bool) → has_entry due.1 t.table ≡ b
          → Why t (cond b (task.TakesUp due.1 todo.Expire) (task.Undates due.0 due.1))
      has found le true h = (due.0, found, le)
      has found le false h = (found, h)

      by : (first : Option (ℕ × ℕ)) → first_due t.table ≡ first → option_and_then (if_by t.clock) first ≡ Some due
          → Why t (expires_or_undates t.table due)
      by None found e = absurd cc
      by (Some first) found e =
          let both = come first (leb first.0 t.clock) refl e in
          has (found ∙ ap (λ (p : ℕ × ℕ). Some p) both.0)
          (subst (λ (p : ℕ × ℕ). p.0 ≤ t.clock) both.0 both.1) (has_entry due.1 t.table) refl

  why-late : (n : ℕ) → Why t (refuses_or_strays t.table n)
  why-late n = by (has_entry n t.table) refl
    where
      by : (b : Bool) → has_entry n t.table ≡ b → Why t (cond b (task.TakesUp n todo.Refuse) (task.Strays n))
      by true h = h
      by false h = h

  why-free : (n : ℕ) → free_one t ≡ Some n → Why t (frees_or_unblocks t.table n)
  why-free n is = has (first (ltb 0 t.freed && has_place t.shared.channels) is) (has_entry n t.table) refl
    where
      first : (b : Bool) → cond b (first_blocked t.table) None ≡ Some n → first_blocked t.table ≡ Some n
      first true e = e
      first false e = absurd cc

      has : first_blocked t.table ≡ Some n → (b : Bool) → has_entry n t.table ≡ b
          → Why t (cond b (task.TakesUp n todo.Free) (task.Unblocks n))
      has found true h = found
      has found false h = (found, h)

  why-came : WhyIf (came_in t)
  why-came =
      why-or (failure_in t) (option_or (message_in t) (option_or cuts (option_or (free_in t) ready)))
      (why-map (failure_task t) (first_failure t.inbox) why-failure)
      (why-or (message_in t) (option_or cuts (option_or (free_in t) ready))
      (why-map (λ m. message_task t m.channel m.octets) (first_message t.inbox) why-message)
      (why-or cuts (option_or (free_in t) ready)
      (why-map (λ channel. task.Cuts channel) (first_unread t.inbox) (λ channel is. is))
      (why-or (free_in t) ready
      (why-map (frees_or_unblocks t.table) (free_one t) why-free)
      (why-map (λ n. task.TakesReady n) (slice_get t.ready 0) (λ n is. is)))))
    where
      cuts : Option Task
      cuts = option_map task.Cuts (first_unread t.inbox)

      ready : Option Task
      ready = option_map task.TakesReady (slice_get t.ready 0)

  why-idle : (p : ℕ × ℕ) → option_and_then (if_kept_enough t) (first_idle t.shared.channels) ≡ Some p
      → Why t (task.ClosesIdle p.1)
  why-idle p is = by (first_idle t.shared.channels) refl is
    where
      kept : (first : ℕ × ℕ) (b : Bool) → cond b (Some first) None ≡ Some p → first ≡ p
      kept first true e = cc
      kept first false e = absurd cc

      by : (first : Option (ℕ × ℕ)) → first_idle t.shared.channels ≡ first
          → option_and_then (if_kept_enough t) first ≡ Some p → Why t (task.ClosesIdle p.1)
      by None found e = absurd cc
      by (Some first) found e =
          (p.0, found ∙ ap (λ (q : ℕ × ℕ). Some q) (kept first (leb (kept_until t first.0) t.clock) e))

  why-ran : WhyIf (ran_out t)
  why-ran =
      why-or (due_in t) (option_or (late_in t) (idle_in t))
      (why-map (expires_or_undates t.table) (option_and_then (if_by t.clock) (first_due t.table)) why-due)
      (why-or (late_in t) (idle_in t) late
      (why-map (λ p. task.ClosesIdle p.1) (option_and_then (if_kept_enough t) (first_idle t.shared.channels)) why-idle))
    where
      late : WhyIf (late_in t)
      late = why-map (refuses_or_strays t.table) (refused_one t) (λ n is. why-late n)

  pub why-task : t.outgoing ≡ None → Why t (task_of t)
  why-task calm =
      subst (λ (o : Option OutgoingValue). Why t (unwrap_or (option_or (option_map outgoing_task o) (option_or (came_in t) (ran_out t))) task.Admits))
      (sym calm) (why-unwrap (option_or (came_in t) (ran_out t)) (why-or (came_in t) (ran_out t) why-came why-ran))
