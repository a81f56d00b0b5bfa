-- Where nothing is left to be done, what is waited for lies ahead.
use Rattle.std.proofs.Common.{◌≡◌, ◌<◌, ℕ, Bool, true, false, cond, refl, ap, ap₂, sym, subst, ◌∙◌, true≢false, leb, leb-false, arith}
use Rattle.std.specs.Prelude.{Option, None, Some, IfSome, slice_get, unwrap_or}
use Rattle.std.specs.Option.{is_some, option_map, option_map_or, option_or, option_and_then}
use Rattle.hickory_resolver_askers.specs.Askers.{AskersState, WaitingValue, first_waiting, if_late, late_one, to_admit}
use Rattle.hickory_resolver_askers.specs.Askers as ask
use Rattle.hickory_resolver_channels.specs.Channels.{channel_at, transaction_at, first_try, first_idle}
use Rattle.hickory_resolver_tries.specs.Heads.{head_of}
use Rattle.hickory_resolver_traffic.specs.Doing.{doing, closed_by, id_of}
use Rattle.hickory_resolver_traffic.specs.Table.{CurrentState, has_entry, first_due, first_blocked}
use Rattle.hickory_resolver_traffic.specs.Inbox.{MessageValue, first_message, first_failure, first_unread}
use Rattle.hickory_resolver_traffic.specs.declared.inbox.ChannelFailure.{ChannelFailure}
use Rattle.hickory_resolver_traffic.specs.Tasks.{task_of, after_task, did, outgoing_task, took_up, did_open, did_write, taken_up, opening_of, if_by, if_kept_enough, came_in, ran_out, due_in, refused_one, late_in, free_in, idle_in, free_one, message_in, failure_in, message_task, failure_task, failed_task, hears_or_doubts, passes_or_doubts, is_response, fails_or_drops, without_taken, expires_or_undates, refuses_or_strays, frees_or_unblocks, earlier, next_deadline}
use Rattle.hickory_resolver_traffic.specs.Openings.{OpeningValue}
use Rattle.hickory_resolver_traffic.specs.Traffic.{TrafficState, OutgoingValue}
use Rattle.hickory_resolver_traffic.specs.declared.entry.ToDo.TheVariants.{GoOn, Hear, Fail, Expire, Free, Refuse}
use Rattle.hickory_resolver_traffic.specs.declared.doing.Doing.{Doing}
use Rattle.hickory_resolver_traffic.specs.declared.starting.Did.{Did}
use Rattle.hickory_resolver_traffic.specs.declared.starting.Did.TheVariants as done
use Rattle.hickory_resolver_traffic.specs.declared.tasks.Task.{Task}
use Rattle.hickory_resolver_traffic.specs.declared.tasks.Task.TheVariants as task
use Rattle.hickory_resolver_pool.specs.Pool.{PoolState, action_of, current_after, started, close_or_continue, let_go_action, Starts, StepsBy, StepsIn, StepsAs, Steps, scene_of, is_end, is_put}
use Rattle.hickory_resolver_pool.specs.declared.pool.Action.TheVariants as action
use Rattle.hickory_resolver_pool_theorems.specs.Ends.{IsAtRest, RestsUntilDue}

-- ---- what does nothing

idle-of : (d : Did) → None ≡ action_of d → d ≡ done.Idle
idle-of done.Idle e = refl
idle-of done.More e = absurd cc
idle-of (done.Opened opening) e = absurd cc
idle-of (done.Written sent) e = absurd cc
idle-of (done.Closed channel) e = absurd cc
idle-of (done.TookUp current) e = absurd cc

took-some : (c : Option CurrentState) → took_up c ≡ done.Idle → ⊥
took-some None e = cc
took-some (Some c) e = cc

module _ (t : TrafficState) where
  -- only to admit the next, where there is none
  abbrev IsNone : Task → Type 0
  IsNone what = (what ≡ task.Admits) × (to_admit t.askers ≡ None)

  none-done : (what : Task) → did what t ≡ done.Idle → IsNone what
  none-done task.Opens e = absurd (by (option_and_then (opening_of t) t.outgoing) e)
    where
      by : (o : Option OpeningValue) → did_open o ≡ done.Idle → ⊥
      by None h = cc
      by (Some o) h = cc
  none-done task.Writes e = absurd (by t.outgoing e)
    where
      by : (o : Option OutgoingValue) → did_write o ≡ done.Idle → ⊥
      by None h = cc
      by (Some o) h = cc
  none-done task.Doubts e = absurd cc
  none-done task.PassesBy e = absurd cc
  none-done (task.Cuts channel) e = absurd cc
  none-done (task.ClosesFailed channel) e = absurd cc
  none-done task.DropsFailure e = absurd cc
  none-done (task.TakesReady n) e = absurd (took-some (taken_up n GoOn t.table) e)
  none-done (task.TakesUp n to_do) e = absurd (took-some (taken_up n to_do t.table) e)
  none-done (task.Undates due n) e = absurd cc
  none-done (task.Strays n) e = absurd cc
  none-done (task.Unblocks n) e = absurd cc
  none-done (task.ClosesIdle channel) e = absurd cc
  none-done task.Admits e = by (to_admit t.askers) refl e
    where
      by : (first : Option (ℕ × WaitingValue)) → to_admit t.askers ≡ first
          → option_map_or (λ f. took_up (taken_up f.0 GoOn t.table)) first done.Idle ≡ done.Idle → IsNone task.Admits
      by None is h = (refl, is)
      by (Some f) is h = absurd (took-some (taken_up f.0 GoOn t.table) h)

-- ---- it admits the next only where there is nothing else to be done

abbrev is_admit : Task → Bool
is_admit task.Admits = true
is_admit other = false

abbrev IsOther : Option Task → Type 0
IsOther o = IfSome o (λ what. is_admit what ≡ false)

or-other : (a b : Option Task) → IsOther a → IsOther b → IsOther (option_or a b)
or-other None b h k = k
or-other (Some what) b h k = h

map-other : {A : Type 0} (f : A → Task) (o : Option A) → ((a : A) → is_admit (f a) ≡ false) → IsOther (option_map f o)
map-other f None h = tt
map-other f (Some a) h = h a

none-other : (o : Option Task) → IsOther o → is_admit (unwrap_or o task.Admits) ≡ true → o ≡ None
none-other None h e = refl
none-other (Some what) h e = absurd (true≢false (sym e ∙ h))

if-other : (b : Bool) (one two : Task) → is_admit one ≡ false → is_admit two ≡ false → is_admit (cond b one two) ≡ false
if-other true one two h k = h
if-other false one two h k = k

or-none : {A : Type 0} (a b : Option A) → option_or a b ≡ None → (a ≡ None) × (b ≡ None)
or-none None b e = (refl, e)
or-none (Some a) b e = absurd cc

map-none : {A B : Type 0} (f : A → B) (o : Option A) → option_map f o ≡ None → o ≡ None
map-none f None e = refl
map-none f (Some a) e = absurd cc

module _ (t : TrafficState) where
  outgoing-other : (o : OutgoingValue) → is_admit (outgoing_task o) ≡ false
  outgoing-other o = if-other o.sending.is_new task.Opens task.Writes refl refl

  message-other : (m : MessageValue) → is_admit (message_task t m.channel m.octets) ≡ false
  message-other m = by (transaction_at m.channel (id_of m.octets) t.shared.channels)
    where
      by : (n : Option ℕ)
          → is_admit (option_map_or (hears_or_doubts t.table) n (passes_or_doubts m.octets)) ≡ false
      by None = if-other (option_map_or is_response (head_of m.octets) false) task.PassesBy task.Doubts refl refl
      by (Some n) = if-other (has_entry n t.table) (task.TakesUp n Hear) task.Doubts refl refl

  failed-other : (channel : ℕ) → is_admit (failed_task channel t) ≡ false
  failed-other channel = by (first_try channel t.shared.channels)
    where
      by : (one : Option (ℕ × ℕ)) → is_admit (option_map_or (fails_or_drops t.table) one (task.ClosesFailed channel)) ≡ false
      by None = refl
      by (Some one) = if-other (has_entry one.1 t.table) (task.TakesUp one.1 Fail) task.DropsFailure refl refl

  failure-other : (f : ChannelFailure) → is_admit (failure_task t f) ≡ false
  failure-other f =
      if-other (is_some (channel_at f.channel t.shared.channels)) (failed_task f.channel t) task.DropsFailure
      (failed-other f.channel) refl

  came-other : IsOther (came_in t)
  came-other =
      or-other (failure_in t) (option_or (message_in t) (option_or cuts (option_or (free_in t) ready)))
      (map-other (failure_task t) (first_failure t.inbox) failure-other)
      (or-other (message_in t) (option_or cuts (option_or (free_in t) ready))
      (map-other (λ m. message_task t m.channel m.octets) (first_message t.inbox) message-other)
      (or-other cuts (option_or (free_in t) ready)
      (map-other (λ channel. task.Cuts channel) (first_unread t.inbox) (λ channel. refl))
      (or-other (free_in t) ready
      (map-other (frees_or_unblocks t.table) (free_one t)
      (λ n. if-other (has_entry n t.table) (task.TakesUp n Free) (task.Unblocks n) refl refl))
      (map-other (λ n. task.TakesReady n) (slice_get t.ready 0) (λ n. refl)))))
    where
      cuts : Option Task
      cuts = option_map task.Cuts (first_unread t.inbox)

      ready : Option Task
      ready = option_map task.TakesReady (slice_get t.ready 0)

  ran-other : IsOther (ran_out t)
  ran-other =
      or-other (due_in t) (option_or (late_in t) (idle_in t))
      (map-other (expires_or_undates t.table) (option_and_then (if_by t.clock) (first_due t.table))
      (λ due. if-other (has_entry due.1 t.table) (task.TakesUp due.1 Expire) (task.Undates due.0 due.1) refl refl))
      (or-other (late_in t) (idle_in t)
      (map-other (refuses_or_strays t.table) (refused_one t)
      (λ n. if-other (has_entry n t.table) (task.TakesUp n Refuse) (task.Strays n) refl refl))
      (map-other (λ p. task.ClosesIdle p.1) (option_and_then (if_kept_enough t) (first_idle t.shared.channels)) (λ p. refl)))

  -- nothing goes out, nothing came, and nothing ran out
  pub record IsNothing : Type 0 where
    pub out : t.outgoing ≡ None
    pub failure : first_failure t.inbox ≡ None
    pub message : first_message t.inbox ≡ None
    pub unread : first_unread t.inbox ≡ None
    pub due : option_and_then (if_by t.clock) (first_due t.table) ≡ None
    pub refused : refused_one t ≡ None
    pub idle : option_and_then (if_kept_enough t) (first_idle t.shared.channels) ≡ None

  is-nothing : task_of t ≡ task.Admits → IsNothing
  is-nothing e =
      let out = option_map outgoing_task t.outgoing in
      let rest = option_or (came_in t) (ran_out t) in
      let all = none-other (option_or out rest)
      (or-other out rest (map-other outgoing_task t.outgoing outgoing-other) (or-other (came_in t) (ran_out t) came-other ran-other))
      (ap (λ (what : Task). is_admit what) e) in
      let one = or-none out rest all in
      let two = or-none (came_in t) (ran_out t) one.1 in
      let three = or-none (due_in t) (option_or (late_in t) (idle_in t)) two.1 in
      let four = or-none (late_in t) (idle_in t) three.1 in
      let next = option_or (free_in t) (option_map task.TakesReady (slice_get t.ready 0)) in
      let cuts = option_map task.Cuts (first_unread t.inbox) in
      let five = or-none (failure_in t) (option_or (message_in t) (option_or cuts next)) two.0 in
      let six = or-none (message_in t) (option_or cuts next) five.1 in
      let seven = or-none cuts next six.1 in
      record {
        out = map-none outgoing_task t.outgoing one.0;
        failure = map-none (failure_task t) (first_failure t.inbox) five.0;
        message = map-none (λ (m : MessageValue). message_task t m.channel m.octets) (first_message t.inbox) six.0;
        unread = map-none (λ (channel : ℕ). task.Cuts channel) (first_unread t.inbox) seven.0;
        due = map-none (expires_or_undates t.table) (option_and_then (if_by t.clock) (first_due t.table)) three.0;
        refused = map-none (refuses_or_strays t.table) (refused_one t) four.0;
        idle = map-none (λ (p : ℕ × ℕ). task.ClosesIdle p.1) (option_and_then (if_kept_enough t) (first_idle t.shared.channels)) four.1;
      }

  -- ---- what is waited for

  abbrev IsAhead : Option ℕ → Type 0
  IsAhead o = IfSome o (λ due. t.clock < due)

  earlier-ahead : (a b : Option ℕ) → IsAhead a → IsAhead b → IsAhead (earlier a b)
  earlier-ahead None b h k = k
  earlier-ahead (Some one) None h k = h
  earlier-ahead (Some one) (Some other) h k = omega (arith, h, k)

  by-ahead : (p : Option (ℕ × ℕ)) → option_and_then (if_by t.clock) p ≡ None → IsAhead (option_map (λ q. q.0) p)
  by-ahead None e = tt
  by-ahead (Some p) e = by (leb p.0 t.clock) refl e
    where
      by : (b : Bool) → leb p.0 t.clock ≡ b → cond b (Some p) None ≡ None → t.clock < p.0
      by true is h = absurd cc
      by false is h = leb-false p.0 t.clock is

  -- a stream that is kept is kept at most up to its moment
  idle-ahead : (p : Option (ℕ × ℕ)) → option_and_then (if_kept_enough t) p ≡ None → IsAhead (option_map (λ q. q.0) p)
  idle-ahead None e = tt
  idle-ahead (Some p) e = by (is_some (first_blocked t.table)) e
    where
      test : (until : ℕ) (b : Bool) → leb until t.clock ≡ b → cond b (Some p) None ≡ None → t.clock < until
      test until true is h = absurd cc
      test until false is h = leb-false until t.clock is

      by : (blocked : Bool) → cond (leb (cond blocked 0 p.0) t.clock) (Some p) None ≡ None → t.clock < p.0
      by true h = absurd (not-before (test 0 (leb 0 t.clock) refl h))
        where
          not-before : t.clock < 0 → ⊥
          not-before less = omega (arith, less)
      by false h = test p.0 (leb p.0 t.clock) refl h

  late-ahead : (f : Option (ℕ × WaitingValue)) → option_and_then (if_late t.clock) f ≡ None
      → IsAhead (option_map (λ first. first.1.until) f)
  late-ahead None e = tt
  late-ahead (Some f) e = by (leb f.1.until t.clock) refl e
    where
      by : (b : Bool) → leb f.1.until t.clock ≡ b → cond b (Some f.0) None ≡ None → t.clock < f.1.until
      by true is h = absurd cc
      by false is h = leb-false f.1.until t.clock is

  -- where there is a place none waits for it, and where there is none the first is not late
  waiting-ahead : refused_one t ≡ None → to_admit t.askers ≡ None → IsAhead (ask.next_deadline t.askers)
  waiting-ahead refused admits = by (ask.has_place t.askers) refused admits
    where
      by : (place : Bool) → cond place None (late_one t.clock t.askers) ≡ None
          → cond place (first_waiting t.askers) None ≡ None → IsAhead (ask.next_deadline t.askers)
      by true h none = subst (λ (f : Option (ℕ × WaitingValue)). IsAhead (option_map (λ first. first.1.until) f)) (sym none) tt
      by false h none = late-ahead (first_waiting t.askers) h

  deadline-ahead : IsNothing → to_admit t.askers ≡ None → IsAhead (next_deadline t)
  deadline-ahead nothing admits =
      earlier-ahead (option_map (λ p. p.0) (first_due t.table))
      (earlier (ask.next_deadline t.askers) (option_map (λ p. p.0) (first_idle t.shared.channels)))
      (by-ahead (first_due t.table) nothing.due)
      (earlier-ahead (ask.next_deadline t.askers) (option_map (λ p. p.0) (first_idle t.shared.channels))
      (waiting-ahead nothing.refused admits) (idle-ahead (first_idle t.shared.channels) nothing.idle))

-- ---- a step that finds nothing

module _ (s after : PoolState) where
  -- where none is worked on
  starts-none : s.current ≡ None → Starts s None after → IsAtRest s after
  starts-none none is = record {
    unchanged = is.1 ∙ same;
    works_on_none = none;
    sends_none = nothing.out;
    ahead = λ due e. subst (λ (o : Option ℕ). IfSome o (λ d. s.traffic.clock < d)) e (deadline-ahead s.traffic nothing admits.1);
  }
    where
      idle : did (task_of s.traffic) s.traffic ≡ done.Idle
      idle = idle-of (did (task_of s.traffic) s.traffic) is.0

      admits : IsNone s.traffic (task_of s.traffic)
      admits = none-done s.traffic (task_of s.traffic) idle

      nothing : IsNothing s.traffic
      nothing = is-nothing s.traffic admits.0

      traffic : after_task (task_of s.traffic) s.traffic ≡ s.traffic
      traffic =
          ap (λ (what : Task). after_task what s.traffic) admits.0
          ∙ ap (λ (first : Option (ℕ × WaitingValue)).
          option_map_or (λ f. without_taken f.0 (record s.traffic { askers = ask.admitted s.traffic.askers })) first s.traffic)
          admits.1

      current : current_after (did (task_of s.traffic) s.traffic) s.current ≡ s.current
      current = ap (λ (d : Did). current_after d s.current) idle

      same : started s ≡ s
      same = ap₂ (λ (t : TrafficState) (c : Option CurrentState). record s { traffic = t; current = c }) traffic current

  not-started : (o : OutgoingValue) → s.traffic.outgoing ≡ Some o → Starts s None after → ⊥
  not-started o e is =
      let idle = idle-of (did (task_of s.traffic) s.traffic) is.0 in
      let admits = none-done s.traffic (task_of s.traffic) idle in
      let out = (is-nothing s.traffic admits.0).out in
      let no_such : Some o ≡ None = sym e ∙ out in cc

  not-ended : (ends puts : Bool) (what : Doing) (c : CurrentState) → StepsBy ends puts what c s None after → ⊥
  not-ended true puts what c is = let e : None ≡ Some (let_go_action what c s) = is.action in cc
  not-ended false true what c is = let e : None ≡ Some action.Continue = is.action in cc
  not-ended false false what c is = let e : None ≡ Some (close_or_continue (closed_by what (scene_of s c))) = is.action in cc

  at-rest_in : (c : Option CurrentState) → s.current ≡ c → StepsIn c s None after → IsAtRest s after
  at-rest_in None works is = starts-none works is
  at-rest_in (Some c) works is =
      absurd (not-ended (is_end (doing c s.traffic)) (is_put (doing c s.traffic)) (doing c s.traffic) c is)

  at-rest : Steps s None after → IsAtRest s after
  at-rest is = by s.traffic.outgoing refl is
    where
      by : (o : Option OutgoingValue) → s.traffic.outgoing ≡ o → StepsAs (is_some o) s None after → IsAtRest s after
      by None e steps = at-rest_in s.current refl steps
      by (Some o) e steps = absurd (not-started o e steps)

-- of all that may be to be done there is nothing
pub nothing-left : (s after : PoolState) → Steps s None after → IsNothing s.traffic
nothing-left s after is =
    let rest = at-rest s after is in
    by (ap (λ (o : Option OutgoingValue). is_some o) rest.sends_none) rest.works_on_none
  where
    starts : Starts s None after → IsNothing s.traffic
    starts begun =
        is-nothing s.traffic (none-done s.traffic (task_of s.traffic)
        (idle-of (did (task_of s.traffic) s.traffic) begun.0)).0

    by : is_some s.traffic.outgoing ≡ false → s.current ≡ None → IsNothing s.traffic
    by out none =
        starts (subst (λ (c : Option CurrentState). StepsIn c s None after) none
        (subst (λ (b : Bool). StepsAs b s None after) out is))

pub rests_until_due : RestsUntilDue
rests_until_due s after is = at-rest s after is
