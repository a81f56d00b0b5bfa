-- Channels are used while they are open.
use Rattle.std.proofs.Common.{◌≡◌, ◌<◌, ◌+◌, ◌-◌, ◌^◌, min, ℕ, Bool, true, false, cond, not, ◌&&◌, ◌||◌, eqb, eqb-true, List, [], ◌∷◌, length, refl, ap, sym, subst, ◌∙◌, true≢false, arith}
use Rattle.std.specs.Prelude.{Option, None, Some, IfSome, slice_get}
use Rattle.std.specs.Ordering.{is_eq}
use Rattle.std.specs.List.{list_any}
use Rattle.std.specs.BTreeMap.{is_at}
use Rattle.std.specs.Option.{is_some, option_map, option_map_or, option_and_then}
use Rattle.hickory_resolver_askers.specs.Askers.{WaitingValue, to_admit}
use Rattle.hickory_resolver_askers.specs.Askers as ask
use Rattle.hickory_resolver_channels.specs.Channels.{ChannelsState, channel_at, closes, pair_cmp}
use Rattle.hickory_resolver_channels.specs.Channels as channels
use Rattle.hickory_resolver_channels.specs.declared.channel.Channel.{Channel}
use Rattle.hickory_resolver_config.specs.ResolverConfig.{OptionsValue}
use Rattle.hickory_resolver_servers.specs.Server.{ServerState}
use Rattle.hickory_resolver_steps.specs.Ending.{try_at_place, ended_of}
use Rattle.hickory_resolver_steps.specs.declared.flying.SentTry.{SentTry}
use Rattle.hickory_resolver_traffic.specs.Doing.{Scene, IsDone, doing, closed_by, closed_at, closed_if, leave_at, leaving_at, freed_if, leaves, quits, quits_at, after_quit, place_on, with_to_do, sends, idle_until, is_empty, doubts_message}
use Rattle.hickory_resolver_traffic.specs.Groups.{GroupListState, list_at}
use Rattle.hickory_resolver_traffic.specs.Inbox.{MessageValue, first_message}
use Rattle.hickory_resolver_traffic.specs.Openings.{OpeningValue, SentValue}
use Rattle.hickory_resolver_traffic.specs.Table.{CurrentState}
use Rattle.hickory_resolver_traffic.specs.Tasks.{task_of, after_task, did as did_of, outgoing_task, opened_outgoing, opening_of, opening_in, opening_to, did_open, did_write, took_up, taken_up, sent_of}
use Rattle.hickory_resolver_traffic.specs.Tasks as tasks
use Rattle.hickory_resolver_traffic.specs.Traffic.{TrafficState, OutgoingValue}
use Rattle.hickory_resolver_traffic.specs.declared.doing.Doing.{Doing}
use Rattle.hickory_resolver_traffic.specs.declared.doing.Doing.TheVariants as doings
use Rattle.hickory_resolver_traffic.specs.declared.entry.ToDo.TheVariants as todo
use Rattle.hickory_resolver_traffic.specs.declared.starting.Did.TheVariants as done
use Rattle.hickory_resolver_traffic.specs.declared.tasks.Task.{Task}
use Rattle.hickory_resolver_traffic.specs.declared.tasks.Task.TheVariants as task
use Rattle.hickory_resolver_pool.specs.Laws.{PoolEvent, after_event}
use Rattle.hickory_resolver_pool.specs.Pool.{PoolState, no_servers, action_of, close_or_continue, over_or_continue, StepsBy, StepsIn, StepsAs, Steps, IsDoneTo, scene_of, is_end, is_put, put_by}
use Rattle.hickory_resolver_pool.specs.declared.limits.PoolLimits.{PoolLimits}
use Rattle.hickory_resolver_pool.specs.declared.pool.Action.{Action}
use Rattle.hickory_resolver_pool.specs.declared.pool.Action.TheVariants as action
use Rattle.hickory_resolver_pool_theorems.specs.Agreement.{in_hand}
use Rattle.hickory_resolver_pool_theorems.specs.Open.{is_open, ChannelsAreUsedOpen}
use Rattle.hickory_resolver_pool_theorems.specs.Runs.{Happening, came, did, Runs, at_first, by_event, by_step}
use Rattle.hickory_resolver_pool_theorems.proofs.Counts.{AreCounted, IsIdle, tries_of, none-tried}
use Rattle.hickory_resolver_pool_theorems.proofs.Counted.{channels-put, counted-runs, fresh-number}
use Rattle.hickory_resolver_pool_theorems.proofs.Fits.{by_kind, port_by, has_port}
use Rattle.hickory_resolver_pool_theorems.proofs.Frames.{IsOrdinary, kept-done}
use Rattle.hickory_resolver_pool_theorems.proofs.Groups.{given_in, IsGivenAs, groups-runs}
use Rattle.hickory_resolver_pool_theorems.proofs.Kept.{channels-one_freed, channels-freed_first}
use Rattle.hickory_resolver_pool_theorems.proofs.Keys.{pair-self}
use Rattle.hickory_resolver_pool_theorems.proofs.KeySets.{or-left}
use Rattle.hickory_resolver_pool_theorems.proofs.Listed.{listed-runs, listed-there}
use Rattle.hickory_resolver_pool_theorems.proofs.Opens.{IsGoing, out-runs, writing}
use Rattle.hickory_resolver_pool_theorems.proofs.OutKept.{IsNoSend, calm-done, IsBegun, opens, writes, keeps, begun-task}
use Rattle.hickory_resolver_pool_theorems.proofs.Ports.{has-bare}
use Rattle.hickory_resolver_pool_theorems.proofs.Present.{present, present-left, present-closed, closes-there}
use Rattle.hickory_resolver_pool_theorems.proofs.Reaching.{reached}
use Rattle.hickory_resolver_pool.proofs.Bounded.{stays_bounded}
use Rattle.hickory_resolver_pool_theorems.proofs.Tasking.{TaskIs, task-is}
use Rattle.hickory_resolver_pool_theorems.proofs.Traces.{shared-event}
use Rattle.hickory_resolver_pool_theorems.proofs.Goes.{opens_number, and-true, and-left, and-right, SendsOne, SendsSo, sends-so}

-- ---- actions

abbrev IsQuiet : Option Action → Type 0
IsQuiet (Some (action.Open o)) = ⊥
IsQuiet (Some (action.Close channel)) = ⊥
IsQuiet other = Unit {0}

quiet-open : (k : ℕ) (past : List Happening) (s : PoolState) (r : Option Action) → IsQuiet r
    → is_open k (did s r ∷ past) ≡ is_open k past
quiet-open k past s None q = refl
quiet-open k past s (Some action.Continue) q = refl
quiet-open k past s (Some (action.Open o)) q = absurd q
quiet-open k past s (Some (action.Send sent)) q = refl
quiet-open k past s (Some (action.Close channel)) q = absurd q
quiet-open k past s (Some (action.Over o)) q = refl

quiet-over : (what : Doing) (c : CurrentState) (askers : Option (List ℕ)) → IsQuiet (Some (over_or_continue what c askers))
quiet-over what c None = tt
quiet-over what c (Some askers) = tt

quiet-taken : (c : Option CurrentState) → IsQuiet (action_of (took_up c))
quiet-taken None = tt
quiet-taken (Some c) = tt

quiet-written : (o : Option OutgoingValue) → IsQuiet (action_of (did_write o))
quiet-written None = tt
quiet-written (Some o) = tt

-- ---- the channels that there are, are those that were opened and not closed, but for one that is to be opened

pub record AreUsed (past : List Happening) (s : PoolState) : Type 0 where
  pub same : (k : ℕ) → is_open k past ≡ (present k s.traffic.shared.channels && not (opens_number k s.traffic.outgoing))
  pub there : (o : OutgoingValue) → s.traffic.outgoing ≡ Some o → present o.sending.channel s.traffic.shared.channels ≡ true

used-event : (past : List Happening) (s : PoolState) (e : PoolEvent) → AreUsed past s → AreUsed (came s e ∷ past) (after_event s e)
used-event past s e w =
    let shared = shared-event s e in
    record {
      same = λ k. w.same k
          ∙ sym (ap (λ (c : ChannelsState). present k c && not (opens_number k (after_event s e).traffic.outgoing)) shared.channels
          ∙ ap (λ (o : Option OutgoingValue). present k s.traffic.shared.channels && not (opens_number k o)) shared.outgoing);
      there = λ o is.
          ap (λ (c : ChannelsState). present o.sending.channel c) shared.channels ∙ w.there o (sym shared.outgoing ∙ is);
    }

module _ (past : List Happening) (s t : PoolState) (r : Option Action) (w : AreUsed past s) where
  abbrev before : ChannelsState
  before = s.traffic.shared.channels

  abbrev now : ChannelsState
  now = t.traffic.shared.channels

  abbrev Q : Type 0
  Q = AreUsed (did s r ∷ past) t

  -- where nothing goes out after it
  quiet-used : t.traffic.outgoing ≡ None → ((k : ℕ) → is_open k (did s r ∷ past) ≡ present k now) → Q
  quiet-used out same = record {
    same = λ k. same k
        ∙ sym (ap (λ (o : Option OutgoingValue). present k now && not (opens_number k o)) out ∙ and-true (present k now));
    there = λ o is. let no_such : None ≡ Some o = sym out ∙ is in absurd cc;
  }

  -- ---- what goes out is opened, or written

  module _ (o : OutgoingValue) (e : s.traffic.outgoing ≡ Some o)
      (opening : (p : OpeningValue) × (opening_of s.traffic o ≡ Some p) × (p.channel ≡ o.sending.channel))
      (traffic : t.traffic ≡ after_task (outgoing_task o) s.traffic)
      (said : r ≡ action_of (did_of (outgoing_task o) s.traffic)) where
    used-out : Q
    used-out = by o.sending.is_new refl traffic said
      where
        was : (b : Bool) → o.sending.is_new ≡ b → (k : ℕ) → is_open k past ≡ (present k before && not (b && eqb o.sending.channel k))
        was b is k =
            w.same k ∙ ap (λ (x : Option OutgoingValue). present k before && not (opens_number k x)) e
            ∙ ap (λ (c : Bool). present k before && not (c && eqb o.sending.channel k)) is

        opened : o.sending.is_new ≡ true → r ≡ Some (action.Open opening.0) → (k : ℕ)
            → is_open k (did s r ∷ past) ≡ present k before
        opened new is k =
            ap (λ (a : Option Action). is_open k (did s a ∷ past)) is
            ∙ ap (λ (n : ℕ). cond (eqb n k) true (is_open k past)) opening.2 ∙ by (eqb o.sending.channel k) refl
          where
            by : (b : Bool) → eqb o.sending.channel k ≡ b → cond b true (is_open k past) ≡ present k before
            by true own = sym (ap (λ (n : ℕ). present n before) (sym (eqb-true o.sending.channel k own)) ∙ w.there o e)
            by false other =
                was true new k ∙ ap (λ (b : Bool). present k before && not (true && b)) other ∙ and-true (present k before)

        by : (b : Bool) → o.sending.is_new ≡ b → t.traffic ≡ after_task (cond b task.Opens task.Writes) s.traffic
            → r ≡ action_of (did_of (cond b task.Opens task.Writes) s.traffic) → Q
        by true new same action_is =
            let out : t.traffic.outgoing ≡ Some (opened_outgoing o) =
            ap (λ (u : TrafficState). u.outgoing) same ∙ ap (λ (x : Option OutgoingValue). option_map opened_outgoing x) e in
            let chs : now ≡ before = ap (λ (u : TrafficState). u.shared.channels) same in
            let act : r ≡ Some (action.Open opening.0) =
            action_is ∙ ap (λ (x : Option OutgoingValue). action_of (did_open (option_and_then (opening_of s.traffic) x))) e
            ∙ ap (λ (x : Option OpeningValue). action_of (did_open x)) opening.1 in
            record {
              same = λ k. opened new act k ∙ sym (ap (λ (x : Option OutgoingValue). present k now && not (opens_number k x)) out
                  ∙ and-true (present k now) ∙ ap (λ (c : ChannelsState). present k c) chs);
              there = λ q is.
                  let both : Some (opened_outgoing o) ≡ Some q = sym out ∙ is in
                  let one : opened_outgoing o ≡ q = cc in
                  ap (λ (v : OutgoingValue). present v.sending.channel now) (sym one)
                  ∙ ap (λ (c : ChannelsState). present o.sending.channel c) chs ∙ w.there o e;
            }
        by false old same action_is =
            quiet-used (ap (λ (u : TrafficState). u.outgoing) same)
            (λ k. quiet-open k past s r (subst IsQuiet (sym action_is) (quiet-written s.traffic.outgoing))
            ∙ was false old k ∙ and-true (present k before)
            ∙ sym (ap (λ (u : TrafficState). present k u.shared.channels) same))

  -- ---- nothing goes out

  module _ (calm : s.traffic.outgoing ≡ None) where
    was-present : (k : ℕ) → is_open k past ≡ present k before
    was-present k =
        w.same k ∙ ap (λ (x : Option OutgoingValue). present k before && not (opens_number k x)) calm ∙ and-true (present k before)

    -- the channels stay
    used-same : t.traffic.outgoing ≡ None → IsQuiet r → now ≡ before → Q
    used-same out quiet chs =
        quiet-used out (λ k. quiet-open k past s r quiet ∙ was-present k ∙ sym (ap (λ (c : ChannelsState). present k c) chs))

    -- one is closed, or none
    used-closed : t.traffic.outgoing ≡ None → (channel : ℕ) (b : Bool) → r ≡ Some (close_or_continue (cond b (Some channel) None))
        → ((k : ℕ) → present k now ≡ (present k before && not (b && eqb channel k))) → Q
    used-closed out channel true said chs =
        quiet-used out (λ k. ap (λ (a : Option Action). is_open k (did s a ∷ past)) said ∙ by k (eqb channel k) refl ∙ sym (chs k))
      where
        by : (k : ℕ) (c : Bool) → eqb channel k ≡ c
            → cond (eqb channel k) false (is_open k past) ≡ (present k before && not (true && eqb channel k))
        by k true is =
            ap (λ (c : Bool). cond c false (is_open k past)) is
            ∙ sym (ap (λ (c : Bool). present k before && not (true && c)) is ∙ and-none (present k before))
          where
            and-none : (b : Bool) → (b && false) ≡ false
            and-none true = refl
            and-none false = refl
        by k false is =
            ap (λ (c : Bool). cond c false (is_open k past)) is ∙ was-present k
            ∙ sym (ap (λ (c : Bool). present k before && not (true && c)) is ∙ and-true (present k before))
    used-closed out channel false said chs =
        quiet-used out (λ k. quiet-open k past s r (subst IsQuiet (sym said) tt) ∙ was-present k
        ∙ sym (chs k ∙ and-true (present k before)))

    module _ (counted : AreCounted before) (none : channel_at before.next before ≡ None) where
      -- ---- something is begun

      -- a channel without a try is closed
      closing : (channel : ℕ) → tries_of (channel_at channel before) ≡ 0 → now ≡ channels.closed channel before
          → t.traffic.outgoing ≡ None → r ≡ Some (action.Close channel) → Q
      closing channel empty same out said =
          used-closed out channel true said
          (λ k. ap (λ (c : ChannelsState). present k c) same ∙ present-closed before counted.apart channel k empty)

      idle-empty : (until channel : ℕ) → slice_get before.idle 0 ≡ Some (until, channel) → tries_of (channel_at channel before) ≡ 0
      idle-empty until channel first = by (channel_at channel before) (counted.idle until channel (in-first before.idle first))
        where
          in-first : (ds : List (ℕ × ℕ)) → slice_get ds 0 ≡ Some (until, channel) → list_any (is_at (pair_cmp (until, channel))) ds ≡ true
          in-first [] h = absurd cc
          in-first (d ∷ ds) h =
              let one : ◌≡◌ {A = ℕ × ℕ} d (until, channel) = cc in
              or-left (is_at (pair_cmp (until, channel)) d) (list_any (is_at (pair_cmp (until, channel))) ds)
              (ap (λ (p : ℕ × ℕ). is_at (pair_cmp (until, channel)) p) one ∙ ap is_eq (pair-self (until, channel)))

          by : (o : Option Channel) → IsIdle until o → tries_of o ≡ 0
          by None h = absurd h
          by (Some c) h = h.0

      started-used : (what : Task) → TaskIs s.traffic what → t.traffic ≡ after_task what s.traffic
          → r ≡ action_of (did_of what s.traffic) → Q
      started-used what is same said = by what is same said (out what is same)
        where
          out : (d : Task) → TaskIs s.traffic d → t.traffic ≡ after_task d s.traffic → t.traffic.outgoing ≡ None
          out d is traffic = ap (λ (u : TrafficState). u.outgoing) traffic ∙ kept (begun-task d s.traffic)
            where
              kept : IsBegun s.traffic (after_task d s.traffic) → (after_task d s.traffic).outgoing ≡ None
              kept (opens q shared) = q ∙ ap (λ (x : Option OutgoingValue). option_map opened_outgoing x) calm
              kept (writes q shared) = q
              kept (keeps k) = k.outgoing ∙ calm

          chs : (d : Task) → t.traffic ≡ after_task d s.traffic → (after_task d s.traffic).shared.channels ≡ before → now ≡ before
          chs d traffic stays = ap (λ (u : TrafficState). u.shared.channels) traffic ∙ stays

          doubts-same : (m : Option MessageValue) → (option_map_or (doubts_message s.traffic) m s.traffic).shared.channels ≡ before
          doubts-same None = refl
          doubts-same (Some m) = refl

          by : (d : Task) → TaskIs s.traffic d → t.traffic ≡ after_task d s.traffic → r ≡ action_of (did_of d s.traffic)
              → t.traffic.outgoing ≡ None → Q
          by task.Opens is traffic act none_out = absurd is
          by task.Writes is traffic act none_out = absurd is
          by task.Doubts is traffic act none_out =
              used-same none_out (subst IsQuiet (sym act) tt) (chs task.Doubts traffic (doubts-same (first_message s.traffic.inbox)))
          by task.PassesBy is traffic act none_out =
              used-same none_out (subst IsQuiet (sym act) tt) (chs task.PassesBy traffic refl)
          by (task.Cuts channel) is traffic act none_out =
              used-same none_out (subst IsQuiet (sym act) tt) (chs (task.Cuts channel) traffic refl)
          by (task.ClosesFailed channel) is traffic act none_out =
              closing channel (none-tried channel before counted is.1)
              (ap (λ (u : TrafficState). u.shared.channels) traffic ∙ channels-freed_first (tasks.closed channel s.traffic))
              none_out act
          by task.DropsFailure is traffic act none_out =
              used-same none_out (subst IsQuiet (sym act) tt) (chs task.DropsFailure traffic refl)
          by (task.TakesReady n) is traffic act none_out =
              used-same none_out (subst IsQuiet (sym act) (quiet-taken (taken_up n todo.GoOn s.traffic.table)))
              (chs (task.TakesReady n) traffic refl)
          by (task.TakesUp n to_do) is traffic act none_out =
              used-same none_out (subst IsQuiet (sym act) (quiet-taken (taken_up n to_do s.traffic.table)))
              (chs (task.TakesUp n to_do) traffic refl)
          by (task.Undates due n) is traffic act none_out =
              used-same none_out (subst IsQuiet (sym act) tt) (chs (task.Undates due n) traffic refl)
          by (task.Strays n) is traffic act none_out =
              used-same none_out (subst IsQuiet (sym act) tt) (chs (task.Strays n) traffic refl)
          by (task.Unblocks n) is traffic act none_out =
              used-same none_out (subst IsQuiet (sym act) tt) (chs (task.Unblocks n) traffic refl)
          by (task.ClosesIdle channel) is traffic act none_out =
              closing channel (idle-empty is.1.0 channel is.1.1)
              (ap (λ (u : TrafficState). u.shared.channels) traffic ∙ channels-one_freed (tasks.closed channel s.traffic))
              none_out act
          by task.Admits is traffic act none_out = admits (to_admit s.traffic.askers) refl
            where
              admits : (f : Option (ℕ × WaitingValue)) → to_admit s.traffic.askers ≡ f → Q
              admits None at =
                  used-same none_out
                  (subst IsQuiet (sym (act ∙ ap (λ (g : Option (ℕ × WaitingValue)). action_of (option_map_or (λ p. took_up (taken_up p.0 todo.GoOn s.traffic.table)) g done.Idle)) at)) tt)
                  (ap (λ (u : TrafficState). u.shared.channels) traffic
                  ∙ ap (λ (g : Option (ℕ × WaitingValue)). (option_map_or (λ p. tasks.without_taken p.0 (record s.traffic { askers = ask.admitted s.traffic.askers })) g s.traffic).shared.channels) at)
              admits (Some f) at =
                  used-same none_out
                  (subst IsQuiet (sym (act ∙ ap (λ (g : Option (ℕ × WaitingValue)). action_of (option_map_or (λ p. took_up (taken_up p.0 todo.GoOn s.traffic.table)) g done.Idle)) at))
                  (quiet-taken (taken_up f.0 todo.GoOn s.traffic.table)))
                  (ap (λ (u : TrafficState). u.shared.channels) traffic
                  ∙ ap (λ (g : Option (ℕ × WaitingValue)). (option_map_or (λ p. tasks.without_taken p.0 (record s.traffic { askers = ask.admitted s.traffic.askers })) g s.traffic).shared.channels) at)

      -- ---- something is done with a transaction

      module _ (c d : CurrentState) (what : Doing) (done_is : IsDone what (scene_of s c) (record { traffic = t.traffic; current = d }))
          (said : r ≡ Some (close_or_continue (closed_by what (scene_of s c)))) where
        abbrev x : Scene
        x = scene_of s c

        abbrev y : Scene
        y = record { traffic = t.traffic; current = d }

        -- where nothing is sent nothing goes out
        silent : IsNoSend what → t.traffic.outgoing ≡ None
        silent o = (calm-done what x y done_is o).outgoing ∙ calm

        ordinary : IsOrdinary what → IsNoSend what → closed_by what x ≡ None → Q
        ordinary o no_send none_closed =
            used-same (silent no_send)
            (subst IsQuiet (sym (said ∙ ap (λ (k : Option ℕ). Some (close_or_continue k)) none_closed)) tt)
            (kept-done what x y done_is o).channels

        -- a try leaves its channel, which may close it
        leaving : (place : ℕ) (z : Scene) → t.traffic ≡ z.traffic
            → z.traffic.shared.channels ≡ (leave_at place x).traffic.shared.channels → t.traffic.outgoing ≡ None
            → r ≡ Some (close_or_continue (closed_at place x)) → Q
        leaving place z same chs out act = by (try_at_place x.current.entry.flying place) refl
          where
            by : (one : Option SentTry) → try_at_place x.current.entry.flying place ≡ one → Q
            by None at =
                used-same out
                (subst IsQuiet (sym (act ∙ ap (λ (o : Option SentTry). Some (close_or_continue (option_map_or (λ v. closed_if (ended_of before v)) o None))) at)) tt)
                (ap (λ (u : TrafficState). u.shared.channels) same ∙ chs
                ∙ ap (λ (o : Option SentTry). (option_map_or (leaving_at place x) o x).traffic.shared.channels) at)
            by (Some one) at =
                used-closed out one.channel (closes one.channel one.id before)
                (act ∙ ap (λ (o : Option SentTry). Some (close_or_continue (option_map_or (λ v. closed_if (ended_of before v)) o None))) at)
                (λ k. ap (λ (u : TrafficState). present k u.shared.channels) same ∙ ap (λ (v : ChannelsState). present k v) chs
                ∙ ap (λ (o : Option SentTry). present k (option_map_or (leaving_at place x) o x).traffic.shared.channels) at
                ∙ present-left before counted.apart one.channel one.id (idle_until x.traffic) k)

      -- a message is sent
      sending : (c d : CurrentState) → record { traffic = t.traffic; current = d } ≡ sends (scene_of s c) → IsQuiet r → Q
      sending c d same quiet =
          by (sends x).traffic.outgoing refl (sends-so x none)
        where
          x : Scene
          x = scene_of s c

          traffic : t.traffic ≡ (sends x).traffic
          traffic = ap (λ (v : Scene). v.traffic) same

          out-is : (o : Option OutgoingValue) → (sends x).traffic.outgoing ≡ o → t.traffic.outgoing ≡ o
          out-is o at = ap (λ (u : TrafficState). u.outgoing) traffic ∙ at

          chs : now ≡ (sends x).traffic.shared.channels
          chs = ap (λ (u : TrafficState). u.shared.channels) traffic

          one : (o : OutgoingValue) → SendsOne before o (sends x).traffic.shared.channels → (k : ℕ)
              → is_open k past ≡ (present k (sends x).traffic.shared.channels && not (o.sending.is_new && eqb o.sending.channel k))
          one o goes k =
              was-present k ∙ new (o.sending.is_new && eqb o.sending.channel k) refl
              ∙ sym (ap (λ (b : Bool). b && not (o.sending.is_new && eqb o.sending.channel k)) (goes.all k))
            where
              -- one that is opened was not there
              absent : (o.sending.is_new && eqb o.sending.channel k) ≡ true → present k before ≡ false
              absent h =
                  ap (λ (n : ℕ). present n before) (sym (eqb-true o.sending.channel k (and-right o.sending.is_new (eqb o.sending.channel k) h)))
                  ∙ goes.fresh (and-left o.sending.is_new (eqb o.sending.channel k) h)

              or-not : (a : Bool) → ((a || false) && not false) ≡ a
              or-not true = refl
              or-not false = refl

              new : (b : Bool) → (o.sending.is_new && eqb o.sending.channel k) ≡ b
                  → present k before ≡ ((present k before || (o.sending.is_new && eqb o.sending.channel k))
                  && not (o.sending.is_new && eqb o.sending.channel k))
              new true h =
                  absent h ∙ sym (ap (λ (b : Bool). (present k before || b) && not b) h ∙ none-left (present k before))
                where
                  none-left : (a : Bool) → ((a || true) && not true) ≡ false
                  none-left true = refl
                  none-left false = refl
              new false h = sym (ap (λ (b : Bool). (present k before || b) && not b) h ∙ or-not (present k before))

          by : (o : Option OutgoingValue) → (sends x).traffic.outgoing ≡ o
              → SendsSo before o (sends x).traffic.shared.channels → Q
          by None at goes =
              quiet-used (out-is None at)
              (λ k. quiet-open k past s r quiet ∙ was-present k ∙ sym (ap (λ (v : ChannelsState). present k v) chs ∙ goes k))
          by (Some o) at goes = record {
            same = λ k. quiet-open k past s r quiet ∙ one o goes k
                ∙ sym (ap (λ (v : ChannelsState). present k v && not (opens_number k t.traffic.outgoing)) chs
                ∙ ap (λ (q : Option OutgoingValue). present k (sends x).traffic.shared.channels && not (opens_number k q)) (out-is (Some o) at));
            there = λ q is.
                let both : Some o ≡ Some q = sym (out-is (Some o) at) ∙ is in
                let own : o ≡ q = cc in
                ap (λ (v : OutgoingValue). present v.sending.channel now) (sym own)
                ∙ ap (λ (v : ChannelsState). present o.sending.channel v) chs ∙ goes.there;
          }

      did-used : (c d : CurrentState) (what : Doing) → IsDone what (scene_of s c) (record { traffic = t.traffic; current = d })
          → r ≡ Some (close_or_continue (closed_by what (scene_of s c))) → Q
      did-used c d doings.Quits is said = by (place_on (scene_of s c)) refl
        where
          x : Scene
          x = scene_of s c

          after : (shut : Option ℕ) (z : Scene) → (after_quit shut z).traffic.shared.channels ≡ z.traffic.shared.channels
          after None z = refl
          after (Some channel) z = refl

          by : (place : Option ℕ) → place_on x ≡ place → Q
          by None at =
              used-same (silent c d doings.Quits is said tt)
              (subst IsQuiet (sym (said ∙ ap (λ (o : Option ℕ). Some (close_or_continue (option_and_then (λ p. closed_at p x) o))) at)) tt)
              (ap (λ (v : Scene). v.traffic.shared.channels) is
              ∙ ap (λ (o : Option ℕ). (option_map_or (quits_at x) o (with_to_do todo.PutBack x)).traffic.shared.channels) at)
          by (Some place) at =
              leaving c d doings.Quits is said place (quits x) (ap (λ (v : Scene). v.traffic) is)
              (ap (λ (o : Option ℕ). (option_map_or (quits_at x) o (with_to_do todo.PutBack x)).traffic.shared.channels) at
              ∙ after (closed_at place x) (leave_at place x))
              (silent c d doings.Quits is said tt)
              (said ∙ ap (λ (o : Option ℕ). Some (close_or_continue (option_and_then (λ p. closed_at p x) o))) at)
      did-used c d (doings.Leaves place) is said =
          leaving c d (doings.Leaves place) is said place (leaves place (scene_of s c)) (ap (λ (v : Scene). v.traffic) is)
          (freed (closed_at place (scene_of s c)) (leave_at place (scene_of s c)))
          (silent c d (doings.Leaves place) is said tt) said
        where
          freed : (shut : Option ℕ) (z : Scene) → (freed_if shut z).traffic.shared.channels ≡ z.traffic.shared.channels
          freed None z = refl
          freed (Some channel) z = by (is_empty z.traffic.table.blocked)
            where
              by : (empty : Bool) → (cond {A = TrafficState} empty z.traffic (record z.traffic { freed = min (z.traffic.freed + 1) (2 ^ 64 - 1) })).shared.channels
                  ≡ z.traffic.shared.channels
              by true = refl
              by false = refl
      did-used c d doings.Sends is said = sending c d is (subst IsQuiet (sym said) tt)
      did-used c d (doings.Dates due) is said =
          used-same (silent c d (doings.Dates due) is said tt) (subst IsQuiet (sym said) tt)
          (ap (λ (v : Scene). v.traffic.shared.channels) is)
      did-used c d doings.Hears is said = ordinary c d doings.Hears is said tt tt refl
      did-used c d doings.Doubts is said = ordinary c d doings.Doubts is said tt tt refl
      did-used c d doings.Stalls is said = ordinary c d doings.Stalls is said tt tt refl
      did-used c d doings.Fails is said = ordinary c d doings.Fails is said tt tt refl
      did-used c d doings.PutsBack is said = ordinary c d doings.PutsBack is said tt tt refl
      did-used c d doings.Expires is said = ordinary c d doings.Expires is said tt tt refl
      did-used c d doings.Frees is said = ordinary c d doings.Frees is said tt tt refl
      did-used c d doings.Refused is said = ordinary c d doings.Refused is said tt tt refl
      did-used c d doings.Ends is said = ordinary c d doings.Ends is said tt tt refl
      did-used c d doings.Draws is said = ordinary c d doings.Draws is said tt tt refl
      did-used c d (doings.BeginsRound place) is said = ordinary c d (doings.BeginsRound place) is said tt tt refl
      did-used c d doings.GivesUp is said = ordinary c d doings.GivesUp is said tt tt refl
      did-used c d doings.Blocks is said = ordinary c d doings.Blocks is said tt tt refl
      did-used c d doings.Rests is said = ordinary c d doings.Rests is said tt tt refl

      -- ---- by what a step is

      used-with : (c : CurrentState) (what : Doing) (after : Option CurrentState) → t.current ≡ after
          → IsDoneTo what (scene_of s c) t.traffic after
          → r ≡ Some (close_or_continue (closed_by what (scene_of s c))) → Q
      used-with c what None at is said = absurd is
      used-with c what (Some d) at is said = did-used c d what is said

      flat : (what : Doing) (c : CurrentState) → (put_by what c s).traffic.outgoing ≡ None
      flat what c = by what
        where
          by : (d : Doing) → (put_by d c s).traffic.outgoing ≡ None
          by doings.PutsBack = calm
          by doings.Rests = calm
          by doings.Hears = calm
          by doings.Doubts = calm
          by doings.Stalls = calm
          by doings.Fails = calm
          by doings.Quits = calm
          by doings.Expires = calm
          by doings.Frees = calm
          by doings.Refused = calm
          by (doings.Leaves place) = calm
          by doings.Ends = calm
          by doings.Draws = calm
          by (doings.BeginsRound place) = calm
          by doings.GivesUp = calm
          by doings.Blocks = calm
          by doings.Sends = calm
          by (doings.Dates due) = calm

      used-by : (c : CurrentState) → (ends puts : Bool) (what : Doing) → StepsBy ends puts what c s r t → Q
      used-by c true puts what is =
          used-same (ap (λ (u : PoolState). u.traffic.outgoing) is.pool ∙ calm) (subst IsQuiet (sym is.action) (quiet-over what c _))
          (ap (λ (u : PoolState). u.traffic.shared.channels) is.pool)
      used-by c false true what is =
          used-same (ap (λ (u : PoolState). u.traffic.outgoing) is.pool ∙ flat what c) (subst IsQuiet (sym is.action) tt)
          (ap (λ (u : PoolState). u.traffic.shared.channels) is.pool ∙ channels-put (λ v. v ≡ before) what c s refl)
      used-by c false false what is = used-with c what t.current refl is.done is.action

      used-in : (c : Option CurrentState) → s.current ≡ c → StepsIn c s r t → Q
      used-in None works is =
          started-used (task_of s.traffic) (task-is s.traffic calm) (ap (λ (u : PoolState). u.traffic) is.1) is.0
      used-in (Some c) works is = used-by c (is_end (doing c s.traffic)) (is_put (doing c s.traffic)) (doing c s.traffic) is

-- ---- whatever happens

module _ (options : OptionsValue) (limits : PoolLimits) (seed : List ℕ) where
  -- what is to be opened is opened
  opening-some : (past : List Happening) (s : PoolState) → Runs (no_servers options limits seed) past s → length past < 2 ^ 64
      → (o : OutgoingValue) → s.traffic.outgoing ≡ Some o
      → (p : OpeningValue) × (opening_of s.traffic o ≡ Some p) × (p.channel ≡ o.sending.channel)
  opening-some past s runs short o at = by (list_at o.list s.traffic.groups) refl there
    where
      going : IsGoing past s o
      going = (out-runs options limits seed past s runs).goes o at

      there : is_some (list_at o.list s.traffic.groups) ≡ true
      there =
          ap (λ (n : ℕ). is_some (list_at n s.traffic.groups)) going.list
          ∙ listed-there (length past) s (listed-runs options limits seed past s runs short) going.current.number going.current.entry
          (in_hand going.current.to_do going.works)

      server : (l : GroupListState) → list_at o.list s.traffic.groups ≡ Some l → (x : Option ServerState)
          → slice_get l.servers.servers o.sending.place ≡ x
          → option_map_or (λ v. is_some (port_by (by_kind o.sending.kind) v)) x false ≡ true
          → (p : OpeningValue) × (opening_of s.traffic o ≡ Some p) × (p.channel ≡ o.sending.channel)
      server l found None place h = absurd (true≢false (sym h))
      server l found (Some v) place h = (
        opening_to o.sending l v,
        ap (λ (x : Option GroupListState). option_and_then (opening_in o.sending) x) found
            ∙ ap (λ (x : Option ServerState). option_map (opening_to o.sending l) x) place,
        refl,
      )

      by : (l : Option GroupListState) → list_at o.list s.traffic.groups ≡ l → is_some l ≡ true
          → (p : OpeningValue) × (opening_of s.traffic o ≡ Some p) × (p.channel ≡ o.sending.channel)
      by None found h = absurd (true≢false (sym h))
      by (Some l) found h =
          let given : IsGivenAs l (given_in o.list past) =
          subst (λ (x : Option GroupListState). IfSome x (λ k. IsGivenAs k (given_in o.list past))) found
          ((groups-runs options limits seed past s runs).each o.list) in
          server l found (slice_get l.servers.servers o.sending.place) refl
          (has-bare l.servers.servers o.sending.place (by_kind o.sending.kind)
          ∙ ap (λ (xs : List ServerState). has_port xs o.sending.place (by_kind o.sending.kind)) given.states ∙ going.port)

  used-step : (past : List Happening) (s t : PoolState) (r : Option Action) → Runs (no_servers options limits seed) past s
      → length past < 2 ^ 64 → Steps s r t → AreUsed past s → AreUsed (did s r ∷ past) t
  used-step past s t r runs short is w = by s.traffic.outgoing refl is
    where
      none : channel_at s.traffic.shared.channels.next s.traffic.shared.channels ≡ None
      none =
          fresh-number s.traffic.shared.channels.next s.traffic.shared.channels.channels
          (stays_bounded options limits seed s (reached (no_servers options limits seed) past s runs)).channels.numbers

      by : (o : Option OutgoingValue) → s.traffic.outgoing ≡ o → StepsAs (is_some o) s r t → AreUsed (did s r ∷ past) t
      by None e steps =
          used-in past s t r w e (counted-runs options limits seed past s runs) none s.current refl steps
      by (Some o) e steps =
          used-out past s t r w o e (opening-some past s runs short o e)
          (ap (λ (u : PoolState). u.traffic) steps.1 ∙ ap (λ (what : Task). after_task what s.traffic) (writing s o e))
          (steps.0 ∙ ap (λ (what : Task). action_of (did_of what s.traffic)) (writing s o e))

  used-runs : (past : List Happening) (s : PoolState) → Runs (no_servers options limits seed) past s → length past < 2 ^ 64
      → AreUsed past s
  used-runs _ _ at_first short = record { same = λ k. refl; there = λ o is. absurd cc }
  used-runs _ _ (by_event past s e more) short = used-event past s e (used-runs past s more (omega (arith, short)))
  used-runs _ _ (by_step past s after r is more) short =
      let less : length past < 2 ^ 64 = omega (arith, short) in
      used-step past s after r more less is (used-runs past s more less)

-- ---- what sends, and what closes

abbrev NoSend : Option Action → Type 0
NoSend (Some (action.Send o)) = ⊥
NoSend other = Unit {0}

no-send_over : (what : Doing) (c : CurrentState) (askers : Option (List ℕ)) → NoSend (Some (over_or_continue what c askers))
no-send_over what c None = tt
no-send_over what c (Some askers) = tt

no-send_close : (c : Option ℕ) → NoSend (Some (close_or_continue c))
no-send_close None = tt
no-send_close (Some channel) = tt

no-send_taken : (c : Option CurrentState) → NoSend (action_of (took_up c))
no-send_taken None = tt
no-send_taken (Some c) = tt

no-send_task : (what : Task) (t : TrafficState) → TaskIs t what → NoSend (action_of (did_of what t))
no-send_task task.Opens t is = absurd is
no-send_task task.Writes t is = absurd is
no-send_task task.Doubts t is = tt
no-send_task task.PassesBy t is = tt
no-send_task (task.Cuts channel) t is = tt
no-send_task (task.ClosesFailed channel) t is = tt
no-send_task task.DropsFailure t is = tt
no-send_task (task.TakesReady n) t is = no-send_taken (taken_up n todo.GoOn t.table)
no-send_task (task.TakesUp n to_do) t is = no-send_taken (taken_up n to_do t.table)
no-send_task (task.Undates due n) t is = tt
no-send_task (task.Strays n) t is = tt
no-send_task (task.Unblocks n) t is = tt
no-send_task (task.ClosesIdle channel) t is = tt
no-send_task task.Admits t is = by (to_admit t.askers)
  where
    by : (first : Option (ℕ × WaitingValue))
        → NoSend (action_of (option_map_or (λ f. took_up (taken_up f.0 todo.GoOn t.table)) first done.Idle))
    by None = tt
    by (Some f) = no-send_taken (taken_up f.0 todo.GoOn t.table)

module _ (past : List Happening) (s : PoolState) (w : AreUsed past s) where
  calm-present : s.traffic.outgoing ≡ None → (k : ℕ) → is_open k past ≡ present k s.traffic.shared.channels
  calm-present calm k =
      w.same k ∙ ap (λ (x : Option OutgoingValue). present k s.traffic.shared.channels && not (opens_number k x)) calm
      ∙ and-true (present k s.traffic.shared.channels)

  module _ (after : PoolState) (o : SentValue) where
    sends-open : Steps s (Some (action.Send o)) after → is_open o.channel past ≡ true
    sends-open is = by s.traffic.outgoing refl is
      where
        in-hand : (c : CurrentState) (ends puts : Bool) (what : Doing) → StepsBy ends puts what c s (Some (action.Send o)) after → ⊥
        in-hand c true puts what h = subst NoSend (sym h.action) (no-send_over what c _)
        in-hand c false true what h = subst NoSend (sym h.action) tt
        in-hand c false false what h = subst NoSend (sym h.action) (no-send_close (closed_by what (scene_of s c)))

        calm : s.traffic.outgoing ≡ None → (c : Option CurrentState) → StepsIn c s (Some (action.Send o)) after → ⊥
        calm e None h = subst NoSend (sym h.0) (no-send_task (task_of s.traffic) s.traffic (task-is s.traffic e))
        calm e (Some c) h = in-hand c (is_end (doing c s.traffic)) (is_put (doing c s.traffic)) (doing c s.traffic) h

        goes : (out : OutgoingValue) → s.traffic.outgoing ≡ Some out → (b : Bool) → out.sending.is_new ≡ b
            → Some (action.Send o) ≡ action_of (did_of (cond b task.Opens task.Writes) s.traffic) → is_open o.channel past ≡ true
        goes out e true new h = absurd (opened (option_and_then (opening_of s.traffic) s.traffic.outgoing) h)
          where
            opened : (p : Option OpeningValue) → Some (action.Send o) ≡ action_of (did_open p) → ⊥
            opened None g = cc
            opened (Some p) g = cc
        goes out e false old h =
            let said : Some (action.Send o) ≡ Some (action.Send (sent_of out)) =
            h ∙ ap (λ (x : Option OutgoingValue). action_of (did_write x)) e in
            let own : o ≡ sent_of out = cc in
            let channel : o.channel ≡ out.sending.channel = ap (λ (v : SentValue). v.channel) own in
            ap (λ (n : ℕ). is_open n past) channel
            ∙ w.same out.sending.channel
            ∙ ap (λ (x : Option OutgoingValue). present out.sending.channel s.traffic.shared.channels && not (opens_number out.sending.channel x)) e
            ∙ ap (λ (b : Bool). present out.sending.channel s.traffic.shared.channels && not (b && eqb out.sending.channel out.sending.channel)) old
            ∙ and-true (present out.sending.channel s.traffic.shared.channels) ∙ w.there out e

        by : (x : Option OutgoingValue) → s.traffic.outgoing ≡ x → StepsAs (is_some x) s (Some (action.Send o)) after
            → is_open o.channel past ≡ true
        by None e steps = absurd (calm e s.current steps)
        by (Some out) e steps =
            goes out e out.sending.is_new refl (steps.0 ∙ ap (λ (what : Task). action_of (did_of what s.traffic)) (writing s out e))

  module _ (after : PoolState) (channel : ℕ) (counted : AreCounted s.traffic.shared.channels) where
    -- what is closed so is there
    abbrev ClosesThere : Option ℕ → Type 0
    ClosesThere None = Unit {0}
    ClosesThere (Some n) = present n s.traffic.shared.channels ≡ true

    there-said : (shut : Option ℕ) → ClosesThere shut → Some (action.Close channel) ≡ Some (close_or_continue shut)
        → present channel s.traffic.shared.channels ≡ true
    there-said None h said = absurd cc
    there-said (Some n) h said =
        let same : channel ≡ n = cc in ap (λ (m : ℕ). present m s.traffic.shared.channels) same ∙ h

    there-at : (c : CurrentState) (place : ℕ) → ClosesThere (closed_at place (scene_of s c))
    there-at c place = by (try_at_place c.entry.flying place)
      where
        shut : (one : SentTry) (b : Bool) → closes one.channel one.id s.traffic.shared.channels ≡ b
            → ClosesThere (cond b (Some one.channel) None)
        shut one true is = closes-there one.channel one.id s.traffic.shared.channels is
        shut one false is = tt

        by : (one : Option SentTry)
            → ClosesThere (option_map_or (λ v. closed_if (ended_of s.traffic.shared.channels v)) one None)
        by None = tt
        by (Some one) = shut one (closes one.channel one.id s.traffic.shared.channels) refl

    there-by : (c : CurrentState) (what : Doing) → ClosesThere (closed_by what (scene_of s c))
    there-by c (doings.Leaves place) = there-at c place
    there-by c doings.Quits = by (place_on (scene_of s c))
      where
        by : (place : Option ℕ) → ClosesThere (option_and_then (λ p. closed_at p (scene_of s c)) place)
        by None = tt
        by (Some place) = there-at c place
    there-by c doings.Hears = tt
    there-by c doings.Doubts = tt
    there-by c doings.Stalls = tt
    there-by c doings.Fails = tt
    there-by c doings.PutsBack = tt
    there-by c doings.Expires = tt
    there-by c doings.Frees = tt
    there-by c doings.Refused = tt
    there-by c doings.Ends = tt
    there-by c doings.Draws = tt
    there-by c (doings.BeginsRound place) = tt
    there-by c doings.GivesUp = tt
    there-by c doings.Blocks = tt
    there-by c doings.Sends = tt
    there-by c (doings.Dates due) = tt
    there-by c doings.Rests = tt

    not-over : (what : Doing) (c : CurrentState) (askers : Option (List ℕ))
        → Some (action.Close channel) ≡ Some (over_or_continue what c askers) → ⊥
    not-over what c None h = cc
    not-over what c (Some askers) h = cc

    not-taken : (c : Option CurrentState) → Some (action.Close channel) ≡ action_of (took_up c) → ⊥
    not-taken None h = cc
    not-taken (Some c) h = cc

    idle-there : (until n : ℕ) → slice_get s.traffic.shared.channels.idle 0 ≡ Some (until, n)
        → present n s.traffic.shared.channels ≡ true
    idle-there until n first =
        by (channel_at n s.traffic.shared.channels) (counted.idle until n (in-first s.traffic.shared.channels.idle first))
      where
        in-first : (ds : List (ℕ × ℕ)) → slice_get ds 0 ≡ Some (until, n) → list_any (is_at (pair_cmp (until, n))) ds ≡ true
        in-first [] h = absurd cc
        in-first (d ∷ ds) h =
            let one : ◌≡◌ {A = ℕ × ℕ} d (until, n) = cc in
            or-left (is_at (pair_cmp (until, n)) d) (list_any (is_at (pair_cmp (until, n))) ds)
            (ap (λ (p : ℕ × ℕ). is_at (pair_cmp (until, n)) p) one ∙ ap is_eq (pair-self (until, n)))

        by : (o : Option Channel) → IsIdle until o → is_some o ≡ true
        by None h = absurd h
        by (Some c) h = refl

    there-task : (what : Task) → TaskIs s.traffic what → Some (action.Close channel) ≡ action_of (did_of what s.traffic)
        → present channel s.traffic.shared.channels ≡ true
    there-task task.Opens is said = absurd is
    there-task task.Writes is said = absurd is
    there-task task.Doubts is said = absurd cc
    there-task task.PassesBy is said = absurd cc
    there-task (task.Cuts n) is said = absurd cc
    there-task (task.ClosesFailed n) is said =
        let same : channel ≡ n = cc in ap (λ (m : ℕ). present m s.traffic.shared.channels) same ∙ is.2
    there-task task.DropsFailure is said = absurd cc
    there-task (task.TakesReady n) is said = absurd (not-taken (taken_up n todo.GoOn s.traffic.table) said)
    there-task (task.TakesUp n to_do) is said = absurd (not-taken (taken_up n to_do s.traffic.table) said)
    there-task (task.Undates due n) is said = absurd cc
    there-task (task.Strays n) is said = absurd cc
    there-task (task.Unblocks n) is said = absurd cc
    there-task (task.ClosesIdle n) is said =
        let same : channel ≡ n = cc in
        ap (λ (m : ℕ). present m s.traffic.shared.channels) same ∙ idle-there is.1.0 n is.1.1
    there-task task.Admits is said = by (to_admit s.traffic.askers) said
      where
        by : (f : Option (ℕ × WaitingValue))
            → Some (action.Close channel) ≡ action_of (option_map_or (λ p. took_up (taken_up p.0 todo.GoOn s.traffic.table)) f done.Idle)
            → present channel s.traffic.shared.channels ≡ true
        by None h = absurd cc
        by (Some f) h = absurd (not-taken (taken_up f.0 todo.GoOn s.traffic.table) h)

    closes-open : Steps s (Some (action.Close channel)) after → is_open channel past ≡ true
    closes-open is = by s.traffic.outgoing refl is
      where
        in-hand : (c : CurrentState) (ends puts : Bool) (what : Doing)
            → StepsBy ends puts what c s (Some (action.Close channel)) after → present channel s.traffic.shared.channels ≡ true
        in-hand c true puts what h = absurd (not-over what c _ h.action)
        in-hand c false true what h = let no_such = h.action in absurd cc
        in-hand c false false what h = there-said (closed_by what (scene_of s c)) (there-by c what) h.action

        calm : s.traffic.outgoing ≡ None → (c : Option CurrentState) → StepsIn c s (Some (action.Close channel)) after
            → present channel s.traffic.shared.channels ≡ true
        calm e None h = there-task (task_of s.traffic) (task-is s.traffic e) h.0
        calm e (Some c) h = in-hand c (is_end (doing c s.traffic)) (is_put (doing c s.traffic)) (doing c s.traffic) h

        out : (b : Bool) → Some (action.Close channel) ≡ action_of (did_of (cond b task.Opens task.Writes) s.traffic) → ⊥
        out true h = opened (option_and_then (opening_of s.traffic) s.traffic.outgoing) h
          where
            opened : (p : Option OpeningValue) → Some (action.Close channel) ≡ action_of (did_open p) → ⊥
            opened None g = cc
            opened (Some p) g = cc
        out false h = written s.traffic.outgoing h
          where
            written : (p : Option OutgoingValue) → Some (action.Close channel) ≡ action_of (did_write p) → ⊥
            written None g = cc
            written (Some p) g = cc

        by : (x : Option OutgoingValue) → s.traffic.outgoing ≡ x → StepsAs (is_some x) s (Some (action.Close channel)) after
            → is_open channel past ≡ true
        by None e steps = calm-present e channel ∙ calm e s.current steps
        by (Some o) e steps =
            absurd (out o.sending.is_new (steps.0 ∙ ap (λ (what : Task). action_of (did_of what s.traffic)) (writing s o e)))

pub channels_are_used_open : ChannelsAreUsedOpen
channels_are_used_open options limits seed past s runs short =
    let used = used-runs options limits seed past s runs short in
    record {
      sends = λ after o is. sends-open past s used after o is;
      closes = λ after channel is. closes-open past s used after channel (counted-runs options limits seed past s runs) is;
    }
