-- What each step does with the channels; and of the channels of a pool the tries are counted, whatever comes.
use Rattle.std.proofs.Common.{◌≡◌, ◌<◌, ◌-◌, ◌+◌, ◌^◌, min, ℕ, Bool, true, false, cond, List, [], ◌∷◌, refl, ap, sym, subst, ◌∙◌, arith, ne_eqb}
use Rattle.std.specs.Prelude.{Option, None, Some}
use Rattle.std.specs.List.{AllByRecursion}
use Rattle.std.specs.Option.{option_map_or}
use Rattle.hickory_resolver_askers.specs.Askers.{WaitingValue, to_admit}
use Rattle.hickory_resolver_askers.specs.Askers as ask
use Rattle.hickory_resolver_channels.specs.Channels.{ChannelsState, transaction_at, channel_at, channel_in, left, number_given}
use Rattle.hickory_resolver_channels.specs.Channels as channels
use Rattle.hickory_resolver_channels.specs.Draws.{try_drawn}
use Rattle.hickory_resolver_channels.specs.declared.channel.Channel.{Channel}
use Rattle.hickory_resolver_channels.specs.declared.channel.ChannelKind.{ChannelKind}
use Rattle.hickory_resolver_config.specs.ResolverConfig.{OptionsValue}
use Rattle.hickory_resolver_steps.specs.Ending.{try_at_place}
use Rattle.hickory_resolver_steps.specs.Lists.{number_of}
use Rattle.hickory_resolver_steps.specs.Steps.{Parts, kind_of, stream_in, sent_on, sent_to, sent_as, sent}
use Rattle.hickory_resolver_steps.specs.declared.flying.SentTry.{SentTry}
use Rattle.hickory_resolver_steps.specs.declared.flying.Step.{Step}
use Rattle.hickory_resolver_transactions.specs.Transaction.{wanted}
use Rattle.hickory_resolver_transactions.specs.declared.transaction.Wanted.{Wanted}
use Rattle.hickory_resolver_traffic.specs.Acting.{acted_with, parts_of, step_of}
use Rattle.hickory_resolver_traffic.specs.Doing.{Scene, IsDone, doing, doubts_message, is_empty, leave_at, leaving_at, leaves, freed_if, closed_at, quits, quits_at, after_quit, place_on, with_to_do, idle_until, sends, before_act, with_acted, moment_of, dates}
use Rattle.hickory_resolver_traffic.specs.Groups.{GroupListState, list_in}
use Rattle.hickory_resolver_traffic.specs.Inbox.{MessageValue, first_message}
use Rattle.hickory_resolver_traffic.specs.Table.{CurrentState}
use Rattle.hickory_resolver_traffic.specs.Tasks.{task_of, after_task, without_taken}
use Rattle.hickory_resolver_traffic.specs.Tasks as tasks
use Rattle.hickory_resolver_traffic.specs.Traffic.{TrafficState}
use Rattle.hickory_resolver_traffic.specs.declared.acting.ServerAct.TheVariants.{Send}
use Rattle.hickory_resolver_traffic.specs.declared.doing.Doing.{Doing}
use Rattle.hickory_resolver_traffic.specs.declared.doing.Doing.TheVariants.{Hears, Doubts, Stalls, Fails, Quits, PutsBack, Expires, Frees, Refused, Leaves, Ends, Draws, BeginsRound, GivesUp, Blocks, Sends, Dates, Rests}
use Rattle.hickory_resolver_traffic.specs.declared.entry.ToDo.TheVariants as todo
use Rattle.hickory_resolver_traffic.specs.declared.tasks.Task.{Task}
use Rattle.hickory_resolver_traffic.specs.declared.tasks.Task.TheVariants as task
use Rattle.hickory_resolver_pool.specs.Laws.{after_event}
use Rattle.hickory_resolver_pool.specs.Pool.{PoolState, no_servers, scene_of, put_by}
use Rattle.hickory_resolver_pool.specs.declared.limits.PoolLimits.{PoolLimits}
use Rattle.hickory_resolver_pool.proofs.Bounded.{stays_bounded}
use Rattle.hickory_resolver_pool_theorems.specs.Runs.{Happening, Runs, at_first, by_event, by_step}
use Rattle.hickory_resolver_pool_theorems.proofs.Counts.{AreCounted, counted-opened, counted-joined, counted-left, counted-closed}
use Rattle.hickory_resolver_pool_theorems.proofs.Frames.{IsOrdinary, kept-done}
use Rattle.hickory_resolver_pool_theorems.proofs.Kept.{AreKept, kept-runs, channels-one_freed, channels-freed_first}
use Rattle.hickory_resolver_pool_theorems.proofs.Keys.{apart-is}
use Rattle.hickory_resolver_pool_theorems.proofs.Reaching.{reached}
use Rattle.hickory_resolver_pool_theorems.proofs.Shapes.{IsStep, goes_out, begins, does, puts, ends, step-is}
use Rattle.hickory_resolver_pool_theorems.proofs.Traces.{shared-event}

-- ---- what holds of the channels, where nothing is done with them but this

module _ (P : ChannelsState → Type 0) where
  channels-by : (s t : ChannelsState) → t ≡ s → P s → P t
  channels-by s t same p = subst P (sym same) p

  pub channels-task : (t : TrafficState) → P t.shared.channels
      → ((channel : ℕ) → P (channels.closed channel t.shared.channels)) → (what : Task)
      → P (after_task what t).shared.channels
  channels-task t p closes task.Opens = p
  channels-task t p closes task.Writes = p
  channels-task t p closes task.Doubts = by (first_message t.inbox)
    where
      by : (m : Option MessageValue) → P (option_map_or (doubts_message t) m t).shared.channels
      by None = p
      by (Some m) = p
  channels-task t p closes task.PassesBy = p
  channels-task t p closes (task.Cuts channel) = p
  channels-task t p closes (task.ClosesFailed channel) =
      channels-by (channels.closed channel t.shared.channels) (after_task (task.ClosesFailed channel) t).shared.channels
      (channels-freed_first (tasks.closed channel t)) (closes channel)
  channels-task t p closes task.DropsFailure = p
  channels-task t p closes (task.TakesReady n) = p
  channels-task t p closes (task.TakesUp n to_do) = p
  channels-task t p closes (task.Undates due n) = p
  channels-task t p closes (task.Strays n) = p
  channels-task t p closes (task.Unblocks n) = p
  channels-task t p closes (task.ClosesIdle channel) =
      channels-by (channels.closed channel t.shared.channels) (after_task (task.ClosesIdle channel) t).shared.channels
      (channels-one_freed (tasks.closed channel t)) (closes channel)
  channels-task t p closes task.Admits = by (to_admit t.askers)
    where
      by : (first : Option (ℕ × WaitingValue)) → P
          (option_map_or (λ f. without_taken f.0 (record t { askers = ask.admitted t.askers })) first t).shared.channels
      by None = p
      by (Some f) = p

  pub channels-put : (what : Doing) (c : CurrentState) (s : PoolState) → P s.traffic.shared.channels
      → P (put_by what c s).traffic.shared.channels
  channels-put Hears c s p = p
  channels-put Doubts c s p = p
  channels-put Stalls c s p = p
  channels-put Fails c s p = p
  channels-put PutsBack c s p = p
  channels-put Expires c s p = p
  channels-put Frees c s p = p
  channels-put Refused c s p = p
  channels-put Ends c s p = p
  channels-put Draws c s p = p
  channels-put (BeginsRound place) c s p = p
  channels-put GivesUp c s p = p
  channels-put Blocks c s p = p
  channels-put Rests c s p = p
  channels-put Quits c s p = p
  channels-put (Leaves place) c s p = p
  channels-put Sends c s p = p
  channels-put (Dates due) c s p = p

  module _ (x : Scene) (p : P x.traffic.shared.channels) where
    abbrev here : ChannelsState
    here = x.traffic.shared.channels

    module _ (leaving : (number id until : ℕ) → P (left number id until here)) where
      leave-one : (place : ℕ) → P (leave_at place x).traffic.shared.channels
      leave-one place = by (try_at_place x.current.entry.flying place)
        where
          by : (one : Option SentTry) → P (option_map_or (leaving_at place x) one x).traffic.shared.channels
          by None = p
          by (Some one) = leaving one.channel one.id (idle_until x.traffic)

      leaves-one : (place : ℕ) → P (leaves place x).traffic.shared.channels
      leaves-one place = after (leave_at place x) (leave-one place) (closed_at place x)
        where
          after : (y : Scene) → P y.traffic.shared.channels → (shut : Option ℕ) → P (freed_if shut y).traffic.shared.channels
          after y k None = k
          after y k (Some channel) = by (is_empty y.traffic.table.blocked)
            where
              by : (empty : Bool)
                  → P (cond {A = TrafficState} empty y.traffic (record y.traffic { freed = min (y.traffic.freed + 1) (2 ^ 64 - 1) })).shared.channels
              by true = k
              by false = k

      quits-one : P (quits x).traffic.shared.channels
      quits-one = by (place_on x)
        where
          after : (y : Scene) → P y.traffic.shared.channels → (shut : Option ℕ) → P (after_quit shut y).traffic.shared.channels
          after y k None = k
          after y k (Some channel) = k

          by : (place : Option ℕ) → P (option_map_or (quits_at x) place (with_to_do todo.PutBack x)).traffic.shared.channels
          by None = p
          by (Some place) = after (leave_at place x) (leave-one place) (closed_at place x)

    module _ (joins : (number : ℕ) → P (channels.joined number (try_drawn x.traffic.shared.draws).id x.current.number here))
        (opens : (server : ℕ) (kind : ChannelKind)
        → P (channels.opened_for server kind (try_drawn x.traffic.shared.draws).id x.current.number here)) where
      module _ (l : GroupListState) where
        abbrev parts : Parts
        parts = parts_of x.traffic.shared x.current.entry.flying l

        abbrev step : Step
        step = step_of x.current.number (moment_of x.traffic)

        sends-number : (kind : ChannelKind) (place : ℕ) (found : Option ℕ)
            → P (sent_on step kind place parts found).shared.channels
        sends-number kind place None = p
        sends-number kind place (Some channel) = opens (number_of place parts.servers) kind

        sends-stream : (kind : ChannelKind) (place : ℕ) (found : Option ℕ)
            → P (sent_to step kind place parts found).shared.channels
        sends-stream kind place None = sends-number kind place (number_given here)
        sends-stream kind place (Some channel) = joins channel

        sends-parts : P (sent step parts).shared.channels
        sends-parts = by (wanted x.current.entry.flying.flight.transaction)
          where
            by : (o : Option Wanted) → P (option_map_or (sent_as step parts) o parts).shared.channels
            by None = p
            by (Some o) = sends-stream (kind_of o.way.transport) o.place (stream_in (kind_of o.way.transport) o.place parts)

      sends-one : P (sends x).traffic.shared.channels
      sends-one = by (list_in x.current.entry.asked.0 x.traffic.groups.lists)
        where
          by : (l : Option GroupListState) → P (with_acted x (option_map_or
              (acted_with Send x.current.number (moment_of x.traffic) [] x.current.entry.asked.0 (before_act x)) l
              (before_act x))).traffic.shared.channels
          by None = p
          by (Some l) = sends-parts l

      module _ (leaving : (number id until : ℕ) → P (left number id until here)) (y : Scene) where
        ordinary : (what : Doing) → IsOrdinary what → IsDone what x y → P y.traffic.shared.channels
        ordinary what o is = channels-by here y.traffic.shared.channels (kept-done what x y is o).channels p

        scene-by : (z : Scene) → y ≡ z → P z.traffic.shared.channels → P y.traffic.shared.channels
        scene-by z same k = subst (λ (v : Scene). P v.traffic.shared.channels) (sym same) k

        pub channels-done : (what : Doing) → IsDone what x y → P y.traffic.shared.channels
        channels-done Quits is = scene-by (quits x) is (quits-one leaving)
        channels-done (Leaves place) is = scene-by (leaves place x) is (leaves-one leaving place)
        channels-done Sends is = scene-by (sends x) is sends-one
        channels-done (Dates due) is = scene-by (dates due x) is p
        channels-done Hears is = ordinary Hears tt is
        channels-done Doubts is = ordinary Doubts tt is
        channels-done Stalls is = ordinary Stalls tt is
        channels-done Fails is = ordinary Fails tt is
        channels-done PutsBack is = ordinary PutsBack tt is
        channels-done Expires is = ordinary Expires tt is
        channels-done Frees is = ordinary Frees tt is
        channels-done Refused is = ordinary Refused tt is
        channels-done Ends is = ordinary Ends tt is
        channels-done Draws is = ordinary Draws tt is
        channels-done (BeginsRound place) is = ordinary (BeginsRound place) tt is
        channels-done GivesUp is = ordinary GivesUp tt is
        channels-done Blocks is = ordinary Blocks tt is
        channels-done Rests is = ordinary Rests tt is

-- ---- they are counted

low-id : (x : Scene) → (try_drawn x.traffic.shared.draws).id < 65536
low-id x = omega arith

pub fresh-number : (next : ℕ) (cs : List (ℕ × Channel)) → AllByRecursion (λ p. p.0 < next) cs → channel_in next cs ≡ None
fresh-number next [] all = refl
fresh-number next (c ∷ cs) all =
    ap (λ (b : Bool). cond b (Some c.1) (channel_in next cs))
    (apart-is next c.0 (ne_eqb next c.0 (λ (h : next ≡ c.0). let less : c.0 < next = all.0 in omega (arith, h, less))))
    ∙ fresh-number next cs all.1

fresh-try : (id : ℕ) (s : ChannelsState) → ((channel i n : ℕ) → transaction_at channel i s ≡ Some n → channel < s.next)
    → transaction_at s.next id s ≡ None
fresh-try id s old = by (transaction_at s.next id s) refl
  where
    by : (o : Option ℕ) → transaction_at s.next id s ≡ o → o ≡ None
    by None is = refl
    by (Some n) is = let less = old s.next id n is in absurd (omega (arith, less))

module _ (options : OptionsValue) (limits : PoolLimits) (seed : List ℕ) where
  counted-step : (past : List Happening) (s t : PoolState) → Runs (no_servers options limits seed) past s
      → AreCounted s.traffic.shared.channels → IsStep s t → AreCounted t.traffic.shared.channels
  counted-step past s t runs w is = by is
    where
      ch : ChannelsState
      ch = s.traffic.shared.channels

      kept : AreKept s.traffic.askers.next_transaction ch s.traffic.table.entries s.current
      kept = kept-runs options limits seed past s runs

      none : channel_at ch.next ch ≡ None
      none =
          fresh-number ch.next ch.channels
          (stays_bounded options limits seed s (reached (no_servers options limits seed) past s runs)).channels.numbers

      by : IsStep s t → AreCounted t.traffic.shared.channels
      by (goes_out o out current traffic same) =
          channels-by AreCounted ch t.traffic.shared.channels (ap (λ (u : TrafficState). u.shared.channels) traffic) w
      by (begins calm works same) =
          channels-by AreCounted (after_task (task_of s.traffic) s.traffic).shared.channels t.traffic.shared.channels
          (ap (λ (u : PoolState). u.traffic.shared.channels) same)
          (channels-task AreCounted s.traffic w (λ channel. counted-closed ch w kept.apart channel) (task_of s.traffic))
      by (does c after calm works at done) =
          let x : Scene = scene_of s c in
          channels-done AreCounted x w
          (λ number. counted-joined ch w kept.apart number (try_drawn s.traffic.shared.draws).id c.number (low-id x))
          (λ server kind. counted-opened ch w kept.apart server kind (try_drawn s.traffic.shared.draws).id c.number none
          (fresh-try (try_drawn s.traffic.shared.draws).id ch kept.old) (low-id x))
          (λ number id until. counted-left ch w kept.apart number id until)
          (record { traffic = t.traffic; current = after }) (doing c s.traffic) done
      by (puts c calm works p same) =
          subst (λ (u : PoolState). AreCounted u.traffic.shared.channels) (sym same)
          (channels-put AreCounted (doing c s.traffic) c s w)
      by (ends c calm works e same) = subst (λ (u : PoolState). AreCounted u.traffic.shared.channels) (sym same) w

  pub counted-runs : (past : List Happening) (s : PoolState) → Runs (no_servers options limits seed) past s
      → AreCounted s.traffic.shared.channels
  counted-runs _ _ at_first = record {
    counts = λ k. refl;
    apart = tt;
    ids = tt;
    idle = λ until k h. absurd cc;
    once = tt;
  }
  counted-runs _ _ (by_event past s e more) =
      channels-by AreCounted s.traffic.shared.channels (after_event s e).traffic.shared.channels (shared-event s e).channels
      (counted-runs past s more)
  counted-runs _ _ (by_step past s after r is more) =
      counted-step past s after more (counted-runs past s more) (step-is s after r is)
