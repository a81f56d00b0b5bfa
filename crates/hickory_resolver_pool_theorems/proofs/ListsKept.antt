-- Whatever is done, the servers of a list stay those that its group was given.
use Rattle.std.proofs.Common.{◌≡◌, ◌+◌, ◌-◌, ◌^◌, min, ℕ, Bool, true, false, cond, List, [], refl, ap, sym, subst, ◌∙◌}
use Rattle.std.specs.Prelude.{Option, None, Some}
use Rattle.std.specs.Option.{is_some, option_map_or}
use Rattle.hickory_resolver_askers.specs.Askers.{WaitingValue, to_admit}
use Rattle.hickory_resolver_askers.specs.Askers as ask
use Rattle.hickory_resolver_channels.specs.Channels.{ChannelsState, number_given}
use Rattle.hickory_resolver_channels.specs.declared.channel.ChannelKind.{ChannelKind}
use Rattle.hickory_resolver_channels.specs.declared.channel.ChannelKind.TheVariants.{Datagram, Stream}
use Rattle.hickory_resolver_config.specs.declared.strategies.ServerOrderingStrategy.{ServerOrderingStrategy}
use Rattle.hickory_resolver_flights.specs.Flights.{changed}
use Rattle.hickory_resolver_flights.specs.declared.heard.Heard.{Heard}
use Rattle.hickory_resolver_flights.specs.declared.heard.Heard.TheVariants as what_is
use Rattle.hickory_resolver_servers.specs.Measures.{after_answer, after_failure, after_timeout}
use Rattle.hickory_resolver_servers.specs.Order.{probe_of, probed}
use Rattle.hickory_resolver_servers.specs.Server.{ServerState}
use Rattle.hickory_resolver_servers.specs.declared.order.RoundStart.{RoundStart}
use Rattle.hickory_resolver_steps.specs.Ending.{try_at_place}
use Rattle.hickory_resolver_steps.specs.Lists.{ListState}
use Rattle.hickory_resolver_steps.specs.Steps.{Parts, with_latest, sent_on, sent_to, sent_as, sent, stream_in, kind_of}
use Rattle.hickory_resolver_steps.specs.Telling.{told_of, measured, measure_of, place_on, servers_heard_to, servers_late_to, late_at}
use Rattle.hickory_resolver_steps.specs.declared.flying.SentTry.{SentTry}
use Rattle.hickory_resolver_steps.specs.declared.flying.Step.{Step}
use Rattle.hickory_resolver_steps.specs.declared.telling.Measure.{Measure}
use Rattle.hickory_resolver_steps.specs.declared.telling.Measure.TheVariants.{Answered, Failed, Nothing}
use Rattle.hickory_resolver_steps.specs.declared.telling.Telling.{Telling}
use Rattle.hickory_resolver_transactions.specs.Transaction.{wanted, try_at, failed_try, due_try, freed, places_left}
use Rattle.hickory_resolver_transactions.specs.declared.candidate.Try.{Try}
use Rattle.hickory_resolver_transactions.specs.declared.transaction.Wanted.{Wanted}
use Rattle.hickory_resolver_traffic.specs.Acting.{Acted, acted, acted_on, acted_with, parts_of, step_of, telling_of, with_list_servers}
use Rattle.hickory_resolver_traffic.specs.Doing.{Scene, IsDone, hears_octets, after_first, heard_of_first, hears_first, hears, doubts_message, doubts, doing, is_empty, one_freed, fails_on, after_failed, fails, act_on, before_act, moment_of, stalls_on, stalls, leaving_at, leave_at, closed_at, freed_if, leaves, quits_at, after_quit, quits, place_on as place_of_failure, with_to_do, expires, frees, then_do, changing, draws, gives_up, blocks, sends, dates, with_probe, with_round_parts, round_of, is_stream}
use Rattle.hickory_resolver_traffic.specs.Groups.{GroupListState, GroupsState, list_in}
use Rattle.hickory_resolver_traffic.specs.Inbox.{MessageValue, first_message, first_failure}
use Rattle.hickory_resolver_traffic.specs.Table.{CurrentState, without_blocked}
use Rattle.hickory_resolver_traffic.specs.Tasks.{task_of, after_task, closed, freed_by, without_taken}
use Rattle.hickory_resolver_traffic.specs.Traffic.{TrafficState}
use Rattle.hickory_resolver_traffic.specs.declared.acting.Moment.{Moment}
use Rattle.hickory_resolver_traffic.specs.declared.acting.ServerAct.{ServerAct}
use Rattle.hickory_resolver_traffic.specs.declared.acting.ServerAct.TheVariants as act
use Rattle.hickory_resolver_traffic.specs.declared.doing.Doing.{Doing}
use Rattle.hickory_resolver_traffic.specs.declared.doing.Doing.TheVariants.{Hears, Doubts, Stalls, Fails, Quits, PutsBack, Expires, Frees, Refused, Leaves, Ends, Draws, BeginsRound, GivesUp, Blocks, Sends, Dates, Rests}
use Rattle.hickory_resolver_traffic.specs.declared.entry.ToDo.TheVariants as todo
use Rattle.hickory_resolver_traffic.specs.declared.inbox.ChannelFailure.{ChannelFailure}
use Rattle.hickory_resolver_traffic.specs.declared.inbox.Failure.{Failure}
use Rattle.hickory_resolver_traffic.specs.declared.inbox.Failure.TheVariants as failure
use Rattle.hickory_resolver_traffic.specs.declared.tasks.Task.{Task}
use Rattle.hickory_resolver_traffic.specs.declared.tasks.Task.TheVariants as task
use Rattle.hickory_resolver_pool.specs.Pool.{PoolState, Starts, StepsBy, StepsIn, StepsAs, Steps, IsDoneTo, scene_of, is_end, is_put, put_by, let_go, started}
use Rattle.hickory_resolver_pool.specs.declared.pool.Action.{Action}
use Rattle.hickory_resolver_pool_theorems.proofs.Lists.{bare_all, bare-changed, bare-failure, bare-timeout, AreKept, kept-self, kept-put, kept-changed, kept-ended}

-- ---- what is told of servers

abbrev Same : ListState → ListState → Type 0
Same s t = bare_all t.servers ≡ bare_all s.servers

same-measured : (measure : Measure) (at : Telling) (t : Try) (place : ℕ) (s : ListState)
    → Same s (measured measure at t place s)
same-measured Answered at t place s =
    bare-changed (after_answer t.sent_at at.moment) (λ x. refl) place s.servers
same-measured Failed at t place s =
    bare-changed (after_failure at.timeout t.sent_at at.moment) (λ x. bare-failure at.timeout t.sent_at at.moment x) place
    s.servers
same-measured Nothing at t place s = refl

same-told : (measure : Measure) (at : Telling) (channels : ChannelsState) (t : Try) (s : ListState)
    → Same s (told_of measure at channels t s)
same-told measure at channels t s = by (place_on t.channel channels s)
  where
    by : (p : Option ℕ) → Same s (option_map_or (λ place. measured measure at t place s) p s)
    by None = refl
    by (Some place) = same-measured measure at t place s

same-late : (at : Telling) (channels : ChannelsState) (s : ListState) (t : Try) → Same s (servers_late_to at channels s t)
same-late at channels s t = by (place_on t.channel channels s)
  where
    by : (p : Option ℕ) → Same s (option_map_or (late_at at t s) p s)
    by None = refl
    by (Some place) =
        bare-changed (after_timeout at.timeout t.sent_at t.due at.moment)
        (λ x. bare-timeout at.timeout t.sent_at t.due at.moment x) place s.servers

same-latest : (kind : ChannelKind) (place channel : ℕ) (s : ListState) → Same s (with_latest kind place channel s)
same-latest Datagram place channel s = refl
same-latest Stream place channel s = refl

same-sent : (step : Step) (p : Parts) → Same p.servers (sent step p).servers
same-sent step p = by (wanted p.flying.flight.transaction)
  where
    on : (kind : ChannelKind) (place : ℕ) (channel : Option ℕ) → Same p.servers (sent_on step kind place p channel).servers
    on kind place None = refl
    on kind place (Some channel) = same-latest kind place channel p.servers

    to : (kind : ChannelKind) (place : ℕ) (stream : Option ℕ) → Same p.servers (sent_to step kind place p stream).servers
    to kind place (Some channel) = refl
    to kind place None = on kind place (number_given p.shared.channels)

    by : (w : Option Wanted) → Same p.servers (option_map_or (sent_as step p) w p).servers
    by None = refl
    by (Some w) = to (kind_of w.way.transport) w.place (stream_in (kind_of w.way.transport) w.place p)

same-acted : (what : ServerAct) (n : ℕ) (m : Moment) (octets : List ℕ) (p : Parts)
    → Same p.servers (acted what n m octets p).servers
same-acted (act.Hear channel id) n m octets p = by (try_at channel id p.flying.flight.transaction)
  where
    by : (t : Option Try)
        → Same p.servers (option_map_or (servers_heard_to (telling_of m) p.shared.channels octets p.flying.flight p.servers) t p.servers)
    by None = refl
    by (Some t) = same-told (measure_of _) (telling_of m) p.shared.channels t p.servers
same-acted (act.Fail channel) n m octets p = by (failed_try channel p.flying.flight.transaction)
  where
    by : (t : Option Try)
        → Same p.servers (option_map_or (λ x. told_of Failed (telling_of m) p.shared.channels x p.servers) t p.servers)
    by None = refl
    by (Some t) = same-told Failed (telling_of m) p.shared.channels t p.servers
same-acted act.Expire n m octets p = by (due_try m.clock p.flying.flight.transaction)
  where
    by : (t : Option Try)
        → Same p.servers (option_map_or (servers_late_to (telling_of m) p.shared.channels p.servers) t p.servers)
    by None = refl
    by (Some t) = same-late (telling_of m) p.shared.channels p.servers t
same-acted act.Send n m octets p = same-sent (step_of n m) p

kept-acted : (what : ServerAct) (n : ℕ) (m : Moment) (octets : List ℕ) (list : ℕ) (a : Acted)
    → AreKept a.lists (acted_on what n m octets list a).lists
kept-acted what n m octets list a = by (list_in list a.lists) refl
  where
    by : (l : Option GroupListState) → list_in list a.lists ≡ l
        → AreKept a.lists (option_map_or (acted_with what n m octets list a) l a).lists
    by None is = kept-self a.lists
    by (Some l) is =
        kept-put list l (with_list_servers l (acted what n m octets (parts_of a.shared a.flying l))) a.lists is (record {
          servers = same-acted what n m octets (parts_of a.shared a.flying l);
          sources = refl;
          current = refl;
        })

-- ---- what is done

pub record IsKept (g h : GroupsState) : Type 0 where
  pub next : h.next ≡ g.next
  pub current : h.current ≡ g.current
  pub lists : AreKept g.lists h.lists

groups-self : (g : GroupsState) → IsKept g g
groups-self g = record { next = refl; current = refl; lists = kept-self g.lists }

pub groups-same : (g h : GroupsState) → h ≡ g → IsKept g h
groups-same g h is = subst (λ (k : GroupsState). IsKept g k) (sym is) (groups-self g)

abbrev Keeps : Scene → Scene → Type 0
Keeps x y = IsKept x.traffic.groups y.traffic.groups

keeps-act : (what : ServerAct) (octets : List ℕ) (x : Scene) → Keeps x (act_on what octets x)
keeps-act what octets x = record {
  next = refl;
  current = refl;
  lists = kept-acted what x.current.number (moment_of x.traffic) octets x.current.entry.asked.0 (before_act x);
}

-- the groups are those of another scene
keeps-as : (x y z : Scene) → z.traffic.groups ≡ y.traffic.groups → Keeps x y → Keeps x z
keeps-as x y z is w = subst (λ (g : GroupsState). IsKept x.traffic.groups g) (sym is) w

keeps-hears : (x : Scene) → Keeps x (hears x)
keeps-hears x = keeps-as x (hears_first x) (hears x) (after (heard_of_first x)) (by (first_message x.traffic.inbox))
  where
    after : (heard : Option Heard) → (after_first heard (hears_first x)).traffic.groups ≡ (hears_first x).traffic.groups
    after None = refl
    after (Some what_is.Nothing) = refl
    after (Some what_is.OtherLetters) = refl
    after (Some what_is.OptRefused) = refl
    after (Some (what_is.Reply outcome)) = refl

    by : (m : Option MessageValue) → Keeps x (option_map_or (hears_octets x) m x)
    by None = groups-self x.traffic.groups
    by (Some m) = keeps-act (act.Hear m.channel _) m.octets x

keeps-fails : (x : Scene) → Keeps x (fails x)
keeps-fails x = by (first_failure x.traffic.inbox)
  where
    after : (f : ChannelFailure) (stream : Bool) → Keeps x (after_failed stream (act_on (act.Fail f.channel) [] x))
    after f true = keeps-act (act.Fail f.channel) [] x
    after f false = keeps-act (act.Fail f.channel) [] x

    by : (f : Option ChannelFailure) → Keeps x (option_map_or (fails_on x) f (with_to_do todo.GoOn x))
    by None = groups-self x.traffic.groups
    by (Some f) = after f (is_stream f.channel x.traffic.shared.channels)

groups-doubts : (t : TrafficState) → (option_map_or (doubts_message t) (first_message t.inbox) t).groups ≡ t.groups
groups-doubts t = by (first_message t.inbox)
  where
    by : (m : Option MessageValue) → (option_map_or (doubts_message t) m t).groups ≡ t.groups
    by None = refl
    by (Some m) = refl

groups-stalls : (x : Scene) → (stalls x).traffic.groups ≡ x.traffic.groups
groups-stalls x = by (first_failure x.traffic.inbox)
  where
    by : (f : Option ChannelFailure) → (option_map_or (stalls_on x) f (with_to_do todo.GoOn x)).traffic.groups ≡ x.traffic.groups
    by None = refl
    by (Some f) = refl

groups-leave_at : (place : ℕ) (x : Scene) → (leave_at place x).traffic.groups ≡ x.traffic.groups
groups-leave_at place x = by (try_at_place x.current.entry.flying place)
  where
    by : (one : Option SentTry) → (option_map_or (leaving_at place x) one x).traffic.groups ≡ x.traffic.groups
    by None = refl
    by (Some one) = refl

groups-one_freed : (t : TrafficState) → (one_freed t).groups ≡ t.groups
groups-one_freed t = by (is_empty t.table.blocked)
  where
    by : (empty : Bool)
        → (cond {A = TrafficState} empty t (record t { freed = min (t.freed + 1) (2 ^ 64 - 1) })).groups ≡ t.groups
    by true = refl
    by false = refl

groups-leaves : (place : ℕ) (x : Scene) → (leaves place x).traffic.groups ≡ x.traffic.groups
groups-leaves place x = by (closed_at place x) ∙ groups-leave_at place x
  where
    by : (closed : Option ℕ) → (freed_if closed (leave_at place x)).traffic.groups ≡ (leave_at place x).traffic.groups
    by None = refl
    by (Some channel) = groups-one_freed (leave_at place x).traffic

groups-quits : (x : Scene) → (quits x).traffic.groups ≡ x.traffic.groups
groups-quits x = by (place_of_failure x)
  where
    after : (place : ℕ) (closed : Option ℕ) → (after_quit closed (leave_at place x)).traffic.groups ≡ x.traffic.groups
    after place None = groups-leave_at place x
    after place (Some channel) = groups-leave_at place x

    by : (place : Option ℕ) → (option_map_or (quits_at x) place (with_to_do todo.PutBack x)).traffic.groups ≡ x.traffic.groups
    by None = refl
    by (Some place) = after place (closed_at place x)

groups-frees : (x : Scene) → (frees x).traffic.groups ≡ x.traffic.groups
groups-frees x = by (is_some (wanted (changed freed x.current.entry.flying.flight).transaction))
  where
    by : (wants : Bool) → (cond {A = Scene} wants
        (record {
          traffic = x.traffic;
          current = then_do todo.GoOn (changing (changed freed) x.current);
        })
        (record {
          traffic = record x.traffic { table = without_blocked x.current.number x.traffic.table };
          current = then_do todo.GoOn (changing (changed freed) x.current);
        })).traffic.groups ≡ x.traffic.groups
    by true = refl
    by false = refl

same-probed : (n : ℕ) (probe : Option ℕ) (servers : List ServerState)
    → bare_all (probed n probe servers) ≡ bare_all servers
same-probed n None servers = refl
same-probed n (Some place) servers =
    bare-changed (λ (s : ServerState). record s { probe = Some n }) (λ s. refl) place servers

keeps-round : (place : ℕ) (x y : Scene) → Keeps x (with_round_parts place x y.current.entry.flying)
keeps-round place x y = record {
  next = refl;
  current = refl;
  lists = kept-changed (with_probe strategy round left)
      (λ l. record {
        servers = same-probed round.transaction (probe_of strategy round l.servers.servers left) l.servers.servers;
        sources = refl;
        current = refl;
      }) x.current.entry.asked.0 x.traffic.groups.lists;
}
  where
    strategy : ServerOrderingStrategy
    strategy = x.traffic.rules.strategy

    round : RoundStart
    round = round_of place x

    left : List ℕ
    left = places_left x.current.entry.flying.flight.transaction

keeps-by : (x y z : Scene) → y ≡ z → Keeps x z → Keeps x y
keeps-by x y z is w = subst (λ (v : Scene). Keeps x v) (sym is) w

keeps-groups : (x y z : Scene) → y ≡ z → z.traffic.groups ≡ x.traffic.groups → Keeps x y
keeps-groups x y z is same = keeps-by x y z is (groups-same x.traffic.groups z.traffic.groups same)

keeps-done : (what : Doing) (x y : Scene) → IsDone what x y → Keeps x y
keeps-done Hears x y is = keeps-by x y (hears x) is (keeps-hears x)
keeps-done Doubts x y is = keeps-groups x y (doubts x) is (groups-doubts x.traffic)
keeps-done Stalls x y is = keeps-groups x y (stalls x) is (groups-stalls x)
keeps-done Fails x y is = keeps-by x y (fails x) is (keeps-fails x)
keeps-done Quits x y is = keeps-groups x y (quits x) is (groups-quits x)
keeps-done Expires x y is = keeps-by x y (expires x) is (keeps-act act.Expire [] x)
keeps-done Frees x y is = keeps-groups x y (frees x) is (groups-frees x)
keeps-done (Leaves place) x y is = keeps-groups x y (leaves place x) is (groups-leaves place x)
keeps-done Draws x y is = keeps-groups x y (draws x) is refl
keeps-done (BeginsRound place) x y is =
    keeps-by x y (with_round_parts place x y.current.entry.flying) is.after (keeps-round place x y)
keeps-done GivesUp x y is = keeps-groups x y (gives_up x) is refl
keeps-done Blocks x y is = keeps-groups x y (blocks x) is refl
keeps-done Sends x y is = keeps-by x y (sends x) is (keeps-act act.Send [] x)
keeps-done (Dates due) x y is = keeps-groups x y (dates due x) is refl
keeps-done PutsBack x y is = keeps-groups x y x is refl
keeps-done Refused x y is = keeps-groups x y x is refl
keeps-done Ends x y is = keeps-groups x y x is refl
keeps-done Rests x y is = keeps-groups x y x is refl

-- ---- steps

groups-task : (what : Task) (t : TrafficState) → (after_task what t).groups ≡ t.groups
groups-task task.Opens t = refl
groups-task task.Writes t = refl
groups-task task.Doubts t = groups-doubts t
groups-task task.PassesBy t = refl
groups-task (task.Cuts channel) t = refl
groups-task (task.ClosesFailed channel) t = by (first_failure (closed channel t).inbox)
  where
    why : (f : Failure) → (freed_by f (closed channel t)).groups ≡ t.groups
    why failure.Local = refl
    why failure.Refused = groups-one_freed (closed channel t)
    why failure.Unreachable = groups-one_freed (closed channel t)
    why failure.Closed = groups-one_freed (closed channel t)

    by : (f : Option ChannelFailure)
        → (option_map_or (λ g. freed_by g.why (closed channel t)) f (closed channel t)).groups ≡ t.groups
    by None = refl
    by (Some f) = why f.why
groups-task task.DropsFailure t = refl
groups-task (task.TakesReady n) t = refl
groups-task (task.TakesUp n to_do) t = refl
groups-task (task.Undates due n) t = refl
groups-task (task.Strays n) t = refl
groups-task (task.Unblocks n) t = refl
groups-task (task.ClosesIdle channel) t = groups-one_freed (closed channel t)
groups-task task.Admits t = by (to_admit t.askers)
  where
    by : (first : Option (ℕ × WaitingValue)) → (option_map_or (λ f. without_taken f.0 (record t { askers = ask.admitted t.askers })) first t).groups
        ≡ t.groups
    by None = refl
    by (Some f) = refl

groups-put : (what : Doing) (c : CurrentState) (s : PoolState) → (put_by what c s).traffic.groups ≡ s.traffic.groups
groups-put PutsBack c s = refl
groups-put Rests c s = refl
groups-put Ends c s = refl
groups-put Refused c s = refl
groups-put Hears c s = refl
groups-put Doubts c s = refl
groups-put Stalls c s = refl
groups-put Fails c s = refl
groups-put Quits c s = refl
groups-put Expires c s = refl
groups-put Frees c s = refl
groups-put (Leaves place) c s = refl
groups-put Draws c s = refl
groups-put (BeginsRound place) c s = refl
groups-put GivesUp c s = refl
groups-put Blocks c s = refl
groups-put Sends c s = refl
groups-put (Dates due) c s = refl

module _ (s t : PoolState) (r : Option Action) where
  abbrev Kept : Type 0
  Kept = IsKept s.traffic.groups t.traffic.groups

  kept-as : (u : PoolState) → t ≡ u → u.traffic.groups ≡ s.traffic.groups → Kept
  kept-as u is same =
      groups-same s.traffic.groups t.traffic.groups (ap (λ (v : PoolState). v.traffic.groups) is ∙ same)

  kept-starts : Starts s r t → Kept
  kept-starts is = kept-as (started s) is.1 (groups-task (task_of s.traffic) s.traffic)

  kept-done : (c : CurrentState) (what : Doing) (after : Option CurrentState)
      → IsDoneTo what (scene_of s c) t.traffic after → Kept
  kept-done c what None is = absurd is
  kept-done c what (Some after) is =
      keeps-done what (scene_of s c) (record { traffic = t.traffic; current = after }) is

  kept-let_go : (c : CurrentState) → t ≡ let_go c s → Kept
  kept-let_go c is =
      subst (λ (u : PoolState). IsKept s.traffic.groups u.traffic.groups) (sym is) (record {
        next = refl;
        current = refl;
        lists = kept-ended c.entry.asked.0 c.number s.traffic.groups;
      })

  kept-by : (c : CurrentState) (ends puts : Bool) (what : Doing) → StepsBy ends puts what c s r t → Kept
  kept-by c true puts what is = kept-let_go c is.pool
  kept-by c false true what is = kept-as (put_by what c s) is.pool (groups-put what c s)
  kept-by c false false what is = kept-done c what t.current is.done

  kept-in : (c : Option CurrentState) → StepsIn c s r t → Kept
  kept-in None is = kept-starts is
  kept-in (Some c) is = kept-by c (is_end (doing c s.traffic)) (is_put (doing c s.traffic)) (doing c s.traffic) is

  pub kept-step : Steps s r t → Kept
  kept-step is = by (is_some s.traffic.outgoing) is
    where
      by : (writes : Bool) → StepsAs writes s r t → Kept
      by true steps = kept-starts steps
      by false steps = kept-in s.current steps
