-- Each channel is opened to a server of its transaction's group, under a number that none had before.
use Rattle.std.proofs.Common.{◌≡◌, ◌≤◌, ◌<◌, ℕ, Bool, true, false, cond, List, [], ◌∷◌, ◌++◌, map, refl, ap, sym, subst, ◌∙◌, true≢false, arith, zero, suc}
use Rattle.std.specs.Prelude.{Contains, Option, None, Some, IfSome, slice_get, unwrap_or}
use Rattle.std.specs.List.{AllByRecursion}
use Rattle.std.specs.Option.{is_some, option_map, option_map_or, option_or, option_and_then}
use Rattle.hickory_proto_core.specs.declared.dns_request.DnsRequestOptions.{DnsRequestOptions}
use Rattle.hickory_proto_core.specs.declared.query.Query.{Query}
use Rattle.hickory_resolver_askers.specs.Askers.{WaitingValue, next_one, to_admit}
use Rattle.hickory_resolver_channels.specs.Channels.{ChannelsState}
use Rattle.hickory_resolver_channels.specs.declared.channel.ChannelKind.{ChannelKind}
use Rattle.hickory_resolver_channels.specs.declared.channel.ChannelKind.TheVariants.{Datagram, Stream}
use Rattle.hickory_resolver_config.specs.ResolverConfig.{OptionsValue}
use Rattle.hickory_resolver_servers.specs.Server.{ServerState, server_of}
use Rattle.hickory_resolver_steps.specs.Steps.{SharedState, SendingValue}
use Rattle.hickory_resolver_tries.specs.Question.{question_of}
use Rattle.hickory_resolver_tries.specs.declared.pool_question.DnssecOptions.{DnssecOptions}
use Rattle.hickory_resolver_traffic.specs.Doing.{Scene, doing, closed_by}
use Rattle.hickory_resolver_traffic.specs.Groups.{GroupListState, list_at}
use Rattle.hickory_resolver_traffic.specs.Openings.{OpeningValue}
use Rattle.hickory_resolver_traffic.specs.Table.{CurrentState, EntryState}
use Rattle.hickory_resolver_traffic.specs.Tasks.{task_of, after_task, did as did_of, outgoing_task, opened_outgoing, opening_of, opening_in, opening_to, did_open, did_write, took_up, taken_up, came_in, ran_out, port_for, source_for}
use Rattle.hickory_resolver_traffic.specs.Traffic.{TrafficState, OutgoingValue}
use Rattle.hickory_resolver_traffic.specs.declared.doing.Doing.{Doing}
use Rattle.hickory_resolver_traffic.specs.declared.doing.Doing.TheVariants.{Hears, Doubts, Stalls, Fails, Quits, PutsBack, Expires, Frees, Refused, Leaves, Ends, Draws, BeginsRound, GivesUp, Blocks, Sends, Dates, Rests}
use Rattle.hickory_resolver_traffic.specs.declared.entry.ToDo.TheVariants.{GoOn}
use Rattle.hickory_resolver_traffic.specs.declared.groups.Sources.{Sources}
use Rattle.hickory_resolver_traffic.specs.declared.starting.Did.{Did}
use Rattle.hickory_resolver_traffic.specs.declared.starting.Did.TheVariants as done
use Rattle.hickory_resolver_traffic.specs.declared.tasks.Task.{Task}
use Rattle.hickory_resolver_traffic.specs.declared.tasks.Task.TheVariants as task
use Rattle.hickory_resolver_pool.specs.Laws.{PoolEvent, time_passes, group_has, is_asked, octets_come, channel_fails, is_forgotten, after_event}
use Rattle.hickory_resolver_pool.specs.Pool.{PoolState, AskedOf, no_servers, list_of, asking_told, action_of, close_or_continue, over_or_continue, current_after, Starts, StepsBy, StepsIn, StepsAs, Steps, IsDoneTo, scene_of, is_end, is_put, let_go, put_by}
use Rattle.hickory_resolver_pool.specs.Servers.{PoolServerValue, states_of, sources_of}
use Rattle.hickory_resolver_pool.specs.declared.limits.PoolLimits.{PoolLimits}
use Rattle.hickory_resolver_pool.specs.declared.pool.Action.{Action}
use Rattle.hickory_resolver_pool.specs.declared.pool.Action.TheVariants as action
use Rattle.hickory_resolver_pool.specs.declared.pool.Asked.TheVariants as asked
use Rattle.hickory_resolver_pool_theorems.specs.Answers.{servers_in}
use Rattle.hickory_resolver_pool_theorems.specs.Opens.{port_given, IsToServer, OpensOther, OpenedOther, OpensToOwnServers}
use Rattle.hickory_resolver_pool_theorems.specs.Runs.{Happening, came, did, Runs, at_first, by_event, by_step}
use Rattle.hickory_resolver_pool_theorems.proofs.EachEntry.{HoldOfEach, AtCurrent, Begins, each-step, each-event, each-as}
use Rattle.hickory_resolver_pool_theorems.proofs.Fits.{by_kind, port_by, has_port}
use Rattle.hickory_resolver_pool_theorems.proofs.Groups.{given_in, IsGivenAs, CurrentIs, IsCurrentList, GroupsAre, groups-runs}
use Rattle.hickory_resolver_pool_theorems.proofs.Lists.{bare, bare_all}
use Rattle.hickory_resolver_pool_theorems.proofs.ListsKept.{kept-step}
use Rattle.hickory_resolver_pool_theorems.proofs.OutKept.{IsSent, sends_none, sends_one, IsOut, is_calm, is_sent, out-done, IsBegun, opens, writes, keeps, begun-task}
use Rattle.hickory_resolver_pool_theorems.proofs.Ports.{next_of, next-event, given-event, current-is, given_port, IsPorted, ported-runs, has-bare}
use Rattle.hickory_resolver_pool_theorems.proofs.Scenes.{same-done}
use Rattle.hickory_resolver_pool_theorems.proofs.Traces.{shared-event, current-event}

-- ---- each transaction asks the servers that its group had

pub record IsServed (past : List Happening) (next n list : ℕ) : Type 0 where
  pub later : List Happening
  pub earlier : List Happening
  pub pool : PoolState
  pub group : ℕ
  pub query : Query
  pub request : DnsRequestOptions
  pub dnssec : DnssecOptions
  pub now : ℕ
  pub happened : past ≡ later ++ came pool (is_asked group query request dnssec now) ∷ earlier
  pub number : pool.traffic.askers.next_transaction ≡ n
  pub given : asking_told (list_of group pool.traffic) (question_of query request dnssec) pool
      ≡ asked.Asker (next_one pool.traffic.askers)
  pub servers : servers_in group earlier ≡ given_in list past
  pub old : list < next

abbrev ServedIn : List Happening → ℕ → ℕ → EntryState → Type 0
ServedIn past next n e = IsServed past next n e.asked.0

served-more : (a : Happening) (past : List Happening) (next after n list : ℕ) → next ≤ after
    → (list < next → given_in list (a ∷ past) ≡ given_in list past) → IsServed past next n list
    → IsServed (a ∷ past) after n list
served-more a past next after n list more same w = record {
  later = a ∷ w.later;
  earlier = w.earlier;
  pool = w.pool;
  group = w.group;
  query = w.query;
  request = w.request;
  dnssec = w.dnssec;
  now = w.now;
  happened = ap (λ (p : List Happening). a ∷ p) w.happened;
  number = w.number;
  given = w.given;
  servers = w.servers ∙ sym (same w.old);
  old = omega (arith, w.old, more);
}

served-new : (past : List Happening) (s : PoolState) (e : PoolEvent) → GroupsAre past s.traffic.groups
    → Begins (ServedIn (came s e ∷ past) (next_of (after_event s e))) s e
served-new past s (time_passes at) groups = tt
served-new past s (group_has group servers) groups = tt
served-new past s (octets_come channel octets at) groups = tt
served-new past s (channel_fails f at) groups = tt
served-new past s (is_forgotten a) groups = tt
served-new past s (is_asked group query request dnssec at) groups = λ list l at_list there said.
    let current : IsCurrentList (given_in list past) (servers_in group past) s.traffic.groups.lists list (next_of s) =
    subst (CurrentIs past s.traffic.groups group) (current-is group list s.traffic at_list) (groups.current group) in
    let more = next-event s (is_asked group query request dnssec at) in
    record {
      later = [];
      earlier = past;
      pool = s;
      group = group;
      query = query;
      request = request;
      dnssec = dnssec;
      now = at;
      happened = refl;
      number = refl;
      given = said;
      servers = current.servers;
      old = let less = current.old in omega (arith, less, more);
    }

served-runs : (options : OptionsValue) (limits : PoolLimits) (seed : List ℕ) (past : List Happening) (s : PoolState)
    → Runs (no_servers options limits seed) past s → HoldOfEach (ServedIn past (next_of s)) s
served-runs options limits seed _ _ at_first = record { table = tt; worked = tt }
served-runs options limits seed _ _ (by_event past s e more) =
    each-event (ServedIn (came s e ∷ past) (next_of (after_event s e))) s e
    (each-as (ServedIn past (next_of s)) (ServedIn (came s e ∷ past) (next_of (after_event s e)))
    (λ n f w. served-more (came s e) past (next_of s) (next_of (after_event s e)) n f.asked.0 (next-event s e)
    (λ less. given-event past s e f.asked.0 less) w) s (served-runs options limits seed past s more))
    (served-new past s e (groups-runs options limits seed past s more))
served-runs options limits seed _ _ (by_step past s after r is more) =
    let same : next_of after ≡ next_of s = (kept-step s after r is).next in
    each-as (ServedIn past (next_of s)) (ServedIn (did s r ∷ past) (next_of after))
    (λ n f w. served-more (did s r) past (next_of s) (next_of after) n f.asked.0 (omega (arith, same)) (λ less. refl) w) after
    (each-step (ServedIn past (next_of s))
    (λ what x y done w. subst (λ (a : AskedOf). IsServed past (next_of s) x.current.number a.0)
    (sym (same-done what x y done).asked) w) s after r (served-runs options limits seed past s more) is)

-- ---- what opens a channel

abbrev NoOpen : Option Action → Type 0
NoOpen (Some (action.Open o)) = ⊥
NoOpen other = Unit {0}

no-open_close : (c : Option ℕ) → NoOpen (Some (close_or_continue c))
no-open_close None = tt
no-open_close (Some channel) = tt

no-open_over : (what : Doing) (c : CurrentState) (askers : Option (List ℕ)) → NoOpen (Some (over_or_continue what c askers))
no-open_over what c None = tt
no-open_over what c (Some askers) = tt

no-open_taken : (c : Option CurrentState) → NoOpen (action_of (took_up c))
no-open_taken None = tt
no-open_taken (Some c) = tt

no-open_written : (o : Option OutgoingValue) → NoOpen (action_of (did_write o))
no-open_written None = tt
no-open_written (Some o) = tt

no-open_task : (what : Task) (t : TrafficState) → t.outgoing ≡ None → NoOpen (action_of (did_of what t))
no-open_task task.Opens t none =
    subst (λ (o : Option OutgoingValue). NoOpen (action_of (did_open (option_and_then (opening_of t) o)))) (sym none) tt
no-open_task task.Writes t none = no-open_written t.outgoing
no-open_task task.Doubts t none = tt
no-open_task task.PassesBy t none = tt
no-open_task (task.Cuts channel) t none = tt
no-open_task (task.ClosesFailed channel) t none = tt
no-open_task task.DropsFailure t none = tt
no-open_task (task.TakesReady n) t none = no-open_taken (taken_up n GoOn t.table)
no-open_task (task.TakesUp n to_do) t none = no-open_taken (taken_up n to_do t.table)
no-open_task (task.Undates due n) t none = tt
no-open_task (task.Strays n) t none = tt
no-open_task (task.Unblocks n) t none = tt
no-open_task (task.ClosesIdle channel) t none = tt
no-open_task task.Admits t none = by (to_admit t.askers)
  where
    by : (first : Option (ℕ × WaitingValue))
        → NoOpen (action_of (option_map_or (λ f. took_up (taken_up f.0 GoOn t.table)) first done.Idle))
    by None = tt
    by (Some f) = no-open_taken (taken_up f.0 GoOn t.table)

-- where nothing goes out
no-open_calm : (s t : PoolState) (r : Option Action) → s.traffic.outgoing ≡ None → StepsIn s.current s r t → NoOpen r
no-open_calm s t r none is = by s.current is
  where
    stepped : (c : CurrentState) (ends puts : Bool) (what : Doing) → StepsBy ends puts what c s r t → NoOpen r
    stepped c true puts what steps = subst NoOpen (sym steps.action) (no-open_over what c _)
    stepped c false true what steps = subst NoOpen (sym steps.action) tt
    stepped c false false what steps = subst NoOpen (sym steps.action) (no-open_close (closed_by what (scene_of s c)))

    by : (c : Option CurrentState) → StepsIn c s r t → NoOpen r
    by None steps = subst NoOpen (sym steps.0) (no-open_task (task_of s.traffic) s.traffic none)
    by (Some c) steps = stepped c (is_end (doing c s.traffic)) (is_put (doing c s.traffic)) (doing c s.traffic) steps

-- ---- what is put away changes none of it

module _ (c : CurrentState) (s : PoolState) where
  abbrev Flat : PoolState → Type 0
  Flat t = (t.traffic.outgoing ≡ s.traffic.outgoing) × (t.traffic.shared.channels.next ≡ s.traffic.shared.channels.next)

  flat-put : (what : Doing) → Flat (put_by what c s)
  flat-put PutsBack = (refl, refl)
  flat-put Rests = (refl, refl)
  flat-put Ends = (refl, refl)
  flat-put Refused = (refl, refl)
  flat-put Hears = (refl, refl)
  flat-put Doubts = (refl, refl)
  flat-put Stalls = (refl, refl)
  flat-put Fails = (refl, refl)
  flat-put Quits = (refl, refl)
  flat-put Expires = (refl, refl)
  flat-put Frees = (refl, refl)
  flat-put (Leaves place) = (refl, refl)
  flat-put Draws = (refl, refl)
  flat-put (BeginsRound place) = (refl, refl)
  flat-put GivesUp = (refl, refl)
  flat-put Blocks = (refl, refl)
  flat-put Sends = (refl, refl)
  flat-put (Dates due) = (refl, refl)

-- the port of a server as it was given, where it was given one
port-some : (o : Option ℕ) → is_some o ≡ true → o ≡ Some (unwrap_or o 0)
port-some None h = absurd (true≢false (sym h))
port-some (Some port) h = refl

port-is : (kind : ChannelKind) (server : ServerState) → is_some (port_by (by_kind kind) server) ≡ true
    → port_given kind (bare server) ≡ Some (port_for kind server)
port-is Datagram server h = port-some server.udp_port h
port-is Stream server h = port-some server.tcp_port h

-- of the server of a list that is at a place, as its servers were given
port-given : (kind : ChannelKind) (place : ℕ) (servers given : List ServerState) (server config : ServerState)
    → bare_all servers ≡ given → slice_get servers place ≡ Some server → bare server ≡ config
    → has_port given place (by_kind kind) ≡ true → port_given kind config ≡ Some (port_for kind server)
port-given kind place servers given server config as_given at is has =
    ap (λ (x : ServerState). port_given kind x) (sym is) ∙ port-is kind server
    (sym (ap (λ (x : Option ServerState). option_map_or (λ v. is_some (port_by (by_kind kind) v)) x false) at)
    ∙ has-bare servers place (by_kind kind) ∙ ap (λ (xs : List ServerState). has_port xs place (by_kind kind)) as_given ∙ has)

-- ---- channels that were opened

abbrev OpensBelow : ℕ → Option Action → Type 0
OpensBelow next (Some (action.Open o)) = o.channel < next
OpensBelow next other = Unit {0}

abbrev OpenedBelow : ℕ → Happening → Type 0
OpenedBelow next (did s r) = OpensBelow next r
OpenedBelow next other = Unit {0}

below-none : (next : ℕ) (r : Option Action) → NoOpen r → OpensBelow next r
below-none next None quiet = tt
below-none next (Some action.Continue) quiet = tt
below-none next (Some (action.Open o)) quiet = absurd quiet
below-none next (Some (action.Send sent)) quiet = tt
below-none next (Some (action.Close channel)) quiet = tt
below-none next (Some (action.Over o)) quiet = tt

below-later : (next after : ℕ) → next ≤ after → (past : List Happening) → AllByRecursion (OpenedBelow next) past
    → AllByRecursion (OpenedBelow after) past
below-later next after more [] all = tt
below-later next after more (h ∷ past) all = (one h all.0, below-later next after more past all.1)
  where
    by : (r : Option Action) → OpensBelow next r → OpensBelow after r
    by None w = tt
    by (Some action.Continue) w = tt
    by (Some (action.Open o)) w = omega (arith, w, more)
    by (Some (action.Send sent)) w = tt
    by (Some (action.Close channel)) w = tt
    by (Some (action.Over o)) w = tt

    one : (g : Happening) → OpenedBelow next g → OpenedBelow after g
    one (did s r) w = by r w
    one (came s e) w = tt

below-other : (next channel : ℕ) → next ≤ channel → (past : List Happening) → AllByRecursion (OpenedBelow next) past
    → AllByRecursion (OpenedOther channel) past
below-other next channel more [] all = tt
below-other next channel more (h ∷ past) all = (one h all.0, below-other next channel more past all.1)
  where
    by : (r : Option Action) → OpensBelow next r → OpensOther channel r
    by None w = tt
    by (Some action.Continue) w = tt
    by (Some (action.Open o)) w = λ same. omega (arith, w, more, same)
    by (Some (action.Send sent)) w = tt
    by (Some (action.Close closed)) w = tt
    by (Some (action.Over o)) w = tt

    one : (g : Happening) → OpenedBelow next g → OpenedOther channel g
    one (did s r) w = by r w
    one (came s e) w = tt

-- ---- what goes out is of the transaction that is worked on

abbrev channels_next : PoolState → ℕ
channels_next s = s.traffic.shared.channels.next

pub record IsGoing (past : List Happening) (s : PoolState) (o : OutgoingValue) : Type 0 where
  pub current : CurrentState
  pub works : s.current ≡ Some current
  pub list : o.list ≡ current.entry.asked.0
  pub port : given_port past o.list o.sending.place (by_kind o.sending.kind) ≡ true
  pub below : o.sending.is_new ≡ true → o.sending.channel < channels_next s
  pub is_new : o.sending.is_new ≡ true → AllByRecursion (OpenedOther o.sending.channel) past

pub record AreOut (past : List Happening) (s : PoolState) : Type 0 where
  pub goes : (o : OutgoingValue) → s.traffic.outgoing ≡ Some o → IsGoing past s o
  pub opened : AllByRecursion (OpenedBelow (channels_next s)) past

-- the transaction that is worked on asks servers of a list that there was
ported-own : (past : List Happening) (s : PoolState) → HoldOfEach (λ n f. IsPorted past (next_of s) f) s → (c : CurrentState)
    → s.current ≡ Some c → IsPorted past (next_of s) c.entry
ported-own past s w c works =
    subst (λ (x : Option CurrentState). IfSome x (AtCurrent (λ n f. IsPorted past (next_of s) f))) works w.worked

out-event : (past : List Happening) (s : PoolState) (e : PoolEvent) → HoldOfEach (λ n f. IsPorted past (next_of s) f) s
    → AreOut past s → AreOut (came s e ∷ past) (after_event s e)
out-event past s e ported w =
    let shared = shared-event s e in
    let next : channels_next (after_event s e) ≡ channels_next s = ap (λ (c : ChannelsState). c.next) shared.channels in
    record {
      goes = λ o is.
          let g = w.goes o (sym shared.outgoing ∙ is) in
          record {
            current = g.current;
            works = current-event s e ∙ g.works;
            list = g.list;
            port =
                let old = (ported-own past s ported g.current g.works).old in
                let same = given-event past s e o.list (let list = g.list in omega (arith, old, list)) in
                ap (λ (given : List PoolServerValue). has_port (states_of given) o.sending.place (by_kind o.sending.kind)) same
                ∙ g.port;
            below = λ new. let less = g.below new in omega (arith, less, next);
            is_new = λ new. (tt, g.is_new new);
          };
      opened = (tt, below-later (channels_next s) (channels_next (after_event s e)) (omega (arith, next)) past w.opened);
    }

pub writing : (s : PoolState) (o : OutgoingValue) → s.traffic.outgoing ≡ Some o → task_of s.traffic ≡ outgoing_task o
writing s o e =
    ap (λ (next : Option OutgoingValue). unwrap_or
    (option_or (option_map outgoing_task next) (option_or (came_in s.traffic) (ran_out s.traffic))) task.Admits) e

module _ (past : List Happening) (s t : PoolState) (r : Option Action) (ported : HoldOfEach (λ n f. IsPorted past (next_of s) f) s)
    (w : AreOut past s) where
  abbrev Q : Type 0
  Q = AreOut (did s r ∷ past) t

  -- where nothing goes out after it
  none-out : t.traffic.outgoing ≡ None → channels_next s ≤ channels_next t → OpensBelow (channels_next t) r → Q
  none-out none more head = record {
    goes = λ o is. let no_such : None ≡ Some o = sym none ∙ is in absurd cc;
    opened = (head, below-later (channels_next s) (channels_next t) more past w.opened);
  }

  abbrev Done : Task → Type 0
  Done what =
      (r ≡ action_of (did_of what s.traffic))
      → t.traffic ≡ after_task what s.traffic → t.current ≡ current_after (did_of what s.traffic) s.current → Q

  module _ (o : OutgoingValue) (e : s.traffic.outgoing ≡ Some o) where
    g : IsGoing past s o
    g = w.goes o e

    done-opens : o.sending.is_new ≡ true → Done task.Opens
    done-opens new action traffic current = by (opening_of s.traffic o) refl
      where
        next : channels_next t ≡ channels_next s
        next = ap (λ (u : TrafficState). u.shared.channels.next) traffic

        outgoing : t.traffic.outgoing ≡ Some (opened_outgoing o)
        outgoing = ap (λ (u : TrafficState). u.outgoing) traffic ∙ ap (λ (x : Option OutgoingValue). option_map opened_outgoing x) e

        did_is : did_of task.Opens s.traffic ≡ did_open (opening_of s.traffic o)
        did_is = ap (λ (x : Option OutgoingValue). did_open (option_and_then (opening_of s.traffic) x)) e

        stays : (p : Option OpeningValue) → current_after (did_open p) s.current ≡ s.current
        stays None = refl
        stays (Some p) = refl

        works : t.current ≡ Some g.current
        works =
            current ∙ ap (λ (d : Did). current_after d s.current) did_is ∙ stays (opening_of s.traffic o) ∙ g.works

        goes : (p : OutgoingValue) → t.traffic.outgoing ≡ Some p → IsGoing (did s r ∷ past) t p
        goes p is =
            let both : Some (opened_outgoing o) ≡ Some p = sym outgoing ∙ is in
            let same : opened_outgoing o ≡ p = cc in
            subst (IsGoing (did s r ∷ past) t) same (record {
              current = g.current;
              works = works;
              list = g.list;
              port = g.port;
              below = λ quiet. absurd cc;
              is_new = λ quiet. absurd cc;
            })

        -- the channel that is opened
        channel-is : (l : Option GroupListState) (p : OpeningValue)
            → option_and_then (opening_in o.sending) l ≡ Some p → p.channel ≡ o.sending.channel
        channel-is None p h = absurd cc
        channel-is (Some l) p h = at (slice_get l.servers.servers o.sending.place) h
          where
            at : (x : Option ServerState) → option_map (opening_to o.sending l) x ≡ Some p → p.channel ≡ o.sending.channel
            at None k = absurd cc
            at (Some x) k =
                let same : opening_to o.sending l x ≡ p = cc in sym (ap (λ (q : OpeningValue). q.channel) same)

        by : (p : Option OpeningValue) → opening_of s.traffic o ≡ p → Q
        by None is = record {
          goes = goes;
          opened = (
            subst (OpensBelow (channels_next t)) (sym (action ∙ ap action_of did_is ∙ ap (λ (x : Option OpeningValue). action_of (did_open x)) is)) tt,
            below-later (channels_next s) (channels_next t) (omega (arith, next)) past w.opened,
          );
        }
        by (Some p) is =
            let channel = channel-is (list_at o.list s.traffic.groups) p is in
            let less = g.below new in
            record {
              goes = goes;
              opened = (
                subst (OpensBelow (channels_next t))
                    (sym (action ∙ ap action_of did_is ∙ ap (λ (x : Option OpeningValue). action_of (did_open x)) is))
                    (omega (arith, channel, less, next)),
                below-later (channels_next s) (channels_next t) (omega (arith, next)) past w.opened,
              );
            }

    done-writes : Done task.Writes
    done-writes action traffic current =
        let next : channels_next t ≡ channels_next s = ap (λ (u : TrafficState). u.shared.channels.next) traffic in
        none-out (ap (λ (u : TrafficState). u.outgoing) traffic) (omega (arith, next))
        (below-none (channels_next t) r (subst NoOpen (sym action) (no-open_written s.traffic.outgoing)))

    done-out : Starts s r t → Q
    done-out is =
        subst Done (sym (writing s o e)) (by o.sending.is_new refl) is.0
        (ap (λ (u : PoolState). u.traffic) is.1) (ap (λ (u : PoolState). u.current) is.1)
      where
        by : (b : Bool) → o.sending.is_new ≡ b → Done (cond b task.Opens task.Writes)
        by true new = done-opens new
        by false new = done-writes

  module _ (e : s.traffic.outgoing ≡ None) where
    done-starts : Starts s r t → Q
    done-starts is = by (begun-task (task_of s.traffic) s.traffic)
      where
        traffic : t.traffic ≡ after_task (task_of s.traffic) s.traffic
        traffic = ap (λ (u : PoolState). u.traffic) is.1

        head : OpensBelow (channels_next t) r
        head =
            below-none (channels_next t) r
            (subst NoOpen (sym is.0) (no-open_task (task_of s.traffic) s.traffic e))

        next : (u : TrafficState) → t.traffic ≡ u → channels_next t ≡ u.shared.channels.next
        next u same = ap (λ (v : TrafficState). v.shared.channels.next) same

        by : IsBegun s.traffic (after_task (task_of s.traffic) s.traffic) → Q
        by (opens out shared) =
            let after = next (after_task (task_of s.traffic) s.traffic) traffic in
            let same : (after_task (task_of s.traffic) s.traffic).shared.channels.next ≡ channels_next s =
            ap (λ (v : SharedState). v.channels.next) shared in
            none-out (ap (λ (u : TrafficState). u.outgoing) traffic ∙ out ∙ ap (λ (x : Option OutgoingValue). option_map opened_outgoing x) e)
            (omega (arith, after, same)) head
        by (writes out shared) =
            let after = next (after_task (task_of s.traffic) s.traffic) traffic in
            let same : (after_task (task_of s.traffic) s.traffic).shared.channels.next ≡ channels_next s =
            ap (λ (v : SharedState). v.channels.next) shared in
            none-out (ap (λ (u : TrafficState). u.outgoing) traffic ∙ out) (omega (arith, after, same)) head
        by (keeps calm) =
            let after = next (after_task (task_of s.traffic) s.traffic) traffic in
            let more = calm.next in
            none-out (ap (λ (u : TrafficState). u.outgoing) traffic ∙ calm.outgoing ∙ e) (omega (arith, after, more)) head

    done-let_go : (c : CurrentState) → t ≡ let_go c s → NoOpen r → Q
    done-let_go c is quiet =
        let next : channels_next t ≡ channels_next s = ap channels_next is in
        none-out (ap (λ (u : PoolState). u.traffic.outgoing) is ∙ e) (omega (arith, next)) (below-none (channels_next t) r quiet)

    done-with : (c : CurrentState) → s.current ≡ Some c → (what : Doing) (after : Option CurrentState) → t.current ≡ after
        → IsDoneTo what (scene_of s c) t.traffic after → NoOpen r → Q
    done-with c works what None at is quiet = absurd is
    done-with c works what (Some after) at is quiet = by (out-done what (scene_of s c) y is)
      where
        y : Scene
        y = record { traffic = t.traffic; current = after }

        head : OpensBelow (channels_next t) r
        head = below-none (channels_next t) r quiet

        sent : IsSent (scene_of s c) y → channels_next s ≤ channels_next t → Q
        sent (sends_none none) more = none-out none more head
        sent (sends_one o out to) more = record {
          goes = λ p is_p.
              let both : Some o ≡ Some p = sym out ∙ is_p in
              let same : o ≡ p = cc in
              subst (IsGoing (did s r ∷ past) t) same (record {
                current = after;
                works = at;
                list = to.list ∙ sym (ap (λ (a : AskedOf). a.0) (same-done what (scene_of s c) y is).asked);
                port = ap (λ (n : ℕ). given_port past n o.sending.place (by_kind o.sending.kind)) to.list
                    ∙ to.port (given_port past c.entry.asked.0) (ported-own past s ported c works).fits;
                below = λ new. (to.is_new new).1;
                is_new = λ new. (none-of o.sending.channel r quiet, below-other (channels_next s) o.sending.channel (to.is_new new).0 past w.opened);
              });
          opened = (head, below-later (channels_next s) (channels_next t) more past w.opened);
        }
          where
            none-of : (channel : ℕ) (q : Option Action) → NoOpen q → OpensOther channel q
            none-of channel None k = tt
            none-of channel (Some action.Continue) k = tt
            none-of channel (Some (action.Open p)) k = absurd k
            none-of channel (Some (action.Send p)) k = tt
            none-of channel (Some (action.Close p)) k = tt
            none-of channel (Some (action.Over p)) k = tt

        by : IsOut (scene_of s c) y → Q
        by (is_calm calm) = none-out (calm.outgoing ∙ e) calm.next head
        by (is_sent one more) = sent one more

    done-by : (c : CurrentState) → s.current ≡ Some c → (ends puts : Bool) (what : Doing) → StepsBy ends puts what c s r t → Q
    done-by c works true puts what is = done-let_go c is.pool (subst NoOpen (sym is.action) (no-open_over what c _))
    done-by c works false true what is =
        let next : channels_next t ≡ channels_next s = ap channels_next is.pool ∙ (flat-put c s what).1 in
        none-out (ap (λ (u : PoolState). u.traffic.outgoing) is.pool ∙ (flat-put c s what).0 ∙ e) (omega (arith, next))
        (below-none (channels_next t) r (subst NoOpen (sym is.action) tt))
    done-by c works false false what is =
        done-with c works what t.current refl is.done
        (subst NoOpen (sym is.action) (no-open_close (closed_by what (scene_of s c))))

    done-in : (c : Option CurrentState) → s.current ≡ c → StepsIn c s r t → Q
    done-in None works is = done-starts is
    done-in (Some c) works is = done-by c works (is_end (doing c s.traffic)) (is_put (doing c s.traffic)) (doing c s.traffic) is

  out-step : Steps s r t → Q
  out-step is = by s.traffic.outgoing refl is
    where
      by : (o : Option OutgoingValue) → s.traffic.outgoing ≡ o → StepsAs (is_some o) s r t → Q
      by None e steps = done-in e s.current refl steps
      by (Some o) e steps = done-out o e steps

pub out-runs : (options : OptionsValue) (limits : PoolLimits) (seed : List ℕ) (past : List Happening) (s : PoolState)
    → Runs (no_servers options limits seed) past s → AreOut past s
out-runs options limits seed _ _ at_first = record { goes = λ o is. absurd cc; opened = tt }
out-runs options limits seed _ _ (by_event past s e more) =
    out-event past s e (ported-runs options limits seed past s more) (out-runs options limits seed past s more)
out-runs options limits seed _ _ (by_step past s after r is more) =
    out-step past s after r (ported-runs options limits seed past s more) (out-runs options limits seed past s more) is

-- ---- the server that it is opened to

-- as it was given
pub record WasGiven (servers : List PoolServerValue) (place : ℕ) (server : ServerState) (l : GroupListState) : Type 0 where
  pub value : PoolServerValue
  pub has : Contains servers value
  pub state : bare server ≡ server_of value.config value.scope
  pub sources : slice_get l.sources place ≡ Some (sources_of value)

found-at : (servers : List PoolServerValue) (place : ℕ) (states : List ServerState) (sources : List Sources) (server : ServerState)
    → bare_all states ≡ states_of servers → sources ≡ map sources_of servers → slice_get states place ≡ Some server
    → (value : PoolServerValue) × (k : ℕ) × (slice_get servers k ≡ Some value)
    × (bare server ≡ server_of value.config value.scope) × (slice_get sources place ≡ Some (sources_of value))
found-at [] place [] sources server same as_given is = absurd cc
found-at [] place (x ∷ states) sources server same as_given is = absurd cc
found-at (v ∷ servers) place [] sources server same as_given is = absurd cc
found-at (v ∷ servers) zero (x ∷ states) sources server same as_given is =
    let one : x ≡ server = cc in
    let bare_is : bare x ≡ server_of v.config v.scope = cc in (
      v,
      0,
      refl,
      sym (ap bare one) ∙ bare_is,
      ap (λ (xs : List Sources). slice_get xs 0) as_given,
    )
found-at (v ∷ servers) (suc place) (x ∷ states) [] server same as_given is = absurd cc
found-at (v ∷ servers) (suc place) (x ∷ states) (y ∷ sources) server same as_given is =
    let rest : bare_all states ≡ states_of servers = cc in
    let others : sources ≡ map sources_of servers = cc in
    let found = found-at servers place states sources server rest others is in
    (found.0, suc found.1, found.2, found.3, found.4)

contains-at : {A : Type 0} (xs : List A) (k : ℕ) (x : A) → slice_get xs k ≡ Some x → Contains xs x
contains-at [] k x is = absurd cc
contains-at (y ∷ ys) zero x is =
    let same : y ≡ x = cc in (0, omega arith, same)
contains-at (y ∷ ys) (suc k) x is =
    let found = contains-at ys k x is in (suc found.0, omega (arith, found.1), found.2)

module _ (t : TrafficState) (o : OutgoingValue) (opening : OpeningValue) where
  -- the list and the server of an opening
  pub record IsOf (l : GroupListState) (server : ServerState) : Type 0 where
    pub there : list_at o.list t.groups ≡ Some l
    pub at_place : slice_get l.servers.servers o.sending.place ≡ Some server
    pub is : opening ≡ opening_to o.sending l server

  opening-is : opening_of t o ≡ Some opening → (l : GroupListState) × (server : ServerState) × IsOf l server
  opening-is is = by (list_at o.list t.groups) refl is
    where
      at : (l : GroupListState) → list_at o.list t.groups ≡ Some l → (x : Option ServerState)
          → slice_get l.servers.servers o.sending.place ≡ x → option_map (opening_to o.sending l) x ≡ Some opening
          → (k : GroupListState) × (server : ServerState) × IsOf k server
      at l there None place h = absurd cc
      at l there (Some x) place h =
          let same : opening_to o.sending l x ≡ opening = cc in
          (l, x, record { there = there; at_place = place; is = sym same })

      by : (l : Option GroupListState) → list_at o.list t.groups ≡ l → option_and_then (opening_in o.sending) l ≡ Some opening
          → (k : GroupListState) × (server : ServerState) × IsOf k server
      by None there h = absurd cc
      by (Some l) there h = at l there (slice_get l.servers.servers o.sending.place) refl h

-- what opens a channel is what goes out
module _ (s after : PoolState) (opening : OpeningValue) where
  pub record IsOpened : Type 0 where
    pub out : OutgoingValue
    pub goes : s.traffic.outgoing ≡ Some out
    pub is_new : out.sending.is_new ≡ true
    pub is : opening_of s.traffic out ≡ Some opening

  opened-open : (o : Option OpeningValue) → Some (action.Open opening) ≡ action_of (did_open o) → o ≡ Some opening
  opened-open None h = absurd cc
  opened-open (Some p) h = let same : opening ≡ p = cc in ap (λ (q : OpeningValue). Some q) (sym same)

  opened-out : (out : OutgoingValue) → s.traffic.outgoing ≡ Some out → (b : Bool) → out.sending.is_new ≡ b
      → Some (action.Open opening) ≡ action_of (did_of (cond b task.Opens task.Writes) s.traffic) → IsOpened
  opened-out out e true new h = record {
    out = out;
    goes = e;
    is_new = new;
    is = opened-open (opening_of s.traffic out)
        (h ∙ ap (λ (x : Option OutgoingValue). action_of (did_open (option_and_then (opening_of s.traffic) x))) e);
  }
  opened-out out e false new h =
      absurd (subst NoOpen (sym h) (no-open_written s.traffic.outgoing))

  opened-is : Steps s (Some (action.Open opening)) after → IsOpened
  opened-is is = by s.traffic.outgoing refl is
    where
      by : (o : Option OutgoingValue) → s.traffic.outgoing ≡ o → StepsAs (is_some o) s (Some (action.Open opening)) after
          → IsOpened
      by None e steps = absurd (no-open_calm s after (Some (action.Open opening)) e steps)
      by (Some out) e steps =
          opened-out out e out.sending.is_new refl
          (steps.0 ∙ ap (λ (what : Task). action_of (did_of what s.traffic)) (writing s out e))

-- it is opened to a server as that was given
to-server : (value : PoolServerValue) (server : ServerState) (l : GroupListState) (sending : SendingValue) (opening : OpeningValue)
    → opening ≡ opening_to sending l server → bare server ≡ server_of value.config value.scope
    → slice_get l.sources sending.place ≡ Some (sources_of value)
    → port_given sending.kind (server_of value.config value.scope) ≡ Some (port_for sending.kind server)
    → IsToServer value opening
to-server value server l sending opening is given sources port = record {
  address = ap (λ (x : OpeningValue). x.address) is ∙ ap (λ (x : ServerState). x.address) given;
  scope = ap (λ (x : OpeningValue). x.scope) is ∙ ap (λ (x : ServerState). x.scope) given;
  port = ap (λ (x : OpeningValue). port_given x.kind (server_of value.config value.scope)) is ∙ port
      ∙ ap (λ (x : OpeningValue). Some x.port) (sym is);
  bind_addr = ap (λ (x : OpeningValue). x.bind_addr) is
      ∙ ap (λ (x : Option Sources). option_and_then (source_for sending.kind) x) sources
      ∙ ap (λ (x : OpeningValue). source_for x.kind (sources_of value)) (sym is);
}

pub opens_to_own_servers : OpensToOwnServers
opens_to_own_servers options limits seed past s after o runs steps =
    let opened = opened-is s after o steps in
    let going = (out-runs options limits seed past s runs).goes opened.out opened.goes in
    let served : IsServed past (next_of s) going.current.number going.current.entry.asked.0 =
    subst (λ (c : Option CurrentState). IfSome c (AtCurrent (ServedIn past (next_of s)))) going.works
    (served-runs options limits seed past s runs).worked in
    let groups = groups-runs options limits seed past s runs in
    let found = opening-is s.traffic opened.out o opened.is in
    let l = found.0 in
    let server = found.1 in
    let of = found.2 in
    let given : IsGivenAs l (given_in opened.out.list past) =
    subst (λ (x : Option GroupListState). IfSome x (λ k. IsGivenAs k (given_in opened.out.list past))) of.there
    (groups.each opened.out.list) in
    let same : given_in opened.out.list past ≡ servers_in served.group served.earlier =
    ap (λ (n : ℕ). given_in n past) going.list ∙ sym served.servers in
    let at = found-at (given_in opened.out.list past) opened.out.sending.place l.servers.servers l.sources server
    given.states given.sources of.at_place in
    record {
      current = going.current;
      works = going.works;
      later = served.later;
      earlier = served.earlier;
      pool = served.pool;
      group = served.group;
      query = served.query;
      request = served.request;
      dnssec = served.dnssec;
      now = served.now;
      happened = served.happened;
      number = served.number;
      given = served.given;
      server = at.0;
      has = subst (λ (xs : List PoolServerValue). Contains xs at.0) same
          (contains-at (given_in opened.out.list past) at.1 at.0 at.2);
      to = to-server at.0 server l opened.out.sending o of.is at.3 at.4
          (port-given opened.out.sending.kind opened.out.sending.place l.servers.servers
          (states_of (given_in opened.out.list past)) server (server_of at.0.config at.0.scope) given.states of.at_place at.3
          going.port);
      is_new = subst (λ (n : ℕ). AllByRecursion (OpenedOther n) past)
          (sym (ap (λ (x : OpeningValue). x.channel) of.is)) (going.is_new opened.is_new);
    }
