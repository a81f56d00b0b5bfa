-- What holds of a pool and what happened to it holds after each event and each step.
use Rattle.std.proofs.Common.{◌≡◌, ◌≤◌, ℕ, Bool, true, false, cond, arith, List, [], ◌∷◌, ◌++◌, max, refl, ap, ap₂, sym, subst, ◌∙◌, inl, inr}
use Rattle.std.specs.Prelude.{Option, None, Some, IfSome, unwrap_or}
use Rattle.std.specs.List.{AllByRecursion}
use Rattle.std.specs.Ordering.{nat_cmp}
use Rattle.std.specs.BTreeMap.{insert_entry}
use Rattle.std.specs.Option.{is_some, option_map, option_map_or, option_or}
use Rattle.hickory_resolver_askers.specs.Askers.{joiner, place_for}
use Rattle.hickory_resolver_askers.specs.Askers as ask
use Rattle.hickory_resolver_askers.specs.declared.asker.Asker.{Asker}
use Rattle.hickory_resolver_askers.specs.declared.asker.Place.{Place}
use Rattle.hickory_resolver_askers.specs.declared.asker.Place.TheVariants.{InFlight, Waits, Overloaded}
use Rattle.hickory_resolver_channels.specs.Channels.{ChannelsState, channel_at}
use Rattle.hickory_resolver_channels.specs.declared.channel.Channel.{Channel}
use Rattle.hickory_proto_core.specs.declared.dns_request.DnsRequestOptions.{DnsRequestOptions}
use Rattle.hickory_resolver_config.specs.ResolverConfig.{OptionsValue}
use Rattle.hickory_resolver_tries.specs.Question.{question_of}
use Rattle.hickory_resolver_tries.specs.Tries.{octets_of_try}
use Rattle.hickory_resolver_tries.specs.declared.pool_question.PoolQuestion.{PoolQuestion}
use Rattle.hickory_resolver_transactions.specs.declared.candidate.Try.{Try}
use Rattle.hickory_resolver_transactions.specs.declared.settings.Settings.{Settings}
use Rattle.hickory_resolver_traffic.specs.Doing.{doing}
use Rattle.hickory_resolver_traffic.specs.Groups.{GroupListState, list_at}
use Rattle.hickory_resolver_traffic.specs.Table.{CurrentState, EntryState}
use Rattle.hickory_resolver_traffic.specs.Tasks.{task_of, after_task, outgoing_task, opened_outgoing, came_in, ran_out, written, did_write, sent_of}
use Rattle.hickory_resolver_traffic.specs.Tasks as tasks
use Rattle.hickory_resolver_traffic.specs.Traffic.{TrafficState, OutgoingValue, ticked, begun_as, begun_with, entry_of, came_on, came, failed_on, failed, joined, begun}
use Rattle.hickory_resolver_traffic.specs.declared.doing.Doing.{Doing}
use Rattle.hickory_resolver_traffic.specs.declared.doing.Doing.TheVariants.{Hears, Doubts, Stalls, Fails, Quits, PutsBack, Expires, Frees, Refused, Leaves, Ends, Draws, BeginsRound, GivesUp, Blocks, Sends, Dates, Rests}
use Rattle.hickory_resolver_traffic.specs.declared.inbox.ChannelFailure.{ChannelFailure}
use Rattle.hickory_resolver_traffic.specs.declared.tasks.Task.{Task}
use Rattle.hickory_resolver_traffic.specs.declared.tasks.Task.TheVariants as task
use Rattle.hickory_resolver_pool.specs.Laws.{PoolEvent, time_passes, group_has, is_asked, octets_come, channel_fails, is_forgotten, after_event}
use Rattle.hickory_resolver_pool.specs.Pool.{PoolState, AskedOf, no_servers, settings_for, list_of, joiner_of, join_in, join_or_begin, ask_of, after_asking, action_of, current_after, started, started_action, Starts, Carries, IsDoneTo, scene_of, is_end, is_put, StepsBy, StepsWith, StepsIn, StepsAs, Steps, let_go, put_by}
use Rattle.hickory_resolver_pool.specs.Pool as pool
use Rattle.hickory_resolver_pool.specs.declared.limits.PoolLimits.{PoolLimits}
use Rattle.hickory_resolver_pool.specs.declared.pool.Action.{Action}
use Rattle.hickory_resolver_pool.specs.declared.pool.Action.TheVariants.{Send}
use Rattle.hickory_resolver_pool_theorems.specs.Runs.{Happening, came as event_of, did as step_of, moment_told, Runs, at_first, by_event, by_step}
use Rattle.hickory_resolver_pool_theorems.specs.Wire.{sent_value, stream_on}
use Rattle.hickory_resolver_pool_theorems.proofs.Boxes.{IsBox, box-first, box-step, box-later, box-closed, box-open, box-failures}
use Rattle.hickory_resolver_pool_theorems.proofs.Flights.{held-first, held-more}
use Rattle.hickory_resolver_pool_theorems.proofs.Pools.{IsGood, W, IsEntry, IsEntryAt, IsCurrent, IsTraffic, table-inserted, traffic-sent_as, current-sent_as, scene-done, traffic-task, current-did}
use Rattle.hickory_resolver_pool_theorems.proofs.Sendings.{Sent}
use Rattle.hickory_resolver_pool_theorems.proofs.Wires.{sent-more}

pub record IsPool (P : IsGood) (past : List Happening) (s : PoolState) : Type 0 where
  pub traffic : IsTraffic P past s.traffic
  pub current : IfSome s.current (IsCurrent P past)

-- each try was sent, or goes out next
abbrev pub SentIn : List Happening → PoolState → IsGood
SentIn past s = Sent past s.traffic.outgoing s.traffic.shared.channels

abbrev pub Holds : List Happening → PoolState → Type 0
Holds past s = IsPool (SentIn past s) past s

-- ---- the same, later

module _ (a : Happening) (past : List Happening) (P Q : IsGood)
    (gives : (n : ℕ) (q : PoolQuestion) (t : Try) → P n q t → Q n q t) where
  flying-later : (n : ℕ) (e : EntryState) → IsEntry P past n e → IsEntry Q (a ∷ past) n e
  flying-later n e w = record {
    flight = held-more (P n e.flying.flight.question) (Q n e.flying.flight.question) a past n e.flying.flight
        (λ t k. gives n e.flying.flight.question t k) w.flight;
    question = w.question;
  }

  table-later : (es : List (ℕ × EntryState)) → AllByRecursion (IsEntryAt P past) es
      → AllByRecursion (IsEntryAt Q (a ∷ past)) es
  table-later [] all = tt
  table-later (e ∷ es) all = (flying-later e.0 e.1 all.0, table-later es all.1)

  current-later : (c : Option CurrentState) → IfSome c (IsCurrent P past) → IfSome c (IsCurrent Q (a ∷ past))
  current-later None w = tt
  current-later (Some c) w = flying-later c.number c.entry w

-- ---- events

module _ (past : List Happening) (s : PoolState) (e : PoolEvent) (w : Holds past s) where
  abbrev now : List Happening
  now = event_of s e ∷ past

  abbrev Q : IsGood
  Q = SentIn now s

  gives : (n : ℕ) (q : PoolQuestion) (t : Try) → SentIn past s n q t → Q n q t
  gives n q t (inl was) = inl (sent-more (event_of s e) past n t.channel t.form.id (octets_of_try q t.form) was)
  gives n q t (inr goes) = inr goes

  entries : AllByRecursion (IsEntryAt Q now) s.traffic.table.entries
  entries = table-later (event_of s e) past (SentIn past s) Q gives s.traffic.table.entries w.traffic.table

  worked : IfSome s.current (IsCurrent Q now)
  worked = current-later (event_of s e) past (SentIn past s) Q gives s.current w.current

  -- where no octets come
  module _ (same : (q : ℕ) → stream_on q now ≡ stream_on q past) where
    box : IsBox now s.traffic.inbox
    box = box-later past s.traffic.inbox w.traffic.box (event_of s e) same

    traffic : IsTraffic Q now s.traffic
    traffic = record { box = box; table = entries }

    traffic-joined : (n at : ℕ) → IsTraffic Q now (joined n at s.traffic)
    traffic-joined n at = by (joiner n s.traffic.askers)
      where
        by : (a : Option Asker) → IsTraffic Q now
            (option_map_or (λ b. ticked at (record s.traffic { askers = ask.joined n s.traffic.askers })) a s.traffic)
        by None = traffic
        by (Some a) = record { box = box; table = entries }

    traffic-begun : (list : ℕ) (question : PoolQuestion) (settings : Settings) (at : ℕ) → 1 ≤ settings.rounds
        → IsTraffic Q now (begun list question settings at s.traffic)
    traffic-begun list question settings at some = by (list_at list s.traffic.groups)
      where
        first : (l : GroupListState) → IsEntry Q now s.traffic.askers.next_transaction (entry_of list question settings l)
        first l = record {
          flight = held-first (Q s.traffic.askers.next_transaction question) now s.traffic.askers.next_transaction
              settings l.servers.servers question some;
          question = refl;
        }

        more : (l : GroupListState) → AllByRecursion (IsEntryAt Q now)
            (insert_entry nat_cmp s.traffic.table.entries s.traffic.askers.next_transaction (entry_of list question settings l))
        more l =
            table-inserted Q now s.traffic.askers.next_transaction (entry_of list question settings l)
            s.traffic.table.entries entries (first l)

        place : (p : Place) (l : GroupListState)
            → IsTraffic Q now (begun_as p (entry_of list question settings l) list at s.traffic)
        place Overloaded l = record { box = box; table = entries }
        place InFlight l = record { box = box; table = more l }
        place Waits l = record { box = box; table = more l }

        by : (l : Option GroupListState) → IsTraffic Q now
            (option_map_or (begun_with list question settings at s.traffic) l (ticked at s.traffic))
        by None = record { box = box; table = entries }
        by (Some l) = place (place_for s.traffic.askers) l

    traffic-asked : (key : AskedOf) (settings : Settings) (at : ℕ) → 1 ≤ settings.rounds
        → IsTraffic Q now (ask_of key settings at s).traffic
    traffic-asked key settings at some = by (joiner_of key s)
      where
        joins : (n : Option ℕ) → IsTraffic Q now (option_map_or (join_in at s) n s).traffic
        joins None = traffic
        joins (Some n) = traffic-joined n at

        by : (a : Option Asker) → IsTraffic Q now (join_or_begin a key settings at s).traffic
        by None = traffic-begun key.0 key.1 settings at some
        by (Some a) = joins (pool.number_of key s.questions)

    traffic-asks : (list : Option ℕ) (question : PoolQuestion) (settings : Settings) (at : ℕ) → 1 ≤ settings.rounds
        → IsTraffic Q now (after_asking list question settings at s).traffic
    traffic-asks None question settings at some = record { box = box; table = entries }
    traffic-asks (Some list) question settings at some = traffic-asked (list, question) settings at some

    traffic-failed : (f : ChannelFailure) (at : ℕ) → IsTraffic Q now (failed f at s.traffic)
    traffic-failed f at = by (channel_at f.channel s.traffic.shared.channels)
      where
        by : (c : Option Channel) → IsTraffic Q now (ticked at (option_map_or (failed_on f s.traffic) c s.traffic))
        by None = record { box = box; table = entries }
        by (Some c) = record {
          box = box-failures now s.traffic.inbox box (s.traffic.inbox.failures ++ f ∷ []);
          table = entries;
        }

-- what goes out next, and the channels, stay; and the clock is no later than it was, or than the moment that is told
pub record IsShared (at : ℕ) (t u : TrafficState) : Type 0 where
  pub outgoing : u.outgoing ≡ t.outgoing
  pub channels : u.shared.channels ≡ t.shared.channels
  pub clock : u.clock ≤ max t.clock at

shared-joined : (n at : ℕ) (t : TrafficState) → IsShared at t (joined n at t)
shared-joined n at t = by (joiner n t.askers)
  where
    by : (a : Option Asker)
        → IsShared at t (option_map_or (λ b. ticked at (record t { askers = ask.joined n t.askers })) a t)
    by None = record { outgoing = refl; channels = refl; clock = omega arith }
    by (Some a) = record { outgoing = refl; channels = refl; clock = omega arith }

shared-begun_as : (place : Place) (e : EntryState) (list at : ℕ) (t : TrafficState) → IsShared at t (begun_as place e list at t)
shared-begun_as Overloaded e list at t = record { outgoing = refl; channels = refl; clock = omega arith }
shared-begun_as InFlight e list at t = record { outgoing = refl; channels = refl; clock = omega arith }
shared-begun_as Waits e list at t = record { outgoing = refl; channels = refl; clock = omega arith }

shared-begun : (list : ℕ) (question : PoolQuestion) (settings : Settings) (at : ℕ) (t : TrafficState)
    → IsShared at t (begun list question settings at t)
shared-begun list question settings at t = by (list_at list t.groups)
  where
    by : (l : Option GroupListState)
        → IsShared at t (option_map_or (begun_with list question settings at t) l (ticked at t))
    by None = record { outgoing = refl; channels = refl; clock = omega arith }
    by (Some l) = shared-begun_as (place_for t.askers) (entry_of list question settings l) list at t

shared-asked : (key : AskedOf) (settings : Settings) (at : ℕ) (s : PoolState)
    → IsShared at s.traffic (ask_of key settings at s).traffic
shared-asked key settings at s = by (joiner_of key s)
  where
    joins : (n : Option ℕ) → IsShared at s.traffic (option_map_or (join_in at s) n s).traffic
    joins None = record { outgoing = refl; channels = refl; clock = omega arith }
    joins (Some n) = shared-joined n at s.traffic

    by : (a : Option Asker) → IsShared at s.traffic (join_or_begin a key settings at s).traffic
    by None = shared-begun key.0 key.1 settings at s.traffic
    by (Some a) = joins (pool.number_of key s.questions)

shared-asks : (list : Option ℕ) (question : PoolQuestion) (settings : Settings) (at : ℕ) (s : PoolState)
    → IsShared at s.traffic (after_asking list question settings at s).traffic
shared-asks None question settings at s = record { outgoing = refl; channels = refl; clock = omega arith }
shared-asks (Some list) question settings at s = shared-asked (list, question) settings at s

shared-came : (channel : ℕ) (octets : List ℕ) (at : ℕ) (t : TrafficState) → IsShared at t (came channel octets at t)
shared-came channel octets at t = by (channel_at channel t.shared.channels)
  where
    by : (c : Option Channel) → IsShared at t (ticked at (option_map_or (came_on channel octets t) c t))
    by None = record { outgoing = refl; channels = refl; clock = omega arith }
    by (Some c) = record { outgoing = refl; channels = refl; clock = omega arith }

shared-failed : (f : ChannelFailure) (at : ℕ) (t : TrafficState) → IsShared at t (failed f at t)
shared-failed f at t = by (channel_at f.channel t.shared.channels)
  where
    by : (c : Option Channel) → IsShared at t (ticked at (option_map_or (failed_on f t) c t))
    by None = record { outgoing = refl; channels = refl; clock = omega arith }
    by (Some c) = record { outgoing = refl; channels = refl; clock = omega arith }

pub shared-event : (s : PoolState) (e : PoolEvent) → IsShared (moment_told e) s.traffic (after_event s e).traffic
shared-event s (time_passes at) = record { outgoing = refl; channels = refl; clock = omega arith }
shared-event s (group_has group servers) = record { outgoing = refl; channels = refl; clock = omega arith }
shared-event s (is_asked group query options dnssec at) =
    shared-asks (list_of group s.traffic) (question_of query options dnssec) (settings_for s.options options) at s
shared-event s (octets_come channel octets at) = shared-came channel octets at s.traffic
shared-event s (channel_fails f at) = shared-failed f at s.traffic
shared-event s (is_forgotten a) = record { outgoing = refl; channels = refl; clock = omega arith }

-- the transaction that is worked on stays
current-asked : (key : AskedOf) (settings : Settings) (at : ℕ) (s : PoolState) → (ask_of key settings at s).current ≡ s.current
current-asked key settings at s = by (joiner_of key s)
  where
    joins : (n : Option ℕ) → (option_map_or (join_in at s) n s).current ≡ s.current
    joins None = refl
    joins (Some n) = refl

    by : (a : Option Asker) → (join_or_begin a key settings at s).current ≡ s.current
    by None = refl
    by (Some a) = joins (pool.number_of key s.questions)

current-asks : (list : Option ℕ) (question : PoolQuestion) (settings : Settings) (at : ℕ) (s : PoolState)
    → (after_asking list question settings at s).current ≡ s.current
current-asks None question settings at s = refl
current-asks (Some list) question settings at s = current-asked (list, question) settings at s

pub current-event : (s : PoolState) (e : PoolEvent) → (after_event s e).current ≡ s.current
current-event s (time_passes at) = refl
current-event s (group_has group servers) = refl
current-event s (is_asked group query options dnssec at) =
    current-asks (list_of group s.traffic) (question_of query options dnssec) (settings_for s.options options) at s
current-event s (octets_come channel octets at) = refl
current-event s (channel_fails f at) = refl
current-event s (is_forgotten a) = refl

traffic-came : (past : List Happening) (s : PoolState) (channel : ℕ) (octets : List ℕ) (at : ℕ) → Holds past s
    → IsTraffic (SentIn (event_of s (octets_come channel octets at) ∷ past) s) (event_of s (octets_come channel octets at) ∷ past)
    (came channel octets at s.traffic)
traffic-came past s channel octets at w = by (channel_at channel s.traffic.shared.channels) refl
  where
    all : AllByRecursion (IsEntryAt (SentIn (event_of s (octets_come channel octets at) ∷ past) s)
        (event_of s (octets_come channel octets at) ∷ past)) s.traffic.table.entries
    all = entries past s (octets_come channel octets at) w

    by : (c : Option Channel) → channel_at channel s.traffic.shared.channels ≡ c
        → IsTraffic (SentIn (event_of s (octets_come channel octets at) ∷ past) s)
        (event_of s (octets_come channel octets at) ∷ past)
        (ticked at (option_map_or (came_on channel octets s.traffic) c s.traffic))
    by None e = record {
      box = box-closed past s.traffic.inbox w.traffic.box s channel octets at e;
      table = all;
    }
    by (Some c) e = record {
      box = box-open past s.traffic.inbox w.traffic.box s channel octets at c e;
      table = all;
    }

-- a question has a round at least
pub some-rounds : (o : OptionsValue) (request : DnsRequestOptions) → 1 ≤ (settings_for o request).rounds
some-rounds o request = omega arith

traffic-event : (past : List Happening) (s : PoolState) (e : PoolEvent) → Holds past s
    → IsTraffic (SentIn (event_of s e ∷ past) s) (event_of s e ∷ past) (after_event s e).traffic
traffic-event past s (time_passes at) w =
    let t = traffic past s (time_passes at) w (λ q. refl) in record { box = t.box; table = t.table }
traffic-event past s (group_has group servers) w =
    let t = traffic past s (group_has group servers) w (λ q. refl) in record { box = t.box; table = t.table }
traffic-event past s (is_asked group query options dnssec at) w =
    traffic-asks past s (is_asked group query options dnssec at) w (λ q. refl)
    (list_of group s.traffic) (question_of query options dnssec) (settings_for s.options options) at
    (some-rounds s.options options)
traffic-event past s (octets_come channel octets at) w = traffic-came past s channel octets at w
traffic-event past s (channel_fails f at) w = traffic-failed past s (channel_fails f at) w (λ q. refl) f at
traffic-event past s (is_forgotten a) w =
    let t = traffic past s (is_forgotten a) w (λ q. refl) in record { box = t.box; table = t.table }

pub holds-event : (past : List Happening) (s : PoolState) (e : PoolEvent) → Holds past s
    → Holds (event_of s e ∷ past) (after_event s e)
holds-event past s e w =
    let shared = shared-event s e in
    let kept = worked past s e w in
    let before : IsPool (SentIn (event_of s e ∷ past) s) (event_of s e ∷ past) (after_event s e) =
    record {
      traffic = traffic-event past s e w;
      current = subst (λ (c : Option CurrentState). IfSome c (IsCurrent (SentIn (event_of s e ∷ past) s) (event_of s e ∷ past)))
          (sym (current-event s e)) kept;
    } in
    subst (λ (channels : ChannelsState). IsPool (Sent (event_of s e ∷ past) (after_event s e).traffic.outgoing channels) (event_of s e ∷ past) (after_event s e))
    (sym shared.channels)
    (subst (λ (next : Option OutgoingValue). IsPool (Sent (event_of s e ∷ past) next s.traffic.shared.channels) (event_of s e ∷ past) (after_event s e))
    (sym shared.outgoing) before)

-- ---- steps

pool-by : (P : IsGood) (past : List Happening) (s t : PoolState) → s ≡ t → IsPool P past t → IsPool P past s
pool-by P past s t same w = subst (λ (u : PoolState). IsPool P past u) (sym same) w

module _ (past : List Happening) (s t : PoolState) (r : Option Action) where
  abbrev later : List Happening
  later = step_of s r ∷ past

  pool-later : (P Q : IsGood) → ((n : ℕ) (q : PoolQuestion) (x : Try) → P n q x → Q n q x) → (u : PoolState)
      → IsPool P past u → IsPool Q later u
  pool-later P Q f u w = record {
    traffic = record {
      box = box-step past u.traffic.inbox w.traffic.box s r;
      table = table-later (step_of s r) past P Q f u.traffic.table.entries w.traffic.table;
    };
    current = current-later (step_of s r) past P Q f u.current w.current;
  }

  more : (next : Option OutgoingValue) (channels : ChannelsState) (n : ℕ) (q : PoolQuestion) (x : Try)
      → Sent past next channels n q x → Sent later next channels n q x
  more next channels n q x (inl was) = inl (sent-more (step_of s r) past n x.channel x.form.id (octets_of_try q x.form) was)
  more next channels n q x (inr goes) = inr goes

  holds-later : Holds past t → Holds later t
  holds-later w = pool-later (SentIn past t) (SentIn later t) (more t.traffic.outgoing t.traffic.shared.channels) t w

  pool-started : (P : IsGood) → IsPool P past s → IsPool P past (started s)
  pool-started P w = record {
    traffic = traffic-task past P (task_of s.traffic) s.traffic w.traffic;
    current = current-did past P (task_of s.traffic) s.traffic s.current w.traffic w.current;
  }

  -- ---- what goes out is opened, or written

  writing : (o : OutgoingValue) → s.traffic.outgoing ≡ Some o → task_of s.traffic ≡ outgoing_task o
  writing o e =
      ap (λ (next : Option OutgoingValue). unwrap_or
      (option_or (option_map outgoing_task next) (option_or (came_in s.traffic) (ran_out s.traffic))) task.Admits) e

  abbrev FromTask : Task → Type 0
  FromTask what =
      (r ≡ action_of (tasks.did what s.traffic))
      → Holds later (record s {
        traffic = after_task what s.traffic;
        current = current_after (tasks.did what s.traffic) s.current;
      })

  module _ (o : OutgoingValue) (e : s.traffic.outgoing ≡ Some o) (w : Holds past s) where
    opens : FromTask task.Opens
    opens is =
        pool-later (SentIn past s) (Sent later (option_map opened_outgoing s.traffic.outgoing) s.traffic.shared.channels)
        still (record s {
          traffic = after_task task.Opens s.traffic;
          current = current_after (tasks.did task.Opens s.traffic) s.current;
        }) (record {
          traffic = traffic-task past (SentIn past s) task.Opens s.traffic w.traffic;
          current = current-did past (SentIn past s) task.Opens s.traffic s.current w.traffic w.current;
        })
      where
        still : (n : ℕ) (q : PoolQuestion) (x : Try) → SentIn past s n q x
            → Sent later (option_map opened_outgoing s.traffic.outgoing) s.traffic.shared.channels n q x
        still n q x (inl was) = inl (sent-more (step_of s r) past n x.channel x.form.id (octets_of_try q x.form) was)
        still n q x (inr goes) = inr (record {
          outgoing = opened_outgoing goes.outgoing;
          next_is = ap (λ (next : Option OutgoingValue). option_map opened_outgoing next) goes.next_is;
          channel_is = goes.channel_is;
          octets_are = goes.octets_are;
          of_transaction = goes.of_transaction;
        })

    writes : FromTask task.Writes
    writes is =
        pool-later (SentIn past s) (Sent later None s.traffic.shared.channels) gone (record s {
          traffic = after_task task.Writes s.traffic;
          current = current_after (tasks.did task.Writes s.traffic) s.current;
        }) (record {
          traffic = traffic-task past (SentIn past s) task.Writes s.traffic w.traffic;
          current = current-did past (SentIn past s) task.Writes s.traffic s.current w.traffic w.current;
        })
      where
        told : (goes : OutgoingValue) → s.traffic.outgoing ≡ Some goes → r ≡ Some (Send (sent_of goes))
        told goes next = is ∙ ap (λ (x : Option OutgoingValue). action_of (did_write x)) next

        gone : (n : ℕ) (q : PoolQuestion) (x : Try) → SentIn past s n q x → Sent later None s.traffic.shared.channels n q x
        gone n q x (inl was) = inl (sent-more (step_of s r) past n x.channel x.form.id (octets_of_try q x.form) was)
        gone n q x (inr goes) = inl (record {
          later = [];
          earlier = past;
          pool = s;
          kind = goes.outgoing.sending.kind;
          happened =
              ap (λ (a : Option Action). step_of s a ∷ past) (told goes.outgoing goes.next_is
              ∙ ap₂ (λ (channel : ℕ) (octets : List ℕ). Some (Send (sent_value channel (written goes.outgoing.sending.kind octets))))
              goes.channel_is goes.octets_are);
          of_transaction = goes.of_transaction;
        })

    from-outgoing : FromTask (outgoing_task o)
    from-outgoing = by o.sending.is_new
      where
        by : (is_new : Bool) → FromTask (cond is_new task.Opens task.Writes)
        by true = opens
        by false = writes

    holds-writing : Starts s r t → Holds later t
    holds-writing is =
        subst (λ (u : PoolState). Holds later u) (sym is.1)
        (subst FromTask (sym (writing o e)) from-outgoing is.0)

  -- ---- nothing goes out

  module _ (e : s.traffic.outgoing ≡ None) (w : Holds past s) where
    calm : (n : ℕ) (q : PoolQuestion) (x : Try) → SentIn past s n q x → W past n q x
    calm n q x (inl was) = was
    calm n q x (inr goes) = let no_such : None ≡ Some goes.outgoing = sym e ∙ goes.next_is in absurd cc

    calmed : IsPool (W past) past s
    calmed = record {
      traffic = traffic-sent_as past (SentIn past s) (W past) calm s.traffic w.traffic;
      current = current-sent_as past (SentIn past s) (W past) calm s.current w.current;
    }

    -- what was sent stays so
    settled : (u : PoolState) → IsPool (W past) past u → Holds later u
    settled u v = pool-later (W past) (SentIn later u)
        (λ n q x k. inl (sent-more (step_of s r) past n x.channel x.form.id (octets_of_try q x.form) k)) u v

    holds-starts : Starts s r t → Holds later t
    holds-starts is = settled t (pool-by (W past) past t (started s) is.1 (pool-started (W past) calmed))

    module _ (c : CurrentState) (own : IsCurrent (W past) past c) where
      holds-done : (what : Doing) (u : Option CurrentState) → IsDoneTo what (scene_of s c) t.traffic u
          → t.current ≡ u → Holds later t
      holds-done what None is at = absurd is
      holds-done what (Some after) is at =
          let done = scene-done past what (scene_of s c) (record { traffic = t.traffic; current = after }) is
          (record { traffic = calmed.traffic; current = own }) in
          holds-later (record {
            traffic = done.traffic;
            current = subst (λ (o : Option CurrentState). IfSome o (IsCurrent (SentIn past t) past)) (sym at) done.current;
          })

      ends : IsPool (W past) past (let_go c s)
      ends = record {
        traffic = record { box = calmed.traffic.box; table = calmed.traffic.table };
        current = tt;
      }

      put : IsTraffic (W past) past (tasks.put_back c.number c.entry s.traffic)
      put = record {
        box = calmed.traffic.box;
        table = table-inserted (W past) past c.number c.entry s.traffic.table.entries calmed.traffic.table own;
      }

      away : (what : Doing) → IsPool (W past) past (put_by what c s)
      away PutsBack = record { traffic = record { box = put.box; table = put.table }; current = tt }
      away Rests = record { traffic = put; current = tt }
      away Ends = record { traffic = put; current = tt }
      away Refused = record { traffic = put; current = tt }
      away Hears = record { traffic = put; current = tt }
      away Doubts = record { traffic = put; current = tt }
      away Stalls = record { traffic = put; current = tt }
      away Fails = record { traffic = put; current = tt }
      away Quits = record { traffic = put; current = tt }
      away Expires = record { traffic = put; current = tt }
      away Frees = record { traffic = put; current = tt }
      away (Leaves place) = record { traffic = put; current = tt }
      away Draws = record { traffic = put; current = tt }
      away (BeginsRound place) = record { traffic = put; current = tt }
      away GivesUp = record { traffic = put; current = tt }
      away Blocks = record { traffic = put; current = tt }
      away Sends = record { traffic = put; current = tt }
      away (Dates due) = record { traffic = put; current = tt }

      holds-by : (ends_it puts_it : Bool) (what : Doing) → StepsBy ends_it puts_it what c s r t → Holds later t
      holds-by true puts_it what is = settled t (pool-by (W past) past t (let_go c s) is.pool ends)
      holds-by false true what is = settled t (pool-by (W past) past t (put_by what c s) is.pool (away what))
      holds-by false false what is = holds-done what t.current is.done refl

    holds-in : (c : Option CurrentState) → s.current ≡ c → StepsIn c s r t → Holds later t
    holds-in None at is = holds-starts is
    holds-in (Some c) at is =
        let own = subst (λ (o : Option CurrentState). IfSome o (IsCurrent (W past) past)) at calmed.current in
        holds-by c own (is_end (doing c s.traffic)) (is_put (doing c s.traffic)) (doing c s.traffic) is

  pub holds-step : Steps s r t → Holds past s → Holds later t
  holds-step is w = by s.traffic.outgoing refl is
    where
      by : (o : Option OutgoingValue) → s.traffic.outgoing ≡ o → StepsAs (is_some o) s r t → Holds later t
      by None e steps = holds-in e w s.current refl steps
      by (Some o) e steps = holds-writing o e w steps

-- ---- all that happens

pub holds-first : (options : OptionsValue) (limits : PoolLimits) (seed : List ℕ) → Holds [] (no_servers options limits seed)
holds-first options limits seed = record { traffic = record { box = box-first []; table = tt }; current = tt }

pub holds-runs : (start : PoolState) (past : List Happening) (s : PoolState) → Holds [] start → Runs start past s
    → Holds past s
holds-runs start _ _ w at_first = w
holds-runs start _ _ w (by_event past s e more) = holds-event past s e (holds-runs start past s w more)
holds-runs start _ _ w (by_step past s after r is more) =
    holds-step past s after r is (holds-runs start past s w more)
