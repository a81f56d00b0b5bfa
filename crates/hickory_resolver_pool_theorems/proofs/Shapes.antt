-- What each step is, and what an event does with the transactions.
use Rattle.std.proofs.Common.{◌≡◌, ℕ, Bool, true, false, cond, List, refl, ap, sym, subst, ◌∙◌}
use Rattle.std.specs.Prelude.{Option, None, Some, unwrap_or, map}
use Rattle.std.specs.Option.{is_some, option_map, option_map_or, option_or, option_and_then}
use Rattle.hickory_resolver_askers.specs.Askers.{joiner, place_for}
use Rattle.hickory_resolver_askers.specs.Askers as ask
use Rattle.hickory_resolver_askers.specs.declared.asker.Asker.{Asker}
use Rattle.hickory_resolver_askers.specs.declared.asker.Place.{Place}
use Rattle.hickory_resolver_askers.specs.declared.asker.Place.TheVariants.{InFlight, Waits, Overloaded}
use Rattle.hickory_resolver_channels.specs.Channels.{channel_at}
use Rattle.hickory_resolver_channels.specs.declared.channel.Channel.{Channel}
use Rattle.hickory_resolver_tries.specs.Question.{question_of}
use Rattle.hickory_resolver_tries.specs.declared.pool_question.PoolQuestion.{PoolQuestion}
use Rattle.hickory_resolver_transactions.specs.declared.settings.Settings.{Settings}
use Rattle.hickory_resolver_servers.specs.Server.{ServerState}
use Rattle.hickory_resolver_traffic.specs.Doing.{IsDone, doing}
use Rattle.hickory_resolver_traffic.specs.Groups.{GroupListState, list_at, with_servers}
use Rattle.hickory_resolver_traffic.specs.Groups as groups
use Rattle.hickory_resolver_traffic.specs.Table.{CurrentState, with_entry}
use Rattle.hickory_resolver_traffic.specs.Tasks.{task_of, after_task, did, did_open, did_write, opening_of, outgoing_task, came_in, ran_out}
use Rattle.hickory_resolver_traffic.specs.Openings.{OpeningValue}
use Rattle.hickory_resolver_traffic.specs.Traffic.{TrafficState, OutgoingValue, ticked, begun_as, begun_with, begun_asker, entry_of, came_on, came, failed_on, failed}
use Rattle.hickory_resolver_traffic.specs.declared.groups.Sources.{Sources}
use Rattle.hickory_resolver_traffic.specs.declared.inbox.ChannelFailure.{ChannelFailure}
use Rattle.hickory_resolver_traffic.specs.declared.tasks.Task.{Task}
use Rattle.hickory_resolver_traffic.specs.declared.tasks.Task.TheVariants as task
use Rattle.hickory_resolver_pool.specs.Laws.{PoolEvent, time_passes, group_has, is_asked, octets_come, channel_fails, is_forgotten, after_event}
use Rattle.hickory_resolver_pool.specs.Pool.{PoolState, AskedOf, settings_for, list_of, joiner_of, join_in, join_or_begin, ask_of, after_asking, after_beginning, with_question, current_after, started, IsDoneTo, scene_of, is_end, is_put, StepsBy, StepsIn, StepsAs, Steps, let_go, put_by}
use Rattle.hickory_resolver_pool.specs.Pool as pool
use Rattle.hickory_resolver_pool.specs.Servers.{states_of, sources_of}
use Rattle.hickory_resolver_pool.specs.declared.pool.Action.{Action}

-- ---- steps

-- What goes out is opened or written; something is begun; something is done with the transaction that is worked on; it
-- is put away; or it ends.
pub data IsStep (s t : PoolState) : Type 0 where
  goes_out : (o : OutgoingValue) → s.traffic.outgoing ≡ Some o → t.current ≡ s.current
      → t.traffic ≡ record s.traffic { outgoing = t.traffic.outgoing }
      → t.traffic ≡ after_task (outgoing_task o) s.traffic → IsStep s t
  begins : s.traffic.outgoing ≡ None → s.current ≡ None → t ≡ started s → IsStep s t
  does : (c after : CurrentState) → s.traffic.outgoing ≡ None → s.current ≡ Some c → t.current ≡ Some after
      → IsDone (doing c s.traffic) (scene_of s c) (record { traffic = t.traffic; current = after }) → IsStep s t
  puts : (c : CurrentState) → s.traffic.outgoing ≡ None → s.current ≡ Some c → is_put (doing c s.traffic) ≡ true
      → t ≡ put_by (doing c s.traffic) c s → IsStep s t
  ends : (c : CurrentState) → s.traffic.outgoing ≡ None → s.current ≡ Some c → is_end (doing c s.traffic) ≡ true
      → t ≡ let_go c s → IsStep s t

module _ (s t : PoolState) (r : Option Action) where
  -- ---- what goes out

  abbrev GoesOut : Task → Type 0
  GoesOut what =
      (current_after (did what s.traffic) s.current ≡ s.current)
      × (after_task what s.traffic ≡ record s.traffic { outgoing = (after_task what s.traffic).outgoing })

  out-opens : GoesOut task.Opens
  out-opens = (by (option_and_then (opening_of s.traffic) s.traffic.outgoing), refl)
    where
      by : (o : Option OpeningValue) → current_after (did_open o) s.current ≡ s.current
      by None = refl
      by (Some o) = refl

  out-writes : GoesOut task.Writes
  out-writes = (by s.traffic.outgoing, refl)
    where
      by : (o : Option OutgoingValue) → current_after (did_write o) s.current ≡ s.current
      by None = refl
      by (Some o) = refl

  out-task : (is_new : Bool) → GoesOut (cond is_new task.Opens task.Writes)
  out-task true = out-opens
  out-task false = out-writes

  writing : (o : OutgoingValue) → s.traffic.outgoing ≡ Some o → task_of s.traffic ≡ outgoing_task o
  writing o e =
      ap (λ (next : Option OutgoingValue). unwrap_or
      (option_or (option_map outgoing_task next) (option_or (came_in s.traffic) (ran_out s.traffic))) task.Admits) e

  step-out : (o : OutgoingValue) → s.traffic.outgoing ≡ Some o → t ≡ started s → IsStep s t
  step-out o e is =
      let out : GoesOut (task_of s.traffic) = subst GoesOut (sym (writing o e)) (out-task o.sending.is_new) in
      let traffic : t.traffic ≡ after_task (task_of s.traffic) s.traffic = ap (λ (u : PoolState). u.traffic) is in
      goes_out o e (ap (λ (u : PoolState). u.current) is ∙ out.0)
      (traffic ∙ out.1 ∙ ap (λ (u : TrafficState). record s.traffic { outgoing = u.outgoing }) (sym traffic))
      (traffic ∙ ap (λ (what : Task). after_task what s.traffic) (writing o e))

  -- ---- all else

  module _ (calm : s.traffic.outgoing ≡ None) where
    step-done : (c : CurrentState) → s.current ≡ Some c → (after : Option CurrentState) → t.current ≡ after
        → IsDoneTo (doing c s.traffic) (scene_of s c) t.traffic after → IsStep s t
    step-done c works None at is = absurd is
    step-done c works (Some after) at is = does c after calm works at is

    step-by : (c : CurrentState) → s.current ≡ Some c → (ending putting : Bool) → is_end (doing c s.traffic) ≡ ending
        → is_put (doing c s.traffic) ≡ putting → StepsBy ending putting (doing c s.traffic) c s r t → IsStep s t
    step-by c works true putting e p is = ends c calm works e is.pool
    step-by c works false true e p is = puts c calm works p is.pool
    step-by c works false false e p is = step-done c works t.current refl is.done

    step-in : (c : Option CurrentState) → s.current ≡ c → StepsIn c s r t → IsStep s t
    step-in None works is = begins calm works is.1
    step-in (Some c) works is =
        step-by c works (is_end (doing c s.traffic)) (is_put (doing c s.traffic)) refl refl is

  pub step-is : Steps s r t → IsStep s t
  step-is is = by s.traffic.outgoing refl is
    where
      by : (o : Option OutgoingValue) → s.traffic.outgoing ≡ o → StepsAs (is_some o) s r t → IsStep s t
      by None e steps = step-in e s.current refl steps
      by (Some o) e steps = step-out o e steps.1

-- ---- events

-- The transactions stay, and the lists of servers; the lists change; or one begins.
pub data IsEvent (s t : PoolState) : Type 0 where
  keeps : t.traffic.table ≡ s.traffic.table → t.traffic.groups ≡ s.traffic.groups → IsEvent s t
  regroups : (group : ℕ) (servers : List ServerState) (sources : List Sources) → t.traffic.table ≡ s.traffic.table
      → t.traffic.groups ≡ with_servers group servers sources s.traffic.groups → IsEvent s t
  enters : (list : ℕ) (question : PoolQuestion) (settings : Settings) (l : GroupListState)
      → list_at list s.traffic.groups ≡ Some l
      → t.traffic.table ≡ with_entry s.traffic.askers.next_transaction (entry_of list question settings l) s.traffic.table
      → t.traffic.groups ≡ groups.begun list s.traffic.groups → IsEvent s t

event-joined : (n at : ℕ) (s : PoolState) → IsEvent s (join_in at s n)
event-joined n at s = by (joiner n s.traffic.askers)
  where
    by : (a : Option Asker) → IsEvent s (record s {
      traffic = option_map_or (λ b. ticked at (record s.traffic { askers = ask.joined n s.traffic.askers })) a s.traffic;
    })
    by None = keeps refl refl
    by (Some a) = keeps refl refl

event-begun : (key : AskedOf) (settings : Settings) (at : ℕ) (s : PoolState) → IsEvent s (after_beginning key settings at s)
event-begun key settings at s = by (list_at key.0 s.traffic.groups) refl
  where
    qs : List (AskedOf × ℕ)
    qs = option_map_or (with_question key s.questions) (begun_asker key.0 s.traffic) s.questions

    place : (p : Place) (l : GroupListState) → list_at key.0 s.traffic.groups ≡ Some l → IsEvent s (record s {
      questions = qs;
      traffic = begun_as p (entry_of key.0 key.1 settings l) key.0 at s.traffic;
    })
    place Overloaded l is = keeps refl refl
    place InFlight l is = enters key.0 key.1 settings l is refl refl
    place Waits l is = enters key.0 key.1 settings l is refl refl

    by : (l : Option GroupListState) → list_at key.0 s.traffic.groups ≡ l → IsEvent s (record s {
      questions = qs;
      traffic = option_map_or (begun_with key.0 key.1 settings at s.traffic) l (ticked at s.traffic);
    })
    by None is = keeps refl refl
    by (Some l) is = place (place_for s.traffic.askers) l is

event-asked : (key : AskedOf) (settings : Settings) (at : ℕ) (s : PoolState) → IsEvent s (ask_of key settings at s)
event-asked key settings at s = by (joiner_of key s)
  where
    joins : (n : Option ℕ) → IsEvent s (option_map_or (join_in at s) n s)
    joins None = keeps refl refl
    joins (Some n) = event-joined n at s

    by : (a : Option Asker) → IsEvent s (join_or_begin a key settings at s)
    by None = event-begun key settings at s
    by (Some a) = joins (pool.number_of key s.questions)

event-asks : (list : Option ℕ) (question : PoolQuestion) (settings : Settings) (at : ℕ) (s : PoolState)
    → IsEvent s (after_asking list question settings at s)
event-asks None question settings at s = keeps refl refl
event-asks (Some list) question settings at s = event-asked (list, question) settings at s

event-came : (channel : ℕ) (octets : List ℕ) (at : ℕ) (s : PoolState)
    → IsEvent s (record s { traffic = came channel octets at s.traffic })
event-came channel octets at s = by (channel_at channel s.traffic.shared.channels)
  where
    by : (c : Option Channel)
        → IsEvent s (record s { traffic = ticked at (option_map_or (came_on channel octets s.traffic) c s.traffic) })
    by None = keeps refl refl
    by (Some c) = keeps refl refl

event-failed : (f : ChannelFailure) (at : ℕ) (s : PoolState)
    → IsEvent s (record s { traffic = failed f at s.traffic })
event-failed f at s = by (channel_at f.channel s.traffic.shared.channels)
  where
    by : (c : Option Channel) → IsEvent s (record s { traffic = ticked at (option_map_or (failed_on f s.traffic) c s.traffic) })
    by None = keeps refl refl
    by (Some c) = keeps refl refl

pub event-is : (s : PoolState) (e : PoolEvent) → IsEvent s (after_event s e)
event-is s (time_passes at) = keeps refl refl
event-is s (group_has group servers) = regroups group (states_of servers) (map sources_of servers) refl refl
event-is s (is_asked group query options dnssec at) =
    event-asks (list_of group s.traffic) (question_of query options dnssec) (settings_for s.options options) at s
event-is s (octets_come channel octets at) = event-came channel octets at s
event-is s (channel_fails f at) = event-failed f at s
event-is s (is_forgotten a) = keeps refl refl
