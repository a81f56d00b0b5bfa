-- A pool stays bounded: whatever is done with its channels and with its askers is an event of these.
use Rattle.std.proofs.Common.{◌≡◌, ℕ, ◌+◌, ◌-◌, ◌^◌, Bool, true, false, cond, List, [], ◌∷◌, ◌++◌, min, refl, ap, sym, subst, ◌∙◌}
use Rattle.std.specs.Prelude.{Option, None, Some}
use Rattle.std.specs.Option.{is_some, option_map_or}
use Rattle.std.proofs.lemmas.List.Sums.{fold-append}
use Rattle.hickory_resolver_askers.specs.Askers.{AskersState, WaitingValue, nobody, joiner, to_admit, place_for}
use Rattle.hickory_resolver_askers.specs.Askers as ask
use Rattle.hickory_resolver_askers.specs.Laws as askers
use Rattle.hickory_resolver_askers.specs.declared.asker.Asker.{Asker}
use Rattle.hickory_resolver_askers.specs.declared.asker.AskerLimits.{AskerLimits}
use Rattle.hickory_resolver_askers.specs.declared.asker.Place.{Place}
use Rattle.hickory_resolver_askers.specs.declared.asker.Place.TheVariants.{InFlight, Waits, Overloaded}
use Rattle.hickory_resolver_askers.proofs.Limits as asker_limits
use Rattle.hickory_resolver_channels.specs.Channels.{ChannelsState, no_channels, channel_at, number_given}
use Rattle.hickory_resolver_channels.specs.Draws.{try_drawn}
use Rattle.hickory_resolver_channels.specs.Laws as channels
use Rattle.hickory_resolver_channels.specs.declared.channel.Channel.{Channel}
use Rattle.hickory_resolver_channels.specs.declared.channel.ChannelKind.{ChannelKind}
use Rattle.hickory_resolver_channels.specs.declared.channel.ChannelLimits.{ChannelLimits}
use Rattle.hickory_resolver_channels.proofs.Limits as channel_limits
use Rattle.hickory_resolver_config.specs.ResolverConfig.{OptionsValue}
use Rattle.hickory_resolver_flights.specs.Flights.{changed}
use Rattle.hickory_resolver_flights.specs.declared.heard.Heard.{Heard}
use Rattle.hickory_resolver_flights.specs.declared.heard.Heard.TheVariants.{Nothing, OtherLetters, OptRefused, Reply}
use Rattle.hickory_resolver_steps.specs.Ending.{try_at_place}
use Rattle.hickory_resolver_steps.specs.Lists.{number_of}
use Rattle.hickory_resolver_steps.specs.Steps.{Parts, kind_of, stream_in, sent_on, sent_to, sent_as, sent}
use Rattle.hickory_resolver_steps.specs.declared.flying.SentTry.{SentTry}
use Rattle.hickory_resolver_steps.specs.declared.flying.Step.{Step}
use Rattle.hickory_resolver_transactions.specs.Transaction.{wanted, freed}
use Rattle.hickory_resolver_transactions.specs.declared.settings.Settings.{Settings}
use Rattle.hickory_resolver_transactions.specs.declared.transaction.Wanted.{Wanted}
use Rattle.hickory_resolver_tries.specs.Question.{question_of}
use Rattle.hickory_resolver_tries.specs.declared.pool_question.PoolQuestion.{PoolQuestion}
use Rattle.hickory_resolver_traffic.specs.Acting.{Acted, acted, acted_with, acted_on, parts_of, step_of}
use Rattle.hickory_resolver_traffic.specs.Doing.{Scene, IsDone, act_on, before_act, moment_of, hears_octets, hear_of, after_first, heard_of_first, hears_first, hears, doubts_message, doubts_first, doubts, after_failed, fails_on, fails, stalls_on, stalls, leave_at, leaving_at, closed_at, freed_if, one_freed, leaves, is_empty, idle_until, quits_at, quits, place_on, after_quit, with_to_do, then_do, changing, expires, frees, draws, with_round_parts, gives_up, blocks, sends, dates, is_stream}
use Rattle.hickory_resolver_traffic.specs.Groups.{GroupListState, list_in, list_at}
use Rattle.hickory_resolver_traffic.specs.Inbox.{MessageValue, first_message, first_failure}
use Rattle.hickory_resolver_traffic.specs.Table.{CurrentState, EntryState, without_blocked}
use Rattle.hickory_resolver_traffic.specs.Tasks.{after_task, task_of, closed, freed_by, freed_by_first, without_taken, ended}
use Rattle.hickory_resolver_traffic.specs.Traffic.{TrafficState, ticked, until_of, begun_as, begun_with, entry_of, came_on, came, failed_on, failed, joined, begun}
use Rattle.hickory_resolver_traffic.specs.declared.acting.Moment.{Moment}
use Rattle.hickory_resolver_traffic.specs.declared.acting.ServerAct.{ServerAct}
use Rattle.hickory_resolver_traffic.specs.declared.acting.ServerAct.TheVariants.{Hear, Fail, Expire, Send}
use Rattle.hickory_resolver_traffic.specs.declared.doing.Doing.{Doing}
use Rattle.hickory_resolver_traffic.specs.declared.doing.Doing.TheVariants.{Hears, Doubts, Stalls, Fails, Quits, PutsBack, Expires, Frees, Refused, Leaves, Ends, Draws, BeginsRound, GivesUp, Blocks, Sends, Dates, Rests}
use Rattle.hickory_resolver_traffic.specs.declared.entry.ToDo.TheVariants.{GoOn, PutBack}
use Rattle.hickory_resolver_traffic.specs.declared.inbox.ChannelFailure.{ChannelFailure}
use Rattle.hickory_resolver_traffic.specs.declared.inbox.Failure.{Failure}
use Rattle.hickory_resolver_traffic.specs.declared.inbox.Failure.TheVariants as failure
use Rattle.hickory_resolver_traffic.specs.declared.tasks.Task.{Task}
use Rattle.hickory_resolver_traffic.specs.declared.tasks.Task.TheVariants as task
use Rattle.hickory_resolver_traffic.specs.declared.traffic.TrafficLimits.{TrafficLimits}
use Rattle.hickory_resolver_pool.specs.Laws.{PoolEvent, time_passes, group_has, is_asked, octets_come, channel_fails, is_forgotten, after_event, Reached, at_first, by_event, by_step, StaysBounded}
use Rattle.hickory_resolver_pool.specs.Pool.{PoolState, AskedOf, no_servers, limits_of, settings_for, list_of, joiner_of, join_in, join_or_begin, ask_of, after_asking, started, Starts, Carries, IsDoneTo, scene_of, is_end, is_put, StepsBy, StepsWith, StepsIn, StepsAs, let_go, put_by}
use Rattle.hickory_resolver_pool.specs.Pool as pool
use Rattle.hickory_resolver_pool.specs.declared.limits.PoolLimits.{PoolLimits}
use Rattle.hickory_resolver_pool.specs.declared.pool.Action.{Action}
use Rattle.hickory_resolver_traffic.specs.Doing.{doing}

-- ---- channels, and askers, after some events

pub record ChannelsMade (limits : ChannelLimits) (c : ChannelsState) : Type 0 where
  pub events : List channels.ChannelEvent
  pub made : c ≡ channels.after_events (no_channels limits) events

pub record AskersMade (limits : AskerLimits) (a : AskersState) : Type 0 where
  pub events : List askers.AskersEvent
  pub made : a ≡ askers.after_events (nobody limits) events

channels-next : (limits : ChannelLimits) (c : ChannelsState) (e : channels.ChannelEvent) → ChannelsMade limits c
    → ChannelsMade limits (channels.after_event c e)
channels-next limits c e m = record {
  events = m.events ++ e ∷ [];
  made = ap (λ (x : ChannelsState). channels.after_event x e) m.made
      ∙ sym (fold-append channels.after_event (no_channels limits) m.events (e ∷ []));
}

askers-next : (limits : AskerLimits) (a : AskersState) (e : askers.AskersEvent) → AskersMade limits a
    → AskersMade limits (askers.after_event a e)
askers-next limits a e m = record {
  events = m.events ++ e ∷ [];
  made = ap (λ (x : AskersState). askers.after_event x e) m.made
      ∙ sym (fold-append askers.after_event (nobody limits) m.events (e ∷ []));
}

-- ---- what is sent, on channels

module _ (limits : ChannelLimits) where
  abbrev Ok : ChannelsState → Type 0
  Ok c = ChannelsMade limits c

  made-sent_on : (step : Step) (kind : ChannelKind) (place : ℕ) (p : Parts) (found : Option ℕ)
      → Ok p.shared.channels → Ok (sent_on step kind place p found).shared.channels
  made-sent_on step kind place p None ok = ok
  made-sent_on step kind place p (Some channel) ok =
      channels-next limits p.shared.channels
      (channels.opens_for (number_of place p.servers) kind (try_drawn p.shared.draws).id step.transaction) ok

  made-sent_to : (step : Step) (kind : ChannelKind) (place : ℕ) (p : Parts) (found : Option ℕ)
      → Ok p.shared.channels → Ok (sent_to step kind place p found).shared.channels
  made-sent_to step kind place p (Some channel) ok =
      channels-next limits p.shared.channels
      (channels.joins channel (try_drawn p.shared.draws).id step.transaction) ok
  made-sent_to step kind place p None ok = made-sent_on step kind place p (number_given p.shared.channels) ok

  made-sent : (step : Step) (p : Parts) → Ok p.shared.channels → Ok (sent step p).shared.channels
  made-sent step p ok = by (wanted p.flying.flight.transaction)
    where
      by : (w : Option Wanted) → Ok (option_map_or (sent_as step p) w p).shared.channels
      by None = ok
      by (Some w) =
          made-sent_to step (kind_of w.way.transport) w.place p (stream_in (kind_of w.way.transport) w.place p) ok

  made-acted : (what : ServerAct) (n : ℕ) (m : Moment) (octets : List ℕ) (p : Parts)
      → Ok p.shared.channels → Ok (acted what n m octets p).shared.channels
  made-acted (Hear channel id) n m octets p ok = ok
  made-acted (Fail channel) n m octets p ok = ok
  made-acted Expire n m octets p ok = ok
  made-acted Send n m octets p ok = made-sent (step_of n m) p ok

  made-acted_on : (what : ServerAct) (n : ℕ) (m : Moment) (octets : List ℕ) (list : ℕ) (a : Acted)
      → Ok a.shared.channels → Ok (acted_on what n m octets list a).shared.channels
  made-acted_on what n m octets list a ok = by (list_in list a.lists)
    where
      by : (l : Option GroupListState) → Ok (option_map_or (acted_with what n m octets list a) l a).shared.channels
      by None = ok
      by (Some l) = made-acted what n m octets (parts_of a.shared a.flying l) ok

-- ---- what is on its way

pub record Tracked (limits : TrafficLimits) (t : TrafficState) : Type 0 where
  pub channels : ChannelsMade limits.channels t.shared.channels
  pub askers : AskersMade limits.askers t.askers

module _ (limits : TrafficLimits) where
  abbrev Tracks : Scene → Type 0
  Tracks x = Tracked limits x.traffic

  tracks-act : (what : ServerAct) (octets : List ℕ) (x : Scene) → Tracks x → Tracks (act_on what octets x)
  tracks-act what octets x w = record {
    channels = made-acted_on limits.channels what x.current.number (moment_of x.traffic) octets
        x.current.entry.asked.0 (before_act x) w.channels;
    askers = w.askers;
  }

  tracks-hears_first : (x : Scene) → Tracks x → Tracks (hears_first x)
  tracks-hears_first x w = by (first_message x.traffic.inbox)
    where
      by : (m : Option MessageValue) → Tracks (option_map_or (hears_octets x) m x)
      by None = w
      by (Some m) = tracks-act (hear_of m) m.octets x w

  tracks-after_first : (heard : Option Heard) (x : Scene) → Tracks x → Tracks (after_first heard x)
  tracks-after_first None x w = record { channels = w.channels; askers = w.askers }
  tracks-after_first (Some Nothing) x w = record { channels = w.channels; askers = w.askers }
  tracks-after_first (Some OtherLetters) x w = record { channels = w.channels; askers = w.askers }
  tracks-after_first (Some OptRefused) x w = record { channels = w.channels; askers = w.askers }
  tracks-after_first (Some (Reply outcome)) x w = record { channels = w.channels; askers = w.askers }

  tracked-doubts : (t : TrafficState) → Tracked limits t → Tracked limits (doubts_first t)
  tracked-doubts t w = by (first_message t.inbox)
    where
      by : (m : Option MessageValue) → Tracked limits (option_map_or (doubts_message t) m t)
      by None = w
      by (Some m) = record { channels = w.channels; askers = w.askers }

  tracks-fails : (x : Scene) → Tracks x → Tracks (fails x)
  tracks-fails x w = by (first_failure x.traffic.inbox)
    where
      after : (f : ChannelFailure) (stream : Bool) → Tracks (after_failed stream (act_on (Fail f.channel) [] x))
      after f true = let v = tracks-act (Fail f.channel) [] x w in record { channels = v.channels; askers = v.askers }
      after f false = let v = tracks-act (Fail f.channel) [] x w in record { channels = v.channels; askers = v.askers }

      by : (f : Option ChannelFailure) → Tracks (option_map_or (fails_on x) f (with_to_do GoOn x))
      by None = record { channels = w.channels; askers = w.askers }
      by (Some f) = after f (is_stream f.channel x.traffic.shared.channels)

  tracks-stalls : (x : Scene) → Tracks x → Tracks (stalls x)
  tracks-stalls x w = by (first_failure x.traffic.inbox)
    where
      by : (f : Option ChannelFailure) → Tracks (option_map_or (stalls_on x) f (with_to_do GoOn x))
      by None = record { channels = w.channels; askers = w.askers }
      by (Some f) = record { channels = w.channels; askers = w.askers }

  tracks-leave_at : (place : ℕ) (x : Scene) → Tracks x → Tracks (leave_at place x)
  tracks-leave_at place x w = by (try_at_place x.current.entry.flying place)
    where
      by : (one : Option SentTry) → Tracks (option_map_or (leaving_at place x) one x)
      by None = w
      by (Some one) = record {
        channels = channels-next limits.channels x.traffic.shared.channels
            (channels.leaves one.channel one.id (idle_until x.traffic)) w.channels;
        askers = w.askers;
      }

  tracked-one_freed : (t : TrafficState) → Tracked limits t → Tracked limits (one_freed t)
  tracked-one_freed t w = by (is_empty t.table.blocked)
    where
      by : (empty : Bool) → Tracked limits (cond empty t (record t { freed = min (t.freed + 1) (2 ^ 64 - 1) }))
      by true = w
      by false = record { channels = w.channels; askers = w.askers }

  tracks-freed_if : (closed : Option ℕ) (x : Scene) → Tracks x → Tracks (freed_if closed x)
  tracks-freed_if None x w = w
  tracks-freed_if (Some channel) x w = tracked-one_freed x.traffic w

  tracks-quits : (x : Scene) → Tracks x → Tracks (quits x)
  tracks-quits x w = by (place_on x)
    where
      after : (y : Scene) → Tracks y → (closed : Option ℕ) → Tracks (after_quit closed y)
      after y v None = record { channels = v.channels; askers = v.askers }
      after y v (Some channel) = record { channels = v.channels; askers = v.askers }

      by : (place : Option ℕ) → Tracks (option_map_or (quits_at x) place (with_to_do PutBack x))
      by None = record { channels = w.channels; askers = w.askers }
      by (Some place) = after (leave_at place x) (tracks-leave_at place x w) (closed_at place x)

  tracks-frees : (x : Scene) → Tracks x → Tracks (frees x)
  tracks-frees x w = by (is_some (wanted (changed freed x.current.entry.flying.flight).transaction))
    where
      by : (wants : Bool) → Tracks (cond wants
          (record {
            traffic = x.traffic;
            current = then_do GoOn (changing (changed freed) x.current);
          })
          (record {
            traffic = record x.traffic { table = without_blocked x.current.number x.traffic.table };
            current = then_do GoOn (changing (changed freed) x.current);
          }))
      by true = record { channels = w.channels; askers = w.askers }
      by false = record { channels = w.channels; askers = w.askers }

  tracks-by : (x y z : Scene) → y ≡ z → Tracks z → Tracks y
  tracks-by x y z same w = subst (λ (v : Scene). Tracks v) (sym same) w

  tracks-done : (what : Doing) (x y : Scene) → IsDone what x y → Tracks x → Tracks y
  tracks-done Hears x y is w =
      tracks-by x y (hears x) is (tracks-after_first (heard_of_first x) (hears_first x) (tracks-hears_first x w))
  tracks-done Doubts x y is w =
      let v = tracked-doubts x.traffic w in
      tracks-by x y (doubts x) is (record { channels = v.channels; askers = v.askers })
  tracks-done Stalls x y is w = tracks-by x y (stalls x) is (tracks-stalls x w)
  tracks-done Fails x y is w = tracks-by x y (fails x) is (tracks-fails x w)
  tracks-done Quits x y is w = tracks-by x y (quits x) is (tracks-quits x w)
  tracks-done Expires x y is w =
      let v = tracks-act Expire [] x w in
      tracks-by x y (expires x) is (record { channels = v.channels; askers = v.askers })
  tracks-done Frees x y is w = tracks-by x y (frees x) is (tracks-frees x w)
  tracks-done (Leaves place) x y is w =
      tracks-by x y (leaves place x) is
      (tracks-freed_if (closed_at place x) (leave_at place x) (tracks-leave_at place x w))
  tracks-done Draws x y is w = tracks-by x y (draws x) is (record { channels = w.channels; askers = w.askers })
  tracks-done (BeginsRound place) x y is w =
      tracks-by x y (with_round_parts place x y.current.entry.flying) is.after
      (record { channels = w.channels; askers = w.askers })
  tracks-done GivesUp x y is w = tracks-by x y (gives_up x) is (record { channels = w.channels; askers = w.askers })
  tracks-done Blocks x y is w = tracks-by x y (blocks x) is (record { channels = w.channels; askers = w.askers })
  tracks-done Sends x y is w =
      let v = tracks-act Send [] x w in
      tracks-by x y (sends x) is (record { channels = v.channels; askers = v.askers })
  tracks-done (Dates due) x y is w =
      tracks-by x y (dates due x) is (record { channels = w.channels; askers = w.askers })
  tracks-done PutsBack x y is w = tracks-by x y x is w
  tracks-done Refused x y is w = tracks-by x y x is w
  tracks-done Ends x y is w = tracks-by x y x is w
  tracks-done Rests x y is w = tracks-by x y x is w

  -- ---- where no transaction is worked on

  tracked-closed : (channel : ℕ) (t : TrafficState) → Tracked limits t → Tracked limits (closed channel t)
  tracked-closed channel t w = record {
    channels = channels-next limits.channels t.shared.channels (channels.closes channel) w.channels;
    askers = w.askers;
  }

  tracked-freed_by_first : (t : TrafficState) → Tracked limits t → Tracked limits (freed_by_first t)
  tracked-freed_by_first t w = by (first_failure t.inbox)
    where
      why : (f : Failure) → Tracked limits (freed_by f t)
      why failure.Local = w
      why failure.Refused = tracked-one_freed t w
      why failure.Unreachable = tracked-one_freed t w
      why failure.Closed = tracked-one_freed t w

      by : (f : Option ChannelFailure) → Tracked limits (option_map_or (λ g. freed_by g.why t) f t)
      by None = w
      by (Some f) = why f.why

  tracked-task : (what : Task) (t : TrafficState) → Tracked limits t → Tracked limits (after_task what t)
  tracked-task task.Opens t w = record { channels = w.channels; askers = w.askers }
  tracked-task task.Writes t w = record { channels = w.channels; askers = w.askers }
  tracked-task task.Doubts t w = tracked-doubts t w
  tracked-task task.PassesBy t w = record { channels = w.channels; askers = w.askers }
  tracked-task (task.Cuts channel) t w = record { channels = w.channels; askers = w.askers }
  tracked-task (task.ClosesFailed channel) t w =
      let v = tracked-freed_by_first (closed channel t) (tracked-closed channel t w) in
      record { channels = v.channels; askers = v.askers }
  tracked-task task.DropsFailure t w = record { channels = w.channels; askers = w.askers }
  tracked-task (task.TakesReady n) t w = record { channels = w.channels; askers = w.askers }
  tracked-task (task.TakesUp n to_do) t w = record { channels = w.channels; askers = w.askers }
  tracked-task (task.Undates due n) t w = record { channels = w.channels; askers = w.askers }
  tracked-task (task.Strays n) t w = record {
    channels = w.channels;
    askers = askers-next limits.askers t.askers (askers.is_over n) w.askers;
  }
  tracked-task (task.Unblocks n) t w = record { channels = w.channels; askers = w.askers }
  tracked-task (task.ClosesIdle channel) t w = tracked-one_freed (closed channel t) (tracked-closed channel t w)
  tracked-task task.Admits t w = by (to_admit t.askers)
    where
      by : (first : Option (ℕ × WaitingValue)) → Tracked limits
          (option_map_or (λ f. without_taken f.0 (record t { askers = ask.admitted t.askers })) first t)
      by None = w
      by (Some first) = record {
        channels = w.channels;
        askers = askers-next limits.askers t.askers askers.is_admitted w.askers;
      }

  tracked-ended : (n : ℕ) (e : EntryState) (t : TrafficState) → Tracked limits t → Tracked limits (ended n e t)
  tracked-ended n e t w = record {
    channels = w.channels;
    askers = askers-next limits.askers t.askers (askers.is_over n) w.askers;
  }

  -- ---- events

  tracked-came : (channel : ℕ) (octets : List ℕ) (now : ℕ) (t : TrafficState) → Tracked limits t
      → Tracked limits (came channel octets now t)
  tracked-came channel octets now t w = by (channel_at channel t.shared.channels)
    where
      by : (c : Option Channel) → Tracked limits (ticked now (option_map_or (came_on channel octets t) c t))
      by None = record { channels = w.channels; askers = w.askers }
      by (Some c) = record { channels = w.channels; askers = w.askers }

  tracked-failed : (f : ChannelFailure) (now : ℕ) (t : TrafficState) → Tracked limits t
      → Tracked limits (failed f now t)
  tracked-failed f now t w = by (channel_at f.channel t.shared.channels)
    where
      by : (c : Option Channel) → Tracked limits (ticked now (option_map_or (failed_on f t) c t))
      by None = record { channels = w.channels; askers = w.askers }
      by (Some c) = record { channels = w.channels; askers = w.askers }

  tracked-joined : (n now : ℕ) (t : TrafficState) → Tracked limits t → Tracked limits (joined n now t)
  tracked-joined n now t w = by (joiner n t.askers)
    where
      by : (a : Option Asker) → Tracked limits
          (option_map_or (λ b. ticked now (record t { askers = ask.joined n t.askers })) a t)
      by None = w
      by (Some a) = record {
        channels = w.channels;
        askers = askers-next limits.askers t.askers (askers.joins n) w.askers;
      }

  tracked-begun_as : (place : Place) (e : EntryState) (list now : ℕ) (t : TrafficState) → Tracked limits t
      → Tracked limits (begun_as place e list now t)
  tracked-begun_as Overloaded e list now t w = record { channels = w.channels; askers = w.askers }
  tracked-begun_as InFlight e list now t w = record {
    channels = w.channels;
    askers = askers-next limits.askers t.askers (askers.begins (until_of now t)) w.askers;
  }
  tracked-begun_as Waits e list now t w = record {
    channels = w.channels;
    askers = askers-next limits.askers t.askers (askers.begins (until_of now t)) w.askers;
  }

  tracked-begun : (list : ℕ) (question : PoolQuestion) (settings : Settings) (now : ℕ) (t : TrafficState)
      → Tracked limits t → Tracked limits (begun list question settings now t)
  tracked-begun list question settings now t w = by (list_at list t.groups)
    where
      by : (l : Option GroupListState)
          → Tracked limits (option_map_or (begun_with list question settings now t) l (ticked now t))
      by None = record { channels = w.channels; askers = w.askers }
      by (Some l) = tracked-begun_as (place_for t.askers) (entry_of list question settings l) list now t w

  -- ---- the pool

  abbrev Pool : PoolState → Type 0
  Pool s = Tracked limits s.traffic

  pool-asked : (key : AskedOf) (settings : Settings) (now : ℕ) (s : PoolState) → Pool s
      → Pool (ask_of key settings now s)
  pool-asked key settings now s w = by (joiner_of key s)
    where
      joins : (n : Option ℕ) → Pool (option_map_or (join_in now s) n s)
      joins None = w
      joins (Some n) = tracked-joined n now s.traffic w

      by : (a : Option Asker) → Pool (join_or_begin a key settings now s)
      by None = tracked-begun key.0 key.1 settings now s.traffic w
      by (Some a) = joins (pool.number_of key s.questions)

  pool-event : (s : PoolState) (e : PoolEvent) → Pool s → Pool (after_event s e)
  pool-event s (time_passes now) w = record { channels = w.channels; askers = w.askers }
  pool-event s (group_has group servers) w = record { channels = w.channels; askers = w.askers }
  pool-event s (is_asked group query options dnssec now) w = by (list_of group s.traffic)
    where
      by : (list : Option ℕ)
          → Pool (after_asking list (question_of query options dnssec) (settings_for s.options options) now s)
      by None = record { channels = w.channels; askers = w.askers }
      by (Some list) = pool-asked (list, question_of query options dnssec) (settings_for s.options options) now s w
  pool-event s (octets_come channel octets now) w = tracked-came channel octets now s.traffic w
  pool-event s (channel_fails f now) w = tracked-failed f now s.traffic w
  pool-event s (is_forgotten a) w = record {
    channels = w.channels;
    askers = askers-next limits.askers s.traffic.askers (askers.is_forgotten a) w.askers;
  }

  pool-by : (s t : PoolState) → s ≡ t → Pool t → Pool s
  pool-by s t same w = subst (λ (u : PoolState). Pool u) (sym same) w

  pool-starts : (s t : PoolState) (r : Option Action) → Starts s r t → Pool s → Pool t
  pool-starts s t r is w = pool-by t (started s) is.1 (tracked-task (task_of s.traffic) s.traffic w)

  done-to : (what : Doing) (x : Scene) (t : TrafficState) (current : Option CurrentState) → IsDoneTo what x t current
      → Tracked limits x.traffic → Tracked limits t
  done-to what x t None is w = absurd is
  done-to what x t (Some c) is w = tracks-done what x (record { traffic = t; current = c }) is w

  pool-carries : (what : Doing) (c : CurrentState) (s t : PoolState) (r : Option Action) → Carries what c s r t → Pool s
      → Pool t
  pool-carries what c s t r is w = done-to what (scene_of s c) t.traffic t.current is.done w

  pool-put : (what : Doing) (c : CurrentState) (s : PoolState) → Pool s → Pool (put_by what c s)
  pool-put PutsBack c s w = record { channels = w.channels; askers = w.askers }
  pool-put Rests c s w = record { channels = w.channels; askers = w.askers }
  pool-put Ends c s w = record { channels = w.channels; askers = w.askers }
  pool-put Refused c s w = record { channels = w.channels; askers = w.askers }
  pool-put Hears c s w = record { channels = w.channels; askers = w.askers }
  pool-put Doubts c s w = record { channels = w.channels; askers = w.askers }
  pool-put Stalls c s w = record { channels = w.channels; askers = w.askers }
  pool-put Fails c s w = record { channels = w.channels; askers = w.askers }
  pool-put Quits c s w = record { channels = w.channels; askers = w.askers }
  pool-put Expires c s w = record { channels = w.channels; askers = w.askers }
  pool-put Frees c s w = record { channels = w.channels; askers = w.askers }
  pool-put (Leaves place) c s w = record { channels = w.channels; askers = w.askers }
  pool-put Draws c s w = record { channels = w.channels; askers = w.askers }
  pool-put (BeginsRound place) c s w = record { channels = w.channels; askers = w.askers }
  pool-put GivesUp c s w = record { channels = w.channels; askers = w.askers }
  pool-put Blocks c s w = record { channels = w.channels; askers = w.askers }
  pool-put Sends c s w = record { channels = w.channels; askers = w.askers }
  pool-put (Dates due) c s w = record { channels = w.channels; askers = w.askers }

  pool-by_end : (ends puts : Bool) (what : Doing) (c : CurrentState) (s t : PoolState) (r : Option Action)
      → StepsBy ends puts what c s r t → Pool s → Pool t
  pool-by_end true puts what c s t r is w = pool-by t (let_go c s) is.pool (tracked-ended c.number c.entry s.traffic w)
  pool-by_end false true what c s t r is w = pool-by t (put_by what c s) is.pool (pool-put what c s w)
  pool-by_end false false what c s t r is w = pool-carries what c s t r is w

  pool-with : (what : Doing) (c : CurrentState) (s t : PoolState) (r : Option Action) → StepsWith what c s r t → Pool s
      → Pool t
  pool-with what c s t r is w = pool-by_end (is_end what) (is_put what) what c s t r is w

  pool-in : (current : Option CurrentState) (s t : PoolState) (r : Option Action) → StepsIn current s r t → Pool s
      → Pool t
  pool-in None s t r is w = pool-starts s t r is w
  pool-in (Some c) s t r is w = pool-with (doing c s.traffic) c s t r is w

  pool-as : (writes : Bool) (s t : PoolState) (r : Option Action) → StepsAs writes s r t → Pool s → Pool t
  pool-as true s t r is w = pool-starts s t r is w
  pool-as false s t r is w = pool-in s.current s t r is w

  pool-reached : (start s : PoolState) → Pool start → Reached start s → Pool s
  pool-reached start _ w at_first = w
  pool-reached start _ w (by_event before e more) = pool-event before e (pool-reached start before w more)
  pool-reached start _ w (by_step before after r is more) =
      pool-as (is_some before.traffic.outgoing) before after r is (pool-reached start before w more)

pub tracked-reached : (options : OptionsValue) (limits : PoolLimits) (seed : List ℕ) (s : PoolState)
    → Reached (no_servers options limits seed) s → Tracked (limits_of limits options) s.traffic
tracked-reached options limits seed s reached =
    pool-reached (limits_of limits options) (no_servers options limits seed) s
    (record {
      channels = record { events = []; made = refl };
      askers = record { events = []; made = refl };
    }) reached

pub stays_bounded : StaysBounded
stays_bounded options limits seed s reached =
    let w = tracked-reached options limits seed s reached in
    record {
      channels = subst (λ (c : ChannelsState). channels.IsWithinLimits (limits_of limits options).channels c)
          (sym w.channels.made)
          (channel_limits.stays_within_limits (limits_of limits options).channels w.channels.events);
      askers = subst (λ (a : AskersState). askers.IsWithinLimits (limits_of limits options).askers a)
          (sym w.askers.made) (asker_limits.stays_within_limits (limits_of limits options).askers w.askers.events);
    }
