-- A stream of which a whole message is held is still to be read.
use Rattle.std.proofs.Common.{◌≡◌, ◌<◌, ◌+◌, ◌-◌, ◌*◌, ◌^◌, min, suc, ℕ, Bool, true, false, cond, List, [], ◌∷◌, ◌++◌, length, take, drop, refl, ap, sym, subst, ◌∙◌, true≢false, inl, inr, ◌⊎◌, arith, eqb, eqb-true, eq-eqb, ltb, ltb-true}
use Rattle.std.specs.Prelude.{Option, None, Some, slice_get}
use Rattle.std.specs.Ordering.{nat_cmp}
use Rattle.std.specs.List.{AllByRecursion, list_any}
use Rattle.std.specs.Map.{remove_entry, set_value}
use Rattle.std.specs.BTreeMap.{insert_entry, is_at}
use Rattle.std.specs.Option.{is_some, option_map_or, option_and_then}
use Rattle.hickory_resolver_flights.specs.Flights.{changed}
use Rattle.hickory_resolver_flights.specs.declared.heard.Heard.{Heard}
use Rattle.hickory_resolver_flights.specs.declared.heard.Heard.TheVariants.{Nothing, OtherLetters, OptRefused, Reply}
use Rattle.hickory_resolver_steps.specs.Ending.{try_at_place}
use Rattle.hickory_resolver_steps.specs.declared.flying.SentTry.{SentTry}
use Rattle.hickory_resolver_transactions.specs.Transaction.{wanted, freed}
use Rattle.hickory_resolver_traffic.specs.Doing.{Scene, IsDone, hears_octets, after_first, heard_of_first, hears_first, hears, doubts_message, doubts, is_empty, fails_on, after_failed, fails, act_on, stalls_on, stalls, leaving_at, leave_at, closed_at, freed_if, leaves, quits_at, after_quit, quits, place_on, with_to_do, expires, frees, then_do, changing, draws, gives_up, blocks, sends, dates, with_round_parts, is_stream, broken, one_freed, doing}
use Rattle.hickory_resolver_traffic.specs.Inbox.{InboxState, MessageValue, first_message, first_failure, without_message, with_failure, with_octets, octets_in, first_on, cut_on, cut_off, without_unread}
use Rattle.hickory_resolver_traffic.specs.Table.{CurrentState, without_blocked}
use Rattle.hickory_resolver_traffic.specs.declared.acting.ServerAct.TheVariants.{Fail}
use Rattle.hickory_resolver_traffic.specs.declared.doing.Doing.{Doing}
use Rattle.hickory_resolver_traffic.specs.declared.doing.Doing.TheVariants.{Hears, Doubts, Stalls, Fails, Quits, PutsBack, Expires, Frees, Refused, Leaves, Ends, Draws, BeginsRound, GivesUp, Blocks, Sends, Dates, Rests}
use Rattle.hickory_resolver_traffic.specs.declared.entry.ToDo.TheVariants as todo
use Rattle.hickory_resolver_traffic.specs.declared.inbox.ChannelFailure.{ChannelFailure}
use Rattle.hickory_resolver_askers.specs.Askers.{WaitingValue, to_admit, joiner, place_for}
use Rattle.hickory_resolver_askers.specs.Askers as ask
use Rattle.hickory_resolver_askers.specs.declared.asker.Asker.{Asker}
use Rattle.hickory_resolver_askers.specs.declared.asker.Place.{Place}
use Rattle.hickory_resolver_askers.specs.declared.asker.Place.TheVariants.{InFlight, Waits, Overloaded}
use Rattle.hickory_resolver_channels.specs.Channels.{channel_at}
use Rattle.hickory_resolver_channels.specs.declared.channel.Channel.{Channel}
use Rattle.hickory_resolver_channels.specs.declared.channel.ChannelKind.{ChannelKind}
use Rattle.hickory_resolver_channels.specs.declared.channel.ChannelKind.TheVariants.{Datagram, Stream}
use Rattle.hickory_resolver_tries.specs.Question.{question_of}
use Rattle.hickory_resolver_tries.specs.Stream.{first_of}
use Rattle.hickory_resolver_tries.specs.declared.pool_question.PoolQuestion.{PoolQuestion}
use Rattle.hickory_resolver_transactions.specs.declared.settings.Settings.{Settings}
use Rattle.hickory_resolver_traffic.specs.Groups.{GroupListState, list_at}
use Rattle.hickory_resolver_traffic.specs.Tasks.{task_of, after_task, closed, freed_by, freed_by_first, without_taken}
use Rattle.hickory_resolver_traffic.specs.Traffic.{TrafficState, ticked, begun_as, begun_with, entry_of, came_on, came, taken_in, failed_on, failed}
use Rattle.hickory_resolver_traffic.specs.declared.inbox.Failure.{Failure}
use Rattle.hickory_resolver_traffic.specs.declared.inbox.Failure.TheVariants as failure
use Rattle.hickory_resolver_traffic.specs.declared.tasks.Task.{Task}
use Rattle.hickory_resolver_traffic.specs.declared.tasks.Task.TheVariants as task
use Rattle.hickory_resolver_pool.specs.Laws.{PoolEvent, time_passes, group_has, is_asked, octets_come, channel_fails, is_forgotten, after_event}
use Rattle.hickory_resolver_pool.specs.Pool.{PoolState, AskedOf, no_servers, settings_for, list_of, joiner_of, join_in, join_or_begin, ask_of, after_asking, scene_of, put_by}
use Rattle.hickory_resolver_pool.specs.Pool as pool
use Rattle.hickory_resolver_pool_theorems.specs.Rest.{AllIsReadAtRest}
use Rattle.hickory_resolver_pool_theorems.specs.Runs.{Happening, Runs, at_first, by_event, by_step}
use Rattle.hickory_resolver_pool_theorems.proofs.Ends.{nothing-left}
use Rattle.hickory_resolver_pool_theorems.proofs.Guards.{Why, why-task}
use Rattle.hickory_resolver_pool_theorems.proofs.Keys.{at-is, Apart, apart-inserted, apart-set, apart-removed, gone-removed, others-inserted, others-set, others-removed}
use Rattle.hickory_resolver_pool_theorems.proofs.KeySets.{or-true, or-left, or-split, or-more}
use Rattle.hickory_resolver_pool_theorems.proofs.Shapes.{IsStep, goes_out, begins, does, puts, ends, step-is}

-- ---- what is done with a transaction leaves the streams

pub record IsStreams (x y : Scene) : Type 0 where
  pub streams : y.traffic.inbox.streams ≡ x.traffic.inbox.streams
  pub unread : y.traffic.inbox.unread ≡ x.traffic.inbox.unread

streams-self : (x : Scene) → IsStreams x x
streams-self x = record { streams = refl; unread = refl }

streams-then : (x y z : Scene) → IsStreams x y → IsStreams y z → IsStreams x z
streams-then x y z one two = record {
  streams = two.streams ∙ one.streams;
  unread = two.unread ∙ one.unread;
}

streams-hears_first : (x : Scene) → IsStreams x (hears_first x)
streams-hears_first x = by (first_message x.traffic.inbox)
  where
    by : (m : Option MessageValue) → IsStreams x (option_map_or (hears_octets x) m x)
    by None = streams-self x
    by (Some m) = record { streams = refl; unread = refl }

streams-after_first : (heard : Option Heard) (x : Scene) → IsStreams x (after_first heard x)
streams-after_first None x = record { streams = refl; unread = refl }
streams-after_first (Some Nothing) x = record { streams = refl; unread = refl }
streams-after_first (Some OtherLetters) x = record { streams = refl; unread = refl }
streams-after_first (Some OptRefused) x = record { streams = refl; unread = refl }
streams-after_first (Some (Reply outcome)) x = record { streams = refl; unread = refl }

streams-stalls : (x : Scene) → IsStreams x (stalls x)
streams-stalls x = by (first_failure x.traffic.inbox)
  where
    by : (f : Option ChannelFailure) → IsStreams x (option_map_or (stalls_on x) f (with_to_do todo.GoOn x))
    by None = record { streams = refl; unread = refl }
    by (Some f) = record { streams = refl; unread = refl }

streams-fails : (x : Scene) → IsStreams x (fails x)
streams-fails x = by (first_failure x.traffic.inbox)
  where
    after : (f : ChannelFailure) (stream : Bool) → IsStreams x (after_failed stream (act_on (Fail f.channel) [] x))
    after f true = record { streams = refl; unread = refl }
    after f false = record { streams = refl; unread = refl }

    by : (f : Option ChannelFailure) → IsStreams x (option_map_or (fails_on x) f (with_to_do todo.GoOn x))
    by None = record { streams = refl; unread = refl }
    by (Some f) = after f (is_stream f.channel x.traffic.shared.channels)

streams-leave_at : (place : ℕ) (x : Scene) → IsStreams x (leave_at place x)
streams-leave_at place x = by (try_at_place x.current.entry.flying place)
  where
    by : (one : Option SentTry) → IsStreams x (option_map_or (leaving_at place x) one x)
    by None = streams-self x
    by (Some one) = record { streams = refl; unread = refl }

streams-quits : (x : Scene) → IsStreams x (quits x)
streams-quits x = by (place_on x)
  where
    after : (y : Scene) → IsStreams x y → (closed : Option ℕ) → IsStreams x (after_quit closed y)
    after y same None = record { streams = same.streams; unread = same.unread }
    after y same (Some channel) = record { streams = same.streams; unread = same.unread }

    by : (place : Option ℕ) → IsStreams x (option_map_or (quits_at x) place (with_to_do todo.PutBack x))
    by None = record { streams = refl; unread = refl }
    by (Some place) = after (leave_at place x) (streams-leave_at place x) (closed_at place x)

streams-frees : (x : Scene) → IsStreams x (frees x)
streams-frees x = by (is_some (wanted (changed freed x.current.entry.flying.flight).transaction))
  where
    by : (wants : Bool) → IsStreams x (cond {A = Scene} wants
        (record {
          traffic = x.traffic;
          current = then_do todo.GoOn (changing (changed freed) x.current);
        })
        (record {
          traffic = record x.traffic { table = without_blocked x.current.number x.traffic.table };
          current = then_do todo.GoOn (changing (changed freed) x.current);
        }))
    by true = record { streams = refl; unread = refl }
    by false = record { streams = refl; unread = refl }

streams-freed_if : (closed : Option ℕ) (x : Scene) → IsStreams x (freed_if closed x)
streams-freed_if None x = streams-self x
streams-freed_if (Some channel) x = by (is_empty x.traffic.table.blocked)
  where
    by : (empty : Bool) → IsStreams x (record {
      traffic = cond empty x.traffic (record x.traffic { freed = min (x.traffic.freed + 1) (2 ^ 64 - 1) });
      current = x.current;
    })
    by true = streams-self x
    by false = record { streams = refl; unread = refl }

streams-doubts : (x : Scene) → IsStreams x (doubts x)
streams-doubts x = by (first_message x.traffic.inbox)
  where
    split : (m : MessageValue) (stream : Bool) → IsStreams x (record {
      traffic = record x.traffic {
        inbox = cond stream (without_message (with_failure (broken m.channel) x.traffic.inbox))
            (without_message x.traffic.inbox);
      };
      current = then_do todo.GoOn x.current;
    })
    split m true = record { streams = refl; unread = refl }
    split m false = record { streams = refl; unread = refl }

    by : (m : Option MessageValue) → IsStreams x (record {
      traffic = option_map_or (doubts_message x.traffic) m x.traffic;
      current = then_do todo.GoOn x.current;
    })
    by None = record { streams = refl; unread = refl }
    by (Some m) = split m (is_stream m.channel x.traffic.shared.channels)

streams-by : (x y z : Scene) → y ≡ z → IsStreams x z → IsStreams x y
streams-by x y z is w = subst (λ (v : Scene). IsStreams x v) (sym is) w

pub streams-done : (what : Doing) (x y : Scene) → IsDone what x y → IsStreams x y
streams-done Hears x y is =
    streams-by x y (hears x) is
    (streams-then x (hears_first x) (hears x) (streams-hears_first x)
    (streams-after_first (heard_of_first x) (hears_first x)))
streams-done Doubts x y is = streams-by x y (doubts x) is (streams-doubts x)
streams-done Stalls x y is = streams-by x y (stalls x) is (streams-stalls x)
streams-done Fails x y is = streams-by x y (fails x) is (streams-fails x)
streams-done Quits x y is = streams-by x y (quits x) is (streams-quits x)
streams-done Expires x y is = streams-by x y (expires x) is (record { streams = refl; unread = refl })
streams-done Frees x y is = streams-by x y (frees x) is (streams-frees x)
streams-done (Leaves place) x y is =
    streams-by x y (leaves place x) is
    (streams-then x (leave_at place x) (leaves place x) (streams-leave_at place x)
    (streams-freed_if (closed_at place x) (leave_at place x)))
streams-done Draws x y is = streams-by x y (draws x) is (record { streams = refl; unread = refl })
streams-done (BeginsRound place) x y is =
    streams-by x y (with_round_parts place x y.current.entry.flying) is.after (record { streams = refl; unread = refl })
streams-done GivesUp x y is = streams-by x y (gives_up x) is (record { streams = refl; unread = refl })
streams-done Blocks x y is = streams-by x y (blocks x) is (record { streams = refl; unread = refl })
streams-done Sends x y is = streams-by x y (sends x) is (record { streams = refl; unread = refl })
streams-done (Dates due) x y is = streams-by x y (dates due x) is (record { streams = refl; unread = refl })
streams-done PutsBack x y is = streams-by x y x is (streams-self x)
streams-done Refused x y is = streams-by x y x is (streams-self x)
streams-done Ends x y is = streams-by x y x is (streams-self x)
streams-done Rests x y is = streams-by x y x is (streams-self x)

-- ---- whole messages

abbrev pub IsUnread : ℕ → List ℕ → Type 0
IsUnread channel unread = list_any (eqb channel) unread ≡ true

pub record AreUnread (streams : List (ℕ × List ℕ)) (unread : List ℕ) : Type 0 where
  pub apart : Apart streams
  pub whole : (channel : ℕ) → is_some (first_on channel streams) ≡ true → IsUnread channel unread

abbrev HasWhole : Option (List ℕ) → Type 0
HasWhole o = is_some (option_and_then first_of o) ≡ true

unread-pushed : (k channel : ℕ) (us : List ℕ) → IsUnread k us → IsUnread k (us ++ channel ∷ [])
unread-pushed k channel [] h = absurd (true≢false (sym h))
unread-pushed k channel (u ∷ us) h =
    or-more (eqb k u) (list_any (eqb k) us) (list_any (eqb k) (us ++ channel ∷ [])) h (unread-pushed k channel us)

unread-own : (channel : ℕ) (us : List ℕ) → IsUnread channel (us ++ channel ∷ [])
unread-own channel [] = or-left (eqb channel channel) false (eq-eqb channel channel refl)
unread-own channel (u ∷ us) =
    or-true (eqb channel u) (list_any (eqb channel) (us ++ channel ∷ [])) (unread-own channel us)

unread-first : (channel : ℕ) (us : List ℕ) → slice_get us 0 ≡ Some channel → IsUnread channel us
unread-first channel [] h = absurd cc
unread-first channel (u ∷ us) h =
    let same : u ≡ channel = cc in
    or-left (eqb channel u) (list_any (eqb channel) us) (eq-eqb channel u (sym same))

unread-later : (k channel : ℕ) (us : List ℕ) → slice_get us 0 ≡ Some channel → (k ≡ channel → ⊥) → IsUnread k us
    → IsUnread k (drop 1 us)
unread-later k channel [] first apart h = absurd cc
unread-later k channel (u ∷ us) first apart h = by (or-split (eqb k u) (list_any (eqb k) us) h)
  where
    by : (eqb k u ≡ true) ⊎ IsUnread k us → IsUnread k us
    by (inl e) = let same : u ≡ channel = cc in absurd (apart (eqb-true k u e ∙ same))
    by (inr e) = e

-- one stream is another one, or its own
abbrev IsSameOr : ℕ → ℕ → Type 0
IsSameOr k channel = (k ≡ channel) ⊎ (is_at (nat_cmp k) channel ≡ false)

same-or : (k channel : ℕ) → IsSameOr k channel
same-or k channel = by (is_at (nat_cmp k) channel) refl
  where
    by : (b : Bool) → is_at (nat_cmp k) channel ≡ b → IsSameOr k channel
    by true is = inl (at-is k channel is)
    by false is = inr is

module _ (streams : List (ℕ × List ℕ)) (unread : List ℕ) (w : AreUnread streams unread) where
  -- more of one comes
  whole-more : (channel : ℕ) (octets : List ℕ) → AreUnread (with_octets channel octets streams) (unread ++ channel ∷ [])
  whole-more channel octets = by (octets_in channel streams) refl
    where
      found : (now : List (ℕ × List ℕ)) → ((k : ℕ) → is_at (nat_cmp k) channel ≡ false → octets_in k now ≡ octets_in k streams)
          → (k : ℕ) → is_some (first_on k now) ≡ true → IsUnread k (unread ++ channel ∷ [])
      found now others k h = split (same-or k channel)
        where
          split : IsSameOr k channel → IsUnread k (unread ++ channel ∷ [])
          split (inl same) = subst (λ (n : ℕ). IsUnread n (unread ++ channel ∷ [])) (sym same) (unread-own channel unread)
          split (inr other) =
              unread-pushed k channel unread (w.whole k (subst HasWhole (others k other) h))

      by : (held : Option (List ℕ)) → octets_in channel streams ≡ held
          → AreUnread (option_map_or (λ before. set_value (is_at (nat_cmp channel)) streams (before ++ octets)) held
          (insert_entry nat_cmp streams channel octets)) (unread ++ channel ∷ [])
      by None is = record {
        apart = apart-inserted channel octets streams is w.apart;
        whole = found (insert_entry nat_cmp streams channel octets)
            (λ k other. others-inserted k channel other octets streams);
      }
      by (Some before) is = record {
        apart = apart-set channel (before ++ octets) streams w.apart;
        whole = found (set_value (is_at (nat_cmp channel)) streams (before ++ octets))
            (λ k other. others-set k channel other (before ++ octets) streams);
      }

  -- its first message is cut off, or nothing is to be read of it
  whole-cut : (channel : ℕ) (i : InboxState) → i.streams ≡ streams → i.unread ≡ unread
      → slice_get unread 0 ≡ Some channel → AreUnread (cut_on channel i).streams (cut_on channel i).unread
  whole-cut channel i one two first = by (first_on channel i.streams) refl
    where
      by : (o : Option (List ℕ × List ℕ)) → first_on channel i.streams ≡ o
          → AreUnread (option_map_or (cut_off channel i) o (without_unread i)).streams
          (option_map_or (cut_off channel i) o (without_unread i)).unread
      by None is =
          subst (λ (ss : List (ℕ × List ℕ)). AreUnread ss (drop 1 i.unread)) (sym one)
          (subst (λ (us : List ℕ). AreUnread streams (drop 1 us)) (sym two) (record {
            apart = w.apart;
            whole = λ k h. unread-later k channel unread first (apart k h) (w.whole k h);
          }))
        where
          apart : (k : ℕ) → is_some (first_on k streams) ≡ true → k ≡ channel → ⊥
          apart k h same =
              true≢false (sym (subst (λ (n : ℕ). is_some (first_on n streams) ≡ true) same h)
              ∙ ap (λ (ss : List (ℕ × List ℕ)). is_some (first_on channel ss)) (sym one)
              ∙ ap (λ (o : Option (List ℕ × List ℕ)). is_some o) is)
      by (Some cut) is =
          subst (λ (ss : List (ℕ × List ℕ)). AreUnread (set_value (is_at (nat_cmp channel)) ss cut.1) i.unread) (sym one)
          (subst (λ (us : List ℕ). AreUnread (set_value (is_at (nat_cmp channel)) streams cut.1) us) (sym two) (record {
            apart = apart-set channel cut.1 streams w.apart;
            whole = λ k h. split k h (same-or k channel);
          }))
        where
          split : (k : ℕ) → is_some (first_on k (set_value (is_at (nat_cmp channel)) streams cut.1)) ≡ true
              → IsSameOr k channel → IsUnread k unread
          split k h (inl same) = subst (λ (n : ℕ). IsUnread n unread) (sym same) (unread-first channel unread first)
          split k h (inr other) = w.whole k (subst HasWhole (others-set k channel other cut.1 streams) h)

  -- its channel is closed
  whole-gone : (channel : ℕ) → AreUnread (remove_entry (is_at (nat_cmp channel)) streams) unread
  whole-gone channel = record {
    apart = apart-removed channel streams w.apart;
    whole = λ k h. split k h (same-or k channel);
  }
    where
      split : (k : ℕ) → is_some (first_on k (remove_entry (is_at (nat_cmp channel)) streams)) ≡ true → IsSameOr k channel
          → IsUnread k unread
      split k h (inl same) =
          let gone : octets_in k (remove_entry (is_at (nat_cmp channel)) streams) ≡ None =
          ap (λ (n : ℕ). octets_in n (remove_entry (is_at (nat_cmp channel)) streams)) same ∙ gone-removed channel streams w.apart in
          absurd (true≢false (sym (subst HasWhole gone h)))
      split k h (inr other) = w.whole k (subst HasWhole (others-removed k channel other streams) h)

-- ---- tasks

abbrev Reads : TrafficState → Type 0
Reads t = AreUnread t.inbox.streams t.inbox.unread

reads-one_freed : (u : TrafficState) → Reads u → Reads (one_freed u)
reads-one_freed u w = by (is_empty u.table.blocked)
  where
    by : (empty : Bool) → Reads (cond empty u (record u { freed = min (u.freed + 1) (2 ^ 64 - 1) }))
    by true = w
    by false = w

reads-freed_first : (u : TrafficState) → Reads u → Reads (freed_by_first u)
reads-freed_first u w = by (first_failure u.inbox)
  where
    why : (f : Failure) → Reads (freed_by f u)
    why failure.Local = w
    why failure.Refused = reads-one_freed u w
    why failure.Unreachable = reads-one_freed u w
    why failure.Closed = reads-one_freed u w

    by : (f : Option ChannelFailure) → Reads (option_map_or (λ g. freed_by g.why u) f u)
    by None = w
    by (Some f) = why f.why

reads-task : (t : TrafficState) (what : Task) → Why t what → Reads t → Reads (after_task what t)
reads-task t task.Opens why w = w
reads-task t task.Writes why w = w
reads-task t task.Doubts why w = by (first_message t.inbox)
  where
    split : (m : MessageValue) (stream : Bool) → Reads (record t {
      inbox = cond stream (without_message (with_failure (broken m.channel) t.inbox)) (without_message t.inbox);
    })
    split m true = w
    split m false = w

    by : (m : Option MessageValue) → Reads (option_map_or (doubts_message t) m t)
    by None = w
    by (Some m) = split m (is_stream m.channel t.shared.channels)
reads-task t task.PassesBy why w = w
reads-task t (task.Cuts channel) why w =
    whole-cut t.inbox.streams t.inbox.unread w channel t.inbox refl refl why
reads-task t (task.ClosesFailed channel) why w =
    reads-freed_first (closed channel t) (whole-gone t.inbox.streams t.inbox.unread w channel)
reads-task t task.DropsFailure why w = w
reads-task t (task.TakesReady n) why w = w
reads-task t (task.TakesUp n to_do) why w = w
reads-task t (task.Undates due n) why w = w
reads-task t (task.Strays n) why w = w
reads-task t (task.Unblocks n) why w = w
reads-task t (task.ClosesIdle channel) why w =
    reads-one_freed (closed channel t) (whole-gone t.inbox.streams t.inbox.unread w channel)
reads-task t task.Admits why w = by (to_admit t.askers)
  where
    by : (first : Option (ℕ × WaitingValue)) → Reads
        (option_map_or (λ f. without_taken f.0 (record t { askers = ask.admitted t.askers })) first t)
    by None = w
    by (Some f) = w

-- ---- steps and events

reads-of : (t u : TrafficState) → t.inbox ≡ u.inbox → Reads u → Reads t
reads-of t u same w = subst (λ (i : InboxState). AreUnread i.streams i.unread) (sym same) w

put-inbox : (what : Doing) (c : CurrentState) (s : PoolState) → (put_by what c s).traffic.inbox ≡ s.traffic.inbox
put-inbox Hears c s = refl
put-inbox Doubts c s = refl
put-inbox Stalls c s = refl
put-inbox Fails c s = refl
put-inbox Quits c s = refl
put-inbox PutsBack c s = refl
put-inbox Expires c s = refl
put-inbox Frees c s = refl
put-inbox Refused c s = refl
put-inbox (Leaves place) c s = refl
put-inbox Ends c s = refl
put-inbox Draws c s = refl
put-inbox (BeginsRound place) c s = refl
put-inbox GivesUp c s = refl
put-inbox Blocks c s = refl
put-inbox Sends c s = refl
put-inbox (Dates due) c s = refl
put-inbox Rests c s = refl

reads-step : (s t : PoolState) → IsStep s t → Reads s.traffic → Reads t.traffic
reads-step s t (goes_out o out current traffic is) w =
    reads-of t.traffic s.traffic (ap (λ (u : TrafficState). u.inbox) traffic) w
reads-step s t (begins calm none is) w =
    reads-of t.traffic (after_task (task_of s.traffic) s.traffic) (ap (λ (u : PoolState). u.traffic.inbox) is)
    (reads-task s.traffic (task_of s.traffic) (why-task s.traffic calm) w)
reads-step s t (does c after calm works at is) w =
    let same = streams-done (doing c s.traffic) (scene_of s c) (record { traffic = t.traffic; current = after }) is in
    subst (λ (us : List ℕ). AreUnread t.traffic.inbox.streams us) (sym same.unread)
    (subst (λ (ss : List (ℕ × List ℕ)). AreUnread ss s.traffic.inbox.unread) (sym same.streams) w)
reads-step s t (puts c calm works p is) w =
    reads-of t.traffic s.traffic
    (ap (λ (u : PoolState). u.traffic.inbox) is ∙ put-inbox (doing c s.traffic) c s) w
reads-step s t (ends c calm works e is) w =
    reads-of t.traffic s.traffic (ap (λ (u : PoolState). u.traffic.inbox) is) w

inbox-asked : (key : AskedOf) (settings : Settings) (at : ℕ) (s : PoolState)
    → (ask_of key settings at s).traffic.inbox ≡ s.traffic.inbox
inbox-asked key settings at s = by (joiner_of key s)
  where
    joined-one : (n : ℕ) (a : Option Asker) → (option_map_or
        (λ b. ticked at (record s.traffic { askers = ask.joined n s.traffic.askers })) a s.traffic).inbox ≡ s.traffic.inbox
    joined-one n None = refl
    joined-one n (Some a) = refl

    joins : (n : Option ℕ) → (option_map_or (join_in at s) n s).traffic.inbox ≡ s.traffic.inbox
    joins None = refl
    joins (Some n) = joined-one n (joiner n s.traffic.askers)

    place : (p : Place) (l : GroupListState)
        → (begun_as p (entry_of key.0 key.1 settings l) key.0 at s.traffic).inbox ≡ s.traffic.inbox
    place Overloaded l = refl
    place InFlight l = refl
    place Waits l = refl

    enters : (l : Option GroupListState)
        → (option_map_or (begun_with key.0 key.1 settings at s.traffic) l (ticked at s.traffic)).inbox ≡ s.traffic.inbox
    enters None = refl
    enters (Some l) = place (place_for s.traffic.askers) l

    by : (a : Option Asker) → (join_or_begin a key settings at s).traffic.inbox ≡ s.traffic.inbox
    by None = enters (list_at key.0 s.traffic.groups)
    by (Some a) = joins (pool.number_of key s.questions)

reads-asks : (list : Option ℕ) (question : PoolQuestion) (settings : Settings) (at : ℕ) (s : PoolState) → Reads s.traffic
    → Reads (after_asking list question settings at s).traffic
reads-asks None question settings at s w = w
reads-asks (Some list) question settings at s w =
    reads-of (ask_of (list, question) settings at s).traffic s.traffic (inbox-asked (list, question) settings at s) w

reads-came : (channel : ℕ) (octets : List ℕ) (at : ℕ) (t : TrafficState) → Reads t → Reads (came channel octets at t)
reads-came channel octets at t w = by (channel_at channel t.shared.channels)
  where
    kind : (k : ChannelKind) → AreUnread (taken_in k channel octets t.inbox).streams (taken_in k channel octets t.inbox).unread
    kind Datagram = record { apart = w.apart; whole = w.whole }
    kind Stream = whole-more t.inbox.streams t.inbox.unread w channel octets

    by : (c : Option Channel) → Reads (ticked at (option_map_or (came_on channel octets t) c t))
    by None = w
    by (Some c) = kind c.kind

reads-failed : (f : ChannelFailure) (at : ℕ) (t : TrafficState) → Reads t → Reads (failed f at t)
reads-failed f at t w = by (channel_at f.channel t.shared.channels)
  where
    by : (c : Option Channel) → Reads (ticked at (option_map_or (failed_on f t) c t))
    by None = w
    by (Some c) = w

reads-event : (s : PoolState) (e : PoolEvent) → Reads s.traffic → Reads (after_event s e).traffic
reads-event s (time_passes at) w = w
reads-event s (group_has group servers) w = w
reads-event s (is_asked group query options dnssec at) w =
    reads-asks (list_of group s.traffic) (question_of query options dnssec) (settings_for s.options options) at s w
reads-event s (octets_come channel octets at) w = reads-came channel octets at s.traffic w
reads-event s (channel_fails f at) w = reads-failed f at s.traffic w
reads-event s (is_forgotten a) w = w

pub reads-runs : (start : PoolState) (past : List Happening) (s : PoolState) → Reads start.traffic → Runs start past s
    → Reads s.traffic
reads-runs start _ _ w at_first = w
reads-runs start _ _ w (by_event past s e more) = reads-event s e (reads-runs start past s w more)
reads-runs start _ _ w (by_step past s after r is more) =
    reads-step s after (step-is s after r is) (reads-runs start past s w more)

-- ---- at rest

nothing-first : {A : Type 0} (xs : List A) → slice_get xs 0 ≡ None → xs ≡ []
nothing-first [] e = refl
nothing-first (x ∷ xs) e = absurd cc

short-of : (octets : List ℕ) → AllByRecursion (λ o. o < 256) octets → first_of octets ≡ None → length octets < 2 ^ 16 + 1
short-of [] all e = omega arith
short-of (high ∷ []) all e = omega arith
short-of (high ∷ low ∷ octets) all e = by (ltb (length octets) (high * 256 + low)) refl e
  where
    by : (b : Bool) → ltb (length octets) (high * 256 + low) ≡ b
        → cond {A = Option (List ℕ × List ℕ)} b None (Some (take (high * 256 + low) octets, drop (high * 256 + low) octets)) ≡ None
        → suc (suc (length octets)) < 2 ^ 16 + 1
    by true is h =
        let less = ltb-true (length octets) (high * 256 + low) is in
        let one : high < 256 = all.0 in
        let two : low < 256 = all.1.0 in
        omega (arith, less, one, two)
    by false is h = absurd cc

pub all_is_read_at_rest : AllIsReadAtRest
all_is_read_at_rest options limits seed past s after runs steps =
    let nothing = nothing-left s after steps in
    let reads = reads-runs (no_servers options limits seed) past s (record { apart = tt; whole = λ k h. absurd (true≢false (sym h)) }) runs in
    let unread = nothing-first s.traffic.inbox.unread nothing.unread in
    record {
      messages = nothing-first s.traffic.inbox.messages nothing.message;
      failures = nothing-first s.traffic.inbox.failures nothing.failure;
      unread = unread;
      streams = λ channel octets is.
          let none : first_of octets ≡ None = whole channel octets is unread reads in
          record { none_whole = none; bound = λ all. short-of octets all none };
    }
  where
    none-of : {A : Type 0} (o : Option A) → (is_some o ≡ true → ⊥) → o ≡ None
    none-of None never = refl
    none-of (Some a) never = absurd (never refl)

    whole : (channel : ℕ) (octets : List ℕ) → octets_in channel s.traffic.inbox.streams ≡ Some octets
        → s.traffic.inbox.unread ≡ [] → Reads s.traffic → first_of octets ≡ None
    whole channel octets is none reads =
        none-of (first_of octets) (λ h. true≢false (sym (subst (λ (us : List ℕ). IsUnread channel us) none
        (reads.whole channel (subst HasWhole (sym is) h)))))
