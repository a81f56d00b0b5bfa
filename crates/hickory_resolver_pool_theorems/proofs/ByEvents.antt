-- What each event of a transaction keeps, all that is done with it keeps: time passes for it up to moments that were told.
use Rattle.std.proofs.Common.{◌≡◌, ◌≤◌, ℕ, Bool, true, false, cond, List, [], sym, subst}
use Rattle.std.specs.Prelude.{Option, None, Some}
use Rattle.std.specs.Option.{is_some, option_map_or}
use Rattle.hickory_resolver_channels.specs.Channels.{number_given}
use Rattle.hickory_resolver_channels.specs.Draws.{try_drawn}
use Rattle.hickory_resolver_channels.specs.declared.channel.ChannelKind.{ChannelKind}
use Rattle.hickory_resolver_flights.specs.Flights.{FlightState, heard, heard_as, heard_by, changed}
use Rattle.hickory_resolver_flights.specs.declared.heard.Heard.{Heard}
use Rattle.hickory_resolver_flights.specs.declared.heard.Heard.TheVariants as what_is
use Rattle.hickory_resolver_steps.specs.Ending.{try_at_place}
use Rattle.hickory_resolver_steps.specs.Steps.{Parts, FlyingState, made_on, sent_on, sent_to, sent_as, stream_in, kind_of}
use Rattle.hickory_resolver_steps.specs.Steps as steps
use Rattle.hickory_resolver_steps.specs.declared.flying.SentTry.{SentTry}
use Rattle.hickory_resolver_steps.specs.declared.flying.Step.{Step}
use Rattle.hickory_resolver_tries.specs.Belief.{belief_of}
use Rattle.hickory_resolver_tries.specs.declared.belief.Belief.{Belief}
use Rattle.hickory_resolver_tries.specs.declared.belief.Belief.TheVariants as belief
use Rattle.hickory_resolver_tries.specs.Outcome.{outcome_of}
use Rattle.hickory_resolver_transactions.specs.Laws.{TransactionEvent, round_begins, is_sent, has_no_room, reply_came, opt_refused, letters_differ, channel_failed, no_channel, channel_free, oldest_given_up, time_passed, after_event}
use Rattle.hickory_resolver_transactions.specs.Transaction.{TransactionState, freed, wanted, try_at}
use Rattle.hickory_resolver_transactions.specs.declared.candidate.Try.{Try}
use Rattle.hickory_resolver_transactions.specs.declared.transaction.Wanted.{Wanted}
use Rattle.hickory_resolver_traffic.specs.Acting.{Acted, acted_on, acted_with, parts_of, step_of}
use Rattle.hickory_resolver_traffic.specs.Acting as acting
use Rattle.hickory_resolver_traffic.specs.Doing.{Scene, IsDone, hear_of, hears_octets, after_first, heard_of_first, hears_first, hears, doubts, fails_on, after_failed, fails, act_on, before_act, moment_of, stalls_on, stalls, leaving_at, leave_at, closed_at, freed_if, leaves, quits_at, after_quit, quits, place_on, with_to_do, expires, frees, then_do, changing, draws, gives_up, blocks, sends, dates, BeginsWith, round_of, is_stream}
use Rattle.hickory_resolver_traffic.specs.Groups.{GroupListState, list_in, list_at}
use Rattle.hickory_resolver_traffic.specs.Inbox.{MessageValue, first_message, first_failure}
use Rattle.hickory_resolver_traffic.specs.Table.{without_blocked}
use Rattle.hickory_resolver_traffic.specs.declared.acting.Moment.{Moment}
use Rattle.hickory_resolver_traffic.specs.declared.acting.ServerAct.{ServerAct}
use Rattle.hickory_resolver_traffic.specs.declared.acting.ServerAct.TheVariants as act
use Rattle.hickory_resolver_traffic.specs.declared.doing.Doing.{Doing}
use Rattle.hickory_resolver_traffic.specs.declared.doing.Doing.TheVariants.{Hears, Doubts, Stalls, Fails, Quits, PutsBack, Expires, Frees, Refused, Leaves as Left, Ends as Ended, Draws, BeginsRound, GivesUp, Blocks, Sends, Dates, Rests as Waits}
use Rattle.hickory_resolver_traffic.specs.declared.entry.ToDo.TheVariants as todo
use Rattle.hickory_resolver_traffic.specs.declared.inbox.ChannelFailure.{ChannelFailure}
use Rattle.hickory_resolver_pool_theorems.specs.Causes.{PassesToldTime}

module _ (P : TransactionState → Type 0) (latest : ℕ)
    (keeps : (t : TransactionState) (e : TransactionEvent) → PassesToldTime latest e → P t → P (after_event t e)) where
  -- ---- of a question in flight

  abbrev In : FlightState → FlightState → Type 0
  In f g = P f.transaction → P g.transaction

  keeps-heard : (f : FlightState) (channel id : ℕ) (octets : List ℕ) → In f (heard channel id octets f)
  keeps-heard f channel id octets p = by (try_at channel id f.transaction)
    where
      one : (b : Belief) (t : Try) → P (heard_as b channel id t octets f).transaction
      one belief.Believed t = keeps f.transaction (reply_came channel id (outcome_of f.question t.form octets) f.replies) tt p
      one belief.OtherLetters t = keeps f.transaction (letters_differ channel id) tt p
      one belief.OptRefused t = keeps f.transaction (opt_refused channel id) tt p
      one belief.NotBelieved t = p

      by : (t : Option Try) → P (option_map_or (heard_by channel id octets f) t f).transaction
      by None = p
      by (Some t) = one (belief_of f.question t.form octets) t

  abbrev Of : FlyingState → FlyingState → Type 0
  Of f g = In f.flight g.flight

  keeps-out : (step : Step) (p : Parts) → Of p.flying (steps.sent step p).flying
  keeps-out step p h = by (wanted p.flying.flight.transaction)
    where
      on : (kind : ChannelKind) (place : ℕ) (channel : Option ℕ) → P (sent_on step kind place p channel).flying.flight.transaction
      on kind place None = keeps p.flying.flight.transaction (has_no_room step.until) tt h
      on kind place (Some channel) = keeps p.flying.flight.transaction (is_sent (made_on channel (try_drawn p.shared.draws) step.moment)) tt h

      to : (kind : ChannelKind) (place : ℕ) (stream : Option ℕ) → P (sent_to step kind place p stream).flying.flight.transaction
      to kind place (Some channel) = keeps p.flying.flight.transaction (is_sent (made_on channel (try_drawn p.shared.draws) step.moment)) tt h
      to kind place None = on kind place (number_given p.shared.channels)

      by : (w : Option Wanted) → P (option_map_or (sent_as step p) w p).flying.flight.transaction
      by None = h
      by (Some w) = to (kind_of w.way.transport) w.place (stream_in (kind_of w.way.transport) w.place p)

  keeps-parts : (what : ServerAct) (n : ℕ) (m : Moment) (octets : List ℕ) (p : Parts) → m.clock ≤ latest
      → Of p.flying (acting.acted what n m octets p).flying
  keeps-parts (act.Hear channel id) n m octets p told = keeps-heard p.flying.flight channel id octets
  keeps-parts (act.Fail channel) n m octets p told = keeps p.flying.flight.transaction (channel_failed channel) tt
  keeps-parts act.Expire n m octets p told = keeps p.flying.flight.transaction (time_passed m.clock) told
  keeps-parts act.Send n m octets p told = keeps-out (step_of n m) p

  -- ---- whatever is done

  abbrev At : Scene → Scene → Type 0
  At x y = Of x.current.entry.flying y.current.entry.flying

  keeps-act : (what : ServerAct) (octets : List ℕ) (x : Scene) → x.traffic.clock ≤ latest → At x (act_on what octets x)
  keeps-act what octets x told h = by (list_in x.current.entry.asked.0 x.traffic.groups.lists)
    where
      by : (l : Option GroupListState) → P
          (option_map_or (acted_with what x.current.number (moment_of x.traffic) octets x.current.entry.asked.0 (before_act x)) l
          (before_act x)).flying.flight.transaction
      by None = h
      by (Some l) =
          keeps-parts what x.current.number (moment_of x.traffic) octets (parts_of x.traffic.shared x.current.entry.flying l) told h

  keeps-hears : (x : Scene) → x.traffic.clock ≤ latest → At x (hears x)
  keeps-hears x told h = after (heard_of_first x) (by (first_message x.traffic.inbox))
    where
      after : (heard : Option Heard) → P (hears_first x).current.entry.flying.flight.transaction
          → P (after_first heard (hears_first x)).current.entry.flying.flight.transaction
      after None k = k
      after (Some what_is.Nothing) k = k
      after (Some what_is.OtherLetters) k = k
      after (Some what_is.OptRefused) k = k
      after (Some (what_is.Reply outcome)) k = k

      by : (m : Option MessageValue) → P (option_map_or (hears_octets x) m x).current.entry.flying.flight.transaction
      by None = h
      by (Some m) = keeps-act (hear_of m) m.octets x told h

  keeps-fails : (x : Scene) → x.traffic.clock ≤ latest → At x (fails x)
  keeps-fails x told h = by (first_failure x.traffic.inbox)
    where
      after : (f : ChannelFailure) (stream : Bool)
          → P (after_failed stream (act_on (act.Fail f.channel) [] x)).current.entry.flying.flight.transaction
      after f true = keeps-act (act.Fail f.channel) [] x told h
      after f false = keeps-act (act.Fail f.channel) [] x told h

      by : (f : Option ChannelFailure)
          → P (option_map_or (fails_on x) f (with_to_do todo.GoOn x)).current.entry.flying.flight.transaction
      by None = h
      by (Some f) = after f (is_stream f.channel x.traffic.shared.channels)

  keeps-stalls : (x : Scene) → At x (stalls x)
  keeps-stalls x h = by (first_failure x.traffic.inbox)
    where
      by : (f : Option ChannelFailure)
          → P (option_map_or (stalls_on x) f (with_to_do todo.GoOn x)).current.entry.flying.flight.transaction
      by None = h
      by (Some f) = keeps x.current.entry.flying.flight.transaction (no_channel f.channel) tt h

  keeps-leave_at : (place : ℕ) (x : Scene) → At x (leave_at place x)
  keeps-leave_at place x h = by (try_at_place x.current.entry.flying place)
    where
      by : (one : Option SentTry) → P (option_map_or (leaving_at place x) one x).current.entry.flying.flight.transaction
      by None = h
      by (Some one) = h

  keeps-leaves : (place : ℕ) (x : Scene) → At x (leaves place x)
  keeps-leaves place x h = by (closed_at place x)
    where
      by : (closed : Option ℕ) → P (freed_if closed (leave_at place x)).current.entry.flying.flight.transaction
      by None = keeps-leave_at place x h
      by (Some channel) = keeps-leave_at place x h

  keeps-quits : (x : Scene) → At x (quits x)
  keeps-quits x h = by (place_on x)
    where
      after : (place : ℕ) (closed : Option ℕ) → P (after_quit closed (leave_at place x)).current.entry.flying.flight.transaction
      after place None = keeps-leave_at place x h
      after place (Some channel) = keeps-leave_at place x h

      by : (place : Option ℕ)
          → P (option_map_or (quits_at x) place (with_to_do todo.PutBack x)).current.entry.flying.flight.transaction
      by None = h
      by (Some place) = after place (closed_at place x)

  keeps-frees : (x : Scene) → At x (frees x)
  keeps-frees x h = by (is_some (wanted (changed freed x.current.entry.flying.flight).transaction))
    where
      by : (wants : Bool) → P (cond {A = Scene} wants
          (record {
            traffic = x.traffic;
            current = then_do todo.GoOn (changing (changed freed) x.current);
          })
          (record {
            traffic = record x.traffic { table = without_blocked x.current.number x.traffic.table };
            current = then_do todo.GoOn (changing (changed freed) x.current);
          })).current.entry.flying.flight.transaction
      by true = keeps x.current.entry.flying.flight.transaction channel_free tt h
      by false = keeps x.current.entry.flying.flight.transaction channel_free tt h

  keeps-begins : (place : ℕ) (x : Scene) (f : FlyingState) (l : Option GroupListState)
      → BeginsWith x.traffic.rules.strategy (round_of place x) l x.current.entry.flying f → Of x.current.entry.flying f
  keeps-begins place x f None is h = subst (λ (g : FlyingState). P g.flight.transaction) (sym is) h
  keeps-begins place x f (Some l) is h =
      subst (λ (g : FlyingState). P g.flight.transaction) (sym is.begun)
      (keeps x.current.entry.flying.flight.transaction (round_begins is.order) tt h)

  at-by : (x y z : Scene) → y ≡ z → At x z → At x y
  at-by x y z is same h = subst (λ (v : Scene). P v.current.entry.flying.flight.transaction) (sym is) (same h)

  pub keeps-done : (what : Doing) (x y : Scene) → x.traffic.clock ≤ latest → IsDone what x y → P x.current.entry.flying.flight.transaction
      → P y.current.entry.flying.flight.transaction
  keeps-done Hears x y told is = at-by x y (hears x) is (keeps-hears x told)
  keeps-done Doubts x y told is = at-by x y (doubts x) is (λ h. h)
  keeps-done Stalls x y told is = at-by x y (stalls x) is (keeps-stalls x)
  keeps-done Fails x y told is = at-by x y (fails x) is (keeps-fails x told)
  keeps-done Quits x y told is = at-by x y (quits x) is (keeps-quits x)
  keeps-done Expires x y told is = at-by x y (expires x) is (keeps-act act.Expire [] x told)
  keeps-done Frees x y told is = at-by x y (frees x) is (keeps-frees x)
  keeps-done (Left place) x y told is = at-by x y (leaves place x) is (keeps-leaves place x)
  keeps-done Draws x y told is = at-by x y (draws x) is (λ h. h)
  keeps-done (BeginsRound place) x y told is =
      keeps-begins place x y.current.entry.flying (list_at x.current.entry.asked.0 x.traffic.groups) is.begins
  keeps-done GivesUp x y told is =
      at-by x y (gives_up x) is (λ h. keeps x.current.entry.flying.flight.transaction oldest_given_up tt h)
  keeps-done Blocks x y told is = at-by x y (blocks x) is (λ h. h)
  keeps-done Sends x y told is = at-by x y (sends x) is (keeps-act act.Send [] x told)
  keeps-done (Dates due) x y told is = at-by x y (dates due x) is (λ h. h)
  keeps-done PutsBack x y told is = at-by x y x is (λ h. h)
  keeps-done Refused x y told is = at-by x y x is (λ h. h)
  keeps-done Ended x y told is = at-by x y x is (λ h. h)
  keeps-done Waits x y told is = at-by x y x is (λ h. h)
