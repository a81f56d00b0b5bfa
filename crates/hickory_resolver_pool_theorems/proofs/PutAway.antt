-- The transaction that is worked on is put away, or over, after finitely many steps.
use Rattle.std.proofs.Common.{◌≡◌, ◌≤◌, ◌<◌, ◌+◌, ◌-◌, ◌*◌, ◌^◌, min, suc, zero, ℕ, Bool, true, false, cond, ◌&&◌, eq-eqb, List, [], ◌∷◌, length, refl, ap, sym, subst, ◌∙◌, true≢false, arith, leb, leb-true, ltb, ltb-true}
use Rattle.std.specs.Prelude.{Option, None, Some, IfSome, slice_get}
use Rattle.std.specs.Ordering.{nat_cmp}
use Rattle.std.specs.List.{AllByRecursion, list_any, position_or_len}
use Rattle.std.specs.Option.{is_some, is_none, option_map, option_map_or, option_and_then}
use Rattle.std.proofs.lemmas.List.Edits.{length-remove}
use Rattle.std.proofs.lemmas.Option.{slice_get_within}
use Rattle.hickory_resolver_channels.specs.Channels.{number_given, has_place}
use Rattle.hickory_resolver_channels.specs.Draws.{try_drawn}
use Rattle.hickory_resolver_channels.specs.declared.channel.ChannelKind.{ChannelKind}
use Rattle.hickory_resolver_config.specs.ResolverConfig.{OptionsValue}
use Rattle.hickory_resolver_flights.specs.Flights.{changed}
use Rattle.hickory_resolver_flights.specs.declared.heard.Heard.{Heard}
use Rattle.hickory_resolver_flights.specs.declared.heard.Heard.TheVariants.{Nothing, OtherLetters, OptRefused, Reply}
use Rattle.hickory_resolver_steps.specs.Ending.{first_done, try_at_place, is_done}
use Rattle.hickory_resolver_steps.specs.Steps.{Parts, FlyingState, SendingValue, kind_of, stream_in, sent_on_open, sent_on_new, without_channel, with_sent, sent_on, sent_to, sent_as, out_on, out_to, out_as, out, made_on}
use Rattle.hickory_resolver_steps.specs.declared.flying.SentTry.{SentTry}
use Rattle.hickory_resolver_steps.specs.declared.flying.Step.{Step}
use Rattle.hickory_resolver_transactions.specs.Candidates.{is_tried}
use Rattle.hickory_resolver_transactions.specs.Laws.{IsWithinSends}
use Rattle.hickory_resolver_transactions.specs.Transaction.{TransactionState, wanted, wants_round, may_go_on, is_idle, has_late, next_deadline, expired}
use Rattle.hickory_resolver_transactions.specs.Transaction as transaction
use Rattle.hickory_resolver_transactions.specs.declared.transaction.Wanted.{Wanted}
use Rattle.hickory_resolver_traffic.specs.Acting.{acted_with, acted_to, value_with, nothing_acted, parts_of, step_of}
use Rattle.hickory_resolver_traffic.specs.Doing.{Scene, IsDone, doing, doing_for, going_on, is_ending, is_due, runs_out, is_empty, forward, round_or_place, sends_or_blocks, at_rest, same_moment, by_failure, leave_at, leaving_at, closed_at, freed_if, leaves, expires, act_on, before_act, with_acted, moment_of, draws, gives_up, blocks, sends, with_outgoing, outgoing_of, dates, with_round_parts, in_order_of, BeginsRoundIn, BeginsWith, round_of, hears, hears_first, heard_of_first, after_first, doubts, stalls, stalls_on, fails, fails_on, after_failed, quits, quits_at, after_quit, place_on, with_to_do, frees, then_do, changing, is_stream}
use Rattle.hickory_resolver_traffic.specs.Groups.{GroupListState, list_in, list_at}
use Rattle.hickory_resolver_traffic.specs.Inbox.{first_failure, is_read}
use Rattle.hickory_resolver_traffic.specs.Table.{CurrentState, EntryState, is_blocked, without_blocked}
use Rattle.hickory_resolver_traffic.specs.Tasks.{opened_outgoing, after_task}
use Rattle.hickory_resolver_traffic.specs.Traffic.{TrafficState, OutgoingValue}
use Rattle.hickory_resolver_traffic.specs.declared.acting.ServerAct.TheVariants.{Fail, Expire, Send}
use Rattle.hickory_resolver_traffic.specs.declared.doing.Doing.{Doing}
use Rattle.hickory_resolver_traffic.specs.declared.doing.Doing.TheVariants.{Hears, Doubts, Stalls, Fails, Quits, PutsBack, Expires, Frees, Refused, Leaves, Ends, Draws, BeginsRound, GivesUp, Blocks, Sends, Dates, Rests}
use Rattle.hickory_resolver_traffic.specs.declared.entry.ToDo.{ToDo}
use Rattle.hickory_resolver_traffic.specs.declared.entry.ToDo.TheVariants as todo
use Rattle.hickory_resolver_traffic.specs.declared.inbox.ChannelFailure.{ChannelFailure}
use Rattle.hickory_resolver_traffic.specs.declared.inbox.Failure.{Failure}
use Rattle.hickory_resolver_traffic.specs.declared.inbox.Failure.TheVariants as failure
use Rattle.hickory_resolver_traffic.specs.declared.tasks.Task.TheVariants as task
use Rattle.hickory_resolver_pool.specs.Pool.{PoolState, no_servers, IsDoneTo, scene_of, is_end, is_put, StepsBy, StepsIn, StepsAs, Steps}
use Rattle.hickory_resolver_pool.specs.declared.limits.PoolLimits.{PoolLimits}
use Rattle.hickory_resolver_pool.specs.declared.pool.Action.{Action}
use Rattle.hickory_resolver_pool_theorems.specs.Causes.{IsBoundedBy}
use Rattle.hickory_resolver_pool_theorems.specs.Agreement.{in_hand}
use Rattle.hickory_resolver_pool_theorems.specs.Rest.{IsPutAway, none_in_hand, goes_on, EachIsPutAway}
use Rattle.hickory_resolver_pool_theorems.specs.Runs.{Happening, did, Runs, by_step}
use Rattle.hickory_resolver_pool_theorems.specs.Ticks.{one_if}
use Rattle.hickory_resolver_pool_theorems.proofs.Askings.{put-is}
use Rattle.hickory_resolver_pool_theorems.proofs.Budgets.{budget, length-pushed, budget-given_up, budget-round, budget-sent, budget-unsent, budget-expired}
use Rattle.hickory_resolver_pool_theorems.proofs.Keys.{nat-self, at-is}
use Rattle.hickory_resolver_pool_theorems.proofs.KeySets.{in-inserted}
use Rattle.hickory_resolver_pool_theorems.proofs.Listed.{Kept, listed-runs, listed-step, listed-there}
use Rattle.hickory_resolver_pool_theorems.proofs.Servers.{HasPlaces, has-places}
use Rattle.hickory_resolver_pool_theorems.proofs.Shapes.{IsStep, goes_out, begins, does, puts, ends, step-is}
use Rattle.hickory_resolver_pool_theorems.proofs.Traces.{SentIn, holds-runs, holds-first}
use Rattle.hickory_resolver_pool_theorems.proofs.Pools.{IsCurrent}
use Rattle.hickory_resolver_pool_theorems.proofs.Unanswered.{transactions_stay_bounded}

-- ---- why it goes on so

abbrev pub WhyGo : EntryState → ℕ → TrafficState → Doing → Type 0
WhyGo e n t (Leaves place) = is_some (try_at_place e.flying place) ≡ true
WhyGo e n t Expires = is_due e t ≡ true
WhyGo e n t Draws = e.place ≡ None
WhyGo e n t (BeginsRound place) = wants_round e.flying.flight.transaction ≡ true
WhyGo e n t GivesUp = has_late e.flying.flight.transaction ≡ true
WhyGo e n t Blocks =
    (has_place t.shared.channels ≡ false) × (is_blocked n t.table ≡ false)
    × (is_some (wanted e.flying.flight.transaction) ≡ true)
WhyGo e n t Sends = is_some (wanted e.flying.flight.transaction) ≡ true
WhyGo e n t (Dates due) =
    (same_moment due e.due ≡ false) × (due ≡ next_deadline e.flying.flight.transaction)
WhyGo e n t Ends = Unit {0}
WhyGo e n t Rests =
    (same_moment (next_deadline e.flying.flight.transaction) e.due ≡ true) × (is_ending n e.flying t ≡ false)
    × (wants_round e.flying.flight.transaction ≡ false) × (is_some (wanted e.flying.flight.transaction) ≡ false)
WhyGo e n t other = ⊥

module _ (e : EntryState) (n : ℕ) (t : TrafficState) where
  abbrev tr : TransactionState
  tr = e.flying.flight.transaction

  why-rest : is_ending n e.flying t ≡ false → wants_round tr ≡ false → is_some (wanted tr) ≡ false
      → WhyGo e n t (at_rest e)
  why-rest lives no_round no_want = by (same_moment (next_deadline tr) e.due) refl
    where
      by : (b : Bool) → same_moment (next_deadline tr) e.due ≡ b
          → WhyGo e n t (cond b Rests (Dates (next_deadline tr)))
      by true is = (is, lives, no_round, no_want)
      by false is = (is, refl)

  why-sends : is_some (wanted tr) ≡ true → WhyGo e n t (sends_or_blocks n tr t)
  why-sends wants = place (has_place t.shared.channels) refl
    where
      noted : has_place t.shared.channels ≡ false → (b : Bool) → is_blocked n t.table ≡ b → WhyGo e n t (cond b Sends Blocks)
      noted full true is = wants
      noted full false is = (full, is, wants)

      late : has_place t.shared.channels ≡ false → (b : Bool) → has_late tr ≡ b
          → WhyGo e n t (cond b GivesUp (cond (is_blocked n t.table) Sends Blocks))
      late full true is = is
      late full false is = noted full (is_blocked n t.table) refl

      place : (b : Bool) → has_place t.shared.channels ≡ b
          → WhyGo e n t (cond b Sends (cond (has_late tr) GivesUp (cond (is_blocked n t.table) Sends Blocks)))
      place true is = wants
      place false is = late is (has_late tr) refl

  why-forward : is_ending n e.flying t ≡ false → WhyGo e n t (forward n e t)
  why-forward lives = by (wants_round tr) refl
    where
      place : wants_round tr ≡ true → (o : Option ℕ) → e.place ≡ o → WhyGo e n t (option_map_or BeginsRound o Draws)
      place wants None is = is
      place wants (Some p) is = wants

      send : wants_round tr ≡ false → (b : Bool) → is_some (wanted tr) ≡ b
          → WhyGo e n t (cond b (sends_or_blocks n tr t) (at_rest e))
      send no_round true is = why-sends is
      send no_round false is = why-rest lives no_round is

      by : (b : Bool) → wants_round tr ≡ b
          → WhyGo e n t (cond b (round_or_place e) (cond (is_some (wanted tr)) (sends_or_blocks n tr t) (at_rest e)))
      by true is = place is e.place refl
      by false is = send is (is_some (wanted tr)) refl

  some-within : (xs : List SentTry) (i : ℕ) → i < length xs → is_some (slice_get xs i) ≡ true
  some-within [] i less = absurd (omega (arith, less))
  some-within (x ∷ xs) zero less = refl
  some-within (x ∷ xs) (suc i) less = some-within xs i (omega (arith, less))

  found-there : (xs : List SentTry) (i n : ℕ) (b : Bool) → ltb n (length xs) ≡ b → cond b (Some n) None ≡ Some i
      → is_some (slice_get xs i) ≡ true
  found-there xs i n true is h =
      let same : n ≡ i = cc in
      let less = ltb-true n (length xs) is in some-within xs i (omega (arith, less, same))
  found-there xs i n false is h = absurd cc

  pub why-going : WhyGo e n t (going_on n e t)
  why-going = by (is_ending n e.flying t) refl
    where
      all_left : (ts : List SentTry) → e.flying.tries ≡ ts → WhyGo e n t (cond (is_empty ts) Ends (Leaves 0))
      all_left [] is = tt
      all_left (x ∷ xs) is = ap (λ (ts : List SentTry). is_some (slice_get ts 0)) is

      done : is_ending n e.flying t ≡ false → (o : Option ℕ) → first_done e.flying ≡ o
          → WhyGo e n t (option_map_or Leaves o (forward n e t))
      done lives None is = why-forward lives
      done lives (Some place) is =
          found-there e.flying.tries place (position_or_len (is_done tr) e.flying.tries)
          (ltb (position_or_len (is_done tr) e.flying.tries) (length e.flying.tries)) refl is

      past : (read late : Bool) → (read && late) ≡ true → late ≡ true
      past true late h = h
      past false late h = absurd (true≢false (sym h))

      due : is_ending n e.flying t ≡ false → (b : Bool) → runs_out e t ≡ b
          → WhyGo e n t (cond b Expires (option_map_or Leaves (first_done e.flying) (forward n e t)))
      due lives true is = past (is_read t.inbox) (is_due e t) is
      due lives false is = done lives (first_done e.flying) refl

      by : (b : Bool) → is_ending n e.flying t ≡ b → WhyGo e n t (cond b (cond (is_empty e.flying.tries) Ends (Leaves 0))
          (cond (runs_out e t) Expires (option_map_or Leaves (first_done e.flying) (forward n e t))))
      by true lives = all_left e.flying.tries refl
      by false lives = due lives (runs_out e t) refl

-- ---- how much is left to be done with it

abbrev undrawn : Option ℕ → ℕ
undrawn None = 1
undrawn (Some place) = 0

abbrev one_not : Bool → ℕ
one_not true = 0
one_not false = 1

abbrev pub going_out : Option OutgoingValue → ℕ
going_out None = 0
going_out (Some o) = one_if o.sending.is_new + 1

abbrev owed : TrafficState → CurrentState → ℕ
owed t c =
    budget false c.entry.flying.flight.transaction + 4 * length c.entry.flying.tries + 4 * undrawn c.entry.place
    + 2 * one_not (is_blocked c.number t.table) + going_out t.outgoing

abbrev undated_in : CurrentState → ℕ
undated_in c = one_not (same_moment (next_deadline c.entry.flying.flight.transaction) c.entry.due)

abbrev left_in : TrafficState → CurrentState → ℕ
left_in t c = owed t c + undated_in c

not-le : (b : Bool) → one_not b ≤ 1
not-le true = omega arith
not-le false = omega arith

out-le : (o : Option OutgoingValue) → going_out o ≤ 2
out-le None = omega arith
out-le (Some o) = by o.sending.is_new
  where
    by : (b : Bool) → one_if b + 1 ≤ 2
    by true = omega arith
    by false = omega arith

moment-same : (a : Option ℕ) → same_moment a a ≡ true
moment-same None = refl
moment-same (Some n) = eq-eqb n n refl

and-left : (a b : Bool) → (a && b) ≡ true → a ≡ true
and-left true b h = refl
and-left false b h = absurd (true≢false (sym h))

and-right : (a b : Bool) → (a && b) ≡ true → b ≡ true
and-right true b h = h
and-right false b h = absurd (true≢false (sym h))

-- less is left, and it goes on
pub record Falls (x y : Scene) : Type 0 where
  pub less : left_in y.traffic y.current + 1 ≤ left_in x.traffic x.current
  pub go : y.current.to_do ≡ todo.GoOn

-- what is known of the transaction that is worked on
pub record IsFit (x : Scene) : Type 0 where
  pub places : HasPlaces 0 x.current.entry.flying.flight.transaction.candidates
  pub bounded : AllByRecursion IsWithinSends x.current.entry.flying.flight.transaction.candidates
  pub there : is_some (list_at x.current.entry.asked.0 x.traffic.groups) ≡ true

module _ (x : Scene) (fit : IsFit x) (going : x.current.to_do ≡ todo.GoOn) where
  abbrev own : TransactionState
  own = x.current.entry.flying.flight.transaction

  falls-by : (y z : Scene) → y ≡ z → Falls x z → Falls x y
  falls-by y z same f = subst (λ (v : Scene). Falls x v) (sym same) f

  falls-owed : (y : Scene) → y.current.to_do ≡ todo.GoOn → owed y.traffic y.current + 2 ≤ owed x.traffic x.current
      → Falls x y
  falls-owed y go less =
      let most = not-le (same_moment (next_deadline y.current.entry.flying.flight.transaction) y.current.entry.due) in
      record { less = omega (arith, less, most); go = go }

  falls-leaves : (place : ℕ) → is_some (try_at_place x.current.entry.flying place) ≡ true → Falls x (leaves place x)
  falls-leaves place some = by (try_at_place x.current.entry.flying place) refl some
    where
      after : (z : Scene) → Falls x z → (shut : Option ℕ) → Falls x (freed_if shut z)
      after z f None = f
      after z f (Some channel) = by (is_empty z.traffic.table.blocked)
        where
          by : (empty : Bool) → Falls x (record {
            traffic = cond empty z.traffic (record z.traffic { freed = min (z.traffic.freed + 1) (2 ^ 64 - 1) });
            current = z.current;
          })
          by true = record { less = f.less; go = f.go }
          by false = record { less = f.less; go = f.go }

      by : (one : Option SentTry) → try_at_place x.current.entry.flying place ≡ one → is_some one ≡ true
          → Falls x (freed_if (closed_at place x) (option_map_or (leaving_at place x) one x))
      by None at h = absurd (true≢false (sym h))
      by (Some one) at h =
          let within = slice_get_within x.current.entry.flying.tries place one at in
          let less = length-remove x.current.entry.flying.tries place within in
          after (leaving_at place x one) (falls-owed (leaving_at place x one) going (omega (arith, less))) (closed_at place x)

  falls-expires : is_due x.current.entry x.traffic ≡ true → Falls x (expires x)
  falls-expires due = by (list_in x.current.entry.asked.0 x.traffic.groups.lists) fit.there
    where
      when : (o : Option ℕ) → next_deadline own ≡ o → option_map_or (λ d. leb d x.traffic.clock) o false ≡ true
          → budget false (expired x.traffic.clock own) + 4 ≤ budget false own
      when None at h = absurd (true≢false (sym h))
      when (Some d) at h = budget-expired false own x.traffic.clock fit.places d at (leb-true d x.traffic.clock h)

      by : (l : Option GroupListState) → is_some l ≡ true → Falls x (with_to_do todo.GoOn (with_acted x (option_map_or
          (acted_with Expire x.current.number (moment_of x.traffic) [] x.current.entry.asked.0 (before_act x)) l
          (before_act x))))
      by None h = absurd (true≢false (sym h))
      by (Some l) h =
          let less = when (next_deadline own) refl due in
          falls-owed (with_to_do todo.GoOn (with_acted x
          (acted_with Expire x.current.number (moment_of x.traffic) [] x.current.entry.asked.0 (before_act x) l))) refl
          (omega (arith, less))

  falls-draws : x.current.entry.place ≡ None → Falls x (draws x)
  falls-draws none =
      let one : undrawn x.current.entry.place ≡ 1 = ap undrawn none in
      falls-owed (draws x) going (omega (arith, one))

  falls-begins : (place : ℕ) (y : Scene) → BeginsRoundIn place x y → wants_round own ≡ true → Falls x y
  falls-begins place y is wants =
      falls-by y (with_round_parts place x y.current.entry.flying) is.after
      (by (list_at x.current.entry.asked.0 x.traffic.groups) fit.there is.begins)
    where
      more : own.round < own.settings.rounds
      more =
          let both = and-right (is_none own.ended && is_idle own) (may_go_on own) wants in
          ltb-true own.round own.settings.rounds
          (and-left (ltb own.round own.settings.rounds) (list_any (λ c. is_tried c.progress) own.candidates) both)

      by : (l : Option GroupListState) → is_some l ≡ true
          → BeginsWith x.traffic.rules.strategy (round_of place x) l x.current.entry.flying y.current.entry.flying
          → Falls x (with_round_parts place x y.current.entry.flying)
      by None h begun = absurd (true≢false (sym h))
      by (Some l) h begun =
          subst (λ (f : FlyingState). Falls x (with_round_parts place x f)) (sym begun.begun)
          (let less = budget-round false own begun.order wants more in
          falls-owed (with_round_parts place x (in_order_of begun.order x.current.entry.flying)) going (omega (arith, less)))

  falls-gives_up : has_late own ≡ true → Falls x (gives_up x)
  falls-gives_up late =
      let less = budget-given_up false own late in falls-owed (gives_up x) going (omega (arith, less))

  falls-blocks : is_blocked x.current.number x.traffic.table ≡ false → Falls x (blocks x)
  falls-blocks none =
      let before : one_not (is_blocked x.current.number x.traffic.table) ≡ 1 = ap one_not none in
      let noted : is_blocked x.current.number (blocks x).traffic.table ≡ true =
      in-inserted nat_cmp nat-self at-is x.current.number x.traffic.table.blocked in
      let now : one_not (is_blocked x.current.number (blocks x).traffic.table) ≡ 0 = ap one_not noted in
      falls-owed (blocks x) going (omega (arith, before, now))

  falls-dates : (due : Option ℕ) → same_moment due x.current.entry.due ≡ false → due ≡ next_deadline own
      → Falls x (dates due x)
  falls-dates due new is = record {
    less =
        let before : undated_in x.current ≡ 1 =
        ap (λ (o : Option ℕ). one_not (same_moment o x.current.entry.due)) (sym is) ∙ ap one_not new in
        let now : undated_in (dates due x).current ≡ 0 =
        ap (λ (o : Option ℕ). one_not (same_moment o due)) (sym is) ∙ ap one_not (moment-same due) in
        omega (arith, before, now);
    go = going;
  }

  -- ---- what is sent

  module _ (l : GroupListState) where
    abbrev p : Parts
    p = parts_of x.traffic.shared x.current.entry.flying l

    abbrev step : Step
    step = step_of x.current.number (moment_of x.traffic)

    abbrev sent_scene : Parts → Option SendingValue → Scene
    sent_scene q o = with_outgoing o (with_acted x (acted_to x.current.entry.asked.0 x.traffic.groups.lists l q))

    module _ (wants : is_some (wanted own) ≡ true) where
      falls-made : (channel : ℕ) (q : Parts) (o : Option SendingValue)
          → q.flying ≡ with_sent channel (try_drawn x.traffic.shared.draws) step.moment x.current.entry.flying
          → Falls x (sent_scene q o)
      falls-made channel q o flown =
          let less = budget-sent false own fit.places fit.bounded (made_on channel (try_drawn x.traffic.shared.draws) step.moment) wants in
          let tries : length q.flying.tries ≡ length x.current.entry.flying.tries + 1 =
          ap (λ (f : FlyingState). length f.tries) flown
          ∙ length-pushed false x.current.entry.flying.tries (record { channel = channel; id = (try_drawn x.traffic.shared.draws).id }) in
          let budgets : budget false q.flying.flight.transaction
          ≡ budget false (transaction.sent (made_on channel (try_drawn x.traffic.shared.draws) step.moment) own) =
          ap (λ (f : FlyingState). budget false f.flight.transaction) flown in
          let most = out-le (option_map (outgoing_of x.current.entry.asked.0) o) in
          falls-owed (sent_scene q o) going (omega (arith, less, tries, budgets, most))

      falls-number : (kind : ChannelKind) (place : ℕ) (found : Option ℕ)
          → Falls x (sent_scene (sent_on step kind place p found) (option_and_then (out_on step kind place p true) found))
      falls-number kind place None =
          let less = budget-unsent false own fit.places fit.bounded step.until wants in
          falls-owed (sent_scene (without_channel step p) None) going (omega (arith, less))
      falls-number kind place (Some channel) =
          falls-made channel (sent_on_new step kind place channel p) (out_on step kind place p true channel) refl

      falls-stream : (kind : ChannelKind) (place : ℕ) (found : Option ℕ)
          → Falls x (sent_scene (sent_to step kind place p found) (out_to step kind place p found))
      falls-stream kind place None = falls-number kind place (number_given x.traffic.shared.channels)
      falls-stream kind place (Some channel) =
          falls-made channel (sent_on_open step channel p) (out_on step kind place p false channel) refl

    falls-sent : (o : Option Wanted) → is_some o ≡ true → is_some (wanted own) ≡ true
        → Falls x (sent_scene (option_map_or (sent_as step p) o p) (option_and_then (out_as step p) o))
    falls-sent None h wants = absurd (true≢false (sym h))
    falls-sent (Some o) h wants =
        falls-stream wants (kind_of o.way.transport) o.place (stream_in (kind_of o.way.transport) o.place p)

  falls-sends : is_some (wanted own) ≡ true → Falls x (sends x)
  falls-sends wants = by (list_in x.current.entry.asked.0 x.traffic.groups.lists) fit.there
    where
      by : (l : Option GroupListState) → is_some l ≡ true → Falls x (with_outgoing
          (option_map_or (value_with Send x.current.number (moment_of x.traffic) [] (before_act x)) l nothing_acted).sending
          (with_acted x (option_map_or
          (acted_with Send x.current.number (moment_of x.traffic) [] x.current.entry.asked.0 (before_act x)) l (before_act x))))
      by None h = absurd (true≢false (sym h))
      by (Some l) h = falls-sent l (wanted own) wants wants

  falls-done : (what : Doing) (y : Scene) → WhyGo x.current.entry x.current.number x.traffic what → is_end what ≡ false
      → is_put what ≡ false → IsDone what x y → Falls x y
  falls-done Hears y why e p is = absurd why
  falls-done Doubts y why e p is = absurd why
  falls-done Stalls y why e p is = absurd why
  falls-done Fails y why e p is = absurd why
  falls-done Quits y why e p is = absurd why
  falls-done PutsBack y why e p is = absurd why
  falls-done Expires y why e p is = falls-by y (expires x) is (falls-expires why)
  falls-done Frees y why e p is = absurd why
  falls-done Refused y why e p is = absurd why
  falls-done (Leaves place) y why e p is = falls-by y (leaves place x) is (falls-leaves place why)
  falls-done Ends y why e p is = absurd (true≢false e)
  falls-done Draws y why e p is = falls-by y (draws x) is (falls-draws why)
  falls-done (BeginsRound place) y why e p is = falls-begins place y is why
  falls-done GivesUp y why e p is = falls-by y (gives_up x) is (falls-gives_up why)
  falls-done Blocks y why e p is = falls-by y (blocks x) is (falls-blocks why.1)
  falls-done Sends y why e p is = falls-by y (sends x) is (falls-sends why)
  falls-done (Dates due) y why e p is = falls-by y (dates due x) is (falls-dates due why.0 why.1)
  falls-done Rests y why e p is = absurd (true≢false p)

-- ---- what goes before it goes on

abbrev pub rank : ToDo → ℕ
rank todo.GoOn = 0
rank todo.Hear = 3
rank todo.Doubt = 2
rank todo.Fail = 2
rank todo.Quit = 1
rank todo.PutBack = 0
rank todo.Expire = 1
rank todo.Free = 1
rank todo.Refuse = 0

abbrev RankFalls : Scene → Scene → Type 0
RankFalls x y = rank y.current.to_do < rank x.current.to_do

module _ (x : Scene) where
  ranks : (y : Scene) (to_do : ToDo) → x.current.to_do ≡ to_do → rank y.current.to_do < rank to_do → RankFalls x y
  ranks y to_do is less = subst (λ (d : ToDo). rank y.current.to_do < rank d) (sym is) less

  rank-hears : x.current.to_do ≡ todo.Hear → RankFalls x (hears x)
  rank-hears is = by (heard_of_first x)
    where
      by : (heard : Option Heard) → RankFalls x (after_first heard (hears_first x))
      by None = ranks (after_first None (hears_first x)) todo.Hear is (omega arith)
      by (Some Nothing) = ranks (after_first (Some Nothing) (hears_first x)) todo.Hear is (omega arith)
      by (Some OtherLetters) = ranks (after_first (Some OtherLetters) (hears_first x)) todo.Hear is (omega arith)
      by (Some OptRefused) = ranks (after_first (Some OptRefused) (hears_first x)) todo.Hear is (omega arith)
      by (Some (Reply outcome)) = ranks (after_first (Some (Reply outcome)) (hears_first x)) todo.Hear is (omega arith)

  rank-stalls : x.current.to_do ≡ todo.Fail → RankFalls x (stalls x)
  rank-stalls is = by (first_failure x.traffic.inbox)
    where
      by : (f : Option ChannelFailure) → RankFalls x (option_map_or (stalls_on x) f (with_to_do todo.GoOn x))
      by None = ranks (with_to_do todo.GoOn x) todo.Fail is (omega arith)
      by (Some f) = ranks (stalls_on x f) todo.Fail is (omega arith)

  rank-fails : x.current.to_do ≡ todo.Fail → RankFalls x (fails x)
  rank-fails is = by (first_failure x.traffic.inbox)
    where
      after : (z : Scene) (stream : Bool) → RankFalls x (after_failed stream z)
      after z true = ranks (after_failed true z) todo.Fail is (omega arith)
      after z false = ranks (after_failed false z) todo.Fail is (omega arith)

      by : (f : Option ChannelFailure) → RankFalls x (option_map_or (fails_on x) f (with_to_do todo.GoOn x))
      by None = ranks (with_to_do todo.GoOn x) todo.Fail is (omega arith)
      by (Some f) = after (act_on (Fail f.channel) [] x) (is_stream f.channel x.traffic.shared.channels)

  rank-quits : x.current.to_do ≡ todo.Quit → RankFalls x (quits x)
  rank-quits is = by (place_on x)
    where
      after : (z : Scene) (shut : Option ℕ) → RankFalls x (after_quit shut z)
      after z None = ranks (after_quit None z) todo.Quit is (omega arith)
      after z (Some channel) = ranks (after_quit (Some channel) z) todo.Quit is (omega arith)

      by : (place : Option ℕ) → RankFalls x (option_map_or (quits_at x) place (with_to_do todo.PutBack x))
      by None = ranks (with_to_do todo.PutBack x) todo.Quit is (omega arith)
      by (Some place) = after (leave_at place x) (closed_at place x)

  rank-frees : x.current.to_do ≡ todo.Free → RankFalls x (frees x)
  rank-frees is = by (is_some (wanted (changed transaction.freed x.current.entry.flying.flight).transaction))
    where
      by : (wants : Bool) → RankFalls x (cond {A = Scene} wants
          (record {
            traffic = x.traffic;
            current = then_do todo.GoOn (changing (changed transaction.freed) x.current);
          })
          (record {
            traffic = record x.traffic { table = without_blocked x.current.number x.traffic.table };
            current = then_do todo.GoOn (changing (changed transaction.freed) x.current);
          }))
      by true = ranks (record {
        traffic = x.traffic;
        current = then_do todo.GoOn (changing (changed transaction.freed) x.current);
      }) todo.Free is (omega arith)
      by false = ranks (record {
        traffic = record x.traffic { table = without_blocked x.current.number x.traffic.table };
        current = then_do todo.GoOn (changing (changed transaction.freed) x.current);
      }) todo.Free is (omega arith)

  -- but for what goes on
  rank-done : (y : Scene) (to_do : ToDo) → x.current.to_do ≡ to_do → (to_do ≡ todo.GoOn → ⊥)
      → is_end (doing_for to_do x.current.number x.current.entry x.traffic) ≡ false
      → is_put (doing_for to_do x.current.number x.current.entry x.traffic) ≡ false
      → IsDone (doing_for to_do x.current.number x.current.entry x.traffic) x y → RankFalls x y
  rank-done y todo.GoOn at other e p is = absurd (other refl)
  rank-done y todo.Hear at other e p is = subst (λ (v : Scene). RankFalls x v) (sym is) (rank-hears at)
  rank-done y todo.Doubt at other e p is =
      subst (λ (v : Scene). RankFalls x v) (sym is) (ranks (doubts x) todo.Doubt at (omega arith))
  rank-done y todo.Fail at other e p is = by (first_failure x.traffic.inbox) p is
    where
      why : (f : Failure) → IsDone (by_failure f) x y → RankFalls x y
      why failure.Local h = subst (λ (v : Scene). RankFalls x v) (sym h) (rank-stalls at)
      why failure.Refused h = subst (λ (v : Scene). RankFalls x v) (sym h) (rank-fails at)
      why failure.Unreachable h = subst (λ (v : Scene). RankFalls x v) (sym h) (rank-fails at)
      why failure.Closed h = subst (λ (v : Scene). RankFalls x v) (sym h) (rank-fails at)

      by : (o : Option ChannelFailure) → is_put (option_map_or (λ f. by_failure f.why) o PutsBack) ≡ false
          → IsDone (option_map_or (λ f. by_failure f.why) o PutsBack) x y → RankFalls x y
      by None q h = absurd (true≢false q)
      by (Some f) q h = why f.why h
  rank-done y todo.Quit at other e p is = subst (λ (v : Scene). RankFalls x v) (sym is) (rank-quits at)
  rank-done y todo.PutBack at other e p is = absurd (true≢false p)
  rank-done y todo.Expire at other e p is =
      subst (λ (v : Scene). RankFalls x v) (sym is) (ranks (expires x) todo.Expire at (omega arith))
  rank-done y todo.Free at other e p is = subst (λ (v : Scene). RankFalls x v) (sym is) (rank-frees at)
  rank-done y todo.Refuse at other e p is = absurd (true≢false e)

-- ---- one step

module _ (s t : PoolState) (r : Option Action) (is : Steps s r t) (c : CurrentState) (works : s.current ≡ Some c) where
  -- what goes out is opened, or written
  out-falls : (o : OutgoingValue) → s.traffic.outgoing ≡ Some o → (b : Bool) → o.sending.is_new ≡ b
      → t.traffic ≡ after_task (cond b task.Opens task.Writes) s.traffic
      → going_out t.traffic.outgoing + 1 ≤ going_out s.traffic.outgoing
  out-falls o at true new same =
      let before : going_out s.traffic.outgoing ≡ 2 = ap going_out at ∙ ap (λ (b : Bool). one_if b + 1) new in
      let now : going_out t.traffic.outgoing ≡ 1 =
      ap (λ (u : TrafficState). going_out u.outgoing) same ∙ ap (λ (x : Option OutgoingValue). going_out (option_map opened_outgoing x)) at in
      omega (arith, before, now)
  out-falls o at false new same =
      let before : going_out s.traffic.outgoing ≡ 1 = ap going_out at ∙ ap (λ (b : Bool). one_if b + 1) new in
      let now : going_out t.traffic.outgoing ≡ 0 = ap (λ (u : TrafficState). going_out u.outgoing) same in
      omega (arith, before, now)

  -- which changes nothing else of it
  pub record GoesOut : Type 0 where
    pub current : t.current ≡ Some c
    pub blocked : is_blocked c.number t.traffic.table ≡ is_blocked c.number s.traffic.table
    pub less : going_out t.traffic.outgoing + 1 ≤ going_out s.traffic.outgoing

  out-step : (o : OutgoingValue) → s.traffic.outgoing ≡ Some o → IsStep s t → GoesOut
  out-step o at (goes_out p out_is current traffic task_is) = record {
    current = current ∙ works;
    blocked = ap (λ (u : TrafficState). is_blocked c.number u.table) traffic;
    less = out-falls p out_is p.sending.is_new refl task_is;
  }
  out-step o at (begins calm none same) = let no_such : None ≡ Some o = sym calm ∙ at in absurd cc
  out-step o at (does d after calm worked now done) = let no_such : None ≡ Some o = sym calm ∙ at in absurd cc
  out-step o at (puts d calm worked p same) = let no_such : None ≡ Some o = sym calm ∙ at in absurd cc
  out-step o at (ends d calm worked e same) = let no_such : None ≡ Some o = sym calm ∙ at in absurd cc

  -- it goes out, it is put away or over, or something is done with it
  step-by : (P : Type 0) → (GoesOut → P) → (t.current ≡ None → P)
      → ((d : CurrentState) → t.current ≡ Some d → is_end (doing c s.traffic) ≡ false → is_put (doing c s.traffic) ≡ false
      → IsDone (doing c s.traffic) (scene_of s c) (record { traffic = t.traffic; current = d }) → P)
      → P
  step-by P out away does_it = by s.traffic.outgoing refl is
    where
      done : (after : Option CurrentState) → t.current ≡ after → is_end (doing c s.traffic) ≡ false
          → is_put (doing c s.traffic) ≡ false → IsDoneTo (doing c s.traffic) (scene_of s c) t.traffic after → P
      done None at e p h = absurd h
      done (Some d) at e p h = does_it d at e p h

      kind : (e p : Bool) → is_end (doing c s.traffic) ≡ e → is_put (doing c s.traffic) ≡ p
          → StepsBy e p (doing c s.traffic) c s r t → P
      kind true p e_is p_is h = away (ap (λ (u : PoolState). u.current) h.pool)
      kind false true e_is p_is h =
          away (ap (λ (u : PoolState). u.current) h.pool ∙ (put-is (doing c s.traffic) c s).none)
      kind false false e_is p_is h = done t.current refl e_is p_is h.done

      by : (o : Option OutgoingValue) → s.traffic.outgoing ≡ o → StepsAs (is_some o) s r t → P
      by None at h =
          kind (is_end (doing c s.traffic)) (is_put (doing c s.traffic)) refl refl
          (subst (λ (x : Option CurrentState). StepsIn x s r t) works h)
      by (Some o) at h = out (out-step o at (step-is s t r is))

-- ---- all steps

pub choose : (d : ToDo) (P : Type 0) → (d ≡ todo.GoOn → P) → ((d ≡ todo.GoOn → ⊥) → P) → P
choose todo.GoOn P one two = one refl
choose todo.Hear P one two = two (λ e. absurd cc)
choose todo.Doubt P one two = two (λ e. absurd cc)
choose todo.Fail P one two = two (λ e. absurd cc)
choose todo.Quit P one two = two (λ e. absurd cc)
choose todo.PutBack P one two = two (λ e. absurd cc)
choose todo.Expire P one two = two (λ e. absurd cc)
choose todo.Free P one two = two (λ e. absurd cc)
choose todo.Refuse P one two = two (λ e. absurd cc)

module _ (options : OptionsValue) (limits : PoolLimits) (seed : List ℕ) (most : ℕ) where
  abbrev Past : List Happening → PoolState → Type 0
  Past past s = Runs (no_servers options limits seed) past s

  pub fit-of : (past : List Happening) (s : PoolState) → Past past s → Kept most s → (c : CurrentState) → s.current ≡ Some c
      → IsFit (scene_of s c)
  fit-of past s runs kept c works =
      let held = holds-runs (no_servers options limits seed) past s (holds-first options limits seed) runs in
      let flying = subst (λ (x : Option CurrentState). IfSome x (IsCurrent (SentIn past s) past)) works held.current in
      let made = flying.flight.made in
      let bounded = subst (λ (x : Option CurrentState). IfSome x
      (λ y. IsBoundedBy options y.entry.flying.flight.transaction)) works
      (transactions_stay_bounded options limits seed past s runs).worked in
      record {
        places = has-places made.settings made.servers made.events made.rounds c.entry.flying.flight.transaction made.made;
        bounded = bounded.bounded.sends;
        there = listed-there most s kept c.number c.entry (in_hand c.to_do works);
      }

  go-away : (m : ℕ) (past : List Happening) (s : PoolState) → Past past s → Kept most s → (c : CurrentState)
      → s.current ≡ Some c → c.to_do ≡ todo.GoOn → left_in s.traffic c < m → IsPutAway s
  go-away zero past s runs kept c works going less = absurd (omega (arith, less))
  go-away (suc m) past s runs kept c works going less =
      goes_on s (λ r t is. step-by s t r is c works (IsPutAway t)
      (λ out. go-away m (did s r ∷ past) t (by_step past s t r is runs) (listed-step most s t kept (step-is s t r is)) c
      out.current going (fewer r t out.blocked out.less))
      (λ none. none_in_hand t none)
      (λ d at e p done.
      let f = falls-done (scene_of s c) (fit-of past s runs kept c works) going (doing c s.traffic)
      (record { traffic = t.traffic; current = d }) why e p done in
      go-away m (did s r ∷ past) t (by_step past s t r is runs) (listed-step most s t kept (step-is s t r is)) d at f.go
      (let under = f.less in omega (arith, under, less))))
    where
      why : WhyGo c.entry c.number s.traffic (doing c s.traffic)
      why =
          subst (WhyGo c.entry c.number s.traffic)
          (sym (ap (λ (d : ToDo). doing_for d c.number c.entry s.traffic) going)) (why-going c.entry c.number s.traffic)

      fewer : (r : Option Action) (t : PoolState)
          → is_blocked c.number t.traffic.table ≡ is_blocked c.number s.traffic.table
          → going_out t.traffic.outgoing + 1 ≤ going_out s.traffic.outgoing → left_in t.traffic c < m
      fewer r t blocked out =
          let same : one_not (is_blocked c.number t.traffic.table) ≡ one_not (is_blocked c.number s.traffic.table) =
          ap one_not blocked in
          omega (arith, same, out, less)

  pub rank-away : (k : ℕ) (past : List Happening) (s : PoolState) → Past past s → Kept most s → (c : CurrentState)
      → s.current ≡ Some c → 3 * rank c.to_do + going_out s.traffic.outgoing < k → IsPutAway s
  rank-away zero past s runs kept c works less = absurd (omega (arith, less))
  rank-away (suc k) past s runs kept c works less =
      choose c.to_do (IsPutAway s)
      (λ going. go-away (suc (left_in s.traffic c)) past s runs kept c works going (omega arith))
      (λ other. goes_on s (λ r t is. step-by s t r is c works (IsPutAway t)
      (λ out. rank-away k (did s r ∷ past) t (by_step past s t r is runs) (listed-step most s t kept (step-is s t r is)) c
      out.current (let fewer = out.less in omega (arith, fewer, less)))
      (λ none. none_in_hand t none)
      (λ d at e p done.
      let f = rank-done (scene_of s c) (record { traffic = t.traffic; current = d }) c.to_do refl other e p done in
      rank-away k (did s r ∷ past) t (by_step past s t r is runs) (listed-step most s t kept (step-is s t r is)) d at
      (let out = out-le t.traffic.outgoing in omega (arith, f, out, less)))))

pub each_is_put_away : EachIsPutAway
each_is_put_away options limits seed past s runs short = by s.current refl
  where
    by : (c : Option CurrentState) → s.current ≡ c → IsPutAway s
    by None works = none_in_hand s works
    by (Some c) works =
        rank-away options limits seed (length past) (suc (3 * rank c.to_do + going_out s.traffic.outgoing)) past s runs
        (listed-runs options limits seed past s runs short) c works (omega arith)
