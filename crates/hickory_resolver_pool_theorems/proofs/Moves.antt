-- What is done with a transaction that goes on: less is left of it, or it is as before but for what waits.
use Rattle.std.proofs.Common.{◌≡◌, ◌≤◌, ◌<◌, ◌+◌, ◌-◌, ◌*◌, ◌^◌, min, ℕ, Bool, true, false, cond, ◌&&◌, [], length, refl, ap, sym, subst, ◌∙◌, true≢false, arith, leb, leb-true, ltb, ltb-true, inl, inr, ◌⊎◌}
use Rattle.std.specs.Prelude.{Option, None, Some}
use Rattle.std.specs.List.{list_any}
use Rattle.std.specs.Option.{is_some, is_none, option_map_or, option_and_then}
use Rattle.std.proofs.lemmas.List.Edits.{length-remove}
use Rattle.std.proofs.lemmas.Option.{slice_get_within}
use Rattle.hickory_resolver_channels.specs.Channels.{number_given, has_place}
use Rattle.hickory_resolver_channels.specs.Draws.{try_drawn}
use Rattle.hickory_resolver_channels.specs.declared.channel.ChannelKind.{ChannelKind}
use Rattle.hickory_resolver_steps.specs.Ending.{try_at_place}
use Rattle.hickory_resolver_steps.specs.Steps.{Parts, FlyingState, SendingValue, kind_of, stream_in, sent_on_open, sent_on_new, with_sent, sent_on, sent_to, sent_as, out_on, out_to, out_as, made_on}
use Rattle.hickory_resolver_steps.specs.declared.flying.SentTry.{SentTry}
use Rattle.hickory_resolver_steps.specs.declared.flying.Step.{Step}
use Rattle.hickory_resolver_transactions.specs.Candidates.{is_tried}
use Rattle.hickory_resolver_transactions.specs.Transaction.{TransactionState, wanted, wants_round, may_go_on, is_idle, has_late, next_deadline, expired}
use Rattle.hickory_resolver_transactions.specs.Transaction as transaction
use Rattle.hickory_resolver_transactions.specs.declared.transaction.Wanted.{Wanted}
use Rattle.hickory_resolver_traffic.specs.Acting.{acted_with, acted_to, value_with, nothing_acted, parts_of, step_of}
use Rattle.hickory_resolver_traffic.specs.Doing.{Scene, IsDone, is_due, is_empty, leaving_at, closed_at, freed_if, leaves, expires, before_act, with_acted, moment_of, draws, gives_up, blocks, sends, with_outgoing, dates, with_round_parts, BeginsRoundIn, BeginsWith, round_of, with_to_do}
use Rattle.hickory_resolver_traffic.specs.Groups.{GroupListState, list_in, list_at}
use Rattle.hickory_resolver_traffic.specs.Table.{EntryState}
use Rattle.hickory_resolver_traffic.specs.declared.acting.ServerAct.TheVariants.{Expire, Send}
use Rattle.hickory_resolver_traffic.specs.declared.doing.Doing.{Doing}
use Rattle.hickory_resolver_traffic.specs.declared.doing.Doing.TheVariants.{Hears, Doubts, Stalls, Fails, Quits, PutsBack, Expires, Frees, Refused, Leaves, Ends, Draws, BeginsRound, GivesUp, Blocks, Sends, Dates, Rests}
use Rattle.hickory_resolver_traffic.specs.declared.entry.ToDo.TheVariants as todo
use Rattle.hickory_resolver_pool.specs.Pool.{is_end, is_put}
use Rattle.hickory_resolver_pool_theorems.proofs.Budgets.{budget, length-pushed, budget-given_up, budget-round, budget-sent, budget-unsent, budget-expired}
use Rattle.hickory_resolver_pool_theorems.proofs.PutAway.{WhyGo, IsFit}

-- how much is left of a transaction
abbrev pub cost_of : EntryState → ℕ
cost_of e = budget true e.flying.flight.transaction + 4 * length e.flying.tries + 1

abbrev pub wants_in : Scene → Bool
wants_in x = is_some (wanted x.current.entry.flying.flight.transaction)

-- whether there may be a channel more
abbrev pub place_in : Scene → Bool
place_in x = has_place x.traffic.shared.channels

-- what waits for channels, and the channels, stay
pub record IsLike (x y : Scene) : Type 0 where
  pub cost : cost_of y.current.entry ≤ cost_of x.current.entry
  pub channels : length y.traffic.shared.channels.channels ≡ length x.traffic.shared.channels.channels
  pub place : place_in y ≡ place_in x
  pub freed : y.traffic.freed ≡ x.traffic.freed
  pub blocked : y.traffic.table.blocked ≡ x.traffic.table.blocked
  pub wants : ((wants_in x ≡ true) × (place_in x ≡ false)) ⊎ (wants_in y ≡ wants_in x)

-- it is noted that it waits for a channel
pub record IsNoting (x y : Scene) : Type 0 where
  pub cost : cost_of y.current.entry ≤ cost_of x.current.entry
  pub channels : length y.traffic.shared.channels.channels ≡ length x.traffic.shared.channels.channels
  pub full : place_in x ≡ false
  pub wants : wants_in x ≡ true

pub data Change (x y : Scene) : Type 0 where
  falls : cost_of y.current.entry < cost_of x.current.entry → Change x y
  stays : IsLike x y → Change x y
  notes : IsNoting x y → Change x y

pub record Moves (x y : Scene) : Type 0 where
  pub inbox : y.traffic.inbox ≡ x.traffic.inbox
  pub go : y.current.to_do ≡ todo.GoOn
  pub ready : y.traffic.ready ≡ x.traffic.ready
  pub clock : y.traffic.clock ≡ x.traffic.clock
  pub change : Change x y

and-left : (a b : Bool) → (a && b) ≡ true → a ≡ true
and-left true b h = refl
and-left false b h = absurd (true≢false (sym h))

and-right : (a b : Bool) → (a && b) ≡ true → b ≡ true
and-right true b h = h
and-right false b h = absurd (true≢false (sym h))

module _ (x : Scene) (fit : IsFit x) (going : x.current.to_do ≡ todo.GoOn) where
  abbrev own : TransactionState
  own = x.current.entry.flying.flight.transaction

  moves-by : (y z : Scene) → y ≡ z → Moves x z → Moves x y
  moves-by y z same f = subst (λ (v : Scene). Moves x v) (sym same) f

  moves-leaves : (place : ℕ) → is_some (try_at_place x.current.entry.flying place) ≡ true → Moves x (leaves place x)
  moves-leaves place some = by (try_at_place x.current.entry.flying place) refl some
    where
      after : (z : Scene) → Moves x z → cost_of z.current.entry < cost_of x.current.entry → (shut : Option ℕ)
          → Moves x (freed_if shut z)
      after z f less None = f
      after z f less (Some channel) = by (is_empty z.traffic.table.blocked)
        where
          by : (empty : Bool) → Moves x (record {
            traffic = cond empty z.traffic (record z.traffic { freed = min (z.traffic.freed + 1) (2 ^ 64 - 1) });
            current = z.current;
          })
          by true = record { inbox = f.inbox; go = f.go; ready = f.ready; clock = f.clock; change = falls less }
          by false = record { inbox = f.inbox; go = f.go; ready = f.ready; clock = f.clock; change = falls less }

      by : (one : Option SentTry) → try_at_place x.current.entry.flying place ≡ one → is_some one ≡ true
          → Moves x (freed_if (closed_at place x) (option_map_or (leaving_at place x) one x))
      by None at h = absurd (true≢false (sym h))
      by (Some one) at h =
          let within = slice_get_within x.current.entry.flying.tries place one at in
          let shorter = length-remove x.current.entry.flying.tries place within in
          let less : cost_of (leaving_at place x one).current.entry < cost_of x.current.entry = omega (arith, shorter) in
          after (leaving_at place x one)
          (record { inbox = refl; go = going; ready = refl; clock = refl; change = falls less }) less (closed_at place x)

  moves-expires : is_due x.current.entry x.traffic ≡ true → Moves x (expires x)
  moves-expires due = by (list_in x.current.entry.asked.0 x.traffic.groups.lists) fit.there
    where
      when : (o : Option ℕ) → next_deadline own ≡ o → option_map_or (λ d. leb d x.traffic.clock) o false ≡ true
          → budget true (expired x.traffic.clock own) + 4 ≤ budget true own
      when None at h = absurd (true≢false (sym h))
      when (Some d) at h = budget-expired true own x.traffic.clock fit.places d at (leb-true d x.traffic.clock h)

      by : (l : Option GroupListState) → is_some l ≡ true → Moves x (with_to_do todo.GoOn (with_acted x (option_map_or
          (acted_with Expire x.current.number (moment_of x.traffic) [] x.current.entry.asked.0 (before_act x)) l
          (before_act x))))
      by None h = absurd (true≢false (sym h))
      by (Some l) h =
          let less = when (next_deadline own) refl due in
          record { inbox = refl; go = refl; ready = refl; clock = refl; change = falls (omega (arith, less)) }

  moves-draws : Moves x (draws x)
  moves-draws = record {
    inbox = refl;
    go = going;
    ready = refl;
    clock = refl;
    change = stays (record {
      cost = omega arith;
      channels = refl;
      place = refl;
      freed = refl;
      blocked = refl;
      wants = inr refl;
    });
  }

  moves-begins : (place : ℕ) (y : Scene) → BeginsRoundIn place x y → wants_round own ≡ true → Moves x y
  moves-begins place y is wants =
      moves-by y (with_round_parts place x y.current.entry.flying) is.after
      (by (list_at x.current.entry.asked.0 x.traffic.groups) fit.there is.begins)
    where
      more : own.round < own.settings.rounds
      more =
          let both = and-right (is_none own.ended && is_idle own) (may_go_on own) wants in
          ltb-true own.round own.settings.rounds
          (and-left (ltb own.round own.settings.rounds) (list_any (λ c. is_tried c.progress) own.candidates) both)

      by : (l : Option GroupListState) → is_some l ≡ true
          → BeginsWith x.traffic.rules.strategy (round_of place x) l x.current.entry.flying y.current.entry.flying
          → Moves x (with_round_parts place x y.current.entry.flying)
      by None h begun = absurd (true≢false (sym h))
      by (Some l) h begun =
          subst (λ (f : FlyingState). Moves x (with_round_parts place x f)) (sym begun.begun)
          (let less = budget-round true own begun.order wants more in
          record { inbox = refl; go = going; ready = refl; clock = refl; change = falls (omega (arith, less)) })

  moves-gives_up : has_late own ≡ true → Moves x (gives_up x)
  moves-gives_up late =
      let less = budget-given_up true own late in
      record { inbox = refl; go = going; ready = refl; clock = refl; change = falls (omega (arith, less)) }

  moves-blocks : place_in x ≡ false → wants_in x ≡ true → Moves x (blocks x)
  moves-blocks full wants = record {
    inbox = refl;
    go = going;
    ready = refl;
    clock = refl;
    change = notes (record { cost = omega arith; channels = refl; full = full; wants = wants });
  }

  moves-dates : (due : Option ℕ) → Moves x (dates due x)
  moves-dates due = record {
    inbox = refl;
    go = going;
    ready = refl;
    clock = refl;
    change = stays (record {
      cost = omega arith;
      channels = refl;
      place = refl;
      freed = refl;
      blocked = refl;
      wants = inr refl;
    });
  }

  -- ---- what is sent

  module _ (l : GroupListState) where
    abbrev p : Parts
    p = parts_of x.traffic.shared x.current.entry.flying l

    abbrev step : Step
    step = step_of x.current.number (moment_of x.traffic)

    abbrev sent_scene : Parts → Option SendingValue → Scene
    sent_scene q o = with_outgoing o (with_acted x (acted_to x.current.entry.asked.0 x.traffic.groups.lists l q))

    module _ (wants : is_some (wanted own) ≡ true) where
      moves-made : (channel : ℕ) (q : Parts) (o : Option SendingValue)
          → q.flying ≡ with_sent channel (try_drawn x.traffic.shared.draws) step.moment x.current.entry.flying
          → Moves x (sent_scene q o)
      moves-made channel q o flown =
          let less = budget-sent true own fit.places fit.bounded (made_on channel (try_drawn x.traffic.shared.draws) step.moment) wants in
          let tries : length q.flying.tries ≡ length x.current.entry.flying.tries + 1 =
          ap (λ (f : FlyingState). length f.tries) flown
          ∙ length-pushed true x.current.entry.flying.tries (record { channel = channel; id = (try_drawn x.traffic.shared.draws).id }) in
          let budgets : budget true q.flying.flight.transaction
          ≡ budget true (transaction.sent (made_on channel (try_drawn x.traffic.shared.draws) step.moment) own) =
          ap (λ (f : FlyingState). budget true f.flight.transaction) flown in
          record { inbox = refl; go = going; ready = refl; clock = refl; change = falls (omega (arith, less, tries, budgets)) }

      full-of : number_given x.traffic.shared.channels ≡ None → place_in x ≡ false
      full-of none = by (place_in x) refl none
        where
          by : (b : Bool) → place_in x ≡ b → cond b (Some x.traffic.shared.channels.next) None ≡ None → place_in x ≡ false
          by true is h = absurd cc
          by false is h = is

      moves-number : (kind : ChannelKind) (place : ℕ) (found : Option ℕ) → number_given x.traffic.shared.channels ≡ found
          → Moves x (sent_scene (sent_on step kind place p found) (option_and_then (out_on step kind place p true) found))
      moves-number kind place None is =
          let less = budget-unsent true own fit.places fit.bounded step.until wants in
          record {
            inbox = refl;
            go = going;
            ready = refl;
            clock = refl;
            change = stays (record {
              cost = omega (arith, less);
              channels = refl;
              place = refl;
              freed = refl;
              blocked = refl;
              wants = inl (wants, full-of is);
            });
          }
      moves-number kind place (Some channel) is =
          moves-made channel (sent_on_new step kind place channel p) (out_on step kind place p true channel) refl

      moves-stream : (kind : ChannelKind) (place : ℕ) (found : Option ℕ)
          → Moves x (sent_scene (sent_to step kind place p found) (out_to step kind place p found))
      moves-stream kind place None = moves-number kind place (number_given x.traffic.shared.channels) refl
      moves-stream kind place (Some channel) =
          moves-made channel (sent_on_open step channel p) (out_on step kind place p false channel) refl

    moves-sent : (o : Option Wanted) → is_some o ≡ true → is_some (wanted own) ≡ true
        → Moves x (sent_scene (option_map_or (sent_as step p) o p) (option_and_then (out_as step p) o))
    moves-sent None h wants = absurd (true≢false (sym h))
    moves-sent (Some o) h wants =
        moves-stream wants (kind_of o.way.transport) o.place (stream_in (kind_of o.way.transport) o.place p)

  moves-sends : is_some (wanted own) ≡ true → Moves x (sends x)
  moves-sends wants = by (list_in x.current.entry.asked.0 x.traffic.groups.lists) fit.there
    where
      by : (l : Option GroupListState) → is_some l ≡ true → Moves x (with_outgoing
          (option_map_or (value_with Send x.current.number (moment_of x.traffic) [] (before_act x)) l nothing_acted).sending
          (with_acted x (option_map_or
          (acted_with Send x.current.number (moment_of x.traffic) [] x.current.entry.asked.0 (before_act x)) l (before_act x))))
      by None h = absurd (true≢false (sym h))
      by (Some l) h = moves-sent l (wanted own) wants wants

  pub moves-done : (what : Doing) (y : Scene) → WhyGo x.current.entry x.current.number x.traffic what → is_end what ≡ false
      → is_put what ≡ false → IsDone what x y → Moves x y
  moves-done Hears y why e p is = absurd why
  moves-done Doubts y why e p is = absurd why
  moves-done Stalls y why e p is = absurd why
  moves-done Fails y why e p is = absurd why
  moves-done Quits y why e p is = absurd why
  moves-done PutsBack y why e p is = absurd why
  moves-done Expires y why e p is = moves-by y (expires x) is (moves-expires why)
  moves-done Frees y why e p is = absurd why
  moves-done Refused y why e p is = absurd why
  moves-done (Leaves place) y why e p is = moves-by y (leaves place x) is (moves-leaves place why)
  moves-done Ends y why e p is = absurd (true≢false e)
  moves-done Draws y why e p is = moves-by y (draws x) is moves-draws
  moves-done (BeginsRound place) y why e p is = moves-begins place y is why
  moves-done GivesUp y why e p is = moves-by y (gives_up x) is (moves-gives_up why)
  moves-done Blocks y why e p is = moves-by y (blocks x) is (moves-blocks why.0 why.2)
  moves-done Sends y why e p is = moves-by y (sends x) is (moves-sends why)
  moves-done (Dates due) y why e p is = moves-by y (dates due x) is (moves-dates due)
  moves-done Rests y why e p is = absurd (true≢false p)
