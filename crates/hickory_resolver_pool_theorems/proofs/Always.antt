-- There is always a next step.
use Rattle.std.proofs.Common.{ℕ, Bool, true, false, List, refl}
use Rattle.std.specs.Prelude.{Option, None, Some}
use Rattle.std.specs.Option.{is_some}
use Rattle.hickory_resolver_config.specs.declared.strategies.ServerOrderingStrategy.{ServerOrderingStrategy}
use Rattle.hickory_resolver_config.specs.declared.strategies.ServerOrderingStrategy.TheVariants.{QueryStatistics, UserProvidedOrder, RoundRobin}
use Rattle.hickory_resolver_servers.specs.Order.{IsOrder, turned, beside, known_in, unknown_in, round_trip_of, first_free}
use Rattle.hickory_resolver_servers.specs.Server.{ServerState}
use Rattle.hickory_resolver_servers.specs.declared.order.RoundStart.{RoundStart}
use Rattle.hickory_resolver_steps.specs.Steps.{FlyingState}
use Rattle.hickory_resolver_transactions.specs.Transaction.{places_left}
use Rattle.hickory_resolver_traffic.specs.Doing.{Scene, IsDone, doing, closed_by, round_of, in_order_of, BeginsWith, with_round_parts, hears, doubts, stalls, fails, quits, expires, frees, leaves, draws, gives_up, blocks, sends, dates}
use Rattle.hickory_resolver_traffic.specs.Groups.{GroupListState, list_at}
use Rattle.hickory_resolver_traffic.specs.Table.{CurrentState}
use Rattle.hickory_resolver_traffic.specs.declared.doing.Doing.{Doing}
use Rattle.hickory_resolver_traffic.specs.declared.doing.Doing.TheVariants.{Hears, Doubts, Stalls, Fails, Quits, PutsBack, Expires, Frees, Refused, Leaves, Ends, Draws, BeginsRound, GivesUp, Blocks, Sends, Dates, Rests}
use Rattle.hickory_resolver_pool.specs.Pool.{PoolState, close_or_continue, let_go_action, started, started_action, scene_of, is_end, is_put, let_go, put_by, StepsBy, StepsIn, StepsAs}
use Rattle.hickory_resolver_pool.specs.declared.pool.Action.{Action}
use Rattle.hickory_resolver_pool.specs.declared.pool.Action.TheVariants.{Continue}
use Rattle.hickory_resolver_pool_theorems.specs.Rest.{AlwaysSteps}
use Rattle.hickory_resolver_pool_theorems.proofs.Ranks.{ranked, ranked-same, ranked-sorted, ranked-stable}

-- an order by each strategy
pub record HasOrder (strategy : ServerOrderingStrategy) (round : RoundStart) (servers : List ServerState) (left : List ℕ)
    : Type 0 where
  pub order : List ℕ
  pub is : IsOrder strategy round servers left order

order-of : (strategy : ServerOrderingStrategy) (round : RoundStart) (servers : List ServerState) (left : List ℕ)
    → HasOrder strategy round servers left
order-of UserProvidedOrder round servers left = record { order = left; is = refl }
order-of RoundRobin round servers left = record { order = turned round.place left; is = refl }
order-of QueryStatistics round servers left =
    let key : ℕ → ℕ = round_trip_of round.moment servers in
    let known : List ℕ = known_in round.moment servers left in
    record {
      order = beside (first_free round servers left) (ranked key known) (unknown_in round.moment servers left);
      is = record {
        ranked = ranked key known;
        fastest_first = record {
          same = ranked-same key known;
          sorted = ranked-sorted key known;
          stable = ranked-stable key known;
        };
        order_is = refl;
      };
    }

-- what is done can be done
pub record CanBeDone (what : Doing) (x : Scene) : Type 0 where
  pub after : Scene
  pub done : IsDone what x after

module _ (x : Scene) where
  round-of : (place : ℕ) → CanBeDone (BeginsRound place) x
  round-of place =
      let f = begun (list_at x.current.entry.asked.0 x.traffic.groups) in
      record { after = with_round_parts place x f.0; done = record { begins = f.1; after = refl } }
    where
      begun : (l : Option GroupListState) → (f : FlyingState)
          × BeginsWith x.traffic.rules.strategy (round_of place x) l x.current.entry.flying f
      begun None = (x.current.entry.flying, refl)
      begun (Some l) =
          let o = order-of x.traffic.rules.strategy (round_of place x) l.servers.servers
          (places_left x.current.entry.flying.flight.transaction) in
          (in_order_of o.order x.current.entry.flying, record { order = o.order; in_order = o.is; begun = refl })

  can-be : (what : Doing) → CanBeDone what x
  can-be Hears = record { after = hears x; done = refl }
  can-be Doubts = record { after = doubts x; done = refl }
  can-be Stalls = record { after = stalls x; done = refl }
  can-be Fails = record { after = fails x; done = refl }
  can-be Quits = record { after = quits x; done = refl }
  can-be Expires = record { after = expires x; done = refl }
  can-be Frees = record { after = frees x; done = refl }
  can-be (Leaves place) = record { after = leaves place x; done = refl }
  can-be Draws = record { after = draws x; done = refl }
  can-be (BeginsRound place) = round-of place
  can-be GivesUp = record { after = gives_up x; done = refl }
  can-be Blocks = record { after = blocks x; done = refl }
  can-be Sends = record { after = sends x; done = refl }
  can-be (Dates due) = record { after = dates due x; done = refl }
  can-be PutsBack = record { after = x; done = refl }
  can-be Refused = record { after = x; done = refl }
  can-be Ends = record { after = x; done = refl }
  can-be Rests = record { after = x; done = refl }

-- with what it comes to
abbrev Goes : (Option Action → PoolState → Type 0) → Type 0
Goes P = (r : Option Action) × ((after : PoolState) × P r after)

module _ (s : PoolState) where
  goes-by : (c : CurrentState) (ends puts : Bool) (what : Doing) → Goes (StepsBy ends puts what c s)
  goes-by c true puts what = (Some (let_go_action what c s), (let_go c s, record { action = refl; pool = refl }))
  goes-by c false true what = (Some Continue, (put_by what c s, record { action = refl; pool = refl }))
  goes-by c false false what =
      let can = can-be (scene_of s c) what in (
        Some (close_or_continue (closed_by what (scene_of s c))),
        (
          record s { traffic = can.after.traffic; current = Some can.after.current },
          record { done = can.done; action = refl; pool = refl },
        ),
      )

  goes-in : (c : Option CurrentState) → Goes (StepsIn c s)
  goes-in None = (started_action s, (started s, (refl, refl)))
  goes-in (Some c) = goes-by c (is_end (doing c s.traffic)) (is_put (doing c s.traffic)) (doing c s.traffic)

  goes-as : (b : Bool) → Goes (StepsAs b s)
  goes-as true = (started_action s, (started s, (refl, refl)))
  goes-as false = goes-in s.current

pub always_steps : AlwaysSteps
always_steps s =
    let goes = goes-as s (is_some s.traffic.outgoing) in
    record { action = goes.0; after = goes.1.0; is = goes.1.1 }
