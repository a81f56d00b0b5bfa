-- What a transaction does with its servers and with the channels.
use Rattle.std.specs.Prelude.{ℕ, ◌+◌, ◌-◌, ◌^◌, List, min, Option, None}
use Rattle.std.specs.Option.{option_map_or}
use Rattle.hickory_resolver_flights.specs.Flights.{FlightState, heard, meaning, changed}
use Rattle.hickory_resolver_transactions.specs.Transaction.{failed, expired}
use Rattle.hickory_resolver_steps.specs.Steps.{Parts, SharedState, FlyingState, SendingValue, sent, out}
use Rattle.hickory_resolver_steps.specs.Telling.{servers_heard, servers_failed, servers_late}
use Rattle.hickory_resolver_steps.specs.declared.flying.Step.{Step}
use Rattle.hickory_resolver_steps.specs.declared.telling.Telling.{Telling}
use Rattle.hickory_resolver_flights.specs.declared.heard.Heard.TheVariants.{Nothing}
use Rattle.hickory_resolver_flights.specs.declared.heard.Heard.{Heard}
use Rattle.hickory_resolver_traffic.specs.Groups.{GroupListState, list_in, put_list}
use Rattle.hickory_resolver_traffic.specs.declared.acting.ServerAct.{ServerAct}
use Rattle.hickory_resolver_traffic.specs.declared.acting.ServerAct.TheVariants.{Hear, Fail, Expire, Send}
use Rattle.hickory_resolver_traffic.specs.declared.acting.Moment.{Moment}

-- a moment so much later
abbrev pub later : ℕ → ℕ → ℕ
later moment by = min (moment + by) (2 ^ 64 - 1)

abbrev pub telling_of : Moment → Telling
telling_of m = record { moment = m.clock; timeout = m.timeout }

abbrev pub step_of : ℕ → Moment → Step
step_of n m = record { transaction = n; moment = m.clock; until = later m.clock m.timeout }

abbrev pub with_flight : FlyingState → FlightState → FlyingState
with_flight f flight = record { flight = flight; tries = f.tries }

-- what is changed by it
abbrev pub acted : ServerAct → ℕ → Moment → List ℕ → Parts → Parts
acted (Hear channel id) n m octets p = record {
  shared = p.shared;
  servers = servers_heard (telling_of m) p.shared.channels channel id octets p.flying.flight p.servers;
  flying = with_flight p.flying (heard channel id octets p.flying.flight);
}
acted (Fail channel) n m octets p = record {
  shared = p.shared;
  servers = servers_failed (telling_of m) p.shared.channels channel p.flying.flight p.servers;
  flying = with_flight p.flying (changed (failed channel) p.flying.flight);
}
acted Expire n m octets p = record {
  shared = p.shared;
  servers = servers_late (telling_of m) p.shared.channels p.flying.flight p.servers;
  flying = with_flight p.flying (changed (expired m.clock) p.flying.flight);
}
acted Send n m octets p = sent (step_of n m) p

-- what octets were, and what is sent
pub record ActedValue : Type 0 where
  pub heard : Heard
  pub sending : Option SendingValue

abbrev pub nothing_acted : ActedValue
nothing_acted = record { heard = Nothing; sending = None }

abbrev pub acted_value : ServerAct → ℕ → Moment → List ℕ → Parts → ActedValue
acted_value (Hear channel id) n m octets p =
    record { heard = meaning channel id octets p.flying.flight; sending = None }
acted_value (Fail channel) n m octets p = nothing_acted
acted_value Expire n m octets p = nothing_acted
acted_value Send n m octets p = record { heard = Nothing; sending = out (step_of n m) p }

-- ---- with the servers of a list, where there is such a list

abbrev pub parts_of : SharedState → FlyingState → GroupListState → Parts
parts_of shared f l = record { shared = shared; servers = l.servers; flying = f }

abbrev pub with_list_servers : GroupListState → Parts → GroupListState
with_list_servers l p = record l { servers = p.servers }

-- what is shared, the lists and the question after it
pub record Acted : Type 0 where
  pub shared : SharedState
  pub lists : List (ℕ × GroupListState)
  pub flying : FlyingState

abbrev pub acted_to : ℕ → List (ℕ × GroupListState) → GroupListState → Parts → Acted
acted_to list lists l p = record {
  shared = p.shared;
  lists = put_list list (with_list_servers l p) lists;
  flying = p.flying;
}

abbrev pub acted_with : ServerAct → ℕ → Moment → List ℕ → ℕ → Acted → GroupListState → Acted
acted_with what n m octets list a l =
    acted_to list a.lists l (acted what n m octets (parts_of a.shared a.flying l))

abbrev pub acted_on : ServerAct → ℕ → Moment → List ℕ → ℕ → Acted → Acted
acted_on what n m octets list a = option_map_or (acted_with what n m octets list a) (list_in list a.lists) a

abbrev pub value_with : ServerAct → ℕ → Moment → List ℕ → Acted → GroupListState → ActedValue
value_with what n m octets a l = acted_value what n m octets (parts_of a.shared a.flying l)

abbrev pub value_on : ServerAct → ℕ → Moment → List ℕ → ℕ → Acted → ActedValue
value_on what n m octets list a =
    option_map_or (value_with what n m octets a) (list_in list a.lists) nothing_acted
