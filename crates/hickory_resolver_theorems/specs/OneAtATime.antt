-- A run is a list of events over one cache in which no look-up waits: each question that its client is asked is looked
-- up from start to end, and a clear of a name clears the questions of its attempts.
use Rattle.std.specs.Prelude.{◌≡◌, Bool, true, false, List, map, filter, flat_map}
use Rattle.std.specs.List.{AllByRecursion}
use Rattle.hickory_proto_core.specs.declared.recorded.Exchange.{Exchange}
use Rattle.hickory_resolver_model.specs.Cache.{CacheValue}
use Rattle.hickory_resolver_model.specs.Calls.{Source, Hosts, Client, SubLookup}
use Rattle.hickory_resolver_model.specs.Run.{Settings, RequestValue, StepValue, Run}
use Rattle.hickory_resolver_theorems.specs.Covered.{dated_exchanges}
use Rattle.hickory_resolver_theorems.specs.Interleaved.{DoneValue, world_of, EventValue, Started, Fed, Dropped, ClearedOfAll, ClearedOf, Blocked, Happen, ended_in, received_in}

-- no look-up waits
abbrev pub IsAtOnce : EventValue → Type 0
IsAtOnce (Started question now progress) = ⊥
IsAtOnce (Fed p outcome progress) = ⊥
IsAtOnce (Dropped p) = ⊥
IsAtOnce ClearedOfAll = Unit {0}
IsAtOnce (ClearedOf q) = Unit {0}
IsAtOnce (Blocked d) = Unit {0}

abbrev pub is_client : Source → Bool
is_client Hosts = false
is_client Client = true

-- the parts that the client answered
abbrev pub client_parts : List SubLookup → List SubLookup
client_parts parts = filter (λ p. is_client p.source) parts

-- a look-up that is done, as a part that the client answered
abbrev pub part_of : DoneValue → SubLookup
part_of d = record { question = d.question; source = Client; asks = d.asks; result = d.result }

-- The events of a run: what was received is its exchanges, each with the moment of its step, and the look-ups that ended
-- are the questions that its client answered, in order.
pub record IsOneAtATime
    (s : Settings) (before : CacheValue) (requests : List RequestValue) (steps : List StepValue)
    (exchanges : List Exchange) (after : CacheValue) (run : Run s before requests steps exchanges after)
    : Type 0 where
  pub events : List EventValue
  pub at_once : AllByRecursion IsAtOnce events
  pub happen : Happen s.preserve_intermediates (world_of before) events (world_of after)
  pub received : received_in events
      ≡ flat_map (λ stage. dated_exchanges stage.step.now stage.piece) run.stages
  pub ended : map part_of (ended_in events) ≡ flat_map (λ stage. client_parts stage.parts) run.stages
