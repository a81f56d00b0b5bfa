-- A handle that keeps what the handle below it gave.
use Rattle.std.specs.Prelude.{◌≡◌, ◌⊎◌, true, List, [], ◌∷◌, ◌++◌, Err}
use Rattle.hickory_proto_core.specs.Handles.{OutcomeValue, HandleStep, holds_memory, RecordedValue}
use Rattle.hickory_proto_core.specs.declared.dns_request.DnsRequest.{DnsRequest}
use Rattle.hickory_proto_core.specs.declared.recorded.Exchange.{Exchange}
use Rattle.hickory_proto_core.specs.declared.net_error.NetError.TheVariants.{OutOfMemory}

-- nothing was sent, and nothing changed
pub record IsRefused
    {H : Type 0} (before : RecordedValue H) (answer : OutcomeValue) (after : RecordedValue H)
    : Type 0 where
  pub answer_is : answer ≡ Err OutOfMemory
  pub unchanged : after ≡ before

-- the handle below was asked. What it gave is kept, and is answered unless there was no memory for the copy of
-- what holds memory
pub record IsKept
    {H : Type 0} (step : HandleStep H) (before : RecordedValue H) (request : DnsRequest) (answer : OutcomeValue)
    (after : RecordedValue H)
    : Type 0 where
  pub outcome : OutcomeValue
  pub asked : step before.handle request outcome after.handle
  pub exchanges_are : after.exchanges ≡ before.exchanges ++ record {
    query = request.query;
    outcome = outcome;
  } ∷ []
  pub answer_is : (answer ≡ outcome) ⊎ ((answer ≡ Err OutOfMemory) × (holds_memory outcome ≡ true))

abbrev pub RecordedStep : {H : Type 0} → HandleStep H → RecordedValue H → DnsRequest → OutcomeValue
    → RecordedValue H → Type 0
RecordedStep step before request answer after =
    IsRefused before answer after ⊎ IsKept step before request answer after

-- what was answered, and what was kept: the same, or an outcome that holds memory in place of out of memory.
-- Where nothing was sent there is no exchange
abbrev pub RecordedAs : List Exchange → List Exchange → Type 0
RecordedAs [] kept = kept ≡ []
RecordedAs (x ∷ xs) kept =
    ((x.outcome ≡ Err OutOfMemory) × RecordedAs xs kept)
    ⊎ ((y : Exchange) × (ys : List Exchange) × (kept ≡ y ∷ ys) × (y.query ≡ x.query)
    × ((x.outcome ≡ y.outcome) ⊎ ((x.outcome ≡ Err OutOfMemory) × (holds_memory y.outcome ≡ true)))
    × RecordedAs xs ys)
