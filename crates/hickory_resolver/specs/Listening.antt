-- Who hears of the steps of a run.
use Rattle.std.specs.Prelude.{◌≡◌, List, [], ◌∷◌, take, drop}
use Rattle.hickory_proto_core.specs.declared.recorded.Exchange.{Exchange}
use Rattle.hickory_resolver_model.specs.Run.{RequestValue, StepValue}

-- a listener of type L before it, what it hears of: a request, the questions that were sent for it and what came
-- back, and its step; and the listener after it
abbrev pub Hears : Type 0 → Type 1
Hears L = L → RequestValue → List Exchange → StepValue → L → Type 0

-- one listener becomes another by hearing of all these steps in order, each with its request and with as many of
-- the exchanges as it made
abbrev pub HearsAll : {L : Type 0} → Hears L → L → List RequestValue → List StepValue → List Exchange → L
    → Type 0
HearsAll hears before requests [] exchanges after = after ≡ before
HearsAll hears before [] (step ∷ steps) exchanges after = ⊥
HearsAll {L} hears before (request ∷ requests) (step ∷ steps) exchanges after =
    (mid : L) × hears before request (take step.exchanges exchanges) step mid
    × HearsAll hears mid requests steps (drop step.exchanges exchanges) after
