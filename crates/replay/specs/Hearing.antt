-- How the text of a run grows by what is heard of its steps.
use Rattle.std.specs.Prelude.{◌≡◌, false, List, ℕ, ◌++◌, map}
use Rattle.hickory_proto_core.specs.declared.recorded.Exchange.{Exchange}
use Rattle.hickory_resolver_model.specs.Run.{RequestValue, StepValue, ends_run}
use Rattle.replay_script.specs.Output.{step_text}

-- there was memory for the step, and its block was added to the text
abbrev pub AddsBlock : List ℕ → RequestValue → List Exchange → StepValue → List ℕ → Type 0
AddsBlock before request sent step after =
    (ends_run step.reply ≡ false)
    × (after ≡ before ++ step_text request (map (λ x. x.query) sent) step.reply)
