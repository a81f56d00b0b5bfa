use Rattle.hickory_proto_core.specs.Name.{NameValue}
use Rattle.hickory_resolver_client.specs.Contexts.{progress_of}
use Rattle.hickory_resolver_model.specs.Client.{KeepsHandle}
use Rattle.hickory_resolver_model.specs.Resolver.{call_context_of}
use Rattle.hickory_resolver.specs.CallSteps.{IsReady, attempt_value, turns_left}
use Rattle.hickory_resolver.proofs.CallSteps.{StillGoes}
use Rattle.hickory_resolver.proofs.calling.go_on.Given as goal

abbrev pub invariant-loop-progress : goal.invariant-loop-progress
invariant-loop-progress g l =
    ((name : NameValue) → IsReady l.fn.attempt name l.now (progress_of l.fn.progress)
    → StillGoes (call_context_of l.fn.client l.hosts l.now) (attempt_value l.fn.attempt name l.now)
    (progress_of l.fn.progress) l.fn.client.cache l.attempt l.now (progress_of l.progress) l.client.cache)
    × KeepsHandle l.fn.client l.client

abbrev pub decreases-loop-progress : goal.decreases-loop-progress
decreases-loop-progress g l = turns_left l.attempt
