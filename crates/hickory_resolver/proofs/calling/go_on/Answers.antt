use Rattle.std.proofs.Common.{refl, subst}
use Rattle.hickory_resolver_client.specs.Contexts.{progress_of}
use Rattle.hickory_resolver_model.specs.Calls.{CallContext}
use Rattle.hickory_resolver_model.specs.Resolver.{call_context_of}
use Rattle.hickory_resolver_theorems.specs.ResumingCalls.{with_result}
use Rattle.hickory_resolver.specs.CallSteps.{ContinuesFrom, Goes, Over, attempt_value}
use Rattle.hickory_resolver.proofs.CallSteps.{keeps_on, same_context, still_kept, still_first}
use Rattle.hickory_resolver.proofs.CallSteps.{still_next, still_over, still_waits}
use Rattle.hickory_resolver.proofs.calling.go_on.Goals as goal

pub loop-progress-init : goal.loop-progress-init
loop-progress-init g c = (
  (λ name ready. still_first (call_context_of c.args.client.now c.args.hosts.now c.args.now) c.args.attempt name
      c.args.now (progress_of c.args.progress) c.args.client.now.cache ready),
  record { handle_is = refl; option_is = refl },
)

pub loop-progress-smaller : goal.loop-progress-smaller
loop-progress-smaller g c = rw c.in-Goes.is at c.take_result.ensures.fewer

pub loop-progress-preserved : goal.loop-progress-preserved
loop-progress-preserved g c =
    let inv = rw c.in-Done.is at c.loop-progress.invariant in (
      (λ name ready.
          let still = inv.0 name ready in
          let step = rw c.in-Goes.is at c.take_result.ensures.goes still.name still.ready.kept_is in
          let C : CallContext → Type 0 = λ t. ContinuesFrom t
          (with_result (attempt_value c.loop-progress.attempt still.name c.args.now) c.in-Done.result)
          c.loop-progress.client.cache c.take_result.new.self c.args.now (Goes (progress_of c.in-Goes.next)) c.take_result.new.client.cache in
          still_next (call_context_of c.args.client.now c.args.hosts.now c.args.now)
          (attempt_value c.args.attempt name c.args.now) (progress_of c.args.progress) c.args.client.now.cache
          c.loop-progress.attempt c.args.now c.in-Done.result c.loop-progress.client.cache still c.take_result.new.self
          (progress_of c.in-Goes.next) c.take_result.new.client.cache
          (subst C (same_context c.args.client.now c.loop-progress.client c.args.hosts.now c.args.now inv.1) step)),
      keeps_on c.args.client.now c.loop-progress.client c.take_result.new.client inv.1 c.take_result.ensures.stays,
    )

pub returns-in-Waiting-clause-goes : goal.returns-in-Waiting-clause-goes
returns-in-Waiting-clause-goes g c = λ name ready.
    let inv = rw c.in-Waiting.is at c.loop-progress.invariant in
    still_waits (call_context_of c.args.client.now c.args.hosts.now c.args.now)
    (attempt_value c.args.attempt name c.args.now) (progress_of c.args.progress) c.args.client.now.cache
    c.loop-progress.attempt c.args.now c.in-Waiting.lookup c.loop-progress.client.cache (inv.0 name ready)

pub invariant_of-result : goal.invariant_of-result
invariant_of-result g c =
    let inv = rw c.in-Waiting.is at c.loop-progress.invariant in
    still_kept (call_context_of c.args.client.now c.args.hosts.now c.args.now)
    (attempt_value c.args.attempt c.requires.0 c.args.now) (progress_of c.args.progress) c.args.client.now.cache
    c.loop-progress.attempt c.args.now c.in-Waiting.lookup c.loop-progress.client.cache (inv.0 c.requires.0 c.requires.1)

pub returns-in-Over-clause-goes : goal.returns-in-Over-clause-goes
returns-in-Over-clause-goes g c = λ name ready.
    let inv = rw c.in-Done.is at c.loop-progress.invariant in
    let still = inv.0 name ready in
    let step = rw c.in-Over.is at c.take_result.ensures.goes still.name still.ready.kept_is in
    let C : CallContext → Type 0 = λ t. ContinuesFrom t
    (with_result (attempt_value c.loop-progress.attempt still.name c.args.now) c.in-Done.result)
    c.loop-progress.client.cache c.take_result.new.self c.args.now (Over c.in-Over.result) c.take_result.new.client.cache in
    still_over (call_context_of c.args.client.now c.args.hosts.now c.args.now)
    (attempt_value c.args.attempt name c.args.now) (progress_of c.args.progress) c.args.client.now.cache
    c.loop-progress.attempt c.args.now c.in-Done.result c.loop-progress.client.cache still c.take_result.new.self
    c.in-Over.result c.take_result.new.client.cache
    (subst C (same_context c.args.client.now c.loop-progress.client c.args.hosts.now c.args.now inv.1) step)
