use Rattle.std.proofs.Common.{ℕ, refl, sym, subst}
use Rattle.hickory_resolver_client.specs.Contexts.{progress_of}
use Rattle.hickory_resolver_model.specs.Calls.{CallContext}
use Rattle.hickory_resolver_model.specs.Client.{context_of}
use Rattle.hickory_resolver_model.specs.Resolver.{call_context_of}
use Rattle.hickory_resolver_theorems.specs.ResumingCalls.{ContinuesAfter}
use Rattle.hickory_resolver.specs.CallSteps.{IsReady, attempt_value, first_question}
use Rattle.hickory_resolver.proofs.CallSteps.{resumed_begun, same_context}
use Rattle.hickory_resolver.proofs.calling.resume_call.Goals as goal

pub returns-clause-resumes : goal.returns-clause-resumes
returns-clause-resumes g c =
    let name = (first_question c.waiting.inside.lookup).name in
    let moment = c.waiting.inside.lookup.now in
    let p = progress_of c.resume-progress.result in
    let mid = c.resume-progress.new.self in
    let N : ℕ → Type 0 = λ m. IsReady c.waiting.inside.attempt name m p in
    let G : ℕ → Type 0 = λ m. ContinuesAfter (call_context_of mid c.args.hosts.now m)
    (attempt_value c.waiting.inside.attempt name m) p mid.cache (progress_of c.go_on.result) c.go_on.new.client.cache in
    let C : CallContext → Type 0 = λ t. ContinuesAfter t (attempt_value c.waiting.inside.attempt name moment) p mid.cache
    (progress_of c.go_on.result) c.go_on.new.client.cache in
    let ready = subst N (sym c.now-now.ensures) (record {
      kept_is = c.waiting.invariant;
      begun = resumed_begun (context_of c.args.client.now moment) c.waiting.inside.lookup refl c.args.outcome p mid.cache
          c.resume-progress.ensures.resumes;
    }) in
    rw (← c.waiting.view_is) (
      p,
      mid.cache,
      c.resume-progress.ensures.resumes,
      subst C (same_context c.args.client.now mid c.args.hosts.now moment c.resume-progress.ensures.stays)
          (subst G c.now-now.ensures (c.go_on.ensures.goes name ready)),
    )
