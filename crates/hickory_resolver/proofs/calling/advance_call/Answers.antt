use Rattle.std.proofs.Common.{◌∙◌, ℕ, ap, refl, sym, subst}
use Rattle.hickory_resolver_client.specs.Contexts.{progress_of}
use Rattle.hickory_resolver_model.specs.Calls.{CallContext}
use Rattle.hickory_resolver_model.specs.Client.{context_of}
use Rattle.hickory_resolver_model.specs.Resolver.{call_context_of}
use Rattle.hickory_resolver_theorems.specs.ResumingCalls.{ContinuesAfter}
use Rattle.hickory_resolver.specs.CallSteps.{IsReady, attempt_value, first_question}
use Rattle.hickory_resolver.proofs.CallSteps.{one_at_most, resumed_begun}
use Rattle.hickory_resolver.proofs.calling.advance_call.Goals as goal

pub returns-clause-few : goal.returns-clause-few
returns-clause-few g c =
    rw (← c.waiting.view_is) (c.advance-progress.ensures.few, one_at_most c.waiting.inside.attempt.first)

pub returns-clause-advances : goal.returns-clause-advances
returns-clause-advances g c =
    let a = c.advance-progress.ensures.advances in
    let name = (first_question c.waiting.inside.lookup).name in
    let moment = c.waiting.inside.lookup.now in
    let p = progress_of c.advance-progress.result in
    let mid = c.advance-progress.new.self in
    let N : ℕ → Type 0 = λ m. IsReady c.waiting.inside.attempt name m p in
    let G : ℕ → Type 0 = λ m. ContinuesAfter (call_context_of mid c.args.hosts.now m)
    (attempt_value c.waiting.inside.attempt name m) p mid.cache (progress_of c.go_on.result) c.go_on.new.client.cache in
    let ready = subst N (sym c.now-now.ensures) (record {
      kept_is = c.waiting.invariant;
      begun = resumed_begun (context_of c.args.client.now moment) c.waiting.inside.lookup refl a.outcome p mid.cache a.resumes;
    }) in
    let C : CallContext → Type 0 = λ t. ContinuesAfter t (attempt_value c.waiting.inside.attempt name moment) p mid.cache
    (progress_of c.go_on.result) c.go_on.new.client.cache in
    rw (← c.waiting.view_is) (record {
      outcome = a.outcome;
      sent = subst (λ h. g.H.DnsHandle.step c.args.client.now.handle
          (record { query = c.waiting.inside.lookup.hop.query; options = c.args.options }) a.outcome h)
          (sym c.go_on.ensures.stays.handle_is) a.sent;
      resumes = (
        p,
        mid.cache,
        a.resumes,
        subst C (ap (λ b. record { now = moment; preserve_intermediates = b; hosts = c.args.hosts.now }) a.option_stays)
            (subst G c.now-now.ensures (c.go_on.ensures.goes name ready)),
      );
      option_stays = c.go_on.ensures.stays.option_is ∙ a.option_stays;
    })
