use Rattle.std.proofs.Common.{◌∙◌, Bool, subst}
use Rattle.hickory_proto_core.specs.ResponseKind.{kind_of}
use Rattle.hickory_resolver_model.specs.Hops.{LookupContext}
use Rattle.hickory_resolver_model.specs.Resuming.{ComesTo}
use Rattle.hickory_resolver_client.specs.Contexts.{state_context, progress_of}
use Rattle.hickory_resolver_client.proofs.Settling.{never_fails}
use Rattle.hickory_resolver_client.proofs.Progressing.{resumed_out, resumed_done, resumed_next, resumed_cut}
use Rattle.hickory_resolver_client.proofs.client_state.ClientState.resume.Goals as goal

pub returns-in-Ok-clause-resumes : goal.returns-in-Ok-clause-resumes
returns-in-Ok-clause-resumes g c =
    let settled = rw (c.len-depth.ensures ∙ c.waiting.inside.passed.ok.0, c.in-Ok-Next.is, c.in-Ok-Next.field-0-is) at (c.settle.ensures.settled (kind_of c.args.outcome) (never_fails c.args.outcome) c.classify.ensures) in
    let s : LookupContext = record { cache = c.settle.new.self.cache; now = c.waiting.inside.moment; preserve_intermediates = c.args.self.now.preserve_intermediates } in
    let P : Bool → Type 0 = λ keep. ComesTo (record s { preserve_intermediates = keep }) c.push.new.self.items c.in-Ok-Next.next (progress_of c.come_to.result) c.come_to.new.self.cache in
    rw (← c.waiting.view_is)
    (resumed_next (state_context c.args.self.now c.waiting.inside.moment) _ c.args.outcome c.in-Ok-Next.asked c.in-Ok-Next.limit c.in-Ok-Next.next c.settle.new.self.cache settled _ _ _ c.in-Ok.ensures.items (subst P c.settle.ensures.stays c.come_to.ensures.comes))

pub returns-in-Err-push-clause-resumes : goal.returns-in-Err-push-clause-resumes
returns-in-Err-push-clause-resumes g c =
    let settled = rw (c.len-depth.ensures ∙ c.waiting.inside.passed.ok.0, c.in-Ok-Next.is, c.in-Ok-Next.field-0-is) at (c.settle.ensures.settled (kind_of c.args.outcome) (never_fails c.args.outcome) c.classify.ensures) in
    rw (← c.waiting.view_is)
    (resumed_cut (state_context c.args.self.now c.waiting.inside.moment) _ c.args.outcome c.in-Ok-Next.asked c.in-Ok-Next.limit c.in-Ok-Next.next c.settle.new.self.cache settled)

pub returns-in-Ok-Done-clause-resumes : goal.returns-in-Ok-Done-clause-resumes
returns-in-Ok-Done-clause-resumes g c =
    let settled = rw (c.len-depth.ensures ∙ c.waiting.inside.passed.ok.0, c.in-Ok-Done.is, c.in-Ok-Done.field-0-is) at (c.settle.ensures.settled (kind_of c.args.outcome) (never_fails c.args.outcome) c.classify.ensures) in
    rw (← c.waiting.view_is)
    (resumed_done (state_context c.args.self.now c.waiting.inside.moment) _ c.args.outcome c.in-Ok-Done.result _ c.in-Ok-Done.limit c.settle.new.self.cache _ c.waiting.invariant settled c.finish.ensures.finished)

pub returns-in-Err-clause-resumes : goal.returns-in-Err-clause-resumes
returns-in-Err-clause-resumes g c =
    let settled = rw (c.len-depth.ensures ∙ c.waiting.inside.passed.ok.0, c.in-Err.is) at (c.settle.ensures.settled (kind_of c.args.outcome) (never_fails c.args.outcome) c.classify.ensures) in
    rw (← c.waiting.view_is)
    (resumed_out (state_context c.args.self.now c.waiting.inside.moment) _ c.args.outcome settled.1 c.waiting.invariant c.in-Err.error settled.0 c.settle.new.self.cache settled.2)
