-- What is kept is put behind what came, and is marked.
use Rattle.yimarotu_forwarder.proofs.Asking.{ends_marked}
use Rattle.yimarotu_forwarder.proofs.Refused.{if_ok}
use Rattle.yimarotu_forwarder.proofs.forwarder.Forwarder.answer_kept.Goals as goal

-- src/steps.rt
pub returns-clause-ok : goal.returns-clause-ok
returns-clause-ok c =
    ends_marked c.args.key c.args.kept c.args.replies c.in_ok-end.end c.args.self.now c.answer_next.new.self
    c.mark_end.new.self c.in_ok-end.ensures
    (λ f found. if_ok c.answer_next.result c.in_ok-answer_next.field-0 c.in_ok-answer_next.was
    (c.answer_next.ensures.ok f found)) c.mark_end.ensures
