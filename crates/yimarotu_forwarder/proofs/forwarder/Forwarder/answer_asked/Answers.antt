-- What is not kept is looked up.
use Rattle.yimarotu_forwarder.proofs.Missed.{missed}
use Rattle.yimarotu_forwarder.proofs.forwarder.Forwarder.answer_asked.Goals as goal

-- src/answering.rt
pub returns-else-tell_kept-clause-ok : goal.returns-else-tell_kept-clause-ok
returns-else-tell_kept-clause-ok c =
    missed c.args.request.now c.args.self.now c.tell_kept.new.self c.miss.new.self c.tell_kept.result c.miss.result
    c.tell_kept.ensures c.if-tell_kept.false c.miss.ensures.ok
