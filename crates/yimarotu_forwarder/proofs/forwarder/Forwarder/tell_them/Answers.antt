use Rattle.std.proofs.Common.{◌∙◌, ap, subst}
use Rattle.std.specs.Prelude.{IfOk}
use Rattle.whole_replies.specs.Kept.{KeptValue}
use Rattle.yimarotu_forwarder.specs.Forwarders.{ForwarderValue}
use Rattle.yimarotu_forwarder.specs.Replying.{TellsLocal}
use Rattle.yimarotu_forwarder.specs.Statistics.{counts_reply}
use Rattle.yimarotu_forwarder.specs.declared.answered.Outcome.{Outcome}
use Rattle.yimarotu_forwarder.proofs.forwarder.Forwarder.tell_them.Goals as goal

-- src/statistics.rt
pub returns-clause-ok : goal.returns-clause-ok
returns-clause-ok c =
    subst (λ (k : KeptValue). IfOk c.tell_local.result (λ (answered : Outcome). TellsLocal c.args.self.now
    c.args.request.now c.args.query.now k answered c.tell_local.new.self))
    (c.in_ok-kept.ensures ∙ ap (λ (s : ForwarderValue). counts_reply c.args.query.now s.counted) c.self.view_is)
    c.tell_local.ensures.ok
