-- Where all were told, what the look-up came to is let go.
use Rattle.std.proofs.Common.{◌∙◌, sym}
use Rattle.yimarotu_forwarder.proofs.Replied.{lets_go_all, refused_all}
use Rattle.yimarotu_forwarder.proofs.forwarder.Forwarder.reply_next.Goals as goal

-- src/steps.rt
pub returns-then-all_are_told-clause-ok : goal.returns-then-all_are_told-clause-ok
returns-then-all_are_told-clause-ok c = λ r is. lets_go_all c.args.self.now c.let_go.new.self r c.let_go.result
    (sym (c.all_are_told.ensures r is) ∙ c.if-all_are_told.true) (c.let_go.ensures.ok r is)

pub returns-then-all_are_told-clause-err : goal.returns-then-all_are_told-clause-err
returns-then-all_are_told-clause-err c = λ r is. refused_all c.args.self.now c.let_go.new.self r c.let_go.result
    (sym (c.all_are_told.ensures r is) ∙ c.if-all_are_told.true) c.let_go.ensures.err
