use Rattle.conversation_journal.proofs.HearAll.{line_last, line_more, lines_end}
use Rattle.conversation_journal.proofs.hearing.hear_all.Goals as goal

pub returns-then-is_last : goal.returns-then-is_last
returns-then-is_last c =
    line_last c.args.conversation.now c.loop-line.conversation c.hear.new.self c.args.lines.now c.loop-line.line-index _ c.loop-line.heards.items c.push.new.self.items c.in_ok-heard.heard c.loop-line-test.true c.in_ok-push.ensures.items c.loop-line.invariant c.in_ok-heard.ensures c.if-is_last.true

pub loop-line-preserved : goal.loop-line-preserved
loop-line-preserved c =
    line_more c.args.conversation.now c.loop-line.conversation c.hear.new.self c.args.lines.now c.loop-line.line-index _ c.loop-line.heards.items c.push.new.self.items c.in_ok-heard.heard c.loop-line-test.true c.in_ok-push.ensures.items c.loop-line.invariant c.in_ok-heard.ensures c.if-is_last.false

pub returns : goal.returns
returns c = lines_end c.args.conversation.now c.loop-line.conversation c.args.lines.now c.loop-line.line-index c.loop-line.heards.items c.loop-line-test.false c.loop-line.invariant
