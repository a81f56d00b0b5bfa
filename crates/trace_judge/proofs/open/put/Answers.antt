use Rattle.trace_judge.proofs.Opens.{counts_none, counts_some}
use Rattle.trace_judge.proofs.open.put.Goals as goal

pub returns-then-count-eq0 : goal.returns-then-count-eq0
returns-then-count-eq0 c = counts_none c.args.query c.args.count c.args.counts.now.entries c.remove.new.self.entries c.if-count-eq0.true c.remove.ensures.updates.0

pub returns : goal.returns
returns c = counts_some c.args.query c.args.count c.args.counts.now.entries c.insert.new.self.entries c.in_ok-insert.ensures.updates.0
