use Rattle.std.specs.Str.Lines.{lines}
use Rattle.trace_lines.proofs.HostLines.{all_put, line_put}
use Rattle.trace_lines.proofs.hosts.add_hosts.Goals as goal

pub loop-line-preserved : goal.loop-line-preserved
loop-line-preserved c =
    let added = c.in_ok-add_line.ensures in
    line_put (lines c.args.text.now) (lines c.loop-line.line-iterator.rest.now) (lines c.next.new.self.rest.now) c.in-Some.line.now
    c.args.own.now.items c.loop-line.own.items c.add_line.new.own.items added.0 c.in-Some.ensures.steps c.loop-line.invariant added.1 added.2

pub returns : goal.returns
returns c =
    all_put (lines c.args.text.now) (lines c.loop-line.line-iterator.rest.now) c.args.own.now.items c.loop-line.own.items
    c.in-None.ensures.steps.0 c.loop-line.invariant
