use Rattle.std.specs.Str.Lines.{lines}
use Rattle.trace_lines.proofs.HostLines.{ArePutFrom}
use Rattle.trace_lines.proofs.hosts.add_hosts.Given as goal

-- the records of the lines so far were put in
abbrev pub invariant-loop-line : goal.invariant-loop-line
invariant-loop-line l = ArePutFrom (lines l.text) (lines l.line-iterator.rest.now) l.initial.own.items l.own.items
