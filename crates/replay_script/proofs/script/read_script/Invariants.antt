use Rattle.std.specs.Str.Lines.{lines}
use Rattle.replay_script.proofs.UnderWay.{UnderWay}
use Rattle.replay_script.proofs.script.read_script.Given as goal

abbrev pub invariant-loop-line : goal.invariant-loop-line
invariant-loop-line l = UnderWay l.reader l.number l.script (lines l.line-iterator.rest.now)
