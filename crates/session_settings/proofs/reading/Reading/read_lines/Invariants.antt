use Rattle.std.specs.Str.Lines.{lines}
use Rattle.session_settings.proofs.UnderWay.{UnderWay}
use Rattle.session_settings.proofs.reading.Reading.read_lines.Given as goal

abbrev pub invariant-loop-line : goal.invariant-loop-line
invariant-loop-line l = UnderWay l.fn.self l.reading l.number l.text (lines l.line-iterator.rest.now)
