use Rattle.std.specs.Str.Lines.{lines}
use Rattle.forwarder_settings.proofs.UnderWay.{UnderWay}
use Rattle.forwarder_settings.proofs.reading.ForwarderSettings.read_lines.Given as goal

abbrev pub invariant-loop-line : goal.invariant-loop-line
invariant-loop-line l = UnderWay l.fn.self l.settings l.number l.text (lines l.line-iterator.rest.now)
