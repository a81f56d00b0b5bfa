use Rattle.std.proofs.Common.{◌≡◌, ◌+◌, ◌≤◌, length}
use Rattle.resolv_conf.specs.Said.{lines_said, with_said}
use Rattle.resolv_conf.specs.Text.{lines_left, lines_of}
use Rattle.resolv_conf.proofs.reading.Reading.read.Given as goal

abbrev pub invariant-loop-line : goal.invariant-loop-line
invariant-loop-line l = record {
  room : l.number + length (lines_left l.line-iterator.rest) ≤ length l.octets + 1;
  said : with_said l.self (lines_said l.last (l.number + 1) (lines_left l.line-iterator.rest))
      ≡ with_said l.initial.self (lines_said l.last 1 (lines_of l.octets));
}
