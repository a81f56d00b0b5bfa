use Rattle.std.proofs.Common.{◌≡◌, false, length}
use Rattle.replay.proofs.Written.{UnderWay}
use Rattle.replay.proofs.writing.write_whole.Given as goal

abbrev pub invariant-loop-rest : goal.invariant-loop-rest
invariant-loop-rest g l = UnderWay l.bytes (g.W.Write.contents l.initial.writer.inner)
    (g.W.Write.contents l.writer.inner) l.rest × (l.writer.failed ≡ false)

abbrev pub decreases-loop-rest : goal.decreases-loop-rest
decreases-loop-rest g l = length l.rest
