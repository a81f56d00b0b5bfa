use Rattle.std.proofs.Common.{take}
use Rattle.replay_script.specs.Words.{texts}
use Rattle.conversation_journal.proofs.HearAll.{SoFar}
use Rattle.conversation_journal.proofs.hearing.hear_all.Given as goal

abbrev pub invariant-loop-line : goal.invariant-loop-line
invariant-loop-line l = SoFar l.initial.conversation l.conversation (texts (take l.line-index l.lines)) l.heards.items
