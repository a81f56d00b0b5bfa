use Rattle.std.proofs.Common.{length}
use Rattle.hickory_proto_names.proofs.NameMeasure.{IsScanned}
use Rattle.hickory_proto_names.proofs.name_text.check_text.Given as goal

abbrev pub invariant-loop-character : goal.invariant-loop-character
invariant-loop-character l = IsScanned l.text l.rest l.labels l.length

abbrev pub decreases-loop-character : goal.decreases-loop-character
decreases-loop-character l = length l.rest
