use Rattle.std.proofs.Common.{length}
use Rattle.synthesis.proofs.base32hex.+push_groups.Given as goal

abbrev pub decreases-push_groups : goal.decreases-push_groups
decreases-push_groups l = length l.bytes.now
