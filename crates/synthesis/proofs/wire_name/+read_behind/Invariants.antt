use Rattle.synthesis.proofs.wire_name.+read_behind.Given as goal

abbrev pub decreases-read_behind : goal.decreases-read_behind
decreases-read_behind l = l.more
