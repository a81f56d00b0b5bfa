use Rattle.whole_lookups.proofs.hints.+name_end.Given as goal

abbrev pub decreases-name_end : goal.decreases-name_end
decreases-name_end l = l.steps
