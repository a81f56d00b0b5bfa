use Rattle.client_queries.proofs.places.+name_end.Given as goal

abbrev pub decreases-name_end : goal.decreases-name_end
decreases-name_end l = l.steps
