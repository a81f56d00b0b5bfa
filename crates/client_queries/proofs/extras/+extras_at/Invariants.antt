use Rattle.client_queries.proofs.extras.+extras_at.Given as goal

abbrev pub decreases-extras_at : goal.decreases-extras_at
decreases-extras_at l = l.count
