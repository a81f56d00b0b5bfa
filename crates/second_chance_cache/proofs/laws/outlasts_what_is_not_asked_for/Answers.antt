use Rattle.second_chance_cache.proofs.Outlasting.{outlasts_what_is_not_asked_for}
use Rattle.second_chance_cache.proofs.laws.outlasts_what_is_not_asked_for.Goals as goal

pub returns : goal.returns
returns g c = outlasts_what_is_not_asked_for g.row.V.Denot
