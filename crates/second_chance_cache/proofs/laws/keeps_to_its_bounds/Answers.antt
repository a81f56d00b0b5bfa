use Rattle.second_chance_cache.proofs.Bounded.{keeps_to_its_bounds}
use Rattle.second_chance_cache.proofs.laws.keeps_to_its_bounds.Goals as goal

pub returns : goal.returns
returns g c = keeps_to_its_bounds g.row.V.Denot
