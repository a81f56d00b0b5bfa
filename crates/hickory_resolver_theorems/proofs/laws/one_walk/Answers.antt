use Rattle.hickory_resolver_theorems.specs.WalkLaws.{one_walk_of}
use Rattle.hickory_resolver_theorems.proofs.laws.one_walk.Goals as goal

pub returns : goal.returns
returns c = one_walk_of
