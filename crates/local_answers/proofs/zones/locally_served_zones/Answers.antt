use Rattle.std.proofs.Common.{refl}
use Rattle.std.specs.Fmt.{digits}
use Rattle.local_answers.proofs.zones.locally_served_zones.Goals as goal

pub returns : goal.returns
unfolding digits
returns c = refl
