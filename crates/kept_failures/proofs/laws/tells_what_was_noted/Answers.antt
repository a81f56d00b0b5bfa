use Rattle.kept_failures.proofs.Noted.{tells_what_was_noted}
use Rattle.kept_failures.proofs.laws.tells_what_was_noted.Goals as goal

pub returns : goal.returns
returns g c = tells_what_was_noted g.row.R.Denot
