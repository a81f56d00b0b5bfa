use Rattle.domain_table.proofs.Longest.{finds_the_longest}
use Rattle.domain_table.proofs.laws.finds_the_longest.Goals as goal

pub returns : goal.returns
returns g c = finds_the_longest g.row.V.Denot
