use Rattle.domain_table.proofs.OneValue.{keeps_one_value}
use Rattle.domain_table.proofs.laws.keeps_one_value.Goals as goal

pub returns : goal.returns
returns g c = keeps_one_value g.row.V.Denot
