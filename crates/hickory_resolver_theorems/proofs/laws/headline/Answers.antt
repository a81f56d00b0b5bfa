use Rattle.hickory_resolver_theorems.proofs.Headlines.{headline}
use Rattle.hickory_resolver_theorems.proofs.laws.headline.Goals as goal

pub returns : goal.returns
returns c = headline
