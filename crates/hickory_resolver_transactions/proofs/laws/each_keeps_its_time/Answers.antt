use Rattle.hickory_resolver_transactions.proofs.Keeping.{each_keeps_its_time}
use Rattle.hickory_resolver_transactions.proofs.laws.each_keeps_its_time.Goals as goal

pub returns : goal.returns
returns c = each_keeps_its_time
