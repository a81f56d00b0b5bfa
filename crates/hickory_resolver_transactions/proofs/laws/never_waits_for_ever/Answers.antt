use Rattle.hickory_resolver_transactions.proofs.Waiting.{never_waits_for_ever}
use Rattle.hickory_resolver_transactions.proofs.laws.never_waits_for_ever.Goals as goal

pub returns : goal.returns
returns c = never_waits_for_ever
