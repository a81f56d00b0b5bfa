use Rattle.hickory_resolver_flights.proofs.Sent.{each_try_was_sent}
use Rattle.hickory_resolver_flights.proofs.laws.each_try_was_sent.Goals as goal

pub returns : goal.returns
returns c = each_try_was_sent
