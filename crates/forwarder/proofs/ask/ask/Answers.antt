use Rattle.forwarder.proofs.Held as held
use Rattle.forwarder.proofs.ask.ask.Goals as goal

pub returns-clause-zone_stays : goal.returns-clause-zone_stays
returns-clause-zone_stays c = held.zone_stays _ _ _ _ _ _ c.lookup.ensures.is

pub returns-clause-within_ttl : goal.returns-clause-within_ttl
returns-clause-within_ttl c entry has = held.within_ttl _ _ _ _ _ _ entry has c.lookup.ensures.is
