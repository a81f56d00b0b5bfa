use Rattle.std.proofs.Common.{rules}
use Rattle.hickory_resolver_lookup.proofs.lookup.Lookup.append_in_place.Goals as goal

pub returns-clause-ok : goal.returns-clause-ok
returns-clause-ok c = search rules
