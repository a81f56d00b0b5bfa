use Rattle.hickory_resolver_theorems.proofs.Provenances.{from_sources}
use Rattle.hickory_resolver_theorems.proofs.laws.every_answer_has_a_source.Goals as goal

pub returns : goal.returns
returns c = from_sources
