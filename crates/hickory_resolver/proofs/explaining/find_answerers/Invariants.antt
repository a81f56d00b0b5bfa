use Rattle.hickory_resolver.specs.Explaining.{planned_values}
use Rattle.hickory_resolver.proofs.Explained.{SoFar}
use Rattle.hickory_resolver.proofs.explaining.find_answerers.Given as goal

abbrev pub invariant-loop-it : goal.invariant-loop-it
invariant-loop-it g l =
    SoFar l.now l.hosts l.cache (planned_values l.fn.planned.items) (planned_values l.it-iterator.rest.items)
    l.list.items
