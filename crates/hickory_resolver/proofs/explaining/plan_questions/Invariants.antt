use Rattle.std.proofs.Common.{◌≡◌, ◌++◌, drop}
use Rattle.std.specs.List.{flat_map}
use Rattle.hickory_resolver_attempts.specs.Sought.{asks_for_all, order_of}
use Rattle.hickory_resolver.specs.Explaining.{name_questions, planned_values}
use Rattle.hickory_resolver.proofs.explaining.plan_questions.Given as goal

abbrev pub invariant-loop-name : goal.invariant-loop-name
invariant-loop-name l =
    planned_values l.list.items ++ flat_map (name_questions (order_of l.fn.sought) (asks_for_all l.fn.sought)) (drop l.name-index l.rest)
    ≡ planned_values l.initial.list.items ++ flat_map (name_questions (order_of l.fn.sought) (asks_for_all l.fn.sought)) l.rest
