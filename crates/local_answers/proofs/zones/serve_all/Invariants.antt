use Rattle.std.proofs.Common.{◌≡◌, map, take}
use Rattle.local_answers.specs.Zones.{with_served}
use Rattle.local_answers.proofs.zones.serve_all.Given as goal

abbrev pub invariant-loop-zone : goal.invariant-loop-zone
invariant-loop-zone g l =
    l.rules ≡ with_served (take l.zone-index (map (λ zone. zone.now) l.zones)) l.initial.rules
