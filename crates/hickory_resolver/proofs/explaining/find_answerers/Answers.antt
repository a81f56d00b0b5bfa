use Rattle.std.proofs.Common.{◌≡◌, [], List, refl, sym, subst, arith}
use Rattle.std.proofs.lemmas.Grind.{common_steps}
use Rattle.hickory_resolver.specs.Explaining.{planned_value, planned_values}
use Rattle.hickory_resolver.specs.declared.explaining.Attempted.{Attempted}
use Rattle.hickory_resolver.specs.declared.explaining.Planned.{Planned}
use Rattle.hickory_resolver.proofs.Explained.{SoFar, all_answered, one_more}
use Rattle.hickory_resolver.proofs.explaining.find_answerers.Goals as goal

pub loop-it-preserved : goal.loop-it-preserved
loop-it-preserved g c =
    let now = c.args.now in
    let hosts = c.args.hosts.now in
    let cache = c.args.cache.now in
    let all = planned_values c.args.planned.items in
    let left = c.next.new.self.rest.items in
    let before = c.loop-it.list.items in
    let R : List Planned → Type 0 = λ rest. SoFar now hosts cache all (planned_values rest) before in
    let P : List Attempted → Type 0 = λ attempted. SoFar now hosts cache all (planned_values left) attempted in
    subst P (sym c.in_ok-push.ensures.items)
    (one_more now hosts cache all (planned_value c.in-Some.it) (planned_values left) before _
    (subst R c.in-Some.ensures.steps.0 c.loop-it.invariant) refl c.in_ok-answerer.ensures)

pub returns : goal.returns
returns g c =
    let now = c.args.now in
    let hosts = c.args.hosts.now in
    let cache = c.args.cache.now in
    let all = planned_values c.args.planned.items in
    let before = c.loop-it.list.items in
    let R : List Planned → Type 0 = λ rest. SoFar now hosts cache all (planned_values rest) before in
    let over : c.loop-it.it-iterator.rest.items ≡ [] = grind (arith, common_steps) in
    all_answered now hosts cache all before (subst R over c.loop-it.invariant)
