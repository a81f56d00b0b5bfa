use Rattle.std.proofs.Common.{ap, sym, ◌∙◌}
use Rattle.hickory_resolver_tries.proofs.Chains.{Ends, ends_all, walk_ends}
use Rattle.hickory_resolver_tries.proofs.chain.end_from.Goals as goal

pub returns-clause-last : goal.returns-clause-last
returns-clause-last c =
    let all = ends_all c.loop-found.moved c.loop-found.reached.now c.args.name.now c.args.answers.now c.loop-found.found-index c.loop-found.invariant c.loop-found-test.false in
    ap (λ (e : Ends). e.last) (all ∙ sym (walk_ends 0 c.args.name.now c.args.name.now c.args.answers.now))

pub returns-clause-moved : goal.returns-clause-moved
returns-clause-moved c =
    let all = ends_all c.loop-found.moved c.loop-found.reached.now c.args.name.now c.args.answers.now c.loop-found.found-index c.loop-found.invariant c.loop-found-test.false in
    ap (λ (e : Ends). e.moved) (all ∙ sym (walk_ends 0 c.args.name.now c.args.name.now c.args.answers.now))
