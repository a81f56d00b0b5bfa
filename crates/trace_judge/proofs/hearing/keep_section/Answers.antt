use Rattle.std.proofs.Common.{◌∙◌, ◌++◌, ◌∷◌, [], ap, map, subst, take}
use Rattle.trace_judge.specs.Index.{SeesAs}
use Rattle.trace_judge.specs.Receptions.{reception_at}
use Rattle.trace_judge.proofs.Standing.{map_more, sees-push}
use Rattle.trace_judge.proofs.hearing.keep_section.Goals as goal

pub loop-r-preserved : goal.loop-r-preserved
loop-r-preserved c = λ from before held.
    let moment = c.args.moment in let i = c.loop-r.r-index in let rs = c.args.records.now in
    let sofar = before ++ map (reception_at moment) (take i rs) in
    subst (SeesAs from c.add.new.self)
    (ap (λ r. sofar ++ reception_at moment r ∷ []) c.in_ok-found.ensures.cases
    ∙ map_more moment before rs i c.r-item.result c.loop-r-test.true c.r-item.is)
    (sees-push from c.loop-r.seen c.add.new.self sofar (reception_at moment c.in_ok-found.found)
    (c.loop-r.invariant from before held) c.in_ok-add.ensures)
