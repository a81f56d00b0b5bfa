use Rattle.std.proofs.Common.{◌++◌, map, subst, take}
use Rattle.std.proofs.lemmas.List.{take_all}
use Rattle.trace_judge.specs.Index.{GapsSee}
use Rattle.trace_judge.specs.Receptions.{reception_at}
use Rattle.trace_judge.proofs.Standing.{map_more}
use Rattle.trace_judge.proofs.hearing.keep_gaps_in.Goals as goal

pub loop-r-preserved : goal.loop-r-preserved
loop-r-preserved c = λ from before held.
    let moment = c.args.moment in let i = c.loop-r.r-index in let rs = c.args.records.now in
    let sofar = before ++ map (reception_at moment) (take i rs) in
    subst (GapsSee from c.add.new.self)
    (map_more moment before rs i c.r-item.result c.loop-r-test.true c.r-item.is)
    (c.in_ok-add.ensures from sofar (c.loop-r.invariant from before held))

pub returns : goal.returns
returns c = λ from before held.
    subst (λ rs. GapsSee from c.loop-r.gaps (before ++ map (reception_at c.args.moment) rs))
    (take_all c.loop-r.r-index c.args.records.now c.loop-r-test.false) (c.loop-r.invariant from before held)
