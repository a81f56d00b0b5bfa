use Rattle.std.proofs.Common.{◌∙◌, sym, ap, arith, subst, rules}
use Rattle.std.proofs.lemmas.Grind.{common_steps}
use Rattle.std.specs.Str.Lines.{lines}
use Rattle.replay_script.proofs.UnderWay.{UnderWay, begun}
use Rattle.replay_script.proofs.script.read_script.Goals as goal

pub loop-line-init : goal.loop-line-init
loop-line-init c =
    let P : _ → Type 0 = λ ls. UnderWay c.new-reader.result 0 c.args.script.now ls in
    let all = ap (λ s. lines s.rest.now) c.into_iter-line-iterator.ensures.into_iter_gives ∙ c.new-line-items.ensures in
    subst P (sym all) (begun c.new-reader.result c.args.script.now c.new-reader.ensures)

pub returns-in-Err : goal.returns-in-Err
returns-in-Err c = search rules

pub loop-line-preserved : goal.loop-line-preserved
loop-line-preserved c = grind (arith, common_steps)
