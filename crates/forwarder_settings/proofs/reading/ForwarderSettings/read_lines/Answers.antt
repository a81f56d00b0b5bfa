use Rattle.std.proofs.Common.{◌∙◌, sym, ap, subst}
use Rattle.std.specs.Str.Lines.{lines}
use Rattle.forwarder_settings.proofs.UnderWay.{UnderWay, begun}
use Rattle.forwarder_settings.proofs.reading.ForwarderSettings.read_lines.Goals as goal

pub loop-line-init : goal.loop-line-init
loop-line-init c =
    let P : _ → Type 0 = λ ls. UnderWay c.args.self c.args.self 0 c.args.text.now ls in
    let all = ap (λ s. lines s.rest.now) c.into_iter-line-iterator.ensures.into_iter_gives ∙ c.new-line-items.ensures in
    subst P (sym all) (begun c.args.self c.args.text.now)
