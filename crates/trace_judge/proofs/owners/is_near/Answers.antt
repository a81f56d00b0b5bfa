use Rattle.std.proofs.Common.{◌∙◌, ap, sym}
use Rattle.trace_judge.specs.Index.{any_late}
use Rattle.trace_judge.specs.MadeIndex.{gap_makes}
use Rattle.trace_judge.proofs.owners.is_near.Goals as goal

pub returns-then-branch : goal.returns-then-branch
returns-then-branch c = λ near.
    let late = any_late c.args.from (gap_makes c.args.dns_class c.args.gap.now) in
    c.in-Some-nearest.ensures late
    (ap late (sym c.as_slice.ensures) ∙ sym c.in_ok-any_makes.ensures ∙ c.if-branch.true)
