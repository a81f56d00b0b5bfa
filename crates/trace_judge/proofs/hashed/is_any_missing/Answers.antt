use Rattle.std.proofs.Common.{◌∙◌, length, sym, arith}
use Rattle.trace_judge.specs.Hashed.{is_missing}
use Rattle.trace_judge.specs.Making.{lasts}
use Rattle.trace_judge.proofs.Owning.{some_at}
use Rattle.trace_judge.proofs.hashed.is_any_missing.Goals as goal

pub returns-then-branch : goal.returns-then-branch
returns-then-branch c = λ e s.
    let name = c.args.name.now in
    sym (some_at (length name.labels) c.loop-count.count
    (is_missing (lasts e c.args.until) c.args.dns_class c.args.chain.now name c.args.denied) (omega (arith, c.label_count-count-end.ensures.value))
    (sym (c.in_ok-is_missing.ensures e s) ∙ c.if-branch.true))
