use Rattle.std.proofs.Common.{◌∙◌, ◌+◌, ℕ, Bool, length, sym, arith}
use Rattle.hickory_proto_core.specs.Name.{trimmed_name}
use Rattle.trace_judge.specs.Hashed.{is_denied_in, is_of_chain}
use Rattle.trace_judge.specs.Making.{lasts}
use Rattle.trace_judge.proofs.Owning.{some_at}
use Rattle.trace_judge.proofs.hashed.is_denied_hashed.Goals as goal

pub returns-then-branch : goal.returns-then-branch
returns-then-branch c = λ e s.
    let name = c.args.name.now in
    let test : ℕ → Bool = λ count. lasts e c.args.until (is_of_chain c.args.dns_class (trimmed_name count name)
    (is_denied_in (lasts e c.args.until) c.args.dns_class name c.args.denied)) in
    sym (some_at (length name.labels + 1) c.loop-count.count test (omega (arith, c.label_count-count-end.ensures.value))
    (sym (c.in_ok-is_denied_at.ensures e s) ∙ c.if-branch.true))
