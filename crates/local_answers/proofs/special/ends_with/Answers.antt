use Rattle.std.proofs.Common.{◌≡◌, ◌+◌, ◌-◌, length, drop, ◌∙◌, refl, sym, ap, arith}
use Rattle.std.specs.Cmp.Lexicographic.{pointwise}
use Rattle.local_answers.proofs.Endings.{same_label, ends-from, from_place, all_compared}
use Rattle.local_answers.proofs.special.ends_with.Goals as goal

pub returns-then-not-label_eq : goal.returns-then-not-label_eq
returns-then-not-label_eq c =
    let zs = c.args.zone.now in
    let vs = c.args.labels.now in
    sym (sym (ends-from zs vs _ refl) ∙ sym c.loop-i.invariant
    ∙ from_place zs vs c.loop-i.i (length vs - length zs + c.loop-i.i) _ _ _ _ c.if-not-label_eq.ensures
    c.deref.ensures.value c.index-labels-above.is (omega arith) (omega arith))

pub loop-i-preserved : goal.loop-i-preserved
loop-i-preserved c =
    let zs = c.args.zone.now in
    let vs = c.args.labels.now in
    let next : length vs - length zs + (c.loop-i.i + 1) ≡ length vs - length zs + c.loop-i.i + 1 = omega arith in
    ap (λ n. pointwise same_label (drop (c.loop-i.i + 1) zs) (drop n vs)) next
    ∙ sym (from_place zs vs c.loop-i.i (length vs - length zs + c.loop-i.i) _ _ _ _ c.if-not-label_eq.ensures
    c.deref.ensures.value c.index-labels-above.is (omega arith) (omega arith))
    ∙ c.loop-i.invariant

pub returns : goal.returns
returns c =
    let zs = c.args.zone.now in
    let vs = c.args.labels.now in
    sym (all_compared zs vs c.loop-i.i _ c.loop-i-test.false (omega arith)) ∙ c.loop-i.invariant
    ∙ ends-from zs vs _ refl
