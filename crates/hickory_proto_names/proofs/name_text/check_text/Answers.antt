use Rattle.std.proofs.Common.{◌++◌, ◌∷◌, [], refl, sym, ◌∙◌, ap, arith}
use Rattle.std.proofs.lemmas.Result.{err_from_is_err_and}
use Rattle.hickory_proto_names.specs.NameText.{front_fault, may_stand}
use Rattle.hickory_proto_names.specs.NameSteps.{cut-char, cut-dot, fault_here}
use Rattle.hickory_proto_names.proofs.NameMeasure.{empty_at, none_measured, one_longer, pieces_measured, IsScanned, scanned-run, named_at_end, fault_at_end}
use Rattle.hickory_proto_names.proofs.name_text.check_text.Goals as goal

pub loop-character-init : goal.loop-character-init
loop-character-init c =
    ([], [], record { some = omega arith; spelled = refl; stand = refl }, rw c.new-labels.ensures none_measured, refl)

pub returns-in_err-character-clause-err : goal.returns-in_err-character-clause-err
returns-in_err-character-clause-err c =
    let i : IsScanned c.args.text.now c.split_run.result.1.now c.loop-character.labels c.min-length.result =
    scanned-run c.loop-character.labels c.loop-character.length c.min-length.result c.split_run.result.0.now c.loop-character.invariant c.split_run.ensures c.min-length.ensures in
    let p = err_from_is_err_and c.from_residual.result c.from_residual.ensures.1 in
    let first = empty_at c.min-length.result i.1 i.4 in
    rw (p.1, p.2) (fault_here c.split_run.result.1.now i.0 i.1 _ i.2 (ap (λ f. front_fault f c.split_run.result.1.now) (sym first) ∙ c.in_err-character.ensures.err))

pub loop-character-preserved-in-Byte : goal.loop-character-preserved-in-Byte
loop-character-preserved-in-Byte c =
    let i : IsScanned c.args.text.now c.split_run.result.1.now c.loop-character.labels c.min-length.result =
    scanned-run c.loop-character.labels c.loop-character.length c.min-length.result c.split_run.result.0.now c.loop-character.invariant c.split_run.ensures c.min-length.ensures in
    let first = empty_at c.min-length.result i.1 i.4 in
    let front = rw (c.in-Some.is, c.in-Byte.is) at c.in_ok-character.ensures.ok in (
      i.0,
      i.1 ++ front.0 ∷ [],
      cut-char i.0 i.1 front.0 i.2 front.1 (ap (λ f. may_stand f front.0) (sym first) ∙ front.2),
      i.3,
      c.min-length-in-Byte.ensures ∙ one_longer c.min-length.result i.1 front.0 i.4,
    )

pub loop-character-preserved : goal.loop-character-preserved
loop-character-preserved c =
    let i : IsScanned c.args.text.now c.split_run.result.1.now c.loop-character.labels c.min-length.result =
    scanned-run c.loop-character.labels c.loop-character.length c.min-length.result c.split_run.result.0.now c.loop-character.invariant c.split_run.ensures c.min-length.ensures in
    let front = rw (c.in-Some.is, c.in-Dot.is) at c.in_ok-character.ensures.ok in
    (i.0 ++ i.1 ∷ [], [], cut-dot i.0 i.1 i.2 front, rw c.with_label-labels.ensures (pieces_measured _ i.0 i.1 _ i.3 i.4), refl)

pub returns-in_default-clause-ok : goal.returns-in_default-clause-ok
returns-in_default-clause-ok c =
    let i : IsScanned c.args.text.now c.split_run.result.1.now c.loop-character.labels c.min-length.result =
    scanned-run c.loop-character.labels c.loop-character.length c.min-length.result c.split_run.result.0.now c.loop-character.invariant c.split_run.ensures c.min-length.ensures in
    let end = rw c.in_default.is at c.in_ok-character.ensures.ok in
    named_at_end c.args.text.now c.loop-character.labels c.min-length.result c.check.result (i.0, i.1, rw (← end) i.2, i.3, i.4) (rw (← c.with_last.ensures) c.check.ensures.ok)

pub returns-in_default-clause-err : goal.returns-in_default-clause-err
returns-in_default-clause-err c =
    let i : IsScanned c.args.text.now c.split_run.result.1.now c.loop-character.labels c.min-length.result =
    scanned-run c.loop-character.labels c.loop-character.length c.min-length.result c.split_run.result.0.now c.loop-character.invariant c.split_run.ensures c.min-length.ensures in
    let end = rw c.in_default.is at c.in_ok-character.ensures.ok in
    fault_at_end c.args.text.now c.loop-character.labels c.min-length.result c.check.result (i.0, i.1, rw (← end) i.2, i.3, i.4) (rw (← c.with_last.ensures) c.check.ensures.err)
