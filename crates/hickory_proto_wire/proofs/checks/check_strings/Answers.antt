use Rattle.std.proofs.Common.{ℕ, List, ap, sym, ◌∙◌}
use Rattle.std.proofs.lemmas.Result.{err_from_is_err_and}
use Rattle.hickory_proto_wire.specs.Refused.{string_fault}
use Rattle.hickory_proto_wire.proofs.Strings.{vector_fault, as_vectors}
use Rattle.hickory_proto_wire.proofs.Faults.{more_none, fault_found, all_none}
use Rattle.hickory_proto_wire.proofs.checks.check_strings.Goals as goal

pub returns-in_err-check_string : goal.returns-in_err-check_string
returns-in_err-check_string c =
    let p = err_from_is_err_and c.from_residual.result c.from_residual.ensures.1 in
    rw (p.1, p.2)
    (as_vectors c.args.strings.now
    ∙ fault_found vector_fault c.args.strings.now c.loop-i.i c.index-strings-i.result _ c.loop-i-test.true
    c.index-strings-i.is c.loop-i.invariant
    (ap (λ (x : List ℕ). string_fault x) (sym c.deref.ensures.value) ∙ c.in_err-check_string.ensures))

pub loop-i-preserved : goal.loop-i-preserved
loop-i-preserved c =
    more_none vector_fault c.args.strings.now c.loop-i.i c.index-strings-i.result c.loop-i-test.true c.index-strings-i.is
    c.loop-i.invariant
    (ap (λ (x : List ℕ). string_fault x) (sym c.deref.ensures.value) ∙ c.in_ok-check_string.ensures)

pub returns : goal.returns
returns c =
    as_vectors c.args.strings.now
    ∙ all_none vector_fault c.args.strings.now c.loop-i.i c.loop-i-test.false c.loop-i.invariant
