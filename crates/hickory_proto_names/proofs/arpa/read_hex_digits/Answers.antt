-- A label that is no hex digit belongs to no network; any other is the next digit.
use Rattle.std.proofs.Common.{◌≡◌, ◌≢◌, ◌-◌, ◌<◌, ℕ, length, sym, ap, ◌∙◌, refl, arith, lit<, length-set}
use Rattle.hickory_proto_names.specs.Name.{lower_label, label_bytes}
use Rattle.hickory_proto_names.specs.Arpa.{hex_label, IsNeverWritten}
use Rattle.hickory_proto_names.proofs.ArpaLabels.{written_none, written_next, never_next}
use Rattle.hickory_proto_names.proofs.arpa.read_hex_digits.Goals as goal

pub returns-in_err-digits-clause-none : goal.returns-in_err-digits-clause-none
returns-in_err-digits-clause-none c =
    let vs = c.args.labels.now in
    let label = c.index-labels-labels.result in
    let none : (n : ℕ) → n < 16 → lower_label label.items ≢ hex_label n = λ n small e. c.in_err-digits.ensures.none n small (ap lower_label c.deref.ensures.value ∙ e) in
    let never : IsNeverWritten hex_label 16 32 (label_bytes vs) = never_next hex_label 16 32 vs (length vs - 1 - c.loop-i.i) label (omega arith) c.index-labels-labels.is none in
    rw c.from_residual.ensures never

pub loop-i-preserved : goal.loop-i-preserved
loop-i-preserved c =
    let vs = c.args.labels.now in
    let label = c.index-labels-labels.result in
    let e : lower_label label.items ≡ hex_label c.in_ok-digits.field-0 = ap lower_label (sym c.deref.ensures.value) ∙ c.in_ok-digits.ensures.found.1 in
    record {
      read = written_next hex_label 16 vs c.loop-i.i c.loop-i.digits c.in_ok-digits.field-0 label c.loop-i.invariant.read (omega arith) (omega arith) c.index-labels-labels.is e c.in_ok-digits.ensures.found.0;
      size = length-set c.loop-i.digits c.loop-i.i c.in_ok-digits.field-0 ∙ c.loop-i.invariant.size;
    }

pub loop-i-init : goal.loop-i-init
loop-i-init c = record { read = written_none hex_label 16 c.args.labels.now 32 (lit< tt); size = refl }
