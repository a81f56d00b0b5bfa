-- A label that is no number below 256 belongs to no network; any other is the next octet.
use Rattle.std.proofs.Common.{◌≡◌, ◌≢◌, ◌-◌, ◌<◌, ℕ, length, sym, ap, ◌∙◌, arith, length-set, decimal}
use Rattle.hickory_proto_names.specs.Name.{lower_label, label_bytes}
use Rattle.hickory_proto_names.specs.Arpa.{IsNeverWritten}
use Rattle.hickory_proto_names.proofs.ArpaLabels.{written_next, never_next}
use Rattle.hickory_proto_names.proofs.arpa.read_octets.Goals as goal

pub returns-in_err-octets-clause-none : goal.returns-in_err-octets-clause-none
returns-in_err-octets-clause-none c =
    let vs = c.args.labels.now in
    let label = c.index-labels-labels.result in
    let none : (n : ℕ) → n < 256 → lower_label label.items ≢ decimal n = λ n small e. c.in_err-octets.ensures.none n small (ap lower_label c.deref.ensures.value ∙ e) in
    let never : IsNeverWritten decimal 256 4 (label_bytes vs) = never_next decimal 256 4 vs (length vs - 1 - c.loop-i.i) label (omega arith) c.index-labels-labels.is none in
    rw c.from_residual.ensures never

pub loop-i-preserved : goal.loop-i-preserved
loop-i-preserved c =
    let vs = c.args.labels.now in
    let label = c.index-labels-labels.result in
    let e : lower_label label.items ≡ decimal c.in_ok-octets.field-0 = ap lower_label (sym c.deref.ensures.value) ∙ c.in_ok-octets.ensures.found in
    record {
      read = written_next decimal 256 vs c.loop-i.i c.loop-i.octets c.in_ok-octets.field-0 label c.loop-i.invariant.read (omega arith) (omega arith) c.index-labels-labels.is e (omega arith);
      size = length-set c.loop-i.octets c.loop-i.i c.in_ok-octets.field-0 ∙ c.loop-i.invariant.size;
    }
