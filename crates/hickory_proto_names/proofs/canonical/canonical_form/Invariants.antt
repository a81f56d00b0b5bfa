use Rattle.hickory_proto_names.proofs.CanonicalForms.{AreFormed}
use Rattle.hickory_proto_names.proofs.canonical.canonical_form.Given as goal

abbrev pub invariant-loop-label : goal.invariant-loop-label
invariant-loop-label l = AreFormed l.form.items l.label-index l.labels
