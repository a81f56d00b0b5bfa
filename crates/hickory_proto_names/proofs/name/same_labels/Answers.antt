use Rattle.std.proofs.Common.{ap₂, ◌∙◌, nat_eq}
use Rattle.std.specs.Cmp.Lexicographic.{pointwise}
use Rattle.hickory_proto_names.proofs.CanonicalForms.{canonical_same}
use Rattle.hickory_proto_names.proofs.name.same_labels.Goals as goal

pub returns-in-Some-Some : goal.returns-in-Some-Some
returns-in-Some-Some c =
    c.eq.ensures ∙ ap₂ (pointwise nat_eq) c.in-Some-Some.ensures c.in-Some-Some.ensures' ∙ canonical_same c.args.a.now c.args.b.now
