use Rattle.std.proofs.Common.{◌∙◌, ◌++◌, ◌≤◌, length, ap, ap₂, refl, arith, true}
use Rattle.std.proofs.lemmas.List.{length-map}
use Rattle.hickory_proto_names.specs.Name.{label_bytes, label_fault, are_bytes, trimmed_name}
use Rattle.hickory_proto_names.proofs.NameParts.{label_bytes-appended, last-labels, trimmed-enough, drop-valid, drop-bytes}
use Rattle.hickory_proto_names.proofs.name.Name.trim_to.Goals as goal

pub shared-requires : goal.shared-requires
shared-requires c =
    let vs = c.labels-all.result.now in
    let all = c.labels-all.ensures in
    let more = c.in_ok-extend_with_clones.ensures.items in
    let last = ap₂ (λ a b. label_bytes a ++ b) c.new-labels.ensures.items (last-labels vs vs _ c.args.n refl refl) in
    let same = label_bytes-appended _ _ _ more.0 more.1 more.2 ∙ last in
    ap label_fault same ∙ drop-valid _ (label_bytes vs) (ap label_fault all.labels ∙ all.valid)

pub invariant_of-result : goal.invariant_of-result
invariant_of-result c =
    let vs = c.labels-all.result.now in
    let all = c.labels-all.ensures in
    let more = c.in_ok-extend_with_clones.ensures.items in
    let last = ap₂ (λ a b. label_bytes a ++ b) c.new-labels.ensures.items (last-labels vs vs _ c.args.n refl refl) in
    let same = c.in_ok-shared.ensures ∙ label_bytes-appended _ _ _ more.0 more.1 more.2 ∙ last in (
      ap label_fault same ∙ drop-valid _ (label_bytes vs) (ap label_fault all.labels ∙ all.valid),
      ap are_bytes same ∙ drop-bytes _ (label_bytes vs) (ap are_bytes all.labels ∙ all.bytes),
    )

pub returns-clause-ok : goal.returns-clause-ok
returns-clause-ok c =
    let vs = c.labels-all.result.now in
    let more = c.in_ok-extend_with_clones.ensures.items in
    let last = ap₂ (λ a b. label_bytes a ++ b) c.new-labels.ensures.items (last-labels vs vs _ c.args.n refl refl) in
    let same = c.in_ok-shared.ensures ∙ label_bytes-appended _ _ _ more.0 more.1 more.2 ∙ last in
    let enough : c.args.n ≤ length (label_bytes vs) = omega (arith, length-map vs (λ v. v.items)) in
    ap (λ l. record { labels = l; fqdn = true }) same
    ∙ trimmed-enough c.args.n (record { labels = label_bytes vs; fqdn = c.args.self.now.fqdn }) enough
    ∙ ap (λ l. trimmed_name c.args.n (record { labels = l; fqdn = c.args.self.now.fqdn })) c.labels-all.ensures.labels
