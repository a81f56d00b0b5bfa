use Rattle.std.proofs.Common.{◌≡◌, ◌∙◌, ◌++◌, ◌≤◌, ap, ap₂, min, arith, true}
use Rattle.hickory_proto_names.specs.Name.{label_fault, are_bytes, wire_len}
use Rattle.hickory_proto_names.proofs.NameParts.{label_bytes-appended, append-valid, append-bytes, wire_len-append}
use Rattle.hickory_proto_names.proofs.name.Name.append_domain.Goals as goal

pub shared-requires : goal.shared-requires
shared-requires c =
    let ls = c.args.self.labels in
    let ms = c.args.domain.now.labels in
    let more = c.in_ok-extend_with_clones.ensures.items in
    let parts = ap₂ ◌++◌ (c.in_ok-labels.ensures ∙ ap (λ n. n.labels) c.self.view_is) c.labels-3.ensures.labels in
    let same = label_bytes-appended _ _ _ more.0 more.1 more.2 ∙ parts in
    let first : c.wire_length.result ≡ min 256 (wire_len ls) = c.wire_length.ensures.value ∙ ap (λ l. min 256 (wire_len l)) c.labels.ensures.labels in
    let second : c.wire_length-2.result ≡ min 256 (wire_len ms) = c.wire_length-2.ensures.value ∙ ap (λ l. min 256 (wire_len l)) c.labels-2.ensures.labels in
    let short : wire_len (ls ++ ms) ≤ 255 = omega (arith, wire_len-append ls ms) in
    ap label_fault same ∙ append-valid ls ms c.labels.ensures.valid c.labels-2.ensures.valid short

pub invariant_of-result : goal.invariant_of-result
invariant_of-result c =
    let ls = c.args.self.labels in
    let ms = c.args.domain.now.labels in
    let more = c.in_ok-extend_with_clones.ensures.items in
    let parts = ap₂ ◌++◌ (c.in_ok-labels.ensures ∙ ap (λ n. n.labels) c.self.view_is) c.labels-3.ensures.labels in
    let same = c.in_ok-shared.ensures ∙ label_bytes-appended _ _ _ more.0 more.1 more.2 ∙ parts in
    let first : c.wire_length.result ≡ min 256 (wire_len ls) = c.wire_length.ensures.value ∙ ap (λ l. min 256 (wire_len l)) c.labels.ensures.labels in
    let second : c.wire_length-2.result ≡ min 256 (wire_len ms) = c.wire_length-2.ensures.value ∙ ap (λ l. min 256 (wire_len l)) c.labels-2.ensures.labels in
    let short : wire_len (ls ++ ms) ≤ 255 = omega (arith, wire_len-append ls ms) in (
      ap label_fault same ∙ append-valid ls ms c.labels.ensures.valid c.labels-2.ensures.valid short,
      ap are_bytes same ∙ append-bytes ls ms c.labels.ensures.bytes c.labels-2.ensures.bytes,
    )

pub returns-clause-ok : goal.returns-clause-ok
returns-clause-ok c =
    let more = c.in_ok-extend_with_clones.ensures.items in
    let parts = ap₂ ◌++◌ (c.in_ok-labels.ensures ∙ ap (λ n. n.labels) c.self.view_is) c.labels-3.ensures.labels in
    let same = c.in_ok-shared.ensures ∙ label_bytes-appended _ _ _ more.0 more.1 more.2 ∙ parts in
    ap (λ l. record { labels = l; fqdn = true }) same
