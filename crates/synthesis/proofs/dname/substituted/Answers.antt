use Rattle.std.proofs.Common.{◌≡◌, ◌∙◌, ◌-◌, ◌++◌, ap, ap₂, length, sym, take}
use Rattle.std.proofs.lemmas.List.{length-map}
use Rattle.hickory_proto_core.specs.Name.{label_bytes}
use Rattle.synthesis.proofs.Steps.{take_labels}
use Rattle.synthesis.proofs.dname.substituted.Goals as goal

pub returns : goal.returns
returns c =
    let ls = c.labels-labels.result.now in
    let kept : c.saturating_sub-kept.result ≡ length c.args.name.now.labels - c.args.count
    = c.saturating_sub-kept.ensures
    ∙ ap (λ k. k - c.args.count) (sym (length-map ls (λ v. v.items)) ∙ ap length c.labels-labels.ensures.labels) in
    c.in_ok-add_labels-2.ensures
    ∙ ap₂ ◌++◌ (c.in_ok-add_labels.ensures
    ∙ ap (λ xs. label_bytes xs ++ label_bytes (take c.saturating_sub-kept.result ls)) c.new-made.ensures.items
    ∙ take_labels c.saturating_sub-kept.result ls ∙ ap₂ take kept c.labels-labels.ensures.labels) c.labels.ensures.labels
