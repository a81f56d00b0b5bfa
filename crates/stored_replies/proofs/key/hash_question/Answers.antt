use Rattle.std.proofs.Common.{List, ℕ, ap, ap₂, ◌∙◌}
use Rattle.std.specs.List.{fold}
use Rattle.hickory_proto_core.specs.Name.{lower_label}
use Rattle.stored_replies.specs.Key.{octet_by_octet}
use Rattle.stored_replies.proofs.Keys.{fed_both}
use Rattle.stored_replies.proofs.key.hash_question.Goals as goal

pub returns : goal.returns
returns g c =
    let write = g.H.Hasher.write in
    c.hash_octets.ensures
    ∙ ap₂ (λ s (o : List ℕ). fold write s (octet_by_octet o))
    (c.hash_lower.ensures ∙ ap (λ (o : List ℕ). fold write c.args.hasher.now (octet_by_octet (lower_label o))) c.name_part.ensures)
    c.codes_part.ensures
    ∙ fed_both write c.args.hasher.now c.args.question.now
