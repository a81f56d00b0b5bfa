use Rattle.std.proofs.Common.{◌≡◌, length, ap, subst, ◌∙◌, rules}
use Rattle.stored_replies.specs.Stored.{StoredValue, stored_octets, record_number}
use Rattle.stored_replies.specs.Walk.{IsStored}
use Rattle.stored_replies.proofs.Telling.{places_counted}
use Rattle.stored_replies.proofs.stored_reply.StoredReply.weight.Goals as goal

pub returns : goal.returns
returns c =
    let v = c.args.self.now in
    let o = c.self.inside.octets.items in
    let p = c.self.inside.places.items in
    let end = c.self.inside.question_end in
    let inv : IsStored o p end c.self.inside.code c.self.inside.authentic_data v =
    subst (λ (s : StoredValue). IsStored o p end c.self.inside.code c.self.inside.authentic_data s) c.self.view_is c.self.invariant in
    let octets : length c.as_slice.result.now ≡ length (stored_octets v) = ap length (c.as_slice.ensures.value ∙ inv.written) in
    let places : length c.as_slice-2.result.now ≡ record_number v.kept =
    ap length (c.as_slice-2.ensures.value ∙ inv.noted) ∙ places_counted v in
    search rules
