use Rattle.std.proofs.Common.{◌-◌, take, drop, ap, subst, ◌∙◌}
use Rattle.stored_replies.specs.Stored.{StoredValue}
use Rattle.stored_replies.specs.Walk.{IsStored}
use Rattle.stored_replies.proofs.Telling.{own_stored}
use Rattle.stored_replies.proofs.stored_reply.StoredReply.question.Goals as goal

pub returns : goal.returns
returns c =
    let v = c.args.self.now in
    let o = c.self.inside.octets.items in
    let p = c.self.inside.places.items in
    let end = c.self.inside.question_end in
    let inv : IsStored o p end c.self.inside.code c.self.inside.authentic_data v =
    subst (λ (s : StoredValue). IsStored o p end c.self.inside.code c.self.inside.authentic_data s) c.self.view_is c.self.invariant in
    c.first.ensures ∙ ap (take (end - 12)) (c.behind.ensures ∙ ap (drop 12) (c.deref.ensures.value ∙ inv.written))
    ∙ own_stored v end inv.question
