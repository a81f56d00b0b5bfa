use Rattle.std.proofs.Common.{subst}
use Rattle.stored_replies.specs.Stored.{StoredValue}
use Rattle.stored_replies.specs.Walk.{IsStored}
use Rattle.stored_replies.proofs.stored_reply.StoredReply.code.Goals as goal

pub returns : goal.returns
returns c =
    let o = c.self.inside.octets.items in
    let p = c.self.inside.places.items in
    let end = c.self.inside.question_end in
    let inv : IsStored o p end c.self.inside.code c.self.inside.authentic_data c.args.self.now =
    subst (λ (s : StoredValue). IsStored o p end c.self.inside.code c.self.inside.authentic_data s) c.self.view_is
    c.self.invariant in
    inv.coded
