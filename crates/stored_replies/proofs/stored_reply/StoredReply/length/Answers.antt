use Rattle.std.proofs.Common.{◌≡◌, ◌≤◌, length, ap, subst, ◌∙◌, arith}
use Rattle.hickory_proto_codes.specs.Codes.{response_code}
use Rattle.stored_replies.specs.Stored.{StoredValue, stored_octets}
use Rattle.stored_replies.specs.Walk.{IsStored}
use Rattle.stored_replies.proofs.Telling.{told_length}
use Rattle.stored_replies.proofs.stored_reply.StoredReply.length.Goals as goal

pub returns-clause-told : goal.returns-clause-told
returns-clause-told c = λ octets trust now asked.
    let v = c.args.self.now in
    let o = c.self.inside.octets.items in
    let p = c.self.inside.places.items in
    let end = c.self.inside.question_end in
    let inv : IsStored o p end c.self.inside.code c.self.inside.authentic_data v =
    subst (λ (s : StoredValue). IsStored o p end c.self.inside.code c.self.inside.authentic_data s) c.self.view_is c.self.invariant in
    let coded = inv.coded in
    let small = inv.small in
    let low : response_code v.kept.code ≤ 15 = omega (arith, coded, small) in
    let told = told_length octets c.args.query.now v trust now low asked in
    let whole : length c.as_slice.result.now ≡ length (stored_octets v) = ap length (c.as_slice.ensures.value ∙ inv.written) in
    omega (arith, told, whole, c.opt_length.ensures.value)
