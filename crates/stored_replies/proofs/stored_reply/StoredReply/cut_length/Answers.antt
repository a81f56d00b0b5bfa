use Rattle.std.proofs.Common.{◌≤◌, subst, arith}
use Rattle.hickory_proto_codes.specs.Codes.{response_code}
use Rattle.stored_replies.specs.Stored.{StoredValue}
use Rattle.stored_replies.specs.Walk.{IsStored}
use Rattle.stored_replies.proofs.Telling.{cut_length, ends_within}
use Rattle.stored_replies.proofs.stored_reply.StoredReply.cut_length.Goals as goal

pub overflow_add-result : goal.overflow_add-result
overflow_add-result c =
    let within = ends_within _ _ _ _ _ _ c.self.invariant in
    let small = c.opt_length.ensures.small in
    omega (arith, within, small)

pub returns-clause-value : goal.returns-clause-value
returns-clause-value c =
    let v = c.args.self.now in
    let o = c.self.inside.octets.items in
    let p = c.self.inside.places.items in
    let end = c.self.inside.question_end in
    let inv : IsStored o p end c.self.inside.code c.self.inside.authentic_data v =
    subst (λ (s : StoredValue). IsStored o p end c.self.inside.code c.self.inside.authentic_data s) c.self.view_is c.self.invariant in
    let ends = inv.question in
    omega (arith, ends, c.opt_length.ensures.value)

pub returns-clause-told : goal.returns-clause-told
returns-clause-told c = λ octets trust now asked.
    let v = c.args.self.now in
    let o = c.self.inside.octets.items in
    let p = c.self.inside.places.items in
    let end = c.self.inside.question_end in
    let inv : IsStored o p end c.self.inside.code c.self.inside.authentic_data v =
    subst (λ (s : StoredValue). IsStored o p end c.self.inside.code c.self.inside.authentic_data s) c.self.view_is c.self.invariant in
    let coded = inv.coded in
    let small = inv.small in
    let ends = inv.question in
    let low : response_code v.kept.code ≤ 15 = omega (arith, coded, small) in
    let told = cut_length octets c.args.query.now v trust now low asked in
    omega (arith, told, ends, c.opt_length.ensures.value)
