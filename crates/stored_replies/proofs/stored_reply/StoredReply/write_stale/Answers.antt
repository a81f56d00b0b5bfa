-- The TTLs of what was written are set.
use Rattle.std.proofs.Common.{◌≤◌, ◌∙◌, subst, arith}
use Rattle.hickory_proto_codes.specs.Codes.{response_code}
use Rattle.stored_replies.specs.Stored.{StoredValue}
use Rattle.stored_replies.specs.Walk.{IsStored}
use Rattle.stored_replies.proofs.Stale.{stale_unwritten, stale_written}
use Rattle.stored_replies.proofs.stored_reply.StoredReply.write_stale.Goals as goal

-- src/stored_reply.rt
pub returns-in-Some-clause-length : goal.returns-in-Some-clause-length
returns-in-Some-clause-length c =
    let v = c.args.self.now in
    let o = c.self.inside.octets.items in
    let p = c.self.inside.places.items in
    let inv : IsStored o p c.self.inside.question_end c.self.inside.code c.self.inside.authentic_data v =
    subst (λ (s : StoredValue).
    IsStored o p c.self.inside.question_end c.self.inside.code c.self.inside.authentic_data s) c.self.view_is
    c.self.invariant in
    let coded = inv.coded in
    let small = inv.small in
    let low : response_code v.kept.code ≤ 15 = omega (arith, coded, small) in
    (stale_written c.args.octets.now c.args.query.now v c.self.inside.moment low c.args.room.now c.write.new.room
    c.set_ttls.new.room c.deref.result.now c.in-Some.length (c.deref.ensures.value ∙ inv.noted) c.in-Some.ensures.length
    c.in-Some.ensures.room c.set_ttls.ensures).0

pub returns-in-Some-clause-room : goal.returns-in-Some-clause-room
returns-in-Some-clause-room c =
    let v = c.args.self.now in
    let o = c.self.inside.octets.items in
    let p = c.self.inside.places.items in
    let inv : IsStored o p c.self.inside.question_end c.self.inside.code c.self.inside.authentic_data v =
    subst (λ (s : StoredValue).
    IsStored o p c.self.inside.question_end c.self.inside.code c.self.inside.authentic_data s) c.self.view_is
    c.self.invariant in
    let coded = inv.coded in
    let small = inv.small in
    let low : response_code v.kept.code ≤ 15 = omega (arith, coded, small) in
    (stale_written c.args.octets.now c.args.query.now v c.self.inside.moment low c.args.room.now c.write.new.room
    c.set_ttls.new.room c.deref.result.now c.in-Some.length (c.deref.ensures.value ∙ inv.noted) c.in-Some.ensures.length
    c.in-Some.ensures.room c.set_ttls.ensures).1

pub returns-in-None-clause-length : goal.returns-in-None-clause-length
returns-in-None-clause-length c =
    let v = c.args.self.now in
    let o = c.self.inside.octets.items in
    let p = c.self.inside.places.items in
    let inv : IsStored o p c.self.inside.question_end c.self.inside.code c.self.inside.authentic_data v =
    subst (λ (s : StoredValue).
    IsStored o p c.self.inside.question_end c.self.inside.code c.self.inside.authentic_data s) c.self.view_is
    c.self.invariant in
    let coded = inv.coded in
    let small = inv.small in
    let low : response_code v.kept.code ≤ 15 = omega (arith, coded, small) in
    (stale_unwritten c.args.octets.now c.args.query.now v c.self.inside.moment low c.args.room.now c.write.new.room
    c.in-None.ensures.length c.in-None.ensures.room).0

pub returns-in-None-clause-room : goal.returns-in-None-clause-room
returns-in-None-clause-room c =
    let v = c.args.self.now in
    let o = c.self.inside.octets.items in
    let p = c.self.inside.places.items in
    let inv : IsStored o p c.self.inside.question_end c.self.inside.code c.self.inside.authentic_data v =
    subst (λ (s : StoredValue).
    IsStored o p c.self.inside.question_end c.self.inside.code c.self.inside.authentic_data s) c.self.view_is
    c.self.invariant in
    let coded = inv.coded in
    let small = inv.small in
    let low : response_code v.kept.code ≤ 15 = omega (arith, coded, small) in
    (stale_unwritten c.args.octets.now c.args.query.now v c.self.inside.moment low c.args.room.now c.write.new.room
    c.in-None.ensures.length c.in-None.ensures.room).1
