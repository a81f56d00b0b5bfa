use Rattle.std.proofs.Common.{◌≡◌, ℕ, Bool, ◌&&◌, ◌||◌, length, nat_lt, refl, ap, ap₂, subst, ◌∙◌}
use Rattle.hickory_proto_codes.specs.Codes.{response_code}
use Rattle.hickory_proto_wire.specs.Messages.{bit}
use Rattle.client_queries.specs.Refusals.{count_of}
use Rattle.stored_replies.specs.Stored.{StoredValue, record_number}
use Rattle.stored_replies.specs.Told.{asks_dnssec, is_told_authentic, told_flags}
use Rattle.stored_replies.specs.Walk.{IsStored}
use Rattle.stored_replies.proofs.Header.{counts_low, header_listed}
use Rattle.stored_replies.proofs.Telling.{places_counted}
use Rattle.stored_replies.proofs.stored_reply.StoredReply.cut_head.Goals as goal

pub returns : goal.returns
returns c =
    let v = c.args.self.now in
    let o = c.self.inside.octets.items in
    let p = c.self.inside.places.items in
    let end = c.self.inside.question_end in
    let inv : IsStored o p end c.self.inside.code c.self.inside.authentic_data v =
    subst (λ (s : StoredValue). IsStored o p end c.self.inside.code c.self.inside.authentic_data s) c.self.view_is c.self.invariant in
    let q = c.args.query.now in
    let count : length c.as_slice.result.now ≡ record_number v.kept =
    ap length (c.as_slice.ensures.value ∙ inv.noted) ∙ places_counted v in
    let flags : c.told_flags-flags.result
    ≡ told_flags q.flags (nat_lt 0 (record_number v.kept)) (is_told_authentic c.args.trust v.kept q) (response_code v.kept.code) =
    c.told_flags-flags.ensures
    ∙ ap (λ (n : ℕ). told_flags q.flags (nat_lt 0 n) c.is_told_authentic-authentic.result c.self.inside.code) count
    ∙ ap₂ (λ (a : Bool) (k : ℕ). told_flags q.flags (nat_lt 0 (record_number v.kept)) a k)
    (c.is_told_authentic-authentic.ensures
    ∙ ap (λ (a : Bool). c.args.trust && a && (bit 32 q.flags || asks_dnssec q.edns)) inv.held) inv.coded in
    c.header.ensures
    ∙ header_listed q.id c.told_flags-flags.result
    (told_flags q.flags (nat_lt 0 (record_number v.kept)) (is_told_authentic c.args.trust v.kept q) (response_code v.kept.code))
    0 0 0 0 (count_of q.edns) 0 0 (count_of q.edns) flags refl refl refl refl refl (counts_low q.edns)
