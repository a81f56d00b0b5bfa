use Rattle.std.proofs.Common.{refl, false, ◌≡◌, ℕ, Bool, List, ◌/◌, ◌%◌, ◌&&◌, ◌||◌, length, get_or, ap, ap₂, subst, ◌∙◌}
use Rattle.hickory_proto_codes.specs.Codes.{response_code}
use Rattle.hickory_proto_wire.specs.Messages.{bit}
use Rattle.client_queries.specs.Refusals.{count_of}
use Rattle.stored_replies.specs.Stored.{StoredValue}
use Rattle.stored_replies.specs.Told.{asks_dnssec, is_told_authentic, told_flags}
use Rattle.stored_replies.specs.Walk.{IsStored}
use Rattle.stored_replies.proofs.Header.{stored_from, counts_low, header_listed}
use Rattle.stored_replies.proofs.stored_reply.StoredReply.head.Goals as goal

pub returns : goal.returns
returns c =
    let v = c.args.self.now in
    let o = c.self.inside.octets.items in
    let p = c.self.inside.places.items in
    let end = c.self.inside.question_end in
    let inv : IsStored o p end c.self.inside.code c.self.inside.authentic_data v =
    subst (λ (s : StoredValue). IsStored o p end c.self.inside.code c.self.inside.authentic_data s) c.self.view_is c.self.invariant in
    let q = c.args.query.now in
    let flags : c.told_flags-flags.result ≡ told_flags q.flags false (is_told_authentic c.args.trust v.kept q) (response_code v.kept.code) =
    c.told_flags-flags.ensures
    ∙ ap₂ (λ (a : Bool) (k : ℕ). told_flags q.flags false a k)
    (c.is_told_authentic-authentic.ensures
    ∙ ap (λ (a : Bool). c.args.trust && a && (bit 32 q.flags || asks_dnssec q.edns)) inv.held) inv.coded in
    let whole = inv.written ∙ stored_from v.query v.kept in
    let o6 : c.octet_at.result ≡ length v.kept.answers / 256 =
    c.octet_at.ensures ∙ ap (λ (x : List ℕ). get_or x 6 0) (c.deref.ensures.value ∙ whole) in
    let o7 : c.octet_at-2.result ≡ length v.kept.answers % 256 =
    c.octet_at-2.ensures ∙ ap (λ (x : List ℕ). get_or x 7 0) (c.deref-2.ensures.value ∙ whole) in
    let o8 : c.octet_at-3.result ≡ length v.kept.authorities / 256 =
    c.octet_at-3.ensures ∙ ap (λ (x : List ℕ). get_or x 8 0) (c.deref-3.ensures.value ∙ whole) in
    let o9 : c.octet_at-4.result ≡ length v.kept.authorities % 256 =
    c.octet_at-4.ensures ∙ ap (λ (x : List ℕ). get_or x 9 0) (c.deref-4.ensures.value ∙ whole) in
    c.header.ensures
    ∙ header_listed q.id c.told_flags-flags.result (told_flags q.flags false (is_told_authentic c.args.trust v.kept q) (response_code v.kept.code))
    c.octet_at.result c.octet_at-2.result c.octet_at-3.result c.octet_at-4.result (count_of q.edns) (length v.kept.answers)
    (length v.kept.authorities) (count_of q.edns) flags o6 o7 o8 o9 refl (counts_low q.edns)
