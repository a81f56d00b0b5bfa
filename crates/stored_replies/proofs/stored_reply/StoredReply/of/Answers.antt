use Rattle.std.proofs.Common.{◌≡◌, ℕ, ◌+◌, ◌-◌, Bool, List, [], ◌++◌, length, ap, ap₂, subst, sym, ◌∙◌}
use Rattle.hickory_proto_codes.specs.Codes.{response_code}
use Rattle.hickory_proto_wire.specs.Messages.{spelled_message}
use Rattle.hickory_proto_wire.specs.Written.{query_octets}
use Rattle.hickory_proto_wire.specs.declared.wire_message.WireMessage.{WireMessage}
use Rattle.whole_replies.specs.Kept.{KeptValue}
use Rattle.stored_replies.specs.Stored.{StoredValue, response_to, whole_octets, stored_at, stored_in}
use Rattle.stored_replies.specs.Walk.{IsStored, HaveNames, HaveFields, behind_question, behind_records, places_in, ttl_places}
use Rattle.stored_replies.proofs.Cut.{small_code}
use Rattle.stored_replies.proofs.Seen.{seen_as, is_stored}
use Rattle.stored_replies.proofs.Walked.{AreShort, are_short}
use Rattle.stored_replies.proofs.Whole.{asked_body, kept_records, fields_noted, places_noted, question_end}
use Rattle.stored_replies.proofs.stored_reply.StoredReply.of.Goals as goal

pub places_of-requires-clause-fields : goal.places_of-requires-clause-fields
places_of-requires-clause-fields c =
    let q = c.args.query.now in
    let k = c.args.kept in
    let o = c.in_ok-message.octets.items in
    let records : c.behind_question-records.result.now ≡ behind_question q o =
    c.behind_question-records.ensures.behind ∙ ap (behind_question q) c.deref.ensures.value in
    let short : AreShort q.name.labels = are_short q.name.labels c.behind_question-records.ensures.valid in
    let fields : HaveFields (k.answers ++ k.authorities) (behind_question q o) =
    fields_noted q k o short c.in_ok-message.ensures.octets in
    subst (λ (w : WireMessage). HaveFields (w.message.answers ++ w.message.authorities) c.behind_question-records.result.now)
    (sym c.in_ok-message.ensures.message) (subst (HaveFields (k.answers ++ k.authorities)) (sym records) fields)

pub invariant_of-result : goal.invariant_of-result
invariant_of-result c =
    let q = c.args.query.now in
    let k = c.args.kept in
    let o = c.in_ok-message.octets.items in
    let p = c.in_ok-places.places.items in
    let end = c.saturating_sub-question_end.result in
    let now = c.args.now in
    let m : c.in_ok-message.message ≡ response_to q k = c.in_ok-message.ensures.message in
    let written : o ≡ whole_octets (response_to q k) = c.in_ok-message.ensures.octets in
    let short : AreShort q.name.labels = are_short q.name.labels c.behind_question-records.ensures.valid in
    let answers : HaveNames k.answers =
    subst (λ (w : WireMessage). HaveNames w.message.answers) m c.in_ok-places.ensures.answers in
    let authorities : HaveNames k.authorities =
    subst (λ (w : WireMessage). HaveNames w.message.authorities) m c.in_ok-places.ensures.authorities in
    let records : c.behind_question-records.result.now ≡ behind_question q o =
    c.behind_question-records.ensures.behind ∙ ap (behind_question q) c.deref.ensures.value in
    let places : WireMessage → List ℕ → List ℕ → List ℕ =
    λ w t r. places_in (length t) w.message.answers r ++ places_in (length t) w.message.authorities (behind_records w.message.answers r) in
    let noted : p ≡ ttl_places (asked_body q) (kept_records k) =
    c.in_ok-places.ensures.places
    ∙ ap (λ (w : WireMessage). places w c.deref-2.result.now c.behind_question-records.result.now) m
    ∙ ap₂ (λ (t : List ℕ) (r : List ℕ). places (response_to q k) t r) c.deref-2.ensures.value records
    ∙ places_noted q k o short answers authorities written in
    let ends : end ≡ 12 + length (query_octets [] q) =
    c.saturating_sub-question_end.ensures
    ∙ ap₂ (λ (a : List ℕ) (b : List ℕ). length a - length b) (c.as_slice.ensures.value ∙ written)
    (records ∙ ap (behind_question q) written)
    ∙ question_end q k short in
    let whole : IsStored o p end (response_code k.code) k.authentic_data (stored_at q k now) =
    is_stored q k o p end now written noted ends c.in_ok-message.ensures.short (small_code q k c.in_ok-message.ensures.fault) in
    let code : c.code-code.result ≡ response_code k.code =
    c.code-code.ensures ∙ ap (λ (x : KeptValue). response_code x.code) c.kept.view_is in
    let held : c.kept.inside.authentic_data ≡ k.authentic_data = ap (λ (x : KeptValue). x.authentic_data) c.kept.view_is in
    let seen : stored_in (spelled_message o) c.kept.inside.seconds now ≡ stored_at q k now =
    ap (λ (x : KeptValue). stored_in (spelled_message o) x.seconds now) c.kept.view_is
    ∙ seen_as q k o now c.in_ok-message.ensures.read in
    let value : StoredValue = stored_in (spelled_message o) c.kept.inside.seconds now in
    subst (λ (b : Bool). IsStored o p end c.code-code.result b value) (sym held)
    (subst (λ (n : ℕ). IsStored o p end n k.authentic_data value) (sym code)
    (subst (λ (s : StoredValue). IsStored o p end (response_code k.code) k.authentic_data s) (sym seen) whole))
