use Rattle.std.proofs.Common.{◌≡◌, ℕ, ◌-◌, ◌≤◌, List, ◌++◌, length, drop, ap, ap₂, subst, sym, ◌∙◌, arith}
use Rattle.hickory_proto_codes.specs.Codes.{response_code}
use Rattle.hickory_proto_wire.specs.Messages.{spelled_message}
use Rattle.stored_replies.specs.Stored.{StoredValue, stored_octets, whole_octets, elapsed}
use Rattle.stored_replies.specs.Told.{own_question, told_message, with_question}
use Rattle.stored_replies.specs.Walk.{IsStored, over, lowered, places_of}
use Rattle.stored_replies.proofs.Header.{told_header_is}
use Rattle.stored_replies.proofs.Keys.{same_length}
use Rattle.stored_replies.proofs.Seen.{moment_in}
use Rattle.stored_replies.proofs.Telling.{old_records, new_records, told_opt, asked_parts, stored_records, written_room}
use Rattle.stored_replies.proofs.Whole.{stored_length}
use Rattle.stored_replies.proofs.stored_reply.StoredReply.fill.Goals as goal

pub put_at-requires : goal.put_at-requires
put_at-requires c =
    let v = c.args.self.now in
    let twelve : length c.head.result ≡ 12 = ap length c.head.ensures in
    omega (arith, twelve, c.requires.fits, stored_length v.query v.kept)

pub put_at-requires-2 : goal.put_at-requires-2
put_at-requires-2 c =
    let v = c.args.self.now in
    let same : length c.args.question.now ≡ length (own_question v) =
    same_length c.args.question.now (own_question v) c.requires.asked in
    omega (arith, same, c.requires.fits, stored_length v.query v.kept)

pub returns : goal.returns
returns c =
    let v = c.args.self.now in
    let o = c.self.inside.octets.items in
    let p = c.self.inside.places.items in
    let end = c.self.inside.question_end in
    let inv : IsStored o p end c.self.inside.code c.self.inside.authentic_data v =
    subst (λ (s : StoredValue). IsStored o p end c.self.inside.code c.self.inside.authentic_data s) c.self.view_is c.self.invariant in
    let m = spelled_message o in
    let moment : c.self.inside.moment ≡ c.args.self.now.moment =
    sym (moment_in m c.self.inside.seconds c.self.inside.moment) ∙ ap (λ (s : StoredValue). s.moment) c.self.view_is in
    let q = c.args.query.now in
    let trust = c.args.trust in
    let now = c.args.now in
    let room = c.args.room.now in
    let header = c.head.result in
    let question = c.args.question.now in
    let opt = told_opt q in
    let total = length c.as_slice-end.result.now in
    let coded = inv.coded in
    let small = inv.small in
    let low : response_code v.kept.code ≤ 15 = omega (arith, coded, small) in
    let twelve : length header ≡ 12 = ap length c.head.ensures in
    let same : length question ≡ length (own_question v) = same_length question (own_question v) c.requires.asked in
    let all : total ≡ length (stored_octets v) = ap length (c.as_slice-end.ensures.value ∙ inv.written) in
    let passed : c.saturating_sub.result ≡ elapsed v now = c.saturating_sub.ensures ∙ ap (λ (t : ℕ). now - t) moment in
    let records : c.behind.result.now ≡ old_records v =
    c.behind.ensures ∙ ap (drop end) (c.deref.ensures.value ∙ inv.written) ∙ stored_records v end inv.question in
    let places : c.deref-2.result.now ≡ places_of v = c.deref-2.ensures.value ∙ inv.noted in
    let one : c.put_at.new.room ≡ over room 0 header = c.put_at.ensures in
    let two : c.put_at-2.new.room ≡ over (over room 0 header) 12 question =
    c.put_at-2.ensures ∙ ap (λ (r : List ℕ). over r 12 question) one in
    let three : c.put_at-3.new.room ≡ over (over (over room 0 header) 12 question) end (old_records v) =
    c.put_at-3.ensures ∙ ap₂ (λ (r : List ℕ) (x : List ℕ). over r end x) two records in
    let four : c.lower_ttls.new.room ≡ lowered (elapsed v now) (over (over (over room 0 header) 12 question) end (old_records v)) (places_of v) =
    c.lower_ttls.ensures
    ∙ ap₂ (λ (n : ℕ) (r : List ℕ). lowered n r c.deref-2.result.now) passed three
    ∙ ap (lowered (elapsed v now) (over (over (over room 0 header) 12 question) end (old_records v))) places in
    let whole : header ++ (question ++ (new_records v now ++ opt))
    ≡ with_question question (whole_octets (told_message v q trust now)) =
    ap (λ (h : List ℕ). h ++ (question ++ (new_records v now ++ opt))) (c.head.ensures ∙ sym (told_header_is v q trust now))
    ∙ sym (asked_parts v q trust now question low same) in
    c.put_opt.ensures ∙ ap (λ (r : List ℕ). over r total opt) four
    ∙ written_room v room header question opt end total now twelve same inv.question all
    ∙ ap (λ (r : List ℕ). r ++ drop (length r) room) whole
