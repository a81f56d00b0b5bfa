use Rattle.std.proofs.Common.{◌≡◌, ℕ, ◌+◌, ◌≤◌, List, ◌++◌, length, drop, ap, subst, sym, ◌∙◌, arith}
use Rattle.hickory_proto_codes.specs.Codes.{response_code}
use Rattle.stored_replies.specs.Stored.{StoredValue}
use Rattle.stored_replies.specs.Told.{own_question, told_message, with_question, bare_octets}
use Rattle.stored_replies.specs.Walk.{IsStored, over}
use Rattle.stored_replies.proofs.Header.{bare_header_is}
use Rattle.stored_replies.proofs.Keys.{same_length}
use Rattle.stored_replies.proofs.Telling.{told_opt, cut_parts, cut_room}
use Rattle.stored_replies.proofs.stored_reply.StoredReply.fill_cut.Goals as goal

pub put_at-requires : goal.put_at-requires
put_at-requires c =
    let twelve : length c.cut_head.result ≡ 12 = ap length c.cut_head.ensures in
    omega (arith, twelve, c.requires.fits)

pub put_at-requires-2 : goal.put_at-requires-2
put_at-requires-2 c =
    let same : length c.args.question.now ≡ length (own_question c.args.self.now) =
    same_length c.args.question.now (own_question c.args.self.now) c.requires.asked in
    omega (arith, same, c.requires.fits)

pub put_opt-requires : goal.put_opt-requires
put_opt-requires c =
    let v = c.args.self.now in
    let o = c.self.inside.octets.items in
    let p = c.self.inside.places.items in
    let end = c.self.inside.question_end in
    let inv : IsStored o p end c.self.inside.code c.self.inside.authentic_data v =
    subst (λ (s : StoredValue). IsStored o p end c.self.inside.code c.self.inside.authentic_data s) c.self.view_is c.self.invariant in
    let ends = inv.question in
    omega (arith, ends, c.requires.fits)

pub returns : goal.returns
returns c = λ now.
    let v = c.args.self.now in
    let o = c.self.inside.octets.items in
    let p = c.self.inside.places.items in
    let end = c.self.inside.question_end in
    let inv : IsStored o p end c.self.inside.code c.self.inside.authentic_data v =
    subst (λ (s : StoredValue). IsStored o p end c.self.inside.code c.self.inside.authentic_data s) c.self.view_is c.self.invariant in
    let coded = inv.coded in
    let small = inv.small in
    let low : response_code v.kept.code ≤ 15 = omega (arith, coded, small) in
    let q = c.args.query.now in
    let trust = c.args.trust in
    let room = c.args.room.now in
    let header = c.cut_head.result in
    let question = c.args.question.now in
    let opt = told_opt q in
    let twelve : length header ≡ 12 = ap length c.cut_head.ensures in
    let same : length question ≡ length (own_question v) = same_length question (own_question v) c.requires.asked in
    let one : c.put_at.new.room ≡ over room 0 header = c.put_at.ensures in
    let two : c.put_at-2.new.room ≡ over (over room 0 header) 12 question =
    c.put_at-2.ensures ∙ ap (λ (r : List ℕ). over r 12 question) one in
    let whole : header ++ (question ++ opt) ≡ with_question question (bare_octets (told_message v q trust now)) =
    ap (λ (h : List ℕ). h ++ (question ++ opt)) (c.cut_head.ensures ∙ sym (bare_header_is v q trust now))
    ∙ sym (cut_parts v q trust now question low same) in
    let own = inv.question in
    let ends : end ≡ 12 + length question = omega (arith, own, same) in
    c.put_opt.ensures ∙ ap (λ (r : List ℕ). over r end opt) two
    ∙ ap (λ (n : ℕ). over (over (over room 0 header) 12 question) n opt) ends ∙ cut_room room header question opt twelve
    ∙ ap (λ (r : List ℕ). r ++ drop (length r) room) whole
