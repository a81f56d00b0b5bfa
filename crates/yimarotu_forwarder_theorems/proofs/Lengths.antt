-- No reply is longer than its client takes.
use Rattle.std.proofs.Common.{◌≡◌, ◌∙◌, ℕ, ◌+◌, ◌-◌, ◌≤◌, Bool, true, false, List, [], ◌++◌, length, take, drop, map, refl, ap, sym, subst, arith, length-append}
use Rattle.std.specs.Prelude.{Option, None, Some, nat_le, if◌then◌else◌}
use Rattle.std.specs.Option.{option_and_then, option_map}
use Rattle.std.proofs.lemmas.Bool.{leb-true}
use Rattle.std.proofs.lemmas.List.{length-drop, length-take, map-append}
use Rattle.hickory_proto_codes.specs.Codes.{response_code}
use Rattle.hickory_proto_core.specs.Records.{RecordValue, lower_ttl}
use Rattle.hickory_proto_wire.specs.Writing.{record_count}
use Rattle.hickory_proto_wire.specs.Written.{header_octets, opt_octets, queries_body, records_of}
use Rattle.hickory_proto_wire.specs.declared.wire_message.WireMessage.{WireMessage}
use Rattle.client_queries.specs.Refusals.{datagram_limit}
use Rattle.client_queries.specs.declared.query.ClientEdns.{ClientEdns}
use Rattle.client_queries.specs.declared.query.ClientQuery.{ClientQuery}
use Rattle.client_queries.specs.declared.query.Refusal.{Refusal}
use Rattle.client_requests.specs.Replies.{failure_reply, fits, refusal_reply, stale_reply, stored_reply}
use Rattle.client_requests.specs.Requests.{IsShort, RequestValue, limit_of, question_of}
use Rattle.client_requests.specs.declared.choices.TheConstants.{LONGEST_MESSAGE}
use Rattle.failure_replies.proofs.Short.{failures_are_short, refusals_are_short}
use Rattle.failure_replies.specs.declared.failure.FailureReason.{FailureReason}
use Rattle.stored_replies.proofs.Added.{added, added_length}
use Rattle.stored_replies.proofs.Telling.{same_end}
use Rattle.stored_replies.proofs.Whole.{asked_body, kept_records, last_octets, stored_length, whole_parts}
use Rattle.stored_replies.specs.Stale.{stale_of, with_ttl}
use Rattle.stored_replies.specs.Stored.{StoredValue, elapsed, stored_octets, whole_octets}
use Rattle.stored_replies.specs.Told.{asks_for, bare_octets, cut_octets, cut_within, opt_length, own_question, reply_within, told_edns, told_message, told_octets, with_question, within}
use Rattle.stored_replies.specs.declared.choices.TheConstants.{STALE_TTL}
use Rattle.whole_replies.specs.Kept.{KeptValue}

-- ---- the parts of a reply

-- with another question in its place
with-length : (question octets : List ℕ) (most : ℕ) → length octets ≤ most → 12 + length question ≤ most
    → length (with_question question octets) ≤ most
with-length question octets most few short =
    grind (
      arith,
      few,
      short,
      length-append (take 12 octets) (question ++ drop (12 + length question) octets),
      length-append question (drop (12 + length question) octets),
      length-take 12 octets,
      length-drop (12 + length question) octets,
    )

opt-counted : (edns : Option ClientEdns) (code : ℕ) → length (opt_octets (option_map told_edns edns) code) ≡ opt_length edns
opt-counted None code = refl
opt-counted (Some e) code = refl

opt-few : (edns : Option ClientEdns) → opt_length edns ≤ 11
opt-few None = omega arith
opt-few (Some e) = omega arith

lowered-all : (k : KeptValue) (seconds : ℕ)
    → map (lower_ttl seconds) k.answers ++ (map (lower_ttl seconds) k.authorities ++ [])
    ≡ map (lower_ttl seconds) (kept_records k)
lowered-all k seconds =
    ap (λ (rs : List RecordValue). map (lower_ttl seconds) k.answers ++ rs)
    (sym (map-append (lower_ttl seconds) k.authorities []))
    ∙ sym (map-append (lower_ttl seconds) k.answers (k.authorities ++ []))

-- The whole of it has as many octets as are stored, and OPT.
told-length : (s : StoredValue) (q : ClientQuery) (trust : Bool) (now : ℕ)
    → length (whole_octets (told_message s q trust now)) ≡ length (stored_octets s) + opt_length q.edns
unfolding told_message
told-length s q trust now =
    let m = told_message s q trust now in
    let body = asked_body s.query in
    let header = header_octets m (record_count m) in
    let records = added (queries_body m) (records_of m) in
    let lowered : length records ≡ length (added body (map (lower_ttl (elapsed s now)) (kept_records s.kept))) =
    ap (λ (rs : List RecordValue). length (added body rs)) (lowered-all s.kept (elapsed s now)) in
    omega (
      arith,
      ap length (whole_parts m),
      length-append header ((queries_body m).octets ++ (records ++ last_octets m)),
      length-append (queries_body m).octets (records ++ last_octets m),
      length-append records (last_octets m),
      lowered,
      added_length (kept_records s.kept) body (λ ttl. ttl - elapsed s now),
      opt-counted q.edns (response_code s.kept.code),
      stored_length s.query s.kept,
    )

-- Past its end it has as many.
stale-length : (s : StoredValue) → length (stored_octets (stale_of s)) ≡ length (stored_octets s)
stale-length s =
    let body = asked_body s.query in
    let records : map (with_ttl STALE_TTL) (kept_records s.kept) ≡ kept_records (stale_of s).kept =
    map-append (with_ttl STALE_TTL) s.kept.answers (s.kept.authorities ++ [])
    ∙ ap (λ (l : List RecordValue). map (with_ttl STALE_TTL) s.kept.answers ++ l)
    (map-append (with_ttl STALE_TTL) s.kept.authorities []) in
    omega (
      arith,
      stored_length s.query s.kept,
      stored_length s.query (stale_of s).kept,
      ap (λ (rs : List RecordValue). length (added body rs)) records,
      added_length (kept_records s.kept) body (λ ttl. STALE_TTL),
    )

bare-parts : (m : WireMessage) → bare_octets m ≡ header_octets m 0 ++ ((queries_body m).octets ++ last_octets m)
unfolding bare_octets
bare-parts m = refl

-- Without records it has a header, the question and OPT.
bare-length : (s : StoredValue) (q : ClientQuery) (trust : Bool) (now : ℕ)
    → length (bare_octets (told_message s q trust now)) ≡ 12 + length (own_question s) + opt_length q.edns
unfolding told_message
bare-length s q trust now =
    let m = told_message s q trust now in
    omega (
      arith,
      ap length (bare-parts m),
      length-append (header_octets m 0) ((queries_body m).octets ++ last_octets m),
      length-append (queries_body m).octets (last_octets m),
      opt-counted q.edns (response_code s.kept.code),
    )

-- ---- what a client takes

limit-least : (r : RequestValue) → 512 ≤ limit_of r
limit-least r = by r.client.is_stream
  where
    datagram : (edns : Option ClientEdns) → 512 ≤ datagram_limit edns
    datagram None = omega arith
    datagram (Some e) = omega arith

    by : (stream : Bool) → 512 ≤ (if stream then LONGEST_MESSAGE else datagram_limit r.query.edns)
    by true = omega arith
    by false = datagram r.query.edns

pub failure-fits : (r : RequestValue) (why : FailureReason) → IsShort r → length (failure_reply r why) ≤ limit_of r
failure-fits r why short =
    omega (arith, short, limit-least r, (failures_are_short r.octets r.query why).beside_question)

pub refusal-fits : (r : RequestValue) (why : Refusal) → IsShort r → length (refusal_reply r why) ≤ limit_of r
refusal-fits r why short =
    omega (arith, short, limit-least r, (refusals_are_short r.octets r.query why).beside_question)

-- ---- what is stored

-- what is told of an answer, if anything, and that the request asks for it
told-so : (most : ℕ) (written octets : List ℕ) (asks : Bool)
    → option_and_then (within most) (if asks then Some written else None) ≡ Some octets
    → (asks ≡ true) × (written ≡ octets)
told-so most written octets false h = absurd cc
told-so most written octets true h = (refl, by (nat_le (length written) most) h)
  where
    by : (b : Bool) → (if b then Some written else None) ≡ Some octets → written ≡ octets
    by true e = cc
    by false e = absurd cc

whole-fits : (r : RequestValue) (s : StoredValue) (trust : Bool) (now : ℕ) → IsShort r
    → length (stored_octets s) + opt_length r.query.edns ≤ limit_of r
    → length (told_octets r.octets r.query s trust now) ≤ limit_of r
whole-fits r s trust now short few =
    with-length (question_of r) (whole_octets (told_message s r.query trust now)) (limit_of r)
    (omega (arith, few, told-length s r.query trust now)) (omega (arith, short, limit-least r))

cut-fits : (r : RequestValue) (s : StoredValue) (trust : Bool) (now : ℕ) → IsShort r
    → asks_for r.octets r.query s ≡ true → length (cut_octets r.octets r.query s trust now) ≤ limit_of r
cut-fits r s trust now short asks =
    with-length (question_of r) (bare_octets (told_message s r.query trust now)) (limit_of r)
    (omega (
      arith,
      short,
      same_end r.octets s r.query.question_end asks,
      bare-length s r.query trust now,
      opt-few r.query.edns,
      limit-least r,
    )) (omega (arith, short, limit-least r))

cut-told-fits : (r : RequestValue) (s : StoredValue) (trust : Bool) (now : ℕ) (octets : List ℕ) → IsShort r
    → cut_within LONGEST_MESSAGE r.octets r.query s trust now ≡ Some octets → length octets ≤ limit_of r
cut-told-fits r s trust now octets short e =
    let told = told-so LONGEST_MESSAGE (cut_octets r.octets r.query s trust now) octets
    (asks_for r.octets r.query s) e in
    subst (λ (o : List ℕ). length o ≤ limit_of r) told.1 (cut-fits r s trust now short told.0)

whole-told-fits : (r : RequestValue) (s : StoredValue) (trust : Bool) (now : ℕ) (octets : List ℕ) → IsShort r
    → length (stored_octets s) + opt_length r.query.edns ≤ limit_of r
    → reply_within LONGEST_MESSAGE r.octets r.query s trust now ≡ Some octets → length octets ≤ limit_of r
whole-told-fits r s trust now octets short few e =
    let told = told-so LONGEST_MESSAGE (told_octets r.octets r.query s trust now) octets
    (asks_for r.octets r.query s) e in
    subst (λ (o : List ℕ). length o ≤ limit_of r) told.1 (whole-fits r s trust now short few)

pub stored-fits : (r : RequestValue) (s : StoredValue) (trust : Bool) (now : ℕ) (octets : List ℕ) → IsShort r
    → stored_reply r s trust now ≡ Some octets → length octets ≤ limit_of r
stored-fits r s trust now octets short h = by (fits r s) refl h
  where
    by : (b : Bool) → fits r s ≡ b
        → (if b then reply_within LONGEST_MESSAGE r.octets r.query s trust now
        else cut_within LONGEST_MESSAGE r.octets r.query s trust now) ≡ Some octets
        → length octets ≤ limit_of r
    by true is e =
        whole-told-fits r s trust now octets short
        (leb-true (length (stored_octets s) + opt_length r.query.edns) (limit_of r) is) e
    by false is e = cut-told-fits r s trust now octets short e

pub stale-fits : (r : RequestValue) (s : StoredValue) (octets : List ℕ) → IsShort r
    → stale_reply r s ≡ Some octets → length octets ≤ limit_of r
stale-fits r s octets short h = by (fits r s) refl h
  where
    by : (b : Bool) → fits r s ≡ b
        → (if b then reply_within LONGEST_MESSAGE r.octets r.query (stale_of s) false 0
        else cut_within LONGEST_MESSAGE r.octets r.query s false 0) ≡ Some octets
        → length octets ≤ limit_of r
    by true is e =
        let few = leb-true (length (stored_octets s) + opt_length r.query.edns) (limit_of r) is in
        whole-told-fits r (stale_of s) false 0 octets short (omega (arith, few, stale-length s)) e
    by false is e = cut-told-fits r s false 0 octets short e
