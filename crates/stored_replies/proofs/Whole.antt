-- The octets of a whole message, part by part.
use Rattle.std.proofs.Common.{◌≡◌, ℕ, ◌+◌, ◌-◌, List, [], ◌++◌, length, take, drop, map, sym, ap, ap₂, subst, ◌∙◌, append_assoc, length-append, arith}
use Rattle.std.proofs.lemmas.List.{append-nil, take_all, map-append}
use Rattle.hickory_proto_codes.specs.Codes.{type_code, class_code, response_code}
use Rattle.hickory_proto_core.specs.Records.{RecordValue}
use Rattle.hickory_proto_core.specs.declared.query.Query.{Query}
use Rattle.hickory_proto_wire.specs.Writing.{u16_octets, named_record, named_query, record_count}
use Rattle.hickory_proto_wire.specs.Written.{Body, name_octets, query_octets, query_added, records_added, queries_body, records_of, header_octets, opt_octets}
use Rattle.hickory_proto_wire.specs.declared.wire_message.WireMessage.{WireMessage}
use Rattle.whole_replies.specs.Kept.{KeptValue}
use Rattle.stored_replies.specs.Stored.{response_to, whole_octets, named_kept, stored_at}
use Rattle.stored_replies.specs.Walk.{behind_labels, behind_question, behind_records, places_in, ttl_places, places_of, HaveNames, HaveFields}
use Rattle.stored_replies.proofs.Added.{added, records_octets}
use Rattle.stored_replies.proofs.Walked.{AreShort, behind_written, fields_found, places_found, places_on, names_on}
use Rattle.stored_replies.proofs.Named.{question_named, added_named, places_named}

-- what OPT adds
abbrev pub last_octets : WireMessage → List ℕ
last_octets m = opt_octets m.edns (response_code m.message.metadata.response_code)

all_records : (m : WireMessage) → take (record_count m) (records_of m) ≡ records_of m
all_records m =
    take_all (record_count m) (records_of m)
    (omega (
      arith,
      length-append m.message.answers (m.message.authorities ++ m.message.additionals),
      length-append m.message.authorities m.message.additionals,
    ))

pub whole_parts : (m : WireMessage)
    → whole_octets m ≡ header_octets m (record_count m) ++ ((queries_body m).octets ++ (added (queries_body m) (records_of m) ++ last_octets m))
unfolding whole_octets
whole_parts m =
    let b = queries_body m in
    ap (λ (o : List ℕ). header_octets m (record_count m) ++ (o ++ last_octets m))
    (ap (λ (rs : List RecordValue). (records_added b rs).octets) (all_records m) ∙ records_octets b (records_of m))
    ∙ ap (λ (o : List ℕ). header_octets m (record_count m) ++ o)
    (append_assoc b.octets (added b (records_of m)) (last_octets m))

-- ---- what is stored

-- the body of a question alone
abbrev pub asked_body : Query → Body
asked_body q = query_added (record { octets = []; places = [] }) q

abbrev pub kept_records : KeptValue → List RecordValue
kept_records k = k.answers ++ (k.authorities ++ [])

abbrev pub stored_header : Query → KeptValue → List ℕ
stored_header q k = header_octets (response_to q k) (record_count (response_to q k))

pub stored_parts : (q : Query) (k : KeptValue)
    → whole_octets (response_to q k) ≡ stored_header q k ++ (query_octets [] q ++ added (asked_body q) (kept_records k))
stored_parts q k =
    whole_parts (response_to q k)
    ∙ ap (λ (o : List ℕ). stored_header q k ++ (query_octets [] q ++ o)) (append-nil (added (asked_body q) (kept_records k)))

pub stored_length : (q : Query) (k : KeptValue)
    → length (whole_octets (response_to q k)) ≡ 12 + length (query_octets [] q) + length (added (asked_body q) (kept_records k))
stored_length q k =
    omega (
      arith,
      ap length (stored_parts q k),
      length-append (stored_header q k) (query_octets [] q ++ added (asked_body q) (kept_records k)),
      length-append (query_octets [] q) (added (asked_body q) (kept_records k)),
    )

-- ---- found again

pub question_walked : (q : Query) (k : KeptValue) → AreShort q.name.labels
    → behind_question q (whole_octets (response_to q k)) ≡ added (asked_body q) (kept_records k)
question_walked q k short =
    let rest = added (asked_body q) (kept_records k) in
    let codes = u16_octets (type_code q.query_type) ++ u16_octets (class_code q.query_class) in
    ap (behind_question q) (stored_parts q k)
    ∙ ap (λ (o : List ℕ). drop 4 (behind_labels q.name.labels o)) (append_assoc (name_octets [] q.name.labels) codes rest)
    ∙ ap (drop 4) (behind_written [] q.name.labels (codes ++ rest) short)

pub question_end : (q : Query) (k : KeptValue) → AreShort q.name.labels
    → length (whole_octets (response_to q k)) - length (behind_question q (whole_octets (response_to q k))) ≡ 12 + length (query_octets [] q)
question_end q k short = omega (arith, ap length (question_walked q k short), stored_length q k)

pub fields_noted : (q : Query) (k : KeptValue) (octets : List ℕ) → AreShort q.name.labels
    → octets ≡ whole_octets (response_to q k) → HaveFields (k.answers ++ k.authorities) (behind_question q octets)
fields_noted q k octets short is =
    let there : behind_question q octets ≡ added (asked_body q) (kept_records k) =
    ap (behind_question q) is ∙ question_walked q k short in
    let all : kept_records k ≡ k.answers ++ k.authorities =
    ap (λ (rs : List RecordValue). k.answers ++ rs) (append-nil k.authorities) in
    subst (λ (rs : List RecordValue). HaveFields rs (behind_question q octets)) all
    (subst (HaveFields (kept_records k)) (sym there) (fields_found (kept_records k) (asked_body q)))

pub places_noted : (q : Query) (k : KeptValue) (octets : List ℕ) → AreShort q.name.labels → HaveNames k.answers → HaveNames k.authorities
    → octets ≡ whole_octets (response_to q k)
    → places_in (length octets) k.answers (behind_question q octets)
    ++ places_in (length octets) k.authorities (behind_records k.answers (behind_question q octets))
    ≡ ttl_places (asked_body q) (kept_records k)
places_noted q k octets short answers authorities is =
    let total = length octets in
    let from = behind_question q octets in
    let none : k.authorities ++ [] ≡ k.authorities = append-nil k.authorities in
    let there : from ≡ added (asked_body q) (kept_records k) = ap (behind_question q) is ∙ question_walked q k short in
    let names = names_on k.answers (k.authorities ++ []) answers (names_on k.authorities [] authorities tt) in
    ap (λ (rs : List RecordValue). places_in total k.answers from ++ places_in total rs (behind_records k.answers from)) (sym none)
    ∙ sym (places_on total k.answers (k.authorities ++ []) from)
    ∙ ap (places_in total (kept_records k)) there
    ∙ places_found (kept_records k) (asked_body q) total names (ap length is ∙ stored_length q k)

-- ---- read again

pub named_records : (k : KeptValue) → kept_records (named_kept k) ≡ map named_record (kept_records k)
named_records k =
    ap (λ (rs : List RecordValue). map named_record k.answers ++ rs) (sym (map-append named_record k.authorities []))
    ∙ sym (map-append named_record k.answers (k.authorities ++ []))

pub body_named : (q : Query) → asked_body (named_query q) ≡ asked_body q
body_named q = question_named (record { octets = []; places = [] }) q

pub rest_named : (q : Query) (k : KeptValue)
    → added (asked_body (named_query q)) (kept_records (named_kept k)) ≡ added (asked_body q) (kept_records k)
rest_named q k =
    ap₂ (λ (b : Body) (rs : List RecordValue). added b rs) (body_named q) (named_records k)
    ∙ added_named (kept_records k) (asked_body q)

pub places_of_named : (q : Query) (k : KeptValue) (now : ℕ)
    → places_of (stored_at q k now) ≡ ttl_places (asked_body q) (kept_records k)
unfolding places_of
places_of_named q k now =
    ap₂ (λ (b : Body) (rs : List RecordValue). ttl_places b rs) (body_named q) (named_records k)
    ∙ places_named (kept_records k) (asked_body q)
