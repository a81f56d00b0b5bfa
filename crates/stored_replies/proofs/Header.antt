-- The headers of what is stored and of what is told.
use Rattle.std.proofs.Common.{nat_lt, ◌≡◌, ℕ, ◌+◌, ◌-◌, ◌/◌, ◌%◌, ◌≤◌, Bool, false, List, [], ◌∷◌, ◌++◌, length, take, map, refl, sym, ap, ap₂, ◌∙◌, arith}
use Rattle.std.specs.Prelude.{Option, None, Some}
use Rattle.std.specs.Option.{option_map}
use Rattle.std.proofs.lemmas.Bool.{le-ltb}
use Rattle.std.proofs.lemmas.List.{take_all, length-map}
use Rattle.hickory_proto_codes.specs.Codes.{op_code, response_code}
use Rattle.hickory_proto_core.specs.Records.{lower_ttl}
use Rattle.hickory_proto_core.specs.declared.query.Query.{Query}
use Rattle.hickory_proto_wire.specs.Writing.{u16_octets, weighed, flags_of, opt_count, record_count, named_query, named_record}
use Rattle.hickory_proto_wire.specs.Written.{header_octets, is_cut, query_octets}
use Rattle.hickory_proto_wire.specs.declared.wire_message.WireMessage.{WireMessage}
use Rattle.client_queries.specs.Refusals.{count_of}
use Rattle.client_queries.specs.declared.query.ClientEdns.{ClientEdns}
use Rattle.client_queries.specs.declared.query.ClientQuery.{ClientQuery}
use Rattle.whole_replies.specs.Kept.{KeptValue}
use Rattle.stored_replies.specs.Stored.{StoredValue, response_to, whole_octets, named_kept, elapsed, record_number}
use Rattle.stored_replies.specs.Told.{header_with, told_message, told_flags, told_edns, is_told_authentic}
use Rattle.stored_replies.proofs.Added.{added}
use Rattle.stored_replies.proofs.Named.{response-code}
use Rattle.stored_replies.proofs.Whole.{stored_parts, stored_header, asked_body, kept_records}

-- of a message that is not cut
abbrev pub whole_header : WireMessage → List ℕ
whole_header m =
    header_with m.message.metadata.id
    (flags_of m false (op_code m.message.metadata.op_code) (response_code m.message.metadata.response_code % 16))
    (length m.message.queries) (length m.message.answers) (length m.message.authorities)
    (length m.message.additionals + opt_count m.edns)

uncut : (m : WireMessage) → m.message.metadata.truncation ≡ false → is_cut m (record_count m) ≡ false
uncut m none = rw (none, le-ltb (record_count m) (record_count m) (omega arith)) refl

pub header_is : (m : WireMessage) → m.message.metadata.truncation ≡ false
    → header_octets m (record_count m) ≡ whole_header m
header_is m none =
    let n = record_count m in
    let a = m.message.answers in
    let b = m.message.authorities in
    let op = op_code m.message.metadata.op_code in
    let code = response_code m.message.metadata.response_code % 16 in
    let first : length (take n a) ≡ length a = ap length (take_all n a (omega arith)) in
    let second : length (take (n - length a) b) ≡ length b = ap length (take_all (n - length a) b (omega arith)) in
    let third : length (take (n - length a - length b) m.message.additionals) ≡ length m.message.additionals =
    ap length (take_all (n - length a - length b) m.message.additionals (omega arith)) in
    ap₂ (λ (x : List ℕ) (y : List ℕ). x ++ y)
    (ap (λ (c : Bool). u16_octets m.message.metadata.id ++ u16_octets (flags_of m c op code)) (uncut m none))
    (ap₂ (λ (x : ℕ) (y : List ℕ). u16_octets (length m.message.queries) ++ (u16_octets x ++ y)) first
    (ap₂ (λ (x : ℕ) (y : ℕ). u16_octets x ++ u16_octets (y + opt_count m.edns)) second third))

-- ---- stored

abbrev pub stored_flags : Bool → ℕ → ℕ
stored_flags authentic code = 32768 + weighed authentic 32 + code % 16

pub stored_header_is : (q : Query) (k : KeptValue)
    → stored_header q k ≡ header_with 0 (stored_flags k.authentic_data (response_code k.code)) 1 (length k.answers) (length k.authorities) 0
stored_header_is q k =
    let m = response_to q k in
    let flags : flags_of m false 0 (response_code k.code % 16) ≡ stored_flags k.authentic_data (response_code k.code) = omega arith in
    header_is m refl
    ∙ ap (λ (f : ℕ). header_with 0 f 1 (length k.answers) (length k.authorities) 0) flags

pub header_named : (q : Query) (k : KeptValue) → stored_header (named_query q) (named_kept k) ≡ stored_header q k
header_named q k =
    stored_header_is (named_query q) (named_kept k)
    ∙ ap (λ (c : ℕ). header_with 0 (stored_flags k.authentic_data c) 1 (length (map named_record k.answers)) (length (map named_record k.authorities)) 0) (response-code (response_code k.code))
    ∙ ap₂ (λ (x : ℕ) (y : ℕ). header_with 0 (stored_flags k.authentic_data (response_code k.code)) 1 x y 0)
    (length-map k.answers named_record) (length-map k.authorities named_record)
    ∙ sym (stored_header_is q k)

-- the octets of the counts
abbrev pub parts_from : List ℕ → Query → KeptValue → List ℕ
parts_from header q k = header ++ (query_octets [] q ++ added (asked_body q) (kept_records k))

pub stored_from : (q : Query) (k : KeptValue)
    → whole_octets (response_to q k)
    ≡ parts_from (header_with 0 (stored_flags k.authentic_data (response_code k.code)) 1 (length k.answers) (length k.authorities) 0) q k
stored_from q k = stored_parts q k ∙ ap (λ (h : List ℕ). parts_from h q k) (stored_header_is q k)

-- ---- told

told_count : (edns : Option ClientEdns) → 0 + opt_count (option_map told_edns edns) ≡ count_of edns
told_count None = refl
told_count (Some e) = refl

pub told_header_is : (s : StoredValue) (q : ClientQuery) (trust : Bool) (now : ℕ)
    → header_octets (told_message s q trust now) (record_count (told_message s q trust now))
    ≡ header_with q.id (told_flags q.flags false (is_told_authentic trust s.kept q) (response_code s.kept.code)) 1
    (length s.kept.answers) (length s.kept.authorities) (count_of q.edns)
unfolding told_message
told_header_is s q trust now =
    let m = told_message s q trust now in
    let e = elapsed s now in
    let flags : flags_of m false 0 (response_code s.kept.code % 16) ≡ told_flags q.flags false (is_told_authentic trust s.kept q) (response_code s.kept.code) =
    omega arith in
    header_is m refl
    ∙ ap₂ (λ (f : ℕ) (o : ℕ). header_with q.id f 1 (length (map (lower_ttl e) s.kept.answers)) (length (map (lower_ttl e) s.kept.authorities)) o)
    flags (told_count q.edns)
    ∙ ap₂ (λ (x : ℕ) (y : ℕ). header_with q.id (told_flags q.flags false (is_told_authentic trust s.kept q) (response_code s.kept.code)) 1 x y (count_of q.edns))
    (length-map s.kept.answers (lower_ttl e)) (length-map s.kept.authorities (lower_ttl e))

-- octet by octet
pub counts_low : (edns : Option ClientEdns) → count_of edns ≤ 1
counts_low None = omega arith
counts_low (Some e) = omega arith

pub header_listed : (id flags told a b c d o answers authorities additionals : ℕ) → flags ≡ told → a ≡ answers / 256
    → b ≡ answers % 256 → c ≡ authorities / 256 → d ≡ authorities % 256 → o ≡ additionals → additionals ≤ 1
    → id / 256 ∷ id % 256 ∷ flags / 256 ∷ flags % 256 ∷ 0 ∷ 1 ∷ a ∷ b ∷ c ∷ d ∷ 0 ∷ o ∷ []
    ≡ header_with id told 1 answers authorities additionals
header_listed id flags told a b c d o answers authorities additionals ef ea eb ec ed eo low =
    let high : 0 ≡ additionals / 256 = omega (arith, low) in
    let last : o ≡ additionals % 256 = omega (arith, low, eo) in
    cc

-- ---- without records

pub bare_header_is : (s : StoredValue) (q : ClientQuery) (trust : Bool) (now : ℕ)
    → header_octets (told_message s q trust now) 0
    ≡ header_with q.id (told_flags q.flags (nat_lt 0 (record_number s.kept)) (is_told_authentic trust s.kept q) (response_code s.kept.code)) 1
    0 0 (count_of q.edns)
unfolding told_message
bare_header_is s q trust now =
    let m = told_message s q trust now in
    let a = m.message.answers in
    let b = m.message.authorities in
    let code = response_code s.kept.code in
    let number : record_count m ≡ record_number s.kept =
    omega (arith, length-map s.kept.answers (lower_ttl (elapsed s now)), length-map s.kept.authorities (lower_ttl (elapsed s now))) in
    let none : 0 - length a ≡ 0 = omega arith in
    let last : 0 - length a - length b ≡ 0 = omega arith in
    let flags : flags_of m (nat_lt 0 (record_number s.kept)) 0 (code % 16)
    ≡ told_flags q.flags (nat_lt 0 (record_number s.kept)) (is_told_authentic trust s.kept q) code = omega arith in
    let second : length (take (0 - length a) b) ≡ 0 = ap (λ (n : ℕ). length (take n b)) none in
    let third : length (take (0 - length a - length b) m.message.additionals) + opt_count m.edns ≡ count_of q.edns =
    ap (λ (n : ℕ). length (take n m.message.additionals) + opt_count m.edns) last ∙ told_count q.edns in
    ap₂ (λ (x : List ℕ) (y : List ℕ). x ++ y)
    (ap (λ (n : ℕ). u16_octets q.id ++ u16_octets (flags_of m (nat_lt 0 n) 0 (code % 16))) number
    ∙ ap (λ (f : ℕ). u16_octets q.id ++ u16_octets f) flags)
    (ap₂ (λ (x : ℕ) (y : ℕ). u16_octets 1 ++ (u16_octets 0 ++ (u16_octets x ++ u16_octets y))) second third)
