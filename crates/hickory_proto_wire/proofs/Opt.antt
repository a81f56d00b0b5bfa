-- The OPT record and the header of a message that was written.
use Rattle.std.proofs.Common.{◌≡◌, ℕ, ◌-◌, ◌+◌, ◌*◌, ◌/◌, ◌%◌, ◌≤◌, ◌<◌, Bool, true, false, ltb, eqb, List, [], ◌∷◌, ◌++◌, length, take, drop, map, Option, None, Some, Ok, refl, sym, ap, subst, ◌∙◌, append_assoc, length-append, arith}
use Rattle.std.specs.Prelude.{◌||◌, nat_lt}
use Rattle.std.specs.Option.{option_map}
use Rattle.std.proofs.lemmas.Bool.{le-ltb}
use Rattle.std.proofs.lemmas.List.{take_at, drop_at}
use Rattle.hickory_proto_codes.specs.Codes.{op_code, response_code}
use Rattle.hickory_proto_core.specs.Records.{RecordValue}
use Rattle.hickory_proto_core.specs.declared.query.Query.{Query}
use Rattle.hickory_proto_wire.specs.declared.header.Header.{Header}
use Rattle.hickory_proto_wire.specs.declared.wire_message.WireMessage.{WireMessage}
use Rattle.hickory_proto_wire.specs.declared.wire_record.RecordHead.{RecordHead}
use Rattle.hickory_proto_wire.specs.declared.wire_record.OptRecord.{OptRecord}
use Rattle.hickory_proto_wire.specs.Edns.{EdnsValue}
use Rattle.hickory_proto_wire.specs.Found.{Found}
use Rattle.hickory_proto_wire.specs.Octets.{◌>>=◌, u16_at, u32_at}
use Rattle.hickory_proto_wire.specs.Names.{name_at}
use Rattle.hickory_proto_wire.specs.Records.{repeat_at, query_at, record_at, head_at, opt_from, found_with, additionals_at, nothing_found}
use Rattle.hickory_proto_wire.specs.Messages.{header_at, bit, extended_of, metadata_of, assembled, spelled_message}
use Rattle.hickory_proto_wire.specs.Writing.{Begins, Stands, Spells, Adds, Follows, u16_octets, weighed, flags_of, named_query, named_record, shown, opt_of, opt_at, opt_count, IsHeader, record_count, cut}
use Rattle.hickory_proto_wire.proofs.Fits.{bind_ok, ok_is}
use Rattle.hickory_proto_wire.proofs.Stands.{stands_front, stands_behind, begins_more, u16_spelled}
use Rattle.hickory_proto_wire.proofs.Places.{name_spelled}
use Rattle.hickory_proto_wire.proofs.Written.{stands_len, join}
use Rattle.hickory_proto_wire.proofs.Messages.{last_found, only_records, whole_is}

taken_there : (l bytes : List ℕ) (at count : ℕ) → count ≡ length l → Stands l bytes at → take count (drop at bytes) ≡ l
taken_there l bytes at count n s =
    ap (λ (x : List ℕ). take count (drop at x)) s.2
    ∙ ap (λ (x : List ℕ). take count x) (drop_at s.0 (l ++ s.1) at s.3)
    ∙ take_at l s.1 count (sym n)

abbrev edns_of : ℕ → ℕ → List ℕ → EdnsValue
edns_of size ttl options = record { size = size; version = ttl / 65536 % 256; flags = ttl % 65536; options = options }

opt_spelled : (known b c e f d : List ℕ) (size ttl : ℕ)
    → Spells u16_at known b 41 → Spells u16_at known c size → Spells u32_at known e ttl
    → Spells u16_at known f (length d)
    → Spells opt_at known ((0 ∷ []) ++ (b ++ (c ++ (e ++ (f ++ d)))))
    (41, record { extended = ttl / 16777216; edns = edns_of size ttl d })
unfolding opt_at head_at opt_from
opt_spelled known b c e f d size ttl rb rc re rf bytes at begins le s =
    let a : List ℕ = 0 ∷ [] in
    let p1 : ℕ = at + 1 in
    let p2 : ℕ = at + 1 + length b in
    let p3 : ℕ = at + 1 + length b + length c in
    let p4 : ℕ = at + 1 + length b + length c + length e in
    let start : ℕ = at + 1 + length b + length c + length e + length f in
    let s1 = stands_behind a (b ++ (c ++ (e ++ (f ++ d)))) bytes at s in
    let s2 = stands_behind b (c ++ (e ++ (f ++ d))) bytes p1 s1 in
    let s3 = stands_behind c (e ++ (f ++ d)) bytes p2 s2 in
    let s4 = stands_behind e (f ++ d) bytes p3 s3 in
    let s5 = stands_behind f d bytes p4 s4 in
    let long = stands_len d bytes start s5 in
    let within : ltb (length bytes) (start + length d) ≡ false = le-ltb (length bytes) (start + length d) long in
    let whole : start + length d ≡ at + length ((0 ∷ []) ++ (b ++ (c ++ (e ++ (f ++ d))))) =
    omega (
      arith,
      length-append b (c ++ (e ++ (f ++ d))),
      length-append c (e ++ (f ++ d)),
      length-append e (f ++ d),
      length-append f d,
    ) in
    let root : name_at bytes at ≡ Ok (record { labels = []; fqdn = true }, p1) =
    name_spelled known [] [] tt refl bytes at begins le (stands_front a (b ++ (c ++ (e ++ (f ++ d)))) bytes at s) in
    rw (
      root,
      rb bytes p1 begins (omega (arith, le)) (stands_front b (c ++ (e ++ (f ++ d))) bytes p1 s1),
      rc bytes p2 begins (omega (arith, le)) (stands_front c (e ++ (f ++ d)) bytes p2 s2),
      re bytes p3 begins (omega (arith, le)) (stands_front e (f ++ d) bytes p3 s3),
      rf bytes p4 begins (omega (arith, le)) (stands_front f d bytes p4 s4),
      within,
      taken_there d bytes start (start + length d - start) (omega arith) s5,
      whole,
    ) refl

-- the numbers in the TTL of OPT
pub opt_adds : (known o0 o1 o2 o3 o4 o5 o6 : List ℕ) (extended ttl len : ℕ) (edns : EdnsValue)
    → ttl ≡ extended * 16777216 + edns.version * 65536 + edns.flags → edns.version < 256 → edns.flags < 65536
    → len ≡ length edns.options
    → o1 ≡ o0 ++ 0 ∷ [] → o2 ≡ o1 ++ u16_octets 41 → o3 ≡ o2 ++ u16_octets edns.size → Adds u32_at known o3 o4 ttl
    → o5 ≡ o4 ++ u16_octets len → o6 ≡ o5 ++ edns.options
    → Adds opt_at known o0 o6 (41, record { extended = extended; edns = edns })
opt_adds known o0 o1 o2 o3 o4 o5 o6 extended ttl len edns total small low count e1 e2 e3 e4 e5 e6 =
    let d = edns.options in
    let x1 : ttl / 16777216 ≡ extended = omega (arith, total, small, low) in
    let x2 : ttl / 65536 % 256 ≡ edns.version = omega (arith, total, small, low) in
    let x3 : ttl % 65536 ≡ edns.flags = omega (arith, total, small, low) in
    let last : Spells u16_at known (u16_octets len) (length d) =
    subst (λ (n : ℕ). Spells u16_at known (u16_octets len) n) count (u16_spelled len known) in
    let read = opt_spelled known (u16_octets 41) (u16_octets edns.size) e4.0 (u16_octets len) d edns.size ttl
    (u16_spelled 41 known) (u16_spelled edns.size known) e4.2 last in
    let all = (0 ∷ []) ++ (u16_octets 41 ++ (u16_octets edns.size ++ (e4.0 ++ (u16_octets len ++ d)))) in
    let y1 : Spells opt_at known all (41, record { extended = extended; edns = edns_of edns.size ttl d }) =
    subst (λ (n : ℕ). Spells opt_at known all (41, record { extended = n; edns = edns_of edns.size ttl d })) x1 read in
    let y2 : Spells opt_at known all (41, record { extended = extended; edns = record { size = edns.size; version = edns.version; flags = ttl % 65536; options = d } }) =
    subst (λ (n : ℕ). Spells opt_at known all (41, record { extended = extended; edns = record { size = edns.size; version = n; flags = ttl % 65536; options = d } })) x2 y1 in
    let y3 : Spells opt_at known all (41, record { extended = extended; edns = edns }) =
    subst (λ (n : ℕ). Spells opt_at known all (41, record { extended = extended; edns = record { size = edns.size; version = edns.version; flags = n; options = d } })) x3 y2 in (
      all,
      join o0 o1 o6 (0 ∷ []) (u16_octets 41 ++ (u16_octets edns.size ++ (e4.0 ++ (u16_octets len ++ d)))) e1
          (join o1 o2 o6 (u16_octets 41) (u16_octets edns.size ++ (e4.0 ++ (u16_octets len ++ d))) e2
          (join o2 o3 o6 (u16_octets edns.size) (e4.0 ++ (u16_octets len ++ d)) e3
          (join o3 o4 o6 e4.0 (u16_octets len ++ d) e4.1
          (join o4 o5 o6 (u16_octets len) d e5 e6)))),
      y3,
    )

opt_is : (bytes : List ℕ) (at : ℕ) (code : ℕ) (x : OptRecord) (after : ℕ) → opt_at bytes at ≡ Ok ((code, x), after)
    → (head : RecordHead) × (head_at bytes at ≡ Ok head) × (opt_from bytes head ≡ Ok x) × (head.code ≡ code)
    × (head.end ≡ after)
unfolding opt_at
opt_is bytes at code x after e =
    let h = bind_ok (head_at bytes at) (λ head. opt_from bytes head >>= λ found. Ok ((head.code, found), head.end)) ((code, x), after) e in
    let r = bind_ok (opt_from bytes h.0) (λ found. Ok ((h.0.code, found), h.0.end)) ((code, x), after) h.2 in
    let made : (ℕ × OptRecord) × ℕ = ((h.0.code, r.0), h.0.end) in
    let same : made ≡ ((code, x), after) = ok_is made ((code, x), after) r.2 in (
      h.0,
      h.1,
      r.1 ∙ ap (λ (y : (ℕ × OptRecord) × ℕ). Ok y.0.1) same,
      ap (λ (y : (ℕ × OptRecord) × ℕ). y.0.0) same,
      ap (λ (y : (ℕ × OptRecord) × ℕ). y.1) same,
    )

-- records and then OPT
pub opt_last : (count all : ℕ) (records : List RecordValue) (o0 o1 o2 : List ℕ) (opt : OptRecord) → all ≡ count + 1
    → Follows (λ bytes at. additionals_at count bytes at nothing_found) o0 o1 (only_records records)
    → Follows opt_at o1 o2 (41, opt)
    → Follows (λ bytes at. additionals_at all bytes at nothing_found) o0 o2 (record { records = records; opt = Some opt })
unfolding found_with
opt_last count all records o0 o1 o2 opt k a b = (
  a.0 ++ b.0,
  b.1 ∙ ap (λ (o : List ℕ). o ++ b.0) a.1 ∙ append_assoc o0 a.0 b.0,
  λ bytes begins.
      let c = opt_is bytes (length o1) 41 opt (length o2) (b.2 bytes begins) in
      let found : Found = record { records = records; opt = Some opt } in
      let with_it : found_with bytes c.0 (only_records records) ≡ Ok found = rw (c.3, c.2) refl in
      last_found count all bytes (length o0) nothing_found (only_records records) found (length o1) c.0 k
      (a.2 bytes (begins_more o1 o2 b.0 bytes b.1 begins)) c.1 with_it
      ∙ ap (λ (n : ℕ). Ok (found, n)) c.4,
)

-- ---- the flags

digit : Bool → ℕ
digit true = 1
digit false = 0

digit_small : (b : Bool) → digit b ≤ 1
unfolding digit
digit_small true = omega arith
digit_small false = omega arith

digit_weight : (b : Bool) (w : ℕ) → weighed b w ≡ digit b * w
unfolding digit
digit_weight true w = omega arith
digit_weight false w = omega arith

digit_back : (b : Bool) (n : ℕ) → n ≡ digit b → eqb n 1 ≡ b
unfolding digit
digit_back true n e = rw e refl
digit_back false n e = rw e refl

pub record FlagsRead (m : WireMessage) (truncated : Bool) (op code f : ℕ) : Type 0 where
  pub response : bit 32768 f ≡ m.is_response
  pub op_read : f / 2048 % 16 ≡ op
  pub authoritative : bit 1024 f ≡ m.message.metadata.authoritative
  pub truncation : bit 512 f ≡ truncated
  pub desired : bit 256 f ≡ m.message.metadata.recursion_desired
  pub available : bit 128 f ≡ m.message.metadata.recursion_available
  pub reserved : bit 64 f ≡ m.reserved
  pub authentic : bit 32 f ≡ m.authentic_data
  pub disabled : bit 16 f ≡ m.checking_disabled
  pub code_read : f % 16 ≡ code

flags_read : (m : WireMessage) (truncated : Bool) (op code f : ℕ) → op < 16 → code < 16 → f ≡ flags_of m truncated op code
    → FlagsRead m truncated op code f
flags_read m truncated op code f small low e =
    let q = digit m.is_response in
    let a = digit m.message.metadata.authoritative in
    let t = digit truncated in
    let r = digit m.message.metadata.recursion_desired in
    let v = digit m.message.metadata.recursion_available in
    let z = digit m.reserved in
    let d = digit m.authentic_data in
    let k = digit m.checking_disabled in
    let s0 = digit_small m.is_response in
    let s1 = digit_small m.message.metadata.authoritative in
    let s2 = digit_small truncated in
    let s3 = digit_small m.message.metadata.recursion_desired in
    let s4 = digit_small m.message.metadata.recursion_available in
    let s5 = digit_small m.reserved in
    let s6 = digit_small m.authentic_data in
    let s7 = digit_small m.checking_disabled in
    let sum : f ≡ q * 32768 + op * 2048 + a * 1024 + t * 512 + r * 256 + v * 128 + z * 64 + d * 32 + k * 16 + code =
    omega (
      arith,
      e,
      digit_weight m.is_response 32768,
      digit_weight m.message.metadata.authoritative 1024,
      digit_weight truncated 512,
      digit_weight m.message.metadata.recursion_desired 256,
      digit_weight m.message.metadata.recursion_available 128,
      digit_weight m.reserved 64,
      digit_weight m.authentic_data 32,
      digit_weight m.checking_disabled 16,
    ) in
    let n = numbers q op a t r v z d k code f s0 small s1 s2 s3 s4 s5 s6 s7 low sum in
    record {
      response = digit_back m.is_response (f / 32768 % 2) n.0;
      op_read = n.1;
      authoritative = digit_back m.message.metadata.authoritative (f / 1024 % 2) n.2;
      truncation = digit_back truncated (f / 512 % 2) n.3;
      desired = digit_back m.message.metadata.recursion_desired (f / 256 % 2) n.4;
      available = digit_back m.message.metadata.recursion_available (f / 128 % 2) n.5;
      reserved = digit_back m.reserved (f / 64 % 2) n.6;
      authentic = digit_back m.authentic_data (f / 32 % 2) n.7;
      disabled = digit_back m.checking_disabled (f / 16 % 2) n.8;
      code_read = n.9;
    }
  where
    numbers : (q op a t r v z d k c f : ℕ) → q ≤ 1 → op < 16 → a ≤ 1 → t ≤ 1 → r ≤ 1 → v ≤ 1 → z ≤ 1 → d ≤ 1 → k ≤ 1
        → c < 16 → f ≡ q * 32768 + op * 2048 + a * 1024 + t * 512 + r * 256 + v * 128 + z * 64 + d * 32 + k * 16 + c
        → (f / 32768 % 2 ≡ q) × (f / 2048 % 16 ≡ op) × (f / 1024 % 2 ≡ a) × (f / 512 % 2 ≡ t) × (f / 256 % 2 ≡ r)
        × (f / 128 % 2 ≡ v) × (f / 64 % 2 ≡ z) × (f / 32 % 2 ≡ d) × (f / 16 % 2 ≡ k) × (f % 16 ≡ c)
    numbers q op a t r v z d k c f hq ho ha ht hr hv hz hd hk hc e = (
      omega arith,
      omega arith,
      omega arith,
      omega arith,
      omega arith,
      omega arith,
      omega arith,
      omega arith,
      omega arith,
      omega arith,
    )

-- ---- what is read

opt_edns : (edns : Option EdnsValue) (extended : ℕ) → option_map (λ opt. opt.edns) (opt_of edns extended) ≡ edns
opt_edns None extended = refl
opt_edns (Some e) extended = refl

pub shown_is : (m : WireMessage) (truncated : Bool) (answers authorities additionals : List RecordValue) (header : Header) (extended : ℕ)
    → header.id ≡ m.message.metadata.id → op_code m.message.metadata.op_code < 16
    → header.flags ≡ flags_of m truncated (op_code m.message.metadata.op_code) (response_code m.message.metadata.response_code % 16)
    → extended_of (opt_of m.edns extended) * 16 + response_code m.message.metadata.response_code % 16
    ≡ response_code m.message.metadata.response_code
    → assembled header (map named_query m.message.queries) (map named_record answers) (map named_record authorities)
    (record { records = map named_record additionals; opt = opt_of m.edns extended })
    ≡ shown m truncated answers authorities additionals
unfolding assembled metadata_of
shown_is m truncated answers authorities additionals header extended id small flags code =
    let f = flags_read m truncated (op_code m.message.metadata.op_code) (response_code m.message.metadata.response_code % 16) header.flags small (omega arith) flags in
    rw (
      id,
      f.response,
      f.op_read,
      f.authoritative,
      f.truncation,
      f.desired,
      f.available,
      f.reserved,
      f.authentic,
      f.disabled,
      f.code_read,
      code,
      opt_edns m.edns extended,
    ) refl

-- the message whose header and sections were written
pub message_is : (m : WireMessage) (truncated : Bool) (queries : List Query) (edns : Option EdnsValue) (answers authorities additionals : List RecordValue)
    (header : Header) (extended : ℕ) (v0 v1 v2 v3 v4 : List ℕ) → queries ≡ m.message.queries → edns ≡ m.edns
    → IsHeader m truncated (length answers) (length authorities) (length additionals) header extended
    → length v0 ≡ 12 → ((bytes : List ℕ) → Begins v0 bytes → header_at bytes ≡ Ok header)
    → Follows (λ bytes at. repeat_at (query_at bytes) (length queries) at) v0 v1 (map named_query queries)
    → Follows (λ bytes at. repeat_at (record_at bytes) (length answers) at) v1 v2 (map named_record answers)
    → Follows (λ bytes at. repeat_at (record_at bytes) (length authorities) at) v2 v3 (map named_record authorities)
    → Follows (λ bytes at. additionals_at (length additionals + opt_count edns) bytes at nothing_found) v3 v4
    (record { records = map named_record additionals; opt = opt_of edns extended })
    → spelled_message v4 ≡ Ok (shown m truncated answers authorities additionals)
message_is m truncated queries edns answers authorities additionals header extended v0 v1 v2 v3 v4 same alike is twelve h q a n rest =
    let r : Follows (λ bytes at. additionals_at (length additionals + opt_count m.edns) bytes at nothing_found) v3 v4
    (record { records = map named_record additionals; opt = opt_of m.edns extended }) =
    subst (λ (e : Option EdnsValue). Follows (λ bytes at. additionals_at (length additionals + opt_count e) bytes at nothing_found) v3 v4
    (record { records = map named_record additionals; opt = opt_of e extended })) alike rest in
    let q1 : Follows (λ bytes at. repeat_at (query_at bytes) (length m.message.queries) at) v0 v1 (map named_query m.message.queries) =
    subst (λ (qs : List Query). Follows (λ bytes at. repeat_at (query_at bytes) (length qs) at) v0 v1 (map named_query qs)) same q in
    let q2 : Follows (λ bytes at. repeat_at (query_at bytes) header.queries at) v0 v1 (map named_query m.message.queries) =
    subst (λ (k : ℕ). Follows (λ bytes at. repeat_at (query_at bytes) k at) v0 v1 (map named_query m.message.queries)) (sym is.queries) q1 in
    let a2 : Follows (λ bytes at. repeat_at (record_at bytes) header.answers at) v1 v2 (map named_record answers) =
    subst (λ (k : ℕ). Follows (λ bytes at. repeat_at (record_at bytes) k at) v1 v2 (map named_record answers)) (sym is.answers) a in
    let n2 : Follows (λ bytes at. repeat_at (record_at bytes) header.authorities at) v2 v3 (map named_record authorities) =
    subst (λ (k : ℕ). Follows (λ bytes at. repeat_at (record_at bytes) k at) v2 v3 (map named_record authorities)) (sym is.authorities) n in
    let found : Found = record { records = map named_record additionals; opt = opt_of m.edns extended } in
    let r2 : Follows (λ bytes at. additionals_at header.additionals bytes at nothing_found) v3 v4 found =
    subst (λ (k : ℕ). Follows (λ bytes at. additionals_at k bytes at nothing_found) v3 v4 found) (sym is.additionals) r in
    whole_is header v0 v1 v2 v3 v4 (map named_query m.message.queries) (map named_record answers) (map named_record authorities) found
    twelve h q2 a2 n2 r2
    ∙ ap (λ (x : WireMessage). Ok x) (shown_is m truncated answers authorities additionals header extended is.id is.op is.flags is.code)

-- records and no OPT
pub none_last : (count : ℕ) (records : List RecordValue) (o0 o1 : List ℕ)
    → Follows (λ bytes at. additionals_at count bytes at nothing_found) o0 o1 (only_records records)
    → Follows (λ bytes at. additionals_at (count + 0) bytes at nothing_found) o0 o1 (only_records records)
none_last count records o0 o1 a =
    let same : count ≡ count + 0 = omega arith in
    subst (λ (n : ℕ). Follows (λ bytes at. additionals_at n bytes at nothing_found) o0 o1 (only_records records)) same a

-- a message with these records is the message cut so
pub shown_cut : (m : WireMessage) (kept : ℕ) (truncated : Bool) (answers authorities additionals : List RecordValue)
    → truncated ≡ (m.message.metadata.truncation || nat_lt kept (record_count m))
    → answers ≡ take kept m.message.answers
    → authorities ≡ take (kept - length m.message.answers) m.message.authorities
    → additionals ≡ take (kept - length m.message.answers - length m.message.authorities) m.message.additionals
    → shown m truncated answers authorities additionals ≡ cut m kept
shown_cut m kept truncated answers authorities additionals t a n r = rw (t, a, n, r) refl
