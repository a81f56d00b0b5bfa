-- The parts of a message that follow one another are read as the message.
use Rattle.std.proofs.Common.{◌≡◌, ℕ, zero, suc, ◌-◌, ◌+◌, List, [], ◌++◌, length, None, Ok, refl, sym, ap, ◌∙◌, arith}
use Rattle.std.proofs.lemmas.List.{append-nil}
use Rattle.hickory_proto_core.specs.Records.{RecordValue}
use Rattle.hickory_proto_core.specs.declared.query.Query.{Query}
use Rattle.hickory_proto_wire.specs.declared.header.Header.{Header}
use Rattle.hickory_proto_wire.specs.declared.wire_record.RecordHead.{RecordHead}
use Rattle.hickory_proto_wire.specs.Found.{Found}
use Rattle.hickory_proto_wire.specs.Octets.{◌>>=◌}
use Rattle.hickory_proto_wire.specs.Records.{repeat_at, query_at, head_at, record_from, record_at, found_with, additionals_at, nothing_found}
use Rattle.hickory_proto_wire.specs.Messages.{header_at, assembled, spelled_message}
use Rattle.hickory_proto_wire.specs.Writing.{Begins, Stands, Follows, u16_octets, coded_at}
use Rattle.hickory_proto_wire.proofs.Fits.{bind_ok, ok_is}
use Rattle.hickory_proto_wire.proofs.Stands.{stands_front, stands_behind, begins_more, u16_spelled}

-- ---- the header

pub header_there : (id flags q a n r : ℕ) (bytes : List ℕ)
    → Begins (u16_octets id ++ (u16_octets flags ++ (u16_octets q ++ (u16_octets a ++ (u16_octets n ++ u16_octets r))))) bytes
    → header_at bytes ≡ Ok (record { id = id; flags = flags; queries = q; answers = a; authorities = n; additionals = r })
unfolding header_at
header_there id flags q a n r bytes b =
    let t4 = u16_octets n ++ u16_octets r in
    let t3 = u16_octets a ++ t4 in
    let t2 = u16_octets q ++ t3 in
    let t1 = u16_octets flags ++ t2 in
    let s0 : Stands (u16_octets id ++ t1) bytes 0 = ([], b.0, b.1, refl) in
    let s1 : Stands t1 bytes 2 = stands_behind (u16_octets id) t1 bytes 0 s0 in
    let s2 : Stands t2 bytes 4 = stands_behind (u16_octets flags) t2 bytes 2 s1 in
    let s3 : Stands t3 bytes 6 = stands_behind (u16_octets q) t3 bytes 4 s2 in
    let s4 : Stands t4 bytes 8 = stands_behind (u16_octets a) t4 bytes 6 s3 in
    let s5 : Stands (u16_octets r) bytes 10 = stands_behind (u16_octets n) (u16_octets r) bytes 8 s4 in
    rw (
      u16_spelled id [] bytes 0 (bytes, refl) (omega arith) (stands_front (u16_octets id) t1 bytes 0 s0),
      u16_spelled flags [] bytes 2 (bytes, refl) (omega arith) (stands_front (u16_octets flags) t2 bytes 2 s1),
      u16_spelled q [] bytes 4 (bytes, refl) (omega arith) (stands_front (u16_octets q) t3 bytes 4 s2),
      u16_spelled a [] bytes 6 (bytes, refl) (omega arith) (stands_front (u16_octets a) t4 bytes 6 s3),
      u16_spelled n [] bytes 8 (bytes, refl) (omega arith) (stands_front (u16_octets n) (u16_octets r) bytes 8 s4),
      u16_spelled r [] bytes 10 (bytes, refl) (omega arith) s5,
    ) refl

-- ---- records with the code of their type

pub coded_is : (bytes : List ℕ) (at : ℕ) (code : ℕ) (x : RecordValue) (after : ℕ) → coded_at bytes at ≡ Ok ((code, x), after)
    → (head : RecordHead) × (head_at bytes at ≡ Ok head) × (record_from bytes head ≡ Ok x) × (head.code ≡ code)
    × (head.end ≡ after)
unfolding coded_at
coded_is bytes at code x after e =
    let h = bind_ok (head_at bytes at) (λ head. record_from bytes head >>= λ found. Ok ((head.code, found), head.end)) ((code, x), after) e in
    let r = bind_ok (record_from bytes h.0) (λ found. Ok ((h.0.code, found), h.0.end)) ((code, x), after) h.2 in
    let made : (ℕ × RecordValue) × ℕ = ((h.0.code, r.0), h.0.end) in
    let same : made ≡ ((code, x), after) = ok_is made ((code, x), after) r.2 in (
      h.0,
      h.1,
      r.1 ∙ ap (λ (y : (ℕ × RecordValue) × ℕ). Ok y.0.1) same,
      ap (λ (y : (ℕ × RecordValue) × ℕ). y.0.0) same,
      ap (λ (y : (ℕ × RecordValue) × ℕ). y.1) same,
    )

pub coded_record : (old new : List ℕ) (code : ℕ) (x : RecordValue) → Follows coded_at old new (code, x)
    → Follows record_at old new x
unfolding record_at
coded_record old new code x a = (
  a.0,
  a.1,
  λ bytes b.
      let c = coded_is bytes (length old) code x (length new) (a.2 bytes b) in
      rw (c.1, c.2) (ap (λ (n : ℕ). Ok (x, n)) c.4),
)

-- ---- the additional section

pub last_found : (count all : ℕ) (bytes : List ℕ) (at : ℕ) (found g more : Found) (next : ℕ) (head : RecordHead)
    → all ≡ count + 1 → additionals_at count bytes at found ≡ Ok (g, next) → head_at bytes next ≡ Ok head
    → found_with bytes head g ≡ Ok more → additionals_at all bytes at found ≡ Ok (more, head.end)
unfolding additionals_at
last_found zero all bytes at found g more next head k first one with_it =
    let step : all ≡ suc zero = omega (arith, k) in
    let none : Found × ℕ = (found, at) in
    let same : none ≡ (g, next) = ok_is none (g, next) first in
    let there : head_at bytes at ≡ Ok head = ap (λ (y : Found × ℕ). head_at bytes y.1) same ∙ one in
    let adds : found_with bytes head found ≡ Ok more = ap (λ (y : Found × ℕ). found_with bytes head y.0) same ∙ with_it in
    rw (step, there, adds) refl
last_found (suc count) all bytes at found g more next head k first one with_it =
    let step : all ≡ suc (all - 1) = omega (arith, k) in
    let h = bind_ok (head_at bytes at) (λ head. found_with bytes head found >>= λ more. additionals_at count bytes head.end more) (g, next) first in
    let f = bind_ok (found_with bytes h.0 found) (λ more. additionals_at count bytes h.0.end more) (g, next) h.2 in
    let rest = last_found count (all - 1) bytes h.0.end f.0 g more next head (omega (arith, k)) f.2 one with_it in
    one_first (all - 1) all h.0 f.0 step h.1 f.1 rest
  where
    one_first : (count all : ℕ) (h : RecordHead) (f : Found) → all ≡ suc count → head_at bytes at ≡ Ok h
        → found_with bytes h found ≡ Ok f → additionals_at count bytes h.end f ≡ Ok (more, head.end)
        → additionals_at all bytes at found ≡ Ok (more, head.end)
    one_first count all h f k a b c = rw (k, a, b) c

abbrev pub only_records : List RecordValue → Found
only_records records = record { records = records; opt = None }

-- ---- the whole

pub whole_is : (header : Header) (v0 v1 v2 v3 v4 : List ℕ) (queries : List Query) (answers authorities : List RecordValue) (found : Found)
    → length v0 ≡ 12 → ((bytes : List ℕ) → Begins v0 bytes → header_at bytes ≡ Ok header)
    → Follows (λ bytes at. repeat_at (query_at bytes) header.queries at) v0 v1 queries
    → Follows (λ bytes at. repeat_at (record_at bytes) header.answers at) v1 v2 answers
    → Follows (λ bytes at. repeat_at (record_at bytes) header.authorities at) v2 v3 authorities
    → Follows (λ bytes at. additionals_at header.additionals bytes at nothing_found) v3 v4 found
    → spelled_message v4 ≡ Ok (assembled header queries answers authorities found)
unfolding spelled_message
whole_is header v0 v1 v2 v3 v4 queries answers authorities found twelve h q a n r =
    let b4 : Begins v4 v4 = ([], sym (append-nil v4)) in
    let b3 = begins_more v3 v4 r.0 v4 r.1 b4 in
    let b2 = begins_more v2 v3 n.0 v4 n.1 b3 in
    let b1 = begins_more v1 v2 a.0 v4 a.1 b2 in
    let b0 = begins_more v0 v1 q.0 v4 q.1 b1 in
    let first : repeat_at (query_at v4) header.queries 12 ≡ Ok (queries, length v1) =
    ap (λ (n : ℕ). repeat_at (query_at v4) header.queries n) (sym twelve) ∙ q.2 v4 b1 in
    rw (h v4 b0, first, a.2 v4 b2, n.2 v4 b3, r.2 v4 b4) refl
