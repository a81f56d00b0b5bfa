-- A message that is cut says so, and would have been too long.
use Rattle.std.proofs.Common.{◌≡◌, ℕ, zero, suc, ◌+◌, ◌/◌, ◌%◌, ◌≤◌, ◌<◌, Bool, true, false, List, [], ◌∷◌, ◌++◌, length, take, get_or, refl, sym, ap, ◌∙◌, length-append, arith}
use Rattle.std.specs.Prelude.{Option, None, Some, Ok, not, nat_lt, ◌==◌}
use Rattle.std.specs.Option.{option_map, option_or}
use Rattle.std.proofs.lemmas.Bool.{le-ltb, lt-ltb, ltb-true, ltb-false, eqb-true, eq-eqb}
use Rattle.hickory_proto_codes.specs.Codes.{response_code}
use Rattle.hickory_proto_core.specs.Records.{RecordValue}
use Rattle.hickory_proto_core.specs.declared.query.Query.{Query}
use Rattle.hickory_proto_wire.specs.Messages.{spelled_message}
use Rattle.hickory_proto_wire.specs.Refused.{wire_fault, message_fault, header_fault, op_fault, code_fault}
use Rattle.hickory_proto_wire.specs.ToWire.{IsWritten}
use Rattle.hickory_proto_wire.specs.Writing.{weighed, flags_of, record_count, cut}
use Rattle.hickory_proto_wire.specs.Written.{Body, record_octets, record_added, records_added, queries_body, records_of, header_octets, octets_of}
use Rattle.hickory_proto_wire.specs.declared.to_wire_error.ToWireError.{ToWireError}
use Rattle.hickory_proto_wire.specs.declared.wire_message.WireMessage.{WireMessage}
use Rattle.whole_replies.specs.Kept.{KeptValue}
use Rattle.stored_replies.specs.Stored.{response_to, whole_octets, too_long, store_fault}
use Rattle.stored_replies.specs.declared.choices.TheConstants.{LONGEST}
use Rattle.stored_replies.specs.declared.store_error.StoreError.{StoreError}
use Rattle.stored_replies.specs.declared.store_error.StoreError.TheVariants.{Unwritable, TooLong}
use Rattle.stored_replies.proofs.Added.{added, records_octets}
use Rattle.stored_replies.proofs.Whole.{last_octets, whole_parts}

-- ---- fewer records are fewer octets

fewer_octets : (rs : List RecordValue) (b : Body) (i : ℕ) → length (added b (take i rs)) ≤ length (added b rs)
fewer_octets [] b zero = omega arith
fewer_octets [] b (suc i) = omega arith
fewer_octets (r ∷ rs) b zero = omega arith
fewer_octets (r ∷ rs) b (suc i) =
    omega (
      arith,
      fewer_octets rs (record_added b r) i,
      length-append (record_octets b.places r) (added (record_added b r) (take i rs)),
      length-append (record_octets b.places r) (added (record_added b r) rs),
    )

pub within_whole : (m : WireMessage) (i : ℕ) → length (octets_of m i) ≤ length (whole_octets m)
within_whole m i =
    let b = queries_body m in
    let rs = records_of m in
    let part = (records_added b (take i rs)).octets in
    omega (
      arith,
      fewer_octets rs b i,
      ap length (records_octets b (take i rs)),
      ap length (whole_parts m),
      length-append (header_octets m i) (part ++ last_octets m),
      length-append part (last_octets m),
      length-append b.octets (added b (take i rs)),
      length-append (header_octets m (record_count m)) (b.octets ++ (added b rs ++ last_octets m)),
      length-append b.octets (added b rs ++ last_octets m),
      length-append (added b rs) (last_octets m),
    )

-- ---- whether all was kept

all_kept : (m : WireMessage) (limit : ℕ) (octets : List ℕ) (w : IsWritten m limit octets)
    → nat_lt w.kept (record_count m) ≡ false → w.kept ≡ record_count m
all_kept m limit octets w e =
    let le = ltb-false w.kept (record_count m) e in
    let known = w.known in
    omega (arith, le, known)

some_left : (m : WireMessage) (limit : ℕ) (octets : List ℕ) (w : IsWritten m limit octets)
    → nat_lt w.kept (record_count m) ≡ true → limit < length (whole_octets m)
some_left m limit octets w e =
    let past = w.most (ltb-true w.kept (record_count m) e) in
    omega (arith, past, within_whole m (w.kept + 1))

whole_is : (m : WireMessage) → octets_of m (record_count m) ≡ whole_octets m
unfolding whole_octets
whole_is m = refl

pub all_written : (m : WireMessage) (limit : ℕ) (octets : List ℕ) → IsWritten m limit octets
    → length (whole_octets m) ≤ limit → octets ≡ whole_octets m
all_written m limit octets w le = by (nat_lt w.kept (record_count m)) refl
  where
    by : (b : Bool) → nat_lt w.kept (record_count m) ≡ b → octets ≡ whole_octets m
    by true e =
        let past = some_left m limit octets w e in
        absurd (omega (arith, past, le))
    by false e = w.written ∙ ap (octets_of m) (all_kept m limit octets w e) ∙ whole_is m

-- ---- what the third octet says

weighed_least : (b : Bool) (w : ℕ) → weighed b w ≤ w
weighed_least true w = omega arith
weighed_least false w = omega arith

third_octet : (q : Query) (k : KeptValue) (kept : ℕ) (b : Bool) → nat_lt kept (record_count (response_to q k)) ≡ b
    → get_or (octets_of (response_to q k) kept) 2 0 ≡ flags_of (response_to q k) b 0 (response_code k.code % 16) / 256
third_octet q k kept b e =
    ap (λ (c : Bool). flags_of (response_to q k) c 0 (response_code k.code % 16) / 256) e

plain_octet : (q : Query) (k : KeptValue) → flags_of (response_to q k) false 0 (response_code k.code % 16) / 256 ≡ 128
plain_octet q k = omega (arith, weighed_least k.authentic_data 32)

cut_octet : (q : Query) (k : KeptValue) → flags_of (response_to q k) true 0 (response_code k.code % 16) / 256 ≡ 130
cut_octet q k = omega (arith, weighed_least k.authentic_data 32)

pub uncut_kept : (q : Query) (k : KeptValue) (octets : List ℕ) (w : IsWritten (response_to q k) LONGEST octets)
    → get_or octets 2 0 ≡ 128 → w.kept ≡ record_count (response_to q k)
uncut_kept q k octets w plain = by (nat_lt w.kept (record_count (response_to q k))) refl
  where
    by : (b : Bool) → nat_lt w.kept (record_count (response_to q k)) ≡ b → w.kept ≡ record_count (response_to q k)
    by true e =
        let says = ap (λ (o : List ℕ). get_or o 2 0) w.written ∙ third_octet q k w.kept true e ∙ cut_octet q k in
        absurd (omega (arith, says, plain))
    by false e = all_kept (response_to q k) LONGEST octets w e

pub uncut_whole : (q : Query) (k : KeptValue) (octets : List ℕ) → IsWritten (response_to q k) LONGEST octets
    → get_or octets 2 0 ≡ 128 → octets ≡ whole_octets (response_to q k)
uncut_whole q k octets w plain =
    w.written ∙ ap (octets_of (response_to q k)) (uncut_kept q k octets w plain) ∙ whole_is (response_to q k)

pub uncut_read : (q : Query) (k : KeptValue) (octets : List ℕ) → IsWritten (response_to q k) LONGEST octets
    → get_or octets 2 0 ≡ 128 → spelled_message octets ≡ Ok (cut (response_to q k) (record_count (response_to q k)))
uncut_read q k octets w plain =
    w.read ∙ ap (λ (n : ℕ). Ok (cut (response_to q k) n)) (uncut_kept q k octets w plain)

-- what the code tests
pub says_cut : (octets : List ℕ) (b : Bool) → b ≡ not (get_or octets 2 0 == 128) → b ≡ true → get_or octets 2 0 ≡ 128 → ⊥
says_cut octets b e t is =
    let yes : (get_or octets 2 0 == 128) ≡ true = eq-eqb (get_or octets 2 0) 128 is in
    let no : true ≡ false = sym t ∙ e ∙ ap not yes in
    absurd cc

not_false : (x : Bool) → not x ≡ false → x ≡ true
not_false true e = refl
not_false false e = absurd cc

pub says_whole : (octets : List ℕ) (b : Bool) → b ≡ not (get_or octets 2 0 == 128) → b ≡ false → get_or octets 2 0 ≡ 128
says_whole octets b e f = eqb-true (get_or octets 2 0) 128 (not_false (get_or octets 2 0 == 128) (sym e ∙ f))

pub cut_long : (q : Query) (k : KeptValue) (octets : List ℕ) → IsWritten (response_to q k) LONGEST octets
    → (get_or octets 2 0 ≡ 128 → ⊥) → LONGEST < length (whole_octets (response_to q k))
cut_long q k octets w other = by (nat_lt w.kept (record_count (response_to q k))) refl
  where
    by : (b : Bool) → nat_lt w.kept (record_count (response_to q k)) ≡ b → LONGEST < length (whole_octets (response_to q k))
    by true e = some_left (response_to q k) LONGEST octets w e
    by false e =
        absurd (other (ap (λ (o : List ℕ). get_or o 2 0) w.written ∙ third_octet q k w.kept false e ∙ plain_octet q k))

-- ---- faults

pub fault_long : (q : Query) (k : KeptValue) → option_map Unwritable (wire_fault (response_to q k) LONGEST) ≡ None
    → LONGEST < length (whole_octets (response_to q k)) → store_fault q k ≡ Some TooLong
fault_long q k none past = rw (none, lt-ltb LONGEST (length (whole_octets (response_to q k))) past) refl

pub fault_none : (q : Query) (k : KeptValue) → option_map Unwritable (wire_fault (response_to q k) LONGEST) ≡ None
    → length (whole_octets (response_to q k)) ≤ LONGEST → store_fault q k ≡ None
fault_none q k none le = rw (none, le-ltb LONGEST (length (whole_octets (response_to q k))) le) refl

pub fault_first : (q : Query) (k : KeptValue) (e : StoreError) → option_map Unwritable (wire_fault (response_to q k) LONGEST) ≡ Some e
    → store_fault q k ≡ Some e
fault_first q k e some = rw some refl

-- without OPT a code has 4 bits
first_none : {E : Type 0} (a b : Option E) → option_or a b ≡ None → a ≡ None
first_none None b e = refl
first_none (Some x) b e = absurd cc

next_none : {E : Type 0} (a b : Option E) → option_or a b ≡ None → b ≡ None
next_none None b e = e
next_none (Some x) b e = absurd cc

map_none : (fault : Option ToWireError) → option_map Unwritable fault ≡ None → fault ≡ None
map_none None e = refl
map_none (Some x) e = absurd cc

code_small : (code : ℕ) → code_fault None code ≡ None → code ≤ 15
code_small code e = by (nat_lt 15 code) refl
  where
    by : (b : Bool) → nat_lt 15 code ≡ b → code ≤ 15
    by true p =
        let some = rw p at e in
        absurd cc
    by false p = ltb-false 15 code p

pub small_code : (q : Query) (k : KeptValue) → store_fault q k ≡ None → response_code k.code ≤ 15
small_code q k e =
    let m = response_to q k in
    let code = response_code k.code in
    let wire = map_none (wire_fault m LONGEST) (first_none (option_map Unwritable (wire_fault m LONGEST)) (too_long m) e) in
    let whole : message_fault m ≡ None = first_none (message_fault m) _ wire in
    let header : header_fault m ≡ None = first_none (header_fault m) _ whole in
    code_small code (first_none (code_fault None code) _ (next_none (op_fault 0) _ header))
