-- The octets of a message are read as the message with its first records.
use Rattle.std.proofs.Common.{◌≡◌, ℕ, zero, suc, ◌-◌, ◌+◌, ◌*◌, ◌/◌, ◌%◌, ◌<◌, false, ltb, eqb, List, [], ◌∷◌, ◌++◌, length, take, map, Ok, refl, sym, ap, subst, ◌∙◌, append_assoc, arith}
use Rattle.std.specs.Prelude.{Option, None, Some}
use Rattle.std.specs.Option.{option_or}
use Rattle.std.specs.List.{fold}
use Rattle.std.proofs.lemmas.Bool.{ne_eqb, eqb-false, ltb-false}
use Rattle.std.proofs.lemmas.List.{append-nil}
use Rattle.hickory_proto_codes.specs.Codes.{op_code, response_code}
use Rattle.hickory_proto_core.specs.Records.{RecordValue}
use Rattle.hickory_proto_core.specs.declared.query.Query.{Query}
use Rattle.hickory_proto_wire.specs.declared.header.Header.{Header}
use Rattle.hickory_proto_wire.specs.declared.wire_message.WireMessage.{WireMessage}
use Rattle.hickory_proto_wire.specs.declared.wire_record.OptRecord.{OptRecord}
use Rattle.hickory_proto_wire.specs.Edns.{EdnsValue, IsInRange, AreInRange}
use Rattle.hickory_proto_wire.specs.Found.{Found}
use Rattle.hickory_proto_wire.specs.Records.{repeat_at, query_at, record_at, found_with, additionals_at, nothing_found}
use Rattle.hickory_proto_wire.specs.Messages.{extended_of, spelled_message}
use Rattle.hickory_proto_wire.specs.Writing.{Begins, Adds, Follows, u16_octets, coded_at, data_code, flags_of, named_query, named_record, opt_of, opt_at, opt_count, IsHeader, cut}
use Rattle.hickory_proto_wire.specs.Written.{u32_octets, Body, query_added, record_added, records_added, queries_body, records_of, edns_octets, opt_octets, is_cut, header_octets, octets_of}
use Rattle.hickory_proto_wire.specs.Refused.{fault_if, first_fault, query_fault, record_fault, additional_fault, data_fault, name_fault, op_fault, code_fault, counts_fault, header_fault, opt_fault, sections_fault, message_fault}
use Rattle.hickory_proto_wire.specs.Made.{query_flaw, record_flaw}
use Rattle.hickory_proto_wire.proofs.Stands.{begins_more}
use Rattle.hickory_proto_wire.proofs.Adds.{Reader}
use Rattle.hickory_proto_wire.proofs.Sections.{one_before, follows, follows_none}
use Rattle.hickory_proto_wire.proofs.Messages.{header_there, coded_is, coded_record, only_records}
use Rattle.hickory_proto_wire.proofs.Opt.{opt_adds, opt_last, none_last, message_is, shown_cut}
use Rattle.hickory_proto_wire.proofs.Faults.{or_first, or_second, or_none, front_none, behind_none, taken_none}
use Rattle.hickory_proto_wire.proofs.Spelled.{u32_spelled, not_faulty, BodyStands, query_follows, record_follows}

-- ---- lists

pub fold_append : {A B : Type 0} (f : B → A → B) (b : B) (xs ys : List A) → fold f b (xs ++ ys) ≡ fold f (fold f b xs) ys
fold_append f b [] ys = refl
fold_append f b (x ∷ xs) ys = fold_append f (f b x) xs ys

pub take_both : {A : Type 0} (n : ℕ) (xs ys : List A) → take n (xs ++ ys) ≡ take n xs ++ take (n - length xs) ys
take_both {A} zero xs ys =
    let none : 0 - length xs ≡ 0 = omega arith in
    sym (ap (λ (k : ℕ). take k ys) none)
take_both {A} (suc n) [] ys =
    let all : suc n - 0 ≡ suc n = omega arith in
    sym (ap (λ (k : ℕ). take k ys) all)
take_both {A} (suc n) (x ∷ xs) ys =
    let less : n - length xs ≡ suc n - length (x ∷ xs) = omega arith in
    ap (λ (zs : List A). x ∷ zs) (take_both n xs ys) ∙ ap (λ (k : ℕ). (x ∷ take n xs) ++ take k ys) less

-- ---- sections

-- a value and those behind it
follows_first : {A : Type 0} (read : Reader A) (count : ℕ) (o0 o1 o2 : List ℕ) (x : A) (xs : List A) → Follows read o0 o1 x
    → Follows (λ bytes at. repeat_at (read bytes) count at) o1 o2 xs
    → Follows (λ bytes at. repeat_at (read bytes) (suc count) at) o0 o2 (x ∷ xs)
follows_first read count o0 o1 o2 x xs a b = (
  a.0 ++ b.0,
  b.1 ∙ ap (λ (o : List ℕ). o ++ b.0) a.1 ∙ append_assoc o0 a.0 b.0,
  λ bytes begins.
      one_before (read bytes) count (suc count) (length o0) (x, length o1) xs (length o2) refl
      (a.2 bytes (begins_more o1 o2 b.0 bytes b.1 begins)) (b.2 bytes begins),
)

queries_follow : (header : List ℕ) (b : Body) (qs : List Query) → BodyStands header b → first_fault query_flaw qs ≡ None
    → first_fault query_fault qs ≡ None
    → Follows (λ bytes at. repeat_at (query_at bytes) (length qs) at) (header ++ b.octets)
    (header ++ (fold query_added b qs).octets) (map named_query qs) × BodyStands header (fold query_added b qs)
queries_follow header b [] s made right = (follows_none query_at (header ++ b.octets), s)
queries_follow header b (q ∷ qs) s made right =
    let one = query_follows header b q s (or_first (query_flaw q) (first_fault query_flaw qs) made) (or_first (query_fault q) (first_fault query_fault qs) right) in
    let rest = queries_follow header (query_added b q) qs one.1 (or_second (query_flaw q) (first_fault query_flaw qs) made) (or_second (query_fault q) (first_fault query_fault qs) right) in
    (follows_first query_at (length qs) _ _ _ (named_query q) (map named_query qs) one.0 rest.0, rest.1)

records_follow : (header : List ℕ) (b : Body) (rs : List RecordValue) → BodyStands header b → first_fault record_flaw rs ≡ None
    → first_fault record_fault rs ≡ None
    → Follows (λ bytes at. repeat_at (record_at bytes) (length rs) at) (header ++ b.octets)
    (header ++ (records_added b rs).octets) (map named_record rs) × BodyStands header (records_added b rs)
records_follow header b [] s made right = (follows_none record_at (header ++ b.octets), s)
records_follow header b (r ∷ rs) s made right =
    let one = record_follows header b r s (or_first (record_flaw r) (first_fault record_flaw rs) made) (or_first (record_fault r) (first_fault record_fault rs) right) in
    let rest = records_follow header (record_added b r) rs one.1 (or_second (record_flaw r) (first_fault record_flaw rs) made) (or_second (record_fault r) (first_fault record_fault rs) right) in
    (follows_first record_at (length rs) _ _ _ (named_record r) (map named_record rs) (coded_record _ _ _ _ one.0) rest.0, rest.1)

-- ---- the additional section

pub additional_right : (r : RecordValue) → additional_fault r ≡ None → (record_fault r ≡ None) × (data_code r.rdata ≡ 41 → ⊥)
additional_right r e =
    let known = eqb (data_code r.rdata) 41 in
    let rest = or_second (name_fault r.name) (option_or (fault_if known _) (data_fault r.rdata)) e in (
      or_none (name_fault r.name) (data_fault r.rdata) (or_first (name_fault r.name) _ e) (or_second (fault_if known _) (data_fault r.rdata) rest),
      eqb-false (data_code r.rdata) 41 (not_faulty known _ (or_first (fault_if known _) (data_fault r.rdata) rest)),
    )

abbrev found_more : Found → List RecordValue → Found
found_more f rs = record { records = f.records ++ map named_record rs; opt = f.opt }

abbrev FollowsFound : List ℕ → List ℕ → List RecordValue → Type 0
FollowsFound old new rs =
    (octets : List ℕ) × (new ≡ old ++ octets)
    × ((bytes : List ℕ) (f : Found) → Begins new bytes
    → additionals_at (length rs) bytes (length old) f ≡ Ok (found_more f rs, length new))

found_first : (r : RecordValue) (rs : List RecordValue) (o0 o1 o2 : List ℕ) → (data_code r.rdata ≡ 41 → ⊥)
    → Follows coded_at o0 o1 (data_code r.rdata, named_record r) → FollowsFound o1 o2 rs → FollowsFound o0 o2 (r ∷ rs)
unfolding additionals_at found_with
found_first r rs o0 o1 o2 other a b = (
  a.0 ++ b.0,
  b.1 ∙ ap (λ (o : List ℕ). o ++ b.0) a.1 ∙ append_assoc o0 a.0 b.0,
  λ bytes f begins.
      let c = coded_is bytes (length o0) (data_code r.rdata) (named_record r) (length o1) (a.2 bytes (begins_more o1 o2 b.0 bytes b.1 begins)) in
      let not : eqb c.0.code 41 ≡ false = ne_eqb c.0.code 41 (λ z. other (sym c.3 ∙ z)) in
      let more : Found = record { records = f.records ++ named_record r ∷ []; opt = f.opt } in
      let with_it : found_with bytes c.0 f ≡ Ok more = rw (not, c.2) refl in
      let same : (f.records ++ named_record r ∷ []) ++ map named_record rs ≡ f.records ++ map named_record (r ∷ rs) =
      append_assoc f.records (named_record r ∷ []) (map named_record rs) in
      rw (c.1, with_it, c.4) (b.2 bytes more begins)
      ∙ ap (λ (xs : List RecordValue). Ok (record { records = xs; opt = f.opt }, length o2)) same,
)

found_none : (o : List ℕ) → FollowsFound o o []
unfolding additionals_at
found_none o = (
  [],
  sym (append-nil o),
  λ bytes f begins. ap (λ (xs : List RecordValue). Ok (record { records = xs; opt = f.opt }, length o)) (sym (append-nil f.records)),
)

additionals_follow : (header : List ℕ) (b : Body) (rs : List RecordValue) → BodyStands header b → first_fault record_flaw rs ≡ None
    → first_fault additional_fault rs ≡ None
    → FollowsFound (header ++ b.octets) (header ++ (records_added b rs).octets) rs
additionals_follow header b [] s made right = found_none (header ++ b.octets)
additionals_follow header b (r ∷ rs) s made right =
    let fine = additional_right r (or_first (additional_fault r) (first_fault additional_fault rs) right) in
    let one = record_follows header b r s (or_first (record_flaw r) (first_fault record_flaw rs) made) fine.0 in
    let rest = additionals_follow header (record_added b r) rs one.1 (or_second (record_flaw r) (first_fault record_flaw rs) made) (or_second (additional_fault r) (first_fault additional_fault rs) right) in
    found_first r rs _ _ _ fine.1 one.0 rest

plain_follow : (old new : List ℕ) (rs : List RecordValue) → FollowsFound old new rs
    → Follows (λ bytes at. additionals_at (length rs) bytes at nothing_found) old new (only_records (map named_record rs))
plain_follow old new rs a = (a.0, a.1, λ bytes begins. a.2 bytes nothing_found begins)

-- ---- OPT

seven : (o a b c d e f : List ℕ) → (((((o ++ a) ++ b) ++ c) ++ d) ++ e) ++ f ≡ o ++ (a ++ (b ++ (c ++ (d ++ (e ++ f)))))
seven o a b c d e f =
    append_assoc ((((o ++ a) ++ b) ++ c) ++ d) e f ∙ append_assoc (((o ++ a) ++ b) ++ c) d (e ++ f)
    ∙ append_assoc ((o ++ a) ++ b) c (d ++ (e ++ f)) ∙ append_assoc (o ++ a) b (c ++ (d ++ (e ++ f)))
    ∙ append_assoc o a (b ++ (c ++ (d ++ (e ++ f))))

opt_follows : (old : List ℕ) (e : EdnsValue) (code : ℕ) → IsInRange e
    → Follows opt_at old (old ++ edns_octets e code) (41, record { extended = code / 16; edns = e })
opt_follows old e code range =
    let ttl : ℕ = code / 16 * 16777216 + e.version * 65536 + e.flags in
    let x : ℕ × OptRecord = (41, record { extended = code / 16; edns = e }) in
    let o1 = old ++ 0 ∷ [] in
    let o2 = o1 ++ u16_octets 41 in
    let o3 = o2 ++ u16_octets e.size in
    let o4 = o3 ++ u32_octets ttl in
    let o5 = o4 ++ u16_octets (length e.options) in
    let a : Adds opt_at old old (o5 ++ e.options) x =
    opt_adds old old o1 o2 o3 o4 o5 (o5 ++ e.options) (code / 16) ttl (length e.options) e refl range.0 range.1 refl refl refl refl
    (u32_octets ttl, refl, u32_spelled old ttl) refl refl in
    subst (λ (o : List ℕ). Follows opt_at old o x)
    (seven old (0 ∷ []) (u16_octets 41) (u16_octets e.size) (u32_octets ttl) (u16_octets (length e.options)) e.options)
    (follows opt_at old (o5 ++ e.options) x a)

-- the additional section with OPT
last_follow : (old new : List ℕ) (rs : List RecordValue) (edns : Option EdnsValue) (code : ℕ) → AreInRange edns
    → FollowsFound old new rs
    → Follows (λ bytes at. additionals_at (length rs + opt_count edns) bytes at nothing_found) old (new ++ opt_octets edns code)
    (record { records = map named_record rs; opt = opt_of edns (code / 16) })
last_follow old new rs None code range a =
    subst (λ (o : List ℕ). Follows (λ bytes at. additionals_at (length rs + 0) bytes at nothing_found) old o (only_records (map named_record rs)))
    (sym (append-nil new))
    (none_last (length rs) (map named_record rs) old new (plain_follow old new rs a))
last_follow old new rs (Some e) code range a =
    opt_last (length rs) (length rs + 1) (map named_record rs) old new (new ++ edns_octets e code) (record { extended = code / 16; edns = e }) refl
    (plain_follow old new rs a) (opt_follows new e code range)

-- ---- the header

small_op : (op : ℕ) → op_fault op ≡ None → op < 16
small_op op e = let h = ltb-false 15 op (not_faulty (ltb 15 op) _ e) in omega (arith, h)

whole_code : (edns : Option EdnsValue) (code : ℕ) → code_fault edns code ≡ None
    → extended_of (opt_of edns (code / 16)) * 16 + code % 16 ≡ code
whole_code None code e = let h = ltb-false 15 code (not_faulty (ltb 15 code) _ e) in omega (arith, h)
whole_code (Some x) code e = omega arith

-- ---- the whole

pub octets_read : (m : WireMessage) (kept : ℕ) → message_fault m ≡ None → first_fault query_flaw m.message.queries ≡ None
    → first_fault record_flaw (take kept (records_of m)) ≡ None → AreInRange m.edns
    → spelled_message (octets_of m kept) ≡ Ok (cut m kept)
octets_read m kept right made_queries made range =
    let code : ℕ = response_code m.message.metadata.response_code in
    let op : ℕ = op_code m.message.metadata.op_code in
    let all_a = m.message.answers in
    let all_n = m.message.authorities in
    let all_r = m.message.additionals in
    let behind : ℕ = kept - length all_a in
    let last : ℕ = kept - length all_a - length all_n in
    let a = take kept all_a in
    let n = take behind all_n in
    let r = take last all_r in
    let head_right = or_first (header_fault m) (sections_fault m) right in
    let rest_right = or_second (header_fault m) (sections_fault m) right in
    let op_right = or_first (op_fault op) _ head_right in
    let code_right = or_first (code_fault m.edns code) (counts_fault m) (or_second (op_fault op) _ head_right) in
    let q_right = or_first (first_fault query_fault m.message.queries) _ rest_right in
    let rest_a = or_second (first_fault query_fault m.message.queries) _ rest_right in
    let a_right = or_first (first_fault record_fault all_a) _ rest_a in
    let rest_n = or_second (first_fault record_fault all_a) _ rest_a in
    let n_right = or_first (first_fault record_fault all_n) _ rest_n in
    let rest_r = or_second (first_fault record_fault all_n) _ rest_n in
    let r_right = or_first (first_fault additional_fault all_r) (opt_fault m.edns) rest_r in
    let parts : take kept (records_of m) ≡ a ++ (n ++ r) =
    take_both kept all_a (all_n ++ all_r) ∙ ap (λ (x : List RecordValue). a ++ x) (take_both behind all_n all_r) in
    let made_parts : first_fault record_flaw (a ++ (n ++ r)) ≡ None = ap (first_fault record_flaw) (sym parts) ∙ made in
    let made_a = front_none record_flaw a (n ++ r) made_parts in
    let made_nr = behind_none record_flaw a (n ++ r) made_parts in
    let made_n = front_none record_flaw n r made_nr in
    let made_r = behind_none record_flaw n r made_nr in
    let h = header_octets m kept in
    let start : Body = record { octets = []; places = [] } in
    let s0 : BodyStands h start = record { twelve = refl; all = tt } in
    let b1 = queries_body m in
    let b2 = records_added b1 a in
    let b3 = records_added b2 n in
    let b4 = records_added b3 r in
    let f1 = queries_follow h start m.message.queries s0 made_queries q_right in
    let f2 = records_follow h b1 a f1.1 made_a (taken_none record_fault kept all_a a_right) in
    let f3 = records_follow h b2 n f2.1 made_n (taken_none record_fault behind all_n n_right) in
    let f4 = additionals_follow h b3 r f3.1 made_r (taken_none additional_fault last all_r r_right) in
    let f5 = last_follow (h ++ b3.octets) (h ++ b4.octets) r m.edns code range f4 in
    let flags : ℕ = flags_of m (is_cut m kept) op (code % 16) in
    let header : Header = record {
      id = m.message.metadata.id;
      flags = flags;
      queries = length m.message.queries;
      answers = length a;
      authorities = length n;
      additionals = length r + opt_count m.edns;
    } in
    let is : IsHeader m (is_cut m kept) (length a) (length n) (length r) header (code / 16) = record {
      id = refl;
      op = small_op op op_right;
      flags = refl;
      code = whole_code m.edns code code_right;
      queries = refl;
      answers = refl;
      authorities = refl;
      additionals = refl;
    } in
    let bodies : records_added b1 (take kept (records_of m)) ≡ b4 =
    ap (λ (x : List RecordValue). records_added b1 x) parts ∙ fold_append record_added b1 a (n ++ r) ∙ fold_append record_added b2 n r in
    let octets : octets_of m kept ≡ (h ++ b4.octets) ++ opt_octets m.edns code =
    ap (λ (b : Body). h ++ (b.octets ++ opt_octets m.edns code)) bodies ∙ sym (append_assoc h b4.octets (opt_octets m.edns code)) in
    let read =
    message_is m (is_cut m kept) m.message.queries m.edns a n r header (code / 16) (h ++ []) (h ++ b1.octets) (h ++ b2.octets) (h ++ b3.octets) ((h ++ b4.octets) ++ opt_octets m.edns code) refl refl is refl
    (λ bytes b. header_there m.message.metadata.id flags (length m.message.queries) (length a) (length n) (length r + opt_count m.edns) bytes
    (subst (λ (o : List ℕ). Begins o bytes) (append-nil h) b)) f1.0 f2.0 f3.0 f5 in
    ap spelled_message octets ∙ read
    ∙ ap (λ (x : WireMessage). Ok x) (shown_cut m kept (is_cut m kept) a n r refl refl refl refl)
