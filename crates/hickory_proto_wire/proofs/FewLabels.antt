-- A message with few names takes few labels.
use Rattle.std.proofs.Common.{◌≡◌, ℕ, zero, suc, ◌-◌, ◌+◌, ◌*◌, ◌%◌, ◌≤◌, Bool, true, false, cond, ltb, eqb, ◌||◌, List, [], ◌∷◌, ◌++◌, length, take, None, Some, Option, Result, Ok, Err, refl, arith}
use Rattle.std.proofs.lemmas.Bool.{le-ltb, eqb-false}
use Rattle.std.proofs.lemmas.List.Sums.{sum_by-cons}
use Rattle.std.specs.List.{list_any}
use Rattle.std.specs.Ordering.{nat_cmp}
use Rattle.std.specs.BTreeMap.{is_at}
use Rattle.std.specs.BTreeSet.{insert_key}
use Rattle.hickory_proto_names.specs.Name.{is_empty_label, wire_len}
use Rattle.hickory_proto_wire.specs.declared.header.Header.{Header}
use Rattle.hickory_proto_wire.specs.declared.label_count.Section.{Section}
use Rattle.hickory_proto_wire.specs.declared.label_count.Section.TheVariants.{Questions, Records, Additionals}
use Rattle.hickory_proto_wire.specs.declared.wire_error.WireFault.{WireFault}
use Rattle.hickory_proto_wire.specs.declared.wire_error.WireFault.TheVariants.{TooManyLabels}
use Rattle.hickory_proto_wire.specs.declared.wire_message.WireMessage.{WireMessage}
use Rattle.hickory_proto_wire.specs.declared.wire_record.OptRecord.{OptRecord}
use Rattle.hickory_proto_wire.specs.declared.wire_record.RecordHead.{RecordHead}
use Rattle.hickory_proto_wire.specs.Octets.{◌>>=◌}
use Rattle.hickory_proto_wire.specs.Names.{labels_at, name_start}
use Rattle.hickory_proto_wire.specs.LabelsPlace.{measure, labels_place}
use Rattle.hickory_proto_wire.specs.Taken.{Taken}
use Rattle.hickory_proto_wire.specs.Records.{head_at}
use Rattle.hickory_proto_wire.specs.LabelsTaken.{most_labels, most_names, label_count, nothing_taken, with_name, with_next, with_data, with_data_of, with_entry, on_from, entry_behind, section_from, on_if, labels_taken}
use Rattle.hickory_proto_wire.specs.Messages.{header_at, spelled_message, message_of}
use Rattle.hickory_proto_codes.specs.Codes.{op_code, response_code}
use Rattle.hickory_proto_wire.specs.Writing.{opt_count, flags_of}
use Rattle.hickory_proto_wire.specs.Written.{is_cut, records_of, records_added, queries_body, opt_octets, octets_of}
use Rattle.hickory_proto_wire.proofs.Messages.{header_there}
use Rattle.hickory_proto_wire.proofs.Fits.{bind_ok, guard_ok, labels_fit}

-- ---- a name has at most 127 labels

empty_parts : (a b : Bool) → (a || b) ≡ false → (a ≡ false) × (b ≡ false)
empty_parts true b e = absurd cc
empty_parts false b e = (refl, e)

-- each label takes two octets or more, and the root one
labels_short : (ls : List (List ℕ)) → list_any is_empty_label ls ≡ false → 2 * length ls + 1 ≤ wire_len ls
labels_short [] some = omega arith
labels_short (l ∷ ls) some =
    let p = empty_parts (is_empty_label l) (list_any is_empty_label ls) some in
    let rest = labels_short ls p.1 in
    let one = eqb-false (length l) 0 p.0 in
    omega (arith, rest, one, sum_by-cons (λ (x : List ℕ). length x + 1) l ls)

count_few : (bytes : List ℕ) (at : ℕ) → label_count (measure bytes at) ≤ 127
count_few bytes at = by (labels_at 256 bytes (name_start at)) refl
  where
    by : (read : Result (List (List ℕ) × ℕ) WireFault) → labels_at 256 bytes (name_start at) ≡ read
        → label_count (read >>= λ x. Ok (length x.0, x.1)) ≤ 127
    by (Err f) e = omega arith
    by (Ok x) e =
        let fits = labels_fit 256 bytes (name_start at) x (omega arith) e in
        omega (arith, fits.fits, labels_short x.0 fits.some)

-- ---- what is taken grows by few

name_few : (bytes : List ℕ) (at : ℕ) (t : Taken) → (with_name bytes at t).labels ≤ t.labels + 127
unfolding with_name
name_few bytes at t = by (list_any (is_at (nat_cmp (labels_place bytes at))) t.places)
  where
    by : (known : Bool)
        → (cond known t (record { places = insert_key nat_cmp t.places (labels_place bytes at); labels = t.labels + label_count (measure bytes at) })).labels ≤ t.labels + 127
    by true = omega arith
    by false = omega (arith, count_few bytes at)

next_few : (bytes : List ℕ) (at : ℕ) (t : Taken) → (with_next bytes (measure bytes at) (with_name bytes at t)).labels ≤ t.labels + 254
next_few bytes at t = by (measure bytes at)
  where
    by : (read : Result (ℕ × ℕ) WireFault) → (with_next bytes read (with_name bytes at t)).labels ≤ t.labels + 254
    by (Ok x) = omega (arith, name_few bytes at t, name_few bytes x.1 (with_name bytes at t))
    by (Err f) = omega (arith, name_few bytes at t)

data_few : (code : ℕ) (bytes : List ℕ) (at : ℕ) (t : Taken) → (with_data code bytes at t).labels ≤ t.labels + 254
unfolding with_data
data_few code bytes at t = by (eqb code 2 || eqb code 5 || eqb code 12) (eqb code 15) (eqb code 33) (eqb code 6)
  where
    by : (one mx srv soa : Bool)
        → (cond one (with_name bytes at t) (cond mx (with_name bytes (at + 2) t) (cond srv (with_name bytes (at + 6) t)
        (cond soa (with_next bytes (measure bytes at) (with_name bytes at t)) t)))).labels ≤ t.labels + 254
    by true mx srv soa = omega (arith, name_few bytes at t)
    by false true srv soa = omega (arith, name_few bytes (at + 2) t)
    by false false true soa = omega (arith, name_few bytes (at + 6) t)
    by false false false true = next_few bytes at t
    by false false false false = omega arith

data_of_few : (bytes : List ℕ) (read : Result RecordHead WireFault) (t : Taken) → (with_data_of bytes read t).labels ≤ t.labels + 254
data_of_few bytes (Ok head) t = data_few head.code (take head.end bytes) head.start t
data_of_few bytes (Err f) t = omega arith

-- how many labels the names of an entry have at most
abbrev most_of : Section → ℕ
most_of Questions = 127
most_of Records = 381
most_of Additionals = 381

entry_few : (s : Section) (bytes : List ℕ) (at : ℕ) (t : Taken) → (with_entry s bytes at t).labels ≤ t.labels + most_of s
entry_few Questions bytes at t = name_few bytes at t
entry_few Records bytes at t =
    omega (arith, name_few bytes at t, data_of_few bytes (head_at bytes at) (with_name bytes at t))
entry_few Additionals bytes at t =
    omega (arith, name_few bytes at t, data_of_few bytes (head_at bytes at) (with_name bytes at t))

one_more : (s : Section) (n : ℕ) → most_of s * suc n ≡ most_of s + most_of s * n
one_more Questions n = omega arith
one_more Records n = omega arith
one_more Additionals n = omega arith

past_or_on : (past : Bool) (u : Taken) (on : Taken × Option ℕ) (n : ℕ) → u.labels ≤ n → on.0.labels ≤ n
    → (cond past (u, None) on).0.labels ≤ n
past_or_on true u on n h g = h
past_or_on false u on n h g = g

behind_few : (most room n : ℕ) (u : Taken) (read : Result (ℕ × Option OptRecord) WireFault)
    (on : ℕ → Option OptRecord → Taken → Taken × Option ℕ) → u.labels ≤ n + most
    → ((at : ℕ) (opt : Option OptRecord) → (on at opt u).0.labels ≤ u.labels + room)
    → (on_from u read on).0.labels ≤ n + (most + room)
behind_few most room n u (Err f) on h rest = omega (arith, h)
behind_few most room n u (Ok x) on h rest =
    past_or_on (ltb most_labels u.labels) u (on x.0 x.1 u) (n + (most + room)) (omega (arith, h))
    (omega (arith, h, rest x.0 x.1))

section_few : (s : Section) (bytes : List ℕ) (count at : ℕ) (opt : Option OptRecord) (t : Taken)
    → (section_from s bytes count at opt t).0.labels ≤ t.labels + most_of s * count
unfolding section_from
section_few s bytes zero at opt t = omega arith
section_few s bytes (suc count) at opt t =
    rw (one_more s count)
    (behind_few (most_of s) (most_of s * count) t.labels (with_entry s bytes at t) (entry_behind s bytes at opt)
    (section_from s bytes count) (entry_few s bytes at t)
    (λ end found. section_few s bytes count end found (with_entry s bytes at t)))

-- ---- the message

if_few : (s : Section) (bytes : List ℕ) (count n : ℕ) (reached : Taken × Option ℕ) → reached.0.labels ≤ n
    → (on_if reached.1 reached.0 (λ at. section_from s bytes count at None)).0.labels ≤ n + most_of s * count
if_few s bytes count n (t, None) h = omega (arith, h)
if_few s bytes count n (t, Some at) h = omega (arith, h, section_few s bytes count at None t)

-- as many as 127 for each name that there can be
pub labels_few : (bytes : List ℕ) (header : Header) → labels_taken bytes header ≤ 127 * most_names header
unfolding labels_taken
labels_few bytes header =
    let q = section_from Questions bytes header.queries 12 None nothing_taken in
    let a = on_if q.1 q.0 (λ at. section_from Records bytes header.answers at None) in
    let n = on_if a.1 a.0 (λ at. section_from Records bytes header.authorities at None) in
    let queries : q.0.labels ≤ 127 * header.queries =
    omega (arith, section_few Questions bytes header.queries 12 None nothing_taken) in
    let answers = if_few Records bytes header.answers (127 * header.queries) q queries in
    let authorities = if_few Records bytes header.authorities (127 * header.queries + 381 * header.answers) a answers in
    let all =
    if_few Additionals bytes header.additionals (127 * header.queries + 381 * header.answers + 381 * header.authorities) n
    authorities in
    omega (arith, all)

pub not_too_many : (bytes : List ℕ) (header : Header) → 127 * most_names header ≤ most_labels
    → ltb most_labels (labels_taken bytes header) ≡ false
not_too_many bytes header few =
    le-ltb most_labels (labels_taken bytes header) (omega (arith, few, labels_few bytes header))

-- ---- what is read

-- a message with few names is read as it is spelled
pub few_spelled : (bytes : List ℕ) (header : Header) → header_at bytes ≡ Ok header → 127 * most_names header ≤ most_labels
    → message_of bytes ≡ spelled_message bytes
unfolding message_of
few_spelled bytes header h few = rw (h, not_too_many bytes header few) refl

-- what is read is what is spelled
pub read_spelled : (bytes : List ℕ) (m : WireMessage) → message_of bytes ≡ Ok m → spelled_message bytes ≡ Ok m
unfolding message_of
read_spelled bytes m e =
    let h = bind_ok (header_at bytes) (λ header. cond (ltb most_labels (labels_taken bytes header)) (Err TooManyLabels) (spelled_message bytes)) m e in
    (guard_ok (ltb most_labels (labels_taken bytes h.0)) TooManyLabels (spelled_message bytes) m h.2).1

-- and so is what is written of one
pub few_written : (m : WireMessage) (kept : ℕ)
    → 127 * (length m.message.queries + 3 * (length (take kept m.message.answers)
    + length (take (kept - length m.message.answers) m.message.authorities)
    + (length (take (kept - length m.message.answers - length m.message.authorities) m.message.additionals) + opt_count m.edns))) ≤ most_labels
    → message_of (octets_of m kept) ≡ spelled_message (octets_of m kept)
few_written m kept few =
    let a : ℕ = length (take kept m.message.answers) in
    let n : ℕ = length (take (kept - length m.message.answers) m.message.authorities) in
    let r : ℕ = length (take (kept - length m.message.answers - length m.message.authorities) m.message.additionals) + opt_count m.edns in
    let flags : ℕ = flags_of m (is_cut m kept) (op_code m.message.metadata.op_code) (response_code m.message.metadata.response_code % 16) in
    let header : Header = record {
      id = m.message.metadata.id;
      flags = flags;
      queries = length m.message.queries;
      answers = a;
      authorities = n;
      additionals = r;
    } in
    let rest : List ℕ =
    (records_added (queries_body m) (take kept (records_of m))).octets
    ++ opt_octets m.edns (response_code m.message.metadata.response_code) in
    few_spelled (octets_of m kept) header
    (header_there m.message.metadata.id flags (length m.message.queries) a n r (octets_of m kept) (rest, refl)) few
