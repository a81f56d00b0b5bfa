-- What stands in a room once a reply was written to it.
use Rattle.std.proofs.Common.{◌≡◌, ℕ, ◌+◌, ◌-◌, ◌*◌, ◌/◌, ◌≤◌, Bool, true, false, List, [], ◌∷◌, ◌++◌, length, take, drop, map, refl, sym, ap, ap₂, ◌∙◌, append_assoc, length-append, arith}
use Rattle.std.specs.Prelude.{Option, None, Some}
use Rattle.std.specs.Option.{option_map, option_map_or}
use Rattle.std.proofs.lemmas.List.{take_at, drop_at, drop-drop, map-append}
use Rattle.hickory_proto_codes.specs.Codes.{response_code}
use Rattle.hickory_proto_core.specs.Records.{RecordValue, lower_ttl}
use Rattle.hickory_proto_wire.specs.Edns.{EdnsValue}
use Rattle.hickory_proto_wire.specs.Writing.{u16_octets, record_count}
use Rattle.hickory_proto_wire.specs.Written.{Body, record_added, queries_body, records_of, header_octets, u32_octets, measured, opt_octets}
use Rattle.hickory_proto_wire.specs.declared.wire_message.WireMessage.{WireMessage}
use Rattle.client_queries.specs.Refusals.{question_octets}
use Rattle.client_queries.specs.declared.query.ClientEdns.{ClientEdns}
use Rattle.client_queries.specs.declared.query.ClientQuery.{ClientQuery}
use Rattle.whole_replies.specs.Kept.{KeptValue}
use Rattle.stored_replies.specs.Stored.{StoredValue, whole_octets, stored_octets, elapsed, record_number}
use Rattle.stored_replies.specs.Told.{told_message, told_edns, own_question, asks_for, with_question, told_octets, bare_octets, cut_octets, opt_length}
use Rattle.stored_replies.specs.Key.{is_same_question}
use Rattle.stored_replies.specs.Walk.{over, lowered, ttl_places, places_of, IsStored}
use Rattle.stored_replies.specs.declared.choices.TheConstants.{LONGEST}
use Rattle.stored_replies.proofs.Added.{added, added_length}
use Rattle.stored_replies.proofs.Keys.{same_length}
use Rattle.stored_replies.proofs.Lowering.{over_next, changed_records}
use Rattle.stored_replies.proofs.Whole.{whole_parts, last_octets, stored_parts, stored_header, stored_length, asked_body, kept_records}

abbrev pub told_header : StoredValue → ClientQuery → Bool → ℕ → List ℕ
told_header s q trust now =
    header_octets (told_message s q trust now) (record_count (told_message s q trust now))

abbrev pub old_records : StoredValue → List ℕ
old_records s = added (asked_body s.query) (kept_records s.kept)

abbrev pub new_records : StoredValue → ℕ → List ℕ
new_records s now = added (asked_body s.query) (map (lower_ttl (elapsed s now)) (kept_records s.kept))

abbrev pub told_opt : ClientQuery → List ℕ
told_opt q = opt_octets (option_map told_edns q.edns) 0

-- ---- what is to stand there

low_code : (edns : Option EdnsValue) (code : ℕ) → code ≤ 15 → opt_octets edns code ≡ opt_octets edns 0
low_code None code low = refl
low_code (Some e) code low =
    let none : code / 16 ≡ 0 / 16 = omega arith in
    ap (λ (n : ℕ). 0 ∷ (u16_octets 41 ++ (u16_octets e.size
    ++ (u32_octets (n * 16777216 + e.version * 65536 + e.flags) ++ measured e.options)))) none

lowered_all : (k : KeptValue) (seconds : ℕ)
    → map (lower_ttl seconds) k.answers ++ (map (lower_ttl seconds) k.authorities ++ []) ≡ map (lower_ttl seconds) (kept_records k)
lowered_all k seconds =
    ap (λ (rs : List RecordValue). map (lower_ttl seconds) k.answers ++ rs) (sym (map-append (lower_ttl seconds) k.authorities []))
    ∙ sym (map-append (lower_ttl seconds) k.answers (k.authorities ++ []))

pub told_parts : (s : StoredValue) (q : ClientQuery) (trust : Bool) (now : ℕ) → response_code s.kept.code ≤ 15
    → whole_octets (told_message s q trust now)
    ≡ told_header s q trust now ++ (own_question s ++ (new_records s now ++ told_opt q))
unfolding told_message
told_parts s q trust now low =
    let m = told_message s q trust now in
    whole_parts m
    ∙ ap₂ (λ (rs : List RecordValue) (o : List ℕ). told_header s q trust now ++ (own_question s ++ (added (asked_body s.query) rs ++ o)))
    (lowered_all s.kept (elapsed s now)) (low_code m.edns (response_code s.kept.code) low)

pub replaced : (header own question rest : List ℕ) → length header ≡ 12 → length question ≡ length own
    → with_question question (header ++ (own ++ rest)) ≡ header ++ (question ++ rest)
replaced header own question rest twelve same =
    let back : drop (12 + length question) (header ++ (own ++ rest)) ≡ rest =
    sym (drop-drop (length question) 12 (header ++ (own ++ rest)))
    ∙ ap (drop (length question)) (drop_at header (own ++ rest) 12 twelve)
    ∙ drop_at own rest (length question) (sym same) in
    ap₂ (λ (x : List ℕ) (y : List ℕ). x ++ (question ++ y)) (take_at header (own ++ rest) 12 twelve) back

pub asked_parts : (s : StoredValue) (q : ClientQuery) (trust : Bool) (now : ℕ) (question : List ℕ) → response_code s.kept.code ≤ 15
    → length question ≡ length (own_question s)
    → with_question question (whole_octets (told_message s q trust now))
    ≡ told_header s q trust now ++ (question ++ (new_records s now ++ told_opt q))
asked_parts s q trust now question low same =
    ap (with_question question) (told_parts s q trust now low)
    ∙ replaced (told_header s q trust now) (own_question s) question (new_records s now ++ told_opt q) refl same

pub spelled_alike : (s : StoredValue) (q : ClientQuery) (trust : Bool) (now : ℕ) (question : List ℕ) → question ≡ own_question s
    → with_question question (whole_octets (told_message s q trust now)) ≡ whole_octets (told_message s q trust now)
unfolding told_message
spelled_alike s q trust now question is =
    let m = told_message s q trust now in
    let h = told_header s q trust now in
    let rest = added (asked_body s.query) (records_of m) ++ last_octets m in
    ap (with_question question) (whole_parts m)
    ∙ replaced h (own_question s) question rest refl (ap length is)
    ∙ ap (λ (o : List ℕ). h ++ (o ++ rest)) is ∙ sym (whole_parts m)

-- ---- what was stored

pub stored_records : (s : StoredValue) (end : ℕ) → end ≡ 12 + length (own_question s)
    → drop end (stored_octets s) ≡ old_records s
stored_records s end is =
    let h = stored_header s.query s.kept in
    ap₂ (λ (n : ℕ) (o : List ℕ). drop n o) is (stored_parts s.query s.kept)
    ∙ sym (drop-drop (length (own_question s)) 12 (h ++ (own_question s ++ old_records s)))
    ∙ drop_at (own_question s) (old_records s) (length (own_question s)) refl

pub ends_within : (octets places : List ℕ) (end code : ℕ) (authentic : Bool) (s : StoredValue)
    → IsStored octets places end code authentic s → end ≤ LONGEST
ends_within octets places end code authentic s i =
    let written = ap length i.written in
    let ends = i.question in
    let short = i.short in
    omega (arith, written, ends, short, stored_length s.query s.kept)

pub own_stored : (s : StoredValue) (end : ℕ) → end ≡ 12 + length (own_question s)
    → take (end - 12) (drop 12 (stored_octets s)) ≡ own_question s
own_stored s end is =
    let h = stored_header s.query s.kept in
    ap (λ (o : List ℕ). take (end - 12) (drop 12 o)) (stored_parts s.query s.kept)
    ∙ ap (take (end - 12)) (drop_at h (own_question s ++ old_records s) 12 refl)
    ∙ take_at (own_question s) (old_records s) (end - 12) (omega (arith, is))

-- as many places as records
places_length : (rs : List RecordValue) (b : Body) → length (ttl_places b rs) ≡ length rs
places_length [] b = refl
places_length (r ∷ rs) b =
    let rest = places_length rs (record_added b r) in
    omega (arith, rest)

pub places_counted : (s : StoredValue) → length (places_of s) ≡ record_number s.kept
unfolding places_of
places_counted s =
    omega (
      arith,
      places_length (kept_records s.kept) (asked_body s.query),
      length-append s.kept.answers (s.kept.authorities ++ []),
      length-append s.kept.authorities [],
    )

-- ---- one behind the other

pub written_room : (s : StoredValue) (room header question opt : List ℕ) (end total now : ℕ) → length header ≡ 12
    → length question ≡ length (own_question s) → end ≡ 12 + length (own_question s) → total ≡ length (stored_octets s)
    → over (lowered (elapsed s now) (over (over (over room 0 header) 12 question) end (old_records s)) (places_of s)) total opt
    ≡ (header ++ (question ++ (new_records s now ++ opt))) ++ drop (length (header ++ (question ++ (new_records s now ++ opt)))) room
unfolding places_of
written_room s room header question opt end total now twelve same ends is =
    let old = old_records s in
    let new = new_records s now in
    let front = header ++ question in
    let l0 = length-append header question in
    let l1 = stored_length s.query s.kept in
    let l2 : length (added (asked_body s.query) (map (lower_ttl (elapsed s now)) (kept_records s.kept)))
    ≡ length (added (asked_body s.query) (kept_records s.kept)) =
    added_length (kept_records s.kept) (asked_body s.query) (λ ttl. ttl - elapsed s now) in
    let l3 = length-append front new in
    let n1 : 0 + length header ≡ 12 = omega (arith, twelve) in
    let n2 : 12 + length question ≡ end = omega (arith, same, ends) in
    let n3 : end + length old ≡ total = omega (arith, ends, is, l1) in
    let n4 : length front ≡ end = omega (arith, twelve, same, ends, l0) in
    let n5 : length front ≡ 12 + length (asked_body s.query).octets = omega (arith, twelve, same, l0) in
    let n6 : length (front ++ new) ≡ total = omega (arith, twelve, same, is, l0, l1, l2, l3) in
    let one : over room 0 header ≡ header ++ drop 12 room = ap (λ (n : ℕ). header ++ drop n room) n1 in
    let two : over (header ++ drop 12 room) 12 question ≡ front ++ drop end room =
    over_next header room question 12 twelve ∙ ap (λ (n : ℕ). front ++ drop n room) n2 in
    let three : over (front ++ drop end room) end old ≡ front ++ (old ++ drop total room) =
    over_next front room old end n4 ∙ ap (λ (n : ℕ). (front ++ old) ++ drop n room) n3
    ∙ append_assoc front old (drop total room) in
    let four : lowered (elapsed s now) (front ++ (old ++ drop total room)) (places_of s) ≡ (front ++ new) ++ drop total room =
    changed_records (kept_records s.kept) (λ ttl. ttl - elapsed s now) (asked_body s.query) front (drop total room) n5
    ∙ sym (append_assoc front new (drop total room)) in
    let five : over ((front ++ new) ++ drop total room) total opt ≡ ((front ++ new) ++ opt) ++ drop (total + length opt) room =
    over_next (front ++ new) room opt total n6 in
    let whole : (front ++ new) ++ opt ≡ header ++ (question ++ (new ++ opt)) =
    append_assoc front new opt ∙ append_assoc header question (new ++ opt) in
    let count : total + length opt ≡ length (header ++ (question ++ (new ++ opt))) =
    omega (arith, n6, ap length whole, length-append (front ++ new) opt) in
    ap (λ (x : List ℕ). over (lowered (elapsed s now) (over (over x 12 question) end old) (places_of s)) total opt) one
    ∙ ap (λ (x : List ℕ). over (lowered (elapsed s now) (over x end old) (places_of s)) total opt) two
    ∙ ap (λ (x : List ℕ). over (lowered (elapsed s now) x (places_of s)) total opt) three
    ∙ ap (λ (x : List ℕ). over x total opt) four
    ∙ five
    ∙ ap₂ (λ (x : List ℕ) (n : ℕ). x ++ drop n room) whole count

-- ---- whether it is written

opt_counted : (edns : Option ClientEdns) → length (opt_octets (option_map told_edns edns) 0) ≡ opt_length edns
opt_counted None = refl
opt_counted (Some e) = refl

pub same_end : (octets : List ℕ) (s : StoredValue) (end : Option ℕ)
    → option_map_or (λ e. is_same_question (question_octets octets (Some e)) (own_question s)) end false ≡ true
    → length (question_octets octets end) ≡ length (own_question s)
same_end octets s None e = absurd cc
same_end octets s (Some end) e = same_length (question_octets octets (Some end)) (own_question s) e

pub told_length : (octets : List ℕ) (q : ClientQuery) (s : StoredValue) (trust : Bool) (now : ℕ) → response_code s.kept.code ≤ 15
    → asks_for octets q s ≡ true
    → length (told_octets octets q s trust now) ≡ length (stored_octets s) + opt_length q.edns
told_length octets q s trust now low asked =
    let question = question_octets octets q.question_end in
    let same = same_end octets s q.question_end asked in
    let h = told_header s q trust now in
    let more : length (added (asked_body s.query) (map (lower_ttl (elapsed s now)) (kept_records s.kept)))
    ≡ length (added (asked_body s.query) (kept_records s.kept)) =
    added_length (kept_records s.kept) (asked_body s.query) (λ ttl. ttl - elapsed s now) in
    omega (
      arith,
      same,
      ap length (asked_parts s q trust now question low same),
      stored_length s.query s.kept,
      more,
      opt_counted q.edns,
      length-append h (question ++ (new_records s now ++ told_opt q)),
      length-append question (new_records s now ++ told_opt q),
      length-append (new_records s now) (told_opt q),
    )

-- ---- without records

bare_parts : (m : WireMessage) → bare_octets m ≡ header_octets m 0 ++ ((queries_body m).octets ++ last_octets m)
unfolding bare_octets
bare_parts m = refl

abbrev pub bare_header : StoredValue → ClientQuery → Bool → ℕ → List ℕ
bare_header s q trust now = header_octets (told_message s q trust now) 0

pub cut_parts : (s : StoredValue) (q : ClientQuery) (trust : Bool) (now : ℕ) (question : List ℕ) → response_code s.kept.code ≤ 15
    → length question ≡ length (own_question s)
    → with_question question (bare_octets (told_message s q trust now)) ≡ bare_header s q trust now ++ (question ++ told_opt q)
unfolding told_message
cut_parts s q trust now question low same =
    let m = told_message s q trust now in
    let h = bare_header s q trust now in
    ap (with_question question) (bare_parts m)
    ∙ ap (λ (o : List ℕ). with_question question (h ++ (own_question s ++ o))) (low_code m.edns (response_code s.kept.code) low)
    ∙ replaced h (own_question s) question (told_opt q) refl same

pub cut_room : (room header question opt : List ℕ) → length header ≡ 12
    → over (over (over room 0 header) 12 question) (12 + length question) opt
    ≡ (header ++ (question ++ opt)) ++ drop (length (header ++ (question ++ opt))) room
cut_room room header question opt twelve =
    let end = 12 + length question in
    let front = header ++ question in
    let l0 = length-append header question in
    let n1 : 0 + length header ≡ 12 = omega (arith, twelve) in
    let n2 : length front ≡ end = omega (arith, twelve, l0) in
    let one : over room 0 header ≡ header ++ drop 12 room = ap (λ (n : ℕ). header ++ drop n room) n1 in
    let two : over (header ++ drop 12 room) 12 question ≡ front ++ drop end room = over_next header room question 12 twelve in
    let three : over (front ++ drop end room) end opt ≡ (front ++ opt) ++ drop (end + length opt) room =
    over_next front room opt end n2 in
    let whole : front ++ opt ≡ header ++ (question ++ opt) = append_assoc header question opt in
    let count : end + length opt ≡ length (header ++ (question ++ opt)) =
    omega (arith, n2, ap length whole, length-append front opt) in
    ap (λ (x : List ℕ). over (over x 12 question) end opt) one
    ∙ ap (λ (x : List ℕ). over x end opt) two
    ∙ three
    ∙ ap₂ (λ (x : List ℕ) (n : ℕ). x ++ drop n room) whole count

pub cut_length : (octets : List ℕ) (q : ClientQuery) (s : StoredValue) (trust : Bool) (now : ℕ) → response_code s.kept.code ≤ 15
    → asks_for octets q s ≡ true
    → length (cut_octets octets q s trust now) ≡ 12 + length (own_question s) + opt_length q.edns
cut_length octets q s trust now low asked =
    let question = question_octets octets q.question_end in
    let same = same_end octets s q.question_end asked in
    omega (
      arith,
      same,
      ap length (cut_parts s q trust now question low same),
      opt_counted q.edns,
      length-append (bare_header s q trust now) (question ++ told_opt q),
      length-append question (told_opt q),
    )
