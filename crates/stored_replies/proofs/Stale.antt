-- What is told of a reply past its end.
use Rattle.std.proofs.Common.{◌≡◌, ℕ, ◌+◌, ◌-◌, ◌≤◌, Bool, true, false, List, [], ◌∷◌, ◌++◌, length, drop, map, refl, sym, ap, ap₂, ◌∙◌, append_assoc, length-append, arith}
use Rattle.std.specs.Prelude.{Option, None, Some, nat_le, if◌then◌else◌}
use Rattle.std.specs.Option.{option_and_then, option_map}
use Rattle.std.proofs.lemmas.List.{length-map, map-append}
use Rattle.hickory_proto_codes.specs.Codes.{response_code}
use Rattle.hickory_proto_core.specs.Records.{RecordValue, lower_ttl}
use Rattle.client_queries.specs.Refusals.{count_of, question_octets}
use Rattle.client_queries.specs.declared.query.ClientQuery.{ClientQuery}
use Rattle.stored_replies.specs.Stale.{stale_of, with_ttl}
use Rattle.stored_replies.specs.Stored.{StoredValue, elapsed}
use Rattle.stored_replies.specs.Told.{asks_for, header_with, own_question, put_in, reply_within, told_flags, told_octets, within}
use Rattle.stored_replies.specs.Walk.{all_set, places_of, ttl_places}
use Rattle.stored_replies.specs.declared.choices.TheConstants.{STALE_TTL}
use Rattle.stored_replies.proofs.Added.{added, added_length, places_low}
use Rattle.stored_replies.proofs.Header.{told_header_is}
use Rattle.stored_replies.proofs.Lowering.{changed_records}
use Rattle.stored_replies.proofs.Telling.{asked_parts, new_records, same_end, told_header, told_length, told_opt}
use Rattle.stored_replies.proofs.Whole.{asked_body, kept_records, stored_length}

-- ---- the records

-- whatever their TTLs were
set_after : (rs : List RecordValue) (seconds : ℕ)
    → map (with_ttl STALE_TTL) (map (lower_ttl seconds) rs) ≡ map (lower_ttl 0) (map (with_ttl STALE_TTL) rs)
set_after [] seconds = refl
set_after (r ∷ rs) seconds = ap (λ (l : List RecordValue). with_ttl STALE_TTL r ∷ l) (set_after rs seconds)

stale_records : (s : StoredValue)
    → map (with_ttl STALE_TTL) (kept_records s.kept) ≡ kept_records (stale_of s).kept
stale_records s =
    map-append (with_ttl STALE_TTL) s.kept.answers (s.kept.authorities ++ [])
    ∙ ap (λ (l : List RecordValue). map (with_ttl STALE_TTL) s.kept.answers ++ l)
    (map-append (with_ttl STALE_TTL) s.kept.authorities [])

-- ---- the header

same_header : (s : StoredValue) (q : ClientQuery) (now : ℕ)
    → told_header s q false now ≡ told_header (stale_of s) q false 0
same_header s q now =
    told_header_is s q false now
    ∙ ap₂ (λ (x : ℕ) (y : ℕ). header_with q.id (told_flags q.flags false false (response_code s.kept.code)) 1 x y (count_of q.edns))
    (sym (length-map s.kept.answers (with_ttl STALE_TTL))) (sym (length-map s.kept.authorities (with_ttl STALE_TTL)))
    ∙ sym (told_header_is (stale_of s) q false 0)

-- ---- the whole

-- the TTLs are set in octets with something behind them
pub told_stale : (octets : List ℕ) (q : ClientQuery) (s : StoredValue) (now : ℕ) (rest : List ℕ)
    → response_code s.kept.code ≤ 15 → asks_for octets q s ≡ true
    → all_set STALE_TTL (told_octets octets q s false now ++ rest) (places_of s)
    ≡ told_octets octets q (stale_of s) false 0 ++ rest
unfolding places_of
told_stale octets q s now rest low asked =
    let question = question_octets octets q.question_end in
    let same : length question ≡ length (own_question s) = same_end octets s q.question_end asked in
    let body = asked_body s.query in
    let opt = told_opt q in
    let h = told_header s q false now in
    let old : List RecordValue = map (lower_ttl (elapsed s now)) (kept_records s.kept) in
    let front = h ++ question in
    let long : length front ≡ 12 + length body.octets =
    let twelve : length h ≡ 12 = refl in omega (arith, twelve, same, length-append h question) in
    let was : told_octets octets q s false now ++ rest ≡ front ++ (added body old ++ (opt ++ rest)) =
    ap (λ (o : List ℕ). o ++ rest) (asked_parts s q false now question low same)
    ∙ append_assoc h (question ++ (added body old ++ opt)) rest
    ∙ ap (λ (o : List ℕ). h ++ o) (append_assoc question (added body old ++ opt) rest
    ∙ ap (λ (o : List ℕ). question ++ o) (append_assoc (added body old) opt rest))
    ∙ sym (append_assoc h question (added body old ++ (opt ++ rest))) in
    let places : ttl_places body (kept_records s.kept) ≡ ttl_places body old =
    sym (places_low (kept_records s.kept) body (λ ttl. ttl - elapsed s now)) in
    let set : map (with_ttl STALE_TTL) old ≡ map (lower_ttl 0) (kept_records (stale_of s).kept) =
    set_after (kept_records s.kept) (elapsed s now) ∙ ap (map (lower_ttl 0)) (stale_records s) in
    let new : List ℕ = new_records (stale_of s) 0 in
    let h' = told_header (stale_of s) q false 0 in
    let is : told_octets octets q (stale_of s) false 0 ++ rest ≡ (h' ++ question) ++ (new ++ (opt ++ rest)) =
    ap (λ (o : List ℕ). o ++ rest) (asked_parts (stale_of s) q false 0 question low same)
    ∙ append_assoc h' (question ++ (new ++ opt)) rest
    ∙ ap (λ (o : List ℕ). h' ++ o) (append_assoc question (new ++ opt) rest
    ∙ ap (λ (o : List ℕ). question ++ o) (append_assoc new opt rest))
    ∙ sym (append_assoc h' question (new ++ (opt ++ rest))) in
    ap₂ (λ (o : List ℕ) (ps : List ℕ). all_set STALE_TTL o ps) was places
    ∙ changed_records old (λ ttl. STALE_TTL) body front (opt ++ rest) long
    ∙ ap₂ (λ (x : List ℕ) (rs : List RecordValue). (x ++ question) ++ (added body rs ++ (opt ++ rest))) (same_header s q now) set
    ∙ sym is

-- as many octets
same_length : (octets : List ℕ) (q : ClientQuery) (s : StoredValue) (now : ℕ) → response_code s.kept.code ≤ 15
    → asks_for octets q s ≡ true
    → length (told_octets octets q (stale_of s) false 0) ≡ length (told_octets octets q s false now)
same_length octets q s now low asked =
    let body = asked_body s.query in
    let more : length (added body (kept_records (stale_of s).kept)) ≡ length (added body (kept_records s.kept)) =
    ap (λ (rs : List RecordValue). length (added body rs)) (sym (stale_records s))
    ∙ added_length (kept_records s.kept) body (λ ttl. STALE_TTL) in
    omega (
      arith,
      told_length octets q s false now low asked,
      told_length octets q (stale_of s) false 0 low asked,
      stored_length s.query s.kept,
      stored_length s.query (stale_of s).kept,
      more,
    )

-- ---- within a room

-- what is told of it, where it is asked for
abbrev if_asked : List ℕ → ℕ → Bool → Option (List ℕ)
if_asked told most asks = option_and_then (within most) (if asks then Some told else None)

set_within : (told stale room after : List ℕ) (asks : Bool) (n : ℕ) (set : List ℕ → List ℕ)
    → (asks ≡ true → length stale ≡ length told)
    → (asks ≡ true → set (told ++ drop (length told) room) ≡ stale ++ drop (length told) room)
    → Some n ≡ option_map length (if_asked told (length room) asks)
    → after ≡ set (put_in room (if_asked told (length room) asks))
    → (Some n ≡ option_map length (if_asked stale (length room) asks))
    × (after ≡ put_in room (if_asked stale (length room) asks))
set_within told stale room after false n set long sets h written = absurd cc
set_within told stale room after true n set long sets h written = by (nat_le (length told) (length room)) refl h written
  where
    by : (b : Bool) → nat_le (length told) (length room) ≡ b
        → Some n ≡ option_map length (if b then Some told else None)
        → after ≡ set (put_in room (if b then Some told else None))
        → (Some n ≡ option_map length (if_asked stale (length room) true))
        × (after ≡ put_in room (if_asked stale (length room) true))
    by false fits has put = absurd cc
    by true fits has put =
        let same : length stale ≡ length told = long refl in
        rw (ap (λ (k : ℕ). nat_le k (length room)) same ∙ fits)
        (has ∙ ap Some (sym same), put ∙ sets refl ∙ ap (λ (k : ℕ). stale ++ drop k room) (sym same))

none_within : (told stale room : List ℕ) (asks : Bool) → (asks ≡ true → length stale ≡ length told)
    → None ≡ option_map length (if_asked told (length room) asks)
    → (None ≡ option_map length (if_asked stale (length room) asks))
    × (room ≡ put_in room (if_asked stale (length room) asks))
none_within told stale room false long h = (refl, refl)
none_within told stale room true long h = by (nat_le (length told) (length room)) refl h
  where
    by : (b : Bool) → nat_le (length told) (length room) ≡ b → None ≡ option_map length (if b then Some told else None)
        → (None ≡ option_map length (if_asked stale (length room) true))
        × (room ≡ put_in room (if_asked stale (length room) true))
    by false fits has = rw (ap (λ (k : ℕ). nat_le k (length room)) (long refl) ∙ fits) (refl, refl)
    by true fits has = absurd cc

module _ (octets : List ℕ) (q : ClientQuery) (s : StoredValue) (now : ℕ) (low : response_code s.kept.code ≤ 15) where
  pub stale_written : (room written after places : List ℕ) (n : ℕ) → places ≡ places_of s
      → Some n ≡ option_map length (reply_within (length room) octets q s false now)
      → written ≡ put_in room (reply_within (length room) octets q s false now)
      → after ≡ all_set STALE_TTL written places
      → (Some n ≡ option_map length (reply_within (length room) octets q (stale_of s) false 0))
      × (after ≡ put_in room (reply_within (length room) octets q (stale_of s) false 0))
  stale_written room written after places n noted has put set =
      set_within (told_octets octets q s false now) (told_octets octets q (stale_of s) false 0) room after
      (asks_for octets q s) n (λ (o : List ℕ). all_set STALE_TTL o (places_of s)) (same_length octets q s now low)
      (told_stale octets q s now (drop (length (told_octets octets q s false now)) room) low) has
      (set ∙ ap₂ (λ (o : List ℕ) (ps : List ℕ). all_set STALE_TTL o ps) put noted)

  pub stale_unwritten : (room written : List ℕ)
      → None ≡ option_map length (reply_within (length room) octets q s false now)
      → written ≡ put_in room (reply_within (length room) octets q s false now)
      → (None ≡ option_map length (reply_within (length room) octets q (stale_of s) false 0))
      × (written ≡ put_in room (reply_within (length room) octets q (stale_of s) false 0))
  stale_unwritten room written has put =
      let none = none_within (told_octets octets q s false now) (told_octets octets q (stale_of s) false 0) room
      (asks_for octets q s) (same_length octets q s now low) has in
      (none.0, put ∙ unchanged (reply_within (length room) octets q s false now) has ∙ none.1)
    where
      unchanged : (o : Option (List ℕ)) → None ≡ option_map length o → put_in room o ≡ room
      unchanged None h = refl
      unchanged (Some x) h = absurd cc
