-- A message that is believed is read with the question that was asked.
use Rattle.std.proofs.Common.{◌≡◌, ℕ, suc, ◌+◌, ◌<◌, ◌≤◌, Bool, true, false, cond, not, ◌&&◌, ◌||◌, nat_eq, eqb, ltb, List, [], ◌∷◌, ◌++◌, length, map, take, drop, append_assoc, length-append, refl, ap, ap₂, sym, subst, ◌∙◌, arith, Ok, Err}
use Rattle.std.specs.Prelude.{Option, None, Some, Result, IfOk, nat_le}
use Rattle.std.specs.declared.alloc.AllocError.{AllocError}
use Rattle.std.specs.Char.{to_ascii_lowercase}
use Rattle.std.specs.Cmp.Lexicographic.{pointwise, lists_equiv}
use Rattle.std.specs.Cmp.{nat_eq_equiv}
use Rattle.std.specs.List.{list_any, sum_by}
use Rattle.std.specs.Bool.{beq}
use Rattle.std.specs.Option.{is_none}
use Rattle.std.proofs.lemmas.Bool.{and_parts, eqb-true, leb-true, ltb-false, lt-ltb}
use Rattle.std.proofs.lemmas.Bool.Decides.{nat_tests}
use Rattle.std.proofs.lemmas.List.{take-map, drop-map, map-append, take-append-drop, length-take-le, drop-drop, length-map, length-drop}
use Rattle.std.proofs.lemmas.List.Sums.{sum_by-cons}
use Rattle.std.proofs.Math.Seq.{take-append_seam, drop-append_seam}
use Rattle.hickory_proto_core.specs.Name.{NameValue, lower_label, lower_labels, is_long_label, label_fault, name_eq}
use Rattle.hickory_proto_core.specs.Records.{RecordValue}
use Rattle.hickory_proto_core.specs.declared.query.Query.{Query}
use Rattle.hickory_proto_core.specs.names.name_error.NameError.TheVariants as names
use Rattle.hickory_proto_wire.specs.Found.{Found}
use Rattle.hickory_proto_wire.specs.Made.{flaw_unless}
use Rattle.hickory_proto_wire.specs.Messages.{header_at, assembled, spelled_message, message_of}
use Rattle.hickory_proto_wire.specs.Octets.{◌>>=◌, octet_at, u16_at}
use Rattle.hickory_proto_wire.specs.Records.{repeat_at, query_at, record_at, additionals_at, nothing_found}
use Rattle.hickory_proto_wire.specs.Writing.{Stands, named_query}
use Rattle.hickory_proto_wire.specs.Written.{name_octets, query_octets}
use Rattle.hickory_proto_wire.specs.declared.wire_error.WireFault.{WireFault}
use Rattle.hickory_proto_wire.specs.declared.wire_message.WireMessage.{WireMessage}
use Rattle.hickory_proto_wire.proofs.FewLabels.{read_spelled}
use Rattle.hickory_proto_wire.proofs.Runs.{are_labels}
use Rattle.hickory_proto_wire.proofs.Spelled.{query_spelled}
use Rattle.hickory_resolver_tries.specs.declared.belief.Belief.TheVariants.{Believed, OtherLetters, OptRefused, NotBelieved}
use Rattle.hickory_resolver_tries.specs.declared.head.Head.{Head}
use Rattle.hickory_resolver_tries.specs.declared.outcome.Reply.{Reply}
use Rattle.hickory_resolver_tries.specs.declared.pool_question.PoolQuestion.{PoolQuestion}
use Rattle.hickory_resolver_tries.specs.declared.try_message.TryForm.{TryForm}
use Rattle.hickory_resolver_tries.specs.Belief.{asked_name, asked_codes, has_one_question, has_question, has_letters, is_reply, name_part, codes_part, refuses_opt, belief_of}
use Rattle.hickory_resolver_tries.specs.GivenBack.{respelled, respelled_query}
use Rattle.hickory_resolver_tries.specs.Heads.{number_at, head_of}
use Rattle.hickory_resolver_tries.specs.Outcome.{AsksAlone, with_letters}

-- ---- octets of a name in other letters

same_octets : (a b : List ℕ) → pointwise nat_eq a b ≡ true → a ≡ b
same_octets [] [] h = refl
same_octets [] (y ∷ ys) h = absurd cc
same_octets (x ∷ xs) [] h = absurd cc
same_octets (x ∷ xs) (y ∷ ys) h =
    let p = and_parts (nat_eq x y) (pointwise nat_eq xs ys) h in
    ap₂ (λ (a : ℕ) (l : List ℕ). a ∷ l) (eqb-true x y p.0) (same_octets xs ys p.1)

-- a length is no letter
length_stays : (x n : ℕ) → n < 64 → to_ascii_lowercase x ≡ to_ascii_lowercase n → x ≡ n
length_stays x n h e = grind (arith, nat_tests)

or_parts : (a b : Bool) → (a || b) ≡ false → (a ≡ false) × (b ≡ false)
or_parts true b e = absurd cc
or_parts false b e = (refl, e)

short_enough : (n : ℕ) → ltb 63 n ≡ false → n < 64
short_enough n e = let h = ltb-false 63 n e in omega (arith, h)

-- octets that are a name without case: those of its labels in other letters
record InOtherLetters (ls : List (List ℕ)) (part : List ℕ) : Type 0 where
  labels : List (List ℕ)
  octets : part ≡ name_octets [] labels
  same : lower_labels labels ≡ lower_labels ls

in_other_letters : (ls : List (List ℕ)) (part : List ℕ) → list_any is_long_label ls ≡ false
    → lower_label part ≡ lower_label (name_octets [] ls) → InOtherLetters ls part
in_other_letters [] [] short e = absurd cc
in_other_letters [] (x ∷ y ∷ ys) short e = absurd cc
in_other_letters [] (x ∷ []) short e =
    let first : to_ascii_lowercase x ≡ to_ascii_lowercase 0 = cc in
    record { labels = []; octets = ap (λ (n : ℕ). n ∷ []) (length_stays x 0 (omega arith) first); same = refl }
in_other_letters (l ∷ ls) [] short e = absurd cc
in_other_letters (l ∷ ls) (x ∷ xs) short e =
    let p = or_parts (is_long_label l) (list_any is_long_label ls) short in
    let n = length l in
    let own = take n xs in
    let behind = drop n xs in
    let first : to_ascii_lowercase x ≡ to_ascii_lowercase n = cc in
    let is_n = length_stays x n (short_enough n p.0) first in
    let rest : lower_label xs ≡ lower_label (l ++ name_octets [] ls) = cc in
    let halves = rest ∙ map-append to_ascii_lowercase l (name_octets [] ls) in
    let lower_n : n ≡ length (lower_label l) = sym (length-map l to_ascii_lowercase) in
    let own_is : lower_label own ≡ lower_label l =
    sym (take-map to_ascii_lowercase n xs) ∙ ap (take n) halves
    ∙ ap (λ (k : ℕ). take k (lower_label l ++ lower_label (name_octets [] ls))) lower_n
    ∙ take-append_seam (lower_label l) (lower_label (name_octets [] ls)) in
    let behind_is : lower_label behind ≡ lower_label (name_octets [] ls) =
    sym (drop-map to_ascii_lowercase n xs) ∙ ap (drop n) halves
    ∙ ap (λ (k : ℕ). drop k (lower_label l ++ lower_label (name_octets [] ls))) lower_n
    ∙ drop-append_seam (lower_label l) (lower_label (name_octets [] ls)) in
    let more = in_other_letters ls behind p.1 behind_is in
    let own_n : n ≡ length own =
    lower_n ∙ sym (ap length own_is) ∙ length-map own to_ascii_lowercase in
    record {
      labels = own ∷ more.labels;
      octets = ap₂ (λ (k : ℕ) (t : List ℕ). k ∷ t) (is_n ∙ own_n)
          (sym (take-append-drop n xs) ∙ ap (λ (t : List ℕ). own ++ t) more.octets);
      same = ap₂ (λ (a : List ℕ) (t : List (List ℕ)). a ∷ t) own_is more.same;
    }

-- ---- labels in other letters are a name as before

any-lower : (test : ℕ → Bool) (ls : List (List ℕ))
    → list_any (λ (l : List ℕ). test (length l)) (lower_labels ls) ≡ list_any (λ (l : List ℕ). test (length l)) ls
any-lower test [] = refl
any-lower test (l ∷ ls) =
    ap₂ (λ (a b : Bool). a || b) (ap test (length-map l to_ascii_lowercase)) (any-lower test ls)

sum-lower : (ls : List (List ℕ))
    → sum_by (λ (l : List ℕ). length l + 1) (lower_labels ls) ≡ sum_by (λ (l : List ℕ). length l + 1) ls
sum-lower [] = refl
sum-lower (l ∷ ls) =
    let f : List ℕ → ℕ = λ l. length l + 1 in
    sum_by-cons f (lower_label l) (lower_labels ls)
    ∙ ap₂ (λ (a b : ℕ). (a + 1) + b) (length-map l to_ascii_lowercase) (sum-lower ls)
    ∙ sym (sum_by-cons f l ls)

label_fault-lower : (ls : List (List ℕ)) → label_fault (lower_labels ls) ≡ label_fault ls
label_fault-lower ls =
    let empty = any-lower (λ n. eqb n 0) ls in
    let long = any-lower (λ n. ltb 63 n) ls in
    let sum = sum-lower ls in
    λ i. cond (empty i) (Some names.EmptyLabel) (cond (long i) (Some names.LabelTooLong)
    (cond (ltb 255 (sum i + 1)) (Some names.NameTooLong) None))

-- ---- the header

u16_there : (bytes : List ℕ) (at : ℕ) → at + 1 < length bytes → u16_at bytes at ≡ Ok (number_at bytes at, at + 1 + 1)
unfolding u16_at octet_at
u16_there bytes at h =
    let first : at < length bytes = omega arith in
    rw (lt-ltb at (length bytes) first, lt-ltb (at + 1) (length bytes) h) refl

header_there : (bytes : List ℕ) → 12 ≤ length bytes → header_at bytes
    ≡ Ok (record { id = number_at bytes 0; flags = number_at bytes 2; queries = number_at bytes 4; answers = number_at bytes 6; authorities = number_at bytes 8; additionals = number_at bytes 10 })
unfolding header_at
header_there bytes h =
    let h0 : 0 + 1 < length bytes = omega arith in
    let h2 : 2 + 1 < length bytes = omega arith in
    let h4 : 4 + 1 < length bytes = omega arith in
    let h6 : 6 + 1 < length bytes = omega arith in
    let h8 : 8 + 1 < length bytes = omega arith in
    let h10 : 10 + 1 < length bytes = omega arith in
    rw (u16_there bytes 0 h0, u16_there bytes 2 h2, u16_there bytes 4 h4, u16_there bytes 6 h6, u16_there bytes 8 h8, u16_there bytes 10 h10)
    refl

-- ---- what is read behind the questions does not change them

module _ (bytes : List ℕ) (qs : List Query) (m : WireMessage) where
  abbrev message_with : List RecordValue → List RecordValue → Found → WireMessage
  message_with answers authorities found =
      assembled (record { id = number_at bytes 0; flags = number_at bytes 2; queries = number_at bytes 4; answers = number_at bytes 6; authorities = number_at bytes 8; additionals = number_at bytes 10 }) qs answers authorities found

  abbrev last_of : List RecordValue → List RecordValue → Found × ℕ → Result WireMessage WireFault
  last_of answers authorities found = Ok (message_with answers authorities found.0)

  kept_additionals : (answers authorities : List RecordValue) (read : Result (Found × ℕ) WireFault)
      → (read >>= λ found. last_of answers authorities found) ≡ Ok m → m.message.queries ≡ qs
  unfolding assembled
  kept_additionals answers authorities (Err x) e = absurd cc
  kept_additionals answers authorities (Ok found) e =
      let same : message_with answers authorities found.0 ≡ m = cc in
      sym (ap (λ (w : WireMessage). w.message.queries) same)

  kept_authorities : (answers : List RecordValue) (read : Result (List RecordValue × ℕ) WireFault)
      → (read >>= λ authorities. additionals_at (number_at bytes 10) bytes authorities.1 nothing_found >>= λ found. last_of answers authorities.0 found)
      ≡ Ok m → m.message.queries ≡ qs
  kept_authorities answers (Err x) e = absurd cc
  kept_authorities answers (Ok authorities) e =
      kept_additionals answers authorities.0 (additionals_at (number_at bytes 10) bytes authorities.1 nothing_found) e

  kept_answers : (read : Result (List RecordValue × ℕ) WireFault)
      → (read >>= λ answers. repeat_at (record_at bytes) (number_at bytes 8) answers.1 >>= λ authorities. additionals_at (number_at bytes 10) bytes authorities.1 nothing_found >>= λ found. last_of answers.0 authorities.0 found)
      ≡ Ok m → m.message.queries ≡ qs
  kept_answers (Err x) e = absurd cc
  kept_answers (Ok answers) e =
      kept_authorities answers.0 (repeat_at (record_at bytes) (number_at bytes 8) answers.1) e

one_read : (bytes : List ℕ) (q : Query) (count next : ℕ) → count ≡ 1 → query_at bytes 12 ≡ Ok (q, next)
    → repeat_at (query_at bytes) count 12 ≡ Ok (q ∷ [], next)
unfolding repeat_at
one_read bytes q count next one e = rw (one, e) refl

question_spelled : (bytes : List ℕ) (q : Query) (next : ℕ) (m : WireMessage) → 12 ≤ length bytes → number_at bytes 4 ≡ 1
    → query_at bytes 12 ≡ Ok (q, next) → spelled_message bytes ≡ Ok m → m.message.queries ≡ q ∷ []
unfolding spelled_message
question_spelled bytes q next m long one e read =
    let queries = one_read bytes q (number_at bytes 4) next one e in
    kept_answers bytes (q ∷ []) m (repeat_at (record_at bytes) (number_at bytes 6) next)
    (rw (header_there bytes long, queries) at read)

question_read : (bytes : List ℕ) (q : Query) (next : ℕ) (m : WireMessage) → 12 ≤ length bytes → number_at bytes 4 ≡ 1
    → query_at bytes 12 ≡ Ok (q, next) → message_of bytes ≡ Ok m → m.message.queries ≡ q ∷ []
question_read bytes q next m long one e read = question_spelled bytes q next m long one e (read_spelled bytes m read)

-- ---- what belief says

is_chosen : (a b c : Bool) → cond a Believed (cond b OtherLetters (cond c OptRefused NotBelieved)) ≡ Believed → a ≡ true
is_chosen true b c e = refl
is_chosen false true c e = absurd cc
is_chosen false false true e = absurd cc
is_chosen false false false e = absurd cc

abbrev head_fields : List ℕ → Head
head_fields bytes = record {
  id = number_at bytes 0;
  flags = number_at bytes 2;
  queries = number_at bytes 4;
  answers = number_at bytes 6;
  authorities = number_at bytes 8;
  additionals = number_at bytes 10;
}

header_facts : (id : ℕ) (bytes : List ℕ) (short : Bool) (h : Head) → ltb (length bytes) 12 ≡ short
    → has_one_question id (cond short None (Some h)) ≡ true → (12 ≤ length bytes) × (h.queries ≡ 1)
header_facts id bytes true h is e = absurd cc
header_facts id bytes false h is e =
    let p = and_parts (is_reply id h) (eqb h.queries 1) e in
    let long = ltb-false (length bytes) 12 is in (long, eqb-true h.queries 1 p.1)

record HasQuestion (name codes bytes : List ℕ) : Type 0 where
  room : 12 + length name + 4 ≤ length bytes
  named : lower_label (name_part name bytes) ≡ lower_label name
  coded : codes_part name bytes ≡ codes

question_parts : (name codes bytes : List ℕ) → has_question name codes bytes ≡ true → HasQuestion name codes bytes
question_parts name codes bytes h =
    let room = nat_le (12 + length name + 4) (length bytes) in
    let names = pointwise nat_eq (lower_label (name_part name bytes)) (lower_label name) in
    let p = and_parts (room && names) (pointwise nat_eq (codes_part name bytes) codes) h in
    let f = and_parts room names p.0 in
    record {
      room = leb-true (12 + length name + 4) (length bytes) f.0;
      named = same_octets (lower_label (name_part name bytes)) (lower_label name) f.1;
      coded = same_octets (codes_part name bytes) codes p.1;
    }

-- ---- the question stands behind the header

length-names : (ls ms : List (List ℕ)) → lower_labels ls ≡ lower_labels ms → length (name_octets [] ls) ≡ length (name_octets [] ms)
length-names [] [] e = refl
length-names [] (m ∷ ms) e = absurd cc
length-names (l ∷ ls) [] e = absurd cc
length-names (l ∷ ls) (m ∷ ms) e =
    let first : lower_label l ≡ lower_label m = cc in
    let rest : lower_labels ls ≡ lower_labels ms = cc in
    let long : length l ≡ length m = sym (length-map l to_ascii_lowercase) ∙ ap length first ∙ length-map m to_ascii_lowercase in
    let more = length-names ls ms rest in
    ap suc (length-append l (name_octets [] ls) ∙ ap₂ (λ (a b : ℕ). a + b) long more ∙ sym (length-append m (name_octets [] ms)))

stands_there : (own codes name bytes : List ℕ) → length name ≤ length (drop 12 bytes) → 12 ≤ length bytes → name_part name bytes ≡ own
    → codes_part name bytes ≡ codes → Stands (own ++ codes) bytes 12
stands_there own codes name bytes room long is_own is_codes =
    let n = length name in
    let behind = drop (12 + n) bytes in
    let e1 : take 12 bytes ++ drop 12 bytes ≡ bytes = take-append-drop 12 bytes in
    let e2 : take n (drop 12 bytes) ++ drop n (drop 12 bytes) ≡ drop 12 bytes = take-append-drop n (drop 12 bytes) in
    let e3 : take 4 behind ++ drop 4 behind ≡ behind = take-append-drop 4 behind in
    let e4 : drop n (drop 12 bytes) ≡ behind = drop-drop n 12 bytes in (
      take 12 bytes,
      drop 4 behind,
      sym e1 ∙ ap (λ (t : List ℕ). take 12 bytes ++ t)
          (sym e2 ∙ ap₂ (λ (a b : List ℕ). a ++ b) is_own (e4 ∙ sym e3 ∙ ap (λ (a : List ℕ). a ++ drop 4 behind) is_codes)
          ∙ sym (append_assoc own codes (drop 4 behind))),
      length-take-le 12 bytes long,
    )

-- ---- the whole

respelled_same : (q : Query) (labels : List (List ℕ)) → q.name.fqdn ≡ true → lower_labels labels ≡ lower_labels q.name.labels
    → respelled q.name (record { labels = labels; fqdn = true }) ≡ q.name
respelled_same q labels absolute same =
    let other : NameValue = record { labels = labels; fqdn = true } in
    let alike = lists_equiv (lists_equiv nat_eq_equiv) in
    let labels_same : pointwise (pointwise nat_eq) (lower_labels q.name.labels) (lower_labels labels) ≡ true =
    ap (λ (l : List (List ℕ)). pointwise (pointwise nat_eq) (lower_labels q.name.labels) l) same
    ∙ alike.refl (lower_labels q.name.labels) in
    let is_same : name_eq q.name other ≡ true = by_mark q.name.fqdn absolute labels_same in
    ap (λ (b : Bool). cond b q.name other) is_same
  where
    by_mark : (mark : Bool) → mark ≡ true → pointwise (pointwise nat_eq) (lower_labels q.name.labels) (lower_labels labels) ≡ true
        → (beq mark true && pointwise (pointwise nat_eq) (lower_labels q.name.labels) (lower_labels labels)) ≡ true
    by_mark true e h = h
    by_mark false e h = absurd cc

-- the question with other labels in its name
abbrev with_labels : Query → List (List ℕ) → Query
with_labels q labels =
    record { name = record { labels = labels; fqdn = true }; query_type = q.query_type; query_class = q.query_class }

told_as : (q : Query) (labels : List (List ℕ)) (bytes : List ℕ) (next : ℕ) (m : WireMessage) → q.name.fqdn ≡ true
    → lower_labels labels ≡ lower_labels q.name.labels → 12 ≤ length bytes → number_at bytes 4 ≡ 1
    → query_at bytes 12 ≡ Ok (named_query (with_labels q labels), next) → message_of bytes ≡ Ok m
    → AsksAlone q (Some (with_letters q.name m))
told_as q labels bytes next m absolute same long one query read =
    ap (λ (qs : List Query). map (respelled_query q.name) qs)
    (question_read bytes (named_query (with_labels q labels)) next m long one query read)
    ∙ ap (λ (n : NameValue). named_query (record { name = n; query_type = q.query_type; query_class = q.query_class }) ∷ [])
    (respelled_same q labels absolute same)

pub believed_asks : (q : PoolQuestion) (form : TryForm) (bytes : List ℕ) (m : WireMessage) → q.query.name.fqdn ≡ true
    → label_fault q.query.name.labels ≡ None → belief_of q form bytes ≡ Believed → message_of bytes ≡ Ok m
    → AsksAlone q.query (Some (with_letters q.query.name m))
believed_asks q form bytes m absolute valid believed read =
    let name = asked_name q.query in
    let codes = asked_codes q.query in
    let one = has_one_question form.id (head_of bytes) in
    let same = has_question name codes bytes in
    let letters = has_letters form.letters name bytes in
    let whole = is_chosen (one && same && letters) (one && same && not letters) (refuses_opt q form (head_of bytes) bytes) believed in
    let p = and_parts (one && same) letters whole in
    let f = and_parts one same p.0 in
    let header = header_facts form.id bytes (ltb (length bytes) 12) (head_fields bytes) refl f.0 in
    let asked = question_parts name codes bytes f.1 in
    let short = are_labels q.query.name.labels valid in
    let own = in_other_letters q.query.name.labels (name_part name bytes) short.short asked.named in
    let room : length name ≤ length (drop 12 bytes) = omega (arith, length-drop 12 bytes, asked.room) in
    let stands = stands_there (name_octets [] own.labels) codes name bytes room header.0 own.octets asked.coded in
    let fits : label_fault own.labels ≡ None =
    sym (label_fault-lower own.labels) ∙ ap label_fault own.same ∙ label_fault-lower q.query.name.labels ∙ valid in
    let query = with_labels q.query own.labels in
    let none : flaw_unless (is_none (label_fault own.labels)) ≡ None = ap (λ fault. flaw_unless (is_none fault)) fits in
    let asked_query = query_spelled [] [] query tt none refl bytes 12 (bytes, refl) (omega arith) stands in
    told_as q.query own.labels bytes (12 + length (query_octets [] query)) m absolute own.same header.0 header.1 asked_query
    read

pub reply_asks : (q : Query) (r : Result Reply AllocError) (read : WireMessage)
    → IfOk r (λ x. x.message ≡ Some (with_letters q.name read)) → AsksAlone q (Some (with_letters q.name read))
    → IfOk r (λ x. AsksAlone q x.message)
reply_asks q (Err e) read is asks = tt
reply_asks q (Ok x) read is asks = subst (λ (o : Option WireMessage). AsksAlone q o) (sym is) asks
