-- The messages of a stream, one by one, and of a stream in two parts.
use Rattle.std.proofs.Common.{◌≡◌, ℕ, suc, zero, ◌+◌, ◌*◌, ◌≤◌, ◌<◌, List, [], ◌∷◌, ◌++◌, length, take, drop, ap, ap₂, refl, sym, ◌∙◌, arith, Option, Some, None, Bool, true, false, cond, length-drop, length-append, append_assoc}
use Rattle.std.specs.Prelude.{nat_lt}
use Rattle.std.specs.Option.{option_map_or}
use Rattle.std.proofs.lemmas.Bool.{ltb-false}
use Rattle.std.proofs.lemmas.List.{take-append-le, drop-append-le, append-nil, map_push}
use Rattle.std.specs.Global.{Vec}
use Rattle.hickory_proto_core.specs.Name.{label_bytes}
use Rattle.hickory_resolver_tries.specs.Stream.{is_partial, first_of, Cut, with_first, uncut, cut_in, messages_of, rest_of, Takes, IsCutAnywhere}
use Rattle.hickory_resolver_tries.proofs.Cutting.{whole}

abbrev cut_of : List ℕ → Cut
cut_of stream = cut_in (length stream) stream

-- a test that gave something gave this
gave : {A : Type 0} (t : Bool) (x y : A) → cond t None (Some x) ≡ Some y → (t ≡ false) × (x ≡ y)
gave true x y h = absurd cc
gave false x y h = (refl, cc)

-- the rest behind a message is shorter
pub first_shorter : (s : List ℕ) (message rest : List ℕ) → first_of s ≡ Some (message, rest)
    → length rest + 2 ≤ length s
first_shorter [] message rest h = absurd cc
first_shorter (a ∷ []) message rest h = absurd cc
first_shorter (a ∷ b ∷ ps) message rest h =
    let k : ℕ = a * 256 + b in
    let g = gave (nat_lt (length ps) k) (take k ps, drop k ps) (message, rest) h in
    let e : length (drop k ps) ≡ length rest = ap (λ (p : List ℕ × List ℕ). length p.1) g.1 in
    omega (arith, length-drop k ps)

-- a whole message stays the first, whatever follows
first-append : (s t : List ℕ) (message rest : List ℕ) → first_of s ≡ Some (message, rest)
    → first_of (s ++ t) ≡ Some (message, rest ++ t)
first-append [] t message rest h = absurd cc
first-append (a ∷ []) t message rest h = absurd cc
first-append (a ∷ b ∷ ps) t message rest h =
    let g = gave (nat_lt (length ps) (a * 256 + b)) (take (a * 256 + b) ps, drop (a * 256 + b) ps) (message, rest) h in
    let room = ltb-false (length ps) (a * 256 + b) g.0 in
    whole a b (ps ++ t) (omega (arith, length-append ps t))
    ∙ ap₂ (λ x y. Some (x, y)) (take-append-le (a * 256 + b) ps t room) (drop-append-le (a * 256 + b) ps t room)
    ∙ ap (λ (p : List ℕ × List ℕ). Some (p.0, p.1 ++ t)) g.1

-- steps enough are as good as more
pub enough_steps : (n m : ℕ) (s : List ℕ) → length s ≤ n → length s ≤ m → cut_in n s ≡ cut_in m s
unfolding cut_in
enough_steps zero zero s h k = refl
enough_steps zero (suc m) [] h k = refl
enough_steps zero (suc m) (x ∷ s) h k = absurd (omega arith)
enough_steps (suc n) zero [] h k = refl
enough_steps (suc n) zero (x ∷ s) h k = absurd (omega arith)
enough_steps (suc n) (suc m) s h k = by (λ r. enough_steps n m r) (first_of s) refl
  where
    by : ((r : List ℕ) → length r ≤ n → length r ≤ m → cut_in n r ≡ cut_in m r)
        → (o : Option (List ℕ × List ℕ)) → first_of s ≡ o
        → option_map_or (λ first. with_first first.0 (cut_in n first.1)) o (uncut s)
        ≡ option_map_or (λ first. with_first first.0 (cut_in m first.1)) o (uncut s)
    by more None e = refl
    by more (Some (message, rest)) e =
        let less = first_shorter s message rest e in
        ap (with_first message) (more rest (omega arith) (omega arith))

-- a stream without a whole message
pub cut_none : (s : List ℕ) → first_of s ≡ None → cut_of s ≡ uncut s
unfolding cut_in
cut_none [] h = refl
cut_none (x ∷ xs) h =
    ap (λ o. option_map_or (λ first. with_first first.0 (cut_in (length xs) first.1)) o (uncut (x ∷ xs))) h

-- a stream with one
pub cut_some : (s message rest : List ℕ) → first_of s ≡ Some (message, rest)
    → cut_of s ≡ with_first message (cut_of rest)
unfolding cut_in
cut_some [] message rest h = absurd cc
cut_some (x ∷ xs) message rest h =
    let less = first_shorter (x ∷ xs) message rest h in
    ap (λ o. option_map_or (λ first. with_first first.0 (cut_in (length xs) first.1)) o (uncut (x ∷ xs))) h
    ∙ ap (with_first message) (enough_steps (length xs) (length rest) rest (omega arith) (omega arith))

-- messages before, and then those of what was left with more behind it
abbrev joined : Cut → List ℕ → Cut
joined before after = record {
  messages = before.messages ++ (cut_of (before.rest ++ after)).messages;
  rest = (cut_of (before.rest ++ after)).rest;
}

cut-append : (n : ℕ) (before after : List ℕ) → length before ≤ n
    → cut_of (before ++ after) ≡ joined (cut_of before) after
cut-append zero [] after h = sym (ap (λ c. joined c after) (cut_none [] refl))
cut-append zero (x ∷ xs) after h = absurd (omega arith)
cut-append (suc n) before after h = by (λ r. cut-append n r after) (first_of before) refl
  where
    by : ((r : List ℕ) → length r ≤ n → cut_of (r ++ after) ≡ joined (cut_of r) after)
        → (o : Option (List ℕ × List ℕ)) → first_of before ≡ o
        → cut_of (before ++ after) ≡ joined (cut_of before) after
    by more None e = sym (ap (λ c. joined c after) (cut_none before e))
    by more (Some (message, rest)) e =
        let less = first_shorter before message rest e in
        cut_some (before ++ after) message (rest ++ after) (first-append before after message rest e)
        ∙ ap (with_first message) (more rest (omega arith))
        ∙ sym (ap (λ c. joined c after) (cut_some before message rest e))

pub cut_anywhere : IsCutAnywhere
cut_anywhere before after =
    let e = cut-append (length before) before after (omega arith) in (ap (λ c. c.messages) e, ap (λ c. c.rest) e)

-- ---- what `next` takes, and the messages

pub none_taken : (s held behind : List ℕ) → Takes s None behind held → (messages_of s ≡ []) × (held ≡ rest_of s)
none_taken s held behind (none, all, end) =
    let e = cut_none s none in (ap (λ (c : Cut). c.messages) e, all ∙ sym (ap (λ (c : Cut). c.rest) e))

pub one_taken : (s held behind message : List ℕ) → Takes s (Some message) behind held
    → (messages_of s ≡ message ∷ messages_of (held ++ behind)) × (rest_of s ≡ rest_of (held ++ behind))
    × (length held + length behind < length s)
one_taken s held behind message (some, empty) =
    let e = cut_some s message behind some in
    let less = first_shorter s message behind some in
    let same : held ++ behind ≡ behind = ap (λ (h : List ℕ). h ++ behind) empty in
    let none : length held ≡ 0 = ap length empty in (
      ap (λ (c : Cut). c.messages) e ∙ ap (λ (r : List ℕ). message ∷ messages_of r) (sym same),
      ap (λ (c : Cut). c.rest) e ∙ ap rest_of (sym same),
      omega arith,
    )

-- one message more
pub messages_step : (out next : List (Vec ℕ)) (taken : Vec ℕ) (before after whole : List (List ℕ))
    → next ≡ out ++ taken ∷ [] → before ≡ taken.items ∷ after → label_bytes out ++ before ≡ whole
    → label_bytes next ++ after ≡ whole
messages_step out next taken before after whole en eb so_far =
    ap (λ (o : List (Vec ℕ)). label_bytes o ++ after) en ∙ ap (λ (o : List (List ℕ)). o ++ after) (map_push (λ (v : Vec ℕ). v.items) out taken)
    ∙ append_assoc (label_bytes out) (taken.items ∷ []) after
    ∙ ap (λ (b : List (List ℕ)). label_bytes out ++ b) (sym eb) ∙ so_far

-- one piece more
pub piece_step : (out next : List (List ℕ)) (held piece after rest rests : List ℕ) (whole : List (List ℕ))
    → next ≡ out ++ messages_of (held ++ piece) → after ≡ rest_of (held ++ piece) → rest ≡ piece ++ rests
    → out ++ messages_of (held ++ rest) ≡ whole
    → next ++ messages_of (after ++ rests) ≡ whole
piece_step out next held piece after rest rests whole en ea er so_far =
    let law = cut_anywhere (held ++ piece) rests in
    ap₂ (λ (n : List (List ℕ)) (a : List ℕ). n ++ messages_of (a ++ rests)) en ea
    ∙ append_assoc out (messages_of (held ++ piece)) (messages_of (rest_of (held ++ piece) ++ rests))
    ∙ ap (λ (m : List (List ℕ)). out ++ m) (sym law.0)
    ∙ ap (λ (s : List ℕ). out ++ messages_of s) (append_assoc held piece rests)
    ∙ ap (λ (s : List ℕ). out ++ messages_of (held ++ s)) (sym er) ∙ so_far

partial_first : (s : List ℕ) → is_partial s ≡ true → first_of s ≡ None
partial_first [] h = refl
partial_first (a ∷ []) h = refl
partial_first (a ∷ b ∷ s) h =
    ap (λ t. cond t None (Some (take (a * 256 + b) s, drop (a * 256 + b) s))) h

-- nothing more
pub no_more : (out whole : List (List ℕ)) (held rest : List ℕ) → is_partial held ≡ true → rest ≡ []
    → out ++ messages_of (held ++ rest) ≡ whole → out ≡ whole
no_more out whole held rest partial end so_far =
    let none : messages_of (held ++ rest) ≡ [] =
    ap (λ (r : List ℕ). messages_of (held ++ r)) end ∙ ap messages_of (append-nil held)
    ∙ ap (λ (c : Cut). c.messages) (cut_none held (partial_first held partial)) in
    sym (append-nil out) ∙ ap (λ (m : List (List ℕ)). out ++ m) (sym none) ∙ so_far
