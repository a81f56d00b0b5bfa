-- A text is cut into pieces in one way only.
use Rattle.std.proofs.Common.{◌≡◌, ◌==◌, ◌⊎◌, inl, inr, ℕ, ◌+◌, ◌*◌, ◌-◌, ◌<◌, Bool, true, false, ◌&&◌, ◌||◌, not, List, [], ◌∷◌, ◌++◌, map, length, nat_lt, None, Some, sym, refl, ap, ap₂, ◌∙◌, append_assoc, arith, if◌then◌else◌, ⊎_elim}
use Rattle.std.specs.Char.{is_ascii, is_ascii_digit}
use Rattle.std.specs.List.{list_all}
use Rattle.std.proofs.lemmas.Bool.{and_from, and_parts, ne_eqb, le-leb, lt-ltb, ltb-true, not-true, both_ways}
use Rattle.hickory_proto_names.specs.declared.name_error.NameError.{NameError}
use Rattle.hickory_proto_names.specs.declared.name_error.NameError.TheVariants.{BadCharacter, BadEscape}
use Rattle.hickory_proto_names.specs.Name.{label_fault}
use Rattle.hickory_proto_names.specs.NameText.{Written, itself, escaped, numbered, written_text, is_plain, may_stand, is_piece, piece_text, piece_bytes, is_empty, ends_empty, IsCutInto, IsUnambiguous, is_number, escape_fault, front_fault, text_fault, pieces_name}
use Rattle.hickory_proto_names.specs.NameSteps.{joined}

-- what a text begins with, in a place
data Front : Type 0 where
  nothing : Front
  broken : Front
  dot : List ℕ → Front
  character : Written → List ℕ → Front

abbrev front_number : List ℕ → Front
front_number (a ∷ b ∷ c ∷ t) = if is_number (a ∷ b ∷ c ∷ t) then character (numbered (a - 48) (b - 48) (c - 48)) t else broken
front_number _ = broken

abbrev front_escape : List ℕ → Front
front_escape [] = broken
front_escape (b ∷ t) = if is_ascii_digit b then front_number (b ∷ t) else (if is_ascii b then character (escaped b) t else broken)

abbrev front : Bool → List ℕ → Front
front first [] = nothing
front first (b ∷ t) = if b == 92 then front_escape t else (if b == 46 then dot t else (if is_plain first b then character (itself b) t else broken))

-- ---- a character that stands in its place is read back

plain_other : (first : Bool) (b c : ℕ) → is_plain first b ≡ true → ((p : Bool) → is_plain p c ≡ false) → (b == c) ≡ false
plain_other first b c plain never = ne_eqb b c (λ e. both_ways (is_plain first c) (never first) (ap (is_plain first) (sym e) ∙ plain))

never_backslash : (p : Bool) → is_plain p 92 ≡ false
never_backslash true = refl
never_backslash false = refl

never_dot : (p : Bool) → is_plain p 46 ≡ false
never_dot true = refl
never_dot false = refl

digit_again : (d : ℕ) → d < 10 → is_ascii_digit (48 + d) ≡ true
digit_again d h = and_from _ _ (le-leb 48 (48 + d) (omega arith)) (le-leb (48 + d) 57 (omega arith))

front_numbered : (a b c : ℕ) (t : List ℕ) → a < 10 → b < 10 → c < 10 → 100 * a + 10 * b + c < 256 → front_escape ((48 + a) ∷ (48 + b) ∷ (48 + c) ∷ t) ≡ character (numbered a b c) t
front_numbered a b c t ha hb hc small =
    let digits = (48 + b) ∷ (48 + c) ∷ t in
    ap (λ d. if d then front_number ((48 + a) ∷ digits) else (if is_ascii (48 + a) then character (escaped (48 + a)) digits else broken)) (digit_again a ha)
    ∙ ap (λ n. if n then character (numbered (48 + a - 48) (48 + b - 48) (48 + c - 48)) t else broken) whole
    ∙ ap₂ (λ x y. character (numbered x y (48 + c - 48)) t) (back a) (back b) ∙ ap (λ z. character (numbered a b z) t) (back c)
  where
    back : (d : ℕ) → 48 + d - 48 ≡ d
    back d = omega arith

    value : 100 * (48 + a - 48) + 10 * (48 + b - 48) + (48 + c - 48) ≡ 100 * a + 10 * b + c
    value = omega arith

    whole : is_number ((48 + a) ∷ (48 + b) ∷ (48 + c) ∷ t) ≡ true
    whole =
        and_from _ _ (and_from _ _ (and_from _ _ (digit_again a ha) (digit_again b hb)) (digit_again c hc))
        (ap (λ n. nat_lt n 256) value ∙ lt-ltb _ 256 small)

front_char : (first : Bool) (w : Written) (t : List ℕ) → may_stand first w ≡ true → front first (written_text w ++ t) ≡ character w t
front_char first (itself b) t h = rw (plain_other first b 92 h never_backslash, plain_other first b 46 h never_dot, h) refl
front_char first (escaped b) t h =
    let parts = and_parts (is_ascii b) (not (is_ascii_digit b)) h in
    rw (not-true _ parts.1, parts.0) refl
front_char first (numbered a b c) t h =
    let parts = and_parts (nat_lt a 10 && nat_lt b 10 && nat_lt c 10) (nat_lt (100 * a + 10 * b + c) 256) h in
    let digits = and_parts (nat_lt a 10 && nat_lt b 10) (nat_lt c 10) parts.0 in
    let two = and_parts (nat_lt a 10) (nat_lt b 10) digits.0 in
    front_numbered a b c t (ltb-true a 10 two.0) (ltb-true b 10 two.1) (ltb-true c 10 digits.1) (ltb-true _ 256 parts.1)

-- ---- a fault is no character

number_broken : (t : List ℕ) (e : NameError) → (if is_number t then None else Some BadEscape) ≡ Some e → front_number t ≡ broken
number_broken [] e h = refl
number_broken (a ∷ []) e h = refl
number_broken (a ∷ b ∷ []) e h = refl
number_broken (a ∷ b ∷ c ∷ t) e h = by_test (is_number (a ∷ b ∷ c ∷ t)) _ h
  where
    by_test : (test : Bool) (x : Front) → (if test then None else Some BadEscape) ≡ Some e → (if test then x else broken) ≡ broken
    by_test true x k = cc
    by_test false x k = refl

escape_broken : (t : List ℕ) (e : NameError) → escape_fault t ≡ Some e → front_escape t ≡ broken
escape_broken [] e h = refl
escape_broken (b ∷ t) e h = by_test (is_ascii_digit b) (is_ascii b) h
  where
    by_test : (digit low : Bool) → (if digit then (if is_number (b ∷ t) then None else Some BadEscape) else (if low then None else Some BadCharacter)) ≡ Some e → (if digit then front_number (b ∷ t) else (if low then character (escaped b) t else broken)) ≡ broken
    by_test true low k = number_broken (b ∷ t) e k
    by_test false true k = cc
    by_test false false k = refl

front_broken : (first : Bool) (t : List ℕ) (e : NameError) → front_fault first t ≡ Some e → front first t ≡ broken
front_broken first [] e h = cc
front_broken first (b ∷ t) e h = by_test (b == 92) (b == 46) (is_plain first b) h
  where
    by_test : (slash at_dot plain : Bool) → (if slash then escape_fault t else (if at_dot || plain then None else Some BadCharacter)) ≡ Some e → (if slash then front_escape t else (if at_dot then dot t else (if plain then character (itself b) t else broken))) ≡ broken
    by_test true at_dot plain k = escape_broken t e k
    by_test false true plain k = cc
    by_test false false true k = cc
    by_test false false false k = refl

-- ---- one way to cut

-- no character of a label begins here
abbrev NoCharacter : Bool → List ℕ → Type 0
NoCharacter first t = (w : Written) (u : List ℕ) → front first t ≡ character w u → ⊥

abbrev all_stand : Bool → List Written → Bool
all_stand first [] = true
all_stand first (w ∷ ws) = may_stand first w && all_stand false ws

abbrev place_after : Bool → List Written → Bool
place_after first [] = first
place_after first (w ∷ ws) = false

later : (ws : List Written) → place_after false ws ≡ false
later [] = refl
later (w ∷ ws) = refl

same_piece : (first : Bool) (p q : List Written) (r s : List ℕ) → all_stand first p ≡ true → all_stand first q ≡ true → NoCharacter (place_after first p) r → NoCharacter (place_after first q) s → piece_text p ++ r ≡ piece_text q ++ s → (p ≡ q) × (r ≡ s)
same_piece first [] [] r s hp hq er es e = (refl, e)
same_piece first [] (w ∷ q) r s hp hq er es e =
    absurd (er w (piece_text q ++ s) (ap (front first) (e ∙ append_assoc (written_text w) (piece_text q) s) ∙ front_char first w _ (and_parts _ _ hq).0))
same_piece first (v ∷ p) [] r s hp hq er es e =
    absurd (es v (piece_text p ++ r) (ap (front first) (sym e ∙ append_assoc (written_text v) (piece_text p) r) ∙ front_char first v _ (and_parts _ _ hp).0))
same_piece first (v ∷ p) (w ∷ q) r s hp hq er es e =
    let vs = and_parts (may_stand first v) (all_stand false p) hp in
    let ws = and_parts (may_stand first w) (all_stand false q) hq in
    let fronts : character v (piece_text p ++ r) ≡ character w (piece_text q ++ s) =
    sym (front_char first v _ vs.0) ∙ ap (front first) (sym (append_assoc (written_text v) (piece_text p) r) ∙ e ∙ append_assoc (written_text w) (piece_text q) s) ∙ front_char first w _ ws.0 in
    let heads : v ≡ w = cc in
    let rests : piece_text p ++ r ≡ piece_text q ++ s = cc in
    let more = same_piece false p q r s vs.1 ws.1 (rw (later p) er) (rw (later q) es) rests in
    (ap₂ (λ x xs. x ∷ xs) heads more.0, more.1)

stand_later : (ws : List Written) → list_all (may_stand false) ws ≡ all_stand false ws
stand_later [] = refl
stand_later (w ∷ ws) = ap (λ b. may_stand false w && b) (stand_later ws)

piece_stands : (ws : List Written) → is_piece ws ≡ true → all_stand true ws ≡ true
piece_stands [] h = refl
piece_stands (w ∷ ws) h = sym (ap (λ b. may_stand true w && b) (stand_later ws)) ∙ h

-- behind these pieces the text is at its end, or broken
abbrev IsStuck : List (List Written) → List ℕ → Type 0
IsStuck pieces rest = (front (ends_empty pieces) rest ≡ nothing) ⊎ (front (ends_empty pieces) rest ≡ broken)

stuck-no_character : (p : List Written) (r : List ℕ) → IsStuck (p ∷ []) r → NoCharacter (place_after true p) r
stuck-no_character [] r stuck w u e = ⊎_elim (λ h. cc) (λ h. cc) stuck
stuck-no_character (v ∷ p) r stuck w u e = ⊎_elim (λ h. cc) (λ h. cc) stuck

stuck-no_dot : (p : List Written) (r t : List ℕ) → IsStuck (p ∷ []) r → r ≡ 46 ∷ t → ⊥
stuck-no_dot p r t stuck e =
    let at : front (is_empty p) r ≡ dot t = ap (front (is_empty p)) e in
    ⊎_elim (λ h. cc) (λ h. cc) stuck

dot-no_character : (first : Bool) (t : List ℕ) → NoCharacter first (46 ∷ t)
dot-no_character first t w u e = cc

same_pieces : (ps qs : List (List Written)) (r s : List ℕ) → 0 < length ps → 0 < length qs → list_all is_piece ps ≡ true → list_all is_piece qs ≡ true → IsStuck ps r → IsStuck qs s → joined ps ++ r ≡ joined qs ++ s → (ps ≡ qs) × (r ≡ s)
same_pieces [] qs r s lp lq hp hq er es e = absurd (omega arith)
same_pieces (p ∷ ps) [] r s lp lq hp hq er es e = absurd (omega arith)
same_pieces (p ∷ []) (q ∷ []) r s lp lq hp hq er es e =
    let one = same_piece true p q r s (piece_stands p (and_parts _ _ hp).0) (piece_stands q (and_parts _ _ hq).0) (stuck-no_character p r er) (stuck-no_character q s es) e in
    (ap (λ x. x ∷ []) one.0, one.1)
same_pieces (p ∷ []) (q ∷ q' ∷ qs) r s lp lq hp hq er es e =
    let one = same_piece true p q r (46 ∷ (joined (q' ∷ qs) ++ s)) (piece_stands p (and_parts _ _ hp).0) (piece_stands q (and_parts _ _ hq).0) (stuck-no_character p r er) (dot-no_character (place_after true q) _) (e ∙ append_assoc (piece_text q) (46 ∷ joined (q' ∷ qs)) s) in
    absurd (stuck-no_dot p r _ er one.1)
same_pieces (p ∷ p' ∷ ps) (q ∷ []) r s lp lq hp hq er es e =
    let one = same_piece true q p s (46 ∷ (joined (p' ∷ ps) ++ r)) (piece_stands q (and_parts _ _ hq).0) (piece_stands p (and_parts _ _ hp).0) (stuck-no_character q s es) (dot-no_character (place_after true p) _) (sym e ∙ append_assoc (piece_text p) (46 ∷ joined (p' ∷ ps)) r) in
    absurd (stuck-no_dot q s _ es one.1)
same_pieces (p ∷ p' ∷ ps) (q ∷ q' ∷ qs) r s lp lq hp hq er es e =
    let one = same_piece true p q (46 ∷ (joined (p' ∷ ps) ++ r)) (46 ∷ (joined (q' ∷ qs) ++ s)) (piece_stands p (and_parts _ _ hp).0) (piece_stands q (and_parts _ _ hq).0) (dot-no_character (place_after true p) _) (dot-no_character (place_after true q) _)
    (sym (append_assoc (piece_text p) (46 ∷ joined (p' ∷ ps)) r) ∙ e ∙ append_assoc (piece_text q) (46 ∷ joined (q' ∷ qs)) s) in
    let behind : joined (p' ∷ ps) ++ r ≡ joined (q' ∷ qs) ++ s = let h = one.1 in cc in
    let more = same_pieces (p' ∷ ps) (q' ∷ qs) r s (omega arith) (omega arith) (and_parts _ _ hp).1 (and_parts _ _ hq).1 er es behind in
    (ap₂ (λ x xs. x ∷ xs) one.0 more.0, more.1)

same_cut : {text : List ℕ} (ps qs : List (List Written)) (r s : List ℕ) → IsCutInto text ps r → IsCutInto text qs s → IsStuck ps r → IsStuck qs s → (ps ≡ qs) × (r ≡ s)
same_cut ps qs r s c d er es = same_pieces ps qs r s c.some d.some c.stand d.stand er es (sym c.spelled ∙ d.spelled)

fault_stuck : (ps : List (List Written)) (r : List ℕ) (e : NameError) → text_fault ps r ≡ Some e → IsStuck ps r
fault_stuck ps [] e h = inl refl
fault_stuck ps (b ∷ r) e h = inr (front_broken (ends_empty ps) (b ∷ r) e h)

pub text_is_unambiguous : (text : List ℕ) → IsUnambiguous text
text_is_unambiguous text = record {
  one_name = λ m n h k. sym h.named ∙ ap (λ ps. pieces_name (map piece_bytes ps)) (same_cut h.pieces k.pieces [] [] h.whole k.whole (inl refl) (inl refl)).0 ∙ k.named;
  one_fault = λ d e h k.
      let same = same_cut h.pieces k.pieces h.rest k.rest h.before k.before (fault_stuck h.pieces h.rest d h.found) (fault_stuck k.pieces k.rest e k.found) in
      let both : Some d ≡ Some e = sym h.found ∙ ap₂ text_fault same.0 same.1 ∙ k.found in cc;
  not_both = λ n e h k.
      let same = same_cut h.pieces k.pieces [] k.rest h.whole k.before (inl refl) (fault_stuck k.pieces k.rest e k.found) in
      let both : None ≡ Some e = sym h.valid ∙ ap (λ m. label_fault m.labels) (sym h.named) ∙ ap₂ text_fault same.0 same.1 ∙ k.found in cc;
}
