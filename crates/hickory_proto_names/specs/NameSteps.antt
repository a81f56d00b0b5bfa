-- How a text that is pieces and a rest goes on by one character.
use Rattle.std.proofs.Common.{◌≡◌, ℕ, ◌+◌, ◌*◌, ◌-◌, ◌<◌, ◌≤◌, true, false, ◌&&◌, not, List, [], ◌∷◌, ◌++◌, map, length, nat_lt, Some, sym, refl, ap, ap₂, ◌∙◌, append_assoc, append-nil, arith}
use Rattle.std.proofs.lemmas.List.{length-append}
use Rattle.std.proofs.lemmas.List.Concat.{flat_map-append}
use Rattle.std.proofs.lemmas.List.Folds.{list_all-append}
use Rattle.std.specs.List.{list_all, join_with_byte}
use Rattle.hickory_proto_names.specs.declared.name_error.NameError.{NameError}
use Rattle.std.specs.Char.{is_ascii, is_ascii_digit}
use Rattle.std.proofs.lemmas.Bool.{and_from, and_parts, lt-ltb}
use Rattle.hickory_proto_names.specs.NameText.{Written, escaped, numbered, written_text, may_stand, is_piece, piece_text, IsCutInto, is_empty, ends_empty, front_fault, HasFault}
use Rattle.hickory_proto_names.specs.NameTextParts.{IsEscape}

-- three digits below 256 are an escape
pub escape_of_digits : (t rest : List ℕ) (a b c n : ℕ) → t ≡ a ∷ b ∷ c ∷ rest → 48 ≤ a → a < 58 → 48 ≤ b
    → b < 58 → 48 ≤ c → c < 58 → 100 * (a - 48) + 10 * (b - 48) + (c - 48) < 256
    → n ≡ 100 * (a - 48) + 10 * (b - 48) + (c - 48) → IsEscape t n rest
escape_of_digits t rest a b c n begins la ha lb hb lc hc small value =
    (numbered (a - 48) (b - 48) (c - 48), ap (λ l. 92 ∷ l) (begins ∙ digits), λ first. stand, sym value)
  where
    back : (d : ℕ) → 48 ≤ d → d ≡ 48 + (d - 48)
    back d h = omega arith

    digits : a ∷ b ∷ c ∷ rest ≡ (48 + (a - 48)) ∷ (48 + (b - 48)) ∷ (48 + (c - 48)) ∷ rest
    digits = ap₂ (λ d l. d ∷ l) (back a la) (ap₂ (λ d l. d ∷ l) (back b lb) (ap (λ d. d ∷ rest) (back c lc)))

    stand : ((nat_lt (a - 48) 10 && nat_lt (b - 48) 10 && nat_lt (c - 48) 10)
        && nat_lt (100 * (a - 48) + 10 * (b - 48) + (c - 48)) 256) ≡ true
    stand =
        and_from _ _ (and_from _ _
        (and_from _ _ (lt-ltb (a - 48) 10 (omega arith)) (lt-ltb (b - 48) 10 (omega arith)))
        (lt-ltb (c - 48) 10 (omega arith))) (lt-ltb _ 256 small)

-- an ASCII character that is no digit is an escape by itself
pub escape_of_one : (t rest : List ℕ) (b : ℕ) → t ≡ b ∷ rest → is_ascii b ≡ true → is_ascii_digit b ≡ false
    → IsEscape t b rest
escape_of_one t rest b begins low other =
    (escaped b, ap (λ l. 92 ∷ l) begins, λ first. and_from _ _ low (ap not other), refl)

-- ---- pieces with dots between them

abbrev pub joined : List (List Written) → List ℕ
joined pieces = join_with_byte 46 (map piece_text pieces)

pub joined-cons : (p : List Written) (ps : List (List Written)) → 0 < length ps
    → joined (p ∷ ps) ≡ piece_text p ++ (46 ∷ joined ps)
joined-cons p [] h = absurd (omega arith)
joined-cons p (q ∷ qs) h = refl

one_more : (before : List (List Written)) (last : List Written) → 0 < length (before ++ last ∷ [])
one_more before last = omega (arith, length-append before (last ∷ []))

-- one more character in the last piece
joined-char : (before : List (List Written)) (last : List Written) (w : Written)
    → joined (before ++ (last ++ w ∷ []) ∷ []) ≡ joined (before ++ last ∷ []) ++ written_text w
joined-char [] last w =
    flat_map-append written_text last (w ∷ []) ∙ ap (λ l. piece_text last ++ l) (append-nil (written_text w))
joined-char (p ∷ ps) last w =
    joined-cons p (ps ++ (last ++ w ∷ []) ∷ []) (one_more ps _)
    ∙ ap (λ l. piece_text p ++ (46 ∷ l)) (joined-char ps last w)
    ∙ sym (append_assoc (piece_text p) (46 ∷ joined (ps ++ last ∷ [])) (written_text w))
    ∙ ap (λ l. l ++ written_text w) (sym (joined-cons p (ps ++ last ∷ []) (one_more ps _)))

-- a dot, and an empty last piece
joined-dot : (before : List (List Written)) (last : List Written)
    → joined ((before ++ last ∷ []) ++ [] ∷ []) ≡ joined (before ++ last ∷ []) ++ 46 ∷ []
joined-dot [] last = refl
joined-dot (p ∷ ps) last =
    joined-cons p ((ps ++ last ∷ []) ++ [] ∷ []) (one_more (ps ++ last ∷ []) [])
    ∙ ap (λ l. piece_text p ++ (46 ∷ l)) (joined-dot ps last)
    ∙ sym (append_assoc (piece_text p) (46 ∷ joined (ps ++ last ∷ [])) (46 ∷ []))
    ∙ ap (λ l. l ++ 46 ∷ []) (sym (joined-cons p (ps ++ last ∷ []) (one_more ps _)))

is_piece-more : (ws : List Written) (w : Written) → is_piece ws ≡ true → may_stand (is_empty ws) w ≡ true
    → is_piece (ws ++ w ∷ []) ≡ true
is_piece-more [] w h k = and_from _ _ k refl
is_piece-more (v ∷ vs) w h k =
    let parts = and_parts (may_stand true v) (list_all (may_stand false) vs) h in
    let last : list_all (may_stand false) (w ∷ []) ≡ true = and_from (may_stand false w) true k refl in
    and_from _ _ parts.0 (list_all-append (may_stand false) vs (w ∷ []) ∙ and_from _ _ parts.1 last)

all_pieces : (before : List (List Written)) (last : List Written)
    → list_all is_piece (before ++ last ∷ []) ≡ true
    → (list_all is_piece before ≡ true) × (is_piece last ≡ true)
all_pieces before last h =
    let parts = and_parts _ _ (sym (list_all-append is_piece before (last ∷ [])) ∙ h) in
    (parts.0, (and_parts _ _ parts.1).0)

pub cut-char : {text rest after : List ℕ} (before : List (List Written)) (last : List Written) (w : Written)
    → IsCutInto text (before ++ last ∷ []) rest → rest ≡ written_text w ++ after
    → may_stand (is_empty last) w ≡ true → IsCutInto text (before ++ (last ++ w ∷ []) ∷ []) after
cut-char {after = after} before last w cut begins stands =
    let parts = all_pieces before last cut.stand in
    record {
      some = one_more before _;
      spelled =
          cut.spelled ∙ ap (λ l. joined (before ++ last ∷ []) ++ l) begins
          ∙ sym (append_assoc _ (written_text w) after)
          ∙ ap (λ l. l ++ after) (sym (joined-char before last w));
      stand =
          list_all-append is_piece before _
          ∙ and_from _ _ parts.0
          (let here : list_all is_piece ((last ++ w ∷ []) ∷ [])
          ≡ true = and_from _ true (is_piece-more last w parts.1 stands) refl in here);
    }

pub cut-dot : {text rest after : List ℕ} (before : List (List Written)) (last : List Written)
    → IsCutInto text (before ++ last ∷ []) rest → rest ≡ 46 ∷ after
    → IsCutInto text ((before ++ last ∷ []) ++ [] ∷ []) after
cut-dot {after = after} before last cut begins =
    record {
      some = one_more (before ++ last ∷ []) [];
      spelled =
          cut.spelled ∙ ap (λ l. joined (before ++ last ∷ []) ++ l) begins
          ∙ sym (append_assoc _ (46 ∷ []) after) ∙ ap (λ l. l ++ after) (sym (joined-dot before last));
      stand = list_all-append is_piece (before ++ last ∷ []) ([] ∷ []) ∙ and_from _ _ cut.stand refl;
    }

pub ends_empty-last : {A : Type 0} (before : List (List A)) (last : List A)
    → ends_empty (before ++ last ∷ []) ≡ is_empty last
ends_empty-last [] last = refl
ends_empty-last (p ∷ []) last = refl
ends_empty-last (p ∷ q ∷ ps) last = ends_empty-last (q ∷ ps) last

-- what the rest of the text begins with is the first fault
pub fault_here : {text : List ℕ} (rest : List ℕ) (before : List (List Written)) (last : List Written)
    (e : NameError) → IsCutInto text (before ++ last ∷ []) rest → front_fault (is_empty last) rest ≡ Some e
    → HasFault text e
fault_here [] before last e cut fault = cc
fault_here (b ∷ rest) before last e cut fault =
    record {
      pieces = _;
      rest = _;
      before = cut;
      found = ap (λ first. front_fault first (b ∷ rest)) (ends_empty-last before last) ∙ fault;
    }
