-- Each text spells a name or has a fault that comes first; so there is a function from texts to names and
-- faults.
use Rattle.std.specs.Prelude.{◌≡◌, ◌⊎◌, ◌≤◌, ◌<◌, ◌==◌, ◌||◌, ℕ, suc, zero, Bool, true, false, List, [], ◌∷◌, ◌++◌, length, map, Option, Some, None, Result, Ok, Err, IfOk, IfErr}
use Rattle.std.proofs.Common.{refl, sym, ap, ap₂, ◌∙◌, cond, inl, inr, arith, subst}
use Rattle.std.proofs.lemmas.Bool.{and_parts, eqb-true, ltb-true, leb-true}
use Rattle.std.specs.Char.{is_ascii, is_ascii_digit}
use Rattle.hickory_proto_names.specs.declared.name_error.NameError.{NameError}
use Rattle.hickory_proto_names.specs.declared.name_error.NameError.TheVariants.{BadCharacter, BadEscape, OutOfMemory}
use Rattle.hickory_proto_names.specs.Name.{NameValue, label_fault}
use Rattle.hickory_proto_names.specs.NameText.{Written, itself, escaped, numbered, written_text, may_stand, is_plain, is_empty, is_number, escape_fault, front_fault, pieces_name, piece_bytes, IsCutInto, Spells, HasFault, IsUnambiguous}
use Rattle.hickory_proto_names.specs.NameSteps.{cut-char, cut-dot, fault_here, escape_of_one, escape_of_digits}

-- the text spells a name, or has a fault
abbrev pub Decided : List ℕ → Type 0
Decided text = ((name : NameValue) × Spells text name) ⊎ ((fault : NameError) × HasFault text fault)

-- what a text begins with, as the first of its label or a later one: a dot, a byte as it may be written, or a
-- fault
abbrev Front : Bool → List ℕ → Type 0
Front first text =
    ((after : List ℕ) × (text ≡ 46 ∷ after))
    ⊎ ((w : Written) × (after : List ℕ) × (text ≡ written_text w ++ after) × (may_stand first w ≡ true))
    ⊎ ((fault : NameError) × (front_fault first text ≡ Some fault))

digit_bounds : (d : ℕ) → is_ascii_digit d ≡ true → (48 ≤ d) × (d < 58)
digit_bounds d h =
    let parts = and_parts _ _ h in
    (leb-true 48 d parts.0, let top : d ≤ 57 = leb-true d 57 parts.1 in omega arith)

-- three digits that make a byte
number_front : (first : Bool) (a b c : ℕ) (rest : List ℕ) → is_number (a ∷ b ∷ c ∷ rest) ≡ true
    → Front first (92 ∷ a ∷ b ∷ c ∷ rest)
number_front first a b c rest h =
    let parts = and_parts _ _ h in
    let abc = and_parts _ _ parts.0 in
    let ab = and_parts _ _ abc.0 in
    let da = digit_bounds a ab.0 in
    let db = digit_bounds b ab.1 in
    let dc = digit_bounds c abc.1 in
    let e =
    escape_of_digits (a ∷ b ∷ c ∷ rest) rest a b c _ refl da.0 da.1 db.0 db.1 dc.0 dc.1
    (ltb-true _ _ parts.1) refl in
    inr (inl (e.0, rest, e.1, e.2 first))

escape_front : (first : Bool) (rest : List ℕ) → Front first (92 ∷ rest)
escape_front first [] = inr (inr (BadEscape, refl))
escape_front first (a ∷ rest) = digit (is_ascii_digit a) refl
  where
    ascii : (t : Bool) → is_ascii a ≡ t → is_ascii_digit a ≡ false → Front first (92 ∷ a ∷ rest)
    ascii true h other =
        let e = escape_of_one (a ∷ rest) rest a refl h other in inr (inl (e.0, rest, e.1, e.2 first))
    ascii false h other =
        inr (inr (
          BadCharacter,
          ap₂
              (λ d t. cond d (cond (is_number (a ∷ rest)) None (Some BadEscape))
              (cond t None (Some BadCharacter))) other h,
        ))

    number : (t : Bool) → is_number (a ∷ rest) ≡ t → is_ascii_digit a ≡ true → Front first (92 ∷ a ∷ rest)
    number true h digit = long rest h
      where
        long : (r : List ℕ) → is_number (a ∷ r) ≡ true → Front first (92 ∷ a ∷ r)
        long [] k = absurd cc
        long (b ∷ []) k = absurd cc
        long (b ∷ c ∷ more) k = number_front first a b c more k
    number false h digit =
        inr (inr (
          BadEscape,
          ap₂
              (λ d t. cond d (cond t None (Some BadEscape)) (cond (is_ascii a) None (Some BadCharacter))) digit h,
        ))

    digit : (t : Bool) → is_ascii_digit a ≡ t → Front first (92 ∷ a ∷ rest)
    digit true h = number (is_number (a ∷ rest)) refl h
    digit false h = ascii (is_ascii a) refl h

front_of : (first : Bool) (b : ℕ) (rest : List ℕ) → Front first (b ∷ rest)
front_of first b rest = slash (b == 92) refl
  where
    plain : (t : Bool) → is_plain first b ≡ t → (b == 92) ≡ false → (b == 46) ≡ false → Front first (b ∷ rest)
    plain true h no_slash no_dot = inr (inl (itself b, rest, refl, h))
    plain false h no_slash no_dot =
        inr (inr (
          BadCharacter,
          ap
              (λ s. cond s (escape_fault rest)
              (cond ((b == 46) || is_plain first b) None (Some BadCharacter))) no_slash
              ∙ ap₂ (λ d p. cond (d || p) None (Some BadCharacter)) no_dot h,
        ))

    dot : (t : Bool) → (b == 46) ≡ t → (b == 92) ≡ false → Front first (b ∷ rest)
    dot true h no_slash = inl (rest, ap (λ x. x ∷ rest) (eqb-true b 46 h))
    dot false h no_slash = plain (is_plain first b) refl no_slash h

    slash : (t : Bool) → (b == 92) ≡ t → Front first (b ∷ rest)
    slash true h =
        let P : ℕ → Type 0 = λ x. Front first (x ∷ rest) in
        subst P (sym (eqb-true b 92 h)) (escape_front first rest)
    slash false h = dot (b == 46) refl h

shorter : (w : Written) (after rest : List ℕ) (n : ℕ) → rest ≡ written_text w ++ after → length rest ≤ suc n
    → length after ≤ n
shorter (itself b) after rest n e h = let l : length rest ≡ suc (length after) = ap length e in omega arith
shorter (escaped b) after rest n e h =
    let l : length rest ≡ suc (suc (length after)) = ap length e in omega arith
shorter (numbered a b c) after rest n e h =
    let l : length rest ≡ suc (suc (suc (suc (length after)))) = ap length e in omega arith

-- at the end of a text the labels decide
at_end : (text : List ℕ) (before : List (List Written)) (last : List Written)
    → IsCutInto text (before ++ last ∷ []) [] → Decided text
at_end text before last cut =
    by (label_fault (pieces_name (map piece_bytes (before ++ last ∷ []))).labels) refl
  where
    by : (o : Option NameError) → label_fault (pieces_name (map piece_bytes (before ++ last ∷ []))).labels ≡ o
        → Decided text
    by None e =
        inl (
          pieces_name (map piece_bytes (before ++ last ∷ [])),
          record {
            pieces = before ++ last ∷ [];
            whole = cut;
            named = refl;
            valid = e;
          },
        )
    by (Some fault) e =
        inr (fault, record { pieces = before ++ last ∷ []; rest = []; before = cut; found = e })

-- a text that is pieces and a rest of some length at most
from_here : (n : ℕ) (text : List ℕ) (before : List (List Written)) (last : List Written) (rest : List ℕ)
    → length rest ≤ n → IsCutInto text (before ++ last ∷ []) rest → Decided text
from_here n text before last [] short cut = at_end text before last cut
from_here zero text before last (b ∷ rest) short cut = absurd (omega arith)
from_here (suc n) text before last (b ∷ rest) short cut =
    go (λ x y r k c. from_here n text x y r k c) (front_of (is_empty last) b rest)
  where
    go : ((x : List (List Written)) (y : List Written) (r : List ℕ) → length r ≤ n
        → IsCutInto text (x ++ y ∷ []) r → Decided text) → Front (is_empty last) (b ∷ rest) → Decided text
    go more (inl (after, e)) =
        more (before ++ last ∷ []) [] after
        (let l : length (b ∷ rest) ≡ suc (length after) = ap length e in omega arith)
        (cut-dot before last cut e)
    go more (inr (inl (w, after, e, stands))) =
        more before (last ++ w ∷ []) after (shorter w after (b ∷ rest) n e short)
        (cut-char before last w cut e stands)
    go more (inr (inr (fault, e))) = inr (fault, fault_here (b ∷ rest) before last fault cut e)

-- each text spells a name or has a fault that comes first
pub decided : (text : List ℕ) → Decided text
decided text =
    from_here (length text) text [] [] text (omega arith) (record {
      some = omega arith;
      spelled = refl;
      stand = refl;
    })

result_of : {text : List ℕ} → Decided text → Result NameValue NameError
result_of (inl (name, spelled)) = Ok name
result_of (inr (fault, found)) = Err fault

-- the name that a text spells, or the fault that comes first in it
pub text_name : List ℕ → Result NameValue NameError
text_name text = result_of (decided text)

-- what a reading of a text may be: a name that it spells, or its fault
abbrev pub IsReading : List ℕ → Result NameValue NameError → Type 0
IsReading text (Ok name) = Spells text name
IsReading text (Err fault) = HasFault text fault

pub text_name_is : (text : List ℕ) → IsReading text (text_name text)
unfolding text_name result_of
text_name_is text = by (decided text)
  where
    by : (d : Decided text) → IsReading text (result_of d)
    by (inl (name, spelled)) = spelled
    by (inr (fault, found)) = found

-- a reading that is a name or a fault of the text, or out of memory, is that one or out of memory
pub is_text_name : (text : List ℕ) (result : Result NameValue NameError) → IsUnambiguous text
    → IsReading text result → result ≡ text_name text
is_text_name text result only is = at (text_name text) (text_name_is text) result is
  where
    at : (named : Result NameValue NameError) → IsReading text named → (r : Result NameValue NameError)
        → IsReading text r → r ≡ named
    at (Ok n) spelled (Ok m) spells = ap (λ x. Ok x) (only.one_name m n spells spelled)
    at (Ok n) spelled (Err e) found = absurd (only.not_both n e spelled found)
    at (Err d) there (Ok m) spells = absurd (only.not_both m d spells there)
    at (Err d) there (Err e) found = ap (λ x. Err x) (only.one_fault e d found there)

-- what reading a text answers is what the text says, or out of memory
pub named_or_out : (text : List ℕ) (result : Result NameValue NameError) → IsUnambiguous text
    → IfOk result (Spells text) → IfErr result (λ e. (e ≡ OutOfMemory) ⊎ HasFault text e)
    → (result ≡ text_name text) ⊎ (result ≡ Err OutOfMemory)
named_or_out text (Ok n) only spelled fault = inl (is_text_name text (Ok n) only spelled)
named_or_out text (Err e) only spelled (inl out) = inr (ap (λ x. Err x) out)
named_or_out text (Err e) only spelled (inr found) = inl (is_text_name text (Err e) only found)
