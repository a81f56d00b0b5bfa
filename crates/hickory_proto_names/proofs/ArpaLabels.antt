-- Labels that are decimal numbers or hex digits, and lists of them that are read from the last to the first.
use Rattle.std.proofs.Common.{◌≡◌, ◌≢◌, ℕ, suc, zero, ◌+◌, ◌-◌, ◌<◌, ◌≤◌, List, [], ◌∷◌, map, reverse, length, get_or, set, take, drop, replicate, Result, Ok, Err, decimal, sym, refl, ap, ap₂, ◌∙◌, subst, arith, inl, inr, length-drop, drop-cons}
use Rattle.std.proofs.lemmas.Bool.{cases_lt, cases_eq}
use Rattle.std.proofs.lemmas.Bool.Decides.{nat_tests}
use Rattle.std.proofs.lemmas.List.{reverse-append, map-append, length-map, length-reverse, get_or-map, get_or-reverse, drop-replicate, drop-set-lt, drop_all, length-replicate, length-set, get_or-set_same, get_or-set_other}
use Rattle.std.proofs.Math.Seq.{take-suc-set}
use Rattle.std.proofs.lemmas.Fmt.{decimal_is_IsNumeral, decimal-digits_value, first_decimal, decimal_digit, parse-decimal, IsAscii-decimal}
use Rattle.std.proofs.lemmas.Str.{IsUtf8-from_ascii}
use Rattle.std.proofs.lemmas.Str.Parse.{numerals_by_value, tells_digits, parse_plain}
use Rattle.std.specs.Global.{Vec}
use Rattle.std.specs.Char.{digit_value, digit_char, to_ascii_lowercase}
use Rattle.std.specs.Str.{IsUtf8}
use Rattle.std.specs.Str.Parse.{AllDigits, ParsesUnsigned}
use Rattle.std.specs.Prelude.{IfSome, IfNone}
use Rattle.std.specs.Result.{result_ok}
use Rattle.hickory_proto_names.specs.Name.{label_bytes, lower_label}
use Rattle.hickory_proto_names.specs.Arpa.{hex_label, IsWritten, IsNeverWritten}

-- ---- one label

lower_digit : (c d : ℕ) → digit_value d < 10 → to_ascii_lowercase c ≡ d → c ≡ d
lower_digit c d h e = grind (arith, nat_tests)

same_digit : (d : ℕ) → digit_value d < 10 → to_ascii_lowercase d ≡ d
same_digit d h = grind (arith, nat_tests)

-- a label that is digits in lower case is these digits
lower_digits : (l ds : List ℕ) → AllDigits 10 ds → lower_label l ≡ ds → l ≡ ds
lower_digits [] [] h e = refl
lower_digits [] (d ∷ ds) h e = absurd (cc)
lower_digits (c ∷ l) [] h e = absurd (cc)
lower_digits (c ∷ l) (d ∷ ds) h e = ap₂ (λ x xs. x ∷ xs) (lower_digit c d h.0 (cc)) (lower_digits l ds h.1 (cc))

same_digits : (ds : List ℕ) → AllDigits 10 ds → lower_label ds ≡ ds
same_digits [] h = refl
same_digits (d ∷ ds) h = ap₂ (λ x xs. x ∷ xs) (same_digit d h.0) (same_digits ds h.1)

pub lower_decimal : (n : ℕ) → n < 256 → lower_label (decimal n) ≡ decimal n
lower_decimal n h = same_digits (decimal n) (decimal_is_IsNumeral n (omega arith)).0.1

pub is_decimal : (l : List ℕ) (n : ℕ) → n < 256 → lower_label l ≡ decimal n → l ≡ decimal n
is_decimal l n h e = lower_digits l (decimal n) (decimal_is_IsNumeral n (omega arith)).0.1 e

pub lower_hex : (n : ℕ) → n < 16 → lower_label (hex_label n) ≡ hex_label n
lower_hex n h = ap (λ c. c ∷ []) (one n h)
  where
    one : (n : ℕ) → n < 16 → to_ascii_lowercase (digit_char n) ≡ digit_char n
    one n h = grind (arith, nat_tests)

pub hex_injective : (m n : ℕ) → m < 16 → n < 16 → hex_label m ≡ hex_label n → m ≡ n
hex_injective m n h k e = one m n h k (ap (λ l. get_or l 0 0) e)
  where
    one : (m n : ℕ) → m < 16 → n < 16 → digit_char m ≡ digit_char n → m ≡ n
    one m n h k e = grind (arith, nat_tests)

-- a decimal number has a digit, and begins with 0 only where it is 0
pub not_empty : (l : List ℕ) (n : ℕ) → n < 256 → length l ≡ 0 → lower_label l ≢ decimal n
not_empty l n h none e =
    let some = (decimal_is_IsNumeral n (omega arith)).0.0 in
    omega (arith, ap length (is_decimal l n h e))

pub no_plus : (l : List ℕ) (n : ℕ) → n < 256 → get_or l 0 0 ≡ 43 → lower_label l ≢ decimal n
no_plus l n h plus e =
    elim (cases_lt 0 n) [
      | inl more ↦ omega (arith, first_decimal n more (omega arith), ap (λ t. get_or t 0 0) (is_decimal l n h e))
      | inr none ↦ omega (arith, ap (λ t. get_or t 0 0) (decimal_digit n (omega arith)), ap (λ t. get_or t 0 0) (is_decimal l n h e))
    ]

pub no_zero : (l : List ℕ) (n : ℕ) → n < 256 → get_or l 0 0 ≡ 48 → 1 < length l → lower_label l ≢ decimal n
no_zero l n h zero_first long e =
    elim (cases_lt 0 n) [
      | inl more ↦ omega (arith, first_decimal n more (omega arith), ap (λ t. get_or t 0 0) (is_decimal l n h e))
      | inr none ↦ omega (arith, ap length (decimal_digit n (omega arith)), ap length (is_decimal l n h e))
    ]

pub is_text : (l : List ℕ) (n : ℕ) → n < 256 → ¬ (IsUtf8 l) → lower_label l ≢ decimal n
is_text l n h other e =
    let P : List ℕ → Type 0 = λ t. IsUtf8 t in
    other (subst P (sym (is_decimal l n h e)) (IsUtf8-from_ascii (decimal n) (IsAscii-decimal n (omega arith))))

-- what `parse` reads of a label that has no sign and no leading zero
pub octet_found : {E : Type 0} (l : List ℕ) (r : Result ℕ E) → ParsesUnsigned 8 10 l r → 0 < length l → get_or l 0 0 ≢ 43 → (get_or l 0 0 ≡ 48 → length l ≤ 1) → IfSome (result_ok r) (λ n. lower_label l ≡ decimal n)
octet_found {E = E} l (Err e) h some no_sign alone = tt
octet_found {E = E} l (Ok n) h some no_sign alone =
    let own = numerals_by_value _ tells_digits in
    let got = parse_plain own {E = E} 8 l (Ok n) h no_sign in
    let back = decimal-digits_value own l got.0.0 some (λ first. omega (arith, alone first)) (omega (arith, got.0.2)) in
    same_digits l got.0.0 ∙ sym back ∙ ap decimal (sym got.1)

pub octet_none : {E : Type 0} (l : List ℕ) (r : Result ℕ E) → ParsesUnsigned 8 10 l r → IfNone (result_ok r) ((n : ℕ) → n < 256 → lower_label l ≢ decimal n)
octet_none l (Ok n) h = tt
octet_none l (Err f) h = λ n small e. absurd (let same = parse-decimal 8 n l (Err f) small (omega arith) (is_decimal l n small e) h in cc)

-- ---- a list of labels, the last first

drop-suc : {A : Type 0} (n : ℕ) (xs : List A) → drop (suc n) xs ≡ drop 1 (drop n xs)
drop-suc zero xs = refl
drop-suc (suc n) [] = refl
drop-suc (suc n) (x ∷ xs) = drop-suc n xs

-- one more label is read, in front of the others
pub written_more : (label : ℕ → List ℕ) (below : ℕ) (x : List ℕ) (ls : List (List ℕ)) (ns : List ℕ) (n : ℕ) → IsWritten label below ls ns → length ls < length ns → lower_label x ≡ label n → n < below → IsWritten label below (x ∷ ls) (set ns (length ls) n)
written_more label below x ls ns n h room e small = record {
  within = simp length-set (omega arith);
  written =
      ap₂ (λ y ys. y ∷ ys) e h.written
      ∙ sym (
      ap (λ t. reverse (map label t)) (take-suc-set ns (length ls) n room)
      ∙ ap reverse (map-append label (take (length ls) ns) (n ∷ []))
      ∙ reverse-append (map label (take (length ls) ns)) (label n ∷ [])
      );
  zeros =
      drop-set-lt (suc (length ls)) ns (length ls) n (omega arith)
      ∙ drop-suc (length ls) ns
      ∙ ap (drop 1) h.zeros
      ∙ drop-replicate 1 (length ns - length ls) 0
      ∙ ap (λ k. replicate k 0) counts;
  small = λ k. elim (cases_eq k (length ls)) [
    | inl here ↦ omega (arith, ap (λ i. get_or (set ns (length ls) n) i 0) here, get_or-set_same ns (length ls) n 0 room)
    | inr there ↦ omega (arith, get_or-set_other ns (length ls) k n 0 there, h.small k)
  ];
}
  where
    counts : length ns - length ls - 1 ≡ length (set ns (length ls) n) - suc (length ls)
    counts = simp length-set (omega arith)

-- a label that no number writes
pub never_at : (label : ℕ → List ℕ) (below most : ℕ) (ls : List (List ℕ)) (j : ℕ) → j < length ls → ((n : ℕ) → n < below → lower_label (get_or ls j []) ≢ label n) → IsNeverWritten label below most ls
never_at label below most ls j h other numbers few small e =
    let k = length numbers - 1 - j in
    let same : length ls ≡ length numbers = sym (length-map ls lower_label) ∙ ap length e ∙ length-reverse (map label numbers) ∙ length-map numbers label in
    let long : j < length (map label numbers) = rw length-map (omega arith) in
    let count : length (map label numbers) - 1 - j ≡ k = ap (λ m. m - 1 - j) (length-map numbers label) in
    other (get_or numbers k 0) (small k) (
    sym (get_or-map lower_label ls j [] [] h)
    ∙ ap (λ t. get_or t j []) e
    ∙ get_or-reverse (map label numbers) j [] long
    ∙ ap (λ i. get_or (map label numbers) i []) count
    ∙ get_or-map label numbers k 0 [] (omega arith)
    )

-- no label is read yet
pub written_none : (label : ℕ → List ℕ) (below : ℕ) (vs : List (Vec ℕ)) (count : ℕ) → 0 < below → IsWritten label below (label_bytes (drop (length vs - 0) vs)) (replicate count 0)
written_none label below vs count some = let P : List (Vec ℕ) → Type 0 = λ us. IsWritten label below (label_bytes us) (replicate count 0) in subst P (sym (drop_all (length vs - 0) vs (omega arith))) record {
  within = omega arith;
  written = refl;
  zeros = ap (λ (k : ℕ). replicate k zero) counted;
  small = all_zero count;
}
  where
    counted : count ≡ length (replicate count zero) - 0
    counted = simp length-replicate (omega arith)

    all_zero : (n k : ℕ) → get_or (replicate n 0) k 0 < below
    all_zero zero k = omega arith
    all_zero (suc n) zero = omega arith
    all_zero (suc n) (suc k) = all_zero n k

-- the same of vectors, where the last i labels are read
pub written_next : (label : ℕ → List ℕ) (below : ℕ) (vs : List (Vec ℕ)) (i : ℕ) (ns : List ℕ) (n : ℕ) (v : Vec ℕ) → IsWritten label below (label_bytes (drop (length vs - i) vs)) ns → i < length vs → i < length ns → v ≡ get_or vs (length vs - 1 - i) v → lower_label v.items ≡ label n → n < below → IsWritten label below (label_bytes (drop (length vs - (i + 1)) vs)) (set ns i n)
written_next label below vs i ns n v h in_vs in_ns is_at e small =
    let P : List (List ℕ) → Type 0 = λ ls. IsWritten label below ls (set ns i n) in
    let Q : ℕ → Type 0 = λ k. IsWritten label below (v.items ∷ rest) (set ns k n) in
    subst P (sym front) (subst Q counted (written_more label below v.items rest ns n h (omega (arith, counted)) e small))
  where
    rest : List (List ℕ)
    rest = label_bytes (drop (length vs - i) vs)

    counted : length rest ≡ i
    counted = length-map (drop (length vs - i) vs) (λ u. u.items) ∙ length-drop (length vs - i) vs ∙ omega arith

    place : length vs - (i + 1) ≡ length vs - 1 - i
    place = omega arith

    after : suc (length vs - (i + 1)) ≡ length vs - i
    after = omega arith

    front : label_bytes (drop (length vs - (i + 1)) vs) ≡ v.items ∷ rest
    front =
        ap label_bytes (drop-cons vs (length vs - (i + 1)) v (omega arith))
        ∙ ap₂ (λ (u : Vec ℕ) k. u.items ∷ label_bytes (drop k vs)) (ap (λ k. get_or vs k v) place ∙ sym is_at) after

pub never_next : (label : ℕ → List ℕ) (below most : ℕ) (vs : List (Vec ℕ)) (j : ℕ) (v : Vec ℕ) → j < length vs → v ≡ get_or vs j v → ((n : ℕ) → n < below → lower_label v.items ≢ label n) → IsNeverWritten label below most (label_bytes vs)
never_next label below most vs j v h is_at none =
    let same : get_or (label_bytes vs) j [] ≡ v.items = get_or-map (λ (u : Vec ℕ). u.items) vs j v [] h ∙ ap (λ (u : Vec ℕ). u.items) (sym is_at) in
    let long : j < length (label_bytes vs) = rw length-map h in
    never_at label below most (label_bytes vs) j long (λ n small e. none n small (ap lower_label (sym same) ∙ e))
