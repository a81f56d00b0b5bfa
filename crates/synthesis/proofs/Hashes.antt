-- One step of what hashes of names are made of.
use Rattle.std.proofs.Common.{◌≡◌, ◌<◌, ◌≤◌, ◌-◌, ◌+◌, ◌/◌, ◌%◌, ℕ, zero, suc, false, ◌||◌, cond, nat_lt, get_or, length, drop, List, [], ◌∷◌, ◌++◌, None, Some, refl, inl, inr, ap, sym, ◌∙◌, arith}
use Rattle.std.specs.List.{list_any}
use Rattle.std.proofs.lemmas.Bool.{cases_Bool, cond-true, cond-false}
use Rattle.std.proofs.lemmas.Bool.Decides.{nat_tests}
use Rattle.std.specs.Global.{Vec}
use Rattle.hickory_proto_core.specs.Name.{is_empty_label, is_long_label, label_bytes, label_fault, wire_len}
use Rattle.hickory_proto_core.specs.names.name_error.NameError.TheVariants.{EmptyLabel, LabelTooLong, NameTooLong}
use Rattle.synthesis.specs.Base32Hex.{base32hex, digit, digits, group}
use Rattle.synthesis.specs.Nsec3.{iterated}
use Rattle.sha1.specs.Sha1.{sha1}

-- ---- digits

zero_digits : (n : ℕ) → digits 0 n ≡ []
unfolding digits
zero_digits n = refl

pub no_digits : (count n : ℕ) → count ≡ 0 → digits count n ≡ []
no_digits count n none = ap (λ c. digits c n) none ∙ zero_digits n

pub more_digits : (count n : ℕ) → 0 < count → digits count n ≡ digits (count - 1) (n / 32) ++ digit (n % 32) ∷ []
unfolding digits
more_digits zero n some = absurd (omega arith)
more_digits (suc count) n some =
    let fewer : count ≡ suc count - 1 = omega arith in
    ap (λ c. digits c (n / 32) ++ digit (n % 32) ∷ []) fewer

-- ---- groups of five

pub few_octets : (bytes : List ℕ) → length bytes < 5 → base32hex bytes ≡ []
unfolding base32hex
few_octets [] few = refl
few_octets (a ∷ []) few = refl
few_octets (a ∷ b ∷ []) few = refl
few_octets (a ∷ b ∷ c ∷ []) few = refl
few_octets (a ∷ b ∷ c ∷ d ∷ []) few = refl
few_octets (a ∷ b ∷ c ∷ d ∷ e ∷ rest) few = absurd (omega arith)

pub first_octets : (bytes : List ℕ) → 5 ≤ length bytes
    → base32hex bytes
    ≡ digits 8 (group (get_or bytes 0 0) (get_or bytes 1 0) (get_or bytes 2 0) (get_or bytes 3 0) (get_or bytes 4 0))
    ++ base32hex (drop 5 bytes)
unfolding base32hex
first_octets [] some = absurd (omega arith)
first_octets (a ∷ []) some = absurd (omega arith)
first_octets (a ∷ b ∷ []) some = absurd (omega arith)
first_octets (a ∷ b ∷ c ∷ []) some = absurd (omega arith)
first_octets (a ∷ b ∷ c ∷ d ∷ []) some = absurd (omega arith)
first_octets (a ∷ b ∷ c ∷ d ∷ e ∷ rest) some = refl

-- ---- digests

pub first_digest : (salt octets : List ℕ) → iterated salt 0 octets ≡ sha1 (octets ++ salt)
unfolding iterated
first_digest salt octets = refl

suc_digest : (salt octets : List ℕ) (more : ℕ) → iterated salt (suc more) octets ≡ sha1 (iterated salt more octets ++ salt)
unfolding iterated
suc_digest salt octets more = refl

pub next_digest : (salt octets : List ℕ) (more : ℕ) → iterated salt (more + 1) octets ≡ sha1 (iterated salt more octets ++ salt)
next_digest salt octets more =
    let after : more + 1 ≡ suc more = omega arith in ap (λ n. iterated salt n octets) after ∙ suc_digest salt octets more

-- ---- labels of a name are short

none_long : (labels : List (List ℕ)) → label_fault labels ≡ None → list_any is_long_label labels ≡ false
none_long labels h = elim (cases_Bool (list_any is_long_label labels)) [
  | inl long ↦ elim (cases_Bool (list_any is_empty_label labels)) [
    | inl empty ↦ absurd (let e = cond-true (list_any is_empty_label labels) (Some EmptyLabel)
        (cond (list_any is_long_label labels) (Some LabelTooLong) (cond (nat_lt 255 (wire_len labels)) (Some NameTooLong) None)) empty in cc)
    | inr full ↦ absurd (let e = cond-false (list_any is_empty_label labels) (Some EmptyLabel)
        (cond (list_any is_long_label labels) (Some LabelTooLong) (cond (nat_lt 255 (wire_len labels)) (Some NameTooLong) None)) full in
        let f = cond-true (list_any is_long_label labels) (Some LabelTooLong) (cond (nat_lt 255 (wire_len labels)) (Some NameTooLong) None) long in cc)
  ]
  | inr short ↦ short
]

short_item : (vs : List (Vec ℕ)) (i : ℕ) (v : Vec ℕ) → list_any is_long_label (label_bytes vs) ≡ false → i < length vs
    → v ≡ get_or vs i v → length v.items < 256
short_item [] i v short below is = absurd (omega arith)
short_item (w ∷ vs) zero v short below is = elim (cases_Bool (nat_lt 63 (length w.items))) [
  | inl long ↦ absurd (let e = ap (λ b. b || list_any is_long_label (label_bytes vs)) long in cc)
  | inr fits ↦ (let e = ap (λ x. length x.items) is in grind (arith, nat_tests))
]
short_item (w ∷ vs) (suc i) v short below is = elim (cases_Bool (nat_lt 63 (length w.items))) [
  | inl long ↦ absurd (let e = ap (λ b. b || list_any is_long_label (label_bytes vs)) long in cc)
  | inr fits ↦ short_item vs i v (ap (λ b. b || list_any is_long_label (label_bytes vs)) (sym fits) ∙ short) (omega arith) is
]

pub short_label : (vs : List (Vec ℕ)) (i : ℕ) (v : Vec ℕ) → label_fault (label_bytes vs) ≡ None → i < length vs
    → v ≡ get_or vs i v → length v.items < 256
short_label vs i v valid below is = short_item vs i v (none_long (label_bytes vs) valid) below is
