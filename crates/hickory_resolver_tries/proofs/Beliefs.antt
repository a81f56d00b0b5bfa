-- What octets are, by whether the question is the one that was asked, and the letters those that were sent.
use Rattle.std.proofs.Common.{◌≡◌, ℕ, ◌+◌, ◌<◌, ◌≤◌, Bool, true, false, cond, not, ◌&&◌, nat_eq, eqb, List, length, get_or, take, drop, refl, ap, ap₂, sym, ◌∙◌, arith, add-one, drop-cons}
use Rattle.std.specs.Prelude.{Option, None, Some}
use Rattle.std.specs.Cmp.Lexicographic.{pointwise}
use Rattle.std.specs.Prelude.{nat_le}
use Rattle.std.proofs.lemmas.Bool.{le-leb}
use Rattle.std.proofs.lemmas.List.{drop_all, drop-drop}
use Rattle.hickory_proto_core.specs.Name.{lower_label}
use Rattle.hickory_resolver_tries.specs.Belief.{has_question, name_part, codes_part}
use Rattle.hickory_resolver_tries.specs.Letters.{varied_octet, varied_octets, next_place}
use Rattle.hickory_resolver_tries.specs.declared.belief.Belief.{Belief}
use Rattle.hickory_resolver_tries.specs.declared.belief.Belief.TheVariants.{Believed, OtherLetters, OptRefused, NotBelieved}

and_none : (a b : Bool) → (a && false && b) ≡ false
and_none true b = refl
and_none false b = refl

and_last : (a : Bool) → (a && false) ≡ false
and_last true = refl
and_last false = refl

abbrev chosen : Bool → Bool → Bool → Belief
chosen asked letters refused =
    cond (asked && letters) Believed (cond (asked && not letters) OtherLetters (cond refused OptRefused NotBelieved))

abbrev told : Bool → Bool → Option Bool
told asked letters = cond asked (Some letters) None

pub letters_sent : (asked letters refused : Bool) → Some true ≡ told asked letters → Believed ≡ chosen asked letters refused
letters_sent true true refused e = refl
letters_sent true false refused e = absurd cc
letters_sent false letters refused e = absurd cc

pub letters_other : (asked letters refused : Bool) → Some false ≡ told asked letters
    → OtherLetters ≡ chosen asked letters refused
letters_other true true refused e = absurd cc
letters_other true false refused e = refl
letters_other false letters refused e = absurd cc

pub not_asked : (asked letters refused : Bool) → None ≡ told asked letters
    → cond refused OptRefused NotBelieved ≡ chosen asked letters refused
not_asked true letters refused e = absurd cc
not_asked false letters refused e = refl

-- ---- the question

pub question_there : (name codes bytes own part : List ℕ) → 12 + length name + 4 ≤ length bytes
    → own ≡ take (length name) (drop 12 bytes) → part ≡ take 4 (drop (length name) (drop 12 bytes))
    → true ≡ pointwise nat_eq (lower_label own) (lower_label name) → true ≡ pointwise nat_eq part codes
    → has_question name codes bytes ≡ true
question_there name codes bytes own part room eo ep same_name same_codes =
    let e1 = le-leb (12 + length name + 4) (length bytes) room in
    let e2 = ap (λ (o : List ℕ). pointwise nat_eq (lower_label o) (lower_label name)) (sym eo) ∙ sym same_name in
    let e3 = ap (λ (o : List ℕ). pointwise nat_eq (take 4 o) codes) (sym (drop-drop (length name) 12 bytes))
    ∙ ap (λ (o : List ℕ). pointwise nat_eq o codes) (sym ep) ∙ sym same_codes in
    λ i. e1 i && e2 i && e3 i

pub other_name : (name codes bytes own : List ℕ) → own ≡ take (length name) (drop 12 bytes)
    → false ≡ pointwise nat_eq (lower_label own) (lower_label name) → has_question name codes bytes ≡ false
other_name name codes bytes own eo other =
    let e2 = ap (λ (o : List ℕ). pointwise nat_eq (lower_label o) (lower_label name)) (sym eo) ∙ sym other in
    ap (λ b. nat_le (12 + length name + 4) (length bytes) && b && pointwise nat_eq (codes_part name bytes) codes) e2
    ∙ and_none (nat_le (12 + length name + 4) (length bytes)) _

pub other_codes : (name codes bytes part : List ℕ) → part ≡ take 4 (drop (length name) (drop 12 bytes))
    → false ≡ pointwise nat_eq part codes → has_question name codes bytes ≡ false
other_codes name codes bytes part ep other =
    let e3 = ap (λ (o : List ℕ). pointwise nat_eq (take 4 o) codes) (sym (drop-drop (length name) 12 bytes))
    ∙ ap (λ (o : List ℕ). pointwise nat_eq o codes) (sym ep) ∙ sym other in
    ap (λ b. nat_le (12 + length name + 4) (length bytes) && pointwise nat_eq (lower_label (name_part name bytes)) (lower_label name) && b) e3
    ∙ and_last _

-- ---- octets of a name, one by one

step : (own name bits : List ℕ) (i place : ℕ) → i < length name → length own ≡ length name
    → pointwise nat_eq (drop i own) (varied_octets bits place (drop i name))
    ≡ (eqb (get_or own i 0) (varied_octet bits place (get_or name i 0))
    && pointwise nat_eq (drop (i + 1) own) (varied_octets bits (next_place place (get_or name i 0)) (drop (i + 1) name)))
step own name bits i place h e =
    let k : i < length own = omega arith in rw (add-one, drop-cons own i 0 k, drop-cons name i 0 h) refl

pub octets_differ : (own name bits : List ℕ) (i place : ℕ)
    → pointwise nat_eq (drop i own) (varied_octets bits place (drop i name)) ≡ pointwise nat_eq own (varied_octets bits 0 name)
    → i < length name → length own ≡ length name → eqb (get_or own i 0) (varied_octet bits place (get_or name i 0)) ≡ false
    → false ≡ pointwise nat_eq own (varied_octets bits 0 name)
octets_differ own name bits i place so_far h e other =
    sym (ap (λ b. b && pointwise nat_eq (drop (i + 1) own) (varied_octets bits (next_place place (get_or name i 0)) (drop (i + 1) name))) other)
    ∙ sym (step own name bits i place h e) ∙ so_far

pub octets_alike : (own name bits : List ℕ) (i place : ℕ)
    → pointwise nat_eq (drop i own) (varied_octets bits place (drop i name)) ≡ pointwise nat_eq own (varied_octets bits 0 name)
    → i < length name → length own ≡ length name → eqb (get_or own i 0) (varied_octet bits place (get_or name i 0)) ≡ true
    → pointwise nat_eq (drop (i + 1) own) (varied_octets bits (next_place place (get_or name i 0)) (drop (i + 1) name))
    ≡ pointwise nat_eq own (varied_octets bits 0 name)
octets_alike own name bits i place so_far h e same =
    sym (ap (λ b. b && pointwise nat_eq (drop (i + 1) own) (varied_octets bits (next_place place (get_or name i 0)) (drop (i + 1) name))) same)
    ∙ sym (step own name bits i place h e) ∙ so_far

pub octets_all : (own name bits : List ℕ) (i place : ℕ)
    → pointwise nat_eq (drop i own) (varied_octets bits place (drop i name)) ≡ pointwise nat_eq own (varied_octets bits 0 name)
    → length name ≤ i → length own ≡ length name → true ≡ pointwise nat_eq own (varied_octets bits 0 name)
octets_all own name bits i place so_far h e =
    let k : length own ≤ i = omega arith in
    sym (ap₂ (λ a b. pointwise nat_eq a (varied_octets bits place b)) (drop_all i own k) (drop_all i name h)) ∙ so_far
