-- The first fault of a list, as loops find it.
use Rattle.std.proofs.Common.{◌≡◌, ℕ, zero, suc, ◌+◌, ◌≤◌, ◌<◌, List, [], ◌∷◌, ◌++◌, length, take, get_or, refl, sym, ap, ◌∙◌, arith}
use Rattle.std.specs.Prelude.{Option, None, Some}
use Rattle.std.specs.Option.{option_or}
use Rattle.std.proofs.lemmas.List.{take_more, take_all}
use Rattle.hickory_proto_wire.specs.Refused.{first_fault}

pub or_first : {E : Type 0} (a b : Option E) → option_or a b ≡ None → a ≡ None
or_first None b e = refl
or_first (Some x) b e = absurd cc

pub or_second : {E : Type 0} (a b : Option E) → option_or a b ≡ None → b ≡ None
or_second None b e = e
or_second (Some x) b e = absurd cc

pub or_none : {E : Type 0} (a b : Option E) → a ≡ None → b ≡ None → option_or a b ≡ None
or_none None b e f = f
or_none (Some x) b e f = absurd cc

-- a fault behind none is the first
pub or_next : {E : Type 0} (a b c : Option E) → a ≡ None → b ≡ c → option_or a b ≡ c
or_next None b c e f = f
or_next (Some x) b c e f = absurd cc

pub fault_first : {E : Type 0} (a b : Option E) (x : E) → a ≡ Some x → option_or a b ≡ Some x
fault_first None b x e = absurd cc
fault_first (Some y) b x e = e

module _ {A E : Type 0} (f : A → Option E) where
  pub front_none : (xs ys : List A) → first_fault f (xs ++ ys) ≡ None → first_fault f xs ≡ None
  front_none [] ys e = refl
  front_none (x ∷ xs) ys e =
      or_none (f x) (first_fault f xs) (or_first (f x) (first_fault f (xs ++ ys)) e)
      (front_none xs ys (or_second (f x) (first_fault f (xs ++ ys)) e))

  pub behind_none : (xs ys : List A) → first_fault f (xs ++ ys) ≡ None → first_fault f ys ≡ None
  behind_none [] ys e = e
  behind_none (x ∷ xs) ys e = behind_none xs ys (or_second (f x) (first_fault f (xs ++ ys)) e)

  pub both_none : (xs ys : List A) → first_fault f xs ≡ None → first_fault f ys ≡ None → first_fault f (xs ++ ys) ≡ None
  both_none [] ys e g = g
  both_none (x ∷ xs) ys e g =
      or_none (f x) (first_fault f (xs ++ ys)) (or_first (f x) (first_fault f xs) e)
      (both_none xs ys (or_second (f x) (first_fault f xs) e) g)

  pub taken_none : (n : ℕ) (xs : List A) → first_fault f xs ≡ None → first_fault f (take n xs) ≡ None
  taken_none zero xs e = refl
  taken_none (suc n) [] e = refl
  taken_none (suc n) (x ∷ xs) e =
      or_none (f x) (first_fault f (take n xs)) (or_first (f x) (first_fault f xs) e)
      (taken_none n xs (or_second (f x) (first_fault f xs) e))

  -- one of them
  pub one_none : (xs : List A) (i : ℕ) (x : A) → first_fault f xs ≡ None → i < length xs → x ≡ get_or xs i x → f x ≡ None
  one_none [] i x e lt is = absurd (omega (arith, lt))
  one_none (y ∷ ys) zero x e lt is = ap f is ∙ or_first (f y) (first_fault f ys) e
  one_none (y ∷ ys) (suc i) x e lt is = one_none ys i x (or_second (f y) (first_fault f ys) e) (omega (arith, lt)) is

  -- one more has none
  pub more_none : (xs : List A) (i : ℕ) (x : A) → i < length xs → x ≡ get_or xs i x → first_fault f (take i xs) ≡ None
      → f x ≡ None → first_fault f (take (i + 1) xs) ≡ None
  more_none xs i x lt is e g =
      let one : first_fault f (get_or xs i x ∷ []) ≡ None = or_none (f (get_or xs i x)) None (ap f (sym is) ∙ g) refl in
      ap (first_fault f) (take_more xs i x lt) ∙ both_none (take i xs) (get_or xs i x ∷ []) e one

  -- one has a fault, and none before it
  pub fault_found : (xs : List A) (i : ℕ) (x : A) (fault : E) → i < length xs → x ≡ get_or xs i x
      → first_fault f (take i xs) ≡ None → f x ≡ Some fault → first_fault f xs ≡ Some fault
  fault_found [] i x fault lt is e g = absurd (omega (arith, lt))
  fault_found (y ∷ ys) zero x fault lt is e g = fault_first (f y) (first_fault f ys) fault (ap f (sym is) ∙ g)
  fault_found (y ∷ ys) (suc i) x fault lt is e g =
      or_next (f y) (first_fault f ys) (Some fault) (or_first (f y) (first_fault f (take i ys)) e)
      (fault_found ys i x fault (omega (arith, lt)) is (or_second (f y) (first_fault f (take i ys)) e) g)

  -- all of them
  pub all_none : (xs : List A) (i : ℕ) → length xs ≤ i → first_fault f (take i xs) ≡ None → first_fault f xs ≡ None
  all_none xs i le e = ap (first_fault f) (sym (take_all i xs le)) ∙ e
