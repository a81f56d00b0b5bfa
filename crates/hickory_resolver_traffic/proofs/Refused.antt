-- What follows where a call was refused or not, and what of two calls the second undoes.
use Rattle.std.proofs.Common.{◌≡◌, ℕ, true, refl, ap, sym, subst}
use Rattle.std.specs.Prelude.{Option, None, Some, Result, Ok, Err, OnOk, OnErr}
use Rattle.std.specs.declared.cmp.Ordering.TheVariants.{Equal}
use Rattle.std.specs.Ordering.{is_eq, nat_cmp}
use Rattle.std.specs.Cmp.{nat_cmp_is}
use Rattle.std.specs.Option.{option_map, option_map_or}
use Rattle.std.specs.BTreeMap.{is_at}

pub if_refused : {A E P Q : Type 0} → (result : Result A E) → (P → Q) → OnErr result P → OnErr result Q
if_refused (Ok value) f h = h
if_refused (Err error) f h = f h

pub if_accepted : {A E P Q : Type 0} → (result : Result A E) → (P → Q) → OnOk result P → OnOk result Q
if_accepted (Ok value) f h = f h
if_accepted (Err error) f h = h

pub same-number : (n : ℕ) → is_at (nat_cmp n) n ≡ true
same-number n = ap is_eq (sym (nat_cmp_is n n Equal refl))

-- what was found is what its first part was taken of
pub where_found : {A B C : Type 0} → (found : Option (A × B)) → (a : A) → (new : C) → (change : A × B → C) → (other : C)
    → Some a ≡ option_map (λ f. f.0) found
    → ((first : A × B) → found ≡ Some first → a ≡ first.0 → new ≡ change first)
    → new ≡ option_map_or change found other
where_found None a new change other is from = absurd cc
where_found (Some first) a new change other is from = from first refl cc

-- a fact of two values, of others that are equal
pub along : {A B : Type 0} {a c : A} {b d : B} → (P : A → B → Type 0) → a ≡ c → b ≡ d → P a b → P c d
along {A} {B} {a} {c} {b} {d} P first second fact =
    subst (λ (x : A). P x d) first (subst (λ (y : B). P a y) second fact)
