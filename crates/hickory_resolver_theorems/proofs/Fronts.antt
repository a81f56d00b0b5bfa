-- Lists that go on.
use Rattle.std.proofs.Common.{◌≡◌, ◌∙◌, List, [], ◌++◌, refl, sym, ap, subst, append_assoc}
use Rattle.std.proofs.lemmas.List.{append-nil}
use Rattle.std.specs.List.{Contains}
use Rattle.hickory_resolver_theorems.proofs.Lists.{contains-from_recursion, contains-to_recursion, has-left}

abbrev pub IsFront : {A : Type 0} → List A → List A → Type 0
IsFront {A} xs ys = (more : List A) × (ys ≡ xs ++ more)

pub front-self : {A : Type 0} (xs : List A) → IsFront xs xs
front-self xs = ([], sym (append-nil xs))

pub front-more : {A : Type 0} (xs ys : List A) → IsFront xs (xs ++ ys)
front-more xs ys = (ys, refl)

pub front-trans : {A : Type 0} (xs ys zs : List A) → IsFront xs ys → IsFront ys zs → IsFront xs zs
front-trans xs ys zs (m, e) (n, k) = (m ++ n, k ∙ ap (λ l. l ++ n) e ∙ append_assoc xs m n)

pub contains-front : {A : Type 0} (xs ys : List A) (x : A) → Contains xs x → IsFront xs ys → Contains ys x
contains-front xs ys x has (more, e) = subst (λ l. Contains l x) (sym e) (contains-from_recursion (xs ++ more) x (has-left xs more x (contains-to_recursion xs x has)))
