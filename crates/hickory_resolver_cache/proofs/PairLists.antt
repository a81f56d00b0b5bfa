-- Lists with one element taken out, and look-ups in lists of pairs.
use Rattle.std.proofs.Common.{◌≡◌, ℕ, ◌+◌, suc, zero, Bool, true, false, not, cond, ◌||◌, List, [], ◌∷◌, ◌++◌, map, filter, Option, None, Some, refl, ap, ap₂, ◌∙◌, one-add, remove, find}
use Rattle.std.proofs.lemmas.Bool.{or_parts, or_from}
use Rattle.std.proofs.lemmas.Map.{NonePasses}
use Rattle.std.specs.Cmp.{IsEquivalence}
use Rattle.std.specs.List.{list_any, position_or_len, AllByRecursion}
use Rattle.std.specs.Map.{lookup, keys_of}
use Rattle.std.specs.Option.{option_or}

pub all-append : {X : Type 0} (P : X → Type 0) (xs ys : List X) → AllByRecursion P xs → AllByRecursion P ys → AllByRecursion P (xs ++ ys)
all-append P [] ys h k = k
all-append P (x ∷ xs) ys h k = (h.0, all-append P xs ys h.1 k)

pub all-right : {X : Type 0} (P : X → Type 0) (xs ys : List X) → AllByRecursion P (xs ++ ys) → AllByRecursion P ys
all-right P [] ys h = h
all-right P (x ∷ xs) ys h = all-right P xs ys h.1

pub all-map : {X Y : Type 0} (P : Y → Type 0) (f : X → Y) (xs : List X) → AllByRecursion (λ x. P (f x)) xs → AllByRecursion P (map f xs)
all-map P f [] h = h
all-map P f (x ∷ xs) h = (h.0, all-map P f xs h.1)

pub all-unmap : {X Y : Type 0} (P : Y → Type 0) (f : X → Y) (xs : List X) → AllByRecursion P (map f xs) → AllByRecursion (λ x. P (f x)) xs
all-unmap P f [] h = h
all-unmap P f (x ∷ xs) h = (h.0, all-unmap P f xs h.1)

pub all-map_at : {X Y : Type 0} (P : Y → Type 0) (f : X → Y) (xs : List X) (x : X) (ys : List X) → AllByRecursion P (map f (xs ++ x ∷ ys)) → P (f x)
all-map_at P f [] x ys h = h.0
all-map_at P f (z ∷ xs) x ys h = all-map_at P f xs x ys h.1

pub all-weaker : {X : Type 0} (P Q : X → Type 0) → ((x : X) → P x → Q x) → (xs : List X) → AllByRecursion P xs → AllByRecursion Q xs
all-weaker P Q w [] h = h
all-weaker P Q w (x ∷ xs) h = (w x h.0, all-weaker P Q w xs h.1)

-- a search that passes an element by, and one that stops
place-here : {X : Type 0} (p : X → Bool) (x : X) (xs : List X) → p x ≡ true → position_or_len p (x ∷ xs) ≡ 0
place-here p x xs h = ap (λ b. cond (not b) (1 + position_or_len p xs) 0) h

place-later : {X : Type 0} (p : X → Bool) (x : X) (xs : List X) → p x ≡ false → position_or_len p (x ∷ xs) ≡ suc (position_or_len p xs)
place-later p x xs h = ap (λ b. cond (not b) (1 + position_or_len p xs) 0) h ∙ one-add _

-- the first element that passes is taken out
pub remove-first : {X : Type 0} (p : X → Bool) (xs : List X) (x : X) (ys : List X) → AllByRecursion (λ z. p z ≡ false) xs → p x ≡ true → remove (xs ++ x ∷ ys) (position_or_len p (xs ++ x ∷ ys)) ≡ xs ++ ys
remove-first p [] x ys none h = ap (remove (x ∷ ys)) (place-here p x ys h)
remove-first p (z ∷ xs) x ys none h = ap (remove (z ∷ (xs ++ x ∷ ys))) (place-later p z (xs ++ x ∷ ys) none.0) ∙ ap (λ l. z ∷ l) (remove-first p xs x ys none.1 h)

pub list_any-filter_not : {X : Type 0} (p : X → Bool) (xs : List X) → list_any p (filter (λ x. not (p x)) xs) ≡ false
list_any-filter_not p [] = refl
list_any-filter_not {X = X} p (x ∷ xs) = by (p x) refl (list_any-filter_not p xs)
  where
    rest : List X
    rest = filter (λ y. not (p y)) xs

    by : (b : Bool) → p x ≡ b → list_any p rest ≡ false → list_any p (cond (not (p x)) (x ∷ rest) rest) ≡ false
    by true h tail = ap (λ b. list_any p (cond (not b) (x ∷ rest) rest)) h ∙ tail
    by false h tail = ap (λ b. list_any p (cond (not b) (x ∷ rest) rest)) h ∙ ap (λ b. b || list_any p rest) h ∙ tail

pub list_any-remove : {X : Type 0} (p : X → Bool) (xs : List X) (i : ℕ) → list_any p xs ≡ false → list_any p (remove xs i) ≡ false
list_any-remove p [] zero h = refl
list_any-remove p [] (suc i) h = refl
list_any-remove p (x ∷ xs) zero h = (or_parts (p x) (list_any p xs) h).1
list_any-remove p (x ∷ xs) (suc i) h =
    let parts = or_parts (p x) (list_any p xs) h in
    ap (λ b. b || list_any p (remove xs i)) parts.0 ∙ list_any-remove p xs i parts.1

-- nothing is taken out where nothing passes
pub filter-none : {X : Type 0} (p : X → Bool) (xs : List X) → list_any p xs ≡ false → filter (λ x. not (p x)) xs ≡ xs
filter-none p [] h = refl
filter-none p (x ∷ xs) h =
    let parts = or_parts (p x) (list_any p xs) h in
    ap (λ b. cond (not b) (x ∷ filter (λ y. not (p y)) xs) (filter (λ y. not (p y)) xs)) parts.0 ∙ ap (λ l. x ∷ l) (filter-none p xs parts.1)

pub list_any-keys : {K X : Type 0} (t : K → Bool) (es : List (K × X)) → NonePasses t es → list_any t (keys_of es) ≡ false
list_any-keys t [] h = refl
list_any-keys t (e ∷ es) h = or_from (t e.0) (list_any t (keys_of es)) h.0 (list_any-keys t es h.1)

pub lookup-append : {K X : Type 0} (t : K → Bool) (xs ys : List (K × X)) → lookup t (xs ++ ys) ≡ option_or (lookup t xs) (lookup t ys)
lookup-append t [] ys = refl
lookup-append {X = X} t (x ∷ xs) ys = by (t x.0) (lookup-append t xs ys)
  where
    by : (b : Bool) → lookup t (xs ++ ys) ≡ option_or (lookup t xs) (lookup t ys) → cond b (Some x.1) (lookup t (xs ++ ys)) ≡ option_or (cond b (Some x.1) (lookup t xs)) (lookup t ys)
    by true h = refl
    by false h = h

pub or-none : {X : Type 0} (o : Option X) → option_or o None ≡ o
or-none None = refl
or-none (Some x) = refl

pub find-none : {X : Type 0} (p : X → Bool) (xs : List X) → list_any p xs ≡ false → find p xs ≡ None
find-none p [] h = refl
find-none p (x ∷ xs) h =
    let parts = or_parts (p x) (list_any p xs) h in
    ap (λ b. cond b (Some x) (find p xs)) parts.0 ∙ find-none p xs parts.1

-- no later key is equal to one that the first is equal to
pub none_alike : {E Q : Type 0} (eq : Q → Q → Bool) (laws : IsEquivalence eq) (f : E → Q) (q : Q) (e : E) (es : List E) → eq q (f e) ≡ true → AllByRecursion (λ y. eq (f e) y ≡ false) (map f es) → list_any (λ x. eq q (f x)) es ≡ false
none_alike eq laws f q e [] h all = refl
none_alike eq laws f q e (x ∷ xs) h all = ap₂ ◌||◌ (laws.congr q (f e) (f x) h ∙ all.0) (none_alike eq laws f q e xs h all.1)

-- what holds of each element holds of each that stays
pub all-filter : {X : Type 0} (P : X → Type 0) (p : X → Bool) (xs : List X) → AllByRecursion P xs → AllByRecursion P (filter p xs)
all-filter P p [] h = h
all-filter P p (x ∷ xs) h = by (p x) (all-filter P p xs h.1)
  where
    by : (b : Bool) → AllByRecursion P (filter p xs) → AllByRecursion P (cond b (x ∷ filter p xs) (filter p xs))
    by true k = (h.0, k)
    by false k = k

pub all-remove : {X : Type 0} (P : X → Type 0) (xs : List X) (i : ℕ) → AllByRecursion P xs → AllByRecursion P (remove xs i)
all-remove P [] zero h = h
all-remove P [] (suc i) h = h
all-remove P (x ∷ xs) zero h = h.1
all-remove P (x ∷ xs) (suc i) h = (h.0, all-remove P xs i h.1)
