-- Lists, and what holds of each of their elements.
use Rattle.std.proofs.Common.{◌≡◌, ◌≤◌, ℕ, suc, zero, Bool, true, false, cond, min, fold, List, [], ◌∷◌, ◌++◌, map, filter, find, reverse, Some, take, drop, refl, sym, ap, ◌∙◌, subst, arith, remove, ◌⊎◌, inl, inr}
use Rattle.std.proofs.lemmas.List.{reverse-append}
use Rattle.std.specs.List.{AllByRecursion, Contains}

pub all-weaker : {A : Type 0} (P Q : A → Type 0) → ((x : A) → P x → Q x) → (xs : List A) → AllByRecursion P xs → AllByRecursion Q xs
all-weaker P Q f [] h = tt
all-weaker P Q f (x ∷ xs) (p, ps) = (f x p, all-weaker P Q f xs ps)

pub all-append : {A : Type 0} (P : A → Type 0) (xs ys : List A) → AllByRecursion P xs → AllByRecursion P ys → AllByRecursion P (xs ++ ys)
all-append P [] ys h k = k
all-append P (x ∷ xs) ys (p, ps) k = (p, all-append P xs ys ps k)

pub all-both : {A : Type 0} (P Q : A → Type 0) (xs : List A) → AllByRecursion P xs → AllByRecursion Q xs → AllByRecursion (λ x. P x × Q x) xs
all-both P Q [] h k = tt
all-both P Q (x ∷ xs) (p, ps) (q, qs) = ((p, q), all-both P Q xs ps qs)

pub all-front : {A : Type 0} (P : A → Type 0) (xs ys : List A) → AllByRecursion P (xs ++ ys) → AllByRecursion P xs
all-front P [] ys h = tt
all-front P (x ∷ xs) ys (p, ps) = (p, all-front P xs ys ps)

pub all-filter : {A : Type 0} (P : A → Type 0) (p : A → Bool) (xs : List A) → AllByRecursion P xs → AllByRecursion P (filter p xs)
all-filter P p [] h = tt
all-filter P p (x ∷ xs) (holds, rest) = by (p x) (all-filter P p xs rest)
  where
    by : (b : Bool) → AllByRecursion P (filter p xs) → AllByRecursion P (cond b (x ∷ filter p xs) (filter p xs))
    by true k = (holds, k)
    by false k = k

-- what passes a filter holds of what it kept
pub all-kept : {A : Type 0} (P : A → Type 0) (p : A → Bool) → ((x : A) → p x ≡ true → P x) → (xs : List A) → AllByRecursion P (filter p xs)
all-kept P p f [] = tt
all-kept P p f (x ∷ xs) = by (p x) refl (all-kept P p f xs)
  where
    by : (b : Bool) → p x ≡ b → AllByRecursion P (filter p xs) → AllByRecursion P (cond b (x ∷ filter p xs) (filter p xs))
    by true e k = (f x e, k)
    by false e k = k

pub all-map : {A B : Type 0} (P : B → Type 0) (f : A → B) (xs : List A) → AllByRecursion (λ x. P (f x)) xs → AllByRecursion P (map f xs)
all-map P f [] h = tt
all-map P f (x ∷ xs) (p, ps) = (p, all-map P f xs ps)

pub all-take : {A : Type 0} (P : A → Type 0) (n : ℕ) (xs : List A) → AllByRecursion P xs → AllByRecursion P (take n xs)
all-take P zero xs h = tt
all-take P (suc n) [] h = tt
all-take P (suc n) (x ∷ xs) (p, ps) = (p, all-take P n xs ps)

pub all-drop : {A : Type 0} (P : A → Type 0) (n : ℕ) (xs : List A) → AllByRecursion P xs → AllByRecursion P (drop n xs)
all-drop P zero xs h = h
all-drop P (suc n) [] h = tt
all-drop P (suc n) (x ∷ xs) (p, ps) = all-drop P n xs ps

pub all-remove : {A : Type 0} (P : A → Type 0) (xs : List A) (i : ℕ) → AllByRecursion P xs → AllByRecursion P (remove xs i)
all-remove P xs i h = all-append P (take i xs) (drop (suc i) xs) (all-take P i xs h) (all-drop P (suc i) xs h)

-- ---- elements

-- an element of a list, found from its front
abbrev pub ContainsByRecursion : {A : Type 0} → List A → A → Type 0
ContainsByRecursion [] x = ⊥
ContainsByRecursion (y ∷ ys) x = (x ≡ y) ⊎ ContainsByRecursion ys x

pub contains-from_recursion : {A : Type 0} (xs : List A) (x : A) → ContainsByRecursion xs x → Contains xs x
contains-from_recursion [] x h = absurd h
contains-from_recursion (y ∷ ys) x (inl e) = (zero, omega arith, sym e)
contains-from_recursion (y ∷ ys) x (inr h) = let rest = contains-from_recursion ys x h in (suc rest.0, omega (arith, rest.1), rest.2)

pub contains-to_recursion : {A : Type 0} (xs : List A) (x : A) → Contains xs x → ContainsByRecursion xs x
contains-to_recursion [] x (k, short, e) = absurd (omega (arith, short))
contains-to_recursion (y ∷ ys) x (zero, short, e) = inl (sym e)
contains-to_recursion (y ∷ ys) x (suc k, short, e) = inr (contains-to_recursion ys x (k, omega (arith, short), e))

pub all-has : {A : Type 0} (P : A → Type 0) (xs : List A) (x : A) → AllByRecursion P xs → ContainsByRecursion xs x → P x
all-has P [] x h k = absurd k
all-has P (y ∷ ys) x (p, ps) (inl e) = subst P (sym e) p
all-has P (y ∷ ys) x (p, ps) (inr k) = all-has P ys x ps k

-- what holds of each element holds of all
pub has-all : {A : Type 0} (P : A → Type 0) (xs : List A) → ((x : A) → ContainsByRecursion xs x → P x) → AllByRecursion P xs
has-all P [] f = tt
has-all P (x ∷ xs) f = (f x (inl refl), has-all P xs (λ y h. f y (inr h)))

pub has-left : {A : Type 0} (xs ys : List A) (x : A) → ContainsByRecursion xs x → ContainsByRecursion (xs ++ ys) x
has-left [] ys x h = absurd h
has-left (y ∷ xs) ys x (inl e) = inl e
has-left (y ∷ xs) ys x (inr h) = inr (has-left xs ys x h)

pub has-right : {A : Type 0} (xs ys : List A) (x : A) → ContainsByRecursion ys x → ContainsByRecursion (xs ++ ys) x
has-right [] ys x h = h
has-right (y ∷ xs) ys x h = inr (has-right xs ys x h)

pub has-filter : {A : Type 0} (p : A → Bool) (xs : List A) (x : A) → ContainsByRecursion xs x → p x ≡ true → ContainsByRecursion (filter p xs) x
has-filter p [] x h e = absurd h
has-filter p (y ∷ ys) x h e = by h (λ m. has-filter p ys x m e) (p y) refl
  where
    by : (x ≡ y) ⊎ ContainsByRecursion ys x → (ContainsByRecursion ys x → ContainsByRecursion (filter p ys) x) → (b : Bool) → p y ≡ b → ContainsByRecursion (cond b (y ∷ filter p ys) (filter p ys)) x
    by (inl s) rest true k = inl s
    by (inl s) rest false k = let clash : true ≡ false = sym e ∙ ap p s ∙ k in cc
    by (inr m) rest true k = inr (rest m)
    by (inr m) rest false k = rest m

pub has-map : {A B : Type 0} (f : A → B) (xs : List A) (x : A) → ContainsByRecursion xs x → ContainsByRecursion (map f xs) (f x)
has-map f [] x h = absurd h
has-map f (y ∷ ys) x (inl e) = inl (ap f e)
has-map f (y ∷ ys) x (inr h) = inr (has-map f ys x h)

-- what a search finds is there, and passes
pub find-has : {A : Type 0} (p : A → Bool) (xs : List A) (x : A) → find p xs ≡ Some x → ContainsByRecursion xs x × (p x ≡ true)
find-has p [] x h = cc
find-has p (y ∷ ys) x h = by (find-has p ys x) (p y) refl h
  where
    by : (find p ys ≡ Some x → ContainsByRecursion ys x × (p x ≡ true)) → (b : Bool) → p y ≡ b → cond b (Some y) (find p ys) ≡ Some x → ((x ≡ y) ⊎ ContainsByRecursion ys x) × (p x ≡ true)
    by rest true e k = let same : y ≡ x = cc in (inl (sym same), ap p (sym same) ∙ e)
    by rest false e k = let found = rest k in (inr found.0, found.1)

-- ---- the least of some numbers

pub fold-min : (ns : List ℕ) (n : ℕ) → fold min n ns ≤ n
fold-min [] n = omega arith
fold-min (m ∷ ms) n = omega (arith, fold-min ms (min n m))

pub fold-min-has : (ns : List ℕ) (n m : ℕ) → ContainsByRecursion ns m → fold min n ns ≤ m
fold-min-has [] n m h = absurd h
fold-min-has (k ∷ ks) n m (inl e) = omega (arith, e, fold-min ks (min n k))
fold-min-has (k ∷ ks) n m (inr h) = fold-min-has ks (min n k) m h

pub all-reverse : {A : Type 0} (P : A → Type 0) (xs : List A) → AllByRecursion P xs → AllByRecursion P (reverse xs)
all-reverse P [] h = tt
all-reverse P (x ∷ xs) (p, ps) = subst (AllByRecursion P) (sym (reverse-append (x ∷ []) xs)) (all-append P (reverse xs) (x ∷ []) (all-reverse P xs ps) (p, tt))

pub has-filtered : {A : Type 0} (p : A → Bool) (xs : List A) (x : A) → ContainsByRecursion (filter p xs) x → ContainsByRecursion xs x
has-filtered p xs x h = all-has (ContainsByRecursion xs) (filter p xs) x (all-filter (ContainsByRecursion xs) p xs (has-all (ContainsByRecursion xs) xs (λ y k. k))) h

pub all-back : {A : Type 0} (P : A → Type 0) (xs ys : List A) → AllByRecursion P (xs ++ ys) → AllByRecursion P ys
all-back P [] ys h = h
all-back P (x ∷ xs) ys (p, ps) = all-back P xs ys ps
