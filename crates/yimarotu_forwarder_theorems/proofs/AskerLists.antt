-- Askers in a list, each with the key of the look-up for which it asks.
use Rattle.std.proofs.Common.{◌≡◌, ◌∙◌, ◌<◌, ℕ, zero, suc, Bool, true, false, cond, if◌then◌else◌, List, [], ◌∷◌, ◌++◌, ◌⊎◌, inl, inr, eqb-true, get_or, length, refl, sym, ap, subst, arith}
use Rattle.std.specs.Prelude.{Option, None, Some, nat_eq, position, slice_get, swap_remove}
use Rattle.std.specs.List.{AllByRecursion, IsDistinct, list_any}
use Rattle.std.specs.Map.{keys_of, lookup, values_of}
use Rattle.std.proofs.lemmas.List.{get_or-map, get_or_default}
use Rattle.std.proofs.lemmas.List.Sorted.{IsPermutation-map, IsPermutation-swap_remove}
use Rattle.std.proofs.lemmas.Map.Entries.{length-values_of}
use Rattle.std.proofs.lemmas.Map.Keys.{IsDistinct-IsPermutation, IsDistinct-cons, IsDistinct-head, IsDistinct-tail}
use Rattle.std.proofs.lemmas.Option.{slice_get-get_or}
use Rattle.indexmap.proofs.MapLemmas.{Found-position, Missing-position, swap_remove_entry-found}
use Rattle.indexmap.specs.IndexMap.{insert_entry, swap_remove_entry}
use Rattle.client_requests.specs.Keys.{key_eq, key_equiv}

-- ---- one of a list

abbrev pub IsIn : ℕ → List ℕ → Type 0
IsIn n [] = ⊥
IsIn n (m ∷ ms) = (m ≡ n) ⊎ IsIn n ms

pub in-first : (n : ℕ) (ms ns : List ℕ) → IsIn n ms → IsIn n (ms ++ ns)
in-first n [] ns h = absurd h
in-first n (m ∷ ms) ns (inl same) = inl same
in-first n (m ∷ ms) ns (inr later) = inr (in-first n ms ns later)

pub in-last : (n : ℕ) (ms : List ℕ) → IsIn n (ms ++ n ∷ [])
in-last n [] = inl refl
in-last n (m ∷ ms) = inr (in-last n ms)

pub in-at : (n i : ℕ) (ms : List ℕ) → slice_get ms i ≡ Some n → IsIn n ms
in-at n i [] h = absurd cc
in-at n zero (m ∷ ms) h = inl (let same : m ≡ n = cc in same)
in-at n (suc i) (m ∷ ms) h = inr (in-at n i ms h)

pub in-all : (P : ℕ → Type 0) (n : ℕ) (ms : List ℕ) → AllByRecursion P ms → IsIn n ms → P n
in-all P n [] all h = absurd h
in-all P n (m ∷ ms) all (inl same) = subst P same all.0
in-all P n (m ∷ ms) all (inr later) = in-all P n ms all.1 later

-- ---- all of a list

module _ {A : Type 0} where
  pub all-mapped : (P Q : A → Type 0) → ((x : A) → P x → Q x) → (xs : List A) → AllByRecursion P xs
      → AllByRecursion Q xs
  all-mapped P Q so [] all = tt
  all-mapped P Q so (x ∷ xs) all = (so x all.0, all-mapped P Q so xs all.1)

  pub all-both : (P Q R : A → Type 0) → ((x : A) → P x → Q x → R x) → (xs : List A) → AllByRecursion P xs
      → AllByRecursion Q xs → AllByRecursion R xs
  all-both P Q R so [] all others = tt
  all-both P Q R so (x ∷ xs) all others = (so x all.0 others.0, all-both P Q R so xs all.1 others.1)

  pub all-last : (P : A → Type 0) (xs : List A) (x : A) → AllByRecursion P xs → P x
      → AllByRecursion P (xs ++ x ∷ [])
  all-last P [] x all one = (one, tt)
  all-last P (y ∷ xs) x all one = (all.0, all-last P xs x all.1 one)

  pub none-any : (test : A → Bool) (xs : List A) → AllByRecursion (λ x. test x ≡ false) xs → list_any test xs ≡ false
  none-any test [] none = refl
  none-any test (x ∷ xs) none = rw none.0 (none-any test xs none.1)

-- ---- an asker comes in

abbrev pub AskersValue : Type 0
AskersValue = List (ℕ × List ℕ)

pub found-all : (P : ℕ × List ℕ → Type 0) (n : ℕ) (key : List ℕ) (es : AskersValue) → AllByRecursion P es
    → lookup (nat_eq n) es ≡ Some key → P (n, key)
found-all P n key [] all h = absurd cc
found-all P n key (e ∷ es) all h = by (nat_eq n e.0) refl (found-all P n key es all.1) h
  where
    by : (b : Bool) → nat_eq n e.0 ≡ b → (lookup (nat_eq n) es ≡ Some key → P (n, key))
        → cond b (Some e.1) (lookup (nat_eq n) es) ≡ Some key → P (n, key)
    by true own later h =
        let same : e.1 ≡ key = cc in
        subst (λ (k : List ℕ). P (n, k)) same (subst (λ (m : ℕ). P (m, e.1)) (sym (eqb-true n e.0 own)) all.0)
    by false own later h = later h

pub all-inserted : (P : ℕ × List ℕ → Type 0) (n : ℕ) (key : List ℕ) (es : AskersValue) → AllByRecursion P es
    → P (n, key) → AllByRecursion P (insert_entry nat_eq es n key)
all-inserted P n key [] all one = (one, tt)
all-inserted P n key (e ∷ es) all one = by (nat_eq n e.0) refl (all-inserted P n key es all.1 one)
  where
    by : (b : Bool) → nat_eq n e.0 ≡ b → AllByRecursion P (insert_entry nat_eq es n key)
        → AllByRecursion P (if b then (e.0, key) ∷ es else e ∷ insert_entry nat_eq es n key)
    by true own later = (subst (λ (m : ℕ). P (m, key)) (eqb-true n e.0 own) one, all.1)
    by false own later = (all.0, later)

-- none of these asks for this key
abbrev pub HasNone : List ℕ → AskersValue → Type 0
HasNone key es = AllByRecursion (λ (e : ℕ × List ℕ). key_eq key e.1 ≡ false) es

-- none of these keys is this one
abbrev pub IsApart : List ℕ → List (List ℕ) → Type 0
IsApart key ks = AllByRecursion (λ (k : List ℕ). key_eq key k ≡ false) ks

none-of-values : (key : List ℕ) (es : AskersValue) → IsApart key (values_of es) → HasNone key es
none-of-values key [] none = tt
none-of-values key (e ∷ es) none = (none.0, none-of-values key es none.1)

values-of-none : (key : List ℕ) (es : AskersValue) → HasNone key es → IsApart key (values_of es)
values-of-none key [] none = tt
values-of-none key (e ∷ es) none = (none.0, values-of-none key es none.1)

pub none-inserted : (other : List ℕ) (n : ℕ) (key : List ℕ) (es : AskersValue) → HasNone other es
    → key_eq other key ≡ false → HasNone other (insert_entry nat_eq es n key)
none-inserted other n key es none apart =
    all-inserted (λ (e : ℕ × List ℕ). key_eq other e.1 ≡ false) n key es none apart

pub once-inserted : (n : ℕ) (key : List ℕ) (es : AskersValue) → IsDistinct key_eq (values_of es) → HasNone key es
    → IsDistinct key_eq (values_of (insert_entry nat_eq es n key))
once-inserted n key [] once none = IsDistinct-cons key_eq key [] tt once
once-inserted n key (e ∷ es) once none =
    by (nat_eq n e.0) (once-inserted n key es (IsDistinct-tail key_eq e.1 (values_of es) once) none.1)
  where
    by : (b : Bool) → IsDistinct key_eq (values_of (insert_entry nat_eq es n key))
        → IsDistinct key_eq (values_of (if b then (e.0, key) ∷ es else e ∷ insert_entry nat_eq es n key))
    by true later =
        IsDistinct-cons key_eq key (values_of es) (values-of-none key es none.1)
        (IsDistinct-tail key_eq e.1 (values_of es) once)
    by false later =
        IsDistinct-cons key_eq e.1 (values_of (insert_entry nat_eq es n key))
        (values-of-none e.1 (insert_entry nat_eq es n key)
        (none-inserted e.1 n key es (none-of-values e.1 es (IsDistinct-head key_eq e.1 (values_of es) once))
        (key_equiv.symm e.1 key ∙ none.0))) later

-- ---- an asker is forgotten

-- the others ask for other keys
pub record IsLeft (key : List ℕ) (es : AskersValue) : Type 0 where
  pub once : IsDistinct key_eq (values_of es)
  pub none : HasNone key es

pub left-without : (n : ℕ) (key : List ℕ) (es : AskersValue) → IsDistinct key_eq (values_of es)
    → lookup (nat_eq n) es ≡ Some key → IsLeft key (swap_remove_entry (nat_eq n) es)
left-without n key es once h = by (position (nat_eq n) (keys_of es)) refl
  where
    by : (o : Option ℕ) → position (nat_eq n) (keys_of es) ≡ o → IsLeft key (swap_remove_entry (nat_eq n) es)
    by None is = let missing : lookup (nat_eq n) es ≡ None = (Missing-position (nat_eq n) es is).value in absurd cc
    by (Some i) is =
        let found = Found-position (nat_eq n) es i is in
        let x : ℕ × List ℕ = get_or es i (n, key) in
        let there : x ≡ get_or es i x = get_or_default es i (n, key) x found.within in
        let moves = IsPermutation-swap_remove es i x found.within there in
        let within : i < length (values_of es) = omega (arith, found.within, length-values_of es) in
        let value : Some x.1 ≡ Some key =
        ap (λ (k : List ℕ). Some k) (sym (get_or-map (λ (e : ℕ × List ℕ). e.1) es i (n, key) key found.within))
        ∙ sym (slice_get-get_or (values_of es) i key within) ∙ sym found.value ∙ h in
        let own : x.1 ≡ key = cc in
        let others = swap_remove es i x in
        let all = IsDistinct-IsPermutation key_eq key_equiv.symm (values_of es) (values_of (x ∷ others))
        (IsPermutation-map (λ (e : ℕ × List ℕ). e.1) es (x ∷ others) moves) once in
        subst (IsLeft key) (sym (swap_remove_entry-found (nat_eq n) es i x is))
        (subst (λ (k : List ℕ). IsLeft k others) own (record {
          once = IsDistinct-tail key_eq x.1 (values_of others) all;
          none = none-of-values x.1 others (IsDistinct-head key_eq x.1 (values_of others) all);
        }))
