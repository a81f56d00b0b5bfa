-- Keys that stand in a list, none twice: what stands there after one is put in or taken out.
use Rattle.std.proofs.Common.{◌≡◌, ℕ, Bool, true, false, cond, ◌||◌, List, [], ◌∷◌, refl, ap, sym, ◌∙◌, true≢false, inl, inr, ◌⊎◌}
use Rattle.std.specs.declared.cmp.Ordering.{Ordering}
use Rattle.std.specs.declared.cmp.Ordering.TheVariants.{Less, Equal, Greater}
use Rattle.std.specs.Ordering.{nat_cmp, is_eq, match_ordering, ordering_then}
use Rattle.std.specs.List.{list_any}
use Rattle.std.specs.Set.{remove_key}
use Rattle.std.specs.BTreeMap.{is_at}
use Rattle.std.specs.BTreeSet.{insert_key}
use Rattle.hickory_resolver_channels.specs.Channels.{pair_cmp}
use Rattle.hickory_resolver_pool_theorems.proofs.Keys.{at-is}

pub or-true : (b c : Bool) → c ≡ true → (b || c) ≡ true
or-true true c h = refl
or-true false c h = h

pub or-left : (b c : Bool) → b ≡ true → (b || c) ≡ true
or-left b c h = ap (λ (x : Bool). x || c) h

pub or-split : (b c : Bool) → (b || c) ≡ true → (b ≡ true) ⊎ (c ≡ true)
or-split true c h = inl refl
or-split false c h = inr h

pub or-more : (a b c : Bool) → (a || b) ≡ true → (b ≡ true → c ≡ true) → (a || c) ≡ true
or-more true b c h more = refl
or-more false b c h more = more h

pub not-true : (b : Bool) → (b ≡ true → ⊥) → b ≡ false
not-true true never = absurd (never refl)
not-true false never = refl

-- ---- pairs

pub pair-is : (p q : ℕ × ℕ) → is_eq (pair_cmp p q) ≡ true → p ≡ q
pair-is p q h = by (nat_cmp p.0 q.0) (nat_cmp p.1 q.1) refl refl h
  where
    both : p.0 ≡ q.0 → p.1 ≡ q.1 → p ≡ q
    both one two = ap (λ (n : ℕ). (n, p.1)) one ∙ ap (λ (n : ℕ). (q.0, n)) two

    by : (a b : Ordering) → nat_cmp p.0 q.0 ≡ a → nat_cmp p.1 q.1 ≡ b → is_eq (ordering_then a b) ≡ true → p ≡ q
    by Less b one two h = absurd (true≢false (sym h))
    by Equal b one two h = both (at-is p.0 q.0 (ap is_eq one)) (at-is p.1 q.1 (ap is_eq two ∙ h))
    by Greater b one two h = absurd (true≢false (sym h))

module _ {K : Type 0} (cmp : K → K → Ordering) (self : (k : K) → cmp k k ≡ Equal)
    (one : (q k : K) → is_eq (cmp q k) ≡ true → q ≡ k) where
  abbrev pub In : K → List K → Type 0
  In q ks = list_any (is_at (cmp q)) ks ≡ true

  -- no key twice
  abbrev pub Once : List K → Type 0
  Once [] = Unit {0}
  Once (k ∷ ks) = (list_any (is_at (cmp k)) ks ≡ false) × Once ks

  -- ---- one is put in

  pub in-inserted : (k : K) (ks : List K) → In k (insert_key cmp ks k)
  in-inserted k [] = or-left (is_eq (cmp k k)) false (ap is_eq (self k))
  in-inserted k (x ∷ xs) = by (cmp k x) refl (in-inserted k xs)
    where
      by : (o : Ordering) → cmp k x ≡ o → In k (insert_key cmp xs k)
          → In k (match_ordering o (k ∷ x ∷ xs) (x ∷ xs) (x ∷ insert_key cmp xs k))
      by Less is more = or-left (is_eq (cmp k k)) (list_any (is_at (cmp k)) (x ∷ xs)) (ap is_eq (self k))
      by Equal is more = or-left (is_eq (cmp k x)) (list_any (is_at (cmp k)) xs) (ap is_eq is)
      by Greater is more = or-true (is_eq (cmp k x)) (list_any (is_at (cmp k)) (insert_key cmp xs k)) more

  pub in-kept : (q k : K) (ks : List K) → In q ks → In q (insert_key cmp ks k)
  in-kept q k [] h = absurd (true≢false (sym h))
  in-kept q k (x ∷ xs) h = by (cmp k x) (in-kept q k xs)
    where
      by : (o : Ordering) → (In q xs → In q (insert_key cmp xs k))
          → In q (match_ordering o (k ∷ x ∷ xs) (x ∷ xs) (x ∷ insert_key cmp xs k))
      by Less more = or-true (is_eq (cmp q k)) (list_any (is_at (cmp q)) (x ∷ xs)) h
      by Equal more = h
      by Greater more = or-more (is_eq (cmp q x)) (list_any (is_at (cmp q)) xs) (list_any (is_at (cmp q)) (insert_key cmp xs k)) h more

  pub in-old : (q k : K) (ks : List K) → In q (insert_key cmp ks k) → (q ≡ k) ⊎ In q ks
  in-old q k [] h = by (or-split (is_eq (cmp q k)) false h)
    where
      by : (is_eq (cmp q k) ≡ true) ⊎ (false ≡ true) → (q ≡ k) ⊎ In q []
      by (inl e) = inl (one q k e)
      by (inr e) = absurd (true≢false (sym e))
  in-old q k (x ∷ xs) h = by (cmp k x) (in-old q k xs) h
    where
      by : (o : Ordering) → (In q (insert_key cmp xs k) → (q ≡ k) ⊎ In q xs)
          → In q (match_ordering o (k ∷ x ∷ xs) (x ∷ xs) (x ∷ insert_key cmp xs k)) → (q ≡ k) ⊎ In q (x ∷ xs)
      by Less more g = first (or-split (is_eq (cmp q k)) (list_any (is_at (cmp q)) (x ∷ xs)) g)
        where
          first : (is_eq (cmp q k) ≡ true) ⊎ In q (x ∷ xs) → (q ≡ k) ⊎ In q (x ∷ xs)
          first (inl e) = inl (one q k e)
          first (inr e) = inr e
      by Equal more g = inr g
      by Greater more g = first (or-split (is_eq (cmp q x)) (list_any (is_at (cmp q)) (insert_key cmp xs k)) g)
        where
          again : (q ≡ k) ⊎ In q xs → (q ≡ k) ⊎ In q (x ∷ xs)
          again (inl e) = inl e
          again (inr e) = inr (or-true (is_eq (cmp q x)) (list_any (is_at (cmp q)) xs) e)

          first : (is_eq (cmp q x) ≡ true) ⊎ In q (insert_key cmp xs k) → (q ≡ k) ⊎ In q (x ∷ xs)
          first (inl e) = inr (or-left (is_eq (cmp q x)) (list_any (is_at (cmp q)) xs) e)
          first (inr e) = again (more e)

  pub once-inserted : (k : K) (ks : List K) → Once ks → (In k ks → ⊥) → Once (insert_key cmp ks k)
  once-inserted k [] a none = (refl, tt)
  once-inserted k (x ∷ xs) a none = by (cmp k x) refl (once-inserted k xs a.1)
    where
      apart : cmp k x ≡ Greater → In x (insert_key cmp xs k) → ⊥
      apart is h = split (in-old x k xs h)
        where
          split : (x ≡ k) ⊎ In x xs → ⊥
          split (inl e) =
              let found : is_eq (cmp k x) ≡ true = ap (λ (y : K). is_eq (cmp k y)) e ∙ ap is_eq (self k) in
              true≢false (sym found ∙ ap is_eq is)
          split (inr e) = true≢false (sym e ∙ a.0)

      by : (o : Ordering) → cmp k x ≡ o → ((In k xs → ⊥) → Once (insert_key cmp xs k))
          → Once (match_ordering o (k ∷ x ∷ xs) (x ∷ xs) (x ∷ insert_key cmp xs k))
      by Less is more = (not-true (list_any (is_at (cmp k)) (x ∷ xs)) none, a)
      by Equal is more = a
      by Greater is more = (
        not-true (list_any (is_at (cmp x)) (insert_key cmp xs k)) (apart is),
        more (λ h. none (or-true (is_eq (cmp k x)) (list_any (is_at (cmp k)) xs) h)),
      )

  -- ---- one is taken out

  pub in-removed : (q k : K) (ks : List K) → (k ≡ q → ⊥) → In q ks → In q (remove_key (is_at (cmp k)) ks)
  in-removed q k [] apart h = absurd (true≢false (sym h))
  in-removed q k (x ∷ xs) apart h = by (is_eq (cmp k x)) refl (in-removed q k xs apart)
    where
      by : (b : Bool) → is_eq (cmp k x) ≡ b → (In q xs → In q (remove_key (is_at (cmp k)) xs))
          → In q (cond b xs (x ∷ remove_key (is_at (cmp k)) xs))
      by true is more = split (or-split (is_eq (cmp q x)) (list_any (is_at (cmp q)) xs) h)
        where
          split : (is_eq (cmp q x) ≡ true) ⊎ In q xs → In q xs
          split (inl e) = absurd (apart (one k x is ∙ sym (one q x e)))
          split (inr e) = e
      by false is more =
          or-more (is_eq (cmp q x)) (list_any (is_at (cmp q)) xs) (list_any (is_at (cmp q)) (remove_key (is_at (cmp k)) xs)) h
          more

  pub in-before : (q : K) (test : K → Bool) (ks : List K) → In q (remove_key test ks) → In q ks
  in-before q test [] h = h
  in-before q test (x ∷ xs) h = by (test x) (in-before q test xs) h
    where
      by : (b : Bool) → (In q (remove_key test xs) → In q xs) → In q (cond b xs (x ∷ remove_key test xs)) → In q (x ∷ xs)
      by true more g = or-true (is_eq (cmp q x)) (list_any (is_at (cmp q)) xs) g
      by false more g = or-more (is_eq (cmp q x)) (list_any (is_at (cmp q)) (remove_key test xs)) (list_any (is_at (cmp q)) xs) g more

  pub not-in-removed : (k : K) (ks : List K) → Once ks → In k (remove_key (is_at (cmp k)) ks) → ⊥
  not-in-removed k [] a h = true≢false (sym h)
  not-in-removed k (x ∷ xs) a h = by (is_eq (cmp k x)) refl (not-in-removed k xs a.1) h
    where
      by : (b : Bool) → is_eq (cmp k x) ≡ b → (In k (remove_key (is_at (cmp k)) xs) → ⊥)
          → In k (cond b xs (x ∷ remove_key (is_at (cmp k)) xs)) → ⊥
      by true is more g =
          let same : k ≡ x = one k x is in
          true≢false (sym g ∙ ap (λ (y : K). list_any (is_at (cmp y)) xs) same ∙ a.0)
      by false is more g = split (or-split (is_eq (cmp k x)) (list_any (is_at (cmp k)) (remove_key (is_at (cmp k)) xs)) g)
        where
          split : (is_eq (cmp k x) ≡ true) ⊎ In k (remove_key (is_at (cmp k)) xs) → ⊥
          split (inl e) = true≢false (sym e ∙ is)
          split (inr e) = more e

  pub once-removed : (test : K → Bool) (ks : List K) → Once ks → Once (remove_key test ks)
  once-removed test [] a = tt
  once-removed test (x ∷ xs) a = by (test x) (once-removed test xs a.1)
    where
      by : (b : Bool) → Once (remove_key test xs) → Once (cond b xs (x ∷ remove_key test xs))
      by true more = a.1
      by false more = (
        not-true (list_any (is_at (cmp x)) (remove_key test xs))
            (λ h. true≢false (sym (in-before x test xs h) ∙ a.0)),
        more,
      )
