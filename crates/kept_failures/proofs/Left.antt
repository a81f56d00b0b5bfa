-- What is left, where a test tells what is to go.
use Rattle.std.proofs.Common.{◌≡◌, ◌∙◌, ◌⊎◌, inl, inr, ℕ, Bool, true, false, not, cond, List, [], ◌∷◌, ap, ap₂, filter}
use Rattle.second_chance_cache.specs.SecondChance.{CacheValue, Entry, IsLeft}
use Rattle.second_chance_cache.specs.declared.bounds.CacheBounds.{CacheBounds}

module _ {V : Type 0} (answers : List ℕ → Bool → Type 0) (test : List ℕ → Bool)
    (same : (key : List ℕ) (b : Bool) → answers key b → b ≡ test key) where
  -- one entry goes or stays
  one_left : (e : Entry V) (es rest left : List (Entry V)) → rest ≡ filter (λ e. not (test e.key)) es
      → (answers e.key true × (left ≡ rest)) ⊎ (answers e.key false × (left ≡ e ∷ rest))
      → left ≡ filter (λ e. not (test e.key)) (e ∷ es)
  one_left e es rest left kept (inl (gone, is)) =
      is ∙ kept ∙ ap (λ (b : Bool). cond (not b) (e ∷ filter (λ e. not (test e.key)) es)
      (filter (λ e. not (test e.key)) es)) (same e.key true gone)
  one_left e es rest left kept (inr (stays, is)) =
      is ∙ ap (λ (l : List (Entry V)). e ∷ l) kept
      ∙ ap (λ (b : Bool). cond (not b) (e ∷ filter (λ e. not (test e.key)) es)
      (filter (λ e. not (test e.key)) es)) (same e.key false stays)

  left_is : (es left : List (Entry V)) → IsLeft answers es left → left ≡ filter (λ e. not (test e.key)) es
  left_is [] left is = is
  left_is (e ∷ es) left (rest, is_rest, which) = one_left e es rest left (left_is es rest is_rest) which

-- what is left where a test tells what is to go
pub left_of : {V : Type 0} (answers : List ℕ → Bool → Type 0) (old new : CacheValue V)
    → IsLeft answers old.entries new.entries → new.bounds ≡ old.bounds → (test : List ℕ → Bool)
    → ((key : List ℕ) (b : Bool) → answers key b → b ≡ test key)
    → new ≡ record old { entries = filter (λ e. not (test e.key)) old.entries }
left_of answers old new left bounds test same =
    ap₂ (λ (b : CacheBounds) (es : List (Entry _)). record { bounds = b; entries = es }) bounds
    (left_is answers test same old.entries new.entries left)
