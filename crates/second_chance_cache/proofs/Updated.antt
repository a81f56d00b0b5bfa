-- The numbers of keys, once one was changed.
use Rattle.std.proofs.Common.{◌≡◌, ℕ, Bool, true, false, cond, List, refl, sym, ◌∙◌, ap, subst}
use Rattle.std.specs.Prelude.{Option, None, Some}
use Rattle.std.specs.Option.{option_map}
use Rattle.std.specs.Str.{bytes_eq}
use Rattle.std.specs.Map.{AreApart, IsKeyTest, KeepsOthers}
use Rattle.indexmap.specs.IndexMap.{IndexMap, UpdatesBy}
use Rattle.second_chance_cache.specs.Clock.{IsRenumbered, number_in}
use Rattle.second_chance_cache.specs.Keys.{key_eq}
use Rattle.second_chance_cache.proofs.Keys.{key_flip, same_key}

is_test : (key : List ℕ) → IsKeyTest key_eq (key_eq key)
is_test key x y h = ap (λ (k : List ℕ). bytes_eq k y) (same_key key x h)

are_apart : (key other : List ℕ) → bytes_eq key other ≡ false → AreApart (key_eq key) (key_eq other)
are_apart key other differs k h =
    subst (λ (l : List ℕ). bytes_eq other l ≡ false) (same_key key k h) (key_flip key other differs)

module _ {S : Type 0} where
  pub updated : (key : List ℕ) (old new : IndexMap (List ℕ) ℕ S) (w : Option ℕ)
      → UpdatesBy key_eq (key_eq key) old new w
      → (other : List ℕ) → number_in other new ≡ cond (bytes_eq key other) w (number_in other old)
  unfolding KeepsOthers
  updated key old new w h other = by (bytes_eq key other) refl
    where
      by : (b : Bool) → bytes_eq key other ≡ b → number_in other new ≡ cond b w (number_in other old)
      by true same =
          subst (λ (k : List ℕ). number_in k new ≡ w) (same_key key other same) h.1
      by false differs = h.3 (key_eq other) (is_test other) (are_apart key other differs)

  -- a key that is there is written to
  pub renumbered : (key : List ℕ) (number held : ℕ) (old new : IndexMap (List ℕ) ℕ S)
      → UpdatesBy key_eq (key_eq key) old new (Some number) → number_in key old ≡ Some held
      → IsRenumbered key number old new
  renumbered key number held old new h there other =
      updated key old new (Some number) h other
      ∙ ap (λ (found : Option ℕ). cond (bytes_eq key other) (option_map (λ (_ : ℕ). number) found)
      (number_in other old)) (sym there)

  -- a key that is not there stays so
  pub not_renumbered : (key : List ℕ) (number : ℕ) (old : IndexMap (List ℕ) ℕ S) → number_in key old ≡ None
      → IsRenumbered key number old old
  not_renumbered key number old gone other = by (bytes_eq key other) refl
    where
      by : (b : Bool) → bytes_eq key other ≡ b
          → number_in other old ≡ cond b (option_map (λ (_ : ℕ). number) (number_in key old)) (number_in other old)
      by true same =
          subst (λ (k : List ℕ). number_in k old ≡ None) (same_key key other same) gone
          ∙ ap (option_map (λ (_ : ℕ). number)) (sym gone)
      by false differs = refl
