-- Servers beside their scopes.
use Rattle.std.proofs.Common.{◌≡◌, ◌⊎◌, List, [], ◌∷◌, inl, inr, refl}
use Rattle.std.specs.List.{zip}

-- where one list is empty there are no pairs
pub zip-empty : {A B : Type 0} (ks : List A) (vs : List B) → (ks ≡ []) ⊎ (vs ≡ []) → zip ks vs ≡ []
zip-empty [] vs one = refl
zip-empty (k ∷ ks) [] one = refl
zip-empty (k ∷ ks) (v ∷ vs) (inl e) = absurd (let h = e in cc)
zip-empty (k ∷ ks) (v ∷ vs) (inr e) = absurd (let h = e in cc)
