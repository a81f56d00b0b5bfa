-- Until when some aliases live: as long as that of the least TTL.
use Rattle.std.proofs.Common.{◌≡◌, ◌≤◌, ◌+◌, ◌∙◌, ℕ, List, [], ◌∷◌, map, min, max, fold, refl, sym, ap, ⊎_elim, arith}
use Rattle.std.specs.Option.{option_map_or}
use Rattle.std.proofs.lemmas.Bool.{cases_order}
use Rattle.hickory_proto_core.specs.Codes.{type_code}
use Rattle.hickory_proto_core.specs.codes.record_type.RecordType.TheVariants as type
use Rattle.hickory_resolver_model.specs.Bounds.{ConfigValue, bounds_for, positive_bounds, reduced_bounds, least}
use Rattle.hickory_resolver_model.specs.Cache.{last_moment}
use Rattle.hickory_resolver_model.specs.Hops.{earliest, alias_deadline}

-- the lesser of two numbers comes to the lesser of two moments
lesser : (f : ℕ → ℕ) → ((t x : ℕ) → t ≤ x → f t ≤ f x) → (t x : ℕ) → f (min t x) ≡ min (f t) (f x)
lesser f grows t x = ⊎_elim (λ e. at (omega arith)) (⊎_elim (λ lt. at (omega arith)) (λ gt. other (omega arith))) (cases_order t x)
  where
    at : t ≤ x → f (min t x) ≡ min (f t) (f x)
    at h = let low : min t x ≡ t = omega arith in let m = grows t x h in ap f low ∙ omega arith

    other : x ≤ t → f (min t x) ≡ min (f t) (f x)
    other h = let low : min t x ≡ x = omega arith in let m = grows x t h in ap f low ∙ omega arith

clamps : (low high t x : ℕ) → t ≤ x → max low (min t high) ≤ max low (min x high)
clamps low high t x h = omega arith

ends : (now end a b : ℕ) → a ≤ b → min (now + a) end ≤ min (now + b) end
ends now end a b h = omega arith

both : (a b c : ℕ) → min a (min b c) ≡ min (min a b) c
both a b c = omega arith

at_most : (a end : ℕ) → min (min a end) end ≡ min a end
at_most a end = omega arith

module _ (config : ConfigValue) (now : ℕ) where
  abbrev bounds : ℕ × ℕ
  bounds = reduced_bounds (positive_bounds (bounds_for config (type_code type.CNAME)))

  deadline_of_lesser : (t x : ℕ) → alias_deadline config now (min t x) ≡ min (alias_deadline config now t) (alias_deadline config now x)
  deadline_of_lesser t x =
      lesser (alias_deadline config now) (λ a b h. ends now last_moment (max bounds.0 (min a bounds.1)) (max bounds.0 (min b bounds.1)) (clamps bounds.0 bounds.1 a b h)) t x

  deadline_in_time : (t : ℕ) → min (alias_deadline config now t) last_moment ≡ alias_deadline config now t
  deadline_in_time t = at_most _ last_moment

  first_of_all : (t : ℕ) (ts : List ℕ) → min (alias_deadline config now t) (earliest (map (alias_deadline config now) ts)) ≡ alias_deadline config now (fold min t ts)
  first_of_all t [] = deadline_in_time t
  first_of_all t (x ∷ xs) =
      both (alias_deadline config now t) (alias_deadline config now x) (earliest (map (alias_deadline config now) xs))
      ∙ ap (λ m. min m (earliest (map (alias_deadline config now) xs))) (sym (deadline_of_lesser t x))
      ∙ first_of_all (min t x) xs

  -- the earliest of the deadlines of some aliases is that of their least TTL
  pub earliest_deadline : (ttls : List ℕ) → earliest (map (alias_deadline config now) ttls) ≡ option_map_or (alias_deadline config now) (least ttls) last_moment
  earliest_deadline [] = refl
  earliest_deadline (t ∷ ts) = first_of_all t ts
