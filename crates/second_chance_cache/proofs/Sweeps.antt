-- Slots turned one after another.
use Rattle.std.proofs.Common.{◌≡◌, ℕ, zero, suc, ◌-◌, ◌<◌, arith, List, [], ◌∷◌, ◌++◌, length, map, refl, sym, ◌∙◌, ap, append_assoc, append-nil}
use Rattle.std.specs.Prelude.{Option, None, Some}
use Rattle.second_chance_cache.specs.SecondChance.{Entry}
use Rattle.second_chance_cache.specs.Clock.{live, turned}

-- so many slots are turned
abbrev pub turns : {V : Type 0} → ℕ → List (Option (Entry V)) → List (Option (Entry V))
turns zero s = s
turns (suc n) s = turned (turns n s)

module _ {V : Type 0} where
  turns-turned : (n : ℕ) (s : List (Option (Entry V))) → turns n (turned s) ≡ turned (turns n s)
  turns-turned zero s = refl
  turns-turned (suc n) s = ap turned (turns-turned n s)

  swept : (s t : List (Option (Entry V))) → turns (length s) (s ++ t) ≡ t ++ map Some (live s)
  swept [] t = sym (append-nil t)
  swept (None ∷ s) t = sym (turns-turned (length s) (None ∷ s ++ t)) ∙ swept s t
  swept (Some e ∷ s) t =
      sym (turns-turned (length s) (Some e ∷ s ++ t))
      ∙ ap (turns (length s)) (append_assoc s t (Some e ∷ []))
      ∙ swept s (t ++ Some e ∷ [])
      ∙ append_assoc t (Some e ∷ []) (map Some (live s))

  live-some : (es : List (Entry V)) → live (map Some es) ≡ es
  live-some [] = refl
  live-some (e ∷ es) = ap (λ (l : List (Entry V)). e ∷ l) (live-some es)

  -- once each slot was turned, the entries are in their order
  pub live-turns : (s : List (Option (Entry V))) → live (turns (length s) s) ≡ live s
  live-turns s =
      ap (λ (l : List (Option (Entry V))). live (turns (length s) l)) (sym (append-nil s))
      ∙ ap live (swept s []) ∙ live-some (live s)

  -- one that is turned at once is one less to turn
  pub turns-step : (n : ℕ) (s : List (Option (Entry V))) → 0 < n → live (turns (n - 1) (turned s)) ≡ live (turns n s)
  turns-step zero s some = absurd (omega arith)
  turns-step (suc n) s some =
      let less : suc n - 1 ≡ n = omega arith in
      ap (λ (k : ℕ). live (turns k (turned s))) less ∙ ap live (turns-turned n s)
