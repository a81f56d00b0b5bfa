-- A listener that keeps the steps that it hears of, in room that was taken before.
use Rattle.std.proofs.Common.{◌≡◌, ◌≤◌, ◌+◌, ℕ, List, [], ◌∷◌, ◌++◌, length, drop, sym, ap, ◌∙◌, inl, inr, arith, append_assoc}
use Rattle.std.proofs.lemmas.List.{append-nil}
use Rattle.hickory_proto_core.specs.declared.recorded.Exchange.{Exchange}
use Rattle.hickory_resolver_model.specs.Run.{RequestValue, StepValue}
use Rattle.hickory_resolver.specs.Listening.{Hears, HearsAll}
use Rattle.hickory_resolver.specs.Serving.{FailsToHear}

module _ {L : Type 0} (hears fails : Hears L) (items : L → List StepValue) (count room : L → ℕ)
    (keeps : (before : L) (request : RequestValue) (sent : List Exchange) (step : StepValue) (after : L)
    → hears before request sent step after → (items after ≡ items before ++ step ∷ [])
    × (count after ≡ count before + 1) × (room after ≡ room before))
    (full : (before : L) (request : RequestValue) (sent : List Exchange) (step : StepValue) (after : L)
    → fails before request sent step after → room before ≤ count before) where
  -- every step is kept
  pub all_kept : (requests : List RequestValue) (steps : List StepValue) (exchanges : List Exchange)
      (before after : L) → HearsAll hears before requests steps exchanges after → items after ≡ items before ++ steps
  all_kept [] [] exchanges before after same = ap items same ∙ sym (append-nil (items before))
  all_kept (request ∷ requests) [] exchanges before after same = ap items same ∙ sym (append-nil (items before))
  all_kept [] (step ∷ steps) exchanges before after heard = absurd heard
  all_kept (request ∷ requests) (step ∷ steps) exchanges before after (mid, heard, rest) =
      all_kept requests steps (drop step.exchanges exchanges) mid after rest
      ∙ ap (λ kept. kept ++ steps) (keeps before request _ step mid heard).0 ∙ append_assoc (items before) (step ∷ []) steps

  -- where there is room for a step for each request, each is heard of
  pub never_full : (requests : List RequestValue) (before after : L) → count before + length requests ≤ room before
      → FailsToHear hears fails before requests after → ⊥
  never_full [] before after enough failed = failed
  never_full (request ∷ requests) before after enough (sent, made, inl fail) =
      omega (arith, enough, full before request sent made after fail)
  never_full (request ∷ requests) before after enough (sent, made, inr (mid, heard, more)) =
      let k = keeps before request sent made mid heard in
      never_full requests mid after (omega (arith, enough, k.1, k.2)) more
