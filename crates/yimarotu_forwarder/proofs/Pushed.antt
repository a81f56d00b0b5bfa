-- Texts that are pushed one after another.
use Rattle.std.proofs.Common.{◌≡◌, ◌∙◌, List, [], ◌∷◌, ◌++◌, ap}
use Rattle.std.specs.Prelude.{Result, Ok, Err, OnOk}
use Rattle.std.proofs.lemmas.List.{append_assoc}

pub pushed : {X : Type 0} (old done before after : List X) (x : X) → before ≡ old ++ done → after ≡ before ++ x ∷ []
    → after ≡ old ++ (done ++ x ∷ [])
pushed old done before after x so_far now =
    now ∙ ap (λ (l : List _). l ++ x ∷ []) so_far ∙ append_assoc old done (x ∷ [])

pub done_last : {X E : Type 0} (old done before after : List X) (x : X) (result : Result (Unit {0}) E)
    → before ≡ old ++ done → OnOk result (after ≡ before ++ x ∷ []) → OnOk result (after ≡ old ++ (done ++ x ∷ []))
done_last old done before after x (Ok _) so_far now = pushed old done before after x so_far now
done_last old done before after x (Err _) so_far now = now
