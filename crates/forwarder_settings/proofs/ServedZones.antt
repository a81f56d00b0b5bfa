-- The zones that are served.
use Rattle.std.proofs.Common.{◌≡◌, ◌∙◌, ℕ, Bool, true, cond, List, [], sym, ap}
use Rattle.std.specs.Prelude.{OnOk, Result, Ok, Err}
use Rattle.local_answers.specs.Zones.{with_served}
use Rattle.local_answers.specs.declared.rules.DomainRule.{DomainRule}

-- where they are served, and no rule was there before
pub served_on : {A E : Type 0} (r : Result A E) (serves : Bool) (zones : List (List ℕ))
    (old new : List (List ℕ × DomainRule)) → old ≡ [] → serves ≡ true → OnOk r (new ≡ with_served zones old)
    → OnOk r (new ≡ cond serves (with_served zones []) [])
served_on (Ok x) serves zones old new none is made =
    made ∙ ap (with_served zones) none ∙ sym (ap (λ (b : Bool). cond b (with_served zones []) []) is)
served_on (Err e) serves zones old new none is made = tt
