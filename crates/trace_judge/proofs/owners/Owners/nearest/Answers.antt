use Rattle.std.proofs.Common.{◌≡◌, Bool, IfSome, List, subst, true}
use Rattle.std.specs.List.{list_any}
use Rattle.trace_judge.specs.declared.receptions.Reception.{Reception}
use Rattle.trace_judge.proofs.Owning.{last_of_run}
use Rattle.trace_judge.proofs.owners.Owners.nearest.Goals as goal

pub returns : goal.returns
returns c =
    let run = c.range.ensures.contiguous in
    subst (λ es. IfSome c.next_back.result (λ e. (p : List Reception → Bool) → p e.1.now ≡ true → list_any (λ o. p o.1) es ≡ true))
    c.self.view_is
    (last_of_run c.next_back.result c.range.result c.next_back.new.self c.self.inside.owners.entries run.0 run.1 run.2 c.next_back.ensures.steps)
