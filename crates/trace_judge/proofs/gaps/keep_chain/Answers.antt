use Rattle.std.proofs.Common.{◌≡◌, ◌∙◌, ◌++◌, ◌∷◌, [], ap, subst, sym}
use Rattle.std.proofs.lemmas.List.{append-nil}
use Rattle.std.proofs.lemmas.Result.{IfOk-weaker}
use Rattle.trace_judge.specs.Index.{Adds, SeesAs, chain_by, received_if}
use Rattle.trace_judge.specs.declared.receptions.Reception.{Reception}
use Rattle.trace_judge.proofs.Standing.{sees-push}
use Rattle.trace_judge.proofs.gaps.keep_chain.Goals as goal

pub returns-in-Some : goal.returns-in-Some
returns-in-Some c = λ from before held.
    let was = c.args.chains.now in let is = c.add.new.self in let found = c.args.found.now in
    let new : Reception = record { moment = c.args.moment; found = c.in-Some.found } in
    let one : new ∷ [] ≡ chain_by c.args.moment found found.rdata
    = ap (received_if c.args.moment) (sym c.in-Some.is) ∙ c.in_ok-found.ensures c.args.moment in
    IfOk-weaker c.add.result (λ _. Adds new was is) (λ _. SeesAs from is (before ++ chain_by c.args.moment found found.rdata))
    (λ _ adds. subst (λ l. SeesAs from is (before ++ l)) one (sees-push from was is before new held adds)) c.add.ensures

pub returns-in-None : goal.returns-in-None
returns-in-None c = λ from before held.
    let was = c.args.chains.now in let found = c.args.found.now in
    let none : [] ≡ chain_by c.args.moment found found.rdata
    = ap (received_if c.args.moment) (sym c.in-None.is) ∙ c.in_ok-found.ensures c.args.moment in
    subst (λ l. SeesAs from was (before ++ l)) none (subst (SeesAs from was) (sym (append-nil before)) held)
