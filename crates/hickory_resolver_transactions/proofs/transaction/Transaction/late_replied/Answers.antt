use Rattle.std.proofs.Common.{◌≡◌, List, ap, sym, ◌∙◌, eqb}
use Rattle.std.specs.Prelude.{Option, Some, find}
use Rattle.std.specs.Option.{option_map_or}
use Rattle.hickory_resolver_transactions.specs.Transaction.{TransactionState, candidate_at, late_came_to}
use Rattle.hickory_resolver_transactions.specs.declared.candidate.Candidate.{Candidate}
use Rattle.hickory_resolver_transactions.proofs.transaction.Transaction.late_replied.Goals as goal

pub returns-in-Some : goal.returns-in-Some
returns-in-Some c =
    let s = c.args.self.now in
    let l = c.args.late.now in
    let outcome = c.args.outcome in
    let reply = c.args.reply in
    let found : candidate_at l.place s ≡ Some c.in-Some.candidate =
    sym (ap (λ (t : TransactionState). candidate_at l.place t) c.self.view_is)
    ∙ sym (ap (λ (cs : List Candidate). find (λ x. eqb x.place l.place) cs) c.deref.ensures.value)
    ∙ sym c.in-Some.ensures in
    c.late_came_to.ensures
    ∙ sym (ap (λ (o : Option Candidate). option_map_or (λ x. late_came_to x l.tried outcome reply s) o s) found)
