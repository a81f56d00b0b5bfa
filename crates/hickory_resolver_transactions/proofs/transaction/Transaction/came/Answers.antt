use Rattle.std.proofs.Common.{◌≡◌, List, ap, sym, subst, ◌∙◌}
use Rattle.std.specs.Prelude.{Option, Some, OnOk, find}
use Rattle.std.specs.Option.{option_map_or}
use Rattle.hickory_resolver_transactions.specs.Candidates.{waits_as}
use Rattle.hickory_resolver_transactions.specs.Transaction.{TransactionState, picked, late_at, late_replied, came_to, without_answered, came}
use Rattle.hickory_resolver_transactions.specs.declared.candidate.Candidate.{Candidate}
use Rattle.hickory_resolver_transactions.proofs.transaction.Transaction.came.Goals as goal

pub returns-in-Some-clause-ok : goal.returns-in-Some-clause-ok
returns-in-Some-clause-ok c =
    let s = c.args.self.now in
    let outcome = c.args.outcome in
    let reply = c.args.reply in
    let channel = c.args.channel in
    let id = c.args.id in
    let found : picked (waits_as channel id) s ≡ Some c.in-Some.candidate =
    sym (ap (λ (t : TransactionState). picked (waits_as channel id) t) c.self.view_is)
    ∙ sym (ap (λ (cs : List Candidate). find (λ x. waits_as channel id x.progress) cs) c.deref.ensures.value)
    ∙ sym c.in-Some.ensures in
    let late = option_map_or (λ l. late_replied outcome reply l (without_answered outcome channel id s)) (late_at channel id s) s in
    let same : came channel id outcome reply s ≡ came_to c.in-Some.candidate outcome reply s =
    ap (λ (o : Option Candidate). option_map_or (λ x. came_to x outcome reply s) o late) found in
    subst (λ (t : TransactionState). OnOk c.came_to.result (c.came_to.new.self ≡ t)) (sym same) c.came_to.ensures.ok
