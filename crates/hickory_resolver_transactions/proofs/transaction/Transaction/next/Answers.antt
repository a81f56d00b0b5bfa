use Rattle.std.proofs.Common.{List, ℕ, ap, ap₂, ◌∙◌}
use Rattle.std.specs.Prelude.{find, slice_get}
use Rattle.std.specs.Option.{option_or, option_and_then}
use Rattle.hickory_resolver_transactions.specs.Candidates.{is_again, is_queued}
use Rattle.hickory_resolver_transactions.specs.Transaction.{is_queued_at, next_of}
use Rattle.hickory_resolver_transactions.specs.declared.candidate.Candidate.{Candidate}
use Rattle.hickory_resolver_transactions.proofs.transaction.Transaction.next.Goals as goal

pub returns : goal.returns
returns c =
    c.next_of.ensures
    ∙ ap₂ (λ (cs : List Candidate) (order : List ℕ). option_or (find (λ x. is_again x.progress) cs) (option_or (option_and_then (slice_get cs) (find (is_queued_at cs) order)) (find (λ x. is_queued x.progress) cs)))
    c.deref.ensures.value c.deref-2.ensures.value
    ∙ ap next_of c.self.view_is
