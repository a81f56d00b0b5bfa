use Rattle.std.proofs.Common.{rules}
use Rattle.std.proofs.lemmas.Map.Made.{filter_same_pairs}
use Rattle.trace_judge.specs.Index.{is_lasting}
use Rattle.trace_judge.proofs.Owning.{forgets_owners}
use Rattle.trace_judge.proofs.owners.drop_ended.Goals as goal

pub returns : goal.returns
returns c =
    forgets_owners c.args.moment c.args.owners.now.entries c.retain.new.self.entries
    (filter_same_pairs _ (λ e. is_lasting c.args.moment e.1) _ (λ k v b w f' t. search rules) _ _ c.retain.ensures.filtered)
