use Rattle.std.proofs.Common.{rules}
use Rattle.std.proofs.lemmas.Fn.{filter_same}
use Rattle.whole_lookups.specs.Denied.{is_kept}
use Rattle.whole_lookups.proofs.denied.keep_answers.Goals as goal

pub returns : goal.returns
returns c =
    filter_same _ (is_kept c.args.allow.now c.args.deny.now) _ (λ x b q t. search rules) _ _ c.retain.ensures.filtered
