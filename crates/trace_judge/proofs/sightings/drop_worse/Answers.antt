use Rattle.std.proofs.Common.{not, rules}
use Rattle.std.proofs.lemmas.Fn.{filter_same}
use Rattle.trace_judge.specs.Index.{is_outdone}
use Rattle.trace_judge.proofs.sightings.drop_worse.Goals as goal

pub returns : goal.returns
returns c =
    filter_same _ (λ r. not (is_outdone c.args.new.now r)) _ (λ x b q t. search rules) _ _ c.retain.ensures.filtered
