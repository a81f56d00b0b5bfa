-- What is left of those who wait.
use Rattle.std.proofs.Common.{not, rules}
use Rattle.std.proofs.lemmas.Fn.{filter_same}
use Rattle.yimarotu_forwarder.specs.Fetches.{is_of_client}
use Rattle.yimarotu_forwarder.proofs.leaving.leave.Goals as goal

pub returns : goal.returns
returns c =
    filter_same _ (λ w. not (is_of_client c.args.client w)) _ (λ x b q t. search rules) _ _ c.retain.ensures.filtered
