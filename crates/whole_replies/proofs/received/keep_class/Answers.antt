use Rattle.std.proofs.Common.{rules}
use Rattle.std.proofs.lemmas.Fn.{filter_same}
use Rattle.hickory_resolver_model.specs.Verdict.{has_class}
use Rattle.whole_replies.proofs.received.keep_class.Goals as goal

pub returns : goal.returns
returns c = filter_same _ (has_class c.args.query.now) _ (λ x b q t. search rules) _ _ c.retain.ensures.filtered
