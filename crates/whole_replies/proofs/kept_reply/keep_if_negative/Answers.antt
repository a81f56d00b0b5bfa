use Rattle.std.proofs.Common.{rules}
use Rattle.std.proofs.lemmas.Fn.{filter_same}
use Rattle.whole_replies.specs.Kept.{is_kept_authority}
use Rattle.whole_replies.proofs.kept_reply.keep_if_negative.Goals as goal

pub returns : goal.returns
returns c =
    filter_same _ (is_kept_authority c.args.negative) _ (λ x b q t. search rules) _ _ c.retain.ensures.filtered
