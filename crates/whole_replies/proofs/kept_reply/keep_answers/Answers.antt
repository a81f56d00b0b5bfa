use Rattle.std.proofs.Common.{rules}
use Rattle.std.proofs.lemmas.Fn.{filter_same}
use Rattle.whole_replies.specs.Ways.{is_kept}
use Rattle.whole_replies.proofs.kept_reply.keep_answers.Goals as goal

pub returns : goal.returns
returns c =
    filter_same _ (is_kept c.args.query.now c.args.last.now c.args.dnssec c.args.names.now) _ (λ x b q t. search rules) _ _
    c.retain.ensures.filtered
