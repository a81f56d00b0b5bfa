use Rattle.std.proofs.Common.{◌∙◌, ap}
use Rattle.hickory_proto_core.specs.Messages.{MessageValue}
use Rattle.whole_replies.specs.Kept.{kept_answers}
use Rattle.whole_replies.proofs.kept_reply.kept_records.Goals as goal

pub returns-clause-answers : goal.returns-clause-answers
returns-clause-answers c =
    c.in_ok-keep_way.ensures ∙ ap (λ (m : MessageValue). kept_answers c.args.query.now c.args.dnssec m) c.message.view_is
