use Rattle.std.proofs.Common.{◌≡◌, ap, sym, ◌∙◌, rules}
use Rattle.hickory_proto_wire.specs.Messages.{spelled_message}
use Rattle.stored_replies.specs.Stored.{StoredValue}
use Rattle.stored_replies.proofs.Seen.{moment_in, seconds_in}
use Rattle.stored_replies.proofs.stored_reply.StoredReply.until.Goals as goal

pub returns : goal.returns
returns c =
    let m = spelled_message c.self.inside.octets.items in
    let moment : c.self.inside.moment ≡ c.args.self.now.moment =
    sym (moment_in m c.self.inside.seconds c.self.inside.moment) ∙ ap (λ (s : StoredValue). s.moment) c.self.view_is in
    let seconds : c.self.inside.seconds ≡ c.args.self.now.kept.seconds =
    sym (seconds_in m c.self.inside.seconds c.self.inside.moment) ∙ ap (λ (s : StoredValue). s.kept.seconds) c.self.view_is in
    search rules
