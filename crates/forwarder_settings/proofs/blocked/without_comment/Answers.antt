use Rattle.std.proofs.Common.{◌==◌, ◌∙◌, sym}
use Rattle.replay_script.proofs.FirstBytes.{first_byte_position}
use Rattle.forwarder_settings.proofs.Comments.{before_none, before_place}
use Rattle.forwarder_settings.proofs.blocked.without_comment.Goals as goal

pub returns-in-Some : goal.returns-in-Some
returns-in-Some c =
    before_place (λ byte. byte == 35) c.args.line.now c.in-Some.place
    (sym c.in-Some.is ∙ first_byte_position (λ byte. byte == 35) c.args.line.now c.memchr.result c.memchr.ensures)

pub returns-in-None : goal.returns-in-None
returns-in-None c =
    before_none (λ byte. byte == 35) c.args.line.now
    (sym c.in-None.is ∙ first_byte_position (λ byte. byte == 35) c.args.line.now c.memchr.result c.memchr.ensures)
