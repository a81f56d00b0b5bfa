use Rattle.std.proofs.Common.{◌≡◌}
use Rattle.conversation.specs.Answers.{cancelled}
use Rattle.conversation.specs.State.{conversation_of}
use Rattle.conversation.specs.Telling.{nothing_left}
use Rattle.conversation.proofs.Answered.{out_here}
use Rattle.conversation.proofs.state.State.cancel_request.Goals as goal

pub returns-in_err-heard : goal.returns-in_err-heard
returns-in_err-heard c = out_here (conversation_of c.args.self.now) c.args.mark.now (λ answer. answer ≡ cancelled (conversation_of c.args.self.now) c.args.mark.now) nothing_left c.from_residual.result c.from_residual.ensures.0
