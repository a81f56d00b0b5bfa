use Rattle.std.proofs.Common.{◌≡◌, Some, ap, refl}
use Rattle.replay_script.specs.Words.{texts}
use Rattle.replay_script.specs.declared.script.OpenReply.{OpenReply}
use Rattle.conversation.specs.Answers.{keeps, opens}
use Rattle.conversation.specs.Hearing.{IsFedWith}
use Rattle.conversation.specs.State.{conversation_of, requests_of}
use Rattle.conversation.specs.Telling.{no_outcome, with_reply}
use Rattle.conversation.proofs.Answered.{ran_out_here}
use Rattle.conversation.proofs.Outcomes.{changed_out, changed_told}
use Rattle.conversation.proofs.state.State.open_reply.Goals as goal

pub returns-in_default : goal.returns-in_default
returns-in_default c = ran_out_here (conversation_of c.args.self.now) c.args.mark.now (IsFedWith (conversation_of c.args.self.now) c.args.mark.now no_outcome)

pub returns-in_err-open_reply : goal.returns-in_err-open_reply
returns-in_err-open_reply c =
    let s = conversation_of c.args.self.now in
    changed_out s (record s { requests = requests_of c.open_reply.new.requests.entries }) c.args.mark.now (λ r answer. answer ≡ opens s c.args.mark.now r (texts c.args.fields.now) c.args.head) no_outcome c.from_residual.result c.from_residual.ensures.0 refl refl c.in_err-open_reply.ensures

pub returns : goal.returns
returns c =
    let s = conversation_of c.args.self.now in
    let given = texts c.args.fields.now in
    let mark = c.args.mark.now in
    let r = c.in_ok-open_reply.ensures.0 in
    changed_told s (record s { requests = requests_of c.open_reply.new.requests.entries }) mark (λ r. with_reply given (Some c.in-Ok.reply) r) (λ r answer. answer ≡ opens s mark r given c.args.head) no_outcome c.told_nothing.result r
    c.in_ok-open_reply.ensures.1 c.in_ok-open_reply.ensures.2 refl refl (ap (λ (x : OpenReply). keeps s mark (with_reply given (Some x) r)) c.in-Ok.ensures.ok)
    c.told_nothing.ensures.explained c.told_nothing.ensures.text c.told_nothing.ensures.journal c.told_nothing.ensures.last
