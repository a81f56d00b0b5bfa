use Rattle.std.proofs.Common.{◌≡◌, refl}
use Rattle.std.specs.Option.{option_map}
use Rattle.replay_script.specs.Reader.{answered}
use Rattle.replay_script.specs.Words.{texts}
use Rattle.conversation.specs.Answers.{adds}
use Rattle.conversation.specs.State.{conversation_of, requests_of}
use Rattle.conversation.specs.Telling.{no_outcome, with_reply}
use Rattle.conversation.proofs.Outcomes.{changed_out, changed_told}
use Rattle.conversation.proofs.state.State.add_record.Goals as goal

pub returns-in_err-add_record : goal.returns-in_err-add_record
returns-in_err-add_record c =
    let s = conversation_of c.args.self.now in
    changed_out s (record s { requests = requests_of c.add_record.new.requests.entries }) c.args.mark.now (λ r answer. answer ≡ adds s c.args.mark.now r (texts c.args.fields.now) c.args.section c.args.found) no_outcome c.from_residual.result c.from_residual.ensures.0 refl refl c.in_err-add_record.ensures

pub returns : goal.returns
returns c =
    let s = conversation_of c.args.self.now in
    let given = texts c.args.fields.now in
    let mark = c.args.mark.now in
    changed_told s (record s { requests = requests_of c.add_record.new.requests.entries }) mark (λ r. with_reply given (option_map (answered c.args.section c.args.found) r.reply) r) (λ r answer. answer ≡ adds s mark r given c.args.section c.args.found) no_outcome c.told_nothing.result c.in_ok-add_record.ensures.0
    c.in_ok-add_record.ensures.1 c.in_ok-add_record.ensures.2 refl refl refl
    c.told_nothing.ensures.explained c.told_nothing.ensures.text c.told_nothing.ensures.journal c.told_nothing.ensures.last
