use Rattle.std.proofs.Common.{Ok, ap, false, refl, sym, true}
use Rattle.replay_script.specs.Words.{texts}
use Rattle.conversation.specs.Answers.{AnswersSaid}
use Rattle.conversation.specs.Hearing.{IsServedOut}
use Rattle.conversation.specs.Said as said
use Rattle.conversation.specs.Said.{said_value}
use Rattle.conversation.specs.State.{conversation_of}
use Rattle.conversation.proofs.Answered.{acted_refused, answered_here}
use Rattle.conversation.proofs.Hearings.{acted_as}
use Rattle.conversation.proofs.state.State.act.Goals as goal

pub returns-in-Nothing : goal.returns-in-Nothing
returns-in-Nothing c =
    let s = conversation_of c.args.self.now in
    let mark = c.args.mark.now in
    acted_as s s mark mark said.Nothing (said_value c.args.said) (Ok c.told_nothing.result) refl (ap said_value (sym c.in-Nothing.is))
    (answered_here s mark (AnswersSaid s mark said.Nothing) (IsServedOut s mark said.Nothing) c.told_nothing.result false refl c.told_nothing.ensures.explained c.told_nothing.ensures.text c.told_nothing.ensures.journal c.told_nothing.ensures.last)

pub returns-in-End : goal.returns-in-End
returns-in-End c =
    let s = conversation_of c.args.self.now in
    let mark = c.args.mark.now in
    acted_as s s mark mark said.End (said_value c.args.said) (Ok c.told_last.result) refl (ap said_value (sym c.in-End.is))
    (answered_here s mark (AnswersSaid s mark said.End) (IsServedOut s mark said.End) c.told_last.result true refl c.told_last.ensures.explained c.told_last.ensures.text c.told_last.ensures.journal c.told_last.ensures.last)

pub returns-in-File : goal.returns-in-File
returns-in-File c =
    acted_as (conversation_of c.args.self.now) (conversation_of c.add_file_line.new.self) c.args.mark.now c.args.mark.now (said.File c.in-File.kind (texts c.in-File.fields.now)) (said_value c.args.said) c.add_file_line.result refl (ap said_value (sym c.in-File.is)) c.add_file_line.ensures

pub returns-in-Setting : goal.returns-in-Setting
returns-in-Setting c =
    acted_as (conversation_of c.args.self.now) (conversation_of c.add_setting.new.self) c.args.mark.now c.args.mark.now (said.Setting (texts c.in-Setting.fields.now)) (said_value c.args.said) c.add_setting.result refl (ap said_value (sym c.in-Setting.is)) c.add_setting.ensures

pub returns-in-Request : goal.returns-in-Request
returns-in-Request c =
    acted_as (conversation_of c.args.self.now) (conversation_of c.begin.new.self) c.args.mark.now c.args.mark.now (said.Request c.in-Request.explains (texts c.in-Request.fields.now)) (said_value c.args.said) c.begin.result refl (ap said_value (sym c.in-Request.is)) c.begin.ensures

pub returns-in-Outcome : goal.returns-in-Outcome
returns-in-Outcome c =
    acted_as (conversation_of c.args.self.now) (conversation_of c.add_line.new.self) c.args.mark.now c.args.mark.now (said.Outcome c.in-Outcome.begins (texts c.in-Outcome.fields.now)) (said_value c.args.said) c.add_line.result refl (ap said_value (sym c.in-Outcome.is)) c.add_line.ensures

pub returns-in-Done : goal.returns-in-Done
returns-in-Done c =
    acted_as (conversation_of c.args.self.now) (conversation_of c.end_reply.new.self) c.args.mark.now c.args.mark.now (said.Done (texts c.in-Done.behind.now)) (said_value c.args.said) c.end_reply.result refl (ap said_value (sym c.in-Done.is)) c.end_reply.ensures

pub returns-in-Cancel : goal.returns-in-Cancel
returns-in-Cancel c =
    acted_as (conversation_of c.args.self.now) (conversation_of c.cancel.new.self) c.args.mark.now c.args.mark.now (said.Cancel (texts c.in-Cancel.behind.now)) (said_value c.args.said) c.cancel.result refl (ap said_value (sym c.in-Cancel.is)) c.cancel.ensures

pub returns-in-Refused : goal.returns-in-Refused
returns-in-Refused c =
    let s = conversation_of c.args.self.now in
    let mark = c.args.mark.now in
    let refusal = c.in-Refused.refusal in
    acted_as s s mark mark (said.Refused refusal) (said_value c.args.said) c.refuse.result refl (ap said_value (sym c.in-Refused.is))
    (acted_refused s mark (said.Refused refusal) refusal c.refuse.result c.refuse.ensures (λ told. refl))
