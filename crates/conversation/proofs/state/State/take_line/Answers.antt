use Rattle.std.proofs.Common.{◌≡◌, Ok, refl}
use Rattle.replay_script.specs.FailLine.{error_of}
use Rattle.replay_script.specs.Words.{texts}
use Rattle.replay_script.specs.declared.line.Line.TheVariants as line
use Rattle.conversation.specs.Answers.{Takes}
use Rattle.conversation.specs.Faults.{unknown}
use Rattle.conversation.specs.State.{conversation_of}
use Rattle.conversation.specs.Telling.{IsFailureOf, no_outcome}
use Rattle.conversation.proofs.Outcomes.{failed, not_taken, refused_request, taken_as}
use Rattle.conversation.proofs.state.State.take_line.Goals as goal

pub returns-in-Reply : goal.returns-in-Reply
returns-in-Reply c =
    taken_as (conversation_of c.args.self.now) (conversation_of c.open_reply.new.self) c.args.mark.now (texts c.args.fields.now) c.args.line (line.Reply c.in-Reply.head) no_outcome c.open_reply.result c.in-Reply.is (λ r outcome none. absurd none) c.open_reply.ensures

pub returns-in-Record : goal.returns-in-Record
returns-in-Record c =
    taken_as (conversation_of c.args.self.now) (conversation_of c.add_record.new.self) c.args.mark.now (texts c.args.fields.now) c.args.line (line.Record c.in-Record.section c.in-Record.found) no_outcome c.add_record.result c.in-Record.is (λ r outcome none. absurd none) c.add_record.ensures

pub returns-in-Fail : goal.returns-in-Fail
returns-in-Fail c =
    taken_as (conversation_of c.args.self.now) (conversation_of c.fail.new.self) c.args.mark.now (texts c.args.fields.now) c.args.line (line.Fail c.in-Fail.failure) (λ r outcome. outcome ≡ failed (error_of c.in-Fail.failure.kind)) c.fail.result c.in-Fail.is
    (λ r outcome is. (c.in-Fail.failure, refl, is)) c.fail.ensures

pub returns : goal.returns
returns c =
    refused_request (conversation_of c.args.self.now) c.args.mark.now c.unknown.result (unknown (texts c.args.fields.now)) (λ r. Takes (conversation_of c.args.self.now) c.args.mark.now r (texts c.args.fields.now) (Ok c.args.line)) (IsFailureOf c.args.line) c.refuse.result c.refuse.ensures c.unknown.ensures
    (λ r found told. not_taken (conversation_of c.args.self.now) c.args.mark.now (texts c.args.fields.now) r c.args.line c.in_default.not-Reply c.in_default.not-Record c.in_default.not-Fail)
