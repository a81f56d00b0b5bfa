use Rattle.std.proofs.Common.{◌∙◌, false, Ok, sym}
use Rattle.replay_script.specs.Words.{texts}
use Rattle.conversation.specs.Faults.{of_line}
use Rattle.conversation.specs.Said as said
use Rattle.conversation.specs.State.{conversation_of}
use Rattle.conversation.specs.declared.fault.ConversationFault.TheVariants as fault
use Rattle.conversation.proofs.Answered.{acted_refused}
use Rattle.conversation.proofs.Settings.{line_read, line_wrong, serving_phase, setting_late, setting_read, setting_phase, setting_wrong}
use Rattle.conversation.proofs.state.State.add_setting.Goals as goal

pub returns-then-is_some : goal.returns-then-is_some
returns-then-is_some c =
    let s = c.args.self.now in
    let over = serving_phase s.configuration s.files s.resolver (sym c.is_some.ensures ∙ c.if-is_some.true) in
    acted_refused (conversation_of s) c.args.mark.now (said.Setting (texts c.args.fields.now)) (of_line fault.SettingAfterRequest) c.refuse_line.result c.refuse_line.ensures
    (λ told. setting_late (conversation_of s) c.args.mark.now (texts c.args.fields.now) over.0 over.1 over.2)

pub returns-in-Ok : goal.returns-in-Ok
returns-in-Ok c =
    let s = c.args.self.now in
    setting_read (conversation_of s) (conversation_of c.take_setting.new.self) c.args.mark.now (texts c.args.fields.now) s.configuration s.files (Ok c.in-Ok.line) c.take_setting.result
    (setting_phase s.configuration s.files s.resolver (sym c.is_some.ensures ∙ c.if-is_some.false)) (line_read false (texts c.args.fields.now) c.in-Ok.line c.in-Ok.ensures) c.take_setting.ensures

pub returns-in-Err : goal.returns-in-Err
returns-in-Err c =
    let s = c.args.self.now in
    acted_refused (conversation_of s) c.args.mark.now (said.Setting (texts c.args.fields.now)) c.in-Err.refusal c.refuse.result c.refuse.ensures
    (λ told. setting_wrong (conversation_of s) c.args.mark.now (texts c.args.fields.now) s.configuration s.files c.in-Err.refusal (setting_phase s.configuration s.files s.resolver (sym c.is_some.ensures ∙ c.if-is_some.false)) (line_wrong false (texts c.args.fields.now) c.in-Err.refusal c.in-Err.ensures told))
