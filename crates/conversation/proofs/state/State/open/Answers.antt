use Rattle.std.proofs.Common.{◌∙◌, sym}
use Rattle.conversation.specs.State.{conversation_of}
use Rattle.conversation.proofs.Beginnings.{not_opened, opened_already, opened_first}
use Rattle.conversation.proofs.Settings.{serving_phase, setting_phase}
use Rattle.conversation.proofs.state.State.open.Goals as goal

pub returns-then-is_some : goal.returns-then-is_some
returns-then-is_some c =
    let s = c.args.self.now in
    let over = serving_phase s.configuration s.files s.resolver (sym c.is_some.ensures ∙ c.if-is_some.true) in
    opened_already (conversation_of s) c.args.now over.0 over.1 c.new.result over.2 c.new.ensures.bytes

pub returns-in-Ok : goal.returns-in-Ok
returns-in-Ok c =
    let s = c.args.self.now in
    opened_first (conversation_of s) (conversation_of c.serve_by.new.self) c.args.now s.configuration s.files c.in-Ok.opened c.serve_by.result (setting_phase s.configuration s.files s.resolver (sym c.is_some.ensures ∙ c.if-is_some.false)) c.in-Ok.ensures
    c.serve_by.ensures.told c.serve_by.ensures.serves

pub returns-in-Err : goal.returns-in-Err
returns-in-Err c =
    let s = c.args.self.now in
    not_opened (conversation_of s) c.args.now s.configuration s.files c.in-Err.fault (setting_phase s.configuration s.files s.resolver (sym c.is_some.ensures ∙ c.if-is_some.false)) c.in-Err.ensures
