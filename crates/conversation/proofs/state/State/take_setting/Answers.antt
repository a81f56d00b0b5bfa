use Rattle.std.proofs.Common.{◌≡◌, Ok}
use Rattle.replay_script.specs.Words.{texts}
use Rattle.conversation.specs.Answers.{sets}
use Rattle.conversation.specs.Faults.{unknown}
use Rattle.conversation.specs.State.{conversation_of}
use Rattle.conversation.specs.Telling.{nothing_left}
use Rattle.conversation.proofs.Settings.{not_set, refused_for, setting_taken}
use Rattle.conversation.proofs.state.State.take_setting.Goals as goal

pub returns-in-Configuration : goal.returns-in-Configuration
returns-in-Configuration c =
    let s = c.args.self.now in
    setting_taken (conversation_of s) (conversation_of c.set.new.self) c.args.mark.now (texts c.args.fields.now) s.configuration s.files c.args.line c.in-Configuration.setting c.set.result c.in-Configuration.is c.set.ensures.told c.set.ensures.set c.set.ensures.unchanged

pub returns : goal.returns
returns c =
    let s = c.args.self.now in
    refused_for (conversation_of s) c.args.mark.now c.unknown.result (unknown (texts c.args.fields.now)) (λ answer. answer ≡ sets (conversation_of s) c.args.mark.now s.configuration s.files (texts c.args.fields.now) (Ok c.args.line)) nothing_left c.refuse.result c.refuse.ensures c.unknown.ensures
    (λ told. not_set (conversation_of s) c.args.mark.now (texts c.args.fields.now) s.configuration s.files c.args.line c.in_default.not-Configuration)
