use Rattle.std.proofs.Common.{◌∙◌, ap}
use Rattle.replay_script.specs.Configuration.{ConfigurationValue}
use Rattle.conversation.specs.State.{Setting, Phase, conversation_of}
use Rattle.conversation.proofs.Settings.{setting_phase}
use Rattle.conversation.proofs.state.State.set.Goals as goal

pub returns-in-Ok : goal.returns-in-Ok
returns-in-Ok c =
    let s = c.args.self.now in
    record {
      told = record { explained_is = c.in_ok-heard.ensures.explained; text_is = c.in_ok-heard.ensures.text; journal_is = c.in_ok-heard.ensures.journal; last_is = c.in_ok-heard.ensures.last };
      set = ap (λ (x : Phase). record (conversation_of s) { phase = x }) (setting_phase c.set.new.self s.files s.resolver c.requires ∙ ap (λ (k : ConfigurationValue). Setting k s.files) c.in-Ok.ensures.ok);
      unchanged = tt;
    }
