use Rattle.std.proofs.Common.{◌≡◌, ◌∙◌, ◌++◌, false, inl, List, ap, refl, string_bytes, sym, ℕ}
use Rattle.std.specs.Option.{is_some}
use Rattle.replay_script.specs.Words.{texts}
use Rattle.conversation.specs.Answers.{AnswersSaid}
use Rattle.conversation.specs.Faults.{of_line}
use Rattle.conversation.specs.Files.{FilesValue, with_text}
use Rattle.conversation.specs.Hearing.{IsServedOut}
use Rattle.conversation.specs.Said as said
use Rattle.conversation.specs.State.{Phase, conversation_of, phase_of, requests_of}
use Rattle.conversation.specs.Texts.{fields_text}
use Rattle.conversation.specs.declared.fault.ConversationFault.TheVariants as fault
use Rattle.conversation.proofs.Answered.{acted_out, acted_refused, answered_out}
use Rattle.conversation.proofs.Held.{some_stays}
use Rattle.conversation.proofs.Settings.{line_added, line_late, serving_phase, setting_phase}
use Rattle.conversation.proofs.state.State.add_file_line.Goals as goal

pub returns-then-is_some : goal.returns-then-is_some
returns-then-is_some c =
    let s = c.args.self.now in
    let over = serving_phase s.configuration s.files s.resolver (sym c.is_some.ensures ∙ c.if-is_some.true) in
    acted_refused (conversation_of s) c.args.mark.now (said.File c.args.kind (texts c.args.fields.now)) (of_line fault.SettingAfterRequest) c.refuse_line.result c.refuse_line.ensures
    (λ told. line_late (conversation_of s) c.args.mark.now c.args.kind (texts c.args.fields.now) over.0 over.1 over.2)

pub returns-in_err-line : goal.returns-in_err-line
returns-in_err-line c = acted_out (conversation_of c.args.self.now) c.args.mark.now (said.File c.args.kind (texts c.args.fields.now)) c.from_residual.result c.from_residual.ensures.0

pub returns-in_err-push_fields : goal.returns-in_err-push_fields
returns-in_err-push_fields c = acted_out (conversation_of c.args.self.now) c.args.mark.now (said.File c.args.kind (texts c.args.fields.now)) c.from_residual-in_err-push_fields.result c.from_residual-in_err-push_fields.ensures.0

pub returns-in_err-add : goal.returns-in_err-add
returns-in_err-add c =
    let s = c.args.self.now in
    answered_out (conversation_of s) (record (conversation_of s) { phase = phase_of s.configuration c.add.new.self s.resolver }) c.args.mark.now (AnswersSaid (conversation_of s) c.args.mark.now (said.File c.args.kind (texts c.args.fields.now))) (IsServedOut (conversation_of s) c.args.mark.now (said.File c.args.kind (texts c.args.fields.now))) c.from_residual-in_err-add.result c.from_residual-in_err-add.ensures.0
    (record {
      lines_are = refl;
      phase_is = inl (ap (λ (files : FilesValue). phase_of s.configuration files s.resolver) c.in_err-add.ensures.unchanged);
      requests_are = some_stays c.args.mark.now (requests_of s.requests.entries);
    })

pub returns : goal.returns
returns c =
    let s = c.args.self.now in
    let unset : is_some s.resolver ≡ false = sym c.is_some.ensures ∙ c.if-is_some.false in
    let given = texts c.args.fields.now in
    line_added (conversation_of s) (record (conversation_of s) { phase = phase_of s.configuration c.add.new.self s.resolver }) c.args.mark.now c.args.kind given s.configuration s.files c.add.new.self (string_bytes c.push_fields.new.text) c.told_nothing.result
    (setting_phase s.configuration s.files s.resolver unset) (ap (λ (x : Phase). record (conversation_of s) { phase = x }) (setting_phase s.configuration c.add.new.self s.resolver unset))
    (c.in_ok-add.ensures.ok ∙ ap (λ (line : List ℕ). with_text c.args.kind line s.files) c.as_bytes.ensures.value)
    (c.in_ok-push_fields.ensures ∙ ap (λ (line : List ℕ). line ++ fields_text given) c.in_ok-line.ensures.ok)
    c.told_nothing.ensures.explained c.told_nothing.ensures.text c.told_nothing.ensures.journal c.told_nothing.ensures.last
