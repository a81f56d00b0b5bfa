-- Lines before the first request: settings and hosts.
use Rattle.std.proofs.Common.{◌≡◌, ◌∙◌, ◌⊎◌, ℕ, Bool, true, false, cond, List, [], ◌∷◌, ◌++◌, length, ◌==◌, Option, None, Some, Result, Ok, Err, IfOk, OnErr, OnOk, Bor, string_bytes, refl, sym, ap, subst, inl, inr, ne_eqb, arith}
use Rattle.std.specs.Option.{is_some}
use Rattle.std.specs.declared.alloc.AllocError.{AllocError}
use Rattle.hickory_proto_core.specs.Handles.{OutcomeValue}
use Rattle.hickory_proto_core.specs.ResponseKind.{is_empty}
use Rattle.hickory_resolver_model.specs.Cache.{CacheValue}
use Rattle.hickory_resolver_model.specs.Resolver.{ResolverValue, settings}
use Rattle.hickory_resolver_model.specs.Run.{Settings}
use Rattle.replay_script.specs.Configuration.{ConfigurationValue, with_setting}
use Rattle.replay_script.specs.Words.{texts}
use Rattle.replay_script.specs.declared.line.Line.{Line}
use Rattle.replay_script.specs.declared.line.Line.TheVariants as line
use Rattle.replay_script.specs.declared.setting.Setting as setting
use Rattle.conversation.specs.Answers.{Answer, AnswersSetting, adds_line, file_line, nothing, refused, sets}
use Rattle.conversation.specs.Faults.{RefusalValue, is_memory, of_line, out_of_memory, unknown}
use Rattle.conversation.specs.Files.{FilesValue, with_text}
use Rattle.conversation.specs.Hearing.{IsServedOut}
use Rattle.conversation.specs.Lines.{IsScriptLine}
use Rattle.conversation.specs.Said as said
use Rattle.conversation.specs.State.{ConversationValue, Puts, Setting, Serving, Phase, request_at, phase_of}
use Rattle.conversation.specs.Telling.{IsActedUpon, IsAnswered, IsRefused, IsSettingTold, RanOut, nothing_left}
use Rattle.conversation.specs.declared.files.FileKind.{FileKind}
use Rattle.conversation.specs.declared.heard.Heard.{Heard}
use Rattle.conversation.specs.declared.fault.ConversationFault.TheVariants as fault
use Rattle.conversation.proofs.Answered.{answered_as, answered_by, answered_refused, none_left, ran_out_here}
use Rattle.conversation.proofs.Held.{puts_same}

-- ---- choices

pub empty_texts : (fs : List (Bor (List ℕ))) → is_empty (texts fs) ≡ (length fs == 0)
empty_texts [] = refl
empty_texts (f ∷ fs) = sym (ne_eqb (length (f ∷ fs)) 0 (λ e. omega arith))

pub when_true : {A : Type 0} (b : Bool) (x y : A) → b ≡ true → x ≡ cond b x y
when_true true x y e = refl
when_true false x y e = absurd (let h = e in cc)

pub when_false : {A : Type 0} (b : Bool) (x y : A) → b ≡ false → y ≡ cond b x y
when_false true x y e = absurd (let h = e in cc)
when_false false x y e = refl

-- a fault is told, of which it is known what it is for
pub refused_for : (c : ConversationValue) (mark : List ℕ) (refusal wanted : RefusalValue) (Kind : Answer → Type 0) (Left : Phase → Type 0) (result : Result Heard AllocError) → IsRefused c mark refusal result → refusal ≡ wanted → (is_memory wanted.fault ≡ false → Kind (refused c mark wanted))
    → IsAnswered c mark Kind Left result c
refused_for c mark refusal wanted Kind Left result is same kind =
    answered_refused c mark wanted Kind Left result (subst (λ r. IsRefused c mark r result) same is) kind

-- a line was read
pub line_read : (has_reply : Bool) (given : List (List ℕ)) (said : Line) → IsScriptLine has_reply given (Ok said) ⊎ (Ok said ≡ Err (of_line out_of_memory)) → IsScriptLine has_reply given (Ok said)
line_read has_reply given said (inl is) = is
line_read has_reply given said (inr out) = absurd (let h = out in cc)

abbrev pub wrong : RefusalValue → Result Line RefusalValue
wrong refusal = Err refusal

-- a line has a fault, which is told
pub line_wrong : (has_reply : Bool) (given : List (List ℕ)) (refusal : RefusalValue) → IsScriptLine has_reply given (Err refusal) ⊎ (wrong refusal ≡ wrong (of_line out_of_memory)) → is_memory refusal.fault ≡ false → IsScriptLine has_reply given (Err refusal)
line_wrong has_reply given refusal (inl is) told = is
line_wrong has_reply given refusal (inr out) told =
    let same : refusal ≡ of_line out_of_memory = let h = out in cc in
    absurd (let h : true ≡ false = sym (ap (λ r. is_memory r.fault) same) ∙ told in cc)

-- ---- phases

pub setting_phase : (configuration : ConfigurationValue) (files : FilesValue) (r : Option (ResolverValue (List OutcomeValue))) → is_some r ≡ false → phase_of configuration files r ≡ Setting configuration files
setting_phase configuration files None e = refl
setting_phase configuration files (Some r) e = absurd (let h = e in cc)

pub serving_phase : (configuration : ConfigurationValue) (files : FilesValue) (r : Option (ResolverValue (List OutcomeValue))) → is_some r ≡ true → (s : Settings) × (cache : CacheValue) × (phase_of configuration files r ≡ Serving s cache)
serving_phase configuration files None e = absurd (let h = e in cc)
serving_phase configuration files (Some r) e = (settings r, r.client.cache, refl)

-- ---- files

pub line_late : (c : ConversationValue) (mark : List ℕ) (kind : FileKind) (given : List (List ℕ)) (s : Settings) (cache : CacheValue) → c.phase ≡ Serving s cache → refused c mark (of_line fault.SettingAfterRequest) ≡ adds_line c mark c.phase kind given
line_late c mark kind given s cache e = subst (λ x. refused c mark (of_line fault.SettingAfterRequest) ≡ adds_line c mark x kind given) (sym e) refl

pub line_added : (before after : ConversationValue) (mark : List ℕ) (kind : FileKind) (given : List (List ℕ)) (configuration : ConfigurationValue) (files now : FilesValue) (line : List ℕ) (heard : Heard)
    → before.phase ≡ Setting configuration files → after ≡ record before { phase = Setting configuration now } → now ≡ with_text kind line files → line ≡ file_line given
    → string_bytes heard.explained ≡ [] → string_bytes heard.text ≡ [] → string_bytes heard.journal ≡ [] → heard.is_last ≡ false
    → IsActedUpon before mark (said.File kind given) (Ok heard) after
line_added before after mark kind given configuration files now line heard was is added line_is explained text journal last =
    let more : FilesValue = with_text kind (file_line given) files in
    answered_by before after mark (λ answer. answer ≡ adds_line before mark before.phase kind given) (IsServedOut before mark (said.File kind given)) heard
    (record (nothing before mark) { phase = Setting configuration more })
    (subst (λ x. record (nothing before mark) { phase = Setting configuration more } ≡ adds_line before mark x kind given) (sym was) refl)
    explained text journal last
    (record {
      lines_are = ap (λ c. c.lines) is;
      phase_is = ap (λ c. c.phase) is ∙ ap (λ fs. Setting configuration fs) (added ∙ ap (λ l. with_text kind l files) line_is);
      requests_are = subst (λ x. Puts mark (request_at mark before.requests) before.requests x) (sym (ap (λ c. c.requests) is)) (puts_same mark before.requests);
    })

-- ---- settings

pub setting_late : (c : ConversationValue) (mark : List ℕ) (given : List (List ℕ)) (s : Settings) (cache : CacheValue) → c.phase ≡ Serving s cache → AnswersSetting c mark c.phase given (refused c mark (of_line fault.SettingAfterRequest))
setting_late c mark given s cache e = subst (λ x. AnswersSetting c mark x given (refused c mark (of_line fault.SettingAfterRequest))) (sym e) refl

-- a line of a setting is read
pub setting_read : (before after : ConversationValue) (mark : List ℕ) (given : List (List ℕ)) (configuration : ConfigurationValue) (files : FilesValue) (said_here : Result Line RefusalValue) (result : Result Heard AllocError)
    → before.phase ≡ Setting configuration files → IsScriptLine false given said_here
    → IsAnswered before mark (λ answer. answer ≡ sets before mark configuration files given said_here) nothing_left result after
    → IsActedUpon before mark (said.Setting given) result after
setting_read before after mark given configuration files said_here result was is =
    answered_as before after mark (λ answer. answer ≡ sets before mark configuration files given said_here) (AnswersSetting before mark before.phase given) nothing_left (IsServedOut before mark (said.Setting given)) result
    (λ answer kind. subst (λ x. AnswersSetting before mark x given answer) (sym was) (said_here, is, kind))
    (none_left (IsServedOut before mark (said.Setting given)))

pub setting_wrong : (c : ConversationValue) (mark : List ℕ) (given : List (List ℕ)) (configuration : ConfigurationValue) (files : FilesValue) (refusal : RefusalValue)
    → c.phase ≡ Setting configuration files → IsScriptLine false given (Err refusal) → AnswersSetting c mark c.phase given (refused c mark refusal)
setting_wrong c mark given configuration files refusal was is =
    subst (λ x. AnswersSetting c mark x given (refused c mark refusal)) (sym was) (Err refusal, is, refl)

-- a line that sets nothing
pub not_set : (c : ConversationValue) (mark : List ℕ) (given : List (List ℕ)) (configuration : ConfigurationValue) (files : FilesValue) (said : Line) → ((chosen : setting.Setting) → said ≡ line.Configuration chosen → ⊥)
    → refused c mark (unknown given) ≡ sets c mark configuration files given (Ok said)
not_set c mark given configuration files line.Blank a = refl
not_set c mark given configuration files (line.Configuration chosen) a = absurd (a chosen refl)
not_set c mark given configuration files (line.Reply head) a = refl
not_set c mark given configuration files (line.Record section found) a = refl
not_set c mark given configuration files (line.Fail failure) a = refl
not_set c mark given configuration files (line.Request request) a = refl

pub setting_taken : (before after : ConversationValue) (mark : List ℕ) (given : List (List ℕ)) (configuration : ConfigurationValue) (files : FilesValue) (said : Line) (chosen : setting.Setting) (result : Result Heard AllocError)
    → said ≡ line.Configuration chosen → IfOk result (IsSettingTold given)
    → OnOk result (after ≡ record before { phase = Setting (with_setting chosen configuration) files }) → OnErr result (after ≡ before)
    → IsAnswered before mark (λ answer. answer ≡ sets before mark configuration files given (Ok said)) nothing_left result after
setting_taken before after mark given configuration files said chosen (Ok heard) is told set same =
    answered_by before after mark (λ answer. answer ≡ sets before mark configuration files given (Ok said)) nothing_left heard
    (sets before mark configuration files given (Ok (line.Configuration chosen)))
    (ap (λ x. sets before mark configuration files given (Ok x)) (sym is))
    told.explained_is told.text_is told.journal_is told.last_is
    (record {
      lines_are = ap (λ c. c.lines) set;
      phase_is = ap (λ c. c.phase) set;
      requests_are = subst (λ x. Puts mark (request_at mark before.requests) before.requests x) (sym (ap (λ c. c.requests) set)) (puts_same mark before.requests);
    })
setting_taken before after mark given configuration files said chosen (Err e) is told set same = subst (λ x. RanOut mark nothing_left before x) (sym same) (ran_out_here before mark nothing_left)
