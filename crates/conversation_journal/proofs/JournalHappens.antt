-- What a line that is answered does.
use Rattle.std.proofs.Common.{◌≡◌, ◌∙◌, ℕ, Bool, true, false, cond, List, [], ◌∷◌, codes, Option, None, Some, Result, Ok, Err, MatchBool, MatchOption, MatchResult, refl, sym, ap, subst}
use Rattle.std.specs.List.{list_all}
use Rattle.std.specs.Option.{is_some, option_map}
use Rattle.hickory_proto_core.specs.Codes.{is_text}
use Rattle.hickory_proto_core.specs.Records.{RecordValue}
use Rattle.hickory_proto_core.specs.ResponseKind.{is_empty}
use Rattle.hickory_resolver_model.specs.Cache.{CacheValue}
use Rattle.hickory_resolver_model.specs.Run.{RequestValue, Settings, moment_of}
use Rattle.replay_script.specs.Configuration.{ConfigurationValue, with_setting}
use Rattle.replay_script.specs.FailLine.{error_of}
use Rattle.replay_script.specs.Fields.{fields, is_allowed, is_skipped}
use Rattle.replay_script.specs.Line.{IsSaid}
use Rattle.replay_script.specs.Reader.{answered}
use Rattle.replay_script.specs.ReplyLine.{opened_response}
use Rattle.replay_script.specs.Words.{◌>>=◌}
use Rattle.replay_script.specs.declared.fail_line.Failure.{Failure}
use Rattle.replay_script.specs.Faults.{LineFaultValue}
use Rattle.replay_script.specs.declared.fault.ScriptFault.TheVariants as script
use Rattle.replay_script.specs.declared.line.Line.{Line}
use Rattle.replay_script.specs.declared.line.Line.TheVariants as line
use Rattle.replay_script.specs.declared.record_line.Section.{Section}
use Rattle.replay_script.specs.declared.reply_line.ReplyHead.{ReplyHead}
use Rattle.replay_script.specs.declared.script.OpenReply.{OpenReply}
use Rattle.replay_script.specs.declared.setting.Setting.{Setting as OneSetting}
use Rattle.replay_script.specs.declared.setting.Setting.TheVariants as setting
use Rattle.conversation.specs.Answers.{Answer, AnswersDone, AnswersInFlight, AnswersLine, AnswersOutcome, AnswersSaid, AnswersSetting, BeginsRequest, BeginsOver, Feeds, FeedsReply, IsOpened, Takes, adds_line, cancels, file_line, keeps, lines_told, nothing, refused, sets, with_line}
use Rattle.conversation.specs.Files.{FilesValue, with_text}
use Rattle.conversation.specs.declared.files.FileKind.{FileKind}
use Rattle.conversation.specs.declared.files.FileKind.TheVariants.{Hosts, ResolvConf}
use Rattle.conversation.specs.Hearing.{Answers}
use Rattle.conversation_journal.specs.Journal.{moment_asked, moment_at, moment_behind}
use Rattle.conversation.specs.Faults.{RefusalValue, of_line, refusal_of, unknown}
use Rattle.conversation.specs.Lines.{IsAsked, mark_by, mark_in, mark_of, said_of, word_named}
use Rattle.conversation.specs.Said as said
use Rattle.conversation.specs.Said.{SaidValue, said_behind_mark, said_by_verb, said_by_word, said_explained, said_in}
use Rattle.conversation.specs.State.{ConversationValue, InFlightValue, Setting, Serving, Phase, request_at}
use Rattle.conversation.specs.Texts.{fields_text}
use Rattle.conversation.specs.declared.fault.ConversationFault.{ConversationFault}
use Rattle.conversation.specs.declared.fault.ConversationFault.TheVariants as fault
use Rattle.conversation.specs.declared.words.Word.{Word}
use Rattle.conversation.specs.declared.words.Word.TheVariants as word
use Rattle.conversation_journal.proofs.JournalTexts.{AreFields, fields-are}
use Rattle.conversation_journal.proofs.JournalSaid.{word-is}

-- no mode of the upstream
abbrev pub IsNoMode : OneSetting → Type 0
IsNoMode (setting.Option x) = Unit {0}
IsNoMode (setting.Domain x) = Unit {0}
IsNoMode (setting.Search x) = Unit {0}
IsNoMode (setting.Upstream x) = ⊥

pub data Happens (c : ConversationValue) (mark : List ℕ) (moment : Option ℕ) (answer : Answer) : Type 0 where
  unchanged : answer.journal ≡ [] → answer.phase ≡ c.phase → answer.held ≡ request_at mark c.requests → Happens c mark moment answer
  more_lines : (configuration : ConfigurationValue) (lines more : FilesValue) → c.phase ≡ Setting configuration lines → answer.phase ≡ Setting configuration more → answer.journal ≡ [] → answer.held ≡ request_at mark c.requests → Happens c mark moment answer
  set : (configuration : ConfigurationValue) (lines : FilesValue) (given : List (List ℕ)) (one : OneSetting) → c.phase ≡ Setting configuration lines → AreFields given → IsSaid false given (Ok (line.Configuration one)) → IsNoMode one
      → answer.phase ≡ Setting (with_setting one configuration) lines → answer.journal ≡ fields_text given → answer.text ≡ [] → answer.held ≡ request_at mark c.requests → Happens c mark moment answer
  begun : (given : List (List ℕ)) (explains : Bool) (q : RequestValue) (s : Settings) (cache : CacheValue) → request_at mark c.requests ≡ None → AreFields given → IsAsked given (Ok q) → moment ≡ moment_at given
      → IsOpened c.phase (moment_of q) (Ok (s, cache)) → BeginsOver mark explains q (lines_told c.phase) s cache answer → Happens c mark moment answer
  cancelled : (r : InFlightValue) → request_at mark c.requests ≡ Some r → answer.journal ≡ [] → answer.held ≡ None → Happens c mark moment answer
  opened : (r : InFlightValue) (given : List (List ℕ)) (head : ReplyHead) → request_at mark c.requests ≡ Some r → r.reply ≡ None → AreFields given → ((b : Bool) → IsSaid b given (Ok (line.Reply head)))
      → answer ≡ keeps c mark (record { begun = with_line r.begun given; waiting = r.waiting; reply = Some (record { query = head.query; message = opened_response head }) }) → Happens c mark moment answer
  recorded : (r : InFlightValue) (given : List (List ℕ)) (section : Section) (found : RecordValue) (reply : OpenReply) → request_at mark c.requests ≡ Some r → r.reply ≡ Some reply → AreFields given → IsSaid (is_some r.reply) given (Ok (line.Record section found))
      → answer ≡ keeps c mark (record { begun = with_line r.begun given; waiting = r.waiting; reply = option_map (answered section found) r.reply }) → Happens c mark moment answer
  done : (r : InFlightValue) (reply : OpenReply) → request_at mark c.requests ≡ Some r → r.reply ≡ Some reply → Feeds mark c.phase r.begun r.waiting (Ok reply.message) answer → Happens c mark moment answer
  failed : (r : InFlightValue) (given : List (List ℕ)) (failure : Failure) → request_at mark c.requests ≡ Some r → r.reply ≡ None → AreFields given → ((b : Bool) → IsSaid b given (Ok (line.Fail failure)))
      → Feeds mark c.phase (with_line r.begun given) r.waiting (Err (error_of failure.kind)) answer → Happens c mark moment answer

-- what was made of a value is of its kind
made : {A : Type 0} (make : A → Line) (r : Result A LineFaultValue) (said : Line) → Ok said ≡ (r >>= (λ x. Ok (make x))) → (x : A) × (said ≡ make x)
made make (Ok x) said is = let same : said ≡ make x = cc in (x, same)
made make (Err f) said is = absurd (let e = is in cc)

two_made : {A : Type 0} (make : A → OneSetting) → ((x : A) → IsNoMode (make x)) → (r : Result A LineFaultValue) (said : Line) → Ok said ≡ ((r >>= (λ x. Ok (make x))) >>= (λ x. Ok (line.Configuration x))) → (one : OneSetting) × (said ≡ line.Configuration one) × IsNoMode one
two_made make kind (Ok x) said is = let same : said ≡ line.Configuration (make x) = cc in (make x, same, kind x)
two_made make kind (Err f) said is = absurd (let e = is in cc)

-- a choice
pick : {X : Type 0} {G : Type 0} (P : X → Type 0) (b : Bool) (x y : X) → P (cond b x y) → (b ≡ true → P x → G) → (b ≡ false → P y → G) → G
pick P true x y p f g = f refl p
pick P false x y p f g = g refl p

module _ (c : ConversationValue) (mark : List ℕ) (moment : Option ℕ) (answer : Answer) where
  refuses : (f : RefusalValue) → answer ≡ refused c mark f → Happens c mark moment answer
  refuses f e = unchanged (ap (λ a. a.journal) e) (ap (λ a. a.phase) e) (ap (λ a. a.held) e)

  -- ---- settings

  file_by : (phase : Phase) (kind : FileKind) (behind : List (List ℕ)) → c.phase ≡ phase → answer ≡ adds_line c mark phase kind behind → Happens c mark moment answer
  file_by (Setting configuration files) kind behind at e = more_lines configuration files (with_text kind (file_line behind) files) at (ap (λ a. a.phase) e) (ap (λ a. a.journal) e) (ap (λ a. a.held) e)
  file_by (Serving s cache) kind behind at e = refuses (of_line fault.SettingAfterRequest) e

  ends_by : (b : Bool) → AnswersSaid c mark (cond b said.End (said.Refused (of_line (fault.Script script.FieldCount)))) answer → Happens c mark moment answer
  ends_by true e = unchanged (ap (λ a. a.journal) e) (ap (λ a. a.phase) e) (ap (λ a. a.held) e)
  ends_by false e = refuses (of_line (fault.Script script.FieldCount)) e

  -- what a line of a setting says
  setting_kind : (text : List ℕ) (behind : List (List ℕ)) (said : Line) → word_named text ≡ word.Setting → IsSaid false (text ∷ behind) (Ok said) → (one : OneSetting) × (said ≡ line.Configuration one) × IsNoMode one
  setting_kind text behind said named is =
      pick (λ w. w ≡ word.Setting) (is_text (codes "end") text) word.End _ named (λ h e. absurd (let x = e in cc)) (λ h0 named.
      pick (λ w. w ≡ word.Setting) (is_text (codes "hosts") text) (word.File Hosts) _ named (λ h e. absurd (let x = e in cc)) (λ h1 named.
      pick (λ w. w ≡ word.Setting) (is_text (codes "resolv") text) (word.File ResolvConf) _ named (λ h e. absurd (let x = e in cc)) (λ h5 named.
      pick (λ w. w ≡ word.Setting) (is_text (codes "option") text) word.Setting _ named (λ h e. of_option (word-is (codes "option") text h)) (λ h2 named.
      pick (λ w. w ≡ word.Setting) (is_text (codes "domain") text) word.Setting _ named (λ h e. of_domain (word-is (codes "domain") text h)) (λ h3 named.
      pick (λ w. w ≡ word.Setting) (is_text (codes "search") text) word.Setting _ named (λ h e. of_search (word-is (codes "search") text h)) (λ h4 named.
      pick (λ w. w ≡ word.Setting) (is_text (codes "-") text) word.Unused word.Mark named (λ h e. absurd (let x = e in cc)) (λ h e. absurd (let x = e in cc))))))))
    where
      at_word : (w : List ℕ) → text ≡ w → IsSaid false (w ∷ behind) (Ok said)
      at_word w e = subst (λ x. IsSaid false (x ∷ behind) (Ok said)) e is

      of_option : text ≡ codes "option" → (one : OneSetting) × (said ≡ line.Configuration one) × IsNoMode one
      of_option e = two_made (λ x. setting.Option x) (λ x. tt) _ said (at_word (codes "option") e)

      of_domain : text ≡ codes "domain" → (one : OneSetting) × (said ≡ line.Configuration one) × IsNoMode one
      of_domain e = two_made (λ x. setting.Domain x) (λ x. tt) _ said (at_word (codes "domain") e)

      of_search : text ≡ codes "search" → (one : OneSetting) × (said ≡ line.Configuration one) × IsNoMode one
      of_search e = two_made (λ x. setting.Search x) (λ x. tt) _ said (at_word (codes "search") e)

  set_by : (configuration : ConfigurationValue) (lines : FilesValue) (text : List ℕ) (behind : List (List ℕ)) → c.phase ≡ Setting configuration lines → word_named text ≡ word.Setting → AreFields (text ∷ behind)
      → (result : Result Line LineFaultValue) → IsSaid false (text ∷ behind) result → answer ≡ sets c mark configuration lines (text ∷ behind) (said_of result) → Happens c mark moment answer
  set_by configuration lines text behind at named own (Ok said) is e =
      let kind = setting_kind text behind said named is in
      let P : Line → Type 0 = λ l. IsSaid false (text ∷ behind) (Ok l) in
      let made : answer ≡ sets c mark configuration lines (text ∷ behind) (Ok (line.Configuration kind.0)) = e ∙ ap (λ l. sets c mark configuration lines (text ∷ behind) (Ok l)) kind.1 in
      set configuration lines (text ∷ behind) kind.0 at own (subst P kind.1 is) kind.2 (ap (λ a. a.phase) made) (ap (λ a. a.journal) made) (ap (λ a. a.text) made) (ap (λ a. a.held) made)
  set_by configuration lines text behind at named own (Err f) is e = refuses (refusal_of f) e

  setting_by : (phase : Phase) (text : List ℕ) (behind : List (List ℕ)) → c.phase ≡ phase → word_named text ≡ word.Setting → AreFields (text ∷ behind) → AnswersSetting c mark phase (text ∷ behind) answer → Happens c mark moment answer
  setting_by (Setting configuration lines) text behind at named own (said, (result, is, e), answer_is) =
      set_by configuration lines text behind at named own result is (answer_is ∙ ap (λ r. sets c mark configuration lines (text ∷ behind) r) e)
  setting_by (Serving s cache) text behind at named own e = refuses (of_line fault.SettingAfterRequest) e

  -- ---- requests

  begins_by : (given : List (List ℕ)) (explains : Bool) (q : RequestValue) → request_at mark c.requests ≡ None → AreFields given → IsAsked given (Ok q) → moment ≡ moment_at given → (over : Result (Settings × CacheValue) ConversationFault) → IsOpened c.phase (moment_of q) over
      → MatchResult over (λ o. BeginsOver mark explains q (lines_told c.phase) o.0 o.1 answer) (λ f. answer ≡ refused c mark (of_line f)) → Happens c mark moment answer
  begins_by given explains q none own asked at (Ok o) is serves = begun given explains q o.0 o.1 none own asked at is serves
  begins_by given explains q none own asked at (Err f) is e = refuses (of_line f) e

  asked_by : (given : List (List ℕ)) (explains : Bool) → request_at mark c.requests ≡ None → AreFields given → moment ≡ moment_at given → (asked : Result RequestValue RefusalValue) → IsAsked given asked → MatchResult asked (λ q. BeginsRequest c mark explains q answer) (λ f. answer ≡ refused c mark f) → Happens c mark moment answer
  asked_by given explains none own at (Ok q) is (over, opens, serves) = begins_by given explains q none own is at over opens serves
  asked_by given explains none own at (Err f) is e = refuses f e

  request_by : (given : List (List ℕ)) (explains : Bool) → AreFields given → moment ≡ moment_at given → (o : Option InFlightValue) → request_at mark c.requests ≡ o
      → MatchOption o ((asked : Result RequestValue RefusalValue) × IsAsked given asked × MatchResult asked (λ q. BeginsRequest c mark explains q answer) (λ f. answer ≡ refused c mark f)) (λ r. answer ≡ refused c mark (of_line fault.MarkInUse))
      → Happens c mark moment answer
  request_by given explains own at None none (asked, is, rest) = asked_by given explains none own at asked is rest
  request_by given explains own at (Some r) some e = refuses (of_line fault.MarkInUse) e

  -- ---- outcomes

  cancels_by : (r : InFlightValue) (b : Bool) → request_at mark c.requests ≡ Some r → answer ≡ cond b (cancels c mark []) (refused c mark (of_line (fault.Script script.FieldCount))) → Happens c mark moment answer
  cancels_by r true at e = cancelled r at (ap (λ a. a.journal) e) (ap (λ a. a.held) e)
  cancels_by r false at e = refuses (of_line (fault.Script script.FieldCount)) e

  done_by : (r : InFlightValue) (behind : List (List ℕ)) (b d : Bool) → request_at mark c.requests ≡ Some r
      → MatchBool b (MatchBool d (FeedsReply mark c.phase r answer) (answer ≡ refused c mark (of_line (fault.Script script.FieldCount)))) (answer ≡ refused c mark (of_line (fault.Script script.NoReply))) → Happens c mark moment answer
  done_by r behind true true at (reply, is_open, feeds) = done r reply at is_open feeds
  done_by r behind true false at e = refuses (of_line (fault.Script script.FieldCount)) e
  done_by r behind false d at e = refuses (of_line (fault.Script script.NoReply)) e

  none_open : (o : Option OpenReply) → is_some o ≡ false → o ≡ None
  none_open None e = refl
  none_open (Some x) e = absurd (let h = e in cc)

  some_open : (o : Option OpenReply) → is_some o ≡ true → (x : OpenReply) × (o ≡ Some x)
  some_open None e = absurd (let h = e in cc)
  some_open (Some x) e = (x, refl)

  first_by : (r : InFlightValue) (given : List (List ℕ)) → (AnswersLine c mark r given answer → is_some r.reply ≡ false → Happens c mark moment answer) → (b : Bool) → is_some r.reply ≡ b → MatchBool b (answer ≡ refused c mark (of_line fault.ReplyNotDone)) (AnswersLine c mark r given answer) → Happens c mark moment answer
  first_by r given go true is_open e = refuses (of_line fault.ReplyNotDone) e
  first_by r given go false none is = go is none

  line_by : (r : InFlightValue) (given : List (List ℕ)) (result : Result Line LineFaultValue) → ((said : Line) → IsSaid (is_some r.reply) given (Ok said) → Takes c mark r given (Ok said) answer → Happens c mark moment answer)
      → IsSaid (is_some r.reply) given result → Takes c mark r given (said_of result) answer → Happens c mark moment answer
  line_by r given (Ok said) go is takes = go said is takes
  line_by r given (Err f) go is e = refuses (refusal_of f) e

  a_line : (r : InFlightValue) (given : List (List ℕ)) → ((said : Line) → IsSaid (is_some r.reply) given (Ok said) → Takes c mark r given (Ok said) answer → Happens c mark moment answer) → AnswersLine c mark r given answer → Happens c mark moment answer
  a_line r given go (said, (result, is, e), takes) = line_by r given result go is (subst (λ x. Takes c mark r given x answer) e takes)

  reply_by : (r : InFlightValue) (behind : List (List ℕ)) → request_at mark c.requests ≡ Some r → AreFields (codes "reply" ∷ behind) → AnswersOutcome c mark r true (codes "reply" ∷ behind) answer → Happens c mark moment answer
  reply_by r behind at own is = first_by r (codes "reply" ∷ behind) (λ a none. a_line r (codes "reply" ∷ behind) (λ said is takes.
      let m = made (λ head. line.Reply head) _ said is in
      opened r (codes "reply" ∷ behind) m.0 at (none_open r.reply none) own (λ b. subst (λ l. IsSaid b (codes "reply" ∷ behind) (Ok l)) m.1 is) (subst (λ l. Takes c mark r (codes "reply" ∷ behind) (Ok l) answer) m.1 takes)) a) (is_some r.reply) refl is

  fail_by : (r : InFlightValue) (behind : List (List ℕ)) → request_at mark c.requests ≡ Some r → AreFields (codes "fail" ∷ behind) → AnswersOutcome c mark r true (codes "fail" ∷ behind) answer → Happens c mark moment answer
  fail_by r behind at own is = first_by r (codes "fail" ∷ behind) (λ a none. a_line r (codes "fail" ∷ behind) (λ said is takes.
      let m = made (λ x. line.Fail x) is.0 said is.2 in
      failed r (codes "fail" ∷ behind) m.0 at (none_open r.reply none) own (λ b. subst (λ l. IsSaid b (codes "fail" ∷ behind) (Ok l)) m.1 is) (subst (λ l. Takes c mark r (codes "fail" ∷ behind) (Ok l) answer) m.1 takes)) a) (is_some r.reply) refl is

  recorded_by : (r : InFlightValue) (w : List ℕ) (behind : List (List ℕ)) (section : Section) → request_at mark c.requests ≡ Some r → AreFields (w ∷ behind) → ((said : Line) → IsSaid true (w ∷ behind) (Ok said) → (found : RecordValue) × (said ≡ line.Record section found))
      → ((said : Line) → IsSaid false (w ∷ behind) (Ok said) → ⊥) → AnswersLine c mark r (w ∷ behind) answer → Happens c mark moment answer
  recorded_by r w behind section at own kind none = a_line r (w ∷ behind) (λ said is takes. by (is_some r.reply) refl said is takes)
    where
      by : (b : Bool) → is_some r.reply ≡ b → (said : Line) → IsSaid (is_some r.reply) (w ∷ behind) (Ok said) → Takes c mark r (w ∷ behind) (Ok said) answer → Happens c mark moment answer
      by true e said is takes =
          let is_open = some_open r.reply e in
          let k = kind said (subst (λ b. IsSaid b (w ∷ behind) (Ok said)) e is) in
          recorded r (w ∷ behind) section k.0 is_open.0 at is_open.1 own (subst (λ l. IsSaid (is_some r.reply) (w ∷ behind) (Ok l)) k.1 is) (subst (λ l. Takes c mark r (w ∷ behind) (Ok l) answer) k.1 takes)
      by false e said is takes = absurd (none said (subst (λ b. IsSaid b (w ∷ behind) (Ok said)) e is))

  answer_by : (r : InFlightValue) (behind : List (List ℕ)) → request_at mark c.requests ≡ Some r → AreFields (codes "answer" ∷ behind) → AnswersLine c mark r (codes "answer" ∷ behind) answer → Happens c mark moment answer
  answer_by r behind at own is = recorded_by r (codes "answer") behind _ at own (λ said is. made (λ x. line.Record _ x) is.0 said is.2) (λ said e. let h = e in cc) is

  authority_by : (r : InFlightValue) (behind : List (List ℕ)) → request_at mark c.requests ≡ Some r → AreFields (codes "authority" ∷ behind) → AnswersLine c mark r (codes "authority" ∷ behind) answer → Happens c mark moment answer
  authority_by r behind at own is = recorded_by r (codes "authority") behind _ at own (λ said is. made (λ x. line.Record _ x) is.0 said is.2) (λ said e. let h = e in cc) is

  additional_by : (r : InFlightValue) (behind : List (List ℕ)) → request_at mark c.requests ≡ Some r → AreFields (codes "additional" ∷ behind) → AnswersLine c mark r (codes "additional" ∷ behind) answer → Happens c mark moment answer
  additional_by r behind at own is = recorded_by r (codes "additional") behind _ at own (λ said is. made (λ x. line.Record _ x) is.0 said is.2) (λ said e. let h = e in cc) is

  -- ---- verbs

  by_first : (D w : List ℕ) (behind : List (List ℕ)) (r : InFlightValue) → is_text D w ≡ true → (AreFields (D ∷ behind) → AnswersOutcome c mark r true (D ∷ behind) answer → Happens c mark moment answer) → AreFields (w ∷ behind) → AnswersOutcome c mark r true (w ∷ behind) answer → Happens c mark moment answer
  by_first D w behind r h go = subst (λ x. AreFields (x ∷ behind) → AnswersOutcome c mark r true (x ∷ behind) answer → Happens c mark moment answer) (sym (word-is D w h)) go

  by_line : (D w : List ℕ) (behind : List (List ℕ)) (r : InFlightValue) → is_text D w ≡ true → (AreFields (D ∷ behind) → AnswersLine c mark r (D ∷ behind) answer → Happens c mark moment answer) → AreFields (w ∷ behind) → AnswersOutcome c mark r false (w ∷ behind) answer → Happens c mark moment answer
  by_line D w behind r h go = subst (λ x. AreFields (x ∷ behind) → AnswersOutcome c mark r false (x ∷ behind) answer → Happens c mark moment answer) (sym (word-is D w h)) go

  flight_by : (Kind : InFlightValue → Answer → Type 0) → ((r : InFlightValue) → request_at mark c.requests ≡ Some r → Kind r answer → Happens c mark moment answer)
      → (o : Option InFlightValue) → request_at mark c.requests ≡ o → MatchOption o (answer ≡ refused c mark (of_line fault.NoSuchRequest)) (λ r. Kind r answer) → Happens c mark moment answer
  flight_by Kind go None at e = refuses (of_line fault.NoSuchRequest) e
  flight_by Kind go (Some r) at is = go r at is

  flight : (Kind : InFlightValue → Answer → Type 0) → ((r : InFlightValue) → request_at mark c.requests ≡ Some r → Kind r answer → Happens c mark moment answer) → AnswersInFlight c mark Kind answer → Happens c mark moment answer
  flight Kind go a = flight_by Kind go (request_at mark c.requests) refl a

  explained_by : (behind : List (List ℕ)) → AreFields behind → moment ≡ moment_at behind → AnswersSaid c mark (said_explained behind) answer → Happens c mark moment answer
  explained_by [] own at e = refuses (unknown []) e
  explained_by (w ∷ behind) own at is =
      pick (λ v. AnswersSaid c mark v answer) (is_text (codes "at") w) (said.Request true (w ∷ behind)) (said.Refused (unknown (w ∷ behind))) is
      (λ h a. request_by (w ∷ behind) true own at (request_at mark c.requests) refl a) (λ h e. refuses (unknown (w ∷ behind)) e)

  verb_by : (w : List ℕ) (behind : List (List ℕ)) → AreFields (w ∷ behind) → (is_text (codes "explain") w ≡ true → moment ≡ moment_at behind) → (is_text (codes "explain") w ≡ false → moment ≡ moment_at (w ∷ behind)) → AnswersSaid c mark (said_by_verb w behind (w ∷ behind)) answer → Happens c mark moment answer
  verb_by w behind own explained plain is =
      let P : SaidValue → Type 0 = λ v. AnswersSaid c mark v answer in
      let given = w ∷ behind in
      let First : InFlightValue → Answer → Type 0 = λ r a. AnswersOutcome c mark r true given a in
      let More : InFlightValue → Answer → Type 0 = λ r a. AnswersOutcome c mark r false given a in
      pick P (is_text (codes "explain") w) (said_explained behind) _ is (λ h a. explained_by behind own.1 (explained h) a) (λ h0 is.
      pick P (is_text (codes "at") w) (said.Request false given) _ is (λ h a. request_by given false own (plain h0) (request_at mark c.requests) refl a) (λ h1 is.
      pick P (is_text (codes "reply") w) (said.Outcome true given) _ is (λ h a. flight First (λ r at x. by_first (codes "reply") w behind r h (reply_by r behind at) own x) a) (λ h2 is.
      pick P (is_text (codes "fail") w) (said.Outcome true given) _ is (λ h a. flight First (λ r at x. by_first (codes "fail") w behind r h (fail_by r behind at) own x) a) (λ h3 is.
      pick P (is_text (codes "answer") w) (said.Outcome false given) _ is (λ h a. flight More (λ r at x. by_line (codes "answer") w behind r h (answer_by r behind at) own x) a) (λ h4 is.
      pick P (is_text (codes "authority") w) (said.Outcome false given) _ is (λ h a. flight More (λ r at x. by_line (codes "authority") w behind r h (authority_by r behind at) own x) a) (λ h5 is.
      pick P (is_text (codes "additional") w) (said.Outcome false given) _ is (λ h a. flight More (λ r at x. by_line (codes "additional") w behind r h (additional_by r behind at) own x) a) (λ h6 is.
      pick P (is_text (codes "done") w) (said.Done behind) _ is (λ h a. flight (λ r a. AnswersDone c mark r behind a) (λ r at x. done_by r behind (is_some r.reply) (is_empty behind) at x) a) (λ h7 is.
      pick P (is_text (codes "cancel") w) (said.Cancel behind) (said.Refused (unknown given)) is (λ h a. flight (λ r a. a ≡ cancels c mark behind) (λ r at x. cancels_by r (is_empty behind) at x) a) (λ h8 e. refuses (unknown given) e)))))))))

  -- ---- words

  marked_by : (behind : List (List ℕ)) → AreFields behind → moment ≡ moment_behind behind → AnswersSaid c mark (said_behind_mark behind) answer → Happens c mark moment answer
  marked_by [] own at e = refuses (unknown []) e
  marked_by (w ∷ behind) own at is =
      let pick_at : (b : Bool) → Option ℕ = λ b. cond b (moment_at behind) (moment_at (w ∷ behind)) in
      verb_by w behind own (λ h. at ∙ ap pick_at h) (λ h. at ∙ ap pick_at h) is

-- whatever the first word is
word_by : (c : ConversationValue) (t : List ℕ) (answer : Answer) (w : List ℕ) (behind : List (List ℕ)) → mark_of t ≡ mark_by (word_named w) w → AreFields (w ∷ behind)
    → AnswersSaid c (mark_by (word_named w) w) (said_by_word (word_named w) behind (w ∷ behind)) answer → Happens c (mark_of t) (moment_behind behind) answer
word_by c t answer w behind mark_is own is = subst (λ m. Happens c m (moment_behind behind) answer) (sym mark_is) (by (word_named w) refl is)
  where
    by : (x : Word) → word_named w ≡ x → AnswersSaid c (mark_by x w) (said_by_word x behind (w ∷ behind)) answer → Happens c (mark_by (word_named w) w) (moment_behind behind) answer
    by word.End e is = subst (λ x. Happens c (mark_by x w) (moment_behind behind) answer) (sym e) (ends_by c (codes "-") (moment_behind behind) answer (is_empty behind) is)
    by (word.File kind) e is = subst (λ x. Happens c (mark_by x w) (moment_behind behind) answer) (sym e) (file_by c (codes "-") (moment_behind behind) answer c.phase kind behind refl is)
    by word.Setting e is = subst (λ x. Happens c (mark_by x w) (moment_behind behind) answer) (sym e) (setting_by c (codes "-") (moment_behind behind) answer c.phase w behind refl e own is)
    by word.Unused e is = subst (λ x. Happens c (mark_by x w) (moment_behind behind) answer) (sym e) (refuses c (codes "-") (moment_behind behind) answer (unknown (w ∷ behind)) is)
    by word.Mark e is = subst (λ x. Happens c (mark_by x w) (moment_behind behind) answer) (sym e) (marked_by c w (moment_behind behind) answer behind own.1 refl is)

nothing_heard : (c : ConversationValue) (mark : List ℕ) (moment : Option ℕ) (answer : Answer) → answer ≡ nothing c mark → Happens c mark moment answer
nothing_heard c mark moment answer e = unchanged (ap (λ a. a.journal) e) (ap (λ a. a.phase) e) (ap (λ a. a.held) e)

fields_by : (c : ConversationValue) (t : List ℕ) (answer : Answer) (given : List (List ℕ)) → mark_of t ≡ mark_in given → AreFields given → AnswersSaid c (mark_in given) (said_in given) answer → Happens c (mark_of t) (moment_asked given) answer
fields_by c t answer [] mark_is own e = subst (λ m. Happens c m None answer) (sym mark_is) (nothing_heard c (codes "-") None answer e)
fields_by c t answer (w ∷ behind) mark_is own is = word_by c t answer w behind mark_is own is

-- each answer does one of these
pub happens : (c : ConversationValue) (t : List ℕ) (answer : Answer) → Answers c t answer → Happens c (mark_of t) (moment_asked (fields t)) answer
happens c t answer is = by (is_skipped t) (list_all is_allowed t) refl refl is
  where
    by : (b d : Bool) → is_skipped t ≡ b → list_all is_allowed t ≡ d
        → AnswersSaid c (cond b (codes "-") (cond d (mark_in (fields t)) (codes "-"))) (cond b said.Nothing (cond d (said_in (fields t)) (said.Refused (of_line (fault.Script script.BadByte))))) answer
        → Happens c (mark_of t) (moment_asked (fields t)) answer
    by true d h e is = subst (λ m. Happens c m (moment_asked (fields t)) answer) (sym (rw h refl)) (nothing_heard c (codes "-") (moment_asked (fields t)) answer is)
    by false true h e is = fields_by c t answer (fields t) (rw (h, e) refl) (fields-are t e) is
    by false false h e is = subst (λ m. Happens c m (moment_asked (fields t)) answer) (sym (rw (h, e) refl)) (refuses c (codes "-") (moment_asked (fields t)) answer (of_line (fault.Script script.BadByte)) is)
