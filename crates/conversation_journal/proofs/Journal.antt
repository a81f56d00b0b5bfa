-- What goes out of a conversation with one request at a time is what a replay of its journal writes.
use Rattle.std.proofs.Common.{◌≡◌, ◌∙◌, ◌≤◌, ◌||◌, ℕ, Bool, true, false, cond, not, List, [], ◌∷◌, ◌++◌, map, Option, None, Some, Ok, Err, MatchBool, refl, sym, ap, ap₂, subst, append_assoc}
use Rattle.std.proofs.lemmas.List.{append-nil}
use Rattle.std.specs.Cmp.Lexicographic.{same_text}
use Rattle.std.specs.Option.{is_some, option_map}
use Rattle.std.specs.Str.{bytes_eq}
use Rattle.std.specs.Str.Lines.{lines}
use Rattle.hickory_proto_core.specs.Handles.{OutcomeValue}
use Rattle.hickory_proto_core.specs.Records.{RecordValue}
use Rattle.hickory_proto_core.specs.ResponseKind.{is_empty}
use Rattle.hickory_resolver_lookup.specs.Requests.{request_of}
use Rattle.hickory_resolver_model.specs.Bounds.{bounds_fault}
use Rattle.hickory_resolver_model.specs.Cache.{CacheValue}
use Rattle.hickory_resolver_model.specs.Options.{bounds_of}
use Rattle.hickory_resolver_model.specs.Run.{RequestValue, Settings, first_cache, moment_of, settings_of}
use Rattle.hickory_proto_core.specs.Handles.{ScriptStep}
use Rattle.hickory_proto_core.specs.declared.recorded.Exchange.{Exchange}
use Rattle.replay.specs.ScriptRun.{IsReplayed, IsTable, IsTableTold, IsTextOfRun, first_moment}
use Rattle.replay_script.specs.Configuration.{ConfigurationValue, configured}
use Rattle.replay_script.specs.FailLine.{error_of}
use Rattle.replay_script.specs.Fields.{fields}
use Rattle.replay_script.specs.Line.{IsSaid}
use Rattle.replay_script.specs.Reader.{ReaderValue, answered}
use Rattle.replay_script.specs.Reader as read
use Rattle.replay_script.specs.ReplyLine.{opened_response}
use Rattle.replay_script.specs.Script.{AreRead, requests_of, settings_of as settings_in, outcomes_of as outcomes_said}
use Rattle.replay_script.specs.declared.fail_line.Failure.{Failure}
use Rattle.replay_script.specs.declared.record_line.Section.{Section}
use Rattle.replay_script.specs.declared.reply_line.ReplyHead.{ReplyHead}
use Rattle.replay_script.specs.declared.script.OpenReply.{OpenReply}
use Rattle.replay_script.specs.declared.line.Line.{Line}
use Rattle.replay_script.specs.declared.line.Line.TheVariants as line
use Rattle.conversation.specs.Answers.{Answer, BeginsOver, Feeds, IsOpened, Looks, Serves, config_of, just_begun, keeps, lines_told, telling, with_line}
use Rattle.conversation.specs.Files.{FilesValue, only_hosts}
use Rattle.conversation.specs.Hearing.{Answers, Stands, silent}
use Rattle.conversation_journal.specs.Journal.{AreHeard, AreInTurn, BeginsNone, Busy, CanServe, Idle, IsInTurn, IsNoEarlier, IsOver, IsScriptOfBlocks, Turn, block_of, blocks_of, hosts_after, hosts_stood, journal_of, later, moment_asked, moment_at, moment_begun, next_turn, turn_of}
use Rattle.conversation.specs.Lines.{mark_of}
use Rattle.conversation.specs.State.{BegunValue, ConversationValue, InFlightValue, Puts, Serving, Setting, Phase, counted, request_at}
use Rattle.conversation.specs.Texts.{fields_text}
use Rattle.conversation_journal.proofs.JournalTexts.{AreFields, lines-whole, whole_lines}
use Rattle.conversation_journal.proofs.JournalRuns.{HasRun, none_run, run-as, run-told, sent_so}
use Rattle.conversation_journal.proofs.JournalSaid.{IsAskedIn, asked_in}
use Rattle.conversation_journal.proofs.JournalRequests.{IsWritable}
use Rattle.conversation_journal.proofs.JournalScript.{IsScript, fresh, none_script}
use Rattle.conversation_journal.proofs.JournalHappens.{Happens, begun, cancelled, done, failed, happens, more_lines, opened, recorded, set, unchanged}
use Rattle.conversation_journal.proofs.JournalStands.{IsBusy, IsGot, IsSetUp, IsSettingUp, IsUnderWay, StandsAt, outcomes_in, outcomes_of}
use Rattle.conversation_journal.proofs.JournalSteps.{IsHeld, IsTold as IsToldSo, NextIdle, feed, file-more, held-idle, held-other, held-own, no-block, no-text, none-begun, quiet, same-block, same-hosts, serves, set-more, setting-up, some-begun, telling-told, told-of, underway, way-done, way-failure, way-record, way-reply}

-- no request, and one
apart : {X : Type 0} (o : Option InFlightValue) (r : InFlightValue) → o ≡ None → o ≡ Some r → X
apart o r none some = absurd (let e : None ≡ Some r = sym none ∙ some in cc)

two_phases : {X : Type 0} (configuration : ConfigurationValue) (lines : FilesValue) (s : Settings) (cache : CacheValue) (phase : Phase) → phase ≡ Serving s cache → phase ≡ Setting configuration lines → X
two_phases configuration lines s cache phase a b = absurd (let e : Serving s cache ≡ Setting configuration lines = sym a ∙ b in cc)

-- ---- a line while no request is in flight

module _ (hosts J B : List ℕ) (c : ConversationValue) (text : List ℕ) (answer : Answer) (latest : ℕ) (held : Option InFlightValue) (stands : StandsAt hosts J B (Idle latest) c.phase held) (none : request_at (mark_of text) c.requests ≡ None) where
  abbrev line_mark : List ℕ
  line_mark = mark_of text

  abbrev Next : Type 0
  Next = NextIdle hosts J B line_mark (later latest (moment_begun text answer answer.phase)) answer

  -- no request was begun
  still : (h : answer.held ≡ None) (j : answer.journal ≡ []) → NextIdle hosts J B line_mark latest answer → Next
  still h j next = subst (λ m. NextIdle hosts J B line_mark (later latest m) answer) (sym (none-begun text answer answer.phase h j)) next

  setting_next : (configuration : ConfigurationValue) (lines : FilesValue) (one : ConfigurationValue) (told : List ℕ) → answer.phase ≡ Setting one lines → answer.journal ≡ told → answer.text ≡ [] → answer.held ≡ None → latest ≡ 0 → IsSettingUp one (J ++ told) B → Next
  setting_next configuration lines one told st j t h zero_is is =
      let P : Phase → Type 0 = λ x. StandsAt (hosts_after hosts x) (J ++ answer.journal) (B ++ block_of line_mark answer) (turn_of line_mark answer.held (later latest (moment_begun text answer x))) x answer.held in
      let Q : Option InFlightValue → Type 0 = λ o. StandsAt lines.hosts (J ++ answer.journal) (B ++ block_of line_mark answer) (turn_of line_mark o latest) (Setting one lines) o in
      let R : List ℕ → Type 0 = λ x. IsSettingUp one (J ++ x) (B ++ block_of line_mark answer) in
      let T : List ℕ → Type 0 = λ x. IsSettingUp one (J ++ told) x in
      let b_is : B ≡ B ++ block_of line_mark answer = sym (append-nil B) ∙ ap (λ x. B ++ x) (sym (no-text line_mark answer t)) in
      subst P (sym st) (subst Q (sym h) (refl, zero_is, subst R (sym j) (subst T b_is is)))

  begun_next : (given : List (List ℕ)) (explains : Bool) (q : RequestValue) (s : Settings) (cache : CacheValue) → IsAskedIn given q → moment_asked (fields text) ≡ moment_at given → IsOpened c.phase (moment_of q) (Ok (s, cache)) → BeginsOver line_mark explains q (lines_told c.phase) s cache answer → IsInTurn (Idle latest) text answer → Next
  begun_next given explains q s cache a at opens (served, serving, answer_is) turn =
      let asked = a.asked in
      let p = request_of asked in
      let T = lines_told c.phase in
      let serving : Serves line_mark explains p s cache served = subst (λ x. Serves line_mark explains x s cache served) (sym a.asked_is) serving in
      let opens : IsOpened c.phase (moment_of p) (Ok (s, cache)) = subst (λ x. IsOpened c.phase (moment_of x) (Ok (s, cache))) (sym a.asked_is) opens in
      let told = told-of line_mark serving.3 s (just_begun p explains) serving.0 serving.1 served serving.5 in
      let whole : IsToldSo s serving.1 answer = subst (λ x. IsToldSo s serving.1 x) (sym answer_is) (telling-told T s serving.1 served told) in
      let moment : moment_begun text answer answer.phase ≡ Some (moment_of p) = some-begun text answer s serving.1 whole ∙ at ∙ a.moment_is ∙ ap (λ x. Some (moment_of x)) (sym a.asked_is) in
      let order : latest ≤ moment_of p = subst (IsNoEarlier latest) moment turn in
      let w = underway hosts J B latest c.phase held asked s cache stands opens order (subst IsWritable (sym a.asked_is) a.writable) in
      let M : Option ℕ → Type 0 = λ m. NextIdle hosts J B line_mark (later latest m) answer in
      let H : List ℕ → Type 0 = λ h. StandsAt h (J ++ answer.journal) (B ++ block_of line_mark answer) (turn_of line_mark answer.held (moment_of p)) answer.phase answer.held in
      let A : Answer → Type 0 = λ x. StandsAt hosts (J ++ x.journal) (B ++ block_of line_mark x) (turn_of line_mark x.held (moment_of p)) x.phase x.held in
      let Q : List ℕ → Type 0 = λ j. StandsAt hosts j (B ++ block_of line_mark (telling T served)) (turn_of line_mark served.held (moment_of p)) served.phase served.held in
      let R : List ℕ → Type 0 = λ b. StandsAt hosts ((J ++ T) ++ served.journal) (B ++ b) (turn_of line_mark served.held (moment_of p)) served.phase served.held in
      let hosts_is : hosts ≡ hosts_after hosts answer.phase = sym (ap (λ x. hosts_after hosts x) whole.phase_is) in
      subst M (sym moment) (subst H hosts_is (subst A (sym answer_is) (subst Q (append_assoc J T served.journal) (subst R (sym (same-block line_mark T served told.some)) (serves hosts (J ++ T) B line_mark explains asked s cache served w serving)))))

  idle_next : Happens c line_mark (moment_asked (fields text)) answer → IsInTurn (Idle latest) text answer → Next
  idle_next (unchanged j st h) turn = still (h ∙ none) j (quiet hosts J B line_mark latest answer c.phase j (h ∙ none) st (same-hosts hosts J B latest c.phase held stands))
  idle_next (more_lines configuration lines more at st j h) turn =
      let up = setting-up hosts J B latest c.phase held configuration lines at stands in
      still (h ∙ none) j (quiet hosts J B line_mark latest answer (Setting configuration more) j (h ∙ none) st (refl, up.1, up.2))
  idle_next (set configuration lines given one at own says kind st j t h) turn =
      let up = setting-up hosts J B latest c.phase held configuration lines at stands in
      setting_next configuration lines _ _ st j t (h ∙ none) up.1 (set-more configuration J B given one own says kind up.2)
  idle_next (begun given explains q s cache free own asked at opens serving) turn = begun_next given explains q s cache (asked_in given q own asked) at opens serving turn
  idle_next (cancelled r some j h) turn = apart _ r none some
  idle_next (opened r given head some closed own says e) turn = apart _ r none some
  idle_next (recorded r given section found reply some closed own says e) turn = apart _ r none some
  idle_next (done r reply some closed feeds) turn = apart _ r none some
  idle_next (failed r given failure some closed own says feeds) turn = apart _ r none some

-- ---- a line for the request that is in flight

some_same : {r k : InFlightValue} (o : Option InFlightValue) → o ≡ Some r → o ≡ Some k → r ≡ k
some_same o a b = let e = sym a ∙ b in cc

module _ (hosts J B : List ℕ) (c : ConversationValue) (text : List ℕ) (answer : Answer) (latest : ℕ) (s : Settings) (cache : CacheValue) (at : c.phase ≡ Serving s cache) (k : InFlightValue) (b : IsBusy hosts J B latest s cache k) (mine : request_at (mark_of text) c.requests ≡ Some k) where
  abbrev own_mark : List ℕ
  own_mark = mark_of text

  abbrev NextOwn : Answer → Type 0
  NextOwn a = NextIdle hosts J B own_mark latest a

  -- it waits as before
  kept : (r : InFlightValue) → IsBusy hosts J B latest s cache r → answer.journal ≡ [] → answer.phase ≡ c.phase → answer.held ≡ Some r → NextOwn answer
  kept r busy j st h =
      let P : Phase → Type 0 = λ x. StandsAt (hosts_after hosts x) (J ++ answer.journal) (B ++ block_of own_mark answer) (turn_of own_mark answer.held latest) x answer.held in
      let Q : Option InFlightValue → Type 0 = λ o. StandsAt hosts (J ++ answer.journal) (B ++ block_of own_mark answer) (turn_of own_mark o latest) (Serving s cache) o in
      let R : List ℕ → Type 0 = λ x. IsBusy hosts x (B ++ block_of own_mark answer) latest s cache r in
      let T : List ℕ → Type 0 = λ x. IsBusy hosts J x latest s cache r in
      let j_is : J ≡ J ++ answer.journal = sym (append-nil J) ∙ ap (λ x. J ++ x) (sym j) in
      let b_is : B ≡ B ++ block_of own_mark answer = sym (append-nil B) ∙ ap (λ x. B ++ x) (sym (no-block own_mark answer j)) in
      subst P (sym (st ∙ at)) (subst Q (sym h) (subst R j_is (subst T b_is busy)))

  -- it is over, or waits for what comes back to its next question
  fed : (outcome : OutcomeValue) (told : BegunValue) → IsUnderWay hosts J B s b.asked (b.asks ++ record { query = k.waiting.lookup.hop.query; outcome = outcome } ∷ []) told.told b.start None → told.request ≡ request_of b.asked → told.sent ≡ k.begun.sent
      → Feeds own_mark c.phase told k.waiting outcome answer → NextOwn answer
  fed outcome told way request_is sent_is feeds =
      let feeds : Feeds own_mark (Serving s cache) told k.waiting outcome answer = subst (λ x. Feeds own_mark x told k.waiting outcome answer) at feeds in
      let is = told-of own_mark [] s told (Looks feeds.0) feeds.1 answer feeds.3 in
      let N : ℕ → Type 0 = λ n. StandsAt hosts (J ++ answer.journal) (B ++ block_of own_mark answer) (turn_of own_mark answer.held n) answer.phase answer.held in
      let H : List ℕ → Type 0 = λ h. StandsAt h (J ++ answer.journal) (B ++ block_of own_mark answer) (turn_of own_mark answer.held latest) answer.phase answer.held in
      subst H (sym (ap (λ x. hosts_after hosts x) is.phase_is)) (subst N (sym b.latest_is) (feed hosts J B latest s cache k own_mark b outcome told answer way request_is sent_is feeds))

  -- it waits on, with one more line
  told_more : (given : List (List ℕ)) (reply : Option OpenReply) → IsUnderWay hosts J B s b.asked b.asks (k.begun.told ++ fields_text given) b.start reply → answer ≡ keeps c own_mark (record { begun = with_line k.begun given; waiting = k.waiting; reply = reply }) → NextOwn answer
  told_more given reply way e =
      kept (record { begun = with_line k.begun given; waiting = k.waiting; reply = reply })
      (record { asked = b.asked; asks = b.asks; start = b.start; call = b.call; way = way; request_is = b.request_is; sent_are = b.sent_are; call_is = b.call_is; far = b.far; latest_is = b.latest_is })
      (ap (λ a. a.journal) e) (ap (λ a. a.phase) e) (ap (λ a. a.held) e)

  abbrev WayOf : Option OpenReply → Type 0
  WayOf reply = IsUnderWay hosts J B s b.asked b.asks k.begun.told b.start reply

  opened_next : (given : List (List ℕ)) (head : ReplyHead) → k.reply ≡ None → AreFields given → ((b : Bool) → IsSaid b given (Ok (line.Reply head)))
      → answer ≡ keeps c own_mark (record { begun = with_line k.begun given; waiting = k.waiting; reply = Some (record { query = head.query; message = opened_response head }) }) → NextOwn answer
  opened_next given head closed own says e =
      told_more given (Some (record { query = head.query; message = opened_response head })) (way-reply hosts J B s b.asked b.asks k.begun.told b.start given own head says (subst WayOf closed b.way)) e

  recorded_next : (given : List (List ℕ)) (section : Section) (found : RecordValue) (reply : OpenReply) → k.reply ≡ Some reply → AreFields given → IsSaid (is_some k.reply) given (Ok (line.Record section found))
      → answer ≡ keeps c own_mark (record { begun = with_line k.begun given; waiting = k.waiting; reply = option_map (answered section found) k.reply }) → NextOwn answer
  recorded_next given section found reply is_open own says e =
      let says : IsSaid true given (Ok (line.Record section found)) = subst (λ o. IsSaid (is_some o) given (Ok (line.Record section found))) is_open says in
      let e : answer ≡ keeps c own_mark (record { begun = with_line k.begun given; waiting = k.waiting; reply = Some (answered section found reply) }) =
      e ∙ ap (λ o. keeps c own_mark (record { begun = with_line k.begun given; waiting = k.waiting; reply = option_map (answered section found) o })) is_open in
      told_more given (Some (answered section found reply)) (way-record hosts J B s b.asked b.asks k.begun.told b.start given own section found reply says (subst WayOf is_open b.way)) e

  done_next : (reply : OpenReply) → k.reply ≡ Some reply → Feeds own_mark c.phase k.begun k.waiting (Ok reply.message) answer → NextOwn answer
  done_next reply is_open feeds =
      fed (Ok reply.message) k.begun (way-done hosts J B s b.asked b.asks k.begun.told b.start reply (record { query = k.waiting.lookup.hop.query; outcome = Ok reply.message }) refl (subst WayOf is_open b.way)) b.request_is refl feeds

  failed_next : (given : List (List ℕ)) (failure : Failure) → k.reply ≡ None → AreFields given → ((b : Bool) → IsSaid b given (Ok (line.Fail failure))) → Feeds own_mark c.phase (with_line k.begun given) k.waiting (Err (error_of failure.kind)) answer → NextOwn answer
  failed_next given failure closed own says feeds =
      fed (Err (error_of failure.kind)) (with_line k.begun given) (way-failure hosts J B s b.asked b.asks k.begun.told b.start given own failure (record { query = k.waiting.lookup.hop.query; outcome = Err (error_of failure.kind) }) refl says (subst WayOf closed b.way)) b.request_is refl feeds

  own_next : Happens c own_mark (moment_asked (fields text)) answer → IsOver answer answer.held → NextOwn answer
  own_next (unchanged j st h) is_over = kept k b j st (h ∙ mine)
  own_next (more_lines configuration lines more up st j h) is_over = two_phases configuration lines s cache c.phase at up
  own_next (set configuration lines given one up own says kind st j t h) is_over = two_phases configuration lines s cache c.phase at up
  own_next (begun given explains q t before none own asked m opens serving) is_over = apart _ k none mine
  own_next (cancelled r some j h) is_over =
      let over : is_empty answer.journal ≡ false = subst (IsOver answer) h is_over in
      absurd (let clash : true ≡ false = ap is_empty (sym j) ∙ over in cc)
  own_next (opened r given head some closed own says e) is_over =
      let P : InFlightValue → Type 0 = λ x. x.reply ≡ None → answer ≡ keeps c own_mark (record { begun = with_line x.begun given; waiting = x.waiting; reply = Some (record { query = head.query; message = opened_response head }) }) → NextOwn answer in
      subst P (some_same _ mine some) (λ closed e. opened_next given head closed own says e) closed e
  own_next (recorded r given section found reply some is_open own says e) is_over =
      let P : InFlightValue → Type 0 = λ x. x.reply ≡ Some reply → IsSaid (is_some x.reply) given (Ok (line.Record section found)) → answer ≡ keeps c own_mark (record { begun = with_line x.begun given; waiting = x.waiting; reply = option_map (answered section found) x.reply }) → NextOwn answer in
      subst P (some_same _ mine some) (λ is_open says e. recorded_next given section found reply is_open own says e) is_open says e
  own_next (done r reply some is_open feeds) is_over =
      let P : InFlightValue → Type 0 = λ x. x.reply ≡ Some reply → Feeds own_mark c.phase x.begun x.waiting (Ok reply.message) answer → NextOwn answer in
      subst P (some_same _ mine some) (λ is_open feeds. done_next reply is_open feeds) is_open feeds
  own_next (failed r given failure some closed own says feeds) is_over =
      let P : InFlightValue → Type 0 = λ x. x.reply ≡ None → Feeds own_mark c.phase (with_line x.begun given) x.waiting (Err (error_of failure.kind)) answer → NextOwn answer in
      subst P (some_same _ mine some) (λ closed feeds. failed_next given failure closed own says feeds) closed feeds

-- ---- a line for no request, while one is in flight

unchanged_phase : (c : ConversationValue) (text : List ℕ) (answer : Answer) (s : Settings) (cache : CacheValue) → c.phase ≡ Serving s cache → request_at (mark_of text) c.requests ≡ None → Happens c (mark_of text) (moment_asked (fields text)) answer → BeginsNone answer → answer.phase ≡ c.phase
unchanged_phase c text answer s cache at none (unchanged j st h) begins = st
unchanged_phase c text answer s cache at none (more_lines configuration said more up st j h) begins = two_phases configuration said s cache c.phase at up
unchanged_phase c text answer s cache at none (set configuration lines given one up own says kind st j t h) begins = two_phases configuration lines s cache c.phase at up
unchanged_phase c text answer s cache at none (begun given explains q t before free own asked m opens (served, serving, is)) begins =
    let own_told = told-of (mark_of text) serving.3 t (just_begun q explains) serving.0 serving.1 served serving.5 in
    let P : Answer → Type 0 = λ a. IsToldSo t serving.1 a in
    let told = subst P (sym is) (telling-told (lines_told c.phase) t serving.1 served own_told) in
    absurd (let clash : false ≡ true = ap₂ (λ h j. is_some h || not (is_empty j)) (sym begins.0) (sym begins.1) ∙ told.some in cc)
unchanged_phase c text answer s cache at none (cancelled r some j h) begins = apart _ r none some
unchanged_phase c text answer s cache at none (opened r given head some closed own says e) begins = apart _ r none some
unchanged_phase c text answer s cache at none (recorded r given section found reply some is_open own says e) begins = apart _ r none some
unchanged_phase c text answer s cache at none (done r reply some is_open feeds) begins = apart _ r none some
unchanged_phase c text answer s cache at none (failed r given failure some closed own says feeds) begins = apart _ r none some

-- ---- a line

-- what stands behind a line
record IsAfter (hosts J B : List ℕ) (turn : Turn) (c : ConversationValue) : Type 0 where
  held : Option InFlightValue
  is_held : IsHeld turn c.requests held
  stands : StandsAt hosts J B turn c.phase held

module _ (hosts J B : List ℕ) (c after : ConversationValue) (text : List ℕ) (answer : Answer) (answers : Answers c text answer) (next : Stands (mark_of text) answer c after) where
  abbrev Behind : Turn → Type 0
  Behind turn = IsAfter (hosts_after hosts answer.phase) (J ++ answer.journal) (B ++ block_of (mark_of text) answer) turn after

  in_turn : (turn : Turn) → IsAfter hosts J B turn c → IsInTurn turn text answer → Behind (next_turn turn text answer)
  in_turn (Idle latest) is turn =
      let none = is.is_held.0 (mark_of text) in
      let latest_next = later latest (moment_begun text answer answer.phase) in
      record {
        held = answer.held;
        is_held = held-idle (mark_of text) answer.held latest_next c.requests after.requests is.is_held.0 next.requests_are;
        stands = subst (λ x. StandsAt (hosts_after hosts answer.phase) (J ++ answer.journal) (B ++ block_of (mark_of text) answer) (turn_of (mark_of text) answer.held latest_next) x answer.held) (sym next.phase_is)
            (idle_next hosts J B c text answer latest is.held is.stands none (happens c text answer answers) turn);
      }
  in_turn (Busy mark latest) is turn = by_phase c.phase refl is.held refl is.stands
    where
      own : (s : Settings) (cache : CacheValue) (k : InFlightValue) → c.phase ≡ Serving s cache → is.held ≡ Some k → IsBusy hosts J B latest s cache k → bytes_eq mark (mark_of text) ≡ true → IsOver answer answer.held → Behind (turn_of mark answer.held latest)
      own s cache k at held_is busy same is_over =
          let mark_is : mark ≡ mark_of text = same_text mark (mark_of text) (sym same) in
          let mine : request_at (mark_of text) c.requests ≡ Some k = ap (λ m. request_at m c.requests) (sym mark_is) ∙ is.is_held.0 ∙ held_is in
          let others : (m : List ℕ) → bytes_eq (mark_of text) m ≡ false → request_at m c.requests ≡ None = subst (λ x. (m : List ℕ) → bytes_eq x m ≡ false → request_at m c.requests ≡ None) mark_is is.is_held.1 in
          let P : List ℕ → Type 0 = λ m. Behind (turn_of m answer.held latest) in
          subst P (sym mark_is) (record {
            held = answer.held;
            is_held = held-own (mark_of text) answer.held latest c.requests after.requests others next.requests_are;
            stands = subst (λ x. StandsAt (hosts_after hosts answer.phase) (J ++ answer.journal) (B ++ block_of (mark_of text) answer) (turn_of (mark_of text) answer.held latest) x answer.held) (sym next.phase_is)
                (own_next hosts J B c text answer latest s cache at k busy mine (happens c text answer answers) is_over);
          })

      other : (s : Settings) (cache : CacheValue) (k : InFlightValue) → c.phase ≡ Serving s cache → is.held ≡ Some k → IsBusy hosts J B latest s cache k → bytes_eq mark (mark_of text) ≡ false → BeginsNone answer → Behind (Busy mark latest)
      other s cache k at held_is busy away begins =
          let none : request_at (mark_of text) c.requests ≡ None = is.is_held.1 (mark_of text) away in
          let st : answer.phase ≡ Serving s cache = unchanged_phase c text answer s cache at none (happens c text answer answers) begins ∙ at in
          let j_is : J ≡ J ++ answer.journal = sym (append-nil J) ∙ ap (λ x. J ++ x) (sym begins.1) in
          let b_is : B ≡ B ++ block_of (mark_of text) answer = sym (append-nil B) ∙ ap (λ x. B ++ x) (sym (no-block (mark_of text) answer begins.1)) in
          let H : List ℕ → Type 0 = λ h. IsBusy h J B latest s cache k in
          let R : List ℕ → Type 0 = λ x. IsBusy (hosts_after hosts answer.phase) x (B ++ block_of (mark_of text) answer) latest s cache k in
          let T : List ℕ → Type 0 = λ x. IsBusy (hosts_after hosts answer.phase) J x latest s cache k in
          record {
            held = Some k;
            is_held = held-other mark (mark_of text) latest (Some k) c.requests after.requests away (is.is_held.0 ∙ held_is, is.is_held.1) (subst (λ o. Puts (mark_of text) o c.requests after.requests) begins.0 next.requests_are);
            stands = subst (λ x. StandsAt (hosts_after hosts answer.phase) (J ++ answer.journal) (B ++ block_of (mark_of text) answer) (Busy mark latest) x (Some k)) (sym (next.phase_is ∙ st))
                (subst R j_is (subst T b_is (subst H (sym (ap (λ x. hosts_after hosts x) st)) busy)));
          }

      by_mark : (s : Settings) (cache : CacheValue) (k : InFlightValue) → c.phase ≡ Serving s cache → is.held ≡ Some k → IsBusy hosts J B latest s cache k → (b : Bool) → bytes_eq mark (mark_of text) ≡ b → MatchBool b (IsOver answer answer.held) (BeginsNone answer) → Behind (cond b (turn_of mark answer.held latest) (Busy mark latest))
      by_mark s cache k at held_is busy true same is_over = own s cache k at held_is busy same is_over
      by_mark s cache k at held_is busy false away begins = other s cache k at held_is busy away begins

      by_phase : (phase : Phase) → c.phase ≡ phase → (held : Option InFlightValue) → is.held ≡ held → StandsAt hosts J B (Busy mark latest) phase held → Behind (next_turn (Busy mark latest) text answer)
      by_phase (Setting configuration lines) at held held_is never = absurd never
      by_phase (Serving s cache) at None held_is never = absurd never
      by_phase (Serving s cache) at (Some k) held_is busy = by_mark s cache k at held_is busy (bytes_eq mark (mark_of text)) refl turn

-- ---- the whole

-- all requests are over, and their text is that of a replay
module _ (hosts J B : List ℕ) (ls : List (List ℕ)) (said : List Line) (reader : ReaderValue) (journal_is : J ≡ whole_lines ls) (script : IsScript ls said reader) where
  abbrev configured_by : ConfigurationValue
  configured_by = configured (settings_in said)

  replayed : (first : ℕ) (s : Settings) (cache : CacheValue) (exchanges : List Exchange) → IsSetUp hosts first reader.configuration s → first_moment reader.requests ≡ first → HasRun s reader.requests exchanges cache B → IsGot None reader (outcomes_of exchanges) → IsReplayed J hosts B
  replayed first s cache exchanges up first_is run got =
      let conf : reader.configuration ≡ configured_by = script.keeps.configuration_is in
      let requests : reader.requests ≡ requests_of said = script.keeps.requests_are in
      let S = settings_of (config_of configured_by) configured_by.options up.table in
      let s_is : s ≡ sent_so S s.request_options = up.settings_are ∙ ap (λ c. sent_so (settings_of (config_of c) c.options up.table) s.request_options) conf in
      let run : HasRun S reader.requests exchanges cache B = run-as S s.request_options reader.requests exchanges cache B (subst (λ x. HasRun x reader.requests exchanges cache B) s_is run) in
      let outcomes : map (λ o. o.1) (outcomes_said said) ≡ outcomes_of exchanges = ap (map (λ o. o.1)) (sym script.keeps.outcomes_are) ∙ got in
      let told : IsTextOfRun ScriptStep S (map (λ o. o.1) (outcomes_said said)) reader.requests B = run-told S reader.requests exchanges cache B (map (λ o. o.1) (outcomes_said said)) run outcomes in
      let told : IsTextOfRun ScriptStep (settings_of (config_of configured_by) configured_by.options up.table) (map (λ o. o.1) (outcomes_said said)) (requests_of said) B =
      subst (λ rs. IsTextOfRun ScriptStep (settings_of (config_of configured_by) configured_by.options up.table) (map (λ o. o.1) (outcomes_said said)) rs B) requests told in
      let straight : configured_by.table ≡ false = sym (ap (λ c. c.table) conf) ∙ script.in_order in
      let T : Bool → Type 0 = λ b. MatchBool b (IsTableTold (settings_of (config_of configured_by) configured_by.options up.table) (outcomes_said said) (requests_of said) B) (IsTextOfRun ScriptStep (settings_of (config_of configured_by) configured_by.options up.table) (map (λ o. o.1) (outcomes_said said)) (requests_of said) B) in
      record {
        said = said;
        read = (subst (λ xs. AreRead [] xs (Ok said)) (sym (lines-whole ls script.allowed) ∙ ap lines (sym journal_is)) script.read, ap (λ c. bounds_fault (bounds_of c.options)) (sym conf) ∙ up.bounds);
        told = record {
          table = up.table;
          hosts_are = subst (λ n. IsTable n hosts up.table) (sym first_is ∙ ap first_moment requests) up.hosts_are;
          told = subst T (sym straight) told;
        };
      }

finish : (hosts J B : List ℕ) (latest : ℕ) (phase : Phase) (held : Option InFlightValue) → StandsAt hosts J B (Idle latest) phase held → CanServe phase → IsReplayed J hosts B
finish hosts J B latest (Setting configuration files) held (hosts_are, zero_is, was) (o, opens) =
    let more = file-more (only_hosts files.hosts) configuration hosts J B 0 o.0 o.1 hosts_are was opens in
    let is : IsSettingUp more.0 J B = subst (λ j. IsSettingUp more.0 j B) (append-nil J) more.1 in
    let up : IsSetUp hosts 0 is.reader.configuration o.0 = subst (λ c. IsSetUp hosts 0 c o.0) (sym is.configuration_is) more.2.set_up in
    let run : HasRun o.0 is.reader.requests [] (first_cache o.0) B = subst (λ rs. HasRun o.0 rs [] (first_cache o.0) B) (sym is.requests_are) (subst (λ b. HasRun o.0 [] [] (first_cache o.0) b) (sym is.text_is) (none_run o.0)) in
    replayed hosts J B is.ls is.said is.reader is.journal_is is.script 0 o.0 (first_cache o.0) [] up (ap first_moment is.requests_are) run (ap₂ (λ xs y. outcomes_in (xs ++ read.opened y)) is.closed_are is.open_is)
finish hosts J B latest (Serving s cache) held is can =
    replayed hosts J B is.ls is.said is.reader is.journal_is is.script is.first s cache is.exchanges is.set_up is.first_is is.has_run is.got

-- what stands behind all lines
record IsWritten (hosts J B : List ℕ) (c : ConversationValue) : Type 0 where
  latest : ℕ
  after : IsAfter hosts J B (Idle latest) c

count_line : (hosts J B : List ℕ) (turn : Turn) (c : ConversationValue) → IsAfter hosts J B turn c → IsAfter hosts J B turn (counted c)
count_line hosts J B turn c is = record { held = is.held; is_held = is.is_held; stands = is.stands }

-- no line is left
last_line : (hosts J B : List ℕ) (turn : Turn) (texts : List (List ℕ)) (c after : ConversationValue) → after ≡ c → IsAfter hosts J B turn c → AreInTurn turn texts [] → IsWritten hosts (J ++ []) (B ++ blocks_of texts []) after
last_line hosts J B (Idle latest) texts c after same is turns =
    subst (λ x. IsWritten hosts (J ++ []) (B ++ []) x) (sym same) (subst (λ j. IsWritten hosts j (B ++ []) c) (sym (append-nil J)) (subst (λ b. IsWritten hosts J b c) (sym (append-nil B)) (record { latest = latest; after = is })))
last_line hosts J B (Busy mark latest) texts c after same is never = absurd never

turns-first : (turn : Turn) (text : List ℕ) (texts : List (List ℕ)) (answer : Answer) (answers : List Answer) → AreInTurn turn (text ∷ texts) (answer ∷ answers) → IsInTurn turn text answer × AreInTurn (next_turn turn text answer) texts answers
turns-first (Idle latest) text texts answer answers turns = turns
turns-first (Busy mark latest) text texts answer answers turns = turns

no_turns : {X : Type 0} (turn : Turn) (answer : Answer) (answers : List Answer) → AreInTurn turn [] (answer ∷ answers) → X
no_turns (Idle latest) answer answers never = absurd never
no_turns (Busy mark latest) answer answers never = absurd never

abbrev Goal : List ℕ → List ℕ → List ℕ → List ℕ → List (List ℕ) → Answer → ConversationValue → List Answer → Type 0
Goal hosts J B text texts answer after xs = IsWritten (hosts_stood (hosts_after hosts answer.phase) xs) ((J ++ answer.journal) ++ journal_of xs) ((B ++ block_of (mark_of text) answer) ++ blocks_of texts xs) after

heard : (texts : List (List ℕ)) (answers : List Answer) (hosts J B : List ℕ) (turn : Turn) (before after : ConversationValue) → IsAfter hosts J B turn before → AreHeard before texts (map (λ answer. Some answer) answers) after → AreInTurn turn texts answers
    → IsWritten (hosts_stood hosts answers) (J ++ journal_of answers) (B ++ blocks_of texts answers) after
heard [] [] hosts J B turn before after is same turns = last_line hosts J B turn [] before after same is turns
heard [] (answer ∷ answers) hosts J B turn before after is never turns = no_turns turn answer answers turns
heard (text ∷ texts) [] hosts J B turn before after is never turns = absurd never
heard (text ∷ texts) (answer ∷ answers) hosts J B turn before after is (mid, answered, stands, rest) turns =
    let both = turns-first turn text texts answer answers turns in
    let next = in_turn hosts J B (counted before) mid text answer answered stands turn (count_line hosts J B turn before is) both.0 in
    let P : List ℕ → Type 0 = λ j. IsWritten (hosts_stood (hosts_after hosts answer.phase) answers) j (B ++ (block_of (mark_of text) answer ++ blocks_of texts answers)) after in
    let Q : List ℕ → Type 0 = λ b. IsWritten (hosts_stood (hosts_after hosts answer.phase) answers) ((J ++ answer.journal) ++ journal_of answers) b after in
    subst P (append_assoc J answer.journal (journal_of answers)) (subst Q (append_assoc B (block_of (mark_of text) answer) (blocks_of texts answers))
    (by (λ r. heard texts answers (hosts_after hosts answer.phase) (J ++ answer.journal) (B ++ block_of (mark_of text) answer) (next_turn turn text answer) mid after next r both.1) answer.is_last rest next both.1))
  where
    ends : (xs : List Answer) → map (λ answer. Some answer) xs ≡ [] → after ≡ mid → IsAfter (hosts_after hosts answer.phase) (J ++ answer.journal) (B ++ block_of (mark_of text) answer) (next_turn turn text answer) mid → AreInTurn (next_turn turn text answer) texts xs → Goal hosts J B text texts answer after xs
    ends [] none same next more = last_line (hosts_after hosts answer.phase) (J ++ answer.journal) (B ++ block_of (mark_of text) answer) (next_turn turn text answer) texts mid after same next more
    ends (x ∷ xs) some same next more = absurd (let e = some in cc)

    by : (AreHeard mid texts (map (λ answer. Some answer) answers) after → Goal hosts J B text texts answer after answers) → (b : Bool) → MatchBool b ((map (λ answer. Some answer) answers ≡ []) × (after ≡ mid)) (AreHeard mid texts (map (λ answer. Some answer) answers) after)
        → IsAfter (hosts_after hosts answer.phase) (J ++ answer.journal) (B ++ block_of (mark_of text) answer) (next_turn turn text answer) mid → AreInTurn (next_turn turn text answer) texts answers → Goal hosts J B text texts answer after answers
    by go false rest next more = go rest
    by go true (none, same) next more = ends answers none same next more

fresh_setting : IsSettingUp (configured []) [] []
fresh_setting = record {
  ls = [];
  said = [];
  reader = fresh;
  journal_is = refl;
  script = none_script;
  configuration_is = refl;
  requests_are = refl;
  closed_are = refl;
  open_is = refl;
  latest_is = refl;
  text_is = refl;
}

from_silence : (hosts : List ℕ) → IsAfter hosts [] [] (Idle 0) (silent hosts)
from_silence hosts = record { held = None; is_held = (λ m. refl, refl); stands = (refl, refl, fresh_setting) }

pub journal_is_a_script : (hosts : List ℕ) (texts : List (List ℕ)) (answers : List Answer) (after : ConversationValue) → IsScriptOfBlocks hosts texts answers after
journal_is_a_script hosts texts answers after are turns can =
    let is = heard texts answers hosts [] [] (Idle 0) (silent hosts) after (from_silence hosts) are turns in
    finish (hosts_stood hosts answers) (journal_of answers) (blocks_of texts answers) is.latest after.phase is.after.held is.after.stands can
