-- A line is heard: from what it says to the whole of it.
use Rattle.std.proofs.Common.{◌≡◌, ◌∙◌, ◌⊎◌, ℕ, true, false, cond, List, [], codes, None, Result, Ok, Err, string_bytes, refl, sym, subst}
use Rattle.std.specs.List.{list_all}
use Rattle.std.specs.declared.alloc.AllocError.{AllocError}
use Rattle.replay_script.specs.Fields.{fields, is_allowed, is_skipped}
use Rattle.replay_script.specs.declared.fault.ScriptFault.TheVariants as script
use Rattle.conversation.specs.Answers.{AnswersSaid}
use Rattle.conversation.specs.Faults.{RefusalValue, of_line}
use Rattle.conversation.specs.Hearing.{IsHeard, IsServedOut}
use Rattle.conversation.specs.Lines.{mark_in, mark_of}
use Rattle.conversation.specs.Said as said
use Rattle.conversation.specs.Said.{SaidValue, said_by, said_in}
use Rattle.conversation.specs.State.{ConversationValue, Puts, Phase, counted}
use Rattle.conversation.specs.Telling.{IsActedUpon, IsRefused, RanOut}
use Rattle.conversation.specs.declared.fault.ConversationFault.TheVariants as fault
use Rattle.conversation.specs.declared.heard.Heard.{Heard}
use Rattle.conversation.proofs.Answered.{answered_here}
use Rattle.conversation.proofs.Held.{puts_again}
use Rattle.conversation.proofs.Settings.{refused_for, when_false, when_true}

-- ---- by its text

mark_skipped : (text : List ℕ) → is_skipped text ≡ true → codes "-" ≡ mark_of text
mark_skipped text skipped = when_true (is_skipped text) (codes "-") (cond (list_all is_allowed text) (mark_in (fields text)) (codes "-")) skipped

mark_read : (text : List ℕ) → is_skipped text ≡ false → list_all is_allowed text ≡ true → mark_in (fields text) ≡ mark_of text
mark_read text says allowed =
    when_true (list_all is_allowed text) (mark_in (fields text)) (codes "-") allowed
    ∙ when_false (is_skipped text) (codes "-") (cond (list_all is_allowed text) (mark_in (fields text)) (codes "-")) says

mark_bad : (text : List ℕ) → is_skipped text ≡ false → list_all is_allowed text ≡ false → codes "-" ≡ mark_of text
mark_bad text says bad =
    when_false (list_all is_allowed text) (mark_in (fields text)) (codes "-") bad
    ∙ when_false (is_skipped text) (codes "-") (cond (list_all is_allowed text) (mark_in (fields text)) (codes "-")) says

abbrev bad_byte : SaidValue
bad_byte = said.Refused (of_line (fault.Script script.BadByte))

said_skipped : (text : List ℕ) → is_skipped text ≡ true → said.Nothing ≡ said_by text
said_skipped text skipped = when_true (is_skipped text) said.Nothing (cond (list_all is_allowed text) (said_in (fields text)) bad_byte) skipped

said_read : (text : List ℕ) → is_skipped text ≡ false → list_all is_allowed text ≡ true → said_in (fields text) ≡ said_by text
said_read text says allowed =
    when_true (list_all is_allowed text) (said_in (fields text)) bad_byte allowed
    ∙ when_false (is_skipped text) said.Nothing (cond (list_all is_allowed text) (said_in (fields text)) bad_byte) says

said_bad : (text : List ℕ) → is_skipped text ≡ false → list_all is_allowed text ≡ false → bad_byte ≡ said_by text
said_bad text says bad =
    when_false (list_all is_allowed text) (said_in (fields text)) bad_byte bad
    ∙ when_false (is_skipped text) said.Nothing (cond (list_all is_allowed text) (said_in (fields text)) bad_byte) says

-- the mark and what is said are those
pub acted_as : (before after : ConversationValue) (mark other : List ℕ) (s t : SaidValue) (result : Result Heard AllocError) → mark ≡ other → s ≡ t → IsActedUpon before mark s result after → IsActedUpon before other t result after
acted_as before after mark other s t result mark_is said_is told =
    subst (λ m. IsActedUpon before m t result after) mark_is (subst (λ x. IsActedUpon before mark x result after) said_is told)

-- a line that says nothing
pub skipped_told : (c : ConversationValue) (text : List ℕ) (heard : Heard) → is_skipped text ≡ true → string_bytes heard.explained ≡ [] → string_bytes heard.text ≡ [] → string_bytes heard.journal ≡ [] → heard.is_last ≡ false
    → IsActedUpon c (mark_of text) (said_by text) (Ok heard) c
skipped_told c text heard skipped explained told journal last =
    acted_as c c (codes "-") (mark_of text) said.Nothing (said_by text) (Ok heard) (mark_skipped text skipped) (said_skipped text skipped)
    (answered_here c (codes "-") (AnswersSaid c (codes "-") said.Nothing) (IsServedOut c (codes "-") said.Nothing) heard false refl explained told journal last)

-- the text that was read is that of the line
pub read_told : (before after : ConversationValue) (text line mark : List ℕ) (s : SaidValue) (result : Result Heard AllocError) → text ≡ line → is_skipped line ≡ false → list_all is_allowed line ≡ true
    → mark ≡ mark_in (fields text) → s ≡ said_in (fields text) → IsActedUpon before mark s result after → IsActedUpon before (mark_of line) (said_by line) result after
read_told before after text line mark s result same says allowed mark_is said_is told =
    acted_as before after mark (mark_of line) s (said_by line) result (subst (λ t. mark ≡ mark_in (fields t)) same mark_is ∙ mark_read line says allowed) (subst (λ t. s ≡ said_in (fields t)) same said_is ∙ said_read line says allowed) told

-- a byte that may not stand in a line
pub byte_said : (c : ConversationValue) (text : List ℕ) (refusal : RefusalValue) (result : Result Heard AllocError) → is_skipped text ≡ false → list_all is_allowed text ≡ false → refusal ≡ of_line (fault.Script script.BadByte)
    → IsRefused c (codes "-") refusal result → IsActedUpon c (mark_of text) (said_by text) result c
byte_said c text refusal result says bad same is =
    acted_as c c (codes "-") (mark_of text) bad_byte (said_by text) result (mark_bad text says bad) (said_bad text says bad)
    (refused_for c (codes "-") refusal (of_line (fault.Script script.BadByte)) (AnswersSaid c (codes "-") bad_byte) (IsServedOut c (codes "-") bad_byte) result is same (λ told. refl))

-- ---- the whole

pub line_heard : (before mid after : ConversationValue) (text : List ℕ) (heard : Heard) → mid ≡ counted before → IsActedUpon mid (mark_of text) (said_by text) (Ok heard) after → IsHeard before text (Ok heard) after
line_heard before mid after text heard is told = subst (λ c. IsActedUpon c (mark_of text) (said_by text) (Ok heard) after) is told

pub line_out : (before mid left after : ConversationValue) (text mark : List ℕ) (e : AllocError) → mid ≡ counted before → mark ≡ mark_of text → IsActedUpon mid (mark_of text) (said_by text) (Err e) left → after.lines ≡ left.lines → after.phase ≡ left.phase
    → Puts mark None left.requests after.requests → IsHeard before text (Err e) after
line_out before mid left after text mark e is mark_is ran lines phase forgotten =
    let Left : ConversationValue → Phase → Type 0 = λ c. IsServedOut c (mark_of text) (said_by text) in
    let ran : RanOut (mark_of text) (Left (counted before)) (counted before) left = subst (λ c. RanOut (mark_of text) (Left c) c left) is ran in
    record {
      lines_are = lines ∙ ran.lines_are;
      phase_is = subst (λ x. (x ≡ (counted before).phase) ⊎ Left (counted before) x) (sym phase) ran.phase_is;
      requests_are = puts_again (mark_of text) ran.requests_are.0 None (counted before).requests left.requests after.requests ran.requests_are.1 (subst (λ m. Puts m None left.requests after.requests) mark_is forgotten);
    }
