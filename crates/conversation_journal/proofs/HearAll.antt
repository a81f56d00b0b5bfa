-- Lines that are heard one after another.
use Rattle.std.proofs.Common.{◌≡◌, ◌∙◌, ◌<◌, ◌≤◌, ◌+◌, ℕ, zero, suc, true, false, List, [], ◌∷◌, ◌++◌, length, get_or, map, take, drop, take_all, flat_map, Option, Some, Ok, Bor, string_bytes, refl, sym, ap, ap₂, subst, append_assoc, append-nil, arith}
use Rattle.replay.specs.ScriptRun.{IsReplayed}
use Rattle.replay_script.specs.Words.{texts}
use Rattle.conversation.specs.Answers.{Answer}
use Rattle.conversation.specs.Hearing.{IsHeard, Says}
use Rattle.conversation_journal.specs.Journal.{AllSay, AreHeard, IsScriptHeard, blocks_of, hosts_stood, journal_of}
use Rattle.conversation.specs.State.{ConversationValue}
use Rattle.conversation.specs.declared.heard.Heard.{Heard}
use Rattle.conversation_journal.proofs.Journal.{journal_is_a_script}
use Rattle.conversation.proofs.Choices.{match_false, match_true}

abbrev pub answered : List Answer → List (Option Answer)
answered answers = map (λ answer. Some answer) answers

-- what was heard so far, and goes on with what comes behind
abbrev pub SoFar : ConversationValue → ConversationValue → List (List ℕ) → List Heard → Type 0
SoFar before mid lines heards =
    (answers : List Answer) × AllSay answers heards
    × ((rest : List (List ℕ)) → (others : List Answer) → (after : ConversationValue) → AreHeard mid rest (answered others) after → AreHeard before (lines ++ rest) (answered (answers ++ others)) after)

pub none_so_far : (c : ConversationValue) → SoFar c c [] []
none_so_far c = ([], tt, λ rest others after heard. heard)

say_more : (answers : List Answer) (heards : List Heard) (answer : Answer) (heard : Heard) → AllSay answers heards → Says answer heard → AllSay (answers ++ answer ∷ []) (heards ++ heard ∷ [])
say_more [] [] answer heard say says = (says, tt)
say_more [] (h ∷ hs) answer heard say says = absurd say
say_more (a ∷ others) [] answer heard say says = absurd say
say_more (a ∷ others) (h ∷ hs) answer heard say says = (say.0, say_more others hs answer heard say.1 says)

-- one more line, that is not the last
pub one_more : (before mid now : ConversationValue) (lines : List (List ℕ)) (heards : List Heard) (line : List ℕ) (heard : Heard) → SoFar before mid lines heards → IsHeard mid line (Ok heard) now → heard.is_last ≡ false
    → SoFar before now (lines ++ line ∷ []) (heards ++ heard ∷ [])
one_more before mid now lines heards line heard (answers, say, goes) (answer, kind, says, stands) last = (
  answers ++ answer ∷ [],
  say_more answers heards answer heard say says,
  λ rest others after are.
      let step : AreHeard mid (line ∷ rest) (answered (answer ∷ others)) after = (now, kind, stands, match_false answer.is_last ((answered others ≡ []) × (after ≡ now)) (AreHeard now rest (answered others) after) (sym says.last_is ∙ last) are) in
      subst (λ ls. AreHeard before ls (answered ((answers ++ answer ∷ []) ++ others)) after) (sym (append_assoc lines (line ∷ []) rest))
      (subst (λ xs. AreHeard before (lines ++ line ∷ rest) (answered xs) after) (sym (append_assoc answers (answer ∷ []) others)) (goes (line ∷ rest) (answer ∷ others) after step)),
)

-- what the journal got
journals : (answers : List Answer) (heards : List Heard) → AllSay answers heards → journal_of answers ≡ flat_map (λ heard. string_bytes heard.journal) heards
journals [] [] say = refl
journals [] (h ∷ hs) say = absurd say
journals (a ∷ others) [] say = absurd say
journals (a ∷ others) (h ∷ hs) say = ap₂ (λ x y. x ++ y) (sym say.0.journal_is) (journals others hs say.1)

-- what was heard is a script
scripts : (before after : ConversationValue) (lines : List (List ℕ)) (heards : List Heard) (answers : List Answer) → AllSay answers heards → AreHeard before lines (answered answers) after → IsScriptHeard before lines heards after
scripts before after lines heards answers say are = (
  answers,
  say,
  are,
  λ hosts quiet turns can.
      subst (λ j. IsReplayed j (hosts_stood hosts answers) (blocks_of lines answers)) (journals answers heards say)
      (journal_is_a_script hosts lines answers after (subst (λ c. AreHeard c lines (answered answers) after) quiet are) turns can),
)

-- the last line that is there
pub all_heard : (before after : ConversationValue) (lines : List (List ℕ)) (heards : List Heard) → SoFar before after lines heards → IsScriptHeard before lines heards after
all_heard before after lines heards (answers, say, goes) =
    scripts before after lines heards answers say
    (subst (λ ls. AreHeard before ls (answered answers) after) (append-nil lines)
    (subst (λ xs. AreHeard before (lines ++ []) (answered xs) after) (append-nil answers) (goes [] [] after refl)))

-- the last line of the conversation
pub last_heard : (before mid after : ConversationValue) (lines rest : List (List ℕ)) (heards : List Heard) (line : List ℕ) (heard : Heard) → SoFar before mid lines heards → IsHeard mid line (Ok heard) after → heard.is_last ≡ true
    → IsScriptHeard before (lines ++ line ∷ rest) (heards ++ heard ∷ []) after
last_heard before mid after lines rest heards line heard (answers, say, goes) (answer, kind, says, stands) last =
    scripts before after (lines ++ line ∷ rest) (heards ++ heard ∷ []) (answers ++ answer ∷ []) (say_more answers heards answer heard say says)
    (goes (line ∷ rest) (answer ∷ []) after (after, kind, stands, match_true answer.is_last ((answered [] ≡ []) × (after ≡ after)) (AreHeard after rest [] after) (sym says.last_is ∙ last) (refl, refl)))

-- ---- the code's lines

lines_split : (ls : List (Bor (List ℕ))) (i : ℕ) (d : Bor (List ℕ)) → i < length ls → texts ls ≡ texts (take i ls) ++ (get_or ls i d).now ∷ texts (drop (suc i) ls)
lines_split [] i d h = absurd (omega arith)
lines_split (f ∷ fs) zero d h = refl
lines_split (f ∷ fs) (suc i) d h = ap (λ xs. f.now ∷ xs) (lines_split fs i d (omega arith))

lines_more : (ls : List (Bor (List ℕ))) (i : ℕ) (d : Bor (List ℕ)) → i < length ls → texts (take (suc i) ls) ≡ texts (take i ls) ++ (get_or ls i d).now ∷ []
lines_more [] i d h = absurd (omega arith)
lines_more (f ∷ fs) zero d h = refl
lines_more (f ∷ fs) (suc i) d h = ap (λ xs. f.now ∷ xs) (lines_more fs i d (omega arith))

pub line_more : (before mid now : ConversationValue) (ls : List (Bor (List ℕ))) (i : ℕ) (d : Bor (List ℕ)) (heards more : List Heard) (heard : Heard) → i < length ls → more ≡ heards ++ heard ∷ []
    → SoFar before mid (texts (take i ls)) heards → IsHeard mid (get_or ls i d).now (Ok heard) now → heard.is_last ≡ false → SoFar before now (texts (take (i + 1) ls)) more
line_more before mid now ls i d heards more heard h is so_far told last =
    let e : suc i ≡ i + 1 = omega arith in
    subst (λ n. SoFar before now (texts (take n ls)) more) e (subst (λ lines. SoFar before now lines more) (sym (lines_more ls i d h))
    (subst (λ hs. SoFar before now (texts (take i ls) ++ (get_or ls i d).now ∷ []) hs) (sym is) (one_more before mid now (texts (take i ls)) heards (get_or ls i d).now heard so_far told last)))

pub line_last : (before mid now : ConversationValue) (ls : List (Bor (List ℕ))) (i : ℕ) (d : Bor (List ℕ)) (heards more : List Heard) (heard : Heard) → i < length ls → more ≡ heards ++ heard ∷ []
    → SoFar before mid (texts (take i ls)) heards → IsHeard mid (get_or ls i d).now (Ok heard) now → heard.is_last ≡ true → IsScriptHeard before (texts ls) more now
line_last before mid now ls i d heards more heard h is so_far told last =
    subst (λ lines. IsScriptHeard before lines more now) (sym (lines_split ls i d h))
    (subst (λ hs. IsScriptHeard before (texts (take i ls) ++ (get_or ls i d).now ∷ texts (drop (suc i) ls)) hs now) (sym is)
    (last_heard before mid now (texts (take i ls)) (texts (drop (suc i) ls)) heards (get_or ls i d).now heard so_far told last))

pub lines_end : (before after : ConversationValue) (ls : List (Bor (List ℕ))) (i : ℕ) (heards : List Heard) → length ls ≤ i → SoFar before after (texts (take i ls)) heards → IsScriptHeard before (texts ls) heards after
lines_end before after ls i heards h so_far = all_heard before after (texts ls) heards (subst (λ xs. SoFar before after (texts xs) heards) (take_all i ls h) so_far)
