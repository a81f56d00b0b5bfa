-- What is answered: from the part that answers to the whole.
use Rattle.std.proofs.Common.{◌≡◌, ◌⊎◌, ℕ, Bool, false, List, [], Result, Ok, Err, IfOk, IsErr, string_bytes, refl, sym, subst, inl, inr}
use Rattle.std.specs.declared.alloc.AllocError.{AllocError}
use Rattle.conversation.specs.Answers.{Answer, AnswersSaid, nothing, refused}
use Rattle.conversation.specs.Faults.{RefusalValue, is_memory}
use Rattle.conversation.specs.Hearing.{IsServedOut, Stands}
use Rattle.conversation.specs.Said.{SaidValue}
use Rattle.conversation.specs.State.{ConversationValue, Puts, Phase, request_at}
use Rattle.conversation.specs.Texts.{fault_text}
use Rattle.conversation.specs.Telling.{IsActedUpon, IsAnswered, IsRefused, RanOut, nothing_left}
use Rattle.conversation.specs.declared.heard.Heard.{Heard}
use Rattle.conversation.proofs.Held.{puts_same, some_stays}

-- nothing changed
pub stays : (c : ConversationValue) (mark : List ℕ) (answer : Answer) → c.phase ≡ answer.phase → answer.held ≡ request_at mark c.requests → Stands mark answer c c
stays c mark answer phase held = record {
  lines_are = refl;
  phase_is = phase;
  requests_are = subst (λ o. Puts mark o c.requests c.requests) (sym held) (puts_same mark c.requests);
}

pub ran_out_here : (c : ConversationValue) (mark : List ℕ) (Left : Phase → Type 0) → RanOut mark Left c c
ran_out_here c mark Left = record { lines_are = refl; phase_is = inl refl; requests_are = some_stays mark c.requests }

-- a fault is told
pub answered_refused : (c : ConversationValue) (mark : List ℕ) (refusal : RefusalValue) (Kind : Answer → Type 0) (Left : Phase → Type 0) (result : Result Heard AllocError) → IsRefused c mark refusal result → (is_memory refusal.fault ≡ false → Kind (refused c mark refusal)) → IsAnswered c mark Kind Left result c
answered_refused c mark refusal Kind Left (Ok heard) is kind = (refused c mark refusal, kind is.0, is.1, stays c mark (refused c mark refusal) refl refl)
answered_refused c mark refusal Kind Left (Err e) is kind = ran_out_here c mark Left

-- a fault is told of what a line says
pub acted_refused : (c : ConversationValue) (mark : List ℕ) (s : SaidValue) (refusal : RefusalValue) (result : Result Heard AllocError) → IsRefused c mark refusal result → (is_memory refusal.fault ≡ false → AnswersSaid c mark s (refused c mark refusal)) → IsActedUpon c mark s result c
acted_refused c mark s refusal result = answered_refused c mark refusal (AnswersSaid c mark s) (IsServedOut c mark s) result

-- an answer of one kind is one of another, and so is what is left
pub answered_as : (before after : ConversationValue) (mark : List ℕ) (Kind Other : Answer → Type 0) (Left More : Phase → Type 0) (result : Result Heard AllocError) → ((answer : Answer) → Kind answer → Other answer) → ((phase : Phase) → Left phase → More phase)
    → IsAnswered before mark Kind Left result after → IsAnswered before mark Other More result after
answered_as before after mark Kind Other Left More (Ok heard) turn leave (answer, kind, says, stands) = (answer, turn answer kind, says, stands)
answered_as before after mark Kind Other Left More (Err e) turn leave ran = record { lines_are = ran.lines_are; phase_is = by ran.phase_is; requests_are = ran.requests_are }
  where
    by : (after.phase ≡ before.phase) ⊎ Left after.phase → (after.phase ≡ before.phase) ⊎ More after.phase
    by (inl same) = inl same
    by (inr left) = inr (leave after.phase left)

-- nothing is left
pub none_left : (More : Phase → Type 0) (phase : Phase) → nothing_left phase → More phase
none_left More phase left = absurd left

-- memory ran out
pub answered_out : (before after : ConversationValue) (mark : List ℕ) (Kind : Answer → Type 0) (Left : Phase → Type 0) (result : Result Heard AllocError) → IsErr result → RanOut mark Left before after → IsAnswered before mark Kind Left result after
answered_out before after mark Kind Left (Ok heard) out ran = absurd (let h = out in cc)
answered_out before after mark Kind Left (Err e) out ran = ran

pub out_here : (c : ConversationValue) (mark : List ℕ) (Kind : Answer → Type 0) (Left : Phase → Type 0) (result : Result Heard AllocError) → IsErr result → IsAnswered c mark Kind Left result c
out_here c mark Kind Left result out = answered_out c c mark Kind Left result out (ran_out_here c mark Left)

pub acted_out : (c : ConversationValue) (mark : List ℕ) (s : SaidValue) (result : Result Heard AllocError) → IsErr result → IsActedUpon c mark s result c
acted_out c mark s result = out_here c mark (AnswersSaid c mark s) (IsServedOut c mark s) result

-- an answer is given
pub answered_by : (before after : ConversationValue) (mark : List ℕ) (Kind : Answer → Type 0) (Left : Phase → Type 0) (heard : Heard) (answer : Answer) → Kind answer
    → string_bytes heard.explained ≡ answer.explained → string_bytes heard.text ≡ answer.text → string_bytes heard.journal ≡ answer.journal → heard.is_last ≡ answer.is_last → Stands mark answer before after
    → IsAnswered before mark Kind Left (Ok heard) after
answered_by before after mark Kind Left heard answer kind explained text journal last stands = (answer, kind, record { explained_is = explained; text_is = text; journal_is = journal; last_is = last }, stands)

-- nothing changed, and this is said
pub answered_here : (c : ConversationValue) (mark : List ℕ) (Kind : Answer → Type 0) (Left : Phase → Type 0) (heard : Heard) (last : Bool) → Kind (record (nothing c mark) { is_last = last })
    → string_bytes heard.explained ≡ [] → string_bytes heard.text ≡ [] → string_bytes heard.journal ≡ [] → heard.is_last ≡ last → IsAnswered c mark Kind Left (Ok heard) c
answered_here c mark Kind Left heard last kind explained text journal last_is =
    let answer = record (nothing c mark) { is_last = last } in
    answered_by c c mark Kind Left heard answer kind explained text journal last_is (stays c mark answer refl refl)

-- a fault was written
pub refused_told : (c : ConversationValue) (mark : List ℕ) (refusal : RefusalValue) (result : Result Heard AllocError) → is_memory refusal.fault ≡ false
    → IfOk result (λ h. string_bytes h.explained ≡ []) → IfOk result (λ h. string_bytes h.text ≡ fault_text mark c.lines refusal) → IfOk result (λ h. string_bytes h.journal ≡ []) → IfOk result (λ h. h.is_last ≡ false) → IsRefused c mark refusal result
refused_told c mark refusal (Ok heard) told explained text journal last = (told, record { explained_is = explained; text_is = text; journal_is = journal; last_is = last })
refused_told c mark refusal (Err e) told explained text journal last = tt
