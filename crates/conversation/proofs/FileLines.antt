-- Lines that set something, one after another.
use Rattle.std.proofs.Common.{◌≡◌, ◌⊎◌, ◌+◌, ◌<◌, ℕ, suc, List, [], ◌∷◌, length, get_or, drop, drop-cons, add-one, map, Result, Ok, Err, String, string_bytes, refl, sym, ap, subst, inl, inr}
use Rattle.std.specs.Global.{Global}
use Rattle.replay_script.specs.Configuration.{ConfigurationValue}
use Rattle.conversation.specs.Faults.{out_of_memory}
use Rattle.conversation.specs.FileSettings.{AreSet, FileSettingsValue, IsConfigured}
use Rattle.conversation.specs.Telling.{AreSetOr, IsLineSet}
use Rattle.conversation.specs.declared.fault.ConversationFault.{ConversationFault}

abbrev pub Lines : Type 0
Lines = List (String Global)

abbrev pub IsLeft : Lines → ConfigurationValue → Lines → ConfigurationValue → Type 0
IsLeft lines before left now = (result : Result ConfigurationValue ConversationFault) → AreSet (map string_bytes left) now result → AreSet (map string_bytes lines) before result

-- the first line that is left
pub next_line : (lines : Lines) (i : ℕ) (line : String Global) → i < length lines → line ≡ get_or lines i line → drop i lines ≡ line ∷ drop (i + 1) lines
next_line lines i line below is = rw (add-one, drop-cons lines i line below) (ap (λ x. x ∷ drop (suc i) lines) (sym is))

-- one line more
pub set_on : (lines left rest : Lines) (line : String Global) (before now after : ConfigurationValue) → IsLeft lines before left now → left ≡ line ∷ rest
    → IsLineSet (string_bytes line) now (Ok tt) after → IsLeft lines before rest after
set_on lines left rest line before now after is at (one, read, same) result more =
    is result (subst (λ xs. AreSet (map string_bytes xs) now result) (sym at) (Ok one, read, subst (λ x. AreSet (map string_bytes rest) x result) same more))

-- a line that sets nothing
pub set_off : (lines left rest : Lines) (line : String Global) (before now after : ConfigurationValue) (f : ConversationFault) → IsLeft lines before left now → left ≡ line ∷ rest
    → IsLineSet (string_bytes line) now (Err f) after → AreSetOr (map string_bytes lines) before (Err f) after
set_off lines left rest line before now after f is at (inl read) = inl (is (Err f) (subst (λ xs. AreSet (map string_bytes xs) now (Err f)) (sym at) (Err f, read, refl)))
set_off lines left rest line before now after f is at (inr out) = inr out

-- none is left
pub set_all : (lines left : Lines) (before now : ConfigurationValue) → IsLeft lines before left now → left ≡ [] → AreSetOr (map string_bytes lines) before (Ok tt) now
set_all lines left before now is at = is (Ok now) (subst (λ xs. AreSet (map string_bytes xs) now (Ok now)) (sym at) refl)

abbrev no_whole : ConversationFault → Result ConfigurationValue ConversationFault
no_whole f = Err f

-- where a line sets nothing, there is no whole
pub whole_fault : (said : FileSettingsValue) (before : ConfigurationValue) (f : ConversationFault) → AreSet said.lines before (Err f) ⊎ (f ≡ out_of_memory)
    → IsConfigured said before (Err f) ⊎ (no_whole f ≡ no_whole out_of_memory)
whole_fault said before f (inl are) = inl (Err f, are, refl)
whole_fault said before f (inr out) = inr (ap no_whole out)
