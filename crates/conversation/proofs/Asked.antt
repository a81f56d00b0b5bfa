-- What the fields behind a mark ask.
use Rattle.std.proofs.Common.{◌<◌, ℕ, List, [], ◌∷◌, length, Result, Ok, Err, arith}
use denote.Ref.{Bor}
use Rattle.hickory_resolver_lookup.specs.declared.request.Request.{Request}
use Rattle.replay_script.specs.Words.{texts}
use Rattle.conversation.specs.Faults.{RefusalValue}
use Rattle.conversation.specs.Lines.{IsAsked, IsScriptRequest}
use Rattle.conversation.specs.Telling.{IsAskedOr}

-- too few fields for `reverse`
pub asked_short : (fields : List (Bor (List ℕ))) (result : Result Request RefusalValue) → length fields < 3 → IsAskedOr (IsScriptRequest (texts fields)) result → IsAskedOr (IsAsked (texts fields)) result
asked_short [] (Ok request) few is = is
asked_short [] (Err refusal) few is = is
asked_short (a ∷ []) (Ok request) few is = is
asked_short (a ∷ []) (Err refusal) few is = is
asked_short (a ∷ b ∷ []) (Ok request) few is = is
asked_short (a ∷ b ∷ []) (Err refusal) few is = is
asked_short (a ∷ b ∷ d ∷ behind) result few is = absurd (omega arith)
