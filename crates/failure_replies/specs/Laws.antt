-- How long replies are that say that a look-up failed, or refuse a query.
use Rattle.std.specs.Prelude.{◌≡◌, ℕ, ◌+◌, ◌≤◌, List, length, Some}
use Rattle.client_queries.specs.Queries.{query_of}
use Rattle.client_queries.specs.Refusals.{question_octets, refusal_octets}
use Rattle.client_queries.specs.declared.query.ClientQuery.{ClientQuery}
use Rattle.client_queries.specs.declared.query.Refusal.{Refusal}
use Rattle.failure_replies.specs.Failures.{failure_octets}
use Rattle.failure_replies.specs.declared.failure.FailureReason.{FailureReason}

-- the question has a name of at most 255 octets, and two codes
pub record IsShort (octets : List ℕ) (q : ClientQuery) (reply : List ℕ) : Type 0 where
  pub beside_question : length reply ≤ 12 + length (question_octets octets q.question_end) + 17
  pub in_all : query_of octets ≡ Some q → length reply ≤ 288

abbrev pub FailuresAreShort : Type 0
FailuresAreShort =
    (octets : List ℕ) (q : ClientQuery) (reason : FailureReason) → IsShort octets q (failure_octets octets q reason)

abbrev pub RefusalsAreShort : Type 0
RefusalsAreShort =
    (octets : List ℕ) (q : ClientQuery) (refusal : Refusal) → IsShort octets q (refusal_octets octets q refusal)
