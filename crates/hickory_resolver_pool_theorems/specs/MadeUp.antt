-- Nothing is made up: what is told as a reply, or is made of one, is of octets that came for it and were believed.
use Rattle.std.specs.Prelude.{◌≡◌, ℕ, true, List, ◌++◌, Option, None, Some}
use Rattle.hickory_proto_wire.specs.Messages.{message_of}
use Rattle.hickory_resolver_config.specs.ResolverConfig.{OptionsValue}
use Rattle.hickory_resolver_flights.specs.Flights.{KeptValue}
use Rattle.hickory_resolver_transactions.specs.declared.candidate.Try.{Try}
use Rattle.hickory_resolver_tries.specs.Belief.{belief_of}
use Rattle.hickory_resolver_tries.specs.Heads.{head_of}
use Rattle.hickory_resolver_tries.specs.Outcome.{outcome_of, is_truncated, message_if}
use Rattle.hickory_resolver_tries.specs.Tries.{octets_of_try}
use Rattle.hickory_resolver_tries.specs.declared.belief.Belief.TheVariants.{Believed}
use Rattle.hickory_resolver_tries.specs.declared.outcome.ReplyOutcome.{ReplyOutcome}
use Rattle.hickory_resolver_tries.specs.declared.outcome.ReplyOutcome.TheVariants as reply
use Rattle.hickory_resolver_tries.specs.declared.pool_question.PoolQuestion.{PoolQuestion}
use Rattle.hickory_resolver_pool.specs.Over.{OverValue, is_of_reply}
use Rattle.hickory_resolver_pool.specs.Pool.{PoolState, no_servers, Steps}
use Rattle.hickory_resolver_pool.specs.declared.limits.PoolLimits.{PoolLimits}
use Rattle.hickory_resolver_pool.specs.declared.over.PoolOutcome.{PoolOutcome}
use Rattle.hickory_resolver_pool.specs.declared.over.PoolOutcome.TheVariants.{Response, Cut, Code}
use Rattle.hickory_resolver_pool.specs.declared.pool.Action.TheVariants.{Over}
use Rattle.hickory_resolver_pool_theorems.specs.Runs.{Happening, Runs}
use Rattle.hickory_resolver_pool_theorems.specs.Wire.{WasSent, CameOn}

-- what is told of a reply that comes to this
abbrev pub told_of_reply : ReplyOutcome → PoolOutcome
told_of_reply reply.Answer = Response
told_of_reply reply.Negative = Response
told_of_reply reply.Truncated = Cut
told_of_reply other = Code

-- A reply to this question of a transaction. Once what happened earlier had happened, a message of the question had
-- been sent for this transaction on a channel; these octets had come on that very channel while it was open; and they
-- were believed as a reply to that message. The message that is told is what they spell, unless they were cut or spell
-- none, with the letters that were asked; and it is told as what they come to.
pub record IsBelievedReply
    (past : List Happening) (transaction : ℕ) (question : PoolQuestion) (told : PoolOutcome) (k : KeptValue)
    : Type 0 where
  pub later : List Happening
  pub earlier : List Happening
  pub tried : Try
  pub happened : past ≡ later ++ earlier
  pub sent : WasSent earlier transaction tried.channel tried.form.id (octets_of_try question tried.form)
  pub came : CameOn earlier tried.channel k.octets
  pub believed : belief_of question tried.form k.octets ≡ Believed
  pub spelled : k.message ≡ message_if (is_truncated (head_of k.octets)) question.query.name (message_of k.octets)
  pub told_is : told ≡ told_of_reply (outcome_of question tried.form k.octets)

-- there is such a reply, and it is the one that is kept
abbrev pub HasBelievedReply : List Happening → OverValue → Option KeptValue → Type 0
HasBelievedReply past o None = ⊥
HasBelievedReply past o (Some k) = IsBelievedReply past o.transaction o.question o.outcome k

-- An outcome that is a response, a cut reply or a code is of octets that came and were believed, whatever happens.
abbrev pub NothingIsMadeUp : Type 0
NothingIsMadeUp =
    (options : OptionsValue) (limits : PoolLimits) (seed : List ℕ) (past : List Happening) (s after : PoolState)
    → (o : OverValue) → Runs (no_servers options limits seed) past s → Steps s (Some (Over o)) after
    → is_of_reply o.outcome ≡ true → HasBelievedReply past o o.kept
