-- Replies that are made at once.
use Rattle.std.specs.Prelude.{◌≡◌, ℕ, List, if◌then◌else◌}
use Rattle.std.specs.Option.{is_none}
use Rattle.hickory_proto_core.specs.declared.query.Query.{Query}
use Rattle.client_queries.specs.declared.query.Refusal.{Refusal}
use Rattle.client_requests.specs.Replies.{failure_reply, refusal_reply, reply_to}
use Rattle.client_requests.specs.Requests.{RequestValue}
use Rattle.client_requests.specs.declared.fetch_end.FetchEnd.{FetchEnd}
use Rattle.client_requests.specs.declared.fetch_end.FetchEnd.TheVariants.{Reply, Failure}
use Rattle.failure_replies.specs.declared.failure.FailureReason.{FailureReason}
use Rattle.failure_replies.specs.declared.failure.FailureReason.TheVariants.{Other}
use Rattle.stored_replies.specs.Stored.{store_fault, stored_at}
use Rattle.whole_replies.specs.Kept.{KeptValue}
use Rattle.yimarotu_forwarder.specs.Forwarders.{ForwarderValue, second_of}
use Rattle.yimarotu_forwarder.specs.declared.answered.Outcome.{Outcome}
use Rattle.yimarotu_forwarder.specs.declared.answered.Outcome.TheVariants as outcome

-- A whole reply as it is stored from a second on. One that cannot be written is none.
abbrev pub end_of : Query → KeptValue → ℕ → FetchEnd
end_of q kept second =
    if is_none (store_fault q kept) then Reply (stored_at q kept second) else Failure Other

module _ (before : ForwarderValue) where
  -- these octets are replied, and nothing else changes
  abbrev pub Replies : List ℕ → Outcome → Outcome → ForwarderValue → Type 0
  Replies octets became answered after = (answered ≡ became) × (after ≡ record before { reply = octets })

  abbrev pub Drops : Outcome → ForwarderValue → Type 0
  Drops answered after = (answered ≡ outcome.Dropped) × (after ≡ before)

  abbrev pub Refuses : RequestValue → Refusal → Outcome → ForwarderValue → Type 0
  Refuses r why = Replies (refusal_reply r why) outcome.Refused

  abbrev pub Fails : RequestValue → FailureReason → Outcome → ForwarderValue → Type 0
  Fails r why = Replies (failure_reply r why) outcome.Fails

  -- what is known here is told, as of this second
  abbrev pub TellsLocal : RequestValue → Query → KeptValue → Outcome → ForwarderValue → Type 0
  TellsLocal r q kept =
      Replies (reply_to r (end_of q kept (second_of before)) before.options.trusts_authentic_data (second_of before))
      outcome.Local
