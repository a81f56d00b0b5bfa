-- What a client is told in the end.
use Rattle.std.specs.Prelude.{ℕ, ◌+◌, Bool, false, List, length, nat_le, Option, unwrap_or, if◌then◌else◌}
use Rattle.client_queries.specs.Refusals.{refusal_octets}
use Rattle.client_queries.specs.declared.query.Refusal.{Refusal}
use Rattle.failure_replies.specs.Failures.{failure_octets}
use Rattle.failure_replies.specs.declared.failure.FailureReason.{FailureReason}
use Rattle.failure_replies.specs.declared.failure.FailureReason.TheVariants.{Other}
use Rattle.stored_replies.specs.Stale.{stale_of}
use Rattle.stored_replies.specs.Stored.{StoredValue, stored_octets}
use Rattle.stored_replies.specs.Told.{opt_length, reply_within, cut_within}
use Rattle.client_requests.specs.Requests.{RequestValue, limit_of}
use Rattle.client_requests.specs.declared.choices.TheConstants.{LONGEST_MESSAGE}
use Rattle.client_requests.specs.declared.fetch_end.FetchEnd.{FetchEnd}
use Rattle.client_requests.specs.declared.fetch_end.FetchEnd.TheVariants.{Reply, Failure}

abbrev pub refusal_reply : RequestValue → Refusal → List ℕ
refusal_reply r refusal = refusal_octets r.octets r.query refusal

abbrev pub failure_reply : RequestValue → FailureReason → List ℕ
failure_reply r reason = failure_octets r.octets r.query reason

-- the whole of a stored reply is not too long for the client
abbrev pub fits : RequestValue → StoredValue → Bool
fits r s = nat_le (length (stored_octets s) + opt_length r.query.edns) (limit_of r)

-- The reply that is stored, as it has aged at this second. Where it is too long it has no records, and says TC. None where
-- the request asks another question than the one that is stored.
abbrev pub stored_reply : RequestValue → StoredValue → Bool → ℕ → Option (List ℕ)
stored_reply r s trust now =
    if fits r s then reply_within LONGEST_MESSAGE r.octets r.query s trust now
    else cut_within LONGEST_MESSAGE r.octets r.query s trust now

-- The same of a reply past its end (RFC 8767): each TTL is 30 seconds, and AD is not set.
abbrev pub stale_reply : RequestValue → StoredValue → Option (List ℕ)
stale_reply r s =
    if fits r s then reply_within LONGEST_MESSAGE r.octets r.query (stale_of s) false 0
    else cut_within LONGEST_MESSAGE r.octets r.query s false 0

-- what a look-up came to: a reply, or a failure
abbrev pub reply_to : RequestValue → FetchEnd → Bool → ℕ → List ℕ
reply_to r (Reply s) trust now = unwrap_or (stored_reply r s trust now) (failure_reply r Other)
reply_to r (Failure reason) trust now = failure_reply r reason
