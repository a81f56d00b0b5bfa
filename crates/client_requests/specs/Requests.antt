-- Requests of clients: a query with who asks it, and what is kept of it while it waits for its reply.
use Rattle.std.specs.Prelude.{ℕ, ◌≤◌, List, length, take, Option, if◌then◌else◌}
use Rattle.std.specs.Option.{option_map}
use Rattle.client_queries.specs.Queries.{query_of}
use Rattle.client_queries.specs.Refusals.{datagram_limit, question_octets}
use Rattle.client_queries.specs.declared.query.ClientQuery.{ClientQuery}
use Rattle.client_requests.specs.declared.choices.TheConstants.{LONGEST_MESSAGE, LONGEST_QUESTION}
use Rattle.client_requests.specs.declared.client.Client.{Client}

-- who asks, what its query is, and octets that begin with the header and the question
pub record RequestValue : Type 0 where
  pub client : Client
  pub query : ClientQuery
  pub octets : List ℕ

abbrev pub request_with : Client → List ℕ → ClientQuery → RequestValue
request_with c octets q = record { client = c; query = q; octets = octets }

-- Octets shorter than a header are no query, and neither is a response.
abbrev pub request_of : Client → List ℕ → Option RequestValue
request_of c octets = option_map (request_with c octets) (query_of octets)

-- the octets of its question
abbrev pub question_of : RequestValue → List ℕ
question_of r = question_octets r.octets r.query.question_end

-- a name and two codes are no longer than this (RFC 1035, section 2.3.4)
abbrev pub IsShort : RequestValue → Type 0
IsShort r = length (question_of r) ≤ LONGEST_QUESTION

-- What is kept of it while it waits: nothing behind the question.
abbrev pub waiting_up_to : RequestValue → ℕ → RequestValue
waiting_up_to r end = record r { octets = take end r.octets }

-- It can wait where its question can be read.
abbrev pub waiting_of : RequestValue → Option RequestValue
waiting_of r = option_map (waiting_up_to r) r.query.question_end

-- How many octets its reply may have: on a stream as many as a message has at the most (RFC 1035, section 4.2.2), and as
-- a datagram as many as the client takes (RFC 6891, section 6.2.3).
abbrev pub limit_of : RequestValue → ℕ
limit_of r = if r.client.is_stream then LONGEST_MESSAGE else datagram_limit r.query.edns
