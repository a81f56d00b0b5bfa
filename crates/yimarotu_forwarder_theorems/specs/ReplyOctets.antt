-- Each reply has the number and the question of its request, and is no longer than its client takes.
use Rattle.std.specs.Prelude.{◌≡◌, ◌≤◌, ℕ, List, length, take, drop, Some}
use Rattle.hickory_proto_wire.specs.Writing.{u16_octets}
use Rattle.client_requests.specs.Requests.{IsShort, RequestValue, limit_of, question_of, request_of}
use Rattle.client_requests.specs.declared.client.Client.{Client}
use Rattle.yimarotu_forwarder.specs.Forwarders.{ForwarderValue}
use Rattle.yimarotu_forwarder.specs.Queries.{AnswersQuery}
use Rattle.yimarotu_forwarder.specs.declared.answered.Answered.TheVariants.{Replied}

-- It begins with the number of the request, and behind the header is its question, octet for octet, where that can be
-- read (RFC 1035, section 4.1.1). It has no more octets than its client takes (RFC 6891, section 6.2.3), where the
-- question has no more than a question has: so each does that is read.
pub record IsOwnReply (r : RequestValue) (reply : List ℕ) : Type 0 where
  pub id : take 2 reply ≡ u16_octets r.query.id
  pub question : take (length (question_of r)) (drop 12 reply) ≡ question_of r
  pub fits : IsShort r → length reply ≤ limit_of r

-- octets of a client are a request, and this is a reply to it
pub record IsReplyToOctets (c : Client) (octets reply : List ℕ) : Type 0 where
  pub request : RequestValue
  pub read : request_of c octets ≡ Some request
  pub own : IsOwnReply request reply

-- What is replied at once is a reply to what came.
abbrev pub RepliesAtOnceAreOwn : Type 0
RepliesAtOnceAreOwn =
    (c : Client) (octets : List ℕ) (now : ℕ) (before after : ForwarderValue)
    → AnswersQuery c octets now before Replied after → IsReplyToOctets c octets after.reply
