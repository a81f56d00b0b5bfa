-- Queries of clients, and the replies to them.
use Rattle.std.specs.Prelude.{◌≡◌, ◌≢◌, ◌⊎◌, ℕ, Bool, List, length, Option, None, Some, Result, Ok, Err, MatchOption, MatchResult}
use Rattle.std.specs.Net.Addr.{ipv4_octets, ipv6_segments, segments_of}
use Rattle.std.specs.declared.net.IpAddr.{IpAddr}
use Rattle.std.specs.declared.net.IpAddr.TheVariants.{V4, V6}
use Rattle.client_requests.specs.declared.client.Client.{Client}
use Rattle.yimarotu_forwarder.specs.declared.answered.Answered.{Answered}
use Rattle.yimarotu_forwarder.specs.declared.answered.Answered.TheVariants.{Replied, Waits, Dropped}
use Rattle.yimarotu_driven_forwarder.specs.Driven.{Asks, DrivenValue, StopsAsking}
use Rattle.yimarotu_driven_forwarder.specs.declared.driven_forwarder.QueryError.{QueryError}
use Rattle.yimarotu_driven_forwarder.specs.declared.driven_forwarder.QueryError.TheVariants.{ReplyWaits, OutOfMemory}
use Rattle.yimarotu_forwarder_c.specs.Calls.{OnOpenIn}
use Rattle.yimarotu_forwarder_c.specs.Rooms.{IsPut}
use Rattle.yimarotu_forwarder_c.specs.Statuses.{number_of}
use Rattle.yimarotu_forwarder_c.specs.declared.querying.YimarotuQueried.{YimarotuQueried}
use Rattle.yimarotu_forwarder_c.specs.declared.querying.YimarotuWritten.{YimarotuWritten}
use Rattle.yimarotu_forwarder_c.specs.declared.status.Status.{Status}
use Rattle.yimarotu_forwarder_c.specs.declared.status.Status.TheVariants as status

-- ---- who asks

-- the address of these octets: 4 are of IPv4, 16 are of IPv6, and others are of none
abbrev pub IsAddress : List ℕ → Option IpAddr → Type 0
IsAddress octets (Some (V4 address)) = (length octets ≡ 4) × (ipv4_octets address ≡ octets)
IsAddress octets (Some (V6 address)) = (length octets ≡ 16) × (ipv6_segments address ≡ segments_of octets)
IsAddress octets None = (length octets ≢ 4) × (length octets ≢ 16)

abbrev pub client_at : ℕ → Bool → IpAddr → Client
client_at number is_stream address = record { number = number; address = address; is_stream = is_stream }

-- ---- what becomes of a query

abbrev pub answered_number : Answered → ℕ
answered_number Dropped = 0
answered_number Replied = 1
answered_number Waits = 2

abbrev pub unanswered : Status → YimarotuQueried
unanswered s = record { status = number_of s; answered = answered_number Dropped; length = 0 }

abbrev pub query_status : QueryError → Status
query_status ReplyWaits = status.Waits
query_status OutOfMemory = status.NoMemory

abbrev pub replied : Status → List ℕ → YimarotuQueried
replied s reply = record { status = number_of s; answered = answered_number Replied; length = length reply }

-- the reply is put in the room
abbrev pub IsReplyTold : List ℕ → List ℕ → YimarotuQueried → List ℕ → Type 0
IsReplyTold reply before ended after = (s : Status) × IsPut reply before after s × (ended ≡ replied s reply)

abbrev pub IsAnswerTold : Answered → DrivenValue → List ℕ → YimarotuQueried → List ℕ → Type 0
IsAnswerTold Replied d before ended after = IsReplyTold d.forwarder.reply before ended after
IsAnswerTold Waits d before ended after =
    (ended ≡ record { status = number_of status.Ok; answered = answered_number Waits; length = 0 }) × (after ≡ before)
IsAnswerTold Dropped d before ended after = (ended ≡ unanswered status.Ok) × (after ≡ before)

-- the forwarder answers it, or does not
abbrev pub QueriesAs : Client → List ℕ → ℕ → DrivenValue → List ℕ → YimarotuQueried → DrivenValue → List ℕ → Type 0
QueriesAs client octets moment d before ended left after =
    ((answered : Answered) × Asks client octets moment d answered left × IsAnswerTold answered left before ended after)
    ⊎ ((error : QueryError) × StopsAsking moment d error left × (ended ≡ unanswered (query_status error))
    × (after ≡ before))

-- of a client whose address is one; else nothing changes
abbrev pub Queries : ℕ → List ℕ → Bool → List ℕ → ℕ → DrivenValue → List ℕ → YimarotuQueried → DrivenValue → List ℕ
    → Type 0
Queries number address is_stream octets moment d before ended left after =
    (found : Option IpAddr) × IsAddress address found
    × MatchOption found ((ended ≡ unanswered status.Kind) × (left ≡ d) × (after ≡ before))
    (λ a. QueriesAs (client_at number is_stream a) octets moment d before ended left after)

abbrev pub IsQueried : ℕ → List ℕ → Bool → List ℕ → ℕ → Option DrivenValue → List ℕ → YimarotuQueried
    → Option DrivenValue → List ℕ → Type 0
IsQueried number address is_stream octets moment =
    OnOpenIn (Queries number address is_stream octets moment) (unanswered status.Closed)

-- ---- the reply that was written last

abbrev pub written : Status → ℕ → YimarotuWritten
written s octets = record { status = number_of s; fault = 0; length = octets }

abbrev pub IsWritten : DrivenValue → List ℕ → YimarotuWritten → List ℕ → Type 0
IsWritten d before ended after =
    (s : Status) × IsPut d.forwarder.reply before after s × (ended ≡ written s (length d.forwarder.reply))

-- it is put in the room, and the forwarder stays
abbrev pub WritesReply : DrivenValue → List ℕ → YimarotuWritten → DrivenValue → List ℕ → Type 0
WritesReply d before ended left after = IsWritten d before ended after × (left ≡ d)

abbrev pub IsReplyPut : Option DrivenValue → List ℕ → YimarotuWritten → Option DrivenValue → List ℕ → Type 0
IsReplyPut = OnOpenIn WritesReply (written status.Closed 0)
