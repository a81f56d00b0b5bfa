-- Replies that refuse a query, and how long a reply may be.
use Rattle.std.specs.Prelude.{ℕ, ◌+◌, ◌-◌, ◌*◌, ◌/◌, ◌%◌, List, [], ◌∷◌, ◌++◌, take, drop, min, max, Option, None, Some}
use Rattle.std.specs.Option.{option_map_or}
use Rattle.hickory_proto_wire.specs.Messages.{bit}
use Rattle.hickory_proto_wire.specs.Writing.{u16_octets, weighed}
use Rattle.client_queries.specs.declared.choices.TheConstants.{LARGEST_DATAGRAM}
use Rattle.client_queries.specs.declared.query.ClientEdns.{ClientEdns}
use Rattle.client_queries.specs.declared.query.ClientQuery.{ClientQuery}
use Rattle.client_queries.specs.declared.query.Refusal.{Refusal}
use Rattle.client_queries.specs.declared.query.Refusal.TheVariants.{FormErr, NotImp, Refused, NotAuth, BadVers}

-- the response code (RFC 1035, section 4.1.1; RFC 8945, section 3; RFC 6891, section 9)
abbrev pub refusal_code : Refusal → ℕ
refusal_code FormErr = 1
refusal_code NotImp = 4
refusal_code Refused = 5
refusal_code NotAuth = 9
refusal_code BadVers = 16

-- A response of the query's kind, with RD and CD as they were asked, and RA. The code's lower four bits stand here.
abbrev pub reply_flags : ℕ → ℕ → ℕ
reply_flags asked code =
    32768 + asked / 2048 % 16 * 2048 + weighed (bit 256 asked) 256 + 128 + weighed (bit 16 asked) 16 + code % 16

-- the question, octet for octet, where it can be read
abbrev pub question_octets : List ℕ → Option ℕ → List ℕ
question_octets octets None = []
question_octets octets (Some end) = take (end - 12) (drop 12 octets)

abbrev pub count_of : {A : Type 0} → Option A → ℕ
count_of None = 0
count_of (Some x) = 1

-- OPT of version 0 without options, where the query had OPT: the code's upper bits, and DNSSEC OK as it was asked
abbrev pub opt_octets : Option ClientEdns → ℕ → List ℕ
opt_octets None code = []
opt_octets (Some edns) code =
    0 ∷ u16_octets 41 ++ u16_octets LARGEST_DATAGRAM ++ code / 16 ∷ 0 ∷ u16_octets (weighed edns.dnssec_ok 32768)
    ++ u16_octets 0

-- how many questions, answers, records of authority, and others
abbrev pub count_octets : ClientQuery → List ℕ
count_octets q = u16_octets (count_of q.question_end) ++ u16_octets 0 ++ u16_octets 0 ++ u16_octets (count_of q.edns)

abbrev pub head_octets : ClientQuery → ℕ → List ℕ
head_octets q code = u16_octets q.id ++ u16_octets (reply_flags q.flags code) ++ count_octets q

-- the reply to these octets that says this code, with nothing looked up
abbrev pub refusal_octets : List ℕ → ClientQuery → Refusal → List ℕ
refusal_octets octets q refusal =
    head_octets q (refusal_code refusal) ++ question_octets octets q.question_end
    ++ opt_octets q.edns (refusal_code refusal)

-- How many octets a datagram to the client may have (RFC 6891, sections 6.2.3 and 6.2.5): 512 without OPT, and no less.
abbrev pub datagram_limit : Option ClientEdns → ℕ
datagram_limit edns = min (max (option_map_or (λ e. e.size) edns 512) 512) LARGEST_DATAGRAM
