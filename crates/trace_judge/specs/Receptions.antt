-- Records as they were received, and what the receptions allow of a record that is told.
use Rattle.std.specs.Prelude.{◌+◌, ◌*◌, ℕ, Bool, ◌&&◌, ◌==◌, nat_le, List, [], ◌∷◌, ◌++◌, map, max, fold, if◌then◌else◌}
use Rattle.std.specs.List.{list_any}
use Rattle.hickory_proto_core.specs.Codes.{class_code}
use Rattle.hickory_proto_core.specs.Name.{name_eq}
use Rattle.hickory_proto_core.specs.Records.{RecordValue, data_eq, data_type}
use Rattle.hickory_proto_core.specs.declared.query.Query.{Query}
use Rattle.trace_judge.specs.Trace.{is_counted, is_outcome, milliseconds_of}
use Rattle.trace_judge.specs.declared.event.Event.{Event}
use Rattle.trace_judge.specs.declared.event.Moment.{Moment}
use Rattle.trace_judge.specs.Replies.{ReplyValue}
use Rattle.trace_judge.specs.declared.event.Said.{Said}
use Rattle.trace_judge.specs.declared.event.Said.TheVariants.{Asked, Received, Told}
use Rattle.trace_judge.specs.declared.receptions.Reception.{Reception}

abbrev pub reception_at : Moment → RecordValue → Reception
reception_at moment r = record { moment = moment; found = r }

-- each record of a response, received at this moment
abbrev pub received_of : Moment → ReplyValue → List Reception
received_of moment reply =
    map (reception_at moment) reply.answers ++ map (reception_at moment) reply.authorities
    ++ map (reception_at moment) reply.additionals

-- the records that a line receives: those of a response that counts and has an outcome
abbrev pub received_by : Bool → Moment → Said → List Reception
received_by counts moment (Asked q) = []
received_by counts moment (Received reply) =
    if counts && is_outcome reply.code then received_of moment reply else []
received_by counts moment (Told reply) = []

-- all records that were received, in order
abbrev pub receptions : List Event → List Reception
receptions [] = []
receptions (event ∷ past) = receptions past ++ received_by (is_counted past event.said) event.moment event.said

-- the question that a record answers
abbrev pub question_of : RecordValue → Query
question_of r = record { name = r.name; query_type = data_type r.rdata; query_class = r.dns_class }

-- the same owner (without case), class, type and data; only TTLs may differ
abbrev pub is_same_record : RecordValue → RecordValue → Bool
is_same_record r s =
    name_eq r.name s.name && (class_code r.dns_class == class_code s.dns_class) && data_eq r.rdata s.rdata

-- the moment, in milliseconds, at which what was received runs out (RFC 2181, section 8)
abbrev pub deadline : Reception → ℕ
deadline r = milliseconds_of r.moment + 1000 * r.found.ttl

-- how far past a deadline counts as at it, in milliseconds: so many seconds for rounding, and 50 milliseconds
abbrev pub grace : ℕ → ℕ
grace slack = 1000 * slack + 50

-- the moment until which a client keeps what it is told at a moment, both in milliseconds
abbrev pub reach : ℕ → ℕ → ℕ
reach now ttl = now + 1000 * ttl

-- some reception is of this record
abbrev pub was_received : List Reception → RecordValue → Bool
was_received received told = list_any (λ r. is_same_record r.found told) received

-- a reception of this record allows it to be kept until then
abbrev pub allows : ℕ → ℕ → RecordValue → Reception → Bool
allows slack until told r = is_same_record r.found told && nat_le until (deadline r + grace slack)

abbrev pub was_allowed : ℕ → List Reception → ℕ → RecordValue → Bool
was_allowed slack received until told = list_any (allows slack until told) received

-- some reception of this record has a TTL that is not below the one told
abbrev pub has_ttl : ℕ → RecordValue → Reception → Bool
has_ttl slack told r = is_same_record r.found told && nat_le told.ttl (r.found.ttl + slack)

abbrev pub had_ttl : ℕ → List Reception → RecordValue → Bool
had_ttl slack received told = list_any (has_ttl slack told) received

-- the latest deadline of a record, in milliseconds
abbrev pub later : RecordValue → ℕ → Reception → ℕ
later told latest r = if is_same_record r.found told then max latest (deadline r) else latest

abbrev pub last_deadline : List Reception → RecordValue → ℕ
last_deadline received told = fold (later told) 0 received
