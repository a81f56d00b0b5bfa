-- What is found in what a resolver tells: of each record, and of a denial, every class that holds.
use Rattle.std.specs.Prelude.{◌+◌, ◌-◌, ℕ, Bool, true, false, not, ◌&&◌, ◌||◌, ◌==◌, nat_le, nat_lt, List, [], ◌∷◌, ◌++◌, Option, None, Some, if◌then◌else◌}
use Rattle.std.specs.List.{list_any}
use Rattle.hickory_proto_core.specs.Name.{NameValue, is_zone_of}
use Rattle.hickory_proto_core.specs.Records.{RecordValue}
use Rattle.hickory_proto_core.specs.ResponseKind.{record_type_code}
use Rattle.hickory_proto_core.specs.declared.query.Query.{Query}
use Rattle.trace_judge.specs.Aliases.{is_alias_outlived}
use Rattle.trace_judge.specs.Asks.{was_asked_after, was_asked_since}
use Rattle.trace_judge.specs.Denials.{denied_by, last_denial, last_name, negative_ttl, was_denial_allowed, was_denied}
use Rattle.trace_judge.specs.Making.{is_denial_made, is_made}
use Rattle.trace_judge.specs.Receptions.{had_ttl, last_deadline, reach, was_allowed, was_received}
use Rattle.trace_judge.specs.Trace.{is_outcome, milliseconds_of}
use Rattle.trace_judge.specs.declared.classes.Class.{Class}
use Rattle.trace_judge.specs.declared.classes.Class.TheVariants.{Stale, ServedStale, Raised, AliasOutlives, NegativeOutlives, Synthesized, NeverReceived, Unseen}
use Rattle.trace_judge.specs.declared.classes.Finding.{Finding}
use Rattle.trace_judge.specs.declared.classes.Place.{Place}
use Rattle.trace_judge.specs.declared.classes.Place.TheVariants as place
use Rattle.trace_judge.specs.declared.classes.Section.{Section}
use Rattle.trace_judge.specs.declared.classes.Section.TheVariants as section
use Rattle.trace_judge.specs.declared.denials.Denied.{Denied}
use Rattle.trace_judge.specs.declared.event.Moment.{Moment}
use Rattle.trace_judge.specs.declared.facts.DenialFacts.{DenialFacts}
use Rattle.trace_judge.specs.declared.facts.Facts.{Facts}
use Rattle.trace_judge.specs.Replies.{ReplyValue}
use Rattle.trace_judge.specs.Evidence.{EvidenceValue}

-- the finding, where it holds
abbrev pub when : Bool → Place → Class → List Finding
when true place class = record { place = place; class = class } ∷ []
when false place class = []

-- less than a day after the trace's first moment, in milliseconds
abbrev pub is_first_day : Moment → Moment → Bool
is_first_day start now = nat_lt (milliseconds_of now) (milliseconds_of start + 86400000)

-- ---- classes of a record

-- What is known of a record that is told: whether it was received; whether a reception allows it to be kept for as
-- long as it is told; whether it was received with that TTL; when the last reception of it runs out; and whether its
-- question was asked since then, and not answered.
abbrev pub facts_of : EvidenceValue → Moment → Query → RecordValue → Facts
facts_of e now q told =
    let last = last_deadline e.received told in record {
      received = was_received e.received told;
      allowed = was_allowed e.slack e.received (reach (milliseconds_of now) told.ttl) told;
      had_ttl = had_ttl e.slack e.received told;
      deadline = last;
      tried = was_asked_since e.asks last q told && not (was_asked_after e.answers last q told);
    }

-- received, and told so that it lasts longer than every reception of it allows
abbrev pub is_stale : Facts → Bool
is_stale f = f.received && not f.allowed

-- by how many milliseconds it reaches past the latest deadline
abbrev pub overrun : Moment → RecordValue → Facts → ℕ
overrun now told f = reach (milliseconds_of now) told.ttl - f.deadline

-- received, and told with a TTL above that of every reception
abbrev pub is_raised : Facts → Bool
is_raised f = f.received && not f.had_ttl

-- how many milliseconds ago its latest deadline was
abbrev pub age_past : Moment → Facts → ℕ
age_past now f = milliseconds_of now - f.deadline

-- It had run out, is told with a TTL of 30 seconds at the most, and its question was tried in vain since: so a
-- resolver may serve it (RFC 8767, sections 4 and 5).
abbrev pub is_served_stale : Moment → RecordValue → Facts → Bool
is_served_stale now told f = is_stale f && nat_le told.ttl 30 && nat_lt 0 (age_past now f) && f.tried

abbrev pub received_findings : Moment → Place → RecordValue → Facts → List Finding
received_findings now place told f =
    when (is_stale f) place (Stale (overrun now told f))
    ++ when (is_served_stale now told f) place (ServedStale (age_past now f))
    ++ when (is_raised f) place Raised

-- ---- what was not received, of this name

-- the resolver answers for it by itself
abbrev pub is_local : EvidenceValue → NameValue → Bool
is_local e name = list_any (λ zone. is_zone_of zone name) e.local

-- It is the resolver's own, or may be made of what was received; or it is never received, a day or more after the trace
-- began; or else it is unseen: it may have been received before the trace began.
abbrev pub unknown_findings : EvidenceValue → Moment → Place → NameValue → Bool → List Finding
unknown_findings e now place name made =
    if is_local e name || made then when true place Synthesized else
    (when (not (is_first_day e.start now)) place NeverReceived ++ when (is_first_day e.start now) place Unseen)

-- ---- every class of a record

abbrev pub is_in_answer : Place → Bool
is_in_answer (place.Record section.Answer i) = true
is_in_answer (place.Record section.Authority i) = false
is_in_answer (place.Record section.Additional i) = false
is_in_answer place.Response = false

-- a record of an answer section stands behind an alias that had run out
abbrev pub is_behind_outlived : EvidenceValue → Moment → Query → Place → RecordValue → Bool
is_behind_outlived e now q place told =
    is_in_answer place && is_alias_outlived e.slack e.received (milliseconds_of now) q told.name

-- the pseudo-record of EDNS is no data (RFC 6891, section 6.1.1)
abbrev pub is_pseudo : RecordValue → Bool
is_pseudo r = record_type_code r == 41

-- by what is known of it
abbrev pub known_findings : EvidenceValue → Moment → Place → RecordValue → Facts → List Finding
known_findings e now place told f =
    if f.received then received_findings now place told f
    else unknown_findings e now place told.name (is_made e now told)

abbrev pub record_findings : EvidenceValue → Moment → Query → Place → RecordValue → List Finding
record_findings e now q place told =
    if is_pseudo told then [] else
    (known_findings e now place told (facts_of e now q told)
    ++ when (is_behind_outlived e now q place told) place AliasOutlives)

-- of the records of a section from a number on
abbrev pub section_findings : EvidenceValue → Moment → Query → Section → ℕ → List RecordValue → List Finding
section_findings e now q section i [] = []
section_findings e now q section i (told ∷ more) =
    record_findings e now q (place.Record section i) told ++ section_findings e now q section (i + 1) more

-- ---- classes of a denial

abbrev pub denial_reach : Moment → ReplyValue → ℕ
denial_reach now reply = reach (milliseconds_of now) (negative_ttl reply.authorities)

-- What is known of a denial that is told: whether it was received; whether a reception allows it to be kept for as
-- long as it is told; and when the last reception of it runs out.
abbrev pub denial_facts_of : EvidenceValue → Moment → ReplyValue → Denied → DenialFacts
denial_facts_of e now reply denied =
    let class = reply.query.query_class in let name = last_name reply.query reply.answers in record {
      denied = was_denied e.denied class name denied;
      allowed = was_denial_allowed e.slack e.denied (denial_reach now reply) class name denied;
      deadline = last_denial e.denied class name denied;
    }

abbrev pub denial_overrun : Moment → ReplyValue → DenialFacts → ℕ
denial_overrun now reply f = denial_reach now reply - f.deadline

-- one that outlives what denied it may be made of something else that was received
abbrev pub outlived_class : Moment → ReplyValue → Bool → DenialFacts → Class
outlived_class now reply made f = if made then Synthesized else NegativeOutlives (denial_overrun now reply f)

abbrev pub known_denial_findings : EvidenceValue → Moment → ReplyValue → Bool → DenialFacts → List Finding
known_denial_findings e now reply made f =
    if f.denied then when true place.Response (outlived_class now reply made f)
    else unknown_findings e now place.Response (last_name reply.query reply.answers) made

abbrev pub denied_findings : EvidenceValue → Moment → ReplyValue → Denied → List Finding
denied_findings e now reply denied =
    let f = denial_facts_of e now reply denied in
    if f.allowed then [] else known_denial_findings e now reply (is_denial_made e now reply denied) f

abbrev pub denial_findings : EvidenceValue → Moment → ReplyValue → Option Denied → List Finding
denial_findings e now reply None = []
denial_findings e now reply (Some denied) = denied_findings e now reply denied

-- ---- a response that is told

abbrev pub reply_findings : EvidenceValue → Moment → ReplyValue → List Finding
reply_findings e now reply =
    section_findings e now reply.query section.Answer 0 reply.answers
    ++ section_findings e now reply.query section.Authority 0 reply.authorities
    ++ section_findings e now reply.query section.Additional 0 reply.additionals
    ++ denial_findings e now reply (denied_by reply)

-- codes but NOERROR and NXDOMAIN are not judged
abbrev pub told_findings : EvidenceValue → Moment → ReplyValue → List Finding
told_findings e now reply = if is_outcome reply.code then reply_findings e now reply else []
