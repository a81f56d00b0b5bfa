-- What a resolver may make by itself of what it received, as long as that is current: aliases of a DNAME record (RFC
-- 6672), denials of NSEC and NSEC3 records (RFC 8198), and addresses by DNS64 (RFC 6147). And what it has of its own.
use Rattle.std.specs.Prelude.{◌+◌, ℕ, Bool, false, ◌&&◌, ◌||◌, ◌==◌, nat_le, length, List}
use Rattle.std.specs.List.{list_any}
use Rattle.hickory_proto_core.specs.Codes.{class_code, type_code}
use Rattle.hickory_proto_core.specs.Name.{NameValue, name_eq, trimmed_name}
use Rattle.hickory_proto_core.specs.Records.{DataValue, RecordValue, a_data, aaaa_data, cname_data, unknown_data}
use Rattle.hickory_proto_core.specs.codes.dns_class.DNSClass.{DNSClass}
use Rattle.synthesis.specs.Dname.{is_substitution}
use Rattle.synthesis.specs.Dns64.{is_embedded}
use Rattle.synthesis.specs.Nsec.{is_name_denied, is_type_denied}
use Rattle.synthesis.specs.declared.dns64.Prefix.{Prefix}
use Rattle.trace_judge.specs.Below.{some_below}
use Rattle.trace_judge.specs.Denials.{last_name, negative_ttl}
use Rattle.trace_judge.specs.Evidence.{EvidenceValue}
use Rattle.trace_judge.specs.Hashed.{is_denied_hashed}
use Rattle.trace_judge.specs.Receptions.{deadline, grace, is_same_record, reach}
use Rattle.trace_judge.specs.Replies.{ReplyValue}
use Rattle.trace_judge.specs.Trace.{milliseconds_of}
use Rattle.trace_judge.specs.declared.denials.Denied.{Denied}
use Rattle.trace_judge.specs.declared.denials.Denied.TheVariants.{WholeName, OneType}
use Rattle.trace_judge.specs.declared.event.Moment.{Moment}
use Rattle.trace_judge.specs.declared.receptions.Reception.{Reception}

-- a record that passes this test was received, and may be kept until that moment
abbrev pub any_lasts : ℕ → ℕ → (RecordValue → Bool) → List Reception → Bool
any_lasts slack until makes received = list_any (λ r. makes r.found && nat_le until (deadline r + grace slack)) received

-- the same of the evidence
abbrev pub lasts : EvidenceValue → ℕ → (RecordValue → Bool) → Bool
lasts e until makes = any_lasts e.slack until makes e.received

-- ---- DNAME

-- DNAME data (of type 39) lead a name to the target; their owner is so many of its last labels
abbrev pub leads_as : NameValue → ℕ → NameValue → DataValue → Bool
leads_as name count target (unknown_data code bytes) = (code == 39) && is_substitution name count target bytes
leads_as name count target other = false

-- the DNAME record, whose owner is so many of the name's last labels, makes this alias of it
abbrev pub makes_alias : RecordValue → NameValue → ℕ → RecordValue → Bool
makes_alias told target count by =
    ((class_code by.dns_class == class_code told.dns_class) && name_eq by.name (trimmed_name count told.name))
    && leads_as told.name count target by.rdata

-- The name is below the owner of such a record.
abbrev pub is_alias_made : EvidenceValue → ℕ → RecordValue → NameValue → Bool
is_alias_made e until told target =
    some_below (length told.name.labels) (λ count. any_lasts e.slack until (makes_alias told target count) e.received)

-- ---- DNS64

-- the address of A data in one of these prefixes has these segments
abbrev pub embeds_as : List Prefix → List ℕ → DataValue → Bool
embeds_as prefixes segments (a_data octets) = list_any (λ prefix. is_embedded prefix octets segments) prefixes
embeds_as prefixes segments other = false

-- the A record of the same name, in one of these prefixes, makes this AAAA record
abbrev pub makes_address : List Prefix → RecordValue → List ℕ → RecordValue → Bool
makes_address prefixes told segments by =
    ((class_code by.dns_class == class_code told.dns_class) && name_eq by.name told.name)
    && embeds_as prefixes segments by.rdata

abbrev pub is_address_made : EvidenceValue → ℕ → RecordValue → List ℕ → Bool
is_address_made e until told segments = any_lasts e.slack until (makes_address e.dns64 told segments) e.received

-- ---- records

abbrev pub is_data_made : EvidenceValue → ℕ → RecordValue → DataValue → Bool
is_data_made e until told (cname_data target) = is_alias_made e until told target
is_data_made e until told (aaaa_data segments) = is_address_made e until told segments
is_data_made e until told other = false

-- the resolver has this record of its own, with whatever TTL
abbrev pub is_own : List RecordValue → RecordValue → Bool
is_own own told = list_any (λ r. is_same_record r told) own

-- the resolver may make the record by itself, with this TTL
abbrev pub is_made : EvidenceValue → Moment → RecordValue → Bool
is_made e now told = is_own e.own told || is_data_made e (reach (milliseconds_of now) told.ttl) told told.rdata

-- ---- NSEC

-- NSEC data (of type 47) of this owner deny the name, or the type at it
abbrev pub denies_by : NameValue → List ℕ → NameValue → Denied → Bool
denies_by owner bytes name WholeName = is_name_denied owner bytes name
denies_by owner bytes name (OneType t) = is_type_denied owner bytes name (type_code t)

abbrev pub denies_as : NameValue → NameValue → Denied → DataValue → Bool
denies_as owner name denied (unknown_data code bytes) = (code == 47) && denies_by owner bytes name denied
denies_as owner name denied other = false

-- the NSEC record makes this denial
abbrev pub makes_denial : DNSClass → NameValue → Denied → RecordValue → Bool
makes_denial class name denied by =
    (class_code by.dns_class == class_code class) && denies_as by.name name denied by.rdata

-- the resolver has records of its own with this name
abbrev pub has_own_name : List RecordValue → DNSClass → NameValue → Bool
has_own_name own class name = list_any (λ r. (class_code r.dns_class == class_code class) && name_eq r.name name) own

-- the resolver may make the denial by itself, for so long
abbrev pub is_denial_made : EvidenceValue → Moment → ReplyValue → Denied → Bool
is_denial_made e now reply denied =
    let class = reply.query.query_class in let name = last_name reply.query reply.answers in
    let until = reach (milliseconds_of now) (negative_ttl reply.authorities) in
    has_own_name e.own class name || lasts e until (makes_denial class name denied)
    || is_denied_hashed (lasts e until) class name denied
