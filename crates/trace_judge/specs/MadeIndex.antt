-- What a resolver may make by itself, found by keys.
use Rattle.std.specs.Prelude.{◌-◌, ℕ, Bool, false, ◌&&◌, ◌==◌, drop, length, max, take, List, ◌++◌, Option, if◌then◌else◌}
use Rattle.std.specs.List.{list_any}
use Rattle.std.specs.Net.Addr.{ipv6_octets, octets_of}
use Rattle.hickory_proto_core.specs.Codes.{class_code, type_of}
use Rattle.hickory_proto_core.specs.Name.{NameValue, name_eq, trimmed_name}
use Rattle.hickory_proto_core.specs.Records.{DataValue, RecordValue, a_data, aaaa_data, cname_data, unknown_data}
use Rattle.hickory_proto_core.specs.codes.dns_class.DNSClass.{DNSClass}
use Rattle.hickory_proto_core.specs.codes.record_type.RecordType.TheVariants as type
use Rattle.synthesis.specs.Dns64.{is_embedded}
use Rattle.synthesis.specs.Nsec3.{ChainValue, Nsec3Value, covers, encloses, is_bare, read_chain}
use Rattle.synthesis.specs.declared.dns64.Prefix.{Prefix}
use Rattle.trace_judge.specs.Hashed.{chain_passes, is_hashed}
use Rattle.trace_judge.specs.Index.{IndexValue, any_late, seen_at, type_key}
use Rattle.trace_judge.specs.Making.{makes_alias, makes_denial}
use Rattle.trace_judge.specs.Below.{some_below}
use Rattle.trace_judge.specs.Receptions.{grace}
use Rattle.trace_judge.specs.RecordKeys.{KeyValue, first_four, no_target, sought_key}
use Rattle.trace_judge.specs.declared.gap.Gap.{Gap}
use Rattle.trace_judge.specs.declared.gap.Gap.TheVariants.{Between, Hash}
use Rattle.trace_judge.specs.declared.hashed.Says.{Says}
use Rattle.trace_judge.specs.declared.hashed.Says.TheVariants.{Encloses, IsBare}

-- what may be kept until a moment runs out at this one or later
abbrev pub late : IndexValue → ℕ → ℕ
late i until = max (until - grace i.slack) i.oldest

abbrev pub is_alias_made_at : IndexValue → ℕ → RecordValue → NameValue → ℕ → Bool
is_alias_made_at i from told target count =
    any_late from (makes_alias told target count)
    (seen_at i.seen (sought_key (type_key told.dns_class (trimmed_name count told.name) (type_of 39))))

abbrev pub is_alias_made_in : IndexValue → ℕ → RecordValue → NameValue → Bool
is_alias_made_in i from told target = some_below (length told.name.labels) (is_alias_made_at i from told target)

-- what an IPv6 address has behind the octets of a prefix
abbrev pub behind : Prefix → List ℕ → List ℕ
behind prefix octets = drop (length (take prefix.octets (ipv6_octets prefix.address))) octets

-- the IPv4 address there: all of it, or what stands around the ninth octet of the sixteen (RFC 6052, section 2.2)
abbrev pub inside : ℕ → List ℕ → List ℕ
inside count rest = if count == 12 then rest else take (8 - count) rest ++ drop (9 - count) rest

-- the key of the A records of this name that can make the address with this prefix
abbrev pub address_key : Prefix → RecordValue → List ℕ → KeyValue
address_key prefix told segments = record {
  query = type_key told.dns_class told.name type.A;
  target = no_target;
  octets = first_four (inside prefix.octets (behind prefix (octets_of segments)));
}

abbrev pub embeds : Prefix → List ℕ → DataValue → Bool
embeds prefix segments (a_data octets) = is_embedded prefix octets segments
embeds prefix segments other = false

-- the A record of the same name, in this prefix, makes this AAAA record
abbrev pub makes_address_by : RecordValue → List ℕ → Prefix → RecordValue → Bool
makes_address_by told segments prefix by =
    ((class_code by.dns_class == class_code told.dns_class) && name_eq by.name told.name)
    && embeds prefix segments by.rdata

abbrev pub is_address_made_by : IndexValue → ℕ → RecordValue → List ℕ → Prefix → Bool
is_address_made_by i from told segments prefix =
    any_late from (makes_address_by told segments prefix) (seen_at i.seen (address_key prefix told segments))

abbrev pub is_address_made_in : IndexValue → ℕ → RecordValue → List ℕ → Bool
is_address_made_in i from told segments = list_any (is_address_made_by i from told segments) i.dns64

abbrev pub is_data_made_in : IndexValue → ℕ → RecordValue → DataValue → Bool
is_data_made_in i from told (cname_data target) = is_alias_made_in i from told target
is_data_made_in i from told (aaaa_data segments) = is_address_made_in i from told segments
is_data_made_in i from told other = false

-- ---- gaps: what NSEC and NSEC3 records say

-- the record makes the denial, or says that no name has this hash
abbrev pub gap_makes : DNSClass → Gap → RecordValue → Bool
gap_makes class (Between name denied) by = makes_denial class name.now denied by
gap_makes class (Hash chain hashed) by = is_hashed class (covers chain.now hashed.now) by

-- a record says this of the hash that is its owner
abbrev pub said_test : ChainValue → Says → NameValue → NameValue → Option Nsec3Value → Bool
said_test chain Encloses hashed = encloses chain hashed
said_test chain (IsBare code) hashed = is_bare chain hashed code

-- a record that is kept for a chain is of this zone, and the chain passes the test
abbrev pub octets_pass : (ChainValue → Bool) → NameValue → DataValue → Bool
octets_pass test zone (unknown_data code octets) = (code == 51) && chain_passes test (read_chain zone octets)
octets_pass test zone other = false

abbrev pub is_kept_chain : DNSClass → NameValue → (ChainValue → Bool) → RecordValue → Bool
is_kept_chain class zone test by =
    ((class_code by.dns_class == class_code class) && name_eq by.name zone) && octets_pass test zone by.rdata
