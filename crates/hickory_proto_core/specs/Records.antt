-- Resource records as plain data (RFC 1035, section 3.2.1), and when two are equal.
use Rattle.std.specs.Prelude.{ℕ, Bool, ◌-◌, ◌&&◌, ◌==◌, List, [], ◌∷◌, nat_eq, Option, Some, None}
use Rattle.std.specs.Cmp.{IsEquivalence, and_equiv, on_equiv, nat_eq_equiv}
use Rattle.std.specs.Cmp.Lexicographic.{pointwise, lists_equiv}
use Rattle.std.specs.Net.Addr.{ipv4_octets, ipv6_segments}
use Rattle.std.specs.declared.net.IpAddr.{IpAddr}
use Rattle.std.specs.declared.net.IpAddr.TheVariants.{V4, V6}
use Rattle.hickory_proto_names.specs.Name.{NameValue, name_eq, label_bytes}
use Rattle.hickory_proto_names.specs.NameLaws.{name_equiv}
use Rattle.hickory_proto_codes.specs.Codes.{class_code, type_of}
use Rattle.hickory_proto_codes.specs.declared.dns_class.DNSClass.{DNSClass}
use Rattle.hickory_proto_codes.specs.declared.record_type.RecordType.{RecordType}
use Rattle.hickory_proto_codes.specs.declared.record_type.RecordType.TheVariants as type
use Rattle.hickory_proto_core.specs.declared.record_data.RData.{RData}
use Rattle.hickory_proto_core.specs.declared.record_data.RData.TheVariants.{A, AAAA, CNAME, NS, PTR, SOA, SRV, MX, TXT, Unknown}

-- the data of a record, with lists for vectors. An IPv4 address is its four octets, and an IPv6 address its
-- eight segments
pub data DataValue : Type 0 where
  a_data : List ℕ → DataValue
  aaaa_data : List ℕ → DataValue
  cname_data : NameValue → DataValue
  ns_data : NameValue → DataValue
  ptr_data : NameValue → DataValue
  soa_data : NameValue → NameValue → ℕ → ℕ → ℕ → ℕ → ℕ → DataValue
  srv_data : ℕ → ℕ → ℕ → NameValue → DataValue
  mx_data : ℕ → NameValue → DataValue
  txt_data : List (List ℕ) → DataValue
  unknown_data : ℕ → List ℕ → DataValue

abbrev pub data_of : RData → DataValue
data_of (A address) = a_data (ipv4_octets address)
data_of (AAAA address) = aaaa_data (ipv6_segments address)
data_of (CNAME target) = cname_data target
data_of (NS target) = ns_data target
data_of (PTR target) = ptr_data target
data_of (SOA mname rname serial refresh retry expire minimum) =
    soa_data mname rname serial refresh retry expire minimum
data_of (SRV priority weight port target) = srv_data priority weight port target
data_of (MX preference exchange) = mx_data preference exchange
data_of (TXT strings) = txt_data (label_bytes strings.items)
data_of (Unknown code bytes) = unknown_data code bytes.items

-- the type of a record with these data
abbrev pub data_type : DataValue → RecordType
data_type (a_data octets) = type.A
data_type (aaaa_data segments) = type.AAAA
data_type (cname_data target) = type.CNAME
data_type (ns_data target) = type.NS
data_type (ptr_data target) = type.PTR
data_type (soa_data mname rname serial refresh retry expire minimum) = type.SOA
data_type (srv_data priority weight port target) = type.SRV
data_type (mx_data preference exchange) = type.MX
data_type (txt_data strings) = type.TXT
data_type (unknown_data code bytes) = type_of code

-- the address of A and AAAA data, and the data of an address
abbrev pub address_of : RData → Option IpAddr
address_of (A address) = Some (V4 address)
address_of (AAAA address) = Some (V6 address)
address_of other = None

abbrev pub data_of_address : IpAddr → DataValue
data_of_address (V4 address) = a_data (ipv4_octets address)
data_of_address (V6 address) = aaaa_data (ipv6_segments address)

-- the time to live of negative answers that SOA data give (RFC 2308, section 4), and the server that NS data
-- name. Data of an unknown kind give neither
abbrev pub soa_minimum : DataValue → Option ℕ
soa_minimum (soa_data mname rname serial refresh retry expire minimum) = Some minimum
soa_minimum other = None

abbrev pub ns_target : DataValue → Option NameValue
ns_target (ns_data target) = Some target
ns_target other = None

pub record RecordValue : Type 0 where
  pub name : NameValue
  pub dns_class : DNSClass
  pub ttl : ℕ
  pub rdata : DataValue

-- the record, its TTL so many seconds lower, and 0 at the least
abbrev pub lower_ttl : ℕ → RecordValue → RecordValue
lower_ttl seconds r = record r { ttl = r.ttl - seconds }

-- data are of one kind where they are of one variant; then they are equal where their names (without case),
-- their numbers and their bytes are
abbrev pub data_kind : DataValue → ℕ
data_kind (a_data octets) = 1
data_kind (aaaa_data segments) = 2
data_kind (cname_data target) = 3
data_kind (ns_data target) = 4
data_kind (ptr_data target) = 5
data_kind (soa_data mname rname serial refresh retry expire minimum) = 6
data_kind (srv_data priority weight port target) = 7
data_kind (mx_data preference exchange) = 8
data_kind (txt_data strings) = 9
data_kind (unknown_data code bytes) = 0

abbrev pub data_names : DataValue → List NameValue
data_names (cname_data target) = target ∷ []
data_names (ns_data target) = target ∷ []
data_names (ptr_data target) = target ∷ []
data_names (soa_data mname rname serial refresh retry expire minimum) = mname ∷ rname ∷ []
data_names (srv_data priority weight port target) = target ∷ []
data_names (mx_data preference exchange) = exchange ∷ []
data_names other = []

abbrev pub data_numbers : DataValue → List ℕ
data_numbers (a_data octets) = octets
data_numbers (aaaa_data segments) = segments
data_numbers (soa_data mname rname serial refresh retry expire minimum) =
    serial ∷ refresh ∷ retry ∷ expire ∷ minimum ∷ []
data_numbers (srv_data priority weight port target) = priority ∷ weight ∷ port ∷ []
data_numbers (mx_data preference exchange) = preference ∷ []
data_numbers (unknown_data code bytes) = code ∷ []
data_numbers other = []

abbrev pub data_bytes : DataValue → List (List ℕ)
data_bytes (txt_data strings) = strings
data_bytes (unknown_data code bytes) = bytes ∷ []
data_bytes other = []

abbrev pub data_eq : DataValue → DataValue → Bool
data_eq d e =
    (data_kind d == data_kind e) && pointwise name_eq (data_names d) (data_names e)
    && pointwise nat_eq (data_numbers d) (data_numbers e)
    && pointwise (pointwise nat_eq) (data_bytes d) (data_bytes e)

pub data_equiv : IsEquivalence data_eq
data_equiv =
    and_equiv (and_equiv (and_equiv (on_equiv data_kind nat_eq_equiv)
    (on_equiv data_names (lists_equiv name_equiv)))
    (on_equiv data_numbers (lists_equiv nat_eq_equiv)))
    (on_equiv data_bytes (lists_equiv (lists_equiv nat_eq_equiv)))

-- records are equal where all four fields are
abbrev pub record_eq : RecordValue → RecordValue → Bool
record_eq r s =
    name_eq r.name s.name && (class_code r.dns_class == class_code s.dns_class) && (r.ttl == s.ttl)
    && data_eq r.rdata s.rdata

pub record_equiv : IsEquivalence record_eq
record_equiv =
    and_equiv (and_equiv (and_equiv (on_equiv (λ r. r.name) name_equiv)
    (on_equiv (λ r. class_code r.dns_class) nat_eq_equiv)) (on_equiv (λ r. r.ttl) nat_eq_equiv))
    (on_equiv (λ r. r.rdata) data_equiv)
