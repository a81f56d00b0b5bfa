-- The octets of a message (RFC 1035, section 4.1), as a function of the message and of how many records are kept.
use Rattle.std.specs.Prelude.{ℕ, zero, suc, ◌+◌, ◌-◌, ◌*◌, ◌/◌, ◌%◌, List, [], ◌∷◌, ◌++◌, length, take, Option, None, Some, Bool, nat_lt, nat_eq, ◌||◌, ◌&&◌, if◌then◌else◌}
use Rattle.std.specs.List.{fold, flat_map}
use Rattle.std.specs.Cmp.Lexicographic.{pointwise}
use Rattle.hickory_proto_names.specs.Name.{NameValue, wire_form}
use Rattle.hickory_proto_codes.specs.Codes.{type_code, class_code, op_code, response_code}
use Rattle.hickory_proto_core.specs.declared.query.Query.{Query}
use Rattle.hickory_proto_core.specs.Records.{RecordValue, DataValue, a_data, aaaa_data, cname_data, ns_data, ptr_data, soa_data, srv_data, mx_data, txt_data, unknown_data}
use Rattle.hickory_proto_wire.specs.declared.wire_message.WireMessage.{WireMessage}
use Rattle.hickory_proto_wire.specs.Edns.{EdnsValue}
use Rattle.hickory_proto_wire.specs.Place.{PlaceValue}
use Rattle.hickory_proto_wire.specs.Writing.{u16_octets, pointer_octets, counted, run_of, data_code, flags_of, opt_count, record_count}

-- ---- names

-- the same labels, octet for octet: case counts
abbrev pub are_same : List (List ℕ) → List (List ℕ) → Bool
are_same = pointwise (pointwise nat_eq)

-- where these labels stand first
abbrev pub place_of : List PlaceValue → List (List ℕ) → Option ℕ
place_of [] labels = None
place_of (p ∷ ps) labels = if are_same p.labels labels then Some p.at else place_of ps labels

-- A name: its labels, up to the first from which on it stands before, and a pointer to there; else all and the root.
abbrev pub pointed_or : Option ℕ → List ℕ → List ℕ
pointed_or None octets = octets
pointed_or (Some at) octets = pointer_octets at

abbrev pub name_octets : List PlaceValue → List (List ℕ) → List ℕ
name_octets places [] = 0 ∷ []
name_octets places (l ∷ ls) = pointed_or (place_of places (l ∷ ls)) (counted l ++ name_octets places ls)

-- how many of its labels stand there, before the root or the pointer
abbrev pub zero_if_some : Option ℕ → ℕ → ℕ
zero_if_some None n = n
zero_if_some (Some at) n = 0

abbrev pub whole_count : List PlaceValue → List (List ℕ) → ℕ
whole_count places [] = 0
whole_count places (l ∷ ls) = zero_if_some (place_of places (l ∷ ls)) (suc (whole_count places ls))

-- The places with those of so many labels more, of a name that begins at a position: the places that a pointer can
-- lead to, and 64 at most.
abbrev pub noted : List PlaceValue → ℕ → ℕ → List (List ℕ) → List PlaceValue
noted places zero at labels = places
noted places (suc n) at [] = places
noted places (suc n) at (l ∷ ls) =
    if nat_lt at 16384 && nat_lt (length places) 64
    then noted (places ++ (record { labels = l ∷ ls; at = at }) ∷ []) n (at + (length l + 1)) ls
    else places

-- ---- questions and records

abbrev pub u32_octets : ℕ → List ℕ
u32_octets n = u16_octets (n / 65536) ++ u16_octets (n % 65536)

-- octets behind their number
abbrev pub measured : List ℕ → List ℕ
measured octets = u16_octets (length octets) ++ octets

-- The data of a record. The names in the data of the types of RFC 1035 may be pointers; the target of SRV data is
-- written whole (RFC 2782), and so are data that are not parsed (RFC 3597, section 4).
abbrev pub data_octets : List PlaceValue → DataValue → List ℕ
data_octets places (a_data octets) = octets
data_octets places (aaaa_data segments) = flat_map u16_octets segments
data_octets places (cname_data target) = name_octets places target.labels
data_octets places (ns_data target) = name_octets places target.labels
data_octets places (ptr_data target) = name_octets places target.labels
data_octets places (soa_data mname rname serial refresh retry expire minimum) =
    name_octets places mname.labels ++ (name_octets places rname.labels ++ (u32_octets serial ++ (u32_octets refresh
    ++ (u32_octets retry ++ (u32_octets expire ++ u32_octets minimum)))))
data_octets places (srv_data priority weight port target) =
    u16_octets priority ++ (u16_octets weight ++ (u16_octets port ++ wire_form target.labels))
data_octets places (mx_data preference exchange) = u16_octets preference ++ name_octets places exchange.labels
data_octets places (txt_data strings) = run_of strings
data_octets places (unknown_data code octets) = octets

abbrev pub query_octets : List PlaceValue → Query → List ℕ
query_octets places q =
    name_octets places q.name.labels ++ (u16_octets (type_code q.query_type) ++ u16_octets (class_code q.query_class))

abbrev pub record_octets : List PlaceValue → RecordValue → List ℕ
record_octets places r =
    name_octets places r.name.labels ++ (u16_octets (data_code r.rdata) ++ (u16_octets (class_code r.dns_class)
    ++ (u32_octets r.ttl ++ measured (data_octets places r.rdata))))

-- ---- what stands behind the header of 12 octets, and the names that can be pointed to

pub record Body : Type 0 where
  pub octets : List ℕ
  pub places : List PlaceValue

abbrev pub body_with : Body → NameValue → List ℕ → Body
body_with b name octets = record {
  octets = b.octets ++ octets;
  places = noted b.places (whole_count b.places name.labels) (12 + length b.octets) name.labels;
}

-- with a question, and with a record
abbrev pub query_added : Body → Query → Body
query_added b q = body_with b q.name (query_octets b.places q)

abbrev pub record_added : Body → RecordValue → Body
record_added b r = body_with b r.name (record_octets b.places r)

abbrev pub records_added : Body → List RecordValue → Body
records_added = fold record_added

abbrev pub queries_body : WireMessage → Body
queries_body m = fold query_added (record { octets = []; places = [] }) m.message.queries

-- all records of a message but OPT, in order
abbrev pub records_of : WireMessage → List RecordValue
records_of m = m.message.answers ++ (m.message.authorities ++ m.message.additionals)

-- ---- the whole

-- OPT (RFC 6891, section 6.1): the root, 41, the size, the upper bits of the response code, version and flags
abbrev pub edns_octets : EdnsValue → ℕ → List ℕ
edns_octets e code =
    0 ∷ (u16_octets 41 ++ (u16_octets e.size
    ++ (u32_octets (code / 16 * 16777216 + e.version * 65536 + e.flags) ++ measured e.options)))

abbrev pub opt_octets : Option EdnsValue → ℕ → List ℕ
opt_octets None code = []
opt_octets (Some e) code = edns_octets e code

-- a message of which only the first records are kept is truncated
abbrev pub is_cut : WireMessage → ℕ → Bool
is_cut m kept = m.message.metadata.truncation || nat_lt kept (record_count m)

-- the header (RFC 1035, section 4.1.1): number and flags, and how many entries the sections have
abbrev pub start_octets : WireMessage → ℕ → List ℕ
start_octets m kept =
    u16_octets m.message.metadata.id
    ++ u16_octets (flags_of m (is_cut m kept) (op_code m.message.metadata.op_code)
    (response_code m.message.metadata.response_code % 16))

abbrev pub count_octets : WireMessage → ℕ → List ℕ
count_octets m kept =
    let behind : ℕ = kept - length m.message.answers in
    let last : ℕ = kept - length m.message.answers - length m.message.authorities in
    u16_octets (length m.message.queries) ++ (u16_octets (length (take kept m.message.answers))
    ++ (u16_octets (length (take behind m.message.authorities))
    ++ u16_octets (length (take last m.message.additionals) + opt_count m.edns)))

abbrev pub header_octets : WireMessage → ℕ → List ℕ
header_octets m kept = start_octets m kept ++ count_octets m kept

-- the octets of a message with its first records, and with OPT
abbrev pub octets_of : WireMessage → ℕ → List ℕ
octets_of m kept =
    header_octets m kept ++ ((records_added (queries_body m) (take kept (records_of m))).octets
    ++ opt_octets m.edns (response_code m.message.metadata.response_code))
