-- Questions, records and their data as text: their fields in order, a space between them. No field is empty.
use Rattle.std.specs.Prelude.{ℕ, false, not, ◌∷◌, ◌&&◌, ◌==◌, ◌^◌, ◌-◌, List, [], ◌++◌, length, codes, if◌then◌else◌}
use Rattle.std.specs.Fmt.{decimal, digits, format_spec, padded_integral}
use Rattle.std.specs.List.{flat_map}
use Rattle.std.specs.Net.Text.{ipv4_text, ipv6_text}
use Rattle.hickory_proto_names.specs.Name.{NameValue}
use Rattle.hickory_proto_names.specs.NameText.{name_text}
use Rattle.hickory_proto_codes.specs.Codes.{type_code, type_text, class_code, class_text}
use Rattle.hickory_proto_core.specs.Records.{RecordValue, DataValue, a_data, aaaa_data, cname_data, ns_data, ptr_data, soa_data, srv_data, mx_data, txt_data, unknown_data, data_type}
use Rattle.hickory_proto_core.specs.declared.query.Query.{Query}

-- a name, where `@` stands for the relative name without labels (RFC 1035, section 5.1)
abbrev pub shown_name : NameValue → List ℕ
shown_name name = if (length name.labels == 0) && not name.fqdn then codes "@" else name_text name

-- NAME CLASS TYPE
abbrev pub question_text : Query → List ℕ
question_text q =
    shown_name q.name ++ codes " " ++ class_text (class_code q.query_class) ++ codes " "
    ++ type_text (type_code q.query_type)

-- two hex digits for each byte, or `-` for no bytes
abbrev pub hex_text : List ℕ → List ℕ
hex_text bytes =
    flat_map (λ byte. padded_integral (format_spec 32 0 4 2 (2 ^ 64 - 1)) false []
    (digits 16 false byte)) bytes

abbrev pub bytes_text : List ℕ → List ℕ
bytes_text bytes = if length bytes == 0 then codes "-" else hex_text bytes

-- a field behind others: a space, and what it tells
abbrev pub name_field : NameValue → List ℕ
name_field name = codes " " ++ shown_name name

abbrev pub number_field : ℕ → List ℕ
number_field n = codes " " ++ decimal n

abbrev pub string_fields : List (List ℕ) → List ℕ
string_fields strings = flat_map (λ string. codes " " ++ bytes_text string) strings

-- strings, a space between them
abbrev pub strings_text : List (List ℕ) → List ℕ
strings_text [] = []
strings_text (string ∷ strings) = bytes_text string ++ string_fields strings

-- the fields of the data
abbrev pub data_text : DataValue → List ℕ
data_text (a_data octets) = ipv4_text octets
data_text (aaaa_data segments) = ipv6_text segments
data_text (cname_data target) = shown_name target
data_text (ns_data target) = shown_name target
data_text (ptr_data target) = shown_name target
data_text (soa_data mname rname serial refresh retry expire minimum) =
    shown_name mname ++ name_field rname ++ number_field serial ++ number_field refresh ++ number_field retry
    ++ number_field expire ++ number_field minimum
data_text (srv_data priority weight port target) =
    decimal priority ++ number_field weight ++ number_field port ++ name_field target
data_text (mx_data preference exchange) = decimal preference ++ name_field exchange
data_text (txt_data strings) = strings_text strings
data_text (unknown_data code bytes) = bytes_text bytes

-- the fields of the data behind others; a TXT record without strings has none
abbrev pub data_field : DataValue → List ℕ
data_field (txt_data strings) = string_fields strings
data_field other = codes " " ++ data_text other

-- TTL CLASS TYPE
abbrev pub kind_text : RecordValue → List ℕ
kind_text r =
    decimal r.ttl ++ codes " " ++ class_text (class_code r.dns_class) ++ codes " "
    ++ type_text (type_code (data_type r.rdata))

-- NAME TTL CLASS TYPE, and the fields of the data
abbrev pub record_text : RecordValue → List ℕ
record_text r = shown_name r.name ++ codes " " ++ kind_text r ++ data_field r.rdata
