-- What a response is to the one who asked: an answer, a negative answer, or a failure
-- (RFC 1035, section 4.1.1; RFC 2308, sections 2 and 3).
use Rattle.std.specs.Prelude.{◌≡◌, ◌⊎◌, ℕ, Bool, true, false, not, ◌&&◌, ◌||◌, ◌==◌, List, [], ◌∷◌, find, filter, min, option_and_then, Option, None, Some, Result, Ok, Err, if◌then◌else◌}
use Rattle.std.specs.List.{list_any, filter_map}
use Rattle.std.specs.Option.{option_map, is_some}
use Rattle.hickory_proto_names.specs.Name.{NameValue, name_eq, is_zone_of}
use Rattle.hickory_proto_codes.specs.Codes.{type_code, response_code}
use Rattle.hickory_proto_core.specs.Records.{RecordValue, data_type, soa_minimum, ns_target}
use Rattle.hickory_proto_core.specs.Messages.{MessageValue, some_record}
use Rattle.hickory_proto_core.specs.Errors.{NoRecordsValue, ForwardValue}
use Rattle.hickory_proto_core.specs.Query.{root_query}
use Rattle.hickory_proto_codes.specs.declared.record_type.RecordType.{RecordType}
use Rattle.hickory_proto_codes.specs.declared.record_type.RecordType.TheVariants as type
use Rattle.hickory_proto_codes.specs.declared.response_code.ResponseCode.TheVariants as response
use Rattle.hickory_proto_core.specs.declared.query.Query.{Query}
use Rattle.hickory_proto_core.specs.declared.net_error.NetError.{NetError}
use Rattle.hickory_proto_core.specs.declared.net_error.NetError.TheVariants.{Dns, OutOfMemory}
use Rattle.hickory_proto_core.specs.declared.net_error.DnsError.TheVariants.{ResponseCode, NoRecordsFound}

abbrev pub record_type_code : RecordValue → ℕ
record_type_code r = type_code (data_type r.rdata)

-- a record of a type, and a question for it: types are equal where their codes are
abbrev pub is_of_type : RecordType → RecordValue → Bool
is_of_type t r = record_type_code r == type_code t

abbrev pub asks_for : RecordType → Query → Bool
asks_for t q = type_code q.query_type == type_code t

-- a question for records of every type, and one for the start of a zone
abbrev pub is_any : Query → Bool
is_any q = asks_for type.ANY q

abbrev pub is_soa : Query → Bool
is_soa q = asks_for type.SOA q

-- a record that answers a question: of the name, for ANY; an SOA of a zone of the name, for SOA; else of the
-- type and the name
abbrev pub is_asked : Query → RecordValue → Bool
is_asked q r =
    if is_any q then name_eq q.name r.name
    else (if is_soa q then is_of_type type.SOA r && is_zone_of r.name q.name
    else (type_code q.query_type == record_type_code r) && name_eq q.name r.name)

abbrev pub is_empty : {A : Type 0} → List A → Bool
is_empty [] = true
is_empty (x ∷ xs) = false

-- some record of some section answers the question. For types other than ANY and SOA any answer does
abbrev pub answers_question : Query → MessageValue → Bool
answers_question q m =
    some_record (is_asked q) m || (not (is_any q) && not (is_soa q) && not (is_empty m.answers))

-- one of the response's own questions is answered
abbrev pub contains_answer : MessageValue → Bool
contains_answer m = list_any (λ q. answers_question q m) m.queries

-- the question of a message; a message without one counts as asking about the root
abbrev pub first_query : List Query → Query
first_query [] = root_query
first_query (q ∷ qs) = q

-- a list, where it has something
abbrev pub or_none : {A : Type 0} → List A → Option (List A)
or_none [] = None
or_none (x ∷ xs) = Some (x ∷ xs)

-- the first SOA record
abbrev pub first_soa : List RecordValue → Option RecordValue
first_soa rs = find (λ r. is_some (soa_minimum r.rdata)) rs

-- the lesser of an SOA record's own TTL and its minimum (RFC 2308, section 5)
abbrev pub soa_ttl : RecordValue → Option ℕ
soa_ttl r = option_map (λ minimum. min r.ttl minimum) (soa_minimum r.rdata)

-- for how many seconds a negative answer may be kept, where its authorities have an SOA record
abbrev pub negative_ttl_of : MessageValue → Option ℕ
negative_ttl_of m = option_and_then soa_ttl (first_soa m.authorities)

-- the addresses of a name server among records
abbrev pub is_address_of : NameValue → RecordValue → Bool
is_address_of server r = (is_of_type type.A r || is_of_type type.AAAA r) && name_eq server r.name

-- the server that a record names, with its addresses
abbrev pub forward_of : List RecordValue → RecordValue → Option ForwardValue
forward_of additionals r =
    option_map (λ server. record {
      ns = r;
      glue = filter (is_address_of server) additionals;
    }) (ns_target r.rdata)

-- the name servers that a response refers to, in the order of its authorities
abbrev pub forwards_of : MessageValue → List ForwardValue
forwards_of m = filter_map (forward_of m.additionals) m.authorities

-- the negative answer that a response is
abbrev pub negative_of : MessageValue → NoRecordsValue
negative_of m = record {
  query = first_query m.queries;
  soa = first_soa m.authorities;
  ns = or_none (forwards_of m);
  negative_ttl = negative_ttl_of m;
  response_code = m.metadata.response_code;
  authorities = or_none m.authorities;
}

pub data ResponseKind : Type 0 where
  Answer : MessageValue → ResponseKind
  Negative : NoRecordsValue → ResponseKind
  Failed : NetError → ResponseKind

-- with NOERROR or NXDOMAIN an answer, where there is one or the message was cut short, else a negative
-- answer; every other code is a failure
abbrev pub kind_of_response : MessageValue → ResponseKind
kind_of_response m =
    let code = response_code m.metadata.response_code in
    if (code == response_code response.NoError) || (code == response_code response.NXDomain)
    then (if m.metadata.truncation || contains_answer m then Answer m else Negative (negative_of m))
    else Failed (Dns (ResponseCode m.metadata.response_code))

-- of an outcome: an error for want of records is a negative answer, and every other error a failure
abbrev pub kind_of_error : NetError → ResponseKind
kind_of_error (Dns (NoRecordsFound none)) = Negative none
kind_of_error error = Failed error

abbrev pub kind_of : Result MessageValue NetError → ResponseKind
kind_of (Ok response) = kind_of_response response
kind_of (Err error) = kind_of_error error

-- the response where it is an answer, else its error. A negative answer may find no memory
abbrev pub IsClassified : ResponseKind → Result MessageValue NetError → Type 0
IsClassified (Answer response) result = result ≡ Ok response
IsClassified (Negative none) result = (result ≡ Err (Dns (NoRecordsFound none))) ⊎ (result ≡ Err OutOfMemory)
IsClassified (Failed error) result = result ≡ Err error
