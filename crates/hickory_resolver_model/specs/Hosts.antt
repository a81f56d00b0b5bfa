-- The table of hosts: names in the order in which they were first seen, each with its IPv4 and IPv6 addresses
-- (RFC 952; RFC 1123, section 6.1.3.8), and the files that it is read from.
use Rattle.std.specs.Prelude.{◌≡◌, ◌⊎◌, ℕ, Bool, true, false, not, IsTrue, ◌||◌, ◌==◌, nat_eq, drop, List, [], ◌∷◌, ◌++◌, map, filter, find, min, option_and_then, Option, Some, None, if◌then◌else◌}
use Rattle.std.specs.List.{list_any, before_first, list_all, starts_with}
use Rattle.std.specs.Option.{option_map_or}
use Rattle.std.specs.Char.{is_whitespace, to_ascii_lowercase, is_ascii}
use Rattle.std.specs.Str.{chars, IsUtf8}
use Rattle.hickory_proto_core.specs.Name.{NameValue, name_eq}
use Rattle.hickory_proto_core.specs.NameText.{Spells}
use Rattle.hickory_proto_core.specs.Addresses.{IsAddressText}
use Rattle.hickory_proto_core.specs.Arpa.{IsArpaNameOf}
use Rattle.hickory_proto_core.specs.names.ip.IpNet.{IpNet}
use Rattle.std.specs.declared.net.IpAddr.{IpAddr}
use Rattle.hickory_proto_core.specs.Codes.{type_code}
use Rattle.hickory_proto_core.specs.Records.{RecordValue, DataValue, a_data, ptr_data, data_eq, data_of_address}
use Rattle.hickory_proto_core.specs.Messages.{MessageValue}
use Rattle.hickory_proto_core.specs.ResponseKind.{asks_for, is_empty}
use Rattle.hickory_proto_core.specs.declared.query.Query.{Query}
use Rattle.hickory_proto_core.specs.codes.record_type.RecordType.{RecordType}
use Rattle.hickory_proto_core.specs.codes.record_type.RecordType.TheVariants as type
use Rattle.hickory_proto_core.specs.codes.dns_class.DNSClass.TheVariants as class
use Rattle.hickory_resolver_model.specs.Bounds.{day}
use Rattle.hickory_resolver_model.specs.Lookup.{LookupValue, question_of, answers_for_day}

-- a name and what is known of it
pub record Host : Type 0 where
  pub name : NameValue
  pub a : Option LookupValue
  pub aaaa : Option LookupValue

abbrev pub as_fqdn : NameValue → NameValue
as_fqdn n = record n { fqdn = true }

-- two look-ups as one: each section of the one and then of the other; the rest of the first one's message,
-- and the sooner deadline
abbrev pub append_messages : MessageValue → MessageValue → MessageValue
append_messages m n = record m {
  answers = m.answers ++ n.answers;
  authorities = m.authorities ++ n.authorities;
  additionals = m.additionals ++ n.additionals;
}

abbrev pub append : LookupValue → LookupValue → LookupValue
append l k =
    record { message = append_messages l.message k.message; valid_until = min l.valid_until k.valid_until }

-- what a name has at first: an answer without records
abbrev pub no_addresses : NameValue → RecordType → ℕ → LookupValue
no_addresses n t now = answers_for_day (question_of n t) [] now

-- the family of a type: A is the first, every other type the second
abbrev pub is_ipv4_type : RecordType → Bool
is_ipv4_type t = type_code t == type_code type.A

abbrev pub family : RecordType → Host → Option LookupValue
family t h = if is_ipv4_type t then h.a else h.aaaa

-- a host with one more look-up of a type, given for this name: the first one of its family has the question
-- of the name as it is given
abbrev pub with_lookup : NameValue → RecordType → LookupValue → ℕ → Host → Host
with_lookup n t l now h =
    let joined = Some (append (option_map_or (λ k. k) (family t h) (no_addresses n t now)) l) in
    if is_ipv4_type t then record h { a = joined } else record h { aaaa = joined }

abbrev pub is_host : NameValue → Host → Bool
is_host n h = name_eq n h.name

-- the table with one more look-up for a name, which stays in its place, or comes last where it is new
abbrev pub insert_host : NameValue → RecordType → LookupValue → ℕ → List Host → List Host
insert_host name t l now hosts =
    let n = as_fqdn name in
    if list_any (is_host n) hosts then map (λ h. if is_host n h then with_lookup n t l now h else h) hosts
    else hosts ++ with_lookup n t l now (record { name = n; a = None; aaaa = None }) ∷ []

-- the type of an address
abbrev pub address_type : DataValue → RecordType
address_type (a_data octets) = type.A
address_type _ = type.AAAA

-- one address of a name, for a day
abbrev pub one_address : NameValue → DataValue → ℕ → LookupValue
one_address n address now =
    answers_for_day (question_of n (address_type address))
    (record { name = n; dns_class = class.IN; ttl = day; rdata = address } ∷ []) now

-- the table with these pairs of a name and an address put in, in order
abbrev pub insert_pairs : ℕ → List (NameValue × DataValue) → List Host → List Host
insert_pairs now [] hosts = hosts
insert_pairs now (p ∷ ps) hosts =
    insert_pairs now ps (insert_host p.0 (address_type p.1) (one_address (as_fqdn p.0) p.1 now) now hosts)

-- a list cut at the elements that pass a test
abbrev pub put_first : {A : Type 0} → A → List (List A) → List (List A)
put_first x [] = (x ∷ []) ∷ []
put_first x (piece ∷ pieces) = (x ∷ piece) ∷ pieces

abbrev pub cut_at : {A : Type 0} → (A → Bool) → List A → List (List A)
cut_at p [] = [] ∷ []
cut_at p (x ∷ xs) = if p x then [] ∷ cut_at p xs else put_first x (cut_at p xs)

-- a file's bytes without a byte order mark (U+FEFF), and its lines, each ended by LF
abbrev pub without_mark : List ℕ → List ℕ
without_mark bytes = if starts_with nat_eq bytes (239 ∷ 187 ∷ 191 ∷ []) then drop 3 bytes else bytes

abbrev pub file_lines : List ℕ → List (List ℕ)
file_lines bytes = cut_at (λ b. b == 10) (without_mark bytes)

-- the fields of a line: its characters up to a `#`, cut at white space (a CR before the LF is white space)
abbrev pub line_fields : List ℕ → List (List ℕ)
line_fields line =
    filter (λ field. not (is_empty field)) (cut_at is_whitespace (before_first (λ c. c == 35) (chars line)))

-- the text spells an address, whose data are these
abbrev pub IsAddressField : List ℕ → DataValue → Type 0
IsAddressField text rdata =
    (address : IpAddr) × IsAddressText text address × (rdata ≡ data_of_address address)

-- the names among these fields, lower-cased: a field that is past ASCII or no name is left out
abbrev pub AreNames : List (List ℕ) → List NameValue → Type 0
AreNames [] names = names ≡ []
AreNames (f ∷ fs) names =
    ((n : NameValue) × (ns : List NameValue) × (list_all is_ascii f ≡ true)
    × Spells (map to_ascii_lowercase f) n × (names ≡ n ∷ ns) × AreNames fs ns)
    ⊎ (((list_all is_ascii f ≡ false) ⊎ ((n : NameValue) → Spells (map to_ascii_lowercase f) n → ⊥))
    × AreNames fs names)

-- the pairs of a line: an address first, and then its names. A line without an address gives none
abbrev pub AreLinePairs : List (List ℕ) → List (NameValue × DataValue) → Type 0
AreLinePairs [] pairs = pairs ≡ []
AreLinePairs (f ∷ fs) pairs =
    ((address : DataValue) × (names : List NameValue) × IsAddressField f address × AreNames fs names
    × (pairs ≡ map (λ n. (n, address)) names))
    ⊎ (((address : DataValue) → IsAddressField f address → ⊥) × (pairs ≡ []))

-- the pairs of these lines up to the first that is not UTF-8, and whether there is such a line
abbrev pub AreFilePairs : List (List ℕ) → List (NameValue × DataValue) → Bool → Type 0
AreFilePairs [] pairs broken = (pairs ≡ []) × (broken ≡ false)
AreFilePairs (line ∷ lines) pairs broken =
    (IsUtf8 line × ((front : List (NameValue × DataValue)) × (back : List (NameValue × DataValue))
    × AreLinePairs (line_fields line) front × AreFilePairs lines back broken × (pairs ≡ front ++ back)))
    ⊎ ((IsUtf8 line → ⊥) × (pairs ≡ []) × (broken ≡ true))

-- the address among the answers of a look-up
abbrev pub has_answer : DataValue → LookupValue → Bool
has_answer address l = list_any (λ r. data_eq address r.rdata) l.message.answers

abbrev pub has_address : DataValue → Host → Bool
has_address address h = option_map_or (has_answer address) (family (address_type address) h) false

-- the names of an address, in the order in which they were first seen, as PTR records of the asked name
abbrev pub pointers : NameValue → List Host → List RecordValue
pointers owner hosts =
    map (λ h. record { name = owner; dns_class = class.IN; ttl = day; rdata = ptr_data h.name }) hosts

abbrev pub pointer_lookup : Query → List RecordValue → ℕ → Option LookupValue
pointer_lookup q [] now = None
pointer_lookup q (r ∷ rs) now = Some (answers_for_day q (r ∷ rs) now)

-- the address that a name under `in-addr.arpa.` or `ip6.arpa.` stands for, if it stands for one
abbrev pub StandsFor : NameValue → Option DataValue → Type 0
StandsFor n None = (net : IpNet) → IsArpaNameOf n net → ⊥
StandsFor n (Some rdata) = (net : IpNet) × IsArpaNameOf n net × (rdata ≡ data_of_address net.addr)

-- what the table has for a question, given the address that the asked name stands for: the name's addresses
-- for A and AAAA; for PTR the names of that address; nothing for other types. The class is not looked at
abbrev pub static_answer : Option DataValue → Query → ℕ → List Host → Option LookupValue
static_answer address q now hosts =
    let n = as_fqdn q.name in
    if asks_for type.A q || asks_for type.AAAA q
    then option_and_then (family q.query_type) (find (is_host n) hosts)
    else (if asks_for type.PTR q
    then option_and_then (λ a. pointer_lookup q (pointers n (filter (has_address a) hosts)) now) address
    else None)

-- only a question for PTR records asks which address its name stands for
abbrev pub HostsHave : Query → ℕ → List Host → Option LookupValue → Type 0
HostsHave q now hosts result =
    (address : Option DataValue) × (IsTrue (asks_for type.PTR q) → StandsFor (as_fqdn q.name) address)
    × (result ≡ static_answer address q now hosts)

-- the hosts are not looked at, or have nothing for a question
abbrev pub NotInHosts : Bool → Query → ℕ → List Host → Type 0
NotInHosts with_hosts q now hosts = (with_hosts ≡ false) ⊎ HostsHave q now hosts None
