-- Files of hosts (hosts(5)): lines of an address and its names, as the records that a resolver makes of them.
use Rattle.std.specs.Prelude.{◌≡◌, ◌==◌, ◌⊎◌, ℕ, true, List, [], ◌∷◌, ◌++◌, Option, None, Some}
use Rattle.std.specs.List.{before_first, flat_map}
use Rattle.std.specs.Result.{result_ok}
use Rattle.std.specs.Str.{IsUtf8}
use Rattle.std.specs.declared.net.IpAddr.{IpAddr}
use Rattle.hickory_proto_core.specs.Arpa.{arpa_name, whole_net}
use Rattle.hickory_proto_core.specs.Name.{NameValue}
use Rattle.hickory_proto_core.specs.NameDecided.{text_name}
use Rattle.hickory_proto_core.specs.NameGiven.{IsReadAddress}
use Rattle.hickory_proto_core.specs.Records.{DataValue, RecordValue, data_of_address, ptr_data}
use Rattle.hickory_proto_core.specs.codes.dns_class.DNSClass.TheVariants as class
use Rattle.replay_script.specs.Fields.{fields}

-- its TTL is not looked at
abbrev pub own_record : NameValue → DataValue → RecordValue
own_record name found = record { name = name; dns_class = class.IN; ttl = 0; rdata = found }

-- the address of a name, and the name of the address
abbrev pub pair_of : IpAddr → NameValue → List RecordValue
pair_of address name =
    own_record name (data_of_address address) ∷ own_record (arpa_name (whole_net address)) (ptr_data name) ∷ []

-- what is no name is left out
abbrev pub pair_if : IpAddr → Option NameValue → List RecordValue
pair_if address None = []
pair_if address (Some name) = pair_of address (record name { fqdn = true })

-- what is no address is left out with the names behind it
abbrev pub host_records : Option IpAddr → List (List ℕ) → List RecordValue
host_records None names = []
host_records (Some address) names = flat_map (λ name. pair_if address (result_ok (text_name name))) names

abbrev pub AreNamed : List (List ℕ) → List RecordValue → Type 0
AreNamed [] own = own ≡ []
AreNamed (first ∷ names) own =
    (address : Option IpAddr) × IsReadAddress first address × (own ≡ host_records address names)

-- what stands behind `#` is a comment, and blanks stand between fields
abbrev pub AreOfText : List ℕ → List RecordValue → Type 0
AreOfText line own = AreNamed (fields (before_first (λ b. b == 35) line)) own

-- the records of a line: one that is no text has none
abbrev pub AreOfLine : List ℕ → List RecordValue → Type 0
AreOfLine line own = (IsUtf8 line × AreOfText line own) ⊎ ((IsUtf8 line → ⊥) × (own ≡ []))

-- the records of these lines, one after another
abbrev pub AreOfLines : List (List ℕ) → List RecordValue → Type 0
AreOfLines [] own = own ≡ []
AreOfLines (line ∷ lines) own =
    (first rest : List RecordValue) × AreOfLine line first × AreOfLines lines rest × (own ≡ first ++ rest)
