-- The data of a record in a line: the fields behind its type.
use Rattle.std.specs.Prelude.{◌≡◌, ℕ, List, [], ◌∷◌, codes, Result, Ok, Err, if◌then◌else◌, MatchResult}
use Rattle.std.specs.Net.Addr.{ipv4_octets, ipv6_segments}
use Rattle.std.specs.Net.Grammar.{IsIpv4Text, IsIpv6Text}
use Rattle.std.specs.declared.net.Ipv4Addr.{Ipv4Addr}
use Rattle.std.specs.declared.net.Ipv6Addr.{Ipv6Addr}
use Rattle.std.specs.Global.{Vec}
use Rattle.hex.specs.Hex.{decode_of}
use Rattle.hex.specs.declared.error.FromHexError.{FromHexError}
use Rattle.hickory_proto_core.specs.Codes.{is_text, type_code}
use Rattle.hickory_proto_core.specs.Name.{label_bytes}
use Rattle.hickory_proto_core.specs.Records.{DataValue, a_data, aaaa_data, cname_data, data_of, mx_data, ns_data, ptr_data, soa_data, srv_data, txt_data, unknown_data}
use Rattle.hickory_proto_core.specs.declared.record_data.RData.{RData}
use Rattle.hickory_proto_core.specs.codes.record_type.RecordType.{RecordType}
use Rattle.hickory_proto_core.specs.codes.record_type.RecordType.TheVariants as type
use Rattle.replay_script.specs.Faults.{LineFaultValue, wrong_field, wrong_line}
use Rattle.replay_script.specs.Words.{◌>>=◌, name_field, number_field, only_name}
use Rattle.replay_script.specs.declared.data_fields.ZoneTimes.{ZoneTimes}
use Rattle.replay_script.specs.declared.fault.ScriptFault.TheVariants.{BadAddress, BadHex, FieldCount}

-- what was read, as plain data
abbrev pub read_as_value : Result RData LineFaultValue → Result DataValue LineFaultValue
read_as_value (Ok rdata) = Ok (data_of rdata)
read_as_value (Err fault) = Err fault

-- the text writes this address
abbrev pub IsIpv4Data : List ℕ → DataValue → Type 0
IsIpv4Data text rdata = (address : Ipv4Addr) × IsIpv4Text text address × (rdata ≡ a_data (ipv4_octets address))

abbrev pub IsIpv6Data : List ℕ → DataValue → Type 0
IsIpv6Data text rdata =
    (address : Ipv6Addr) × IsIpv6Text text address × (rdata ≡ aaaa_data (ipv6_segments address))

-- one address of a family, or none
abbrev pub IsAddressData : (List ℕ → DataValue → Type 0) → List (List ℕ) → Result DataValue LineFaultValue → Type 0
IsAddressData IsAddress [] result = result ≡ Err (wrong_line FieldCount)
IsAddressData IsAddress (text ∷ []) result =
    MatchResult result (λ rdata. IsAddress text rdata)
    (λ fault. (fault ≡ wrong_field BadAddress text) × ((rdata : DataValue) → ¬ IsAddress text rdata))
IsAddressData IsAddress (text ∷ more ∷ others) result = result ≡ Err (wrong_line FieldCount)

-- PREFERENCE NAME
abbrev pub mx_of : List (List ℕ) → Result DataValue LineFaultValue
mx_of (preference ∷ exchange ∷ []) = do
  p ← number_field 16 preference
  n ← name_field exchange
  Ok (mx_data p n)
mx_of fields = Err (wrong_line FieldCount)

-- PRIORITY WEIGHT PORT NAME
abbrev pub service_of : List ℕ → List ℕ → List ℕ → List ℕ → Result DataValue LineFaultValue
service_of priority weight port target = do
  p ← number_field 16 priority
  w ← number_field 16 weight
  o ← number_field 16 port
  n ← name_field target
  Ok (srv_data p w o n)

abbrev pub srv_of : List (List ℕ) → Result DataValue LineFaultValue
srv_of (priority ∷ weight ∷ port ∷ target ∷ []) = service_of priority weight port target
srv_of fields = Err (wrong_line FieldCount)

-- SERIAL REFRESH RETRY EXPIRE MINIMUM
abbrev pub times_of : List ℕ → List ℕ → List ℕ → List ℕ → List ℕ → Result ZoneTimes LineFaultValue
times_of serial refresh retry expire minimum = do
  s ← number_field 32 serial
  f ← number_field 32 refresh
  t ← number_field 32 retry
  e ← number_field 32 expire
  m ← number_field 32 minimum
  Ok (record { serial = s; refresh = f; retry = t; expire = e; minimum = m })

-- the start of a zone: two names, and its times
abbrev pub zone_of : List ℕ → List ℕ → Result ZoneTimes LineFaultValue → Result DataValue LineFaultValue
zone_of mname rname times = do
  m ← name_field mname
  r ← name_field rname
  z ← times
  Ok (soa_data m r z.serial z.refresh z.retry z.expire z.minimum)

-- NAME NAME SERIAL REFRESH RETRY EXPIRE MINIMUM
abbrev pub soa_of : List (List ℕ) → Result DataValue LineFaultValue
soa_of (mname ∷ rname ∷ serial ∷ refresh ∷ retry ∷ expire ∷ minimum ∷ []) =
    zone_of mname rname (times_of serial refresh retry expire minimum)
soa_of fields = Err (wrong_line FieldCount)

-- an even number of hex digits of either case writes a byte for two of them
abbrev pub hex_bytes : List ℕ → Result (List ℕ) FromHexError → Result (List ℕ) LineFaultValue
hex_bytes text (Ok bytes) = Ok bytes
hex_bytes text (Err error) = Err (wrong_field BadHex text)

-- bytes as hex digits, where `-` stands for no bytes
abbrev pub hex_field : List ℕ → Result (List ℕ) LineFaultValue
hex_field text = if is_text (codes "-") text then Ok [] else hex_bytes text (decode_of text)

abbrev pub bytes_as_value : Result (Vec ℕ) LineFaultValue → Result (List ℕ) LineFaultValue
bytes_as_value (Ok bytes) = Ok bytes.items
bytes_as_value (Err fault) = Err fault

-- the strings of the fields, or the first fault
abbrev pub strings_of : List (List ℕ) → Result (List (List ℕ)) LineFaultValue
strings_of [] = Ok []
strings_of (text ∷ fields) = do
  s ← hex_field text
  ss ← strings_of fields
  Ok (s ∷ ss)

abbrev pub strings_as_value : Result (Vec (Vec ℕ)) LineFaultValue → Result (List (List ℕ)) LineFaultValue
strings_as_value (Ok strings) = Ok (label_bytes strings.items)
strings_as_value (Err fault) = Err fault

-- one string or more
abbrev pub txt_of : List (List ℕ) → Result DataValue LineFaultValue
txt_of [] = Err (wrong_line FieldCount)
txt_of (text ∷ fields) = strings_of (text ∷ fields) >>= (λ ss. Ok (txt_data ss))

-- the bytes of a type without a form of its own, which is kept by its code
abbrev pub unknown_of : ℕ → List (List ℕ) → Result DataValue LineFaultValue
unknown_of code (text ∷ []) = hex_field text >>= (λ bytes. Ok (unknown_data code bytes))
unknown_of code fields = Err (wrong_line FieldCount)

-- the data that the fields write for a type
abbrev pub IsData : RecordType → List (List ℕ) → Result DataValue LineFaultValue → Type 0
IsData type.A fields result = IsAddressData IsIpv4Data fields result
IsData type.AAAA fields result = IsAddressData IsIpv6Data fields result
IsData type.CNAME fields result = result ≡ (only_name fields >>= (λ n. Ok (cname_data n)))
IsData type.NS fields result = result ≡ (only_name fields >>= (λ n. Ok (ns_data n)))
IsData type.PTR fields result = result ≡ (only_name fields >>= (λ n. Ok (ptr_data n)))
IsData type.MX fields result = result ≡ mx_of fields
IsData type.SRV fields result = result ≡ srv_of fields
IsData type.SOA fields result = result ≡ soa_of fields
IsData type.TXT fields result = result ≡ txt_of fields
IsData other fields result = result ≡ unknown_of (type_code other) fields
