-- The data of records on the wire (RFC 1035, sections 3.3 and 3.4.1; RFC 3596, section 2.2; RFC 2782). The bytes end
-- with the data.
use Rattle.std.specs.Prelude.{ℕ, zero, suc, List, [], ◌∷◌, length, take, Result, Ok, Err, nat_lt, ◌==◌, if◌then◌else◌}
use Rattle.hickory_proto_core.specs.Records.{DataValue, a_data, aaaa_data, cname_data, ns_data, ptr_data, soa_data, srv_data, mx_data, txt_data, unknown_data}
use Rattle.hickory_proto_wire.specs.declared.wire_error.WireFault.{WireFault}
use Rattle.hickory_proto_wire.specs.declared.wire_error.WireFault.TheVariants.{TrailingData}
use Rattle.hickory_proto_wire.specs.declared.wire_record_data.Times.{Times}
use Rattle.hickory_proto_wire.specs.Octets.{◌>>=◌, octet_at, octets_at, u16_at, u32_at}
use Rattle.hickory_proto_wire.specs.Names.{name_at}
use Rattle.hickory_proto_wire.specs.OldData.{parts_of, whole_name_at, parts_at}

-- four octets
unfoldable pub a_at : List ℕ → ℕ → Result (DataValue × ℕ) WireFault
a_at bytes at = do
  a ← octet_at bytes at
  b ← octet_at bytes a.1
  c ← octet_at bytes b.1
  d ← octet_at bytes c.1
  Ok (a_data (a.0 ∷ b.0 ∷ c.0 ∷ d.0 ∷ []), d.1)

-- eight numbers of 16 bits, by halves
unfoldable pub half_at : List ℕ → ℕ → Result ((ℕ × ℕ × ℕ × ℕ) × ℕ) WireFault
half_at bytes at = do
  a ← u16_at bytes at
  b ← u16_at bytes a.1
  c ← u16_at bytes b.1
  d ← u16_at bytes c.1
  Ok ((a.0, b.0, c.0, d.0), d.1)

unfoldable pub aaaa_at : List ℕ → ℕ → Result (DataValue × ℕ) WireFault
aaaa_at bytes at = do
  high ← half_at bytes at
  low ← half_at bytes high.1
  Ok (aaaa_data (high.0.0 ∷ high.0.1 ∷ high.0.2 ∷ high.0.3 ∷ low.0.0 ∷ low.0.1 ∷ low.0.2 ∷ low.0.3 ∷ []), low.1)

unfoldable pub cname_at : List ℕ → ℕ → Result (DataValue × ℕ) WireFault
cname_at bytes at = do
  target ← name_at bytes at
  Ok (cname_data target.0, target.1)

unfoldable pub ns_at : List ℕ → ℕ → Result (DataValue × ℕ) WireFault
ns_at bytes at = do
  target ← name_at bytes at
  Ok (ns_data target.0, target.1)

unfoldable pub ptr_at : List ℕ → ℕ → Result (DataValue × ℕ) WireFault
ptr_at bytes at = do
  target ← name_at bytes at
  Ok (ptr_data target.0, target.1)

-- a preference and a name
unfoldable pub mx_at : List ℕ → ℕ → Result (DataValue × ℕ) WireFault
mx_at bytes at = do
  preference ← u16_at bytes at
  exchange ← name_at bytes preference.1
  Ok (mx_data preference.0 exchange.0, exchange.1)

-- a priority, a weight, a port and a name, which may be compressed
unfoldable pub srv_at : List ℕ → ℕ → Result (DataValue × ℕ) WireFault
srv_at bytes at = do
  priority ← u16_at bytes at
  weight ← u16_at bytes priority.1
  port ← u16_at bytes weight.1
  target ← name_at bytes port.1
  Ok (srv_data priority.0 weight.0 port.0 target.0, target.1)

-- the five numbers of SOA data
unfoldable pub times_at : List ℕ → ℕ → Result (Times × ℕ) WireFault
times_at bytes at = do
  serial ← u32_at bytes at
  refresh ← u32_at bytes serial.1
  retry ← u32_at bytes refresh.1
  expire ← u32_at bytes retry.1
  minimum ← u32_at bytes expire.1
  Ok (
    record {
      serial = serial.0;
      refresh = refresh.0;
      retry = retry.0;
      expire = expire.0;
      minimum = minimum.0;
    },
    minimum.1,
  )

-- two names and these
unfoldable pub soa_at : List ℕ → ℕ → Result (DataValue × ℕ) WireFault
soa_at bytes at = do
  mname ← name_at bytes at
  rname ← name_at bytes mname.1
  times ← times_at bytes rname.1
  Ok (soa_data mname.0 rname.0 times.0.serial times.0.refresh times.0.retry times.0.expire times.0.minimum, times.1)

-- a string: its length in one octet, and so many octets
unfoldable pub string_at : List ℕ → ℕ → Result (List ℕ × ℕ) WireFault
string_at bytes at = do
  len ← octet_at bytes at
  octets_at len.0 bytes len.1

-- strings up to the end, of which there may be none. Each takes an octet or more, so that as many steps as there
-- are octets are enough
unfoldable pub strings_at : ℕ → List ℕ → ℕ → Result (List (List ℕ) × ℕ) WireFault
strings_at zero bytes at = Ok ([], at)
strings_at (suc steps) bytes at =
    if nat_lt at (length bytes)
    then (string_at bytes at >>= λ first. strings_at steps bytes first.1 >>= λ rest.
    Ok (first.0 ∷ rest.0, rest.1))
    else Ok ([], at)

unfoldable pub txt_at : List ℕ → ℕ → Result (DataValue × ℕ) WireFault
txt_at bytes at = do
  strings ← strings_at (length bytes) bytes at
  Ok (txt_data strings.0, strings.1)

-- any other data
unfoldable pub unknown_at : ℕ → List ℕ → ℕ → Result (DataValue × ℕ) WireFault
unknown_at code bytes at = do
  octets ← parts_at whole_name_at (parts_of code) bytes at
  Ok (unknown_data code octets.0, octets.1)

-- the data of a type, whatever the class
unfoldable pub data_at : ℕ → List ℕ → ℕ → Result (DataValue × ℕ) WireFault
data_at code bytes at =
    if code == 1 then a_at bytes at else (
    if code == 2 then ns_at bytes at else (
    if code == 5 then cname_at bytes at else (
    if code == 6 then soa_at bytes at else (
    if code == 12 then ptr_at bytes at else (
    if code == 15 then mx_at bytes at else (
    if code == 16 then txt_at bytes at else (
    if code == 28 then aaaa_at bytes at else (
    if code == 33 then srv_at bytes at else (unknown_at code bytes at)))))))))

-- The data of a record that stand between two positions, all of the octets there. A name in them may begin there
-- and go on before.
unfoldable pub record_data_at : ℕ → List ℕ → ℕ → ℕ → Result DataValue WireFault
record_data_at code bytes start end = do
  found ← data_at code (take end bytes) start
  if found.1 == end then Ok found.0 else Err TrailingData
