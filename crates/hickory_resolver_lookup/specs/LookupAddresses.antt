-- The addresses among records.
use Rattle.std.specs.Prelude.{List, Option, Some, None}
use Rattle.std.specs.List.{filter_map}
use Rattle.std.specs.declared.net.IpAddr.{IpAddr}
use Rattle.std.specs.declared.net.IpAddr.TheVariants.{V4, V6}
use Rattle.hickory_proto_core.specs.Records.{RecordValue, DataValue, a_data, aaaa_data}

-- the address that A and AAAA data are (RFC 1035, section 3.4.1; RFC 3596, section 2.2)
abbrev pub address_in : DataValue → Option IpAddr
address_in (a_data octets) = Some (V4 (record { octets = octets }))
address_in (aaaa_data segments) = Some (V6 (record { segments = segments }))
address_in other = None

-- the addresses of the A and AAAA records of a list, in its order
abbrev pub addresses_of : List RecordValue → List IpAddr
addresses_of records = filter_map (λ r. address_in r.rdata) records
