-- That the addresses of a name server, which are weighed by their number, weigh what their records do.
use Rattle.std.specs.Prelude.{◌≡◌, ◌+◌, Bool, true, false, ◌&&◌, Some}
use Rattle.std.specs.List.{list_all}
use Rattle.hickory_proto_names.specs.Name.{NameValue, name_eq}
use Rattle.hickory_proto_core.specs.Errors.{ForwardValue}
use Rattle.hickory_proto_core.specs.Records.{DataValue, RecordValue, ns_target, a_data, aaaa_data}
use Rattle.hickory_proto_weights.specs.Weights.{name_weight, record_weight, records_weight, server_weight}
use Rattle.hickory_proto_weights.specs.declared.choices.TheConstants.{SERVER}

-- names that are equal weigh the same, however they are spelled
abbrev pub EqualNamesWeighTheSame : Type 0
EqualNamesWeighTheSame = (a b : NameValue) → name_eq a b ≡ true → name_weight a ≡ name_weight b

abbrev pub is_address : DataValue → Bool
is_address (a_data octets) = true
is_address (aaaa_data segments) = true
is_address other = false

-- an address of this server: its owner is that name
abbrev pub is_address_of : NameValue → RecordValue → Bool
is_address_of server r = name_eq server r.name && is_address r.rdata

-- Where a record names a server, and what stands beside it are addresses of that one, as in every response that was read
-- from octets.
abbrev pub AddressesWeighAsRecords : Type 0
AddressesWeighAsRecords =
    (f : ForwardValue) (server : NameValue) → ns_target f.ns.rdata ≡ Some server
    → list_all (is_address_of server) f.glue ≡ true
    → server_weight f ≡ SERVER + record_weight f.ns + records_weight f.glue
