-- The addresses of name servers, by the names of their owners.
use Rattle.std.specs.Prelude.{List, [], Option}
use Rattle.std.specs.BTreeMap.{BTreeMap, get}
use Rattle.std.specs.Option.{option_map, unwrap_or}
use Rattle.hickory_proto_names.specs.Name.{NameValue, name_cmp}
use Rattle.hickory_proto_core.specs.Errors.{ForwardValue}
use Rattle.hickory_proto_core.specs.Records.{RecordValue, ns_target}

-- the records that a map has for an owner
abbrev pub glue_in : NameValue → BTreeMap NameValue (List RecordValue) → List RecordValue
glue_in owner by_owner = unwrap_or (get name_cmp by_owner owner) []

-- the server that a record names, with the addresses that a map has for it
abbrev pub forward_from : BTreeMap NameValue (List RecordValue) → RecordValue → Option ForwardValue
forward_from by_owner r =
    option_map (λ server. record { ns = r; glue = glue_in server by_owner }) (ns_target r.rdata)
