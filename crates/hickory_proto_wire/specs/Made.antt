-- What no value has that was made by its type: a name with a fault, an address of another length.
use Rattle.std.specs.Prelude.{length, Option, None, Some, Bool, ◌==◌, if◌then◌else◌}
use Rattle.std.specs.Option.{option_or, is_none}
use Rattle.hickory_proto_names.specs.Name.{NameValue, label_fault}
use Rattle.hickory_proto_core.specs.declared.query.Query.{Query}
use Rattle.hickory_proto_core.specs.Records.{RecordValue, DataValue, a_data, aaaa_data, cname_data, ns_data, ptr_data, soa_data, srv_data, mx_data, txt_data, unknown_data}

abbrev pub flaw_unless : Bool → Option (Unit {0})
flaw_unless right = if right then None else Some tt

abbrev pub name_flaw : NameValue → Option (Unit {0})
name_flaw name = flaw_unless (is_none (label_fault name.labels))

abbrev pub data_flaw : DataValue → Option (Unit {0})
data_flaw (a_data octets) = flaw_unless (length octets == 4)
data_flaw (aaaa_data segments) = flaw_unless (length segments == 8)
data_flaw (cname_data target) = name_flaw target
data_flaw (ns_data target) = name_flaw target
data_flaw (ptr_data target) = name_flaw target
data_flaw (soa_data mname rname serial refresh retry expire minimum) = option_or (name_flaw mname) (name_flaw rname)
data_flaw (srv_data priority weight port target) = name_flaw target
data_flaw (mx_data preference exchange) = name_flaw exchange
data_flaw (txt_data strings) = None
data_flaw (unknown_data code octets) = None

abbrev pub query_flaw : Query → Option (Unit {0})
query_flaw q = name_flaw q.name

abbrev pub record_flaw : RecordValue → Option (Unit {0})
record_flaw r = option_or (name_flaw r.name) (data_flaw r.rdata)
