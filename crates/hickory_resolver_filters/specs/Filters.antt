-- Responses without the addresses that are denied.
use Rattle.std.specs.Prelude.{Bool, not, ◌||◌, List, filter}
use Rattle.hickory_proto_core.specs.Messages.{MessageValue}
use Rattle.hickory_proto_core.specs.Records.{RecordValue}
use Rattle.hickory_proto_names.specs.declared.ip.IpNet.{IpNet}
use Rattle.hickory_resolver_filters.specs.Networks.{is_in_some}

-- It is an address in a network that is allowed, or in none that is denied; or it is no address.
abbrev pub is_kept : List IpNet → List IpNet → RecordValue → Bool
is_kept allow deny r = is_in_some allow r.rdata || not (is_in_some deny r.rdata)

-- the records that are kept, in their order, of each section
abbrev pub filtered : List IpNet → List IpNet → MessageValue → MessageValue
filtered allow deny m = record {
  metadata = m.metadata;
  queries = m.queries;
  answers = filter (is_kept allow deny) m.answers;
  authorities = filter (is_kept allow deny) m.authorities;
  additionals = filter (is_kept allow deny) m.additionals;
}
