-- Whole replies without the addresses that are denied.
use Rattle.std.specs.Prelude.{Bool, not, ◌&&◌, ◌||◌, List, filter, Option, unwrap_or}
use Rattle.std.specs.List.{list_all}
use Rattle.std.specs.Option.{option_map, option_map_or}
use Rattle.hickory_proto_core.specs.Records.{DataValue, RecordValue}
use Rattle.hickory_proto_core.specs.ResponseKind.{is_empty}
use Rattle.hickory_proto_names.specs.declared.ip.IpNet.{IpNet}
use Rattle.hickory_resolver_filters.specs.Networks.{is_in_some}
use Rattle.whole_lookups.specs.Hints.{hinting, hints}
use Rattle.whole_replies.specs.Kept.{KeptValue}

-- It is an address in a network that is allowed, or in none that is denied; or it is no address.
abbrev pub is_kept_address : List IpNet → List IpNet → DataValue → Bool
is_kept_address allow deny rdata = is_in_some allow rdata || not (is_in_some deny rdata)

-- Each address that is hinted at stays; and where they cannot be read, nothing is denied.
abbrev pub are_kept_hints : List IpNet → List IpNet → Option (List DataValue) → Bool
are_kept_hints allow deny hinted = unwrap_or (option_map (list_all (is_kept_address allow deny)) hinted) (is_empty deny)

abbrev pub is_kept_data : List IpNet → List IpNet → DataValue → Bool
is_kept_data allow deny rdata =
    option_map_or (λ octets. are_kept_hints allow deny (hints octets)) (hinting rdata)
    (is_kept_address allow deny rdata)

abbrev pub is_kept : List IpNet → List IpNet → RecordValue → Bool
is_kept allow deny r = is_kept_data allow deny r.rdata

-- Where one is taken out, what is left is not what the server held for authentic.
abbrev pub without_denied : List IpNet → List IpNet → KeptValue → KeptValue
without_denied allow deny k = record k {
  authentic_data = k.authentic_data && list_all (is_kept allow deny) k.answers;
  answers = filter (is_kept allow deny) k.answers;
}
