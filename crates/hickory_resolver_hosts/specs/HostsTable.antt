-- What a table of hosts keeps, and what its index says of that.
use Rattle.std.specs.Prelude.{◌≡◌, ℕ, Bool, false, ◌&&◌, ◌==◌, List, [], ◌∷◌, map, slice_get, filter, option_and_then, Option, None, Some, zero, suc, if◌then◌else◌}
use Rattle.std.specs.Bool.{beq}
use Rattle.std.specs.List.{list_any}
use Rattle.std.specs.Option.{option_map, option_map_or}
use Rattle.std.specs.declared.boxed.Box.{Box}
use Rattle.std.specs.declared.net.IpAddr.{IpAddr}
use Rattle.hickory_proto_core.specs.Name.{NameValue}
use Rattle.hickory_proto_core.specs.Codes.{type_code}
use Rattle.hickory_proto_core.specs.Records.{RecordValue, DataValue, ptr_data, data_eq, data_of_address}
use Rattle.hickory_proto_core.specs.codes.record_type.RecordType.{RecordType}
use Rattle.hickory_proto_core.specs.codes.dns_class.DNSClass.TheVariants as class
use Rattle.hickory_proto_core.specs.declared.query.Query.{Query}
use Rattle.hickory_resolver_model.specs.Bounds.{day}
use Rattle.hickory_resolver_model.specs.Lookup.{LookupValue}
use Rattle.hickory_resolver_model.specs.Hosts.{Host, StandsFor, address_type, has_address, is_host, is_ipv4_type, as_fqdn, pointer_lookup, pointers}
use Rattle.hickory_resolver_hosts.specs.Index.{is_owner, EachAddress}
use Rattle.hickory_resolver_hosts.specs.declared.host.HostLookups.{HostLookups}
use Rattle.hickory_resolver_hosts.specs.declared.owners.Owners.{Owners}

-- what a box has, if there is one
abbrev pub unboxed : {T Z : Type 0} → Option (Box T Z) → Option T
unboxed b = option_map (λ x. x.value) b

abbrev pub host_at : NameValue → HostLookups → Host
host_at n h = record { name = n; a = unboxed h.a; aaaa = unboxed h.aaaa }

abbrev pub hosts_of : List (NameValue × HostLookups) → List Host
hosts_of entries = map (λ e. host_at e.0 e.1) entries

-- a name of which nothing is known
abbrev pub no_lookups : NameValue → Host
no_lookups n = record { name = n; a = None; aaaa = None }

-- a host whose look-up of a type is this one
abbrev pub put_family : RecordType → LookupValue → Host → Host
put_family t l h = if is_ipv4_type t then record h { a = Some l } else record h { aaaa = Some l }

-- the place of a name: where it is, or behind the last where it is not there
abbrev pub place_in : NameValue → List Host → ℕ
place_in n [] = zero
place_in n (h ∷ hosts) = if is_host n h then zero else suc (place_in n hosts)

-- a table with the host of a name changed, or with a new one of that name at the end
abbrev pub put_host : (Host → Host) → NameValue → List Host → List Host
put_host f n [] = f (no_lookups n) ∷ []
put_host f n (h ∷ hosts) = if is_host n h then f h ∷ hosts else h ∷ put_host f n hosts

-- whether the host at a place has an address
abbrev pub has_address_at : List Host → DataValue → ℕ → Bool
has_address_at hosts address place = option_map_or (has_address address) (slice_get hosts place) false

-- the index says of each address which hosts have it
abbrev pub IsIndexed : List Host → Owners → Type 0
IsIndexed hosts index = EachAddress (λ address. (place : ℕ)
    → is_owner index address place ≡ has_address_at hosts (data_of_address address) place)

-- an address is of the family of a type: IPv4 for A, IPv6 for every other type
abbrev pub is_of_family : RecordType → IpAddr → Bool
is_of_family t address = beq (type_code (address_type (data_of_address address)) == 1) (type_code t == 1)

-- whether a record of a type gives a host an address: it holds it, and the type is of the address's family
abbrev pub gives : RecordType → IpAddr → RecordValue → Bool
gives t address r = is_of_family t address && data_eq (data_of_address address) r.rdata

abbrev pub is_given : RecordType → List RecordValue → IpAddr → Bool
is_given t records address = list_any (gives t address) records

-- a name as a PTR record of an owner, and the one at a place
abbrev pub pointer_to : NameValue → Host → RecordValue
pointer_to owner h = record { name = owner; dns_class = class.IN; ttl = day; rdata = ptr_data h.name }

abbrev pub pointer_at : NameValue → List Host → ℕ → Option RecordValue
pointer_at owner hosts place = option_map (pointer_to owner) (slice_get hosts place)

-- what the table has for a PTR question
abbrev pub HasPointers : Query → ℕ → List Host → Option LookupValue → Type 0
HasPointers q now hosts result =
    (address : Option DataValue) × StandsFor (as_fqdn q.name) address
    × (result ≡ option_and_then
    (λ a. pointer_lookup q (pointers (as_fqdn q.name) (filter (has_address a) hosts)) now) address)
