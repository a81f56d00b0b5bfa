-- The addresses that HTTPS and SVCB records hint at (RFC 9460, section 7.3). Their data are a priority of two octets, a
-- name that is written out, and parameters up to the end (section 2.2).
use Rattle.std.specs.Prelude.{ℕ, zero, suc, ◌+◌, ◌-◌, ◌/◌, ◌%◌, Bool, false, ◌&&◌, ◌||◌, ◌==◌, List, [], ◌∷◌, ◌++◌, length, take, drop, nat_lt, nat_le, option_and_then, Option, None, Some, if◌then◌else◌}
use Rattle.std.specs.Net.Addr.{segments_of}
use Rattle.std.specs.Option.{option_map}
use Rattle.client_queries.specs.Places.{name_end, most_steps}
use Rattle.hickory_proto_core.specs.Records.{DataValue, a_data, aaaa_data, unknown_data}
use Rattle.hickory_resolver_tries.specs.Heads.{number_at}

-- ---- the value of a hint: one address or more, one behind the other

abbrev pub v6_data : List ℕ → DataValue
v6_data octets = aaaa_data (segments_of octets)

-- so many addresses of so many octets each
unfoldable pub addresses_at : (List ℕ → DataValue) → ℕ → ℕ → List ℕ → ℕ → List DataValue
addresses_at read size zero octets at = []
addresses_at read size (suc count) octets at =
    read (take size (drop at octets)) ∷ addresses_at read size count octets (at + size)

-- those in so many octets
abbrev pub addresses_in : (List ℕ → DataValue) → ℕ → List ℕ → ℕ → ℕ → Option (List DataValue)
addresses_in read size octets at count =
    if nat_lt 0 count && (count % size == 0) then Some (addresses_at read size (count / size) octets at) else None

-- by the key of its parameter: ipv4hint, ipv6hint, or no hint
abbrev pub hints_of : ℕ → List ℕ → ℕ → ℕ → Option (List DataValue)
hints_of key octets at count =
    if key == 4 then addresses_in a_data 4 octets at count else (
    if key == 6 then addresses_in v6_data 16 octets at count else Some [])

-- ---- a parameter: its key and the length of its value, of two octets each, and the value

abbrev pub has_length : List ℕ → ℕ → Bool
has_length octets at = nat_le (at + 4) (length octets)

-- the position behind it
abbrev pub value_end : List ℕ → ℕ → Option ℕ
value_end octets at =
    if has_length octets at && nat_le (at + 4 + number_at octets (at + 2)) (length octets)
    then Some (at + 4 + number_at octets (at + 2)) else None

abbrev pub hints_at : List ℕ → ℕ → ℕ → Option (List DataValue)
hints_at octets at end = hints_of (number_at octets at) octets (at + 4) (end - (at + 4))

abbrev pub with_later : Option (List DataValue) → Option (List DataValue) → Option (List DataValue)
with_later later these = option_and_then (λ xs. option_map (λ ys. xs ++ ys) later) these

-- parameters up to the end, in so many steps
unfoldable pub hints_from : ℕ → List ℕ → ℕ → Option (List DataValue)
hints_from zero octets at = None
hints_from (suc steps) octets at =
    if at == length octets then Some []
    else option_and_then (λ end. with_later (hints_from steps octets end) (hints_at octets at end))
    (value_end octets at)

-- ---- the whole, where it can be read

-- each parameter takes an octet or more
abbrev pub hints : List ℕ → Option (List DataValue)
hints octets = option_and_then (hints_from (length octets) octets) (name_end false most_steps octets 2)

-- SVCB and HTTPS
abbrev pub has_hints : ℕ → Bool
has_hints code = (code == 64) || (code == 65)

-- the octets in which there may be hints
abbrev pub hinting : DataValue → Option (List ℕ)
hinting (unknown_data code octets) = if has_hints code then Some octets else None
hinting other = None
