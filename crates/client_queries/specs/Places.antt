-- Where names, questions and records end in the octets of a message (RFC 1035, sections 3.1 and 4.1).
use Rattle.std.specs.Prelude.{ℕ, zero, suc, ◌+◌, Bool, true, false, ◌&&◌, ◌==◌, List, length, get_or, nat_lt, nat_le, Option, None, Some, if◌then◌else◌}
use Rattle.std.specs.Option.{option_and_then}
use Rattle.hickory_resolver_tries.specs.Heads.{number_at}
use Rattle.client_queries.specs.declared.places.RecordPlace.{RecordPlace}

-- The position behind a name, in so many steps: labels of at most 63 octets, and its root or, where it may end so, a
-- pointer. Where a pointer leads to does not matter here.
unfoldable pub name_end : Bool → ℕ → List ℕ → ℕ → Option ℕ
name_end pointers zero octets at = None
name_end pointers (suc steps) octets at =
    if nat_le (length octets) at then None else (
    if get_or octets at 0 == 0 then Some (at + 1) else (
    if nat_lt (get_or octets at 0) 64 then name_end pointers steps octets (at + 1 + get_or octets at 0) else (
    if pointers && nat_lt 191 (get_or octets at 0) then Some (at + 2) else None)))

-- no name has more than 127 labels, and a root
abbrev pub most_steps : ℕ
most_steps = 128

-- ---- the question, which stands behind the header

-- a name takes at most 255 octets, and type and class stand behind it
abbrev pub behind_codes : List ℕ → ℕ → Option ℕ
behind_codes octets at = if nat_le at 267 && nat_le (at + 4) (length octets) then Some (at + 4) else None

-- The position behind the question. Its name is spelled out: it is the first one, so that there is none to point to.
abbrev pub question_end : List ℕ → Option ℕ
question_end octets = option_and_then (behind_codes octets) (name_end false most_steps octets 12)

-- ---- a record: a name, ten octets, and the data

abbrev pub place_within : List ℕ → RecordPlace → Option RecordPlace
place_within octets r = if nat_le r.end (length octets) then Some r else None

abbrev pub fields_at : Bool → ℕ → List ℕ → RecordPlace
fields_at of_root at octets = record {
  of_root = of_root;
  fields = at;
  end = at + 10 + number_at octets (at + 8);
}

abbrev pub place_behind : Bool → List ℕ → ℕ → Option RecordPlace
place_behind of_root octets at =
    if nat_le (at + 10) (length octets) then place_within octets (fields_at of_root at octets) else None

abbrev pub record_place : List ℕ → ℕ → Option RecordPlace
record_place octets at =
    option_and_then (place_behind (get_or octets at 0 == 0) octets) (name_end true most_steps octets at)
