-- Record data that are not parsed. Those of some old types have names in them, which may be compressed: they are read
-- with each name whole, since a pointer means nothing outside of its message (RFC 3597, section 4).
use Rattle.std.specs.Prelude.{ℕ, ◌+◌, ◌-◌, List, [], ◌∷◌, ◌++◌, length, Option, None, Some, Result, Ok, Err, Bool, false, nat_eq, ◌==◌, if◌then◌else◌}
use Rattle.std.specs.List.{list_any}
use Rattle.std.specs.Cmp.Lexicographic.{pointwise}
use Rattle.hickory_proto_names.specs.Name.{wire_form}
use Rattle.hickory_proto_wire.specs.declared.wire_error.WireFault.{WireFault}
use Rattle.hickory_proto_wire.specs.declared.old_data.Part.{Part}
use Rattle.hickory_proto_wire.specs.declared.old_data.Part.TheVariants.{Octets, String, Name, Rest}
use Rattle.hickory_proto_wire.specs.declared.wire_name.Walk.{Walk}
use Rattle.hickory_proto_wire.specs.Octets.{◌>>=◌, octet_at, octets_at}
use Rattle.hickory_proto_wire.specs.Names.{labels_at, name_at}

abbrev pub is_among : List ℕ → ℕ → Bool
is_among codes code = list_any (λ c. code == c) codes

-- What the data of a type are made of:
-- MD, MF, MB, MG and MR (RFC 1035, sections 3.3.3 to 3.3.8): a name;
-- MINFO (RFC 1035, section 3.3.7) and RP (RFC 1183, section 2.2): two names;
-- AFSDB and RT (RFC 1183, sections 1 and 3.3): a number of 16 bits and a name;
-- PX (RFC 2163, section 4): a number of 16 bits and two names;
-- SIG (RFC 2535, section 4.1): 18 octets of numbers, a name and a signature;
-- NXT (RFC 2535, section 5.2): a name and a bit map;
-- NAPTR (RFC 3403, section 4.1): two numbers of 16 bits, three strings and a name;
-- any other type: octets.
abbrev pub parts_of : ℕ → List Part
parts_of code =
    if is_among (3 ∷ 4 ∷ 7 ∷ 8 ∷ 9 ∷ []) code then Name ∷ [] else (
    if is_among (14 ∷ 17 ∷ []) code then Name ∷ Name ∷ [] else (
    if is_among (18 ∷ 21 ∷ []) code then Octets 2 ∷ Name ∷ [] else (
    if code == 26 then Octets 2 ∷ Name ∷ Name ∷ [] else (
    if code == 24 then Octets 18 ∷ Name ∷ Rest ∷ [] else (
    if code == 30 then Name ∷ Rest ∷ [] else (
    if code == 35 then Octets 4 ∷ String ∷ String ∷ String ∷ Name ∷ [] else Rest ∷ []))))))

-- ---- what is read of a part

-- the octets of a name with all of its labels, and of one that has no pointer
abbrev pub NameReader : Type 0
NameReader = List ℕ → ℕ → Result (List ℕ × ℕ) WireFault

unfoldable pub whole_name_at : NameReader
whole_name_at bytes at = do
  name ← name_at bytes at
  Ok (wire_form name.0.labels, name.1)

abbrev pub uncompressed_start : ℕ → Walk
uncompressed_start at = record { start = at; at = at; left = 255; jumps = 0 }

unfoldable pub uncompressed_name_at : NameReader
uncompressed_name_at bytes at = do
  labels ← labels_at 256 bytes (uncompressed_start at)
  Ok (wire_form labels.0, labels.1)

-- a string with its length before it
unfoldable pub string_octets_at : List ℕ → ℕ → Result (List ℕ × ℕ) WireFault
string_octets_at bytes at = do
  len ← octet_at bytes at
  octets_at (len.0 + 1) bytes at

unfoldable pub part_at : NameReader → Part → List ℕ → ℕ → Result (List ℕ × ℕ) WireFault
part_at read (Octets count) bytes at = octets_at count bytes at
part_at read String bytes at = string_octets_at bytes at
part_at read Name bytes at = read bytes at
part_at read Rest bytes at = octets_at (length bytes - at) bytes at

-- parts, one behind the other
unfoldable pub parts_at : NameReader → List Part → List ℕ → ℕ → Result (List ℕ × ℕ) WireFault
parts_at read [] bytes at = Ok ([], at)
parts_at read (part ∷ parts) bytes at = do
  first ← part_at read part bytes at
  rest ← parts_at read parts bytes first.1
  Ok (first.0 ++ rest.0, rest.1)

-- where what is read ends
abbrev pub end_of : {A : Type 0} → Result (A × ℕ) WireFault → Option ℕ
end_of (Ok read) = Some read.1
end_of (Err fault) = None

-- ---- what can be written

-- Octets that stand alone are read as they stand. So they are all of the data, and each name in them is whole.
abbrev pub gives_octets : List ℕ → Result (List ℕ × ℕ) WireFault → Bool
gives_octets octets (Ok read) = pointwise nat_eq read.0 octets
gives_octets octets (Err fault) = false

abbrev pub is_spelled_out : ℕ → List ℕ → Bool
is_spelled_out code octets = gives_octets octets (parts_at whole_name_at (parts_of code) octets 0)
