-- The types of which a name has records, as bits: windows of 256 types, each with its number, a count, and so many
-- octets (RFC 4034, section 4.1.2).
use Rattle.std.specs.Prelude.{ℕ, zero, suc, Bool, false, ◌/◌, ◌%◌, ◌==◌, nat_lt, get_or, length, take, drop, List, [], ◌∷◌, if◌then◌else◌}

-- what a bit of an octet counts: the first of them is the highest
abbrev pub weight : ℕ → ℕ
weight bit =
    if bit == 0 then 128 else (if bit == 1 then 64 else (if bit == 2 then 32 else (if bit == 3 then 16 else (
    if bit == 4 then 8 else (if bit == 5 then 4 else (if bit == 6 then 2 else 1))))))

-- a bit of a window is set
abbrev pub has_bit : ℕ → List ℕ → Bool
has_bit bit octets = (get_or octets (bit / 8) 0 / weight (bit % 8)) % 2 == 1

-- the bit of a type is set in one of so many windows
unfoldable pub has_type_in : ℕ → ℕ → List ℕ → Bool
has_type_in zero code bits = false
has_type_in (suc windows) code [] = false
has_type_in (suc windows) code (window ∷ []) = false
has_type_in (suc windows) code (window ∷ count ∷ rest) =
    if nat_lt (length rest) count then false else (
    if window == code / 256 then has_bit (code % 256) (take count rest) else (
    has_type_in windows code (drop count rest)))

-- the bit of a type is set, by its code
abbrev pub has_type : ℕ → List ℕ → Bool
has_type code bits = has_type_in 256 code bits
