-- Names as octets (RFC 1035, section 3.1): labels, each behind the octet of its length, and the root's octet 0 at the
-- end.
use Rattle.std.specs.Prelude.{ℕ, zero, suc, ◌+◌, Bool, ◌||◌, ◌==◌, nat_lt, nat_le, List, [], ◌∷◌, length, map, slice_index, if◌then◌else◌}
use Rattle.std.specs.Char.{to_ascii_lowercase}
use Rattle.domain_table.specs.declared.names.TheConstants.{LONGEST_LABEL, LONGEST_NAME}

-- A name in lower case: names are equal where these are (RFC 4343, section 3). Octets of lengths are below 64, and no
-- letters.
abbrev pub lower_name : List ℕ → List ℕ
lower_name octets = map to_ascii_lowercase octets

-- no more octets than a name may have (RFC 1035, section 2.3.4)
abbrev pub is_short : List ℕ → Bool
is_short octets = nat_le (length octets) LONGEST_NAME

-- nothing stands behind the root, nor behind an octet that is no label's length
abbrev pub ends_name : ℕ → Bool
ends_name first = (first == 0) || nat_lt LONGEST_LABEL first

-- The suffixes of a name begin where a label or the root does: what is left behind so many octets that are passed by,
-- and then behind each label, from the longest to the shortest.
abbrev pub suffixes_behind : ℕ → List ℕ → List (List ℕ)
suffixes_behind passed [] = []
suffixes_behind zero (first ∷ rest) =
    (first ∷ rest) ∷ (if ends_name first then [] else suffixes_behind first rest)
suffixes_behind (suc passed) (octet ∷ rest) = suffixes_behind passed rest

abbrev pub suffixes : List ℕ → List (List ℕ)
suffixes name = suffixes_behind 0 name

-- where the suffix behind the one at a place begins, or the end, where there is none
abbrev pub next_place : List ℕ → ℕ → ℕ
next_place name place =
    if ends_name (slice_index name place) then length name else place + 1 + slice_index name place
