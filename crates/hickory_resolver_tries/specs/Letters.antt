-- Letters of a name whose case is varied (0x20 is the weight that tells upper from lower case), so that a forger has to
-- guess them. The letters are counted from the first of the name; one is changed where the bit of its place is set.
use Rattle.std.specs.Prelude.{ℕ, ◌+◌, ◌-◌, ◌/◌, ◌%◌, ◌^◌, Bool, List, [], ◌∷◌, ◌==◌, get_or, if◌then◌else◌}
use Rattle.std.specs.Char.{is_ascii_alphabetic, is_ascii_uppercase}

-- a bit of octets, the one of weight 1 of the first octet first; past the octets none is set
abbrev pub is_set : List ℕ → ℕ → Bool
is_set bits place = get_or bits (place / 8) 0 / 2 ^ (place % 8) % 2 == 1

abbrev pub other_case : ℕ → ℕ
other_case letter = if is_ascii_uppercase letter then letter + 32 else letter - 32

-- an octet, which is the letter of a place if it is a letter, and the place of the next letter
abbrev pub varied_octet : List ℕ → ℕ → ℕ → ℕ
varied_octet bits place x = if is_ascii_alphabetic x then (if is_set bits place then other_case x else x) else x

abbrev pub next_place : ℕ → ℕ → ℕ
next_place place x = if is_ascii_alphabetic x then place + 1 else place

-- octets, of which the first letter is that of a place, and the place behind them
abbrev pub varied_octets : List ℕ → ℕ → List ℕ → List ℕ
varied_octets bits place [] = []
varied_octets bits place (x ∷ xs) = varied_octet bits place x ∷ varied_octets bits (next_place place x) xs

abbrev pub place_behind : ℕ → List ℕ → ℕ
place_behind place [] = place
place_behind place (x ∷ xs) = place_behind (next_place place x) xs

-- labels, one behind the other
abbrev pub varied_labels : List ℕ → ℕ → List (List ℕ) → List (List ℕ)
varied_labels bits place [] = []
varied_labels bits place (l ∷ ls) = varied_octets bits place l ∷ varied_labels bits (place_behind place l) ls
