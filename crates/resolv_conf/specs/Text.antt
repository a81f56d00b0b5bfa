-- The lines of a file, and the words of a line.
use Rattle.std.specs.Prelude.{ℕ, ◌+◌, Bool, not, ◌||◌, ◌==◌, nat_lt, List, [], length, take, drop, map, filter, position, Option, None, Some}
use Rattle.std.specs.Borrow.{Bor}
use Rattle.std.specs.List.{slice_split, take_while}
use Rattle.std.specs.Option.{option_map, option_map_or}

-- what stands before the first such octet, and what stands behind it; none where there is no such octet
unfoldable pub cut : ℕ → List ℕ → Option (List ℕ × List ℕ)
cut octet octets = option_map (λ n. (take n octets, drop (n + 1) octets)) (position (λ b. b == octet) octets)

-- what is read of a line: what stands before its first NUL, where a text of C ends
unfoldable pub text_of : List ℕ → List ℕ
text_of line = option_map_or (λ parts. parts.0) (cut 0 line) line

-- the lines: what stands between line feeds
unfoldable pub lines_of : List ℕ → List (List ℕ)
lines_of octets = map text_of (slice_split (λ b. b == 10) octets)

-- the lines that are still to come
abbrev pub lines_left : Option (Bor (List ℕ)) → List (List ℕ)
lines_left None = []
lines_left (Some octets) = lines_of octets.now

-- spaces and TABs
abbrev pub is_blank : ℕ → Bool
is_blank octet = (octet == 32) || (octet == 9)

abbrev pub is_plain : ℕ → Bool
is_plain octet = not (is_blank octet)

-- the words of a line: what stands between blanks
abbrev pub words : List ℕ → List (List ℕ)
words line = filter (λ word. nat_lt 0 (length word)) (slice_split is_blank line)

-- a line without the blanks that it begins with
abbrev pub unindented : List ℕ → List ℕ
unindented line = drop (length (take_while is_blank line)) line

-- what stands before the first blank, and the rest
abbrev pub first_word : List ℕ → List ℕ
first_word line = take_while is_plain line

abbrev pub behind_word : List ℕ → List ℕ
behind_word line = drop (length (first_word line)) line
