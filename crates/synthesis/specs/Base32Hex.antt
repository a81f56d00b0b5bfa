-- Octets as digits and letters (RFC 4648, section 7): the order of the octets is that of the texts.
use Rattle.std.specs.Prelude.{ℕ, zero, suc, ◌+◌, ◌*◌, ◌/◌, ◌%◌, nat_lt, List, [], ◌∷◌, ◌++◌, if◌then◌else◌}

-- `0` to `9`, and then `a` to `v`
abbrev pub digit : ℕ → ℕ
digit n = if nat_lt n 10 then 48 + n else 87 + n

-- so many digits of a number, the highest first
unfoldable pub digits : ℕ → ℕ → List ℕ
digits zero n = []
digits (suc count) n = digits count (n / 32) ++ digit (n % 32) ∷ []

-- five octets as a number
abbrev pub group : ℕ → ℕ → ℕ → ℕ → ℕ → ℕ
group a b c d e = 256 * (256 * (256 * (256 * a + b) + c) + d) + e

-- eight digits for each five octets; a digest of SHA-1 has four times five
unfoldable pub base32hex : List ℕ → List ℕ
base32hex (a ∷ b ∷ c ∷ d ∷ e ∷ rest) = digits 8 (group a b c d e) ++ base32hex rest
base32hex bytes = []
