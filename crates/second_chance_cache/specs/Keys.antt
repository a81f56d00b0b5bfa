-- The keys of an index.
use Rattle.std.specs.Prelude.{◌≡◌, ℕ, Bool, true, List, [], ◌∷◌}
use Rattle.std.specs.Cmp.{IsEquivalence}
use Rattle.std.specs.Cmp.Lexicographic.{bytes_decides, nat_list_eq_equiv}
use Rattle.std.specs.Hash.{Alike, same_Alike}
use Rattle.std.specs.Str.{bytes_eq}

abbrev pub key_eq : List ℕ → List ℕ → Bool
key_eq = bytes_eq

pub key_equiv : IsEquivalence key_eq
key_equiv = nat_list_eq_equiv

-- all octets at once
abbrev pub key_hash_input : List ℕ → List (List ℕ)
key_hash_input key = key ∷ []

-- keys that are equal feed a hasher the same
keys_alike : Alike key_eq key_hash_input
keys_alike = same_Alike key_hash_input bytes_decides

pub key_respects_eq : (one other : List ℕ) → key_eq one other ≡ true → key_hash_input one ≡ key_hash_input other
key_respects_eq = keys_alike.fed
