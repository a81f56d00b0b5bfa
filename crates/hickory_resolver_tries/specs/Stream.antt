-- Messages on a stream (RFC 1035, section 4.2.2): before each stand two octets, its length, the high one first.
use Rattle.std.specs.Prelude.{◌≡◌, ℕ, zero, suc, ◌+◌, ◌*◌, Bool, true, List, [], ◌∷◌, ◌++◌, length, take, drop, nat_lt, Option, None, Some, if◌then◌else◌}
use Rattle.std.specs.Option.{option_map_or}

-- less than a whole message: fewer than two octets, or fewer behind them than they say
abbrev pub is_partial : List ℕ → Bool
is_partial [] = true
is_partial (high ∷ []) = true
is_partial (high ∷ low ∷ octets) = nat_lt (length octets) (high * 256 + low)

-- the first message of a stream, and what is behind it, where the stream has a whole message
abbrev pub first_of : List ℕ → Option (List ℕ × List ℕ)
first_of [] = None
first_of (high ∷ []) = None
first_of (high ∷ low ∷ octets) =
    if nat_lt (length octets) (high * 256 + low) then None
    else Some (take (high * 256 + low) octets, drop (high * 256 + low) octets)

-- a stream's messages in order, and what is left of it, less than a whole message
pub record Cut : Type 0 where
  pub messages : List (List ℕ)
  pub rest : List ℕ

abbrev pub with_first : List ℕ → Cut → Cut
with_first message c = record { messages = message ∷ c.messages; rest = c.rest }

-- of a stream without a whole message
abbrev pub uncut : List ℕ → Cut
uncut stream = record { messages = []; rest = stream }

-- Each message takes two octets or more, so that as many steps as there are octets are enough.
unfoldable pub cut_in : ℕ → List ℕ → Cut
cut_in zero stream = uncut stream
cut_in (suc steps) stream =
    option_map_or (λ first. with_first first.0 (cut_in steps first.1)) (first_of stream) (uncut stream)

abbrev pub messages_of : List ℕ → List (List ℕ)
messages_of stream = (cut_in (length stream) stream).messages

abbrev pub rest_of : List ℕ → List ℕ
rest_of stream = (cut_in (length stream) stream).rest

-- What is taken of a stream at once: its first message, up to its last octet, where it has a whole one; else all of
-- it is held.
abbrev pub Takes : List ℕ → Option (List ℕ) → List ℕ → List ℕ → Type 0
Takes stream None behind held = (first_of stream ≡ None) × (held ≡ stream) × (behind ≡ [])
Takes stream (Some message) behind held = (first_of stream ≡ Some (message, behind)) × (held ≡ [])

-- The cuts of a stream do not matter: what comes of its first part, and then of what was left and the rest.
abbrev pub IsCutAnywhere : Type 0
IsCutAnywhere =
    (before after : List ℕ)
    → (messages_of (before ++ after) ≡ messages_of before ++ messages_of (rest_of before ++ after))
    × (rest_of (before ++ after) ≡ rest_of (rest_of before ++ after))
