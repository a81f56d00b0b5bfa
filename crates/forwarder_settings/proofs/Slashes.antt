-- A text that is cut at a `/`.
use Rattle.std.proofs.Common.{◌≡◌, ◌<◌, ◌+◌, ℕ, ◌==◌, List, length, get_or, Some, sym, arith}
use Rattle.std.proofs.lemmas.Bool.{eqb-true}
use Rattle.std.proofs.lemmas.List.Quantifiers.{position-Some}
use Rattle.std.proofs.lemmas.Str.{IsCharBoundary-after_ascii}
use Rattle.std.specs.List.{position}
use Rattle.std.specs.Str.{IsUtf8, IsCharBoundary}

-- it stands at its place
slash_at : (text : List ℕ) (place : ℕ) → Some place ≡ position (λ byte. byte == 47) text
    → (place < length text) × (get_or text place 0 ≡ 47)
slash_at text place is =
    let found = position-Some (λ byte. byte == 47) text place 0 (sym is) in
    (found.0, eqb-true (get_or text place 0) 47 found.1)

pub before_slash : (text : List ℕ) (place : ℕ) → Some place ≡ position (λ byte. byte == 47) text
    → IsCharBoundary text place
before_slash text place is =
    let here = slash_at text place is in
    (omega (arith, here.0), λ less high. absurd (omega (arith, here.1)))

pub behind_slash : (text : List ℕ) (place : ℕ) → IsUtf8 text → Some place ≡ position (λ byte. byte == 47) text
    → 0 < place + 1 → IsCharBoundary text (place + 1)
behind_slash text place u is some =
    let here = slash_at text place is in
    IsCharBoundary-after_ascii text place u here.0 (omega (arith, here.1))
