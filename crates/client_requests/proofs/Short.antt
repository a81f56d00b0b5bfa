-- The question of what is kept of a request is as short as the request's.
use Rattle.std.proofs.Common.{◌≡◌, ◌≤◌, ℕ, ◌-◌, List, length, take, drop, Option, Some, arith, subst, sym}
use Rattle.std.proofs.lemmas.List.{length-take, length-drop}
use Rattle.client_queries.specs.Refusals.{question_octets}

front : (octets : List ℕ) (end : ℕ)
    → length (take (end - 12) (drop 12 (take end octets))) ≤ length (take (end - 12) (drop 12 octets))
front octets end =
    grind (
      arith,
      length-take (end - 12) (drop 12 (take end octets)),
      length-drop 12 (take end octets),
      length-take end octets,
      length-take (end - 12) (drop 12 octets),
      length-drop 12 octets,
    )

cut_short : (octets : List ℕ) (most end : ℕ) → length (question_octets octets (Some end)) ≤ most
    → length (question_octets (take end octets) (Some end)) ≤ most
cut_short octets most end short = omega (arith, front octets end, short)

pub still_short : (octets : List ℕ) (most end : ℕ) (place : Option ℕ) → place ≡ Some end
    → length (question_octets octets place) ≤ most → length (question_octets (take end octets) place) ≤ most
still_short octets most end place is short =
    subst (λ p. length (question_octets (take end octets) p) ≤ most) (sym is)
    (cut_short octets most end (subst (λ p. length (question_octets octets p) ≤ most) is short))
