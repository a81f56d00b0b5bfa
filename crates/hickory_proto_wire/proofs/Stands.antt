-- What stands at a position is what is read there, and reading is not changed by what stands behind.
use Rattle.std.proofs.Common.{◌≡◌, ℕ, ◌+◌, ◌*◌, ◌/◌, ◌%◌, ◌≤◌, ◌<◌, List, [], ◌∷◌, ◌++◌, length, take, drop, get_or, Ok, refl, sym, ap, ◌∙◌, append_assoc, length-append, arith}
use Rattle.std.proofs.lemmas.Bool.{le-ltb, lt-ltb}
use Rattle.std.proofs.lemmas.List.{get_or_at, take_at, drop_at}
use Rattle.hickory_proto_wire.specs.Octets.{octet_at, octets_at, u16_at}
use Rattle.hickory_proto_wire.specs.Writing.{Begins, Stands, Spells, u16_octets}

-- ---- the parts of what stands

pub stands_front : (a b bytes : List ℕ) (at : ℕ) → Stands (a ++ b) bytes at → Stands a bytes at
stands_front a b bytes at s =
    (s.0, b ++ s.1, s.2 ∙ ap (λ (x : List ℕ). s.0 ++ x) (append_assoc a b s.1), s.3)

pub stands_behind : (a b bytes : List ℕ) (at : ℕ) → Stands (a ++ b) bytes at → Stands b bytes (at + length a)
stands_behind a b bytes at s = (
  s.0 ++ a,
  s.1,
  s.2 ∙ ap (λ (x : List ℕ). s.0 ++ x) (append_assoc a b s.1) ∙ sym (append_assoc s.0 a (b ++ s.1)),
  length-append s.0 a ∙ ap (λ (n : ℕ). n + length a) s.3,
)

pub stands_rest : (b : ℕ) (bs bytes : List ℕ) (at : ℕ) → Stands (b ∷ bs) bytes at → Stands bs bytes (at + 1)
stands_rest b bs bytes at s = stands_behind (b ∷ []) bs bytes at s

pub begins_more : (old new octets bytes : List ℕ) → new ≡ old ++ octets → Begins new bytes → Begins old bytes
begins_more old new octets bytes e b =
    (octets ++ b.0, b.1 ∙ ap (λ (x : List ℕ). x ++ b.0) e ∙ append_assoc old octets b.0)

pub begins_stands : (old new octets bytes : List ℕ) → new ≡ old ++ octets → Begins new bytes
    → Stands octets bytes (length old)
begins_stands old new octets bytes e b =
    (old, b.0, b.1 ∙ ap (λ (x : List ℕ). x ++ b.0) e ∙ append_assoc old octets b.0, refl)

-- ---- octets that stand are read

pub octet_there : (b : ℕ) (bs bytes : List ℕ) (at : ℕ) → Stands (b ∷ bs) bytes at → octet_at bytes at ≡ Ok (b, at + 1)
unfolding octet_at
octet_there b bs bytes at s =
    let long : at < length bytes =
    omega (arith, s.3, ap length s.2, length-append s.0 (b ∷ (bs ++ s.1))) in
    let value : get_or bytes at 0 ≡ b = ap (λ (x : List ℕ). get_or x at 0) s.2 ∙ get_or_at s.0 b (bs ++ s.1) 0 at s.3 in
    rw (lt-ltb at (length bytes) long, value) refl

pub octets_there : (l bytes : List ℕ) (at : ℕ) → Stands l bytes at
    → octets_at (length l) bytes at ≡ Ok (l, at + length l)
unfolding octets_at
octets_there l bytes at s =
    let long : at + length l ≤ length bytes =
    omega (arith, s.3, ap length s.2, length-append s.0 (l ++ s.1), length-append l s.1) in
    let value : take (length l) (drop at bytes) ≡ l =
    ap (λ (x : List ℕ). take (length l) (drop at x)) s.2
    ∙ ap (λ (x : List ℕ). take (length l) x) (drop_at s.0 (l ++ s.1) at s.3)
    ∙ take_at l s.1 (length l) refl in
    rw (le-ltb (length bytes) (at + length l) long, value) refl

-- ---- numbers

pub u16_spelled : (n : ℕ) (known : List ℕ) → Spells u16_at known (u16_octets n) n
unfolding u16_at
u16_spelled n known bytes at b le s =
    let second = stands_rest (n / 256) (n % 256 ∷ []) bytes at s in
    let value : n / 256 * 256 + n % 256 ≡ n = omega arith in
    let behind : at + 1 + 1 ≡ at + 2 = omega arith in
    rw (octet_there (n / 256) (n % 256 ∷ []) bytes at s, octet_there (n % 256) [] bytes (at + 1) second, value, behind)
    refl
