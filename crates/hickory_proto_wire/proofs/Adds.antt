-- What was added one behind the other spells what is read one behind the other.
use Rattle.std.proofs.Common.{◌≡◌, ℕ, ◌+◌, ◌*◌, ◌/◌, ◌%◌, List, ◌++◌, length, Result, Ok, refl, ap, subst, ◌∙◌, append_assoc, length-append, arith}
use Rattle.hickory_proto_wire.specs.declared.wire_error.WireFault.{WireFault}
use Rattle.hickory_proto_wire.specs.Octets.{◌>>=◌, u16_at, u32_at}
use Rattle.hickory_proto_wire.specs.Writing.{Adds, u16_octets}
use Rattle.hickory_proto_wire.proofs.Stands.{stands_front, stands_behind, u16_spelled}

abbrev pub Reader : Type 0 → Type 0
Reader A = List ℕ → ℕ → Result (A × ℕ) WireFault

pub adds_one : {A B : Type 0} (first : Reader A) (all : Reader B) (f : A → B) (known o0 o1 : List ℕ) (x : A)
    → ((bytes : List ℕ) (at : ℕ) → all bytes at ≡ (first bytes at >>= λ a. Ok (f a.0, a.1)))
    → Adds first known o0 o1 x → Adds all known o0 o1 (f x)
adds_one first all f known o0 o1 x eq a =
    (a.0, a.1, λ bytes at b le s. eq bytes at ∙ rw (a.2 bytes at b le s) refl)

pub adds_both : {A B C : Type 0} (first : Reader A) (second : Reader B) (all : Reader C) (f : A → B → C)
    (known o0 o1 o2 : List ℕ) (x : A) (y : B)
    → ((bytes : List ℕ) (at : ℕ) → all bytes at ≡ (first bytes at >>= λ a. second bytes a.1 >>= λ b. Ok (f a.0 b.0, b.1)))
    → Adds first known o0 o1 x → Adds second known o1 o2 y → Adds all known o0 o2 (f x y)
adds_both first second all f known o0 o1 o2 x y eq a b = (
  a.0 ++ b.0,
  b.1 ∙ ap (λ (o : List ℕ). o ++ b.0) a.1 ∙ append_assoc o0 a.0 b.0,
  λ bytes at begins le s.
      let end : at + length a.0 + length b.0 ≡ at + length (a.0 ++ b.0) = omega (arith, length-append a.0 b.0) in
      eq bytes at
      ∙ rw (
        a.2 bytes at begins le (stands_front a.0 b.0 bytes at s),
        b.2 bytes (at + length a.0) begins (omega (arith, le)) (stands_behind a.0 b.0 bytes at s),
        end,
      ) refl,
)

-- a reader that goes on with what was read
pub adds_then : {A B : Type 0} (first : Reader A) (second : A → Reader B) (all : Reader B)
    (known o0 o1 o2 : List ℕ) (x : A) (y : B)
    → ((bytes : List ℕ) (at : ℕ) → all bytes at ≡ (first bytes at >>= λ a. second a.0 bytes a.1))
    → Adds first known o0 o1 x → Adds (second x) known o1 o2 y → Adds all known o0 o2 y
adds_then first second all known o0 o1 o2 x y eq a b = (
  a.0 ++ b.0,
  b.1 ∙ ap (λ (o : List ℕ). o ++ b.0) a.1 ∙ append_assoc o0 a.0 b.0,
  λ bytes at begins le s.
      let end : at + length a.0 + length b.0 ≡ at + length (a.0 ++ b.0) = omega (arith, length-append a.0 b.0) in
      eq bytes at
      ∙ rw (
        a.2 bytes at begins le (stands_front a.0 b.0 bytes at s),
        b.2 bytes (at + length a.0) begins (omega (arith, le)) (stands_behind a.0 b.0 bytes at s),
        end,
      ) refl,
)

pub u16_adds : (known old new : List ℕ) (n : ℕ) → new ≡ old ++ u16_octets n → Adds u16_at known old new n
u16_adds known old new n e = (u16_octets n, e, u16_spelled n known)

pub u16_adds_as : (known old new : List ℕ) (n m : ℕ) → n ≡ m → new ≡ old ++ u16_octets n → Adds u16_at known old new m
u16_adds_as known old new n m same e = subst (λ (k : ℕ). Adds u16_at known old new k) same (u16_adds known old new n e)

pub u32_adds : (known o0 o1 o2 : List ℕ) (n : ℕ) → Adds u16_at known o0 o1 (n / 65536) → Adds u16_at known o1 o2 (n % 65536)
    → Adds u32_at known o0 o2 n
unfolding u32_at
u32_adds known o0 o1 o2 n a b =
    let value : n / 65536 * 65536 + n % 65536 ≡ n = omega arith in
    subst (λ (m : ℕ). Adds u32_at known o0 o2 m) value
    (adds_both u16_at u16_at u32_at (λ high low. high * 65536 + low) known o0 o1 o2 (n / 65536) (n % 65536) (λ bytes at. refl) a b)
