-- Reading from left to right, with the first fault that is met; octets and numbers (RFC 1035, section 2.3.2).
-- What is read at a position is a value and the position behind it.
use Rattle.std.specs.Prelude.{◌≡◌, ℕ, ◌+◌, ◌*◌, List, ◌++◌, length, take, drop, get_or, Result, Ok, Err, nat_lt, if◌then◌else◌}
use Rattle.hickory_proto_wire.specs.declared.wire_error.WireFault.{WireFault}
use Rattle.hickory_proto_wire.specs.declared.wire_error.WireFault.TheVariants.{Short}
use Rattle.hickory_proto_wire.specs.declared.wire_error.WireError.{WireError}
use Rattle.hickory_proto_wire.specs.declared.wire_error.WireError.TheVariants as errors

infixl 10 ◌>>=◌
abbrev pub ◌>>=◌ : {A B : Type 0} → Result A WireFault → (A → Result B WireFault) → Result B WireFault
(Ok x) >>= f = f x
(Err e) >>= f = Err e

-- what a call returned, seen by view, is what reading gives, unless memory ran out
abbrev pub Fails : {Y : Type 0} → WireError → Result Y WireFault → Type 0
Fails errors.OutOfMemory read = Unit {0}
Fails (errors.Fault f) read = read ≡ Err f

abbrev pub Gives : {X Y : Type 0} → (X → Y) → Result X WireError → Result Y WireFault → Type 0
Gives view (Ok x) read = read ≡ Ok (view x)
Gives view (Err e) read = Fails e read

-- values that were read before, and those that are still read
abbrev pub with_front : {A : Type 0} → List A → Result (List A × ℕ) WireFault → Result (List A × ℕ) WireFault
with_front front read = read >>= λ x. Ok (front ++ x.0, x.1)

unfoldable pub octet_at : List ℕ → ℕ → Result (ℕ × ℕ) WireFault
octet_at bytes at = if nat_lt at (length bytes) then Ok (get_or bytes at 0, at + 1) else Err Short

-- so many octets
unfoldable pub octets_at : ℕ → List ℕ → ℕ → Result (List ℕ × ℕ) WireFault
octets_at count bytes at =
    if nat_lt (length bytes) (at + count) then Err Short else Ok (take count (drop at bytes), at + count)

-- numbers of 16 and of 32 bits, the high octet first
unfoldable pub u16_at : List ℕ → ℕ → Result (ℕ × ℕ) WireFault
u16_at bytes at = do
  high ← octet_at bytes at
  low ← octet_at bytes high.1
  Ok (high.0 * 256 + low.0, low.1)

unfoldable pub u32_at : List ℕ → ℕ → Result (ℕ × ℕ) WireFault
u32_at bytes at = do
  high ← u16_at bytes at
  low ← u16_at bytes high.1
  Ok (high.0 * 65536 + low.0, low.1)
