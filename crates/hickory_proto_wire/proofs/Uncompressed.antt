-- Names that go by no pointer: where they end.
use Rattle.std.proofs.Common.{◌≡◌, ℕ, zero, suc, ◌-◌, ◌+◌, ◌*◌, ◌≤◌, ◌<◌, Bool, true, false, cond, ltb, List, ◌∷◌, length, get_or, drop, take, Result, Ok, Err, refl, arith}
use Rattle.std.specs.Prelude.{None, Some}
use Rattle.std.proofs.lemmas.Bool.{le-ltb, lt-ltb, ne_eqb}
use Rattle.hickory_proto_wire.specs.declared.wire_error.WireFault.{WireFault}
use Rattle.hickory_proto_wire.specs.declared.wire_error.WireFault.TheVariants.{BadLabel}
use Rattle.hickory_proto_wire.specs.declared.wire_name.Piece.{Piece}
use Rattle.hickory_proto_wire.specs.declared.wire_name.Piece.TheVariants.{Pointer}
use Rattle.hickory_proto_wire.specs.declared.wire_name.Walk.{Walk}
use Rattle.hickory_proto_wire.specs.Octets.{◌>>=◌, octet_at, octets_at}
use Rattle.hickory_proto_wire.specs.Names.{piece_at, labels_at, behind_label}
use Rattle.hickory_proto_wire.specs.OldData.{end_of}
use Rattle.hickory_proto_wire.proofs.Fits.{Labels, branch}

octet_is : (bytes : List ℕ) (at b : ℕ) → at < length bytes → get_or bytes at 0 ≡ b → octet_at bytes at ≡ Ok (b, at + 1)
unfolding octet_at
octet_is bytes at b within is = rw (lt-ltb at (length bytes) within, is) refl

pub no_octet : (steps : ℕ) (bytes : List ℕ) (walk : Walk) → length bytes ≤ walk.at → end_of (labels_at steps bytes walk) ≡ None
unfolding labels_at piece_at octet_at
no_octet zero bytes walk past = refl
no_octet (suc steps) bytes walk past = rw (le-ltb walk.at (length bytes) past) refl

pub no_step : (steps : ℕ) (bytes : List ℕ) (walk : Walk) → steps ≡ 0 → end_of (labels_at steps bytes walk) ≡ None
unfolding labels_at
no_step steps bytes walk none = rw none refl

pub root_end : (steps : ℕ) (bytes : List ℕ) (walk : Walk) → 0 < steps → walk.at < length bytes → get_or bytes walk.at 0 ≡ 0
    → end_of (labels_at steps bytes walk) ≡ Some (walk.at + 1)
unfolding labels_at piece_at
root_end steps bytes walk some within is =
    let k : steps ≡ suc (steps - 1) = omega (arith, some) in
    rw (k, octet_is bytes walk.at 0 within is) refl

-- neither a label nor the root
abbrev high_piece : Bool → Result (ℕ × ℕ) WireFault → ℕ → Result (Piece × ℕ) WireFault
high_piece bad low high = cond bad (Err BadLabel) (low >>= λ low. Ok (Pointer (high * 256 + low.0), low.1))

not_uncompressed : (inner : Walk → Labels) (bytes : List ℕ) (walk : Walk) (bad : Bool) (low : Result (ℕ × ℕ) WireFault) (high : ℕ)
    → walk.jumps ≡ 0
    → end_of (high_piece bad low high >>= λ piece. branch inner bytes walk piece.0 piece.1) ≡ None
not_uncompressed inner bytes walk true low high none = refl
not_uncompressed inner bytes walk false (Err f) high none = refl
not_uncompressed inner bytes walk false (Ok low) high none = rw none refl

pub long_none : (steps : ℕ) (bytes : List ℕ) (walk : Walk) (len : ℕ) → 0 < steps → walk.at < length bytes
    → get_or bytes walk.at 0 ≡ len → 63 < len → walk.jumps ≡ 0 → end_of (labels_at steps bytes walk) ≡ None
unfolding labels_at piece_at
long_none steps bytes walk len some within is long none =
    let k : steps ≡ suc (steps - 1) = omega (arith, some) in
    rw (k, octet_is bytes walk.at len within is, ne_eqb len 0 (λ z. omega (arith, z, long)), le-ltb len 64 (omega (arith, long)))
    (not_uncompressed (labels_at (steps - 1) bytes) bytes walk (ltb len 192) (octet_at bytes (walk.at + 1)) (len - 192) none)

pub room_none : (steps : ℕ) (bytes : List ℕ) (walk : Walk) (len : ℕ) → 0 < steps → walk.at < length bytes
    → get_or bytes walk.at 0 ≡ len → 0 < len → len < 64 → walk.left < len + 2 → end_of (labels_at steps bytes walk) ≡ None
unfolding labels_at piece_at
room_none steps bytes walk len some within is one short room =
    let k : steps ≡ suc (steps - 1) = omega (arith, some) in
    rw (k, octet_is bytes walk.at len within is, ne_eqb len 0 (λ z. omega (arith, z, one)), lt-ltb len 64 short, lt-ltb walk.left (len + 2) room) refl

pub cut_none : (steps : ℕ) (bytes : List ℕ) (walk : Walk) (len : ℕ) → 0 < steps → walk.at < length bytes
    → get_or bytes walk.at 0 ≡ len → 0 < len → len < 64 → len + 2 ≤ walk.left → length bytes < walk.at + 1 + len
    → end_of (labels_at steps bytes walk) ≡ None
unfolding labels_at piece_at octets_at
cut_none steps bytes walk len some within is one short room past =
    let k : steps ≡ suc (steps - 1) = omega (arith, some) in
    rw (
      k,
      octet_is bytes walk.at len within is,
      ne_eqb len 0 (λ z. omega (arith, z, one)),
      lt-ltb len 64 short,
      le-ltb walk.left (len + 2) room,
      lt-ltb (length bytes) (walk.at + 1 + len) past,
    )
    refl

same_end : (label : List ℕ) (read : Labels) → end_of (read >>= λ rest. Ok (label ∷ rest.0, rest.1)) ≡ end_of read
same_end label (Ok x) = refl
same_end label (Err f) = refl

pub label_end : (steps rest : ℕ) (bytes : List ℕ) (walk : Walk) (len : ℕ) → steps ≡ suc rest → walk.at < length bytes
    → get_or bytes walk.at 0 ≡ len → 0 < len → len < 64 → len + 2 ≤ walk.left → walk.at + 1 + len ≤ length bytes
    → end_of (labels_at steps bytes walk) ≡ end_of (labels_at rest bytes (behind_label walk len (walk.at + 1 + len)))
unfolding labels_at piece_at octets_at
label_end steps rest bytes walk len k within is one short room there =
    rw (
      k,
      octet_is bytes walk.at len within is,
      ne_eqb len 0 (λ z. omega (arith, z, one)),
      lt-ltb len 64 short,
      le-ltb walk.left (len + 2) room,
      le-ltb (length bytes) (walk.at + 1 + len) there,
    )
    (same_end (take len (drop (walk.at + 1) bytes)) (labels_at rest bytes (behind_label walk len (walk.at + 1 + len))))
