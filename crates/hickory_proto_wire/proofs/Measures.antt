-- A name that cannot be read cannot be measured, and the fault is the same.
use Rattle.std.proofs.Common.{◌≡◌, ℕ, suc, ◌+◌, ◌≤◌, ◌<◌, List, ◌∷◌, Result, Ok, Err, true, refl}
use Rattle.std.proofs.lemmas.Bool.{le-ltb, lt-ltb, ne_eqb}
use Rattle.hickory_proto_names.specs.Name.{NameValue}
use Rattle.hickory_proto_wire.specs.declared.wire_error.WireFault.{WireFault}
use Rattle.hickory_proto_wire.specs.declared.wire_error.WireError.{WireError}
use Rattle.hickory_proto_wire.specs.declared.wire_error.WireError.TheVariants as errors
use Rattle.hickory_proto_wire.specs.declared.wire_name.Piece.{Piece}
use Rattle.hickory_proto_wire.specs.declared.wire_name.Piece.TheVariants.{Label, Pointer}
use Rattle.hickory_proto_wire.specs.declared.wire_name.Walk.{Walk}
use Rattle.hickory_proto_wire.specs.Octets.{◌>>=◌, Fails, octets_at}
use Rattle.hickory_proto_wire.specs.Names.{piece_at, labels_at, behind_label, at_target, name_start, name_at}
use Rattle.hickory_proto_wire.specs.LabelsPlace.{measured}

pub piece_unmeasured : (e : WireError) (steps rest : ℕ) (bytes : List ℕ) (walk : Walk) → steps ≡ suc rest
    → Fails e (piece_at bytes walk.at) → Fails e (measured (labels_at steps bytes walk))
unfolding labels_at
piece_unmeasured errors.OutOfMemory steps rest bytes walk k read = tt
piece_unmeasured (errors.Fault f) steps rest bytes walk k read = rw (k, read) refl

pub label_unmeasured : (e : WireError) (steps rest : ℕ) (bytes : List ℕ) (walk : Walk) (piece : Piece) (len after : ℕ)
    → steps ≡ suc rest → piece_at bytes walk.at ≡ Ok (piece, after) → piece ≡ Label len → len + 2 ≤ walk.left
    → Fails e (octets_at len bytes after) → Fails e (measured (labels_at steps bytes walk))
unfolding labels_at
label_unmeasured errors.OutOfMemory steps rest bytes walk piece len after k began is fits read = tt
label_unmeasured (errors.Fault f) steps rest bytes walk piece len after k began is fits read =
    rw (k, began, is, le-ltb walk.left (len + 2) fits, read) refl

pub rest_unmeasured : (e : WireError) (steps rest : ℕ) (bytes : List ℕ) (walk : Walk) (piece : Piece) (len after : ℕ)
    (label : List ℕ) (next : ℕ) → steps ≡ suc rest → piece_at bytes walk.at ≡ Ok (piece, after) → piece ≡ Label len
    → len + 2 ≤ walk.left → octets_at len bytes after ≡ Ok (label, next)
    → Fails e (measured (labels_at rest bytes (behind_label walk len next)))
    → Fails e (measured (labels_at steps bytes walk))
unfolding labels_at
rest_unmeasured errors.OutOfMemory steps rest bytes walk piece len after label next k began is fits there read = tt
rest_unmeasured (errors.Fault f) steps rest bytes walk piece len after label next k began is fits there read =
    rw (k, began, is, le-ltb walk.left (len + 2) fits, there) (longer (labels_at rest bytes (behind_label walk len next)) read)
  where
    longer : (inner : Result (List (List ℕ) × ℕ) WireFault) → measured inner ≡ Err f
        → measured (inner >>= λ x. Ok (label ∷ x.0, x.1)) ≡ Err f
    longer (Ok x) e = absurd cc
    longer (Err g) e = e

pub pointer_unmeasured : (e : WireError) (steps rest : ℕ) (bytes : List ℕ) (walk : Walk) (piece : Piece)
    (target after : ℕ) → steps ≡ suc rest → piece_at bytes walk.at ≡ Ok (piece, after) → piece ≡ Pointer target
    → (walk.jumps ≡ 0 → ⊥) → target < walk.start
    → Fails e (measured (labels_at rest bytes (at_target walk target)))
    → Fails e (measured (labels_at steps bytes walk))
unfolding labels_at
pointer_unmeasured errors.OutOfMemory steps rest bytes walk piece target after k began is some back read = tt
pointer_unmeasured (errors.Fault f) steps rest bytes walk piece target after k began is some back read =
    rw (k, began, is, ne_eqb walk.jumps 0 some, lt-ltb target walk.start back) (led (labels_at rest bytes (at_target walk target)) read)
  where
    led : (inner : Result (List (List ℕ) × ℕ) WireFault) → measured inner ≡ Err f
        → measured (inner >>= λ x. Ok (x.0, after)) ≡ Err f
    led (Ok x) e = absurd cc
    led (Err g) e = e

-- ---- the whole name

abbrev named : List (List ℕ) × ℕ → Result (NameValue × ℕ) WireFault
named x = Ok (record { labels = x.0; fqdn = true }, x.1)

pub name_unmeasured : (e : WireError) (bytes : List ℕ) (at : ℕ) → Fails e (measured (labels_at 256 bytes (name_start at)))
    → Fails e (name_at bytes at)
unfolding name_at
name_unmeasured errors.OutOfMemory bytes at read = tt
name_unmeasured (errors.Fault f) bytes at read = by (labels_at 256 bytes (name_start at)) read
  where
    by : (labels : Result (List (List ℕ) × ℕ) WireFault) → measured labels ≡ Err f
        → (labels >>= λ x. named x) ≡ Err f
    by (Ok x) e = absurd cc
    by (Err g) e = cc
