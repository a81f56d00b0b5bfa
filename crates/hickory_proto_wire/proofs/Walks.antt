-- One step of a name: a label or a pointer.
use Rattle.std.proofs.Common.{◌≡◌, ℕ, suc, ◌+◌, ◌≤◌, ◌<◌, List, [], ◌∷◌, ◌++◌, Result, Ok, Err, refl, ap, append_assoc}
use Rattle.std.proofs.lemmas.Bool.{le-ltb, lt-ltb, ne_eqb}
use Rattle.hickory_proto_wire.specs.declared.wire_error.WireFault.{WireFault}
use Rattle.hickory_proto_wire.specs.declared.wire_error.WireError.{WireError}
use Rattle.hickory_proto_wire.specs.declared.wire_error.WireError.TheVariants as errors
use Rattle.hickory_proto_wire.specs.declared.wire_name.Piece.{Piece}
use Rattle.hickory_proto_wire.specs.declared.wire_name.Piece.TheVariants.{Label, Pointer}
use Rattle.hickory_proto_wire.specs.declared.wire_name.Walk.{Walk}
use Rattle.hickory_proto_wire.specs.Octets.{◌>>=◌, Fails, with_front, octets_at}
use Rattle.hickory_proto_wire.specs.Names.{piece_at, labels_at, behind_label, at_target}

regroup : (front : List (List ℕ)) (label : List ℕ) (read : Result (List (List ℕ) × ℕ) WireFault)
    → with_front front (read >>= λ x. Ok (label ∷ x.0, x.1)) ≡ with_front (front ++ label ∷ []) read
regroup front label (Ok x) = ap (λ (ls : List (List ℕ)). Ok (ls, x.1)) (simp append_assoc)
regroup front label (Err f) = refl

pub label_step : (steps rest : ℕ) (bytes : List ℕ) (walk : Walk) (piece : Piece) (len after : ℕ) (label : List ℕ) (next : ℕ)
    (front : List (List ℕ)) → steps ≡ suc rest → piece_at bytes walk.at ≡ Ok (piece, after)
    → piece ≡ Label len
    → len + 2 ≤ walk.left → octets_at len bytes after ≡ Ok (label, next)
    → with_front front (labels_at steps bytes walk)
    ≡ with_front (front ++ label ∷ []) (labels_at rest bytes (behind_label walk len next))
unfolding labels_at
label_step steps rest bytes walk piece len after label next front k began is fits read =
    rw (k, began, is, le-ltb walk.left (len + 2) fits, read)
    (regroup front label (labels_at rest bytes (behind_label walk len next)))

pub label_fails : (e : WireError) (steps rest : ℕ) (bytes : List ℕ) (walk : Walk) (piece : Piece) (len after : ℕ)
    (front : List (List ℕ)) → steps ≡ suc rest → piece_at bytes walk.at ≡ Ok (piece, after)
    → piece ≡ Label len
    → len + 2 ≤ walk.left → Fails e (octets_at len bytes after)
    → Fails e (with_front front (labels_at steps bytes walk))
unfolding labels_at
label_fails errors.OutOfMemory steps rest bytes walk piece len after front k began is fits read = tt
label_fails (errors.Fault f) steps rest bytes walk piece len after front k began is fits read =
    rw (k, began, is, le-ltb walk.left (len + 2) fits, read) refl

pub pointer_fails : (e : WireError) (steps rest : ℕ) (bytes : List ℕ) (walk : Walk) (piece : Piece) (target after : ℕ)
    (front : List (List ℕ)) → steps ≡ suc rest → piece_at bytes walk.at ≡ Ok (piece, after)
    → piece ≡ Pointer target
    → (walk.jumps ≡ 0 → ⊥) → target < walk.start
    → Fails e (with_front front (labels_at rest bytes (at_target walk target)))
    → Fails e (with_front front (labels_at steps bytes walk))
unfolding labels_at
pointer_fails errors.OutOfMemory steps rest bytes walk piece target after front k began is some back read = tt
pointer_fails (errors.Fault f) steps rest bytes walk piece target after front k began is some back read =
    rw (k, began, is, ne_eqb walk.jumps 0 some, lt-ltb target walk.start back) (without (labels_at rest bytes (at_target walk target)) read)
  where
    without : (inner : Result (List (List ℕ) × ℕ) WireFault) → with_front front inner ≡ Err f
        → with_front front (inner >>= λ x. Ok (x.0, after)) ≡ Err f
    without (Ok x) e = absurd cc
    without (Err g) e = e

pub piece_fails : (e : WireError) (steps rest : ℕ) (bytes : List ℕ) (walk : Walk) (front : List (List ℕ)) → steps ≡ suc rest
    → Fails e (piece_at bytes walk.at) → Fails e (with_front front (labels_at steps bytes walk))
unfolding labels_at
piece_fails errors.OutOfMemory steps rest bytes walk front k read = tt
piece_fails (errors.Fault f) steps rest bytes walk front k read = rw (k, read) refl
