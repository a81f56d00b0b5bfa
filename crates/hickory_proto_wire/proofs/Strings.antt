-- Strings of TXT data: each is short, and how many octets they take.
use Rattle.std.proofs.Common.{◌≡◌, ℕ, ◌+◌, ◌<◌, ltb, List, [], ◌∷◌, ◌++◌, length, take, drop, get_or, refl, sym, ap, ◌∙◌, length-append, arith}
use Rattle.std.specs.Prelude.{Option, None}
use Rattle.std.specs.Option.{option_or}
use Rattle.std.specs.Global.{Vec}
use Rattle.std.proofs.lemmas.Bool.{lt-ltb, ltb-false}
use Rattle.std.proofs.lemmas.Grind.{flat_map-append}
use Rattle.std.proofs.lemmas.List.{take-append-drop}
use Rattle.hickory_proto_names.specs.Name.{label_bytes}
use Rattle.hickory_proto_wire.specs.declared.to_wire_error.ToWireError.{ToWireError}
use Rattle.hickory_proto_wire.specs.declared.to_wire_error.ToWireError.TheVariants.{StringTooLong}
use Rattle.hickory_proto_wire.specs.Writing.{counted, run_of}
use Rattle.hickory_proto_wire.specs.Refused.{first_fault, string_fault, size_fault}
use Rattle.hickory_proto_wire.proofs.Faults.{one_none}
use Rattle.hickory_proto_wire.proofs.Runs.{run_more}
use Rattle.hickory_proto_wire.proofs.Spelled.{not_faulty}

abbrev pub vector_fault : Vec ℕ → Option ToWireError
vector_fault v = string_fault v.items

pub as_vectors : (ss : List (Vec ℕ)) → first_fault string_fault (label_bytes ss) ≡ first_fault vector_fault ss
as_vectors [] = refl
as_vectors (s ∷ ss) = ap (λ f. option_or (vector_fault s) f) (as_vectors ss)

pub string_short : (ss : List (Vec ℕ)) (i : ℕ) (v : Vec ℕ) → first_fault string_fault (label_bytes ss) ≡ None
    → i < length ss → v ≡ get_or ss i v → length v.items < 256
string_short ss i v e lt is =
    let right = one_none vector_fault ss i v (sym (as_vectors ss) ∙ e) lt is in
    let short = ltb-false 255 (length v.items) (not_faulty (ltb 255 (length v.items)) StringTooLong right) in
    omega (arith, short)

-- the octets of the first strings, and one more
pub size_more : (ss : List (Vec ℕ)) (i : ℕ) (v : Vec ℕ) (size : ℕ) → i < length ss → v ≡ get_or ss i v
    → size ≡ length (run_of (take i (label_bytes ss)))
    → size + (length v.items + 1) ≡ length (run_of (take (i + 1) (label_bytes ss)))
size_more ss i v size lt is e =
    let before = run_of (take i (label_bytes ss)) in
    omega (arith, e, ap length (run_more ss i v lt is), length-append before (counted v.items))

-- the octets of all are no fewer than those of the first
pub size_past : (ss : List (Vec ℕ)) (i size : ℕ) → size ≡ length (run_of (take i (label_bytes ss))) → 65535 < size
    → size_fault size ≡ size_fault (length (run_of (label_bytes ss)))
size_past ss i size e past =
    let all = label_bytes ss in
    let parts : run_of all ≡ run_of (take i all) ++ run_of (drop i all) =
    ap run_of (sym (take-append-drop i all)) ∙ flat_map-append counted (take i all) (drop i all) in
    let long : 65535 < length (run_of all) = omega (arith, e, past, ap length parts, length-append (run_of (take i all)) (run_of (drop i all))) in
    rw (lt-ltb 65535 size past, lt-ltb 65535 (length (run_of all)) long) refl
