-- The octets of a name, label by label.
use Rattle.std.proofs.Common.{◌≡◌, ◌<◌, ◌≤◌, ◌+◌, ℕ, suc, List, [], ◌∷◌, ◌++◌, length, get_or, drop, None, refl, sym, ap, ◌∙◌, arith, drop-cons, add-one}
use Rattle.std.proofs.lemmas.List.{append_assoc, drop_all, length-append}
use Rattle.std.proofs.lemmas.List.Sums.{sum_by-cons}
use Rattle.std.specs.Global.{Vec}
use Rattle.hickory_proto_names.proofs.NameParts.{wire_len-valid}
use Rattle.hickory_proto_names.specs.Name.{label_bytes, label_fault, wire_form, wire_len}

wire-length : (ls : List (List ℕ)) → length (wire_form ls) ≡ wire_len ls
wire-length [] = refl
wire-length (l ∷ ls) =
    omega (arith, wire-length ls, length-append l (wire_form ls), sum_by-cons (λ k. length k + 1) l ls)

-- the octets of the labels before a place, and those still to come
abbrev pub AreWritten : List ℕ → ℕ → List (Vec ℕ) → Type 0
AreWritten octets i vs = octets ++ wire_form (label_bytes (drop i vs)) ≡ wire_form (label_bytes vs)

next_labels : (vs : List (Vec ℕ)) (i : ℕ) (v : Vec ℕ) → i < length vs → v ≡ get_or vs i v
    → drop i vs ≡ v ∷ drop (i + 1) vs
next_labels vs i v h is = rw (add-one, drop-cons vs i v h) (ap (λ x. x ∷ drop (suc i) vs) (sym is))

pub label_written : (octets : List ℕ) (vs : List (Vec ℕ)) (i : ℕ) (v : Vec ℕ) → AreWritten octets i vs → i < length vs
    → v ≡ get_or vs i v → AreWritten (octets ++ length v.items ∷ v.items) (i + 1) vs
label_written octets vs i v so_far h is =
    append_assoc octets (length v.items ∷ v.items) (wire_form (label_bytes (drop (i + 1) vs)))
    ∙ ap (λ ls. octets ++ wire_form (label_bytes ls)) (sym (next_labels vs i v h is))
    ∙ so_far

-- a label is short
pub label_fits : (octets : List ℕ) (vs : List (Vec ℕ)) (i : ℕ) (v : Vec ℕ) → AreWritten octets i vs
    → label_fault (label_bytes vs) ≡ None → i < length vs → v ≡ get_or vs i v → length v.items ≤ 255
label_fits octets vs i v so_far valid h is =
    let rest = wire_form (label_bytes (drop (i + 1) vs)) in
    let whole = ap length (ap (λ ls. octets ++ wire_form (label_bytes ls)) (sym (next_labels vs i v h is)) ∙ so_far) in
    omega (
      arith,
      whole,
      length-append octets (length v.items ∷ (v.items ++ rest)),
      length-append v.items rest,
      wire-length (label_bytes vs),
      wire_len-valid (label_bytes vs) valid,
    )

pub root_written : (octets : List ℕ) (vs : List (Vec ℕ)) (i : ℕ) → AreWritten octets i vs → length vs ≤ i
    → octets ++ 0 ∷ [] ≡ wire_form (label_bytes vs)
root_written octets vs i so_far h = ap (λ ls. octets ++ wire_form (label_bytes ls)) (sym (drop_all i vs h)) ∙ so_far
