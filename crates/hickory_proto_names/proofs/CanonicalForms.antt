-- The canonical form of labels: how long it is, that it tells labels apart, and how a loop builds it.
use Rattle.std.proofs.Common.{◌≡◌, ℕ, suc, ◌+◌, ◌<◌, ◌≤◌, List, [], ◌∷◌, ◌++◌, length, get_or, take, drop, nat_eq, None, sym, refl, ap, ap₂, ◌∙◌, arith, drop-cons, add-one}
use Rattle.std.proofs.Math.Seq.{take-append_seam, drop-append_seam}
use Rattle.std.proofs.lemmas.Bool.Decides.{same_from_decides, Decides-like}
use Rattle.std.proofs.lemmas.List.{append_assoc, length-map, length-append, drop_all}
use Rattle.std.proofs.lemmas.List.Sums.{sum_by-cons}
use Rattle.std.specs.Cmp.Lexicographic.{pointwise, bytes_decides}
use Rattle.std.specs.Char.{to_ascii_lowercase}
use Rattle.std.specs.Global.{Vec}
use Rattle.hickory_proto_names.specs.Name.{label_bytes, label_fault, lower_label, lower_labels, labels_eq, wire_form, wire_len, canonical_form}
use Rattle.hickory_proto_names.specs.NameLaws.{label_lists_Decides}
use Rattle.hickory_proto_names.proofs.NameParts.{wire_len-valid}

-- two lists that begin with lists of one length
same_parts : {A : Type 0} (xs ys more others : List A) → length xs ≡ length ys → xs ++ more ≡ ys ++ others → (xs ≡ ys) × (more ≡ others)
same_parts xs ys more others e h = (
  sym (take-append_seam xs more) ∙ ap₂ take e h ∙ take-append_seam ys others,
  sym (drop-append_seam xs more) ∙ ap₂ drop e h ∙ drop-append_seam ys others,
)

-- the root's length is there at the least
some_wire : (ls : List (List ℕ)) → 1 ≤ length (wire_form ls)
some_wire [] = omega arith
some_wire (l ∷ ls) = omega arith

-- labels that are the same on the wire are the same
wire_form-injective : (xs ys : List (List ℕ)) → wire_form xs ≡ wire_form ys → xs ≡ ys
wire_form-injective [] [] h = refl
wire_form-injective [] (y ∷ ys) h = absurd (omega (arith, ap length h, length-append y (wire_form ys), some_wire ys))
wire_form-injective (x ∷ xs) [] h = absurd (omega (arith, ap length h, length-append x (wire_form xs), some_wire xs))
wire_form-injective (x ∷ xs) (y ∷ ys) h =
    let parts = same_parts x y (wire_form xs) (wire_form ys) (ap (λ l. get_or l 0 0) h) (ap (drop 1) h) in
    ap₂ (λ z zs. z ∷ zs) parts.0 (wire_form-injective xs ys parts.1)

-- comparing the canonical forms compares the labels
pub canonical_same : (xs ys : List (List ℕ)) → pointwise nat_eq (canonical_form xs) (canonical_form ys) ≡ labels_eq xs ys
canonical_same xs ys =
    same_from_decides {P = wire_form (lower_labels xs) ≡ wire_form (lower_labels ys)} _ _
    (bytes_decides (canonical_form xs) (canonical_form ys))
    (Decides-like _ (ap wire_form) (wire_form-injective (lower_labels xs) (lower_labels ys)) (label_lists_Decides (lower_labels xs) (lower_labels ys)))

-- it is as long as the labels on the wire
canonical-length : (ls : List (List ℕ)) → length (canonical_form ls) ≡ wire_len ls
canonical-length [] = refl
canonical-length (l ∷ ls) = omega (arith, canonical-length ls, length-append (lower_label l) (canonical_form ls), length-map l to_ascii_lowercase, sum_by-cons (λ k. length k + 1) l ls)

-- the front of a canonical form, up to the label at place i, and what is still to come
abbrev pub AreFormed : List ℕ → ℕ → List (Vec ℕ) → Type 0
AreFormed form i vs = form ++ canonical_form (label_bytes (drop i vs)) ≡ canonical_form (label_bytes vs)

next_labels : (vs : List (Vec ℕ)) (i : ℕ) (v : Vec ℕ) → i < length vs → v ≡ get_or vs i v → drop i vs ≡ v ∷ drop (i + 1) vs
next_labels vs i v h is = rw (add-one, drop-cons vs i v h) (ap (λ x. x ∷ drop (suc i) vs) (sym is))

-- the form of a label, and then those of the others
canonical-cons : (v : Vec ℕ) (vs : List (Vec ℕ)) → canonical_form (label_bytes (v ∷ vs)) ≡ (length v.items ∷ lower_label v.items) ++ canonical_form (label_bytes vs)
canonical-cons v vs = ap (λ n. (n ∷ lower_label v.items) ++ canonical_form (label_bytes vs)) (length-map v.items to_ascii_lowercase)

-- with one more label
pub label_formed : (form : List ℕ) (vs : List (Vec ℕ)) (i : ℕ) (v : Vec ℕ) → AreFormed form i vs → i < length vs → v ≡ get_or vs i v → AreFormed (form ++ length v.items ∷ lower_label v.items) (i + 1) vs
label_formed form vs i v so_far h is =
    let others = drop (i + 1) vs in
    append_assoc form (length v.items ∷ lower_label v.items) (canonical_form (label_bytes others))
    ∙ ap (λ l. form ++ l) (sym (canonical-cons v others))
    ∙ ap (λ ls. form ++ canonical_form (label_bytes ls)) (sym (next_labels vs i v h is))
    ∙ so_far

-- there is room for it
pub room_for_label : (form : List ℕ) (vs : List (Vec ℕ)) (i : ℕ) (v : Vec ℕ) → AreFormed form i vs → label_fault (label_bytes vs) ≡ None → i < length vs → v ≡ get_or vs i v → length form + length v.items < 255
room_for_label form vs i v so_far valid h is =
    let rest = canonical_form (label_bytes (drop (i + 1) vs)) in
    let whole = ap (λ ls. length (form ++ canonical_form (label_bytes ls))) (sym (next_labels vs i v h is)) ∙ ap length so_far ∙ canonical-length (label_bytes vs) in
    omega (
      arith,
      whole,
      wire_len-valid (label_bytes vs) valid,
      length-append form (length (lower_label v.items) ∷ lower_label v.items ++ rest),
      length-append (lower_label v.items) rest,
      length-map v.items to_ascii_lowercase,
      some_wire (lower_labels (label_bytes (drop (i + 1) vs))),
    )

-- all labels are there but the root's
pub root_formed : (form : List ℕ) (vs : List (Vec ℕ)) (i : ℕ) → AreFormed form i vs → length vs ≤ i → form ++ 0 ∷ [] ≡ canonical_form (label_bytes vs)
root_formed form vs i so_far h = ap (λ ls. form ++ canonical_form (label_bytes ls)) (sym (drop_all i vs h)) ∙ so_far

pub room_for_root : (form : List ℕ) (vs : List (Vec ℕ)) (i : ℕ) → AreFormed form i vs → label_fault (label_bytes vs) ≡ None → length vs ≤ i → length form < 255
room_for_root form vs i so_far valid h =
    let whole = ap length (root_formed form vs i so_far h) ∙ canonical-length (label_bytes vs) in
    omega (arith, whole, wire_len-valid (label_bytes vs) valid, length-append form (0 ∷ []))
