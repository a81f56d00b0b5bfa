-- Pieces of names that stand are read, and labels are those of a name.
use Rattle.std.proofs.Common.{◌≡◌, ℕ, zero, suc, ◌-◌, ◌+◌, ◌*◌, ◌/◌, ◌%◌, ◌≤◌, ◌<◌, Bool, true, false, cond, ltb, eqb, List, [], ◌∷◌, ◌++◌, length, take, get_or, Ok, refl, sym, ap, ◌∙◌, arith}
use Rattle.std.proofs.lemmas.Bool.{le-ltb, lt-ltb, ltb-false, ne_eqb, eqb-false}
use Rattle.std.specs.Prelude.{None, Some, ◌||◌}
use Rattle.std.specs.List.{list_any}
use Rattle.std.proofs.lemmas.List.Sums.{sum_by-cons}
use Rattle.std.specs.Global.{Vec}
use Rattle.std.proofs.lemmas.List.{take_more, flat_map_more, get_or-map, length-map}
use Rattle.hickory_proto_names.specs.Name.{label_bytes, label_fault, is_empty_label, is_long_label, wire_len}
use Rattle.hickory_proto_names.specs.declared.name_error.NameError.TheVariants as names
use Rattle.hickory_proto_wire.specs.declared.wire_name.Piece.TheVariants.{Root, Label, Pointer}
use Rattle.hickory_proto_wire.specs.Names.{piece_at}
use Rattle.hickory_proto_wire.specs.Writing.{Stands, pointer_octets, counted, run_of}
use Rattle.hickory_proto_wire.proofs.Fits.{AreLabels}
use Rattle.hickory_proto_wire.proofs.Stands.{stands_rest, octet_there}

-- ---- pieces that stand

pub root_there : (bs bytes : List ℕ) (at : ℕ) → Stands (0 ∷ bs) bytes at → piece_at bytes at ≡ Ok (Root, at + 1)
unfolding piece_at
root_there bs bytes at s = rw (octet_there 0 bs bytes at s) refl

pub label_there : (len : ℕ) (bs bytes : List ℕ) (at : ℕ) → 0 < len → len < 64 → Stands (len ∷ bs) bytes at
    → piece_at bytes at ≡ Ok (Label len, at + 1)
unfolding piece_at
label_there len bs bytes at some short s =
    rw (octet_there len bs bytes at s, ne_eqb len 0 (λ z. omega (arith, some, z)), lt-ltb len 64 short) refl

pub pointer_there : (target : ℕ) (bytes : List ℕ) (at : ℕ) → target < 16384 → Stands (pointer_octets target) bytes at
    → piece_at bytes at ≡ Ok (Pointer target, at + 1 + 1)
unfolding piece_at
pointer_there target bytes at small s =
    let high : ℕ = target / 256 % 64 + 192 in
    let second = stands_rest high (target % 256 ∷ []) bytes at s in
    let value : (target / 256 % 64 + 192 - 192) * 256 + target % 256 ≡ target = omega (arith, small) in
    rw (
      octet_there high (target % 256 ∷ []) bytes at s,
      ne_eqb high 0 (λ z. omega (arith, z)),
      le-ltb high 64 (omega arith),
      le-ltb high 192 (omega arith),
      octet_there (target % 256) [] bytes (at + 1) second,
    )
    (ap (λ (m : ℕ). Ok (Pointer m, at + 1 + 1)) value)

-- ---- labels of a name

or_parts : (a b : Bool) → (a || b) ≡ false → (a ≡ false) × (b ≡ false)
or_parts true b e = absurd cc
or_parts false b e = (refl, e)

short_enough : (n : ℕ) → ltb 63 n ≡ false → n < 64
short_enough n e = let h = ltb-false 63 n e in omega (arith, h)

some_there : (n : ℕ) → eqb n 0 ≡ false → 0 < n
some_there n e = let h = eqb-false n 0 e in omega arith

pub one_less : (left : ℕ) (l : List ℕ) (ls : List (List ℕ)) → AreLabels left (l ∷ ls)
    → (0 < length l) × (length l < 64) × (length l + 2 ≤ left) × AreLabels (left - (length l + 1)) ls
one_less left l ls a =
    let some = or_parts (is_empty_label l) (list_any is_empty_label ls) a.some in
    let short = or_parts (is_long_label l) (list_any is_long_label ls) a.short in
    let total = sum_by-cons (λ (x : List ℕ). length x + 1) l ls in (
      some_there (length l) some.0,
      short_enough (length l) short.0,
      omega (arith, a.fits, total),
      record { some = some.1; short = short.1; fits = omega (arith, a.fits, total) },
    )

pub are_labels : (labels : List (List ℕ)) → label_fault labels ≡ None → AreLabels 255 labels
are_labels labels e =
    cases (list_any is_empty_label labels) (list_any is_long_label labels) (ltb 255 (wire_len labels)) refl refl refl e
  where
    cases : (a b c : Bool) → list_any is_empty_label labels ≡ a → list_any is_long_label labels ≡ b
        → ltb 255 (wire_len labels) ≡ c
        → cond a (Some names.EmptyLabel) (cond b (Some names.LabelTooLong) (cond c (Some names.NameTooLong) None)) ≡ None
        → AreLabels 255 labels
    cases true b c ea eb ec f = absurd cc
    cases false true c ea eb ec f = absurd cc
    cases false false true ea eb ec f = absurd cc
    cases false false false ea eb ec f = record { some = ea; short = eb; fits = ltb-false 255 (wire_len labels) ec }

-- ---- labels as vectors

pub short_at : (ls : List (Vec ℕ)) (i : ℕ) (v : Vec ℕ) → list_any is_long_label (label_bytes ls) ≡ false
    → i < length ls → v ≡ get_or ls i v → length v.items < 256
short_at [] i v e lt is = absurd (omega (arith, lt))
short_at (l ∷ ls) zero v e lt is =
    let p = or_parts (is_long_label l.items) (list_any is_long_label (label_bytes ls)) e in
    let h = short_enough (length l.items) p.0 in
    let same : length v.items ≡ length l.items = ap (λ (x : Vec ℕ). length x.items) is in
    omega (arith, h, same)
short_at (l ∷ ls) (suc i) v e lt is =
    let p = or_parts (is_long_label l.items) (list_any is_long_label (label_bytes ls)) e in
    short_at ls i v p.1 (omega (arith, lt)) is

-- one label more
pub run_more : (ls : List (Vec ℕ)) (i : ℕ) (v : Vec ℕ) → i < length ls → v ≡ get_or ls i v
    → run_of (take (i + 1) (label_bytes ls)) ≡ run_of (take i (label_bytes ls)) ++ counted v.items
run_more ls i v lt is =
    let inside : i < length (label_bytes ls) = omega (arith, lt, length-map ls (λ (x : Vec ℕ). x.items)) in
    let value : get_or (label_bytes ls) i v.items ≡ v.items =
    get_or-map (λ (x : Vec ℕ). x.items) ls i v v.items lt ∙ ap (λ (x : Vec ℕ). x.items) (sym is) in
    ap run_of (take_more (label_bytes ls) i v.items inside)
    ∙ sym (flat_map_more counted [] (take i (label_bytes ls)) (get_or (label_bytes ls) i v.items))
    ∙ ap (λ (x : List ℕ). run_of (take i (label_bytes ls)) ++ counted x) value
