-- Labels of a name are short.
use Rattle.std.proofs.Common.{◌≡◌, ◌<◌, ℕ, zero, suc, false, ◌||◌, cond, nat_lt, get_or, length, List, [], ◌∷◌, None, Some, inl, inr, ap, sym, ◌∙◌, arith}
use Rattle.std.specs.List.{list_any}
use Rattle.std.proofs.lemmas.Bool.{cases_Bool, cond-true, cond-false}
use Rattle.std.proofs.lemmas.Bool.Decides.{nat_tests}
use Rattle.std.specs.Global.{Vec}
use Rattle.hickory_proto_core.specs.Name.{is_empty_label, is_long_label, label_bytes, label_fault, wire_len}
use Rattle.hickory_proto_core.specs.names.name_error.NameError.TheVariants.{EmptyLabel, LabelTooLong, NameTooLong}

none_long : (labels : List (List ℕ)) → label_fault labels ≡ None → list_any is_long_label labels ≡ false
none_long labels h = elim (cases_Bool (list_any is_long_label labels)) [
  | inl long ↦ elim (cases_Bool (list_any is_empty_label labels)) [
    | inl empty ↦ absurd (let e = cond-true (list_any is_empty_label labels) (Some EmptyLabel)
        (cond (list_any is_long_label labels) (Some LabelTooLong) (cond (nat_lt 255 (wire_len labels)) (Some NameTooLong) None)) empty in cc)
    | inr full ↦ absurd (let e = cond-false (list_any is_empty_label labels) (Some EmptyLabel)
        (cond (list_any is_long_label labels) (Some LabelTooLong) (cond (nat_lt 255 (wire_len labels)) (Some NameTooLong) None)) full in
        let f = cond-true (list_any is_long_label labels) (Some LabelTooLong) (cond (nat_lt 255 (wire_len labels)) (Some NameTooLong) None) long in cc)
  ]
  | inr short ↦ short
]

short_item : (vs : List (Vec ℕ)) (i : ℕ) (v : Vec ℕ) → list_any is_long_label (label_bytes vs) ≡ false → i < length vs
    → v ≡ get_or vs i v → length v.items < 256
short_item [] i v short below is = absurd (omega arith)
short_item (w ∷ vs) zero v short below is = elim (cases_Bool (nat_lt 63 (length w.items))) [
  | inl long ↦ absurd (let e = ap (λ b. b || list_any is_long_label (label_bytes vs)) long in cc)
  | inr fits ↦ (let e = ap (λ x. length x.items) is in grind (arith, nat_tests))
]
short_item (w ∷ vs) (suc i) v short below is = elim (cases_Bool (nat_lt 63 (length w.items))) [
  | inl long ↦ absurd (let e = ap (λ b. b || list_any is_long_label (label_bytes vs)) long in cc)
  | inr fits ↦ short_item vs i v (ap (λ b. b || list_any is_long_label (label_bytes vs)) (sym fits) ∙ short) (omega arith) is
]

pub short_label : (vs : List (Vec ℕ)) (i : ℕ) (v : Vec ℕ) → label_fault (label_bytes vs) ≡ None → i < length vs
    → v ≡ get_or vs i v → length v.items < 256
short_label vs i v valid below is = short_item vs i v (none_long (label_bytes vs) valid) below is
