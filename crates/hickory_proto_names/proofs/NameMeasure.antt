-- What a scan of a text knows of the labels that it does not keep.
use Rattle.std.proofs.Common.{◌≡◌, ℕ, ◌+◌, ◌-◌, ◌<◌, ◌≤◌, ◌==◌, ◌||◌, nat_lt, min, Bool, true, false, List, [], ◌∷◌, ◌++◌, length, map, take, Option, Some, None, Result, Ok, Err, OnOk, IfErr, if◌then◌else◌, sym, refl, ap, ap₂, ◌∙◌, arith, subst}
use Rattle.std.proofs.Math.Bool.{or-false}
use Rattle.std.proofs.Math.Seq.{take-append_seam}
use Rattle.std.proofs.lemmas.Bool.{lt-ltb, le-ltb, ne_eqb}
use Rattle.std.proofs.lemmas.Bool.Decides.{nat_tests}
use Rattle.std.proofs.lemmas.List.{length-append, length-map, map-append}
use Rattle.std.proofs.lemmas.List.Folds.{list_any-append}
use Rattle.std.proofs.lemmas.List.Sums.{sum_by-append, sum_by-cons}
use Rattle.std.specs.Ordering.{nat_cmp, ord_min}
use Rattle.hickory_proto_names.specs.declared.name_error.NameError.{NameError}
use Rattle.hickory_proto_names.specs.declared.name_error.NameError.TheVariants.{EmptyLabel, LabelTooLong, NameTooLong}
use Rattle.hickory_proto_names.specs.declared.name_text.Measure.{Measure}
use Rattle.hickory_proto_names.specs.Name.{wire_len, is_empty_label, is_long_label, label_fault}
use Rattle.hickory_proto_names.specs.NameText.{Written, IsCutInto, HasFault, piece_bytes, written_byte, itself, pieces_name, marked_name, is_empty}
use Rattle.hickory_proto_names.specs.NameSteps.{ends_empty-last}
use Rattle.hickory_proto_names.proofs.NameRuns.{cut-run, length-run}
use Rattle.hickory_proto_names.specs.NameTextParts.{BeginsPlain, IsMeasure, IsNamed, are_plain, no_labels, with_label, with_last, measure_fault}

pub none_measured : IsMeasure no_labels []
none_measured = record { wire_length = refl; has_empty = refl; has_long = refl }

-- one more label
pub more_measured : (m : Measure) (ls : List (List ℕ)) (l : List ℕ) (n : ℕ) → IsMeasure m ls → n ≡ min 256 (length l) → IsMeasure (with_label m n) (ls ++ l ∷ [])
more_measured m ls l n is e =
    record {
      wire_length = longer;
      has_empty = ap₂ (λ a b. a || b) is.has_empty (same_empty ∙ sym (or-false (is_empty_label l))) ∙ sym (list_any-append is_empty_label ls (l ∷ []));
      has_long = ap₂ (λ a b. a || b) is.has_long (same_long ∙ sym (or-false (is_long_label l))) ∙ sym (list_any-append is_long_label ls (l ∷ []));
    }
  where
    longer : min 256 (m.wire_length + n + 1) ≡ min 256 (wire_len (ls ++ l ∷ []))
    longer = omega (arith, is.wire_length, sum_by-append (λ k. length k + 1) ls (l ∷ []), sum_by-cons (λ k. length k + 1) l [])

    same_empty : (n == 0) ≡ (length l == 0)
    same_empty = grind (arith, nat_tests)

    same_long : nat_lt 63 n ≡ nat_lt 63 (length l)
    same_long = grind (arith, nat_tests)

abbrev first_fault : Bool → Bool → Bool → Option NameError
first_fault empty long over = if empty then Some EmptyLabel else (if long then Some LabelTooLong else (if over then Some NameTooLong else None))

-- the first fault of the labels
pub fault_measured : (m : Measure) (ls : List (List ℕ)) → IsMeasure m ls → measure_fault m ≡ label_fault ls
fault_measured m ls is = λ i. first_fault (is.has_empty i) (is.has_long i) (over i)
  where
    over : nat_lt 255 m.wire_length ≡ nat_lt 255 (wire_len ls)
    over = let e = is.wire_length in grind (arith, nat_tests)

-- labels that take more than two bytes are more than one empty one
two_bytes : (m : Measure) (ls : List (List ℕ)) → IsMeasure m ls → 2 < wire_len ls → IsMeasure (if nat_lt 2 m.wire_length then m else no_labels) ls
two_bytes m ls is more =
    let long : nat_lt 2 m.wire_length ≡ true = lt-ltb 2 m.wire_length (omega (arith, is.wire_length)) in
    let P : Bool → Type 0 = λ t. IsMeasure (if t then m else no_labels) ls in
    subst P (sym long) is

few_bytes : (m : Measure) (ls : List (List ℕ)) → IsMeasure m ls → wire_len ls ≤ 2 → IsMeasure (if nat_lt 2 m.wire_length then m else no_labels) []
few_bytes m ls is few =
    let short : nat_lt 2 m.wire_length ≡ false = le-ltb 2 m.wire_length (omega (arith, is.wire_length)) in
    let P : Bool → Type 0 = λ t. IsMeasure (if t then m else no_labels) [] in
    subst P (sym short) none_measured

two_labels : (x y : List ℕ) (ls : List (List ℕ)) → 2 < wire_len (x ∷ y ∷ ls)
two_labels x y ls = omega (arith, sum_by-cons (λ k. length k + 1) x (y ∷ ls), sum_by-cons (λ k. length k + 1) y ls)

-- behind a dot at the end
marked_measured : (m : Measure) (ls : List (List ℕ)) → IsMeasure m ls → IsMeasure (if nat_lt 2 m.wire_length then m else no_labels) (marked_name ls).labels
marked_measured m [] is = few_bytes m [] is (omega arith)
marked_measured m ([] ∷ []) is = few_bytes m ([] ∷ []) is (omega arith)
marked_measured m ((b ∷ bs) ∷ []) is = two_bytes m ((b ∷ bs) ∷ []) is (omega (arith, sum_by-cons (λ k. length k + 1) (b ∷ bs) []))
marked_measured m ([] ∷ y ∷ ls) is = two_bytes m ([] ∷ y ∷ ls) is (two_labels [] y ls)
marked_measured m ((b ∷ bs) ∷ y ∷ ls) is = two_bytes m ((b ∷ bs) ∷ y ∷ ls) is (two_labels (b ∷ bs) y ls)

all_but_last : (ls : List (List ℕ)) (l : List ℕ) → take (length (ls ++ l ∷ []) - 1) (ls ++ l ∷ []) ≡ ls
all_but_last ls l = ap (λ n. take n (ls ++ l ∷ [])) count ∙ take-append_seam ls (l ∷ [])
  where
    count : length (ls ++ l ∷ []) - 1 ≡ length ls
    count = omega (arith, length-append ls (l ∷ []))

-- the labels of the name of all pieces
named_measured : (m : Measure) (ls : List (List ℕ)) (l : List ℕ) (n : ℕ) → IsMeasure m ls → n ≡ min 256 (length l) → IsMeasure (with_last m n) (pieces_name (ls ++ l ∷ [])).labels
named_measured m ls [] n is e =
    let none : n ≡ 0 = e in
    let P : ℕ → Type 0 = λ k. IsMeasure (with_last m k) (pieces_name (ls ++ [] ∷ [])).labels in
    let Q : Bool → Type 0 = λ t. IsMeasure (if nat_lt 2 m.wire_length then m else no_labels) (if t then marked_name (take (length (ls ++ [] ∷ []) - 1) (ls ++ [] ∷ [])) else record { labels = ls ++ [] ∷ []; fqdn = false }).labels in
    let R : List (List ℕ) → Type 0 = λ k. IsMeasure (if nat_lt 2 m.wire_length then m else no_labels) (marked_name k).labels in
    subst P (sym none) (subst Q (sym (ends_empty-last ls [])) (subst R (sym (all_but_last ls [])) (marked_measured m ls is)))
named_measured m ls (b ∷ bs) n is e =
    let some : nat_lt 0 n ≡ true = lt-ltb 0 n (omega arith) in
    let P : Bool → Type 0 = λ t. IsMeasure (if t then with_label m n else (if nat_lt 2 m.wire_length then m else no_labels)) (pieces_name (ls ++ (b ∷ bs) ∷ [])).labels in
    let Q : Bool → Type 0 = λ t. IsMeasure (with_label m n) (if t then marked_name (take (length (ls ++ (b ∷ bs) ∷ []) - 1) (ls ++ (b ∷ bs) ∷ [])) else record { labels = ls ++ (b ∷ bs) ∷ []; fqdn = false }).labels in
    subst P (sym some) (subst Q (sym (ends_empty-last ls (b ∷ bs))) (more_measured m ls (b ∷ bs) n is e))

-- the text is scanned up to a rest
abbrev pub IsScanned : List ℕ → List ℕ → Measure → ℕ → Type 0
IsScanned text rest m n =
    (before : List (List Written)) × (last : List Written)
    × IsCutInto text (before ++ last ∷ []) rest
    × IsMeasure m (map piece_bytes before)
    × (n ≡ min 256 (length last))

last_measured : (m : Measure) (n : ℕ) (before : List (List Written)) (last : List Written) → IsMeasure m (map piece_bytes before) → n ≡ min 256 (length last) → measure_fault (with_last m n) ≡ label_fault (pieces_name (map piece_bytes (before ++ last ∷ []))).labels
last_measured m n before last is len =
    let long : n ≡ min 256 (length (piece_bytes last)) = len ∙ ap (min 256) (sym (length-map last written_byte)) in
    fault_measured (with_last m n) _ (named_measured m (map piece_bytes before) (piece_bytes last) n is long)
    ∙ ap (λ ls. label_fault (pieces_name ls).labels) (sym (map-append piece_bytes before (last ∷ [])))

-- then the text spells a name where its labels have no fault, and has their fault otherwise
pub named_at_end : {T : Type 0} (text : List ℕ) (m : Measure) (n : ℕ) (result : Result T NameError) → IsScanned text [] m n → OnOk result (measure_fault (with_last m n) ≡ None) → OnOk result (IsNamed text)
named_at_end text m n (Ok x) (before, last, cut, is, len) found =
    (pieces_name (map piece_bytes (before ++ last ∷ [])), record { pieces = before ++ last ∷ []; whole = cut; named = refl; valid = sym (last_measured m n before last is len) ∙ found })
named_at_end text m n (Err e) end found = found

pub fault_at_end : {T : Type 0} (text : List ℕ) (m : Measure) (n : ℕ) (result : Result T NameError) → IsScanned text [] m n → IfErr result (λ e. measure_fault (with_last m n) ≡ Some e) → IfErr result (λ e. HasFault text e)
fault_at_end text m n (Ok x) end found = found
fault_at_end text m n (Err e) (before, last, cut, is, len) found =
    record { pieces = before ++ last ∷ []; rest = []; before = cut; found = sym (last_measured m n before last is len) ∙ found }

-- whether the last piece is empty, by how long it is
pub empty_at : (n : ℕ) (last : List Written) → n ≡ min 256 (length last) → (n == 0) ≡ is_empty last
empty_at n [] e = ap (λ k. k == 0) e
empty_at n (w ∷ ws) e = ne_eqb n 0 (λ h. absurd (omega arith))

-- one more piece
pub pieces_measured : (m : Measure) (before : List (List Written)) (last : List Written) (n : ℕ) → IsMeasure m (map piece_bytes before) → n ≡ min 256 (length last) → IsMeasure (with_label m n) (map piece_bytes (before ++ last ∷ []))
pieces_measured m before last n is len =
    let long : n ≡ min 256 (length (piece_bytes last)) = len ∙ ap (min 256) (sym (length-map last written_byte)) in
    subst (IsMeasure (with_label m n)) (sym (map-append piece_bytes before (last ∷ []))) (more_measured m (map piece_bytes before) (piece_bytes last) n is long)

nat_min : (k : ℕ) → ord_min nat_cmp 256 k ≡ min 256 k
nat_min k = grind (arith, nat_tests)

-- one more byte
pub one_longer : (n : ℕ) (last : List Written) (w : Written) → n ≡ min 256 (length last) → ord_min nat_cmp 256 (n + 1) ≡ min 256 (length (last ++ w ∷ []))
one_longer n last w e = nat_min (n + 1) ∙ omega (arith, length-append last (w ∷ []))

-- a run behind what is scanned
pub scanned-run : {text rest after : List ℕ} (m : Measure) (n k : ℕ) (run : List ℕ) → IsScanned text rest m n → BeginsPlain (n == 0) rest run after → k ≡ ord_min nat_cmp 256 (n + length run) → IsScanned text after m k
scanned-run m n k run (before, last, cut, is, len) begins longer =
    (before, last ++ map itself run, cut-run before last run cut begins.0 (ap (λ e. are_plain e run) (sym (empty_at n last len)) ∙ begins.1), is, longer ∙ nat_min (n + length run) ∙ both)
  where
    both : min 256 (n + length run) ≡ min 256 (length (last ++ map itself run))
    both = omega (arith, len, length-run last run)
