-- What the steps of reading a name's text find.
use Rattle.std.specs.Prelude.{◌≡◌, ℕ, ◌+◌, ◌==◌, ◌||◌, ◌&&◌, min, nat_lt, Bool, true, false, IsTrue, List, [], ◌∷◌, ◌++◌, map, Option, Some, None, if◌then◌else◌}
use Rattle.std.specs.List.{list_all, list_any}
use Rattle.hickory_proto_names.specs.declared.name_error.NameError.{NameError}
use Rattle.hickory_proto_names.specs.declared.name_error.NameError.TheVariants.{EmptyLabel, LabelTooLong, NameTooLong}
use Rattle.hickory_proto_names.specs.declared.name_text.Measure.{Measure}
use Rattle.hickory_proto_names.specs.Name.{NameValue, wire_len, is_empty_label, is_long_label}
use Rattle.hickory_proto_names.specs.declared.name_text.Character.{Character}
use Rattle.hickory_proto_names.specs.declared.name_text.Character.TheVariants.{Dot, Byte}
use Rattle.hickory_proto_names.specs.NameText.{Written, written_text, written_byte, is_plain, may_stand, IsCutInto, Spells, piece_bytes}

-- the whole text is pieces of these bytes
abbrev pub ArePieces : List ℕ → List (List ℕ) → Type 0
ArePieces text labels =
    (pieces : List (List Written)) × IsCutInto text pieces [] × (labels ≡ map piece_bytes pieces)

-- the text begins with this character in its place, and then the rest
abbrev pub Begins : Bool → List ℕ → Character → List ℕ → Type 0
Begins first text Dot rest = text ≡ 46 ∷ rest
Begins first text (Byte b) rest =
    (w : Written) × (text ≡ written_text w ++ rest) × IsTrue (may_stand first w) × (written_byte w ≡ b)

-- whether these bytes stand for themselves in their places, the first one as the first of its label or as a
-- later one
abbrev pub are_plain : Bool → List ℕ → Bool
are_plain first [] = true
are_plain first (b ∷ bs) = is_plain first b && list_all (is_plain false) bs

-- the text begins with these bytes in their places, and then the rest
abbrev pub BeginsPlain : Bool → List ℕ → List ℕ → List ℕ → Type 0
BeginsPlain first text run rest = (text ≡ run ++ rest) × IsTrue (are_plain first run)

-- behind a `\` the text has what stands for this byte at any place, and then the rest
abbrev pub IsEscape : List ℕ → ℕ → List ℕ → Type 0
IsEscape text b rest =
    (w : Written) × (92 ∷ text ≡ written_text w ++ rest) × ((first : Bool) → IsTrue (may_stand first w))
    × (written_byte w ≡ b)

-- the text spells a name
abbrev pub IsNamed : List ℕ → Type 0
IsNamed text = (name : NameValue) × Spells text name

-- what is known of the labels
pub record IsMeasure (m : Measure) (labels : List (List ℕ)) : Type 0 where
  pub wire_length : m.wire_length ≡ min 256 (wire_len labels)
  pub has_empty : m.has_empty ≡ list_any is_empty_label labels
  pub has_long : m.has_long ≡ list_any is_long_label labels

abbrev pub no_labels : Measure
no_labels = record { wire_length = 1; has_empty = false; has_long = false }

-- one more label, of this length
abbrev pub with_label : Measure → ℕ → Measure
with_label m n =
    record {
      wire_length = min 256 (m.wire_length + n + 1);
      has_empty = m.has_empty || (n == 0);
      has_long = m.has_long || nat_lt 63 n;
    }

-- the last piece, of this length: an empty one is the mark, and an only label before it that is empty is none
abbrev pub with_last : Measure → ℕ → Measure
with_last m n = if nat_lt 0 n then with_label m n else (if nat_lt 2 m.wire_length then m else no_labels)

-- the first fault of the labels
abbrev pub measure_fault : Measure → Option NameError
measure_fault m =
    if m.has_empty then Some EmptyLabel
    else (if m.has_long then Some LabelTooLong
    else (if nat_lt 255 m.wire_length then Some NameTooLong else None))
