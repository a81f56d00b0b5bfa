-- Names: a list of labels and the mark of a fully qualified name (RFC 1035, sections 2.3.1, 2.3.3 and 2.3.4).
use Rattle.std.specs.Prelude.{ℕ, ◌+◌, ◌-◌, Bool, true, List, [], ◌∷◌, ◌++◌, drop, codes, length, map, reverse, sum_by, nat_lt, nat_eq, ◌==◌, Option, None, Some, if◌then◌else◌}
use Rattle.std.specs.Bool.{beq}
use Rattle.std.specs.Char.{to_ascii_lowercase}
use Rattle.std.specs.List.{list_any, list_all, ends_with}
use Rattle.std.specs.Cmp.Lexicographic.{pointwise, slice_cmp}
use Rattle.std.specs.Ordering.{on, then_cmp, eq_of_both, nat_cmp, bool_cmp}
use Rattle.std.specs.declared.cmp.Ordering.{Ordering}
use Rattle.std.specs.Hash as fed
use Rattle.std.specs.Global.{Vec}
use Rattle.hickory_proto_names.specs.declared.name_error.NameError.{NameError}
use Rattle.hickory_proto_names.specs.declared.name_error.NameError.TheVariants.{EmptyLabel, LabelTooLong, NameTooLong, OutOfMemory}

-- what a name is: its labels in order, and whether it is fully qualified
pub record NameValue : Type 0 where
  pub labels : List (List ℕ)
  pub fqdn : Bool

-- the bytes of each label, as the vectors that a caller hands in hold them
abbrev pub label_bytes : List (Vec ℕ) → List (List ℕ)
label_bytes vs = map (λ v. v.items) vs

-- a length byte before each label, and the root's
abbrev pub wire_len : List (List ℕ) → ℕ
wire_len labels = sum_by (λ l. length l + 1) labels + 1

abbrev pub is_empty_label : List ℕ → Bool
is_empty_label l = length l == 0

abbrev pub is_long_label : List ℕ → Bool
is_long_label l = nat_lt 63 (length l)

-- the first fault of these labels as a name, if there is one
abbrev pub label_fault : List (List ℕ) → Option NameError
label_fault labels =
    if list_any is_empty_label labels then Some EmptyLabel
    else (if list_any is_long_label labels then Some LabelTooLong
    else (if nat_lt 255 (wire_len labels) then Some NameTooLong else None))

-- every element of a label is a byte
abbrev pub is_bytes : List ℕ → Bool
is_bytes l = list_all (λ b. nat_lt b 256) l

abbrev pub are_bytes : List (List ℕ) → Bool
are_bytes labels = list_all is_bytes labels

-- the label in lower case: two labels are equal where these are
abbrev pub lower_label : List ℕ → List ℕ
lower_label l = map to_ascii_lowercase l

abbrev pub lower_labels : List (List ℕ) → List (List ℕ)
lower_labels ls = map lower_label ls

-- the labels are equal without case, and the marks too
abbrev pub labels_eq : List (List ℕ) → List (List ℕ) → Bool
labels_eq = on lower_labels (pointwise (pointwise nat_eq))

abbrev pub name_eq : NameValue → NameValue → Bool
name_eq = eq_of_both (on (λ n. n.fqdn) beq) (on (λ n. lower_labels n.labels) (pointwise (pointwise nat_eq)))

-- relative names first, then the labels from the last to the first, in lower case
abbrev pub labels_cmp : List (List ℕ) → List (List ℕ) → Ordering
labels_cmp = on (λ ls. reverse (lower_labels ls)) (slice_cmp (slice_cmp nat_cmp))

abbrev pub name_cmp : NameValue → NameValue → Ordering
name_cmp =
    then_cmp (on (λ n. n.fqdn) bool_cmp)
    (on (λ n. reverse (lower_labels n.labels)) (slice_cmp (slice_cmp nat_cmp)))

-- labels on the wire: each with its length before it, and the root's length of 0 at the end (RFC 1035, section 3.1)
abbrev pub wire_form : List (List ℕ) → List ℕ
wire_form [] = 0 ∷ []
wire_form (l ∷ ls) = length l ∷ l ++ wire_form ls

-- their canonical form: the one on the wire, in lower case (RFC 4034, section 6.2)
abbrev pub canonical_form : List (List ℕ) → List ℕ
canonical_form labels = wire_form (lower_labels labels)

-- what a name feeds a hasher: its mark, and then its canonical form in one piece
abbrev pub name_hash_input : NameValue → List (List ℕ)
name_hash_input n = fed.bool n.fqdn ++ canonical_form n.labels ∷ []

-- the zone's labels end the name's; the marks aren't looked at
abbrev pub is_zone_of : NameValue → NameValue → Bool
is_zone_of zone name = ends_with (pointwise nat_eq) (lower_labels name.labels) (lower_labels zone.labels)

-- how many labels there are, a first one that is exactly `*` aside
abbrev pub num_labels_of : List (List ℕ) → ℕ
num_labels_of [] = 0
num_labels_of (l ∷ ls) = if pointwise nat_eq l (codes "*") then length ls else length ls + 1

-- the labels of the name and then the domain's, fully qualified
abbrev pub appended_name : NameValue → NameValue → NameValue
appended_name name domain = record { labels = name.labels ++ domain.labels; fqdn = true }

-- why it cannot be made: it is too long, or else memory is out
abbrev pub append_fault : NameValue → NameValue → NameError
append_fault name domain =
    if nat_lt 255 (wire_len (name.labels ++ domain.labels)) then NameTooLong else OutOfMemory

-- the last n labels, fully qualified, or the name itself where it has fewer
abbrev pub trimmed_name : ℕ → NameValue → NameValue
trimmed_name n name =
    if nat_lt (length name.labels) n then name
    else record { labels = drop (length name.labels - n) name.labels; fqdn = true }

-- all labels but the first, fully qualified, or the name itself where it has none
abbrev pub base_of : NameValue → NameValue
base_of name = if length name.labels == 0 then name else trimmed_name (length name.labels - 1) name

-- the name `localhost.`
abbrev pub localhost : NameValue
localhost = record { labels = codes "localhost" ∷ []; fqdn = true }
