-- The text of a name (RFC 1035, sections 2.3.1 and 5.1). Texts are ASCII codes: 42 is `*`, 45 is `-`, 46 is
-- `.`, 92 is `\`, 95 is `_`.
use Rattle.std.specs.Prelude.{◌≡◌, ℕ, ◌+◌, ◌*◌, ◌/◌, ◌%◌, ◌-◌, ◌<◌, Bool, true, false, IsTrue, not, ◌&&◌, ◌||◌, ◌==◌, nat_lt, List, [], ◌∷◌, ◌++◌, length, map, take, Option, None, Some, if◌then◌else◌}
use Rattle.std.specs.Char.{is_ascii, is_ascii_digit, is_ascii_alphanumeric}
use Rattle.std.specs.List.{list_all, flat_map, join_with_byte}
use Rattle.hickory_proto_names.specs.declared.name_error.NameError.{NameError}
use Rattle.hickory_proto_names.specs.declared.name_error.NameError.TheVariants.{BadCharacter, BadEscape}
use Rattle.hickory_proto_names.specs.Name.{NameValue, label_fault}

-- how a byte of a label is written: as itself, as `\X`, or as `\DDD`, the byte of three decimal digits
-- (section 5.1)
pub data Written : Type 0 where
  itself : ℕ → Written
  escaped : ℕ → Written
  numbered : ℕ → ℕ → ℕ → Written

-- the byte that it stands for (section 5.1)
abbrev pub written_byte : Written → ℕ
written_byte (itself b) = b
written_byte (escaped b) = b
written_byte (numbered a b c) = 100 * a + 10 * b + c

-- the text that stands for it (section 5.1)
abbrev pub written_text : Written → List ℕ
written_text (itself b) = b ∷ []
written_text (escaped b) = 92 ∷ b ∷ []
written_text (numbered a b c) = 92 ∷ (48 + a) ∷ (48 + b) ∷ (48 + c) ∷ []

-- a byte that stands for itself: a letter, a digit, `_`, a `*` that begins the label, or a `-` that does not
-- (section 2.3.1)
abbrev pub is_plain : Bool → ℕ → Bool
is_plain first b = is_ascii_alphanumeric b || b == 95 || (if first then b == 42 else b == 45)

-- whether a byte may be written so, as the first one of its label or as a later one (section 5.1)
abbrev pub may_stand : Bool → Written → Bool
may_stand first (itself b) = is_plain first b
may_stand first (escaped b) = is_ascii b && not (is_ascii_digit b)
may_stand first (numbered a b c) =
    (nat_lt a 10 && nat_lt b 10 && nat_lt c 10) && nat_lt (100 * a + 10 * b + c) 256

-- what stands between two dots outside escapes: each byte is written so that it may stand in its place
-- (section 5.1)
abbrev pub is_piece : List Written → Bool
is_piece [] = true
is_piece (w ∷ ws) = may_stand true w && list_all (may_stand false) ws

-- the text of a piece
abbrev pub piece_text : List Written → List ℕ
piece_text ws = flat_map written_text ws

-- the label that a piece spells, byte for byte
abbrev pub piece_bytes : List Written → List ℕ
piece_bytes ws = map written_byte ws

-- the text is these pieces with a dot between each two, and then the rest (section 5.1)
pub record IsCutInto (text : List ℕ) (pieces : List (List Written)) (rest : List ℕ) : Type 0 where
  pub some : 0 < length pieces
  pub spelled : text ≡ join_with_byte 46 (map piece_text pieces) ++ rest
  pub stand : IsTrue (list_all is_piece pieces)

-- whether a list has no element
abbrev pub is_empty : {A : Type 0} → List A → Bool
is_empty [] = true
is_empty (x ∷ xs) = false

-- whether the last of these lists is empty
abbrev pub ends_empty : {A : Type 0} → List (List A) → Bool
ends_empty [] = false
ends_empty (p ∷ []) = is_empty p
ends_empty (p ∷ q ∷ ps) = ends_empty (q ∷ ps)

-- the name of the pieces before a last empty one, which is the mark: but the text `""` is the relative name
-- without labels, and `"."` the root (section 5.1)
abbrev pub marked_name : List (List ℕ) → NameValue
marked_name [] = record { labels = []; fqdn = false }
marked_name ([] ∷ []) = record { labels = []; fqdn = true }
marked_name ls = record { labels = ls; fqdn = true }

-- the name of a text of these pieces: they are its labels, and a last empty piece is the mark (section 5.1)
abbrev pub pieces_name : List (List ℕ) → NameValue
pieces_name ps =
    if ends_empty ps then marked_name (take (length ps - 1) ps) else record { labels = ps; fqdn = false }

-- the whole text is pieces that give this name, and the name has no fault (sections 2.3.4 and 5.1)
pub record Spells (text : List ℕ) (name : NameValue) : Type 0 where
  pub pieces : List (List Written)
  pub whole : IsCutInto text pieces []
  pub named : pieces_name (map piece_bytes pieces) ≡ name
  pub valid : label_fault name.labels ≡ None

-- whether the text begins with three digits that make a byte (section 5.1)
abbrev pub is_number : List ℕ → Bool
is_number (a ∷ b ∷ c ∷ rest) =
    (is_ascii_digit a && is_ascii_digit b && is_ascii_digit c)
    && nat_lt (100 * (a - 48) + 10 * (b - 48) + (c - 48)) 256
is_number _ = false

-- what is wrong behind a `\`: the text ends, a digit begins no three digits of a byte, or a character is past
-- ASCII (section 5.1)
abbrev pub escape_fault : List ℕ → Option NameError
escape_fault [] = Some BadEscape
escape_fault (b ∷ rest) =
    if is_ascii_digit b then (if is_number (b ∷ rest) then None else Some BadEscape)
    else (if is_ascii b then None else Some BadCharacter)

-- what is wrong with the character that the text begins with, which would be the first of its label or a
-- later one (section 5.1)
abbrev pub front_fault : Bool → List ℕ → Option NameError
front_fault first [] = None
front_fault first (b ∷ rest) =
    if b == 92 then escape_fault rest else (if b == 46 || is_plain first b then None else Some BadCharacter)

-- the fault behind these pieces: of the character that the rest begins with, or where there is no rest of the
-- labels
abbrev pub text_fault : List (List Written) → List ℕ → Option NameError
text_fault pieces [] = label_fault (pieces_name (map piece_bytes pieces)).labels
text_fault pieces (b ∷ rest) = front_fault (ends_empty pieces) (b ∷ rest)

-- the fault that comes first in the text: all before it is pieces in order
pub record HasFault (text : List ℕ) (fault : NameError) : Type 0 where
  pub pieces : List (List Written)
  pub rest : List ℕ
  pub before : IsCutInto text pieces rest
  pub found : text_fault pieces rest ≡ Some fault

-- a text spells one name at most, or has one fault that comes first, and never both
pub record IsUnambiguous (text : List ℕ) : Type 0 where
  pub one_name : (m n : NameValue) → Spells text m → Spells text n → m ≡ n
  pub one_fault : (d e : NameError) → HasFault text d → HasFault text e → d ≡ e
  pub not_both : (n : NameValue) (e : NameError) → Spells text n → HasFault text e → ⊥

-- how a byte is printed: one that stands for itself in its place as itself, every other one as `\DDD`
-- (section 5.1)
abbrev pub printed : Bool → ℕ → Written
printed first b = if is_plain first b then itself b else numbered (b / 100) (b / 10 % 10) (b % 10)

-- a label as it is printed
abbrev pub printed_label : List ℕ → List Written
printed_label [] = []
printed_label (b ∷ bs) = printed true b ∷ map (printed false) bs

-- labels as they are printed, with a dot between each two
abbrev pub labels_text : List (List ℕ) → List ℕ
labels_text labels = join_with_byte 46 (map (λ l. piece_text (printed_label l)) labels)

-- the one text that a name is printed as: its labels, and a dot at the end for the mark (section 5.1)
abbrev pub name_text : NameValue → List ℕ
name_text n = labels_text n.labels ++ (if n.fqdn then 46 ∷ [] else [])
