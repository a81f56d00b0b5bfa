-- Names as they stand in the data of a record, not compressed: a length before each label, and the root's length of 0
-- at the end (RFC 1035, section 3.1; RFC 3597, section 4).
use Rattle.std.specs.Prelude.{ℕ, zero, suc, true, ◌||◌, ◌==◌, nat_lt, length, take, drop, List, [], ◌∷◌, ◌++◌, Option, None, Some, if◌then◌else◌}
use Rattle.hickory_proto_core.specs.Name.{NameValue, label_fault}
use Rattle.hickory_proto_core.specs.names.name_error.NameError.{NameError}

-- a name, and the bytes behind it
pub record WireNameValue : Type 0 where
  pub name : NameValue
  pub rest : List ℕ

abbrev pub named_unless : Option NameError → List (List ℕ) → List ℕ → Option WireNameValue
named_unless (Some fault) labels rest = None
named_unless None labels rest = Some (record { name = record { labels = labels; fqdn = true }; rest = rest })

-- the name of these labels, where they are one
abbrev pub named : List (List ℕ) → List ℕ → Option WireNameValue
named labels rest = named_unless (label_fault labels) labels rest

-- the name of these labels and those at the front of the bytes, of which there may be so many with the root's
unfoldable pub read_behind : List (List ℕ) → ℕ → List ℕ → Option WireNameValue
read_behind labels zero bytes = None
read_behind labels (suc more) [] = None
read_behind labels (suc more) (count ∷ rest) =
    if count == 0 then named labels rest else (
    if nat_lt 63 count || nat_lt (length rest) count then None else (
    read_behind (labels ++ take count rest ∷ []) more (drop count rest)))

-- the name at the front of these bytes: 127 labels at the most (RFC 1035, section 2.3.4)
abbrev pub read_name : List ℕ → Option WireNameValue
read_name bytes = read_behind [] 128 bytes
