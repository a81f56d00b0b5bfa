-- Aliases that are made of a DNAME record (RFC 6672).
use Rattle.std.specs.Prelude.{ℕ, ◌-◌, Bool, true, false, ◌&&◌, ◌==◌, length, take, List, ◌++◌, Option, None, Some}
use Rattle.hickory_proto_core.specs.Name.{NameValue, label_fault, name_eq}
use Rattle.hickory_proto_core.specs.names.name_error.NameError.{NameError}
use Rattle.synthesis.specs.WireNames.{WireNameValue, read_name}

-- the labels of a name, of which the last ones are replaced, so many
abbrev pub substituted : NameValue → ℕ → NameValue → List (List ℕ)
substituted name count by = take (length name.labels - count) name.labels ++ by.labels

abbrev pub is_unless : Option NameError → NameValue → List (List ℕ) → Bool
is_unless (Some fault) target labels = false
is_unless None target labels = name_eq target (record { labels = labels; fqdn = true })

-- The target is the name with the owner of the DNAME record, which is so many of its last labels, replaced by what that
-- record names; it is none where that is too long for a name (RFC 6672, section 2.2).
abbrev pub is_made : NameValue → ℕ → NameValue → NameValue → Bool
is_made name count target by =
    is_unless (label_fault (substituted name count by)) target (substituted name count by)

abbrev pub is_made_by : NameValue → ℕ → NameValue → Option WireNameValue → Bool
is_made_by name count target None = false
is_made_by name count target (Some dname) = (length dname.rest == 0) && is_made name count target dname.name

-- a name leads to the target by a DNAME record with these data, whose owner is so many of the name's last labels
abbrev pub is_substitution : NameValue → ℕ → NameValue → List ℕ → Bool
is_substitution name count target bytes = is_made_by name count target (read_name bytes)
