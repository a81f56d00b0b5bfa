-- Values by domain, and which of them counts for a name.
use Rattle.std.specs.Prelude.{ℕ, ◌-◌, List, [], ◌∷◌, length, map, Option, None, Some, if◌then◌else◌}
use Rattle.std.specs.Map.{lookup}
use Rattle.std.specs.Option.{option_map, option_map_or}
use Rattle.std.specs.Str.{bytes_eq}
use Rattle.std.specs.declared.vec.Vec.{Vec}
use Rattle.indexmap.specs.IndexMap.{insert_entry}
use Rattle.domain_table.specs.Names.{is_short, lower_name, suffixes}

module _ {V : Type 0} where
  -- the domains as a map holds them, each with its value
  abbrev pub domains_of : {A : Type 0} → List (Vec ℕ A × V) → List (List ℕ × V)
  domains_of es = map (λ e. (e.0.items, e.1)) es

  -- the value of a domain; those that have one are in lower case
  abbrev pub entry_of : List (List ℕ × V) → List ℕ → Option V
  entry_of es domain = lookup (bytes_eq (lower_name domain)) es

  abbrev pub value_of : List ℕ → List (List ℕ × V) → Option V
  value_of domain es = if is_short domain then entry_of es domain else None

  -- the first of these that has a value, with it
  abbrev pub first_of : List (List ℕ × V) → List (List ℕ) → Option (List ℕ × V)
  first_of es [] = None
  first_of es (domain ∷ domains) =
      option_map_or (λ value. Some (domain, value)) (entry_of es domain) (first_of es domains)

  -- where in a name a suffix begins, with the value of the suffix
  abbrev pub placed : List ℕ → List ℕ × V → ℕ × V
  placed name suffix = (length name - length suffix.0, suffix.1)

  -- what is found for a name: the longest of its suffixes that has a value
  abbrev pub found : List ℕ → List (List ℕ × V) → Option (ℕ × V)
  found name es = if is_short name then option_map (placed name) (first_of es (suffixes name)) else None

  -- a domain that has a value keeps its place, and takes the new one; another goes last
  abbrev pub inserted : List ℕ → V → List (List ℕ × V) → List (List ℕ × V)
  inserted domain value es = if is_short domain then insert_entry bytes_eq es (lower_name domain) value else es
