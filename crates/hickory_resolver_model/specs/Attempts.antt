-- The names that are attempted for a name: itself, and itself below the domain and the search domains
-- (RFC 1535, section 6; RFC 6761, section 6.3; RFC 7686, section 2).
use Rattle.std.specs.Prelude.{ℕ, Bool, false, ◌&&◌, ◌||◌, ◌==◌, nat_lt, nat_eq, List, [], ◌∷◌, ◌++◌, length, reverse, codes, Option, Some, None, if◌then◌else◌}
use Rattle.std.specs.List.{list_any, filter_map}
use Rattle.std.specs.Option.{option_to_list}
use Rattle.std.specs.Cmp.Lexicographic.{pointwise}
use Rattle.hickory_proto_core.specs.Name.{NameValue, name_eq, is_zone_of, num_labels_of, appended_name, wire_len, lower_label, localhost}
use Rattle.hickory_resolver_model.specs.Hosts.{as_fqdn}

-- how names are attempted: a name of more labels than `ndots` is attempted as it is first; the domain; and the
-- search list
pub record Search : Type 0 where
  pub ndots : ℕ
  pub domain : Option NameValue
  pub search : List NameValue

-- a name under `onion` whose label there has 56 bytes: the address of an onion service
abbrev pub is_onion_address : List (List ℕ) → Bool
is_onion_address (top ∷ service ∷ rest) =
    pointwise nat_eq (lower_label top) (codes "onion") && (length service == 56)
is_onion_address _ = false

-- the name below a domain, where it is not too long
abbrev pub joined_name : NameValue → NameValue → Option NameValue
joined_name n d = if nat_lt 255 (wire_len (n.labels ++ d.labels)) then None else Some (appended_name n d)

-- the name below the domain and each search domain, in order
abbrev pub joined_names : Search → NameValue → List NameValue
joined_names s n = filter_map (joined_name n) (option_to_list s.domain ++ s.search)

-- each name at its latest place
abbrev pub keep_last : List NameValue → List NameValue
keep_last [] = []
keep_last (n ∷ ns) = if list_any (name_eq n) ns then keep_last ns else n ∷ keep_last ns

-- a name with labels enough, or under `localhost`, is attempted as it is first
abbrev pub raw_first : Search → NameValue → Bool
raw_first s n = nat_lt s.ndots (num_labels_of n.labels) || is_zone_of localhost n

-- The names in the order in which they are attempted: a fully qualified name and an onion address alone, as
-- they are.
abbrev pub attempts : Search → NameValue → List NameValue
attempts s n =
    if n.fqdn || is_onion_address (reverse n.labels) then n ∷ []
    else (if raw_first s n then as_fqdn n ∷ keep_last (joined_names s n)
    else keep_last (joined_names s n ++ as_fqdn n ∷ []))
