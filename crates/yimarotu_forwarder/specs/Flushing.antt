-- What is kept of a name, or of all names at and below it, is let go.
use Rattle.std.specs.Prelude.{ℕ, Bool, false, not, ◌&&◌, ◌==◌, List, [], ◌∷◌, length, take, drop, filter, nat_eq, Option, None, Some, if◌then◌else◌}
use Rattle.std.specs.Cmp.Lexicographic.{pointwise}
use Rattle.std.specs.List.{list_any}
use Rattle.std.specs.Option.{option_map_or}
use Rattle.std.specs.Str.{bytes_eq}
use Rattle.hickory_proto_core.specs.Name.{NameValue, lower_label}
use Rattle.domain_table.specs.Names.{suffixes}
use Rattle.second_chance_cache.specs.SecondChance.{CacheValue}
use Rattle.stored_replies.specs.Key.{name_part}
use Rattle.yimarotu_forwarder.specs.Forwarders.{ForwarderValue}

-- the name that is asked under a key: the key is one octet, and the question, with its name in lower case
abbrev pub key_name : List ℕ → List ℕ
key_name key = name_part (drop 1 key)

-- What stands behind a label, where octets begin with its length and its letters, in whatever case (RFC 1035, section
-- 3.1; RFC 4343, section 3).
abbrev pub behind_label : List ℕ → List ℕ → Option (List ℕ)
behind_label label [] = None
behind_label label (first ∷ rest) =
    if (first == length label) && pointwise nat_eq (lower_label (take (length label) rest)) (lower_label label)
    then Some (drop (length label) rest) else None

-- octets are the name of these labels: one after another, and then the root
abbrev pub is_name : List (List ℕ) → List ℕ → Bool
is_name [] octets = bytes_eq octets (0 ∷ [])
is_name (label ∷ labels) octets = option_map_or (is_name labels) (behind_label label octets) false

-- they end with this name, behind whole labels
abbrev pub is_at_or_below : List (List ℕ) → List ℕ → Bool
is_at_or_below labels octets = list_any (is_name labels) (suffixes octets)

-- the key asks for this name, or for one at or below it
abbrev pub is_flushed : List (List ℕ) → Bool → List ℕ → Bool
is_flushed labels below key =
    if below then is_at_or_below labels (key_name key) else is_name labels (key_name key)

abbrev pub entries_flushed : {V : Type 0} → List (List ℕ) → Bool → CacheValue V → CacheValue V
entries_flushed labels below c =
    record c { entries = filter (λ e. not (is_flushed labels below e.key)) c.entries }

-- the replies and the failures of this name, or of all names at and below it, are let go
abbrev pub flushed : NameValue → Bool → ForwarderValue → ForwarderValue
flushed domain below s = record s {
  cache = entries_flushed domain.labels below s.cache;
  failures = entries_flushed domain.labels below s.failures;
}
