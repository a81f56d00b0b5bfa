-- What holds of every table.
use Rattle.std.specs.Prelude.{◌≡◌, ℕ, true, List, ◌∷◌, ◌++◌, drop, Option, None, Some, if◌then◌else◌}
use Rattle.std.specs.List.{AllByRecursion}
use Rattle.std.specs.Str.{bytes_eq}
use Rattle.domain_table.specs.Names.{is_short, lower_name, suffixes}
use Rattle.domain_table.specs.Domains.{entry_of, found, inserted, value_of}

module _ {V : Type 0} where
  -- these have no value
  abbrev pub HaveNone : List (List ℕ × V) → List (List ℕ) → Type 0
  HaveNone es domains = AllByRecursion (λ domain. entry_of es domain ≡ None) domains

  -- the suffix at a place has this value, and no longer suffix has one
  pub record IsLongest (es : List (List ℕ × V)) (name : List ℕ) (place : ℕ) (value : V) : Type 0 where
    pub longer : List (List ℕ)
    pub shorter : List (List ℕ)
    pub suffix : suffixes name ≡ longer ++ drop place name ∷ shorter
    pub value_is : entry_of es (drop place name) ≡ Some value
    pub no_longer : HaveNone es longer

  -- what is found is the longest, and where nothing is found no suffix has a value
  abbrev pub IsTheLongest : List (List ℕ × V) → List ℕ → Option (ℕ × V) → Type 0
  IsTheLongest es name None = is_short name ≡ true → HaveNone es (suffixes name)
  IsTheLongest es name (Some f) = IsLongest es name f.0 f.1

abbrev pub FindsTheLongest : Type 0 → Type 0
FindsTheLongest V = (es : List (List ℕ × V)) (name : List ℕ) → IsTheLongest es name (found name es)

-- A domain that is given a value has it, in whatever letters it is asked for; all others keep their own.
abbrev pub KeepsOneValue : Type 0 → Type 0
KeepsOneValue V =
    (domain other : List ℕ) (value : V) (es : List (List ℕ × V)) → is_short domain ≡ true
    → value_of other (inserted domain value es)
    ≡ (if bytes_eq (lower_name other) (lower_name domain) then Some value else value_of other es)
