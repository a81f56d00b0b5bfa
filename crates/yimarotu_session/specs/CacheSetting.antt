-- The setting that no script has: how many octets the cache may take.
use Rattle.std.specs.Prelude.{ℕ, ◌^◌, Bool, ◌&&◌, List, [], ◌∷◌, ◌++◌, codes, fold, Option, None, Some, if◌then◌else◌}
use Rattle.std.specs.List.{list_all}
use Rattle.std.specs.Str.Lines.{lines}
use Rattle.hickory_proto_core.specs.Codes.{decimal_below, is_text}
use Rattle.replay_script.specs.Fields.{fields, is_allowed}
use Rattle.replay_script.specs.Script.{ScriptValue}

-- `option cache_octets`
abbrev pub is_key : List ℕ → List ℕ → Bool
is_key word key = is_text (codes "option") word && is_text (codes "cache_octets") key

-- option cache_octets NUMBER
abbrev pub cache_octets_of : List (List ℕ) → Option ℕ
cache_octets_of (word ∷ key ∷ octets ∷ []) = if is_key word key then decimal_below (2 ^ 64) octets else None
cache_octets_of fields = None

-- what a line says of the octets; a line with another byte than those of a script says nothing of them
abbrev pub octets_said : List ℕ → Option ℕ
octets_said line = if list_all is_allowed line then cache_octets_of (fields line) else None

-- what is said of the octets, the last of several, and the settings with those lines left empty
pub record SplitValue : Type 0 where
  pub octets : Option ℕ
  pub lines : List ℕ

abbrev pub nothing_said : SplitValue
nothing_said = record { octets = None; lines = [] }

abbrev pub with_said : SplitValue → List ℕ → Option ℕ → SplitValue
with_said said line None = record said { lines = (said.lines ++ line) ++ codes "\n" }
with_said said line (Some octets) = record { octets = Some octets; lines = said.lines ++ codes "\n" }

abbrev pub with_line : SplitValue → List ℕ → SplitValue
with_line said line = with_said said line (octets_said line)

abbrev pub said_by : List ℕ → SplitValue
said_by settings = fold with_line nothing_said (lines settings)

-- the settings of a script with this bound
abbrev pub with_octets : Option ℕ → ScriptValue → ScriptValue
with_octets octets script = record script { options = record script.options { cache_octets = octets } }
