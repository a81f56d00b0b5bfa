-- Reading a file of hosts, and what each fault leaves.
use Rattle.std.specs.Prelude.{◌≡◌, ◌⊎◌, ℕ, Bool, true, false, List, [], ◌∷◌, ◌++◌, map, take, Option, None, Some, IfSome, Result, Ok, Err}
use Rattle.std.specs.List.{list_all}
use Rattle.std.specs.Char.{is_ascii, to_ascii_lowercase}
use Rattle.std.specs.Str.{IsUtf8}
use Rattle.hickory_proto_core.specs.Name.{NameValue}
use Rattle.hickory_proto_core.specs.NameText.{Spells}
use Rattle.hickory_proto_core.specs.Records.{DataValue}
use Rattle.hickory_resolver_model.specs.Hosts.{Host, AreNames, AreLinePairs, AreFilePairs, file_lines, line_fields, insert_pairs}
use Rattle.hickory_resolver_hosts.specs.declared.hosts_error.HostsError.{HostsError}
use Rattle.hickory_resolver_hosts.specs.declared.hosts_error.HostsError.TheVariants.{Read, InvalidData, OutOfMemory}

abbrev pub Pair : Type 0
Pair = NameValue × DataValue

abbrev pub pairs_of : DataValue → List NameValue → List Pair
pairs_of address names = map (λ n. (n, address)) names

-- the name that a field is, or none
abbrev pub IsNameField : List ℕ → Option NameValue → Type 0
IsNameField field None =
    (list_all is_ascii field ≡ false) ⊎ ((n : NameValue) → Spells (map to_ascii_lowercase field) n → ⊥)
IsNameField field (Some n) = (list_all is_ascii field ≡ true) × Spells (map to_ascii_lowercase field) n

-- the names of these fields are put in with an address, or where memory runs out, those of the first fields
abbrev pub AreNamesRead : ℕ → DataValue → List (List ℕ) → List Host → Result (Unit {0}) HostsError → List Host
    → Type 0
AreNamesRead now address fields before (Ok done) after =
    (names : List NameValue) × AreNames fields names
    × (after ≡ insert_pairs now (pairs_of address names) before)
AreNamesRead now address fields before (Err error) after =
    (error ≡ OutOfMemory)
    × ((count : ℕ) × (names : List NameValue) × AreNames (take count fields) names
    × (after ≡ insert_pairs now (pairs_of address names) before))

-- the pairs of the first fields of a line
abbrev pub AreFirstLinePairs : List ℕ → List Pair → Type 0
AreFirstLinePairs line pairs =
    IsUtf8 line × ((count : ℕ) × AreLinePairs (take count (line_fields line)) pairs)

-- a line is read: its pairs are put in; it is not UTF-8, and nothing is put in; or where memory runs out, the
-- pairs of its first fields
abbrev pub IsLineRead : ℕ → List ℕ → List Host → Result (Unit {0}) HostsError → List Host → Type 0
IsLineRead now line before (Ok done) after =
    IsUtf8 line × ((pairs : List Pair) × AreLinePairs (line_fields line) pairs
    × (after ≡ insert_pairs now pairs before))
IsLineRead now line before (Err Read) after = ⊥
IsLineRead now line before (Err InvalidData) after = (IsUtf8 line → ⊥) × (after ≡ before)
IsLineRead now line before (Err OutOfMemory) after =
    (pairs : List Pair) × AreFirstLinePairs line pairs × (after ≡ insert_pairs now pairs before)

-- the first pairs of these lines: those of the first lines, and of the first fields of the line behind them
abbrev pub AreFirstPairs : List (List ℕ) → List Pair → Type 0
AreFirstPairs [] pairs = pairs ≡ []
AreFirstPairs (line ∷ lines) pairs =
    (pairs ≡ []) ⊎ AreFirstLinePairs line pairs
    ⊎ (IsUtf8 line × ((front : List Pair) × (back : List Pair) × AreLinePairs (line_fields line) front
    × AreFirstPairs lines back × (pairs ≡ front ++ back)))

-- a file is read: all its pairs are put in; those of the lines before the first that is not UTF-8; or where
-- memory runs out, a beginning of them
abbrev pub AreLinesRead : ℕ → List (List ℕ) → List Host → Result (Unit {0}) HostsError → List Host → Type 0
AreLinesRead now lines before (Ok done) after =
    (pairs : List Pair) × AreFilePairs lines pairs false × (after ≡ insert_pairs now pairs before)
AreLinesRead now lines before (Err Read) after = ⊥
AreLinesRead now lines before (Err InvalidData) after =
    (pairs : List Pair) × AreFilePairs lines pairs true × (after ≡ insert_pairs now pairs before)
AreLinesRead now lines before (Err OutOfMemory) after =
    (pairs : List Pair) × AreFirstPairs lines pairs × (after ≡ insert_pairs now pairs before)

abbrev pub IsBytesRead : ℕ → List ℕ → List Host → Result (Unit {0}) HostsError → List Host → Type 0
IsBytesRead now bytes before result after = AreLinesRead now (file_lines bytes) before result after

-- all the bytes that a reader gives, where they are known
abbrev pub IsAll : Option (List ℕ) → List ℕ → Type 0
IsAll known bytes = IfSome known (λ xs. bytes ≡ xs)

-- a reader is not read whole: a read failed, or memory ran out
abbrev pub IsReadFault : HostsError → Bool → Type 0
IsReadFault Read failed = failed ≡ true
IsReadFault InvalidData failed = ⊥
IsReadFault OutOfMemory failed = failed ≡ false

-- a file is read from a reader: a read fails, and the table stays; or none does, and the bytes are read
abbrev pub AreAllRead : ℕ → Option (List ℕ) → List Host → Result (Unit {0}) HostsError → List Host → Type 0
AreAllRead now known before result after =
    (bytes : List ℕ) × IsAll known bytes × IsBytesRead now bytes before result after

abbrev pub IsSourceRead : ℕ → Option (List ℕ) → List Host → Result (Unit {0}) HostsError → List Host → Bool
    → Type 0
IsSourceRead now known before (Ok done) after failed =
    (failed ≡ false) × AreAllRead now known before (Ok done) after
IsSourceRead now known before (Err Read) after failed = (failed ≡ true) × (after ≡ before)
IsSourceRead now known before (Err InvalidData) after failed =
    (failed ≡ false) × AreAllRead now known before (Err InvalidData) after
IsSourceRead now known before (Err OutOfMemory) after failed =
    (failed ≡ false) × AreAllRead now known before (Err OutOfMemory) after
