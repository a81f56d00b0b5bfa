-- A line that is a request: `at` MOMENT, a verb, and what it is about.
use Rattle.std.specs.Prelude.{◌≡◌, ℕ, List, [], ◌∷◌, codes, Result, Ok, Err, MatchResult, if◌then◌else◌}
use Rattle.hickory_proto_core.specs.Codes.{is_text}
use Rattle.hickory_proto_core.specs.codes.record_type.RecordType.{RecordType}
use Rattle.hickory_resolver_lookup.specs.Requests.{request_of}
use Rattle.hickory_resolver_lookup.specs.declared.request.Request.{Request}
use Rattle.hickory_resolver_model.specs.Run.{RequestValue, Lookup, LookupIp, ClearLookup, Clear}
use Rattle.replay_script.specs.Faults.{LineFaultValue, wrong_field, wrong_line}
use Rattle.replay_script.specs.Words.{◌>>=◌, number_field, type_field}
use Rattle.replay_script.specs.declared.fault.ScriptFault.TheVariants.{FieldCount, UnknownWord}

-- NAME TYPE; whether the name is one is found out when it is asked
abbrev pub name_and_type : List (List ℕ) → Result (List ℕ × RecordType) LineFaultValue
name_and_type (name ∷ type ∷ []) = do
  t ← type_field type
  Ok (name, t)
name_and_type fields = Err (wrong_line FieldCount)

-- `lookup` NAME TYPE
abbrev pub lookup_asked : ℕ → List (List ℕ) → Result RequestValue LineFaultValue
lookup_asked now fields = do
  asked ← name_and_type fields
  Ok (Lookup asked.0 asked.1 now)

-- `lookup_ip` HOST
abbrev pub host_asked : ℕ → List (List ℕ) → Result RequestValue LineFaultValue
host_asked now (host ∷ []) = Ok (LookupIp host now)
host_asked now fields = Err (wrong_line FieldCount)

-- `clear_lookup` NAME TYPE
abbrev pub clear_lookup_asked : ℕ → List (List ℕ) → Result RequestValue LineFaultValue
clear_lookup_asked now fields = do
  asked ← name_and_type fields
  Ok (ClearLookup asked.0 asked.1 now)

-- `clear`
abbrev pub clear_asked : ℕ → List (List ℕ) → Result RequestValue LineFaultValue
clear_asked now [] = Ok (Clear now)
clear_asked now (field ∷ fields) = Err (wrong_line FieldCount)

-- what is asked at a moment
abbrev pub asked_by : ℕ → List ℕ → List (List ℕ) → Result RequestValue LineFaultValue
asked_by now verb fields =
    if is_text (codes "lookup") verb then lookup_asked now fields else (
    if is_text (codes "lookup_ip") verb then host_asked now fields else (
    if is_text (codes "clear_lookup") verb then clear_lookup_asked now fields else (
    if is_text (codes "clear") verb then clear_asked now fields else Err (wrong_field UnknownWord verb))))

-- MOMENT and the verb come first
abbrev pub request_asked : List (List ℕ) → Result RequestValue LineFaultValue
request_asked (moment ∷ verb ∷ fields) = do
  now ← number_field 64 moment
  asked_by now verb fields
request_asked fields = Err (wrong_line FieldCount)

-- a request that is what was asked, or the same fault
abbrev pub IsRequest : Result RequestValue LineFaultValue → Result Request LineFaultValue → Type 0
IsRequest asked result =
    MatchResult result (λ request. asked ≡ Ok (request_of request)) (λ fault. asked ≡ Err fault)
