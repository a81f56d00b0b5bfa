-- Fields as names, numbers, types and classes, and the first fault among several.
use Rattle.std.specs.Prelude.{◌^◌, ℕ, true, List, [], ◌∷◌, map, Result, Ok, Err}
use Rattle.std.specs.Borrow.{Bor}
use Rattle.std.specs.Option.{ok_or}
use Rattle.hickory_proto_core.specs.Name.{NameValue}
use Rattle.hickory_proto_core.specs.NameDecided.{text_name}
use Rattle.hickory_proto_core.specs.Codes.{class_named, decimal_below, type_named}
use Rattle.hickory_proto_core.specs.codes.dns_class.DNSClass.{DNSClass}
use Rattle.hickory_proto_core.specs.codes.record_type.RecordType.{RecordType}
use Rattle.hickory_proto_core.specs.names.name_error.NameError.{NameError}
use Rattle.replay_script.specs.Faults.{LineFaultValue, name_fault, wrong_field, wrong_line}
use Rattle.replay_script.specs.declared.fault.ScriptFault.TheVariants.{BadNumber, FieldCount, UnknownWord}

-- the first fault, or what comes of the value
infixl 10 ◌>>=◌
abbrev pub ◌>>=◌ : {A B : Type 0} → Result A LineFaultValue → (A → Result B LineFaultValue) → Result B LineFaultValue
(Ok x) >>= f = f x
(Err fault) >>= f = Err fault

-- what the fields say
abbrev pub texts : List (Bor (List ℕ)) → List (List ℕ)
texts fs = map (λ f. f.now) fs

-- a name is made fully qualified
abbrev pub full_name : List ℕ → Result NameValue NameError → Result NameValue LineFaultValue
full_name text (Ok name) = Ok (record name { fqdn = true })
full_name text (Err error) = Err (name_fault text error)

abbrev pub name_field : List ℕ → Result NameValue LineFaultValue
name_field text = full_name text (text_name text)

-- NAME
abbrev pub only_name : List (List ℕ) → Result NameValue LineFaultValue
only_name [] = Err (wrong_line FieldCount)
only_name (name ∷ []) = name_field name
only_name (name ∷ more ∷ others) = Err (wrong_line FieldCount)

-- a number of so many bits
abbrev pub number_field : ℕ → List ℕ → Result ℕ LineFaultValue
number_field bits text = ok_or (decimal_below (2 ^ bits) text) (wrong_field BadNumber text)

-- the type that a word names
abbrev pub type_field : List ℕ → Result RecordType LineFaultValue
type_field word = ok_or (type_named word) (wrong_field UnknownWord word)

-- the class that a word names
abbrev pub class_field : List ℕ → Result DNSClass LineFaultValue
class_field word = ok_or (class_named word) (wrong_field UnknownWord word)
