-- A line that is a failure of the upstream: `fail` KIND NAME TYPE, and a class where one is wanted.
use Rattle.std.specs.Prelude.{◌≡◌, ℕ, List, [], ◌∷◌, codes, Result, Ok, Err, if◌then◌else◌}
use Rattle.std.specs.Borrow.{Bor}
use Rattle.hickory_proto_core.specs.Codes.{is_text}
use Rattle.hickory_proto_core.specs.declared.net_error.NetError.{NetError}
use Rattle.hickory_proto_core.specs.declared.net_error.NetError.TheVariants as net
use Rattle.replay_script.specs.Faults.{LineFaultValue, wrong_field, wrong_line}
use Rattle.replay_script.specs.Words.{◌>>=◌, class_field, name_field, type_field}
use Rattle.replay_script.specs.declared.fail_line.Failure.{Failure}
use Rattle.replay_script.specs.declared.fail_line.FailureKind.{FailureKind}
use Rattle.replay_script.specs.declared.fail_line.FailureKind.TheVariants.{Message, Timeout}
use Rattle.replay_script.specs.declared.fault.ScriptFault.TheVariants.{FieldCount, UnknownWord}

-- the error of an outcome that is a failure
abbrev pub error_of : FailureKind → NetError
error_of Timeout = net.Timeout
error_of (Message text) = net.Message text

-- the kind of a word: no answer in time, or a fault with this text
abbrev pub kind_field : Bor (List ℕ) → List ℕ → Result FailureKind LineFaultValue
kind_field message word =
    if is_text (codes "timeout") word then Ok Timeout else (
    if is_text (codes "message") word then Ok (Message message) else Err (wrong_field UnknownWord word))

-- KIND NAME TYPE CLASS
abbrev pub failed : Bor (List ℕ) → List ℕ → List ℕ → List ℕ → List ℕ → Result Failure LineFaultValue
failed message kind name type class = do
  k ← kind_field message kind
  n ← name_field name
  t ← type_field type
  c ← class_field class
  Ok (record { query = record { name = n; query_type = t; query_class = c }; kind = k })

-- where no class is given it is that of the Internet
abbrev pub failure_of : Bor (List ℕ) → List (List ℕ) → Result Failure LineFaultValue
failure_of message (kind ∷ name ∷ type ∷ []) = failed message kind name type (codes "IN")
failure_of message (kind ∷ name ∷ type ∷ class ∷ []) = failed message kind name type class
failure_of message fields = Err (wrong_line FieldCount)

-- the failure that the fields write, or their first fault
abbrev pub IsFailure : List (List ℕ) → Result Failure LineFaultValue → Type 0
IsFailure fields result =
    (message : Bor (List ℕ)) × (message.now ≡ codes "upstream failed") × (result ≡ failure_of message fields)
