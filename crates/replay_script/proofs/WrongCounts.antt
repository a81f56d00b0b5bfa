-- Lines with a wrong number of fields.
use Rattle.std.proofs.Common.{◌≡◌, ◌≢◌, ◌<◌, ℕ, List, [], ◌∷◌, length, Bor, Err, refl, arith}
use Rattle.hickory_proto_core.specs.Records.{DataValue}
use Rattle.replay_script.specs.FailLine.{failure_of}
use Rattle.replay_script.specs.Faults.{wrong_line}
use Rattle.replay_script.specs.DataFields.{IsAddressData, mx_of, srv_of, soa_of}
use Rattle.replay_script.specs.RecordLine.{IsRecord}
use Rattle.replay_script.specs.ReplyLine.{reply_of}
use Rattle.replay_script.specs.RequestLine.{host_asked, name_and_type, request_asked}
use Rattle.replay_script.specs.Setting.{mode_of}
use Rattle.replay_script.specs.Words.{only_name, texts}
use Rattle.replay_script.specs.declared.fault.ScriptFault.TheVariants.{FieldCount}

pub reply_short : (fs : List (Bor (List ℕ))) → length fs < 3 → Err (wrong_line FieldCount) ≡ reply_of (texts fs)
reply_short [] short = refl
reply_short (a ∷ []) short = refl
reply_short (a ∷ b ∷ []) short = refl
reply_short (a ∷ b ∷ c ∷ fs) short = absurd (omega arith)

pub failure_other : (message : Bor (List ℕ)) (fs : List (Bor (List ℕ))) → length fs ≢ 3 → length fs ≢ 4 → Err (wrong_line FieldCount) ≡ failure_of message (texts fs)
failure_other message [] three four = refl
failure_other message (a ∷ []) three four = refl
failure_other message (a ∷ b ∷ []) three four = refl
failure_other message (a ∷ b ∷ c ∷ []) three four = absurd (three (omega arith))
failure_other message (a ∷ b ∷ c ∷ d ∷ []) three four = absurd (four (omega arith))
failure_other message (a ∷ b ∷ c ∷ d ∷ e ∷ fs) three four = refl

pub record_short : (fs : List (Bor (List ℕ))) → length fs < 4 → IsRecord (texts fs) (Err (wrong_line FieldCount))
record_short [] short = refl
record_short (a ∷ []) short = refl
record_short (a ∷ b ∷ []) short = refl
record_short (a ∷ b ∷ c ∷ []) short = refl
record_short (a ∷ b ∷ c ∷ d ∷ fs) short = absurd (omega arith)

pub request_short : (fs : List (Bor (List ℕ))) → length fs < 2 → request_asked (texts fs) ≡ Err (wrong_line FieldCount)
request_short [] short = refl
request_short (a ∷ []) short = refl
request_short (a ∷ b ∷ fs) short = absurd (omega arith)

pub name_and_type_other : (fs : List (Bor (List ℕ))) → length fs ≢ 2 → name_and_type (texts fs) ≡ Err (wrong_line FieldCount)
name_and_type_other [] other = refl
name_and_type_other (a ∷ []) other = refl
name_and_type_other (a ∷ b ∷ []) other = absurd (other (omega arith))
name_and_type_other (a ∷ b ∷ c ∷ fs) other = refl

pub host_other : (now : ℕ) (fs : List (Bor (List ℕ))) → length fs ≢ 1 → host_asked now (texts fs) ≡ Err (wrong_line FieldCount)
host_other now [] other = refl
host_other now (a ∷ []) other = absurd (other (omega arith))
host_other now (a ∷ b ∷ fs) other = refl

pub mode_other : (fs : List (Bor (List ℕ))) → length fs ≢ 1 → Err (wrong_line FieldCount) ≡ mode_of (texts fs)
mode_other [] other = refl
mode_other (a ∷ []) other = absurd (other (omega arith))
mode_other (a ∷ b ∷ fs) other = refl

pub address_other : (IsAddress : List ℕ → DataValue → Type 0) (fs : List (Bor (List ℕ))) → length fs ≢ 1 → IsAddressData IsAddress (texts fs) (Err (wrong_line FieldCount))
address_other IsAddress [] other = refl
address_other IsAddress (a ∷ []) other = absurd (other (omega arith))
address_other IsAddress (a ∷ b ∷ fs) other = refl

pub only_name_other : (fs : List (Bor (List ℕ))) → length fs ≢ 1 → Err (wrong_line FieldCount) ≡ only_name (texts fs)
only_name_other [] other = refl
only_name_other (a ∷ []) other = absurd (other (omega arith))
only_name_other (a ∷ b ∷ fs) other = refl

pub mx_other : (fs : List (Bor (List ℕ))) → length fs ≢ 2 → Err (wrong_line FieldCount) ≡ mx_of (texts fs)
mx_other [] other = refl
mx_other (a ∷ []) other = refl
mx_other (a ∷ b ∷ []) other = absurd (other (omega arith))
mx_other (a ∷ b ∷ c ∷ fs) other = refl

pub srv_other : (fs : List (Bor (List ℕ))) → length fs ≢ 4 → Err (wrong_line FieldCount) ≡ srv_of (texts fs)
srv_other [] other = refl
srv_other (a ∷ []) other = refl
srv_other (a ∷ b ∷ []) other = refl
srv_other (a ∷ b ∷ c ∷ []) other = refl
srv_other (a ∷ b ∷ c ∷ d ∷ []) other = absurd (other (omega arith))
srv_other (a ∷ b ∷ c ∷ d ∷ e ∷ fs) other = refl

pub soa_other : (fs : List (Bor (List ℕ))) → length fs ≢ 7 → Err (wrong_line FieldCount) ≡ soa_of (texts fs)
soa_other [] other = refl
soa_other (a ∷ []) other = refl
soa_other (a ∷ b ∷ []) other = refl
soa_other (a ∷ b ∷ c ∷ []) other = refl
soa_other (a ∷ b ∷ c ∷ d ∷ []) other = refl
soa_other (a ∷ b ∷ c ∷ d ∷ e ∷ []) other = refl
soa_other (a ∷ b ∷ c ∷ d ∷ e ∷ f ∷ []) other = refl
soa_other (a ∷ b ∷ c ∷ d ∷ e ∷ f ∷ g ∷ []) other = absurd (other (omega arith))
soa_other (a ∷ b ∷ c ∷ d ∷ e ∷ f ∷ g ∷ h ∷ fs) other = refl
