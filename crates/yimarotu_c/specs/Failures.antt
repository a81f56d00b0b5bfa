-- The numbers of failures of a question.
use Rattle.std.specs.Prelude.{◌≡◌, ◌⊎◌, ◌<◌, ℕ, Option, None, Some, codes}
use Rattle.hickory_proto_core.specs.declared.net_error.NetError.{NetError}
use Rattle.hickory_proto_core.specs.declared.net_error.NetError.TheVariants as net

-- the failure of a number, or none
abbrev pub IsFailure : ℕ → Option NetError → Type 0
IsFailure number (Some net.Timeout) = number ≡ 1
IsFailure number (Some (net.Message text)) =
    ((number ≡ 2) × (text.now ≡ codes "upstream not reached"))
    ⊎ ((number ≡ 3) × (text.now ≡ codes "upstream failed"))
IsFailure number (Some net.OutOfMemory) = number ≡ 4
IsFailure number (Some other) = ⊥
IsFailure number None = (number ≡ 0) ⊎ (4 < number)
