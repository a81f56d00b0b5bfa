-- What is written of the text of a replay.
use Rattle.std.specs.Prelude.{◌≡◌, ◌⊎◌, ℕ, Bool, true, false, List, [], take, Option, None, Some, Result, Ok, Err}
use Rattle.std.specs.Borrow.{Bor}
use Rattle.std.specs.Io.KnownBytes.{Appends}
use Rattle.replay.specs.ScriptRun.{IsRefused, IsReplayed}
use Rattle.replay.specs.declared.error.ReplayError.{ReplayError}
use Rattle.replay.specs.declared.error.ReplayError.TheVariants.{Write}

-- the bytes of a file of hosts: where there is none there are no bytes
abbrev pub given_hosts : Option (Bor (List ℕ)) → List ℕ
given_hosts None = []
given_hosts (Some bytes) = bytes.now

-- A text is written behind what a writer held, where that is known: all of it, or a beginning, and then the
-- writer has failed.
abbrev pub IsWritten : List ℕ → Option (List ℕ) → Option (List ℕ) → Result (Unit {0}) ReplayError → Bool → Type 0
IsWritten text before after (Ok done) failed = Appends before after text × (failed ≡ false)
IsWritten text before after (Err error) failed =
    (error ≡ Write) × (failed ≡ true) × ((count : ℕ) × Appends before after (take count text))

-- The text of the replay is written, or there is none: then nothing is written, and no writer fails.
abbrev pub IsReplay : List ℕ → List ℕ → Option (List ℕ) → Option (List ℕ) → Result (Unit {0}) ReplayError
    → Bool → Type 0
IsReplay script hosts before after result failed =
    ((text : List ℕ) × IsReplayed script hosts text × IsWritten text before after result failed)
    ⊎ ((error : ReplayError) × (result ≡ Err error) × IsRefused script hosts error
    × (after ≡ before) × (failed ≡ false))
