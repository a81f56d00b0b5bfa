-- How forwarders are opened, and read anew.
use Rattle.std.specs.Prelude.{◌≡◌, ◌≢◌, ◌⊎◌, ℕ, List, length, Option, None, Some, Result, Ok, Err, MatchOption, MatchResult}
use Rattle.session_settings.specs.declared.settings_error.SettingsError.{SettingsError}
use Rattle.session_settings.specs.declared.settings_error.SettingsError.TheVariants as settings
use Rattle.yimarotu_driven_forwarder.specs.Driven.{DrivenValue, IsOpened}
use Rattle.yimarotu_driven_forwarder.specs.Reloading as reloading
use Rattle.yimarotu_driven_forwarder.specs.Texts.{TextsValue}
use Rattle.yimarotu_driven_forwarder.specs.declared.open_error.ForwarderOpenError.{ForwarderOpenError}
use Rattle.yimarotu_driven_forwarder.specs.declared.open_error.ForwarderOpenError.TheVariants as refused
use Rattle.yimarotu_forwarder_c.specs.Statuses.{number_of}
use Rattle.yimarotu_forwarder_c.specs.declared.opening.YimarotuOpened.{YimarotuOpened}
use Rattle.yimarotu_forwarder_c.specs.declared.status.Status.{Status}
use Rattle.yimarotu_forwarder_c.specs.declared.status.Status.TheVariants as status

abbrev pub open_end : Status → ℕ → YimarotuOpened
open_end status line = record { status = number_of status; line = line }

-- how it ends where a forwarder cannot be opened
abbrev pub settings_error : SettingsError → YimarotuOpened
settings_error (settings.Line error) = open_end status.Script error.line
settings_error (settings.NotSetting line) = open_end status.Script line
settings_error settings.OutOfMemory = open_end status.NoMemory 0

abbrev pub open_error : ForwarderOpenError → YimarotuOpened
open_error (refused.Settings error) = settings_error error
open_error (refused.Hosts error) = open_end status.Hosts 0
open_error (refused.FixedPort place) = open_end status.Script 0
open_error refused.OutOfMemory = open_end status.NoMemory 0

-- ---- it is opened

-- a forwarder is kept, unless no memory is left for it
abbrev pub IsKept : DrivenValue → YimarotuOpened → Option DrivenValue → Type 0
IsKept d ended after =
    ((ended ≡ open_end status.Ok 0) × (after ≡ Some d))
    ⊎ ((ended ≡ open_end status.NoMemory 0) × (after ≡ None))

-- from a seed of 32 octets
abbrev pub OpensSeeded : TextsValue → List ℕ → ℕ → YimarotuOpened → Option DrivenValue → Type 0
OpensSeeded texts seed now ended after =
    (opened : Result DrivenValue ForwarderOpenError) × IsOpened texts seed now opened
    × MatchResult opened (λ d. IsKept d ended after) (λ error. (ended ≡ open_error error) × (after ≡ None))

abbrev pub OpensFrom : TextsValue → List ℕ → ℕ → YimarotuOpened → Option DrivenValue → Type 0
OpensFrom texts seed now ended after =
    ((length seed ≡ 32) × OpensSeeded texts seed now ended after)
    ⊎ ((length seed ≢ 32) × (ended ≡ open_end status.Seed 0) × (after ≡ None))

-- a forwarder is opened so where there is none
abbrev pub Opens : (YimarotuOpened → Option DrivenValue → Type 0) → Option DrivenValue → YimarotuOpened
    → Option DrivenValue → Type 0
Opens OpensClosed before ended after =
    MatchOption before (OpensClosed ended after) (λ d. (ended ≡ open_end status.IsOpen 0) × (after ≡ before))

-- ---- it is read anew

abbrev pub reloaded_end : Result (Unit {0}) ForwarderOpenError → YimarotuOpened
reloaded_end (Ok done) = open_end status.Ok 0
reloaded_end (Err error) = open_error error

abbrev pub Reloads : TextsValue → ℕ → DrivenValue → YimarotuOpened → DrivenValue → Type 0
Reloads texts now before ended after =
    (result : Result (Unit {0}) ForwarderOpenError) × reloading.Reloads texts now before result after
    × (ended ≡ reloaded_end result)
