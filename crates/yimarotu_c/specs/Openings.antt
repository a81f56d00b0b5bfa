-- How sessions are opened.
use Rattle.std.specs.Prelude.{◌≡◌, ◌≢◌, ◌⊎◌, ℕ, List, length, Option, None, Some, Result, Ok, Err, MatchOption, MatchResult}
use Rattle.session_settings.specs.declared.settings_error.SettingsError.{SettingsError}
use Rattle.session_settings.specs.declared.settings_error.SettingsError.TheVariants as settings
use Rattle.yimarotu_c.specs.Statuses.{number_of}
use Rattle.yimarotu_c.specs.declared.sessions.YimarotuOpened.{YimarotuOpened}
use Rattle.yimarotu_c.specs.declared.status.Status.{Status}
use Rattle.yimarotu_c.specs.declared.status.Status.TheVariants as status
use Rattle.yimarotu_embedded.specs.Driven.{DrivenValue, IsDriven}
use Rattle.yimarotu_embedded.specs.declared.held.Held.{Held}
use Rattle.yimarotu_embedded.specs.declared.held.Held.TheVariants.{Fed, Driven}
use Rattle.yimarotu_embedded.specs.declared.network_opening.NetworkOpenError.{NetworkOpenError}
use Rattle.yimarotu_embedded.specs.declared.network_opening.NetworkOpenError.TheVariants as network
use Rattle.yimarotu_session.specs.Sessions.{SessionValue}
use Rattle.yimarotu_session.specs.declared.opening.OpenError.{OpenError}
use Rattle.yimarotu_session.specs.declared.opening.OpenError.TheVariants.{Script, NotSettings, Hosts, OutOfMemory}

abbrev pub open_end : Status → ℕ → YimarotuOpened
open_end status line = record { status = number_of status; line = line }

-- how it ends where a session that is fed by hand cannot be opened
abbrev pub open_error : OpenError → YimarotuOpened
open_error (Script error) = open_end status.Script error.line
open_error NotSettings = open_end status.Script 0
open_error (Hosts error) = open_end status.Hosts 0
open_error OutOfMemory = open_end status.NoMemory 0

-- the same of one that asks by itself
abbrev pub settings_error : SettingsError → YimarotuOpened
settings_error (settings.Line error) = open_end status.Script error.line
settings_error (settings.NotSetting line) = open_end status.Script line
settings_error settings.OutOfMemory = open_end status.NoMemory 0

abbrev pub network_error : NetworkOpenError → YimarotuOpened
network_error (network.Settings error) = settings_error error
network_error (network.Hosts error) = open_end status.Hosts 0
network_error (network.FixedPort place) = open_end status.Script 0
network_error network.OutOfMemory = open_end status.NoMemory 0

-- a session is kept, unless no memory is left for it
abbrev pub IsSessionKept : Held → YimarotuOpened → Option Held → Type 0
IsSessionKept held ended after =
    ((ended ≡ open_end status.Ok 0) × (after ≡ Some held))
    ⊎ ((ended ≡ open_end status.NoMemory 0) × (after ≡ None))

-- a session is opened so where there is none
abbrev pub Opens : (YimarotuOpened → Option Held → Type 0) → Option Held → YimarotuOpened → Option Held → Type 0
Opens OpensClosed before ended after =
    MatchOption before (OpensClosed ended after) (λ held. (ended ≡ open_end status.IsOpen 0) × (after ≡ before))

abbrev pub IsOpenedOrTold : {S E : Type 0} → (S → Held) → (E → YimarotuOpened) → Result S E → YimarotuOpened
    → Option Held → Type 0
IsOpenedOrTold held told result ended after =
    MatchResult result (λ session. IsSessionKept (held session) ended after)
    (λ error. (ended ≡ told error) × (after ≡ None))

-- one that is fed by hand
abbrev pub OpensFed : (Result SessionValue OpenError → Type 0) → YimarotuOpened → Option Held → Type 0
OpensFed IsOpened ended after =
    (opened : Result SessionValue OpenError) × IsOpened opened × IsOpenedOrTold Fed open_error opened ended after

-- one that asks by itself, from a seed of 32 octets
abbrev pub OpensSeeded : List ℕ → List ℕ → List ℕ → List ℕ → List ℕ → ℕ → YimarotuOpened → Option Held → Type 0
OpensSeeded conf hostname settings hosts seed now ended after =
    (opened : Result DrivenValue NetworkOpenError) × IsDriven conf hostname settings hosts seed now opened
    × IsOpenedOrTold Driven network_error opened ended after

abbrev pub OpensDriven : List ℕ → List ℕ → List ℕ → List ℕ → List ℕ → ℕ → YimarotuOpened → Option Held → Type 0
OpensDriven conf hostname settings hosts seed now ended after =
    ((length seed ≡ 32) × OpensSeeded conf hostname settings hosts seed now ended after)
    ⊎ ((length seed ≢ 32) × (ended ≡ open_end status.Seed 0) × (after ≡ None))
