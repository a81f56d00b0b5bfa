-- What lines set over a file resolv.conf, one line after another.
use Rattle.std.specs.Prelude.{◌≡◌, ◌≢◌, ◌⊎◌, ◌+◌, ℕ, false, List, [], ◌∷◌, ◌++◌, Result, Ok, Err, MatchResult}
use Rattle.hickory_resolver_pool.specs.Servers.{PoolServerValue}
use Rattle.replay_script.specs.Configuration.{ConfigurationValue, with_setting}
use Rattle.replay_script.specs.Faults.{LineFaultValue}
use Rattle.replay_script.specs.declared.fault.ScriptFault.TheVariants as script_fault
use Rattle.resolv_conf.specs.ResolvConf.{ResolvConfValue}
use Rattle.session_settings.specs.SessionLine.{IsLine}
use Rattle.session_settings.specs.SessionOption.{with_option}
use Rattle.session_settings.specs.declared.session_line.SessionLine.{SessionLine}
use Rattle.session_settings.specs.declared.session_line.SessionLine.TheVariants.{Blank, NoSetting, Sets}
use Rattle.session_settings.specs.declared.session_line.SessionSetting.{SessionSetting}
use Rattle.session_settings.specs.declared.session_line.SessionSetting.TheVariants as session
use Rattle.session_settings.specs.declared.session_option.SessionOption.{SessionOption}
use Rattle.session_settings.specs.declared.settings_error.SettingsError.{SettingsError}
use Rattle.session_settings.specs.declared.settings_error.SettingsError.TheVariants.{Line, NotSetting, OutOfMemory}

-- what is set so far: the options, the domain and the search list, and the servers that lines name
pub record ReadingValue : Type 0 where
  pub configuration : ConfigurationValue
  pub servers : List PoolServerValue

-- what the file sets, before any line
abbrev pub reading_over : ResolvConfValue → ReadingValue
reading_over conf = record {
  configuration = record {
    options = conf.options;
    domain = conf.config.domain;
    search = conf.config.search;
    table = false;
  };
  servers = [];
}

abbrev pub with_session_option : SessionOption → ConfigurationValue → ConfigurationValue
with_session_option option c = record c { options = with_option option c.options }

-- one more setting: it counts in place of those before it; a domain of the search list, and a server, come behind them
abbrev pub with_session_setting : SessionSetting → ReadingValue → ReadingValue
with_session_setting (session.Script setting) reading =
    record reading { configuration = with_setting setting reading.configuration }
with_session_setting (session.Option option) reading =
    record reading { configuration = with_session_option option reading.configuration }
with_session_setting (session.Server server) reading = record reading { servers = reading.servers ++ server ∷ [] }

-- one more line, of this number; or its error
abbrev pub with_line : ReadingValue → ℕ → Result SessionLine LineFaultValue → Result ReadingValue SettingsError
with_line reading number (Ok Blank) = Ok reading
with_line reading number (Ok (Sets setting)) = Ok (with_session_setting setting reading)
with_line reading number (Ok NoSetting) = Err (NotSetting number)
with_line reading number (Err fault) = Err (Line (record { line = number; fault = fault.fault }))

-- the lines from this number on: what is set behind them, or the error of the first line with one
abbrev pub AreRead : ReadingValue → ℕ → List (List ℕ) → Result ReadingValue SettingsError → Type 0
AreRead reading number [] result = result ≡ Ok reading
AreRead reading number (line ∷ others) result =
    (read : Result SessionLine LineFaultValue) × IsLine line read
    × MatchResult (with_line reading number read) (λ more. AreRead more (number + 1) others result)
    (λ error. result ≡ Err error)

-- this is set, or there is this error
abbrev pub IsSet : Result ReadingValue SettingsError → Result (Unit {0}) SettingsError → ReadingValue → Type 0
IsSet (Ok reading) result after = (result ≡ Ok tt) × (after ≡ reading)
IsSet (Err error) result after = result ≡ Err error

-- what a line of this number says is set; or it has an error; or no memory is left
abbrev pub IsApplied : ReadingValue → ℕ → SessionLine → Result (Unit {0}) SettingsError → ReadingValue → Type 0
IsApplied before number said result after =
    (result ≡ Err OutOfMemory) ⊎ IsSet (with_line before number (Ok said)) result after

-- the same, and first it is read
abbrev pub IsTaken : ReadingValue → ℕ → List ℕ → Result (Unit {0}) SettingsError → ReadingValue → Type 0
IsTaken before number line result after =
    (result ≡ Err OutOfMemory)
    ⊎ ((read : Result SessionLine LineFaultValue) × IsLine line read × IsSet (with_line before number read) result after)

-- to be out of memory is no fault of a line
abbrev pub IsNoMemoryFault : SettingsError → Type 0
IsNoMemoryFault (Line error) = error.fault ≢ script_fault.OutOfMemory
IsNoMemoryFault (NotSetting line) = Unit {0}
IsNoMemoryFault OutOfMemory = Unit {0}
