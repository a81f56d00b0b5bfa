-- What a session with a network is opened with: what a file resolv.conf says, and over it what lines set.
use Rattle.std.specs.Prelude.{◌≡◌, ◌≢◌, ◌⊎◌, ◌==◌, ℕ, List, length, Option, None, IsSome, Result, Ok, Err, MatchResult, if◌then◌else◌}
use Rattle.std.specs.Str.Lines.{lines}
use Rattle.hickory_proto_core.specs.Name.{NameValue}
use Rattle.hickory_resolver_config.specs.ResolverConfig.{OptionsValue}
use Rattle.hickory_resolver_model.specs.Bounds.{bounds_fault}
use Rattle.hickory_resolver_model.specs.Options.{bounds_of}
use Rattle.hickory_resolver_pool.specs.Servers.{PoolServerValue}
use Rattle.replay_script.specs.declared.fault.ScriptError.{ScriptError}
use Rattle.replay_script.specs.declared.fault.ScriptFault.TheVariants as script_fault
use Rattle.resolv_conf.specs.ResolvConf.{ResolvConfValue, resolv_conf}
use Rattle.session_settings.specs.Reading.{AreRead, ReadingValue, reading_over}
use Rattle.session_settings.specs.ServerLine.{file_servers}
use Rattle.session_settings.specs.declared.settings_error.SettingsError.{SettingsError}
use Rattle.session_settings.specs.declared.settings_error.SettingsError.TheVariants.{Line, NotSetting, OutOfMemory}

-- the options, the domain, the search list and the servers of a session
pub record SettingsValue : Type 0 where
  pub options : OptionsValue
  pub domain : Option NameValue
  pub search : List NameValue
  pub servers : List PoolServerValue

-- the servers that lines name, or else these
abbrev pub servers_or : List PoolServerValue → List PoolServerValue → List PoolServerValue
servers_or named servers = if length named == 0 then servers else named

-- what is set behind the last line, over a file with these servers
abbrev pub settings_with : ReadingValue → List PoolServerValue → SettingsValue
settings_with reading servers = record {
  options = reading.configuration.options;
  domain = reading.configuration.domain;
  search = reading.configuration.search;
  servers = servers_or reading.servers servers;
}

-- each line is a setting, and no least bound on times to live is above its greatest one
pub record AreSettings (base : ReadingValue) (servers : List PoolServerValue) (all_lines : List (List ℕ))
    (settings : SettingsValue) : Type 0 where
  pub reading : ReadingValue
  pub read : AreRead base 1 all_lines (Ok reading)
  pub settings_are : settings ≡ settings_with reading servers
  pub in_order : bounds_fault (bounds_of settings.options) ≡ None

-- each line is a setting, and bounds on times to live are reversed, which is the fault of no one line
pub record AreReversed (base : ReadingValue) (all_lines : List (List ℕ)) (error : ScriptError) : Type 0 where
  pub reading : ReadingValue
  pub read : AreRead base 1 all_lines (Ok reading)
  pub reversed : IsSome (bounds_fault (bounds_of reading.configuration.options))
  pub error_is : error ≡ record { line = 0; fault = script_fault.ReversedBounds }

-- the first line that has a fault or is no setting; or bounds that are reversed; or no memory is left
abbrev pub IsRefused : ReadingValue → List (List ℕ) → SettingsError → Type 0
IsRefused base all_lines (Line error) =
    (AreRead base 1 all_lines (Err (Line error)) ⊎ AreReversed base all_lines error)
    × (error.fault ≢ script_fault.OutOfMemory)
IsRefused base all_lines (NotSetting number) = AreRead base 1 all_lines (Err (NotSetting number))
IsRefused base all_lines OutOfMemory = Unit {0}

-- the settings of these lines over what is set already; these servers count where no line names one
abbrev pub AreSettingsBehind : ReadingValue → List PoolServerValue → List (List ℕ)
    → Result SettingsValue SettingsError → Type 0
AreSettingsBehind base servers all_lines result =
    MatchResult result (AreSettings base servers all_lines) (IsRefused base all_lines)

-- the same over a file
abbrev pub AreSettingsOver : ResolvConfValue → List (List ℕ) → Result SettingsValue SettingsError → Type 0
AreSettingsOver conf all_lines result =
    AreSettingsBehind (reading_over conf) (file_servers conf) all_lines result

-- behind the last line: the settings, or reversed bounds
abbrev pub IsFinished : ReadingValue → List PoolServerValue → Result SettingsValue SettingsError → Type 0
IsFinished reading servers result =
    let fault = bounds_fault (bounds_of reading.configuration.options) in
    MatchResult result (λ settings. (settings ≡ settings_with reading servers) × (fault ≡ None))
    (λ error. (error ≡ Line (record { line = 0; fault = script_fault.ReversedBounds })) × IsSome fault)

-- the settings of these lines over a file, on a host of this name
abbrev pub IsSettingsRead : List ℕ → List ℕ → List ℕ → Result SettingsValue SettingsError → Type 0
IsSettingsRead conf hostname settings result = AreSettingsOver (resolv_conf conf hostname) (lines settings) result
