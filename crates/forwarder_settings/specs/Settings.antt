-- What a forwarder is opened with: what a file resolv.conf says, and over it what lines set.
use Rattle.std.specs.Prelude.{◌≡◌, ◌⊎◌, ◌==◌, ℕ, List, length, Result, Ok, Err, MatchResult, if◌then◌else◌}
use Rattle.std.specs.Str.Lines.{lines}
use Rattle.hickory_proto_core.specs.names.ip.IpNet.{IpNet}
use Rattle.hickory_resolver_pool.specs.Servers.{PoolServerValue}
use Rattle.resolv_conf.specs.ResolvConf.{ResolvConfValue, resolv_conf}
use Rattle.session_settings.specs.Reading.{IsNoMemoryFault}
use Rattle.session_settings.specs.ServerLine.{file_servers}
use Rattle.session_settings.specs.Settings.{servers_or}
use Rattle.session_settings.specs.declared.settings_error.SettingsError.{SettingsError}
use Rattle.session_settings.specs.declared.settings_error.SettingsError.TheVariants.{OutOfMemory}
use Rattle.yimarotu_forwarder.specs.Options.{OptionsValue as ForwarderOptionsValue}
use Rattle.forwarder_settings.specs.Prefixes.{near_networks}
use Rattle.forwarder_settings.specs.Reading.{AreRead, SettingsValue, settings_over}

-- the networks that lines name, or else those of a house
abbrev pub clients_or_near : List IpNet → List IpNet
clients_or_near named = if length named == 0 then near_networks else named

abbrev pub with_clients : ForwarderOptionsValue → ForwarderOptionsValue
with_clients f = record f { may_ask = clients_or_near f.may_ask }

-- what is set behind the last line, over a file with these servers, which count where no line names one
abbrev pub finished : List PoolServerValue → SettingsValue → SettingsValue
finished servers s =
    record s { servers = servers_or s.servers servers; forwarder = with_clients s.forwarder }

-- each line is a setting
abbrev pub AreSettings : SettingsValue → List PoolServerValue → List (List ℕ) → SettingsValue → Type 0
AreSettings first servers all_lines settings =
    (read : SettingsValue) × AreRead first 1 all_lines (Ok read)
    × (settings ≡ finished servers read)

-- the first line that has a fault or is no setting; or no memory is left
abbrev pub IsRefused : SettingsValue → List (List ℕ) → SettingsError → Type 0
IsRefused first all_lines error =
    (error ≡ OutOfMemory)
    ⊎ (AreRead first 1 all_lines (Err error) × IsNoMemoryFault error)

-- the settings of these lines over the first ones and the servers of a file
abbrev pub AreSettingsBehind : SettingsValue → List PoolServerValue → List (List ℕ)
    → Result SettingsValue SettingsError → Type 0
AreSettingsBehind first servers all_lines result =
    MatchResult result (AreSettings first servers all_lines) (IsRefused first all_lines)

abbrev pub AreSettingsOver : ResolvConfValue → List (List ℕ) → Result SettingsValue SettingsError → Type 0
AreSettingsOver conf all_lines result =
    AreSettingsBehind (settings_over conf.options conf.trust_ad) (file_servers conf) all_lines result

-- the settings of these lines over a file, on a host of this name
abbrev pub IsSettingsRead : List ℕ → List ℕ → List ℕ → Result SettingsValue SettingsError → Type 0
IsSettingsRead conf hostname settings result = AreSettingsOver (resolv_conf conf hostname) (lines settings) result
