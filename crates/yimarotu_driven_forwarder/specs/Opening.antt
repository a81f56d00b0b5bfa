-- How a forwarder is opened.
use Rattle.std.specs.Prelude.{◌≡◌, ◌≢◌, ◌⊎◌, ◌/◌, ℕ, List, [], Result, Ok, Err, MatchResult}
use Rattle.hickory_resolver_hosts.specs.Reading.{IsBytesRead}
use Rattle.hickory_resolver_hosts.specs.declared.hosts_error.HostsError.TheVariants as hosts_error
use Rattle.hickory_resolver_model.specs.Hosts.{Host}
use Rattle.hickory_resolver_pool.specs.Pool.{PoolState, default_limits, no_servers}
use Rattle.hickory_resolver_pool.specs.Servers.{PoolServerValue}
use Rattle.session_settings.specs.declared.settings_error.SettingsError.{SettingsError}
use Rattle.forwarder_settings.specs.LocalRules.{local_rules}
use Rattle.forwarder_settings.specs.Reading.{DomainGroupValue, SettingsValue}
use Rattle.forwarder_settings.specs.Settings.{IsSettingsRead}
use Rattle.yimarotu_forwarder.specs.Forwarders.{ForwarderValue, new_forwarder}
use Rattle.yimarotu_forwarder.specs.Local.{LocalValue}
use Rattle.yimarotu_driven_forwarder.specs.Servers.{AsksServers}
use Rattle.yimarotu_driven_forwarder.specs.Texts.{TextsValue}
use Rattle.yimarotu_driven_forwarder.specs.declared.open_error.ForwarderOpenError.{ForwarderOpenError}
use Rattle.yimarotu_driven_forwarder.specs.declared.open_error.ForwarderOpenError.TheVariants.{Settings, Hosts, OutOfMemory}

-- ---- local data

-- the hosts have a fault; or no memory is left
abbrev pub IsNoHosts : List ℕ → ℕ → ForwarderOpenError → Type 0
IsNoHosts hosts now (Hosts error) =
    (error ≢ hosts_error.OutOfMemory) × ((table : List Host) × IsBytesRead now hosts [] (Err error) table)
IsNoHosts hosts now OutOfMemory = Unit {0}
IsNoHosts hosts now other = ⊥

abbrev pub AreHostsRead : List ℕ → ℕ → Result (List Host) ForwarderOpenError → Type 0
AreHostsRead hosts now result =
    MatchResult result (λ table. IsBytesRead now hosts [] (Ok tt) table) (IsNoHosts hosts now)

-- these hosts, and what these settings and a file of blocked names say of domains
abbrev pub local_of : SettingsValue → List Host → List ℕ → LocalValue
local_of settings table blocked = record { hosts = table; rules = local_rules settings blocked }

abbrev pub HasRules : SettingsValue → List Host → List ℕ → Result LocalValue ForwarderOpenError → Type 0
HasRules settings table blocked result =
    MatchResult result (λ local. local ≡ local_of settings table blocked) (λ error. error ≡ OutOfMemory)

-- the hosts are read first, at a second
abbrev pub IsLocalRead : SettingsValue → List ℕ → List ℕ → ℕ → Result LocalValue ForwarderOpenError → Type 0
IsLocalRead settings hosts blocked now result =
    (table : Result (List Host) ForwarderOpenError) × AreHostsRead hosts now table
    × MatchResult table (λ table. HasRules settings table blocked result) (λ error. result ≡ Err error)

-- ---- the forwarder

abbrev pub forwarder_or : ForwarderValue → Result (Unit {0}) ForwarderOpenError
    → Result ForwarderValue ForwarderOpenError
forwarder_or f (Ok done) = Ok f
forwarder_or f (Err error) = Err error

abbrev pub HasServers : List PoolServerValue → List DomainGroupValue → ForwarderValue
    → Result ForwarderValue ForwarderOpenError → Type 0
HasServers servers groups before result =
    (ended : Result (Unit {0}) ForwarderOpenError) × (after : ForwarderValue)
    × AsksServers servers groups before ended after × (result ≡ forwarder_or after ended)

-- a pool that asks as these settings say
abbrev pub pool_of : SettingsValue → List ℕ → PoolState
pool_of settings seed = no_servers settings.options default_limits seed

-- nothing is kept, nobody waits, and no group has servers
abbrev pub forwarder_over : SettingsValue → LocalValue → List ℕ → ForwarderValue
forwarder_over settings local seed =
    new_forwarder settings.forwarder local settings.cache settings.failures (pool_of settings seed)

-- the forwarder of these settings over this local data, with its servers, unless memory runs out
abbrev pub IsServed : SettingsValue → LocalValue → List ℕ → Result ForwarderValue ForwarderOpenError → Type 0
IsServed settings local seed result =
    HasServers settings.servers settings.groups (forwarder_over settings local seed) result ⊎ (result ≡ Err OutOfMemory)

-- the local data is read, and then the forwarder is made
abbrev pub IsOpenedOver : SettingsValue → TextsValue → List ℕ → ℕ → Result ForwarderValue ForwarderOpenError → Type 0
IsOpenedOver settings texts seed now result =
    (local : Result LocalValue ForwarderOpenError) × IsLocalRead settings texts.hosts texts.blocked (now / 1000) local
    × MatchResult local (λ local. IsServed settings local seed result) (λ error. result ≡ Err error)

-- the file and the settings are read first; the first fault is told
abbrev pub IsForwarderOpened : TextsValue → List ℕ → ℕ → Result ForwarderValue ForwarderOpenError → Type 0
IsForwarderOpened texts seed now result =
    (read : Result SettingsValue SettingsError) × IsSettingsRead texts.conf texts.hostname texts.settings read
    × MatchResult read (λ settings. IsOpenedOver settings texts seed now result)
    (λ error. result ≡ Err (Settings error))
