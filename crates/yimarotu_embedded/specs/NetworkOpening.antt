-- How a session with a network is opened.
use Rattle.std.specs.Prelude.{◌≡◌, ◌≢◌, ◌⊎◌, ℕ, List, [], Option, None, Some, Result, Ok, Err, MatchResult}
use Rattle.hickory_proto_core.specs.Handles.{OutcomeValue}
use Rattle.hickory_resolver.specs.Reading.{IsBytesRead}
use Rattle.hickory_resolver.specs.hosts.hosts_error.HostsError.TheVariants as hosts_error
use Rattle.hickory_resolver_config.specs.ResolverConfig.{OptionsValue, ResolverConfigValue}
use Rattle.hickory_resolver_model.specs.Hosts.{Host}
use Rattle.hickory_resolver_model.specs.Resolver.{ResolverValue, new_resolver}
use Rattle.hickory_resolver_pool.specs.Pool.{after_servers, default_limits}
use Rattle.hickory_resolver_pool.specs.Servers.{PoolServerValue, first_fixed}
use Rattle.session_settings.specs.Settings.{IsSettingsRead, SettingsValue}
use Rattle.session_settings.specs.declared.settings_error.SettingsError.{SettingsError}
use Rattle.yimarotu_embedded.specs.Seeds.{pool_seed}
use Rattle.yimarotu_embedded.specs.declared.network_opening.NetworkOpenError.{NetworkOpenError}
use Rattle.yimarotu_embedded.specs.declared.network_opening.NetworkOpenError.TheVariants.{Settings, Hosts, FixedPort, OutOfMemory}
use Rattle.yimarotu_session.specs.NetworkSessions.{NetworkValue, new_session, seconds_of, with_pool}

-- a resolver over this table of hosts, with an empty cache
abbrev pub resolver_with : ResolverConfigValue → OptionsValue → List Host → ResolverValue (List OutcomeValue)
resolver_with config options table = record (new_resolver config options []) { hosts = table }

-- that of these settings
abbrev pub config_of : SettingsValue → ResolverConfigValue
config_of settings = record { domain = settings.domain; search = settings.search; name_servers = [] }

abbrev pub resolver_over : SettingsValue → List Host → ResolverValue (List OutcomeValue)
resolver_over settings table = resolver_with (config_of settings) settings.options table

-- the hosts have a fault; or no memory is left
abbrev pub IsNoHosts : List ℕ → ℕ → NetworkOpenError → Type 0
IsNoHosts hosts now (Hosts error) =
    (error ≢ hosts_error.OutOfMemory) × ((table : List Host) × IsBytesRead now hosts [] (Err error) table)
IsNoHosts hosts now OutOfMemory = Unit {0}
IsNoHosts hosts now other = ⊥

abbrev pub AreHostsRead : List ℕ → ℕ → Result (List Host) NetworkOpenError → Type 0
AreHostsRead hosts now result = MatchResult result (λ table. IsBytesRead now hosts [] (Ok tt) table) (IsNoHosts hosts now)

-- the session asks these servers from now on, unless one is to be asked from a given port, or memory runs out
abbrev pub with_servers : List PoolServerValue → NetworkValue → NetworkValue
with_servers servers session = with_pool (after_servers 0 servers session.pool) session

abbrev pub AsksServers : List PoolServerValue → NetworkValue → Result (Unit {0}) NetworkOpenError → NetworkValue → Type 0
AsksServers servers before (Ok done) after =
    (first_fixed servers ≡ None) × (after ≡ with_servers servers before)
AsksServers servers before (Err (FixedPort place)) after = first_fixed servers ≡ Some place
AsksServers servers before (Err OutOfMemory) after = Unit {0}
AsksServers servers before (Err other) after = ⊥

abbrev pub session_or : NetworkValue → Result (Unit {0}) NetworkOpenError → Result NetworkValue NetworkOpenError
session_or session (Ok done) = Ok session
session_or session (Err error) = Err error

abbrev pub HasServers : List PoolServerValue → NetworkValue → Result NetworkValue NetworkOpenError → Type 0
HasServers servers before result =
    (ended : Result (Unit {0}) NetworkOpenError) × (after : NetworkValue)
    × AsksServers servers before ended after × (result ≡ session_or after ended)

-- a session over this resolver, unless memory runs out
abbrev pub IsBegun : List PoolServerValue → ResolverValue (List OutcomeValue) → List ℕ
    → Result NetworkValue NetworkOpenError → Type 0
IsBegun servers resolver seed result =
    HasServers servers (new_session resolver default_limits seed) result ⊎ (result ≡ Err OutOfMemory)

-- that of these settings over these hosts
abbrev pub IsServed : SettingsValue → List Host → List ℕ → Result NetworkValue NetworkOpenError → Type 0
IsServed settings table seed result = IsBegun settings.servers (resolver_over settings table) seed result

-- the hosts are read, and then the session is made
abbrev pub IsOpenedOver : SettingsValue → List ℕ → List ℕ → ℕ → Result NetworkValue NetworkOpenError → Type 0
IsOpenedOver settings hosts seed now result =
    ((table : Result (List Host) NetworkOpenError) × AreHostsRead hosts (seconds_of now) table
    × MatchResult table (λ table. IsServed settings table (pool_seed seed) result) (λ error. result ≡ Err error))
    ⊎ (result ≡ Err OutOfMemory)

-- the file and the settings are read, and then the hosts; the first fault is told
abbrev pub IsOpened : List ℕ → List ℕ → List ℕ → List ℕ → List ℕ → ℕ → Result NetworkValue NetworkOpenError → Type 0
IsOpened conf hostname settings hosts seed now result =
    (read : Result SettingsValue SettingsError) × IsSettingsRead conf hostname settings read
    × MatchResult read (λ settings. IsOpenedOver settings hosts seed now result) (λ error. result ≡ Err (Settings error))
