-- How a session is opened.
use Rattle.std.specs.Prelude.{◌≡◌, ◌≢◌, ◌⊎◌, ◌&&◌, ◌==◌, ℕ, Bool, false, true, List, [], length, Result, Ok, Err, MatchResult}
use Rattle.hickory_proto_core.specs.Handles.{OutcomeValue}
use Rattle.hickory_resolver.specs.Reading.{IsBytesRead}
use Rattle.hickory_resolver.specs.hosts.hosts_error.HostsError.TheVariants as hosts_error
use Rattle.hickory_resolver_model.specs.Hosts.{Host}
use Rattle.hickory_resolver_model.specs.Resolver.{ResolverValue, new_resolver}
use Rattle.replay_script.specs.Script.{IsFault, IsScript, ScriptValue, config_of}
use Rattle.replay_script.specs.declared.fault.ScriptFault.TheVariants as script_fault
use Rattle.yimarotu_session.specs.CacheSetting.{SplitValue, said_by, with_octets}
use Rattle.yimarotu_session.specs.Sessions.{SessionValue}
use Rattle.yimarotu_session.specs.declared.opening.OpenError.{OpenError}
use Rattle.yimarotu_session.specs.declared.opening.OpenError.TheVariants.{Script, NotSettings, Hosts, OutOfMemory}

-- a resolver of these settings over this table of hosts, with an empty cache
abbrev pub resolver_over : ScriptValue → List Host → ResolverValue (List OutcomeValue)
resolver_over script table = record (new_resolver (config_of script) script.options []) { hosts = table }

-- whether a script only sets
abbrev pub only_sets : ScriptValue → Bool
only_sets script = (length script.outcomes == 0) && (length script.requests == 0)

-- the lines of a script that set something, and nothing else
pub record AreSettings (settings : List ℕ) (script : ScriptValue) : Type 0 where
  pub read : IsScript settings (Ok script)
  pub only : only_sets script ≡ true

-- the settings have a fault, or a line does something else; or no memory is left
abbrev pub IsNoSettings : List ℕ → OpenError → Type 0
IsNoSettings settings (Script error) = IsFault settings error × (error.fault ≢ script_fault.OutOfMemory)
IsNoSettings settings NotSettings =
    (script : ScriptValue) × IsScript settings (Ok script) × (only_sets script ≡ false)
IsNoSettings settings (Hosts error) = ⊥
IsNoSettings settings OutOfMemory = Unit {0}

abbrev pub AreLinesRead : List ℕ → Result ScriptValue OpenError → Type 0
AreLinesRead lines result = MatchResult result (AreSettings lines) (IsNoSettings lines)

-- the same where lines may say how many octets the cache may take
pub record AreSettingsSaid (said : SplitValue) (script : ScriptValue) : Type 0 where
  pub plain : ScriptValue
  pub read : AreSettings said.lines plain
  pub bounded : script ≡ with_octets said.octets plain

abbrev pub IsSettingsRead : List ℕ → Result ScriptValue OpenError → Type 0
IsSettingsRead settings result =
    MatchResult result (AreSettingsSaid (said_by settings)) (IsNoSettings (said_by settings).lines)

-- the hosts have a fault; or no memory is left
abbrev pub IsNoHosts : List ℕ → ℕ → OpenError → Type 0
IsNoHosts hosts now (Script error) = ⊥
IsNoHosts hosts now NotSettings = ⊥
IsNoHosts hosts now (Hosts error) =
    (error ≢ hosts_error.OutOfMemory) × ((table : List Host) × IsBytesRead now hosts [] (Err error) table)
IsNoHosts hosts now OutOfMemory = Unit {0}

abbrev pub IsHostsRead : List ℕ → ℕ → Result (List Host) OpenError → Type 0
IsHostsRead hosts now result =
    MatchResult result (λ table. IsBytesRead now hosts [] (Ok tt) table) (IsNoHosts hosts now)

-- the resolver of these settings over these hosts, unless memory runs out, or the hosts have a fault
abbrev pub IsMadeOver : List ℕ → ℕ → ScriptValue → Result (ResolverValue (List OutcomeValue)) OpenError → Type 0
IsMadeOver hosts now script result =
    (table : Result (List Host) OpenError) × IsHostsRead hosts now table
    × MatchResult table (λ table. (result ≡ Ok (resolver_over script table)) ⊎ (result ≡ Err OutOfMemory))
    (λ error. result ≡ Err error)

-- the settings are read, and then the hosts; or there is a fault of the settings, or else of the hosts; or no memory is
-- left
abbrev pub IsMade : List ℕ → List ℕ → ℕ → Result (ResolverValue (List OutcomeValue)) OpenError → Type 0
IsMade settings hosts now result =
    (script : Result ScriptValue OpenError) × IsSettingsRead settings script
    × MatchResult script (λ script. IsMadeOver hosts now script result) (λ error. result ≡ Err error)

-- a session over that resolver, without look-ups
abbrev pub IsOpened : List ℕ → List ℕ → ℕ → Result SessionValue OpenError → Type 0
IsOpened settings hosts now (Ok session) =
    IsMade settings hosts now (Ok session.resolver) × (session.lookups ≡ [])
IsOpened settings hosts now (Err error) = IsMade settings hosts now (Err error)
