-- What a forwarder was opened with is read anew.
use Rattle.std.specs.Prelude.{◌≡◌, ◌⊎◌, ◌/◌, ℕ, Result, Ok, Err, MatchBool, MatchResult, if◌then◌else◌}
use Rattle.session_settings.specs.declared.settings_error.SettingsError.{SettingsError}
use Rattle.forwarder_settings.specs.Reading.{SettingsValue}
use Rattle.forwarder_settings.specs.Settings.{IsSettingsRead}
use Rattle.yimarotu_forwarder.specs.Forwarders.{ForwarderValue, with_local}
use Rattle.yimarotu_forwarder.specs.Local.{LocalValue}
use Rattle.yimarotu_forwarder.specs.Options.{OptionsValue}
use Rattle.yimarotu_driven_forwarder.specs.Driven.{DrivenValue, over_forwarder}
use Rattle.yimarotu_driven_forwarder.specs.Opening.{IsLocalRead}
use Rattle.yimarotu_driven_forwarder.specs.Servers.{AsksServers}
use Rattle.yimarotu_driven_forwarder.specs.Texts.{TextsValue, is_same, says_same_of_replies}
use Rattle.yimarotu_driven_forwarder.specs.declared.open_error.ForwarderOpenError.{ForwarderOpenError}
use Rattle.yimarotu_driven_forwarder.specs.declared.open_error.ForwarderOpenError.TheVariants.{Settings, OutOfMemory}

abbrev pub Reloading : Type 1
Reloading = DrivenValue → Result (Unit {0}) ForwarderOpenError → DrivenValue → Type 0

-- it is refused, and nothing changes
abbrev pub Refuses : ForwarderOpenError → Reloading
Refuses error before result after = (result ≡ Err error) × (after ≡ before)

-- What is kept stays, and local data with it, where the texts differ at most in what the settings say of clients.
abbrev pub with_local_of : TextsValue → TextsValue → LocalValue → ForwarderValue → ForwarderValue
with_local_of texts kept local f = if says_same_of_replies texts kept then f else with_local local f

-- a forwarder with these options, this local data and these texts
abbrev pub turned_to : OptionsValue → LocalValue → TextsValue → ForwarderValue → DrivenValue → DrivenValue
turned_to options local texts asking d =
    record d { forwarder = with_local_of texts d.texts local (record asking { options = options }); texts = texts }

-- Each group gets its servers, and then they count. Where memory runs out, the first of the groups have theirs.
abbrev pub Replaces : SettingsValue → LocalValue → TextsValue → Reloading
Replaces settings local texts before result after =
    (ended : Result (Unit {0}) ForwarderOpenError) × (asking : ForwarderValue)
    × AsksServers settings.servers settings.groups before.forwarder ended asking
    × MatchResult ended (λ done. (result ≡ Ok tt) × (after ≡ turned_to settings.forwarder local texts asking before))
    (λ error. (result ≡ Err error) × (after ≡ over_forwarder (λ f. asking) before))

-- or there is no memory to keep the texts
abbrev pub ReplacesOr : SettingsValue → LocalValue → TextsValue → Reloading
ReplacesOr settings local texts before result after =
    Replaces settings local texts before result after ⊎ Refuses OutOfMemory before result after

abbrev pub TakesLocal : SettingsValue → TextsValue → ℕ → Reloading
TakesLocal settings texts now before result after =
    (local : Result LocalValue ForwarderOpenError) × IsLocalRead settings texts.hosts texts.blocked (now / 1000) local
    × MatchResult local (λ local. ReplacesOr settings local texts before result after)
    (λ error. Refuses error before result after)

abbrev pub ReadsAnew : TextsValue → ℕ → Reloading
ReadsAnew texts now before result after =
    (read : Result SettingsValue SettingsError) × IsSettingsRead texts.conf texts.hostname texts.settings read
    × MatchResult read (λ settings. TakesLocal settings texts now before result after)
    (λ error. Refuses (Settings error) before result after)

-- where each text says what it said, nothing changes
abbrev pub Reloads : TextsValue → ℕ → Reloading
Reloads texts now before result after =
    MatchBool (is_same texts before.texts) ((result ≡ Ok tt) × (after ≡ before))
    (ReadsAnew texts now before result after)
