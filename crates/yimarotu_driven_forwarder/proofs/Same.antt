-- What is said of octets is said of the same octets.
use Rattle.std.proofs.Common.{◌≡◌, ℕ, List, Result, subst}
use Rattle.forwarder_settings.specs.Reading.{SettingsValue}
use Rattle.forwarder_settings.specs.Settings.{IsSettingsRead}
use Rattle.session_settings.specs.declared.settings_error.SettingsError.{SettingsError}
use Rattle.yimarotu_forwarder.specs.Local.{LocalValue}
use Rattle.yimarotu_driven_forwarder.specs.Opening.{IsLocalRead}
use Rattle.yimarotu_driven_forwarder.specs.declared.open_error.ForwarderOpenError.{ForwarderOpenError}

pub settings_of : (read : Result SettingsValue SettingsError)
    {conf hostname lines conf' hostname' lines' : List ℕ} → conf ≡ conf' → hostname ≡ hostname' → lines ≡ lines' → IsSettingsRead conf hostname lines read
    → IsSettingsRead conf' hostname' lines' read
settings_of read {conf} {hostname} {lines} {conf'} {hostname'} {lines'} c h l is =
    let P : List ℕ → Type 0 = λ t. IsSettingsRead t hostname lines read in
    let Q : List ℕ → Type 0 = λ t. IsSettingsRead conf' t lines read in
    let R : List ℕ → Type 0 = λ t. IsSettingsRead conf' hostname' t read in
    subst R l (subst Q h (subst P c is))

pub local_of : (settings : SettingsValue) (now : ℕ) (read : Result LocalValue ForwarderOpenError)
    {hosts blocked hosts' blocked' : List ℕ} → hosts ≡ hosts' → blocked ≡ blocked'
    → IsLocalRead settings hosts blocked now read → IsLocalRead settings hosts' blocked' now read
local_of settings now read {hosts} {blocked} {hosts'} {blocked'} h b is =
    let P : List ℕ → Type 0 = λ t. IsLocalRead settings t blocked now read in
    let Q : List ℕ → Type 0 = λ t. IsLocalRead settings hosts' t now read in
    subst Q b (subst P h is)
