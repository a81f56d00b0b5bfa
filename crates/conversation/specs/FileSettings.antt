-- What the lines of a file resolv.conf set, once the first request comes.
use Rattle.std.specs.Prelude.{◌≡◌, ℕ, Bool, false, List, [], ◌∷◌, ◌++◌, codes, Option, None, Some, Result, Ok, Err, MatchResult}
use Rattle.std.specs.List.{flat_map}
use Rattle.replay_script.specs.Configuration.{ConfigurationValue, with_setting}
use Rattle.replay_script.specs.Faults.{LineFaultValue}
use Rattle.replay_script.specs.Line.{IsRead}
use Rattle.replay_script.specs.declared.fault.ScriptFault.TheVariants as script
use Rattle.replay_script.specs.declared.line.Line.{Line}
use Rattle.replay_script.specs.declared.line.Line.TheVariants as line
use Rattle.replay_script.specs.declared.setting.Setting.{Setting}
use Rattle.replay_script.specs.declared.setting.Setting.TheVariants as setting
use Rattle.resolv_conf.specs.ResolvConf.{ResolvConfValue, resolv_conf}
use Rattle.resolv_conf.specs.Script.{script_lines}
use Rattle.conversation.specs.declared.fault.ConversationFault.{ConversationFault}
use Rattle.conversation.specs.declared.fault.ConversationFault.TheVariants as fault

-- lines of a script, and whether questions have an EDNS record, which no line of a script says
pub record FileSettingsValue : Type 0 where
  pub lines : List (List ℕ)
  pub edns : Option Bool

abbrev pub settings_of_conf : ResolvConfValue → FileSettingsValue
settings_of_conf conf = record { lines = script_lines conf; edns = Some conf.options.edns0 }

-- the file sets nothing where no line of it was said; its host has no name
abbrev pub file_settings : List ℕ → FileSettingsValue
file_settings [] = record { lines = []; edns = None }
file_settings (octet ∷ octets) = settings_of_conf (resolv_conf (octet ∷ octets) [])

-- ---- lines of a script that set something

-- how outcomes are looked up is for replays alone
abbrev pub kept_setting : Setting → Result Setting ConversationFault
kept_setting (setting.Option one) = Ok (setting.Option one)
kept_setting (setting.Domain name) = Ok (setting.Domain name)
kept_setting (setting.Search name) = Ok (setting.Search name)
kept_setting (setting.Upstream table) = Err (fault.Script script.UnknownDirective)

-- what a line sets, or why it sets nothing
abbrev pub setting_in : Result Line LineFaultValue → Result Setting ConversationFault
setting_in (Ok (line.Configuration one)) = kept_setting one
setting_in (Ok other) = Err (fault.Script script.UnknownDirective)
setting_in (Err f) = Err (fault.Script f.fault)

abbrev pub IsSettingRead : List ℕ → Result Setting ConversationFault → Type 0
IsSettingRead text result =
    (said : Result Line LineFaultValue) × IsRead false text said × (result ≡ setting_in said)

-- lines that set something, one after another, up to the first that does not
abbrev pub AreSet : List (List ℕ) → ConfigurationValue → Result ConfigurationValue ConversationFault → Type 0
AreSet [] before result = result ≡ Ok before
AreSet (text ∷ texts) before result =
    (read : Result Setting ConversationFault) × IsSettingRead text read
    × MatchResult read (λ one. AreSet texts (with_setting one before) result) (λ f. result ≡ Err f)

-- ---- the whole

abbrev pub with_edns : Option Bool → ConfigurationValue → ConfigurationValue
with_edns None c = c
with_edns (Some edns) c = record c { options = record c.options { edns0 = edns } }

-- what was set before, and behind it what the file sets
abbrev pub IsConfigured : FileSettingsValue → ConfigurationValue → Result ConfigurationValue ConversationFault → Type 0
IsConfigured said before result =
    (set : Result ConfigurationValue ConversationFault) × AreSet said.lines before set
    × MatchResult set (λ c. result ≡ Ok (with_edns said.edns c)) (λ f. result ≡ Err f)

-- its lines, as the journal has them
abbrev pub lines_text : List (List ℕ) → List ℕ
lines_text lines = flat_map (λ line. line ++ codes "\n") lines
