-- Lines that set a part of the configuration: `option` KEY VALUE, `domain` NAME, `search` NAME and `upstream` MODE.
use Rattle.std.specs.Prelude.{ℕ, Bool, true, false, List, [], ◌∷◌, codes, Result, Ok, Err, if◌then◌else◌}
use Rattle.hickory_proto_core.specs.Codes.{is_text}
use Rattle.replay_script.specs.Faults.{LineFaultValue, wrong_field, wrong_line}
use Rattle.replay_script.specs.OptionLine.{option_of}
use Rattle.replay_script.specs.Words.{◌>>=◌, only_name}
use Rattle.replay_script.specs.declared.fault.ScriptFault.TheVariants.{FieldCount, UnknownWord}
use Rattle.replay_script.specs.declared.setting.Setting.{Setting}
use Rattle.replay_script.specs.declared.setting.Setting.TheVariants as set
use Rattle.replay_script.specs.declared.setting.SettingKind.{SettingKind}
use Rattle.replay_script.specs.declared.setting.SettingKind.TheVariants as kind

-- whether the mode of a word is a table
abbrev pub mode_named : List ℕ → Result Bool LineFaultValue
mode_named word =
    if is_text (codes "script") word then Ok false else (
    if is_text (codes "table") word then Ok true else Err (wrong_field UnknownWord word))

-- MODE
abbrev pub mode_of : List (List ℕ) → Result Bool LineFaultValue
mode_of (mode ∷ []) = mode_named mode
mode_of fields = Err (wrong_line FieldCount)

-- what the fields behind the directive set
abbrev pub setting_of : SettingKind → List (List ℕ) → Result Setting LineFaultValue
setting_of kind.Option fields = option_of fields >>= (λ line. Ok (set.Option line))
setting_of kind.Domain fields = only_name fields >>= (λ name. Ok (set.Domain name))
setting_of kind.Search fields = only_name fields >>= (λ name. Ok (set.Search name))
setting_of kind.Upstream fields = mode_of fields >>= (λ table. Ok (set.Upstream table))
