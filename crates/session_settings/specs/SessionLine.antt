-- What a line of the settings says: a setting of a script, an option that no script has, or a server.
use Rattle.std.specs.Prelude.{◌≡◌, ℕ, false, List, [], ◌∷◌, codes, Result, Ok, Err, if◌then◌else◌, MatchBool, MatchOption}
use Rattle.std.specs.List.{list_all}
use Rattle.hickory_proto_core.specs.Codes.{is_text}
use Rattle.replay_script.specs.Faults.{LineFaultValue, wrong_line}
use Rattle.replay_script.specs.Fields.{fields, is_allowed, is_skipped}
use Rattle.replay_script.specs.Line.{IsSaid}
use Rattle.replay_script.specs.Words.{◌>>=◌}
use Rattle.replay_script.specs.declared.fault.ScriptFault.TheVariants.{BadByte}
use Rattle.replay_script.specs.declared.line.Line.{Line}
use Rattle.replay_script.specs.declared.line.Line.TheVariants as line
use Rattle.replay_script.specs.declared.setting.Setting.{Setting}
use Rattle.replay_script.specs.declared.setting.Setting.TheVariants as set
use Rattle.session_settings.specs.ServerLine.{server_line}
use Rattle.session_settings.specs.SessionOption.{session_option}
use Rattle.session_settings.specs.declared.session_line.Directive.{Directive}
use Rattle.session_settings.specs.declared.session_line.Directive.TheVariants as directive
use Rattle.session_settings.specs.declared.session_line.SessionLine.{SessionLine}
use Rattle.session_settings.specs.declared.session_line.SessionLine.TheVariants.{Blank, NoSetting, Sets}
use Rattle.session_settings.specs.declared.session_line.SessionSetting.TheVariants as session

-- a setting of a script: how an upstream finds its outcomes is none of a session with a network
abbrev pub setting_said : Setting → SessionLine
setting_said (set.Option option) = Sets (session.Script (set.Option option))
setting_said (set.Domain name) = Sets (session.Script (set.Domain name))
setting_said (set.Search name) = Sets (session.Script (set.Search name))
setting_said (set.Upstream table) = NoSetting

-- a line of a script: outcomes and requests set nothing
abbrev pub line_said : Line → SessionLine
line_said line.Blank = Blank
line_said (line.Reply head) = NoSetting
line_said (line.Fail failure) = NoSetting
line_said (line.Record section found) = NoSetting
line_said (line.Request request) = NoSetting
line_said (line.Configuration setting) = setting_said setting

-- the fields are read as a line of a script, where no reply is open that a record could belong to
abbrev pub IsScriptLine : List (List ℕ) → Result SessionLine LineFaultValue → Type 0
IsScriptLine fields result =
    (read : Result Line LineFaultValue) × IsSaid false fields read × (result ≡ (read >>= (λ l. Ok (line_said l))))

-- the fields behind the first
abbrev pub values_of : List (List ℕ) → List (List ℕ)
values_of [] = []
values_of (word ∷ values) = values

-- what a line is about, by its first field
abbrev pub directive_named : List ℕ → Directive
directive_named word =
    if is_text (codes "server") word then directive.Server else (
    if is_text (codes "option") word then directive.Option else directive.Script)

abbrev pub directive_of : List (List ℕ) → Directive
directive_of [] = directive.Script
directive_of (word ∷ values) = directive_named word

-- the fields behind `server`
abbrev pub server_said : List (List ℕ) → Result SessionLine LineFaultValue
server_said values = server_line values >>= (λ server. Ok (Sets (session.Server server)))

-- a server, an option that no script has, or else a line of a script
abbrev pub IsDirected : Directive → List (List ℕ) → Result SessionLine LineFaultValue → Type 0
IsDirected directive.Server fields result = result ≡ server_said (values_of fields)
IsDirected directive.Option fields result =
    MatchOption (session_option (values_of fields)) (IsScriptLine fields result)
    (λ option. result ≡ (option >>= (λ o. Ok (Sets (session.Option o)))))
IsDirected directive.Script fields result = IsScriptLine fields result

abbrev pub AreSaid : List (List ℕ) → Result SessionLine LineFaultValue → Type 0
AreSaid fields result = IsDirected (directive_of fields) fields result

-- what a line says, or its first fault, with the field that it is about
abbrev pub IsLine : List ℕ → Result SessionLine LineFaultValue → Type 0
IsLine text result =
    MatchBool (is_skipped text) (result ≡ Ok Blank)
    (MatchBool (list_all is_allowed text) (AreSaid (fields text) result) (result ≡ Err (wrong_line BadByte)))
