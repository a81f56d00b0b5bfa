-- What a line of the settings says: what is done with a domain, who may ask, which addresses no reply has, an option,
-- or what a line of a session says of its servers and of how they are asked.
use Rattle.std.specs.Prelude.{◌≡◌, ℕ, Bool, true, false, List, [], ◌∷◌, codes, Result, Ok, Err, if◌then◌else◌, MatchBool, MatchOption}
use Rattle.std.specs.List.{list_all}
use Rattle.hickory_proto_core.specs.Codes.{is_text}
use Rattle.hickory_proto_core.specs.Name.{NameValue}
use Rattle.local_answers.specs.declared.rules.Blocked.{Blocked}
use Rattle.local_answers.specs.declared.rules.Blocked.TheVariants.{NoName, NoData, NullAddress}
use Rattle.local_answers.specs.declared.rules.DomainRule.{DomainRule}
use Rattle.local_answers.specs.declared.rules.DomainRule.TheVariants as rule
use Rattle.replay_script.specs.Faults.{LineFaultValue, wrong_field, wrong_line}
use Rattle.replay_script.specs.Fields.{fields, is_allowed, is_skipped}
use Rattle.replay_script.specs.Words.{◌>>=◌, name_field}
use Rattle.replay_script.specs.declared.fault.ScriptFault.TheVariants.{BadByte, FieldCount, UnknownWord}
use Rattle.session_settings.specs.ServerLine.{server_line}
use Rattle.session_settings.specs.SessionLine.{values_of}
use Rattle.session_settings.specs.SessionLine.{AreSaid as AreSaidOfSession}
use Rattle.session_settings.specs.declared.session_line.SessionLine.{SessionLine}
use Rattle.session_settings.specs.declared.session_line.SessionLine.TheVariants as line
use Rattle.session_settings.specs.declared.session_line.SessionSetting.{SessionSetting}
use Rattle.session_settings.specs.declared.session_line.SessionSetting.TheVariants as session
use Rattle.session_settings.specs.declared.session_option.SessionOption.{SessionOption}
use Rattle.session_settings.specs.declared.session_option.SessionOption.TheVariants as asked
use Rattle.forwarder_settings.specs.ForwarderOption.{forwarder_option}
use Rattle.forwarder_settings.specs.Prefixes.{prefix_field}
use Rattle.forwarder_settings.specs.declared.forwarder_line.Directive.{Directive}
use Rattle.forwarder_settings.specs.declared.forwarder_line.Directive.TheVariants as directive
use Rattle.forwarder_settings.specs.declared.forwarder_line.ForwarderLine.{ForwarderLine}
use Rattle.forwarder_settings.specs.declared.forwarder_line.ForwarderLine.TheVariants.{Blank, NoSetting, Sets}
use Rattle.forwarder_settings.specs.declared.forwarder_line.ForwarderSetting.TheVariants as set

-- ---- what is done with a domain and all names below it

-- DOMAIN
abbrev pub rule_for : DomainRule → List ℕ → Result ForwarderLine LineFaultValue
rule_for rule domain = name_field domain >>= (λ name. Ok (Sets (set.Rule name rule)))

-- DOMAIN and a server
abbrev pub forward_of : NameValue → List (List ℕ) → Result ForwarderLine LineFaultValue
forward_of name server = server_line server >>= (λ found. Ok (Sets (set.Forward name found)))

abbrev pub forward_to : List ℕ → List (List ℕ) → Result ForwarderLine LineFaultValue
forward_to domain server = name_field domain >>= (λ name. forward_of name server)

-- `forward` DOMAIN [ADDRESS [PORT] [PROTOCOL]]: without a server the general servers are asked
abbrev pub forward_said : List (List ℕ) → Result ForwarderLine LineFaultValue
forward_said [] = Err (wrong_line FieldCount)
forward_said (domain ∷ []) = rule_for (rule.Ask 0) domain
forward_said (domain ∷ word ∷ words) = forward_to domain (word ∷ words)

-- `serve` DOMAIN
abbrev pub serve_said : List (List ℕ) → Result ForwarderLine LineFaultValue
serve_said (domain ∷ []) = rule_for rule.Serve domain
serve_said fields = Err (wrong_line FieldCount)

-- how a blocked name is answered
abbrev pub blocked_field : List ℕ → Result Blocked LineFaultValue
blocked_field word =
    if is_text (codes "noname") word then Ok NoName else (
    if is_text (codes "nodata") word then Ok NoData else (
    if is_text (codes "null") word then Ok NullAddress else Err (wrong_field UnknownWord word)))

abbrev pub block_of : NameValue → List ℕ → Result ForwarderLine LineFaultValue
block_of name word = blocked_field word >>= (λ blocked. Ok (Sets (set.Rule name (rule.Block blocked))))

abbrev pub block_as : List ℕ → List ℕ → Result ForwarderLine LineFaultValue
block_as domain word = name_field domain >>= (λ name. block_of name word)

-- `block` DOMAIN [ANSWER]
abbrev pub block_said : List (List ℕ) → Result ForwarderLine LineFaultValue
block_said (domain ∷ []) = rule_for (rule.Block NoName) domain
block_said (domain ∷ word ∷ []) = block_as domain word
block_said fields = Err (wrong_line FieldCount)

-- ---- networks

-- `allow` PREFIX
abbrev pub allow_said : List (List ℕ) → Result ForwarderLine LineFaultValue
allow_said (word ∷ []) = prefix_field word >>= (λ net. Ok (Sets (set.Allow net)))
allow_said fields = Err (wrong_line FieldCount)

-- `allow_answers` PREFIX
abbrev pub allow_answers_said : List (List ℕ) → Result ForwarderLine LineFaultValue
allow_answers_said (word ∷ []) = prefix_field word >>= (λ net. Ok (Sets (set.AllowAnswers net)))
allow_answers_said fields = Err (wrong_line FieldCount)

abbrev pub denied_named : List ℕ → Result ForwarderLine LineFaultValue
denied_named word =
    if is_text (codes "private") word then Ok (Sets set.DenyPrivate)
    else (prefix_field word >>= (λ net. Ok (Sets (set.DenyAnswers net))))

-- `deny_answers` PREFIX, or `deny_answers private`
abbrev pub deny_answers_said : List (List ℕ) → Result ForwarderLine LineFaultValue
deny_answers_said (word ∷ []) = denied_named word
deny_answers_said fields = Err (wrong_line FieldCount)

-- `allow_answers_for` DOMAIN
abbrev pub exempt_named : List ℕ → Result ForwarderLine LineFaultValue
exempt_named domain = name_field domain >>= (λ name. Ok (Sets (set.AllowAnswersFor name)))

abbrev pub allow_answers_for_said : List (List ℕ) → Result ForwarderLine LineFaultValue
allow_answers_for_said (domain ∷ []) = exempt_named domain
allow_answers_for_said fields = Err (wrong_line FieldCount)

-- ---- lines of a session

-- whether recursion is asked for, and what a session keeps, are none of a forwarder
abbrev pub is_asking : SessionOption → Bool
is_asking (asked.RecursionDesired t) = false
is_asking (asked.CacheOctets n) = false
is_asking other = true

abbrev pub option_said : SessionOption → ForwarderLine
option_said option = if is_asking option then Sets (set.Asking option) else NoSetting

abbrev pub session_setting_said : SessionSetting → ForwarderLine
session_setting_said (session.Script setting) = NoSetting
session_setting_said (session.Option option) = option_said option
session_setting_said (session.Server server) = Sets (set.Server server)

abbrev pub session_line_said : SessionLine → ForwarderLine
session_line_said line.Blank = Blank
session_line_said line.NoSetting = NoSetting
session_line_said (line.Sets setting) = session_setting_said setting

-- the fields are read as those of a line of a session
abbrev pub IsSessionLine : List (List ℕ) → Result ForwarderLine LineFaultValue → Type 0
IsSessionLine fields result =
    (read : Result SessionLine LineFaultValue) × AreSaidOfSession fields read
    × (result ≡ (read >>= (λ l. Ok (session_line_said l))))

-- ---- a whole line

-- what a line is about, by its first field
abbrev pub directive_named : List ℕ → Directive
directive_named word =
    if is_text (codes "forward") word then directive.Forward else (
    if is_text (codes "serve") word then directive.Serve else (
    if is_text (codes "block") word then directive.Block else (
    if is_text (codes "allow") word then directive.Allow else (
    if is_text (codes "deny_answers") word then directive.DenyAnswers else (
    if is_text (codes "allow_answers") word then directive.AllowAnswers else (
    if is_text (codes "allow_answers_for") word then directive.AllowAnswersFor else (
    if is_text (codes "option") word then directive.Option else directive.Session)))))))

abbrev pub directive_of : List (List ℕ) → Directive
directive_of [] = directive.Session
directive_of (word ∷ values) = directive_named word

abbrev pub IsDirected : Directive → List (List ℕ) → Result ForwarderLine LineFaultValue → Type 0
IsDirected directive.Forward fields result = result ≡ forward_said (values_of fields)
IsDirected directive.Serve fields result = result ≡ serve_said (values_of fields)
IsDirected directive.Block fields result = result ≡ block_said (values_of fields)
IsDirected directive.Allow fields result = result ≡ allow_said (values_of fields)
IsDirected directive.DenyAnswers fields result = result ≡ deny_answers_said (values_of fields)
IsDirected directive.AllowAnswers fields result = result ≡ allow_answers_said (values_of fields)
IsDirected directive.AllowAnswersFor fields result = result ≡ allow_answers_for_said (values_of fields)
IsDirected directive.Option fields result =
    MatchOption (forwarder_option (values_of fields)) (IsSessionLine fields result)
    (λ option. result ≡ (option >>= (λ o. Ok (Sets (set.Option o)))))
IsDirected directive.Session fields result = IsSessionLine fields result

abbrev pub AreSaid : List (List ℕ) → Result ForwarderLine LineFaultValue → Type 0
AreSaid fields result = IsDirected (directive_of fields) fields result

-- what a line says, or its first fault, with the field that it is about
abbrev pub IsLine : List ℕ → Result ForwarderLine LineFaultValue → Type 0
IsLine text result =
    MatchBool (is_skipped text) (result ≡ Ok Blank)
    (MatchBool (list_all is_allowed text) (AreSaid (fields text) result) (result ≡ Err (wrong_line BadByte)))
