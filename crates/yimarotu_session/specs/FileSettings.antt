-- Settings of a session, and behind them what a file resolv.conf says.
use Rattle.std.specs.Prelude.{◌≡◌, ℕ, Bool, List, [], ◌++◌, codes, Result, Ok, Err, MatchResult}
use Rattle.std.specs.List.{flat_map}
use Rattle.hickory_proto_core.specs.Handles.{OutcomeValue}
use Rattle.hickory_resolver_model.specs.Resolver.{ResolverValue}
use Rattle.replay_script.specs.Script.{ScriptValue}
use Rattle.resolv_conf.specs.ResolvConf.{ResolvConfValue}
use Rattle.resolv_conf.specs.Script.{script_lines}
use Rattle.yimarotu_session.specs.Opening.{IsMadeOver, IsSettingsRead}
use Rattle.yimarotu_session.specs.Sessions.{SessionValue}
use Rattle.yimarotu_session.specs.declared.opening.OpenError.{OpenError}

-- a line of its own
abbrev pub line_behind : List ℕ → List ℕ
line_behind line = codes "\n" ++ line

-- the settings, and behind them the lines of a script that set what the file says
abbrev pub settings_behind : ResolvConfValue → List ℕ → List ℕ
settings_behind conf settings = settings ++ flat_map line_behind (script_lines conf)

-- whether questions have an EDNS record, which no line of a script says
abbrev pub with_edns : Bool → ScriptValue → ScriptValue
with_edns edns script = record script { options = record script.options { edns0 = edns } }

-- the resolver of these settings, whose questions have an EDNS record or not
abbrev pub IsMadeSo : Bool → List ℕ → List ℕ → ℕ → Result (ResolverValue (List OutcomeValue)) OpenError → Type 0
IsMadeSo edns settings hosts now result =
    (script : Result ScriptValue OpenError) × IsSettingsRead settings script
    × MatchResult script (λ script. IsMadeOver hosts now (with_edns edns script) result) (λ error. result ≡ Err error)

-- the resolver of these settings, and behind them of the file
abbrev pub IsMadeBehind : ResolvConfValue → List ℕ → List ℕ → ℕ
    → Result (ResolverValue (List OutcomeValue)) OpenError → Type 0
IsMadeBehind conf settings hosts now result =
    IsMadeSo conf.options.edns0 (settings_behind conf settings) hosts now result

-- a session over that resolver, without look-ups
abbrev pub IsOpenedWith : ResolvConfValue → List ℕ → List ℕ → ℕ → Result SessionValue OpenError → Type 0
IsOpenedWith conf settings hosts now (Ok session) =
    IsMadeBehind conf settings hosts now (Ok session.resolver) × (session.lookups ≡ [])
IsOpenedWith conf settings hosts now (Err error) = IsMadeBehind conf settings hosts now (Err error)
