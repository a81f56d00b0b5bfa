-- A run of a script over a table of hosts, and its text.
use Rattle.std.specs.Prelude.{◌≡◌, ◌⊎◌, ℕ, Bool, true, not, List, [], ◌∷◌, map, Ok, Err, MatchBool}
use Rattle.std.specs.List.{list_all}
use Rattle.hickory_proto_core.specs.Handles.{OutcomeValue, HandleStep, ScriptStep}
use Rattle.hickory_proto_core.specs.Table.{TableValue, TableStep, outcome_in, last_given}
use Rattle.hickory_proto_core.specs.declared.query.Query.{Query}
use Rattle.hickory_proto_core.specs.declared.recorded.Exchange.{Exchange}
use Rattle.hickory_resolver.specs.Reading.{IsBytesRead}
use Rattle.hickory_resolver.specs.hosts.hosts_error.HostsError.{HostsError}
use Rattle.hickory_resolver.specs.hosts.hosts_error.HostsError.TheVariants as hosts_error
use Rattle.hickory_resolver_model.specs.Cache.{CacheValue}
use Rattle.hickory_resolver_model.specs.Hosts.{Host}
use Rattle.hickory_resolver_theorems.specs.Promises.{PromisedRun}
use Rattle.hickory_resolver_model.specs.Run.{RequestValue, Settings, StepValue, ends_run, moment_of, settings_of}
use Rattle.replay_script.specs.Script.{IsFault, IsWholeScript, ScriptValue, config_of, script_of}
use Rattle.replay_script.specs.declared.fault.ScriptFault.TheVariants as fault
use Rattle.replay_script.specs.declared.fault.ScriptFault.{ScriptFault}
use Rattle.replay_script.specs.declared.fault.ScriptError.{ScriptError}
use Rattle.replay_script.specs.declared.line.Line.{Line}
use Rattle.replay_script.specs.Output.{run_text}
use Rattle.replay.specs.declared.error.ReplayError.{ReplayError}
use Rattle.replay.specs.declared.error.ReplayError.TheVariants.{Script, Hosts, Memory}

-- there was memory for each step
abbrev pub is_remembered : List StepValue → Bool
is_remembered steps = list_all (λ s. not (ends_run s.reply)) steps

-- the text of steps for which there was memory
abbrev pub IsToldBy : List RequestValue → List StepValue → List Exchange → List ℕ → Type 0
IsToldBy requests steps exchanges text =
    (is_remembered steps ≡ true) × (text ≡ run_text requests steps exchanges)

-- The requests are run over this upstream, and memory does not run out: the text of that run, of which all is promised
-- that is promised of one.
pub record IsTextOfRun
    {H : Type 0} (step : HandleStep H) (s : Settings) (upstream : H) (requests : List RequestValue) (text : List ℕ)
    : Type 0 where
  pub steps : List StepValue
  pub exchanges : List Exchange
  pub upstream_after : H
  pub cache_after : CacheValue
  pub run : PromisedRun step s upstream requests steps exchanges upstream_after cache_after
  pub told : IsToldBy requests steps exchanges text

-- over an upstream that looks each question up among outcomes, of which the last of equal questions counts
abbrev pub IsTableTold : Settings → List (Query × OutcomeValue) → List RequestValue → List ℕ → Type 0
IsTableTold s outcomes requests text =
    (table : TableValue) × ((q : Query) → outcome_in q table ≡ last_given q outcomes)
    × IsTextOfRun TableStep s table requests text

-- over the upstream of a script: a table, or one that answers the outcomes in order, whatever is asked
abbrev pub IsScriptTold : ScriptValue → List Host → List ℕ → Type 0
IsScriptTold script hosts text =
    let s = settings_of (config_of script) script.options hosts in
    MatchBool script.table (IsTableTold s script.outcomes script.requests text)
    (IsTextOfRun ScriptStep s (map (λ o. o.1) script.outcomes) script.requests text)

-- the moment of the first request, or 0
abbrev pub first_moment : List RequestValue → ℕ
first_moment [] = 0
first_moment (request ∷ requests) = moment_of request

-- a file of hosts is read into an empty table at a moment, or is refused: a line is not UTF-8, or no memory
-- is left
abbrev pub IsTable : ℕ → List ℕ → List Host → Type 0
IsTable now hosts table = IsBytesRead now hosts [] (Ok tt) table

abbrev pub IsBroken : ℕ → List ℕ → ReplayError → Type 0
IsBroken now hosts error =
    (table : List Host) × IsBytesRead now hosts [] (Err hosts_error.InvalidData) table
    × (error ≡ Hosts hosts_error.InvalidData)

abbrev pub IsNoTable : ℕ → List ℕ → ReplayError → Type 0
IsNoTable now hosts error = (error ≡ Memory) ⊎ IsBroken now hosts error

-- over what a file of hosts says, read at the moment of the first request
pub record IsToldOver (script : ScriptValue) (hosts text : List ℕ) : Type 0 where
  pub table : List Host
  pub hosts_are : IsTable (first_moment script.requests) hosts table
  pub told : IsScriptTold script table text

-- the text of a run of what the lines of the script say, over what a file of hosts says
pub record IsReplayed (script hosts text : List ℕ) : Type 0 where
  pub said : List Line
  pub read : IsWholeScript script said
  pub told : IsToldOver (script_of said) hosts text

-- a script that cannot be read, or out of memory
abbrev pub replay_fault : ScriptFault → ScriptError → ReplayError
replay_fault fault.OutOfMemory error = Memory
replay_fault other error = Script error

abbrev pub replay_error_of : ScriptError → ReplayError
replay_error_of error = replay_fault error.fault error

abbrev pub IsScriptFault : List ℕ → ReplayError → Type 0
IsScriptFault script error =
    (e : ScriptError) × IsFault script e × (error ≡ replay_error_of e)

-- hosts that cannot be read, over a script without a fault
abbrev pub IsHostsFault : List ℕ → List ℕ → ReplayError → Type 0
IsHostsFault script hosts error =
    (said : List Line) × IsWholeScript script said × IsBroken (first_moment (script_of said).requests) hosts error

-- why there is no text: the script's first fault, else that of the hosts; or no memory is left
abbrev pub IsRefused : List ℕ → List ℕ → ReplayError → Type 0
IsRefused script hosts error =
    (error ≡ Memory) ⊎ IsScriptFault script error ⊎ IsHostsFault script hosts error

-- a fault of the hosts, or out of memory
abbrev pub hosts_fault : HostsError → ReplayError
hosts_fault hosts_error.OutOfMemory = Memory
hosts_fault other = Hosts other
