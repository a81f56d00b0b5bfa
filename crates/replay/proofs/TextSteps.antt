-- The text of a run, step by step, and why there is no table of hosts.
use Rattle.std.proofs.Common.{◌≡◌, ◌∙◌, ℕ, Bool, true, false, not, MatchBool, List, [], ◌∷◌}
use Rattle.std.proofs.Common.{◌++◌, take, drop, map, Result, Ok, Err, IfErr, IfOk, String, string_bytes}
use Rattle.std.proofs.Common.{refl, sym, ap, subst, inl, inr, append_assoc}
use Rattle.std.proofs.lemmas.Bool.{and_from}
use Rattle.std.proofs.lemmas.List.{append-nil}
use Rattle.hickory_proto_core.specs.Handles.{OutcomeValue, HandleStep, RecordedValue, ScriptStep}
use Rattle.hickory_proto_core.specs.declared.query.Query.{Query}
use Rattle.hickory_resolver_config.specs.ResolverConfig.{ResolverConfigValue, OptionsValue}
use Rattle.hickory_proto_core.specs.declared.recorded.Exchange.{Exchange}
use Rattle.hickory_resolver.specs.Reading.{IsBytesRead}
use Rattle.hickory_resolver.specs.hosts.hosts_error.HostsError.{HostsError}
use Rattle.hickory_resolver.specs.hosts.hosts_error.HostsError.TheVariants as hosts_error
use Rattle.hickory_resolver_model.specs.Hosts.{Host}
use Rattle.hickory_resolver_model.specs.Resolver.{ResolverValue}
use Rattle.hickory_resolver_model.specs.Run.{RequestValue, Settings, StepValue, settings_of}
use Rattle.hickory_resolver.specs.Listening.{Hears, HearsAll}
use Rattle.hickory_resolver.specs.Transcripts.{NewRun}
use Rattle.replay.specs.Hearing.{AddsBlock}
use Rattle.replay_script.specs.Output.{run_text, step_text}
use Rattle.replay.specs.ScriptRun.{IsBroken, IsNoTable, IsRefused, IsScriptTold, IsTableTold}
use Rattle.replay.specs.ScriptRun.{IsTextOfRun, first_moment, hosts_fault, is_remembered}
use Rattle.replay_script.specs.Script.{IsWholeScript, ScriptValue, config_of, script_of}
use Rattle.replay_script.specs.declared.line.Line.{Line}
use Rattle.replay.specs.declared.error.ReplayError.{ReplayError}

-- what a listener hears of that adds the block of each step to its text
module _ {L : Type 0} (text : L → List ℕ) (hears : Hears L)
    (adds : (before : L) (request : RequestValue) (sent : List Exchange) (step : StepValue) (after : L)
    → hears before request sent step after → AddsBlock (text before) request sent step (text after)) where
  -- the text of the run is added
  pub heard_text : (requests : List RequestValue) (steps : List StepValue) (exchanges : List Exchange)
      (before after : L) → HearsAll hears before requests steps exchanges after
      → text after ≡ text before ++ run_text requests steps exchanges
  heard_text [] [] exchanges before after same = ap text same ∙ sym (append-nil (text before))
  heard_text [] (step ∷ steps) exchanges before after heard = absurd heard
  heard_text (request ∷ requests) [] exchanges before after same = ap text same ∙ sym (append-nil (text before))
  heard_text (request ∷ requests) (step ∷ steps) exchanges before after (mid, heard, rest) =
      let block = step_text request (map (λ x. x.query) (take step.exchanges exchanges)) step.reply in
      let behind = run_text requests steps (drop step.exchanges exchanges) in
      heard_text requests steps (drop step.exchanges exchanges) mid after rest
      ∙ ap (λ t. t ++ behind) (adds before request _ step mid heard).1
      ∙ append_assoc (text before) block behind

  -- there was memory for each step
  pub heard_remembered : (requests : List RequestValue) (steps : List StepValue) (exchanges : List Exchange)
      (before after : L) → HearsAll hears before requests steps exchanges after → is_remembered steps ≡ true
  heard_remembered [] [] exchanges before after same = refl
  heard_remembered (request ∷ requests) [] exchanges before after same = refl
  heard_remembered [] (step ∷ steps) exchanges before after heard = absurd heard
  heard_remembered (request ∷ requests) (step ∷ steps) exchanges before after (mid, heard, rest) =
      and_from _ _ (ap not (adds before request _ step mid heard).0)
      (heard_remembered requests steps (drop step.exchanges exchanges) mid after rest)

fault_of : (now : ℕ) (hosts : List ℕ) (fault : HostsError) (table : List Host)
    → IsBytesRead now hosts [] (Err fault) table → IsNoTable now hosts (hosts_fault fault)
fault_of now hosts hosts_error.Read table read = absurd read
fault_of now hosts hosts_error.InvalidData table read = inr (table, read, refl)
fault_of now hosts hosts_error.OutOfMemory table read = inl refl

pub no_table : (now : ℕ) (hosts : List ℕ) (start : List Host) (fault : HostsError) (table : List Host)
    (error : ReplayError) → start ≡ [] → IsBytesRead now hosts start (Err fault) table → error ≡ hosts_fault fault
    → IsNoTable now hosts error
no_table now hosts start fault table error empty read error_is =
    let P : List Host → Type 0 = λ before. IsBytesRead now hosts before (Err fault) table in
    subst (IsNoTable now hosts) (sym error_is) (fault_of now hosts fault table (subst P empty read))

-- the text of a run whose steps were heard of
pub told_run : {H L : Type 0} (step : HandleStep H) (config : ResolverConfigValue) (options : OptionsValue)
    (hosts : List Host) (upstream : H) (requests : List RequestValue) (text : L → List ℕ) (hears : Hears L)
    → ((before : L) (request : RequestValue) (sent : List Exchange) (made : StepValue) (after : L)
    → hears before request sent made after → AddsBlock (text before) request sent made (text after))
    → (before : L) (steps : List StepValue) (resolver : ResolverValue (RecordedValue H)) (after : L) → text before
    ≡ [] → NewRun step config options hosts upstream requests steps resolver
    → HearsAll hears before requests steps resolver.client.handle.exchanges after
    → IsTextOfRun step (settings_of config options hosts) upstream requests (text after)
told_run step config options hosts upstream requests text hears adds before steps resolver after none run heard =
    let exchanges = resolver.client.handle.exchanges in
    record {
      steps = steps;
      exchanges = exchanges;
      upstream_after = resolver.client.handle.handle;
      cache_after = resolver.client.cache;
      run = run.promised;
      told = (
        heard_remembered text hears adds requests steps exchanges before after heard,
        heard_text text hears adds requests steps exchanges before after heard
            ∙ ap (λ t. t ++ run_text requests steps exchanges) none,
      );
    }

-- the text of a run of what a script says is that of the script
module _ (script : ScriptValue) (hosts : List Host) (config : ResolverConfigValue) (options : OptionsValue)
    (outcomes : List (Query × OutcomeValue)) (requests : List RequestValue)
    (config_is : config ≡ config_of script) (options_are : options ≡ script.options)
    (outcomes_are : outcomes ≡ script.outcomes) (requests_are : requests ≡ script.requests) where
  settings_are : settings_of config options hosts ≡ settings_of (config_of script) script.options hosts
  settings_are = λ i. settings_of (config_is i) (options_are i) hosts

  -- over outcomes that are answered in order
  pub told_in_order : {Z E : Type 0} (result : Result (String Z) E) (answered : List OutcomeValue) → script.table
      ≡ false → answered ≡ map (λ o. o.1) outcomes
      → IfOk result (λ text. IsTextOfRun ScriptStep (settings_of config options hosts) answered requests
      (string_bytes text)) → IfOk result (λ text. IsScriptTold script hosts (string_bytes text))
  told_in_order (Ok text) answered in_order answered_are told =
      let s = settings_of (config_of script) script.options hosts in
      let U : List OutcomeValue → Type 0 = λ os. IsTextOfRun ScriptStep (settings_of config options hosts) os requests
      (string_bytes text) in
      let S : Settings → Type 0 = λ x. IsTextOfRun ScriptStep x (map (λ o. o.1) outcomes) requests (string_bytes text) in
      let A : List (Query × OutcomeValue) → Type 0 = λ os. IsTextOfRun ScriptStep s (map (λ o. o.1) os) requests (string_bytes text) in
      let R : List RequestValue → Type 0 = λ rs. IsTextOfRun ScriptStep s (map (λ o. o.1) script.outcomes) rs (string_bytes text) in
      let T : Bool → Type 0 = λ b. MatchBool b (IsTableTold s script.outcomes script.requests (string_bytes text))
      (IsTextOfRun ScriptStep s (map (λ o. o.1) script.outcomes) script.requests (string_bytes text)) in
      subst T (sym in_order) (subst R requests_are (subst A outcomes_are (subst S settings_are (subst U answered_are told))))
  told_in_order (Err error) answered in_order answered_are told = tt

-- no text of a script that was read whole
pub refused : {A : Type 0} (script hosts : List ℕ) (said : List Line) (read : ScriptValue) (result : Result A ReplayError)
    → IsWholeScript script said → read ≡ script_of said
    → IfErr result (IsNoTable (first_moment read.requests) hosts) → IfErr result (IsRefused script hosts)
refused script hosts said read (Ok value) whole read_is none = tt
refused script hosts said read (Err error) whole read_is (inl out) = inl out
refused script hosts said read (Err error) whole read_is (inr broken) =
    let P : ScriptValue → Type 0 = λ s. IsBroken (first_moment s.requests) hosts error in
    inr (inr (said, whole, subst P read_is broken))
