-- A call of the resolver that does no I/O. It attempts its names one after another, each for the types of its plan, one
-- after another. Each of these sub-look-ups is answered by the table of hosts, or it is started and goes on with what
-- came back. In between, others may have stored, cleared or evicted. The moment of a call is that of its start.
use Rattle.std.specs.Prelude.{◌≡◌, ◌⊎◌, Bool, true, false, List, [], ◌∷◌, ◌++◌, Some, Ok, Err}
use Rattle.hickory_proto_core.specs.Name.{NameValue}
use Rattle.hickory_proto_core.specs.Handles.{OutcomeValue}
use Rattle.hickory_proto_core.specs.codes.record_type.RecordType.{RecordType}
use Rattle.hickory_proto_core.specs.declared.recorded.Exchange.{Exchange}
use Rattle.hickory_proto_core.specs.declared.net_error.NetError.TheVariants.{OutOfMemory}
use Rattle.hickory_resolver_model.specs.Attempts.{attempts}
use Rattle.hickory_resolver_model.specs.Cache.{CacheValue}
use Rattle.hickory_resolver_model.specs.Calls.{CallContext, context_over, SubLookup, IsAnsweredFor, CallPlan, Says, next_type, IsAttemptResult, IsLastReply, stops, asks_of_sub_lookups, is_out_of_memory}
use Rattle.hickory_resolver_model.specs.Hosts.{HostsHave, NotInHosts}
use Rattle.hickory_resolver_model.specs.Lookup.{LookupValue, LookupResult, question_of}
use Rattle.hickory_resolver_model.specs.Resuming.{Progress, WaitingValue, ProgressValue, Waits, IsDone, Starts, Resumes}
use Rattle.hickory_resolver_model.specs.Run.{Settings, Call, AtOnce, Attempt, IsCall}

-- how far a call came: what it does with each name, whether the table of hosts is looked at for this name, the name, the
-- results of the name's sub-look-ups so far, and the names that are left
pub record AttemptValue : Type 0 where
  pub plan : CallPlan
  pub with_hosts : Bool
  pub name : NameValue
  pub results : List LookupResult
  pub left : List NameValue

-- a call whose sub-look-up waits
pub record WaitingCallValue : Type 0 where
  pub attempt : AttemptValue
  pub lookup : WaitingValue

abbrev pub CallProgressValue : Type 0
CallProgressValue = Progress WaitingCallValue

-- the same attempt with the result of one more sub-look-up, and the attempt at the next name
abbrev pub with_result : AttemptValue → LookupResult → AttemptValue
with_result a result = record a { results = a.results ++ result ∷ [] }

abbrev pub at_next : AttemptValue → NameValue → List NameValue → AttemptValue
at_next a name left = record a { with_hosts = a.plan.hosts_for_all; name = name; results = []; left = left }

-- a type of the plan is to be looked up, and the table of hosts has it, or memory runs out for a copy of that
pub record FindsInHosts (s : CallContext) (a : AttemptValue) (t : RecordType) (result : LookupResult) : Type 0 where
  pub next : next_type a.plan.types a.results ≡ Some t
  pub with_hosts : a.with_hosts ≡ true
  pub found : LookupValue
  pub has : HostsHave (question_of a.name t) s.now s.hosts (Some found)
  pub result_is : (result ≡ Ok found) ⊎ (result ≡ Err OutOfMemory)

-- a type of the plan is looked up, which the table does not have, or is not looked at for
pub record StartsSub
    (s : CallContext) (a : AttemptValue) (t : RecordType) (before : CacheValue) (progress : ProgressValue)
    (after : CacheValue)
    : Type 0 where
  pub next : next_type a.plan.types a.results ≡ Some t
  pub not_in_hosts : NotInHosts a.with_hosts (question_of a.name t) s.now s.hosts
  pub starts : Starts (context_over s before) (question_of a.name t) progress after

-- How a call goes on over the cache that stands: one sub-look-up after another is done at once, and one attempt after
-- another, until one of them waits or the call is done.
pub data Continues (s : CallContext) : AttemptValue → CacheValue → CallProgressValue → CacheValue → Type 0 where
  by_hosts : {a : AttemptValue} {t : RecordType} {result : LookupResult} {before after : CacheValue}
      {progress : CallProgressValue} → FindsInHosts s a t result
      → Continues s (with_result a result) before progress after → Continues s a before progress after
  waits : {a : AttemptValue} {t : RecordType} {w : WaitingValue} {before after : CacheValue}
      → StartsSub s a t before (Waits w) after
      → Continues s a before (Waits (record { attempt = a; lookup = w })) after
  at_once : {a : AttemptValue} {t : RecordType} {result : LookupResult} {before mid after : CacheValue}
      {progress : CallProgressValue} → StartsSub s a t before (IsDone result) mid
      → Continues s (with_result a result) mid progress after → Continues s a before progress after
  stopped : {a : AttemptValue} {result : LookupResult} {before : CacheValue}
      → IsAttemptResult a.plan.types a.results result → stops result ≡ true
      → Continues s a before (IsDone result) before
  next_name : {a : AttemptValue} {result : LookupResult} {name : NameValue} {names : List NameValue}
      {before after : CacheValue} {progress : CallProgressValue}
      → IsAttemptResult a.plan.types a.results result → stops result ≡ false → a.left ≡ name ∷ names
      → Continues s (at_next a name names) before progress after → Continues s a before progress after
  no_name : {a : AttemptValue} {last result : LookupResult} {before : CacheValue}
      → IsAttemptResult a.plan.types a.results last → stops last ≡ false → a.left ≡ []
      → IsLastReply a.plan.literal (λ r. r ≡ last) result → Continues s a before (IsDone result) before

-- names are attempted by a plan
abbrev pub StartsNames : CallContext → CallPlan → Bool → List NameValue → CacheValue → CallProgressValue → CacheValue
    → Type 0
StartsNames s plan with_hosts [] before progress after =
    (result : LookupResult) × IsLastReply plan.literal (Says plan.no_names) result
    × (progress ≡ IsDone result) × (after ≡ before)
StartsNames s plan with_hosts (name ∷ names) before progress after =
    Continues s (record { plan = plan; with_hosts = with_hosts; name = name; results = []; left = names }) before progress after

-- a call is started; or memory runs out before anything is attempted
abbrev pub StartsCall : CallContext → Settings → Call → CacheValue → CallProgressValue → CacheValue → Type 0
StartsCall s settings (AtOnce answer) before progress after = (progress ≡ IsDone answer) × (after ≡ before)
StartsCall s settings (Attempt name plan) before progress after =
    StartsNames s plan true (attempts settings.search name) before progress after

abbrev pub RunsOutAtStart : CacheValue → CallProgressValue → CacheValue → Type 0
RunsOutAtStart before progress after = (progress ≡ IsDone (Err OutOfMemory)) × (after ≡ before)

-- the sub-look-up that waited goes on, and the call with it
abbrev pub ContinuesAfter : CallContext → AttemptValue → ProgressValue → CacheValue → CallProgressValue → CacheValue
    → Type 0
ContinuesAfter s a (Waits w) before progress after =
    (progress ≡ Waits (record { attempt = a; lookup = w })) × (after ≡ before)
ContinuesAfter s a (IsDone result) before progress after = Continues s (with_result a result) before progress after

-- a call that waits goes on with what came back to its question
abbrev pub ResumesCall : CallContext → WaitingCallValue → OutcomeValue → CacheValue → CallProgressValue → CacheValue
    → Type 0
ResumesCall s w outcome before progress after =
    (lookup : ProgressValue) × (mid : CacheValue) × Resumes (context_over s before) w.lookup outcome lookup mid
    × ContinuesAfter s w.attempt lookup mid progress after

-- ---- a call that blocks

-- A call is driven from where it stands, from a moment on: what comes back to each of its questions is fed to it at
-- once, so that nothing but itself changes the cache.
abbrev pub IsCallDriven : CallContext → CallProgressValue → CacheValue → List Exchange → LookupResult → CacheValue
    → Type 0
IsCallDriven s progress cache [] result after = (progress ≡ IsDone result) × (after ≡ cache)
IsCallDriven s (Waits w) cache (x ∷ xs) result after =
    (w.lookup.now ≡ s.now) × (x.query ≡ w.lookup.hop.query) × (next : CallProgressValue) × (mid : CacheValue)
    × ResumesCall s w x.outcome cache next mid × IsCallDriven s next mid xs result after
IsCallDriven s (IsDone early) cache (x ∷ xs) result after = ⊥

-- it is started, and driven to its end
pub record IsCallStartedAndDriven
    (s : CallContext) (settings : Settings) (call : Call) (before : CacheValue) (asks : List Exchange)
    (result : LookupResult) (after : CacheValue)
    : Type 0 where
  pub progress : CallProgressValue
  pub cache : CacheValue
  pub starts : StartsCall s settings call before progress cache
  pub driven : IsCallDriven s progress cache asks result after

-- A call that is driven is one that blocks. One that blocks can be driven, where memory does not run out; where it does, a
-- call that blocks may end in more ways, as after an error came back.
pub record IsCallDrivenAlike
    (s : CallContext) (settings : Settings) (call : Call) (before : CacheValue) (asks : List Exchange)
    (result : LookupResult) (after : CacheValue)
    : Type 0 where
  pub forth : IsCallStartedAndDriven s settings call before asks result after
      → (parts : List SubLookup) × (asks ≡ asks_of_sub_lookups parts)
      × IsCall (IsAnsweredFor s) settings before call parts result after
  pub back : (parts : List SubLookup) → asks ≡ asks_of_sub_lookups parts
      → IsCall (IsAnsweredFor s) settings before call parts result after → is_out_of_memory result ≡ false
      → IsCallStartedAndDriven s settings call before asks result after
