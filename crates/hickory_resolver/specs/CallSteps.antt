-- How the code of a call goes on: what it keeps between two sub-look-ups, and what each of its steps comes to.
use Rattle.std.specs.Prelude.{◌≡◌, ◌⊎◌, ◌<◌, ◌+◌, ◌*◌, ℕ, Bool, true, List}
use Rattle.std.specs.Prelude.{[], ◌∷◌, length, reverse, Option, Some, None, Ok, Err}
use Rattle.std.specs.Option.{option_map}
use Rattle.hickory_proto_core.specs.Name.{NameValue}
use Rattle.hickory_proto_core.specs.Records.{data_of}
use Rattle.hickory_proto_core.specs.codes.record_type.RecordType.{RecordType}
use Rattle.hickory_proto_core.specs.declared.query.Query.{Query}
use Rattle.hickory_proto_core.specs.declared.record_data.RData.{RData}
use Rattle.hickory_proto_core.specs.declared.net_error.NetError.TheVariants.{OutOfMemory}
use Rattle.hickory_resolver_attempts.specs.Sought.{asks_for_all, kept_name_for, no_names_of, order_of, results_so_far}
use Rattle.hickory_resolver_attempts.specs.declared.sought.Sought.{Sought}
use Rattle.hickory_resolver_client.specs.Contexts.{progress_of}
use Rattle.hickory_resolver_model.specs.Cache.{CacheValue}
use Rattle.hickory_resolver_model.specs.Calls.{CallContext, context_over, CallPlan, last_resort}
use Rattle.hickory_resolver_model.specs.Hosts.{HostsHave, NotInHosts}
use Rattle.hickory_resolver_model.specs.Lookup.{LookupValue, LookupResult, question_of}
use Rattle.hickory_resolver_model.specs.Hops.{PassedValue}
use Rattle.hickory_resolver_model.specs.Resuming.{WaitingValue, ProgressValue, Waits, IsDone, Starts}
use Rattle.hickory_resolver_theorems.specs.ResumingCalls.{AttemptValue, CallProgressValue, Continues, ContinuesAfter}
use Rattle.hickory_resolver.specs.declared.attempting.Attempt.{Attempt}
use Rattle.hickory_resolver.specs.declared.attempting.CallStep.{CallStep}
use Rattle.hickory_resolver.specs.declared.attempting.CallStep.TheVariants as step

-- what a call does with each name, whose moment this is
abbrev pub plan_value : Sought → Option RData → ℕ → CallPlan
plan_value sought literal now = record {
  types = order_of sought;
  hosts_for_all = asks_for_all sought;
  literal = option_map (λ rdata. last_resort (data_of rdata) now) literal;
  no_names = no_names_of sought;
}

-- a type that is looked up next, with the name
abbrev pub second_of : NameValue → Option RecordType → Option (NameValue × RecordType)
second_of name None = None
second_of name (Some t) = Some (name, t)

-- a call at a name
abbrev pub attempt_value : Attempt → NameValue → ℕ → AttemptValue
attempt_value a name now = record {
  plan = plan_value a.sought a.literal now;
  with_hosts = a.with_hosts;
  name = name;
  results = results_so_far a.first;
  left = reverse a.left.items;
}

-- at the beginning of a name
abbrev pub first_value : Attempt → NameValue → ℕ → AttemptValue
first_value a name now = record (attempt_value a name now) { results = [] }

-- the question that a look-up was started with
abbrev pub first_of : List PassedValue → Query → Query
first_of [] query = query
first_of (p ∷ ps) query = p.query

abbrev pub first_question : WaitingValue → Query
first_question w = first_of w.passed w.hop.query

-- ---- steps

-- the look-up of a type came so far, or the call is over
pub data CallStepValue : Type 0 where
  Goes : ProgressValue → CallStepValue
  Over : LookupResult → CallStepValue

abbrev pub step_of : CallStep → CallStepValue
step_of (step.Goes progress) = Goes (progress_of progress)
step_of (step.Over result) = Over result

-- A type is looked up for a name: by the client, or the table of hosts has it, or memory runs out before.
abbrev pub LooksUpOnce : CallContext → Bool → NameValue → RecordType → CacheValue → CallStepValue
    → CacheValue → Type 0
LooksUpOnce s with_hosts name t before step after =
    ((progress : ProgressValue) × (step ≡ Goes progress) × NotInHosts with_hosts (question_of name t) s.now s.hosts
    × Starts (context_over s before) (question_of name t) progress after)
    ⊎ (((found : LookupValue) × (step ≡ Goes (IsDone (Ok found))) × (with_hosts ≡ true)
    × HostsHave (question_of name t) s.now s.hosts (Some found) × (after ≡ before))
    ⊎ ((step ≡ Over (Err OutOfMemory)) × (after ≡ before)))

-- what a call comes to after a step, over the cache that the step left
abbrev pub ComesAfter : CallContext → AttemptValue → CallStepValue → CacheValue → CallProgressValue
    → CacheValue → Type 0
ComesAfter s a (Goes progress) mid end after = ContinuesAfter s a progress mid end after
ComesAfter s a (Over result) mid end after = (end ≡ IsDone result) × (after ≡ mid)

-- the code can go on with this name: the name is there once more where it may be needed; and a look-up that waits
-- was started with the name, at this moment
abbrev pub IsBegunWith : NameValue → ℕ → ProgressValue → Type 0
IsBegunWith name now (Waits w) = ((first_question w).name ≡ name) × (w.now ≡ now)
IsBegunWith name now (IsDone result) = Unit {0}

pub record IsReady (a : Attempt) (name : NameValue) (now : ℕ) (progress : ProgressValue) : Type 0 where
  pub kept_is : a.kept_name ≡ kept_name_for (order_of a.sought) a.first name
  pub begun : IsBegunWith name now progress

abbrev pub IsReadyAfter : Attempt → NameValue → ℕ → CallStepValue → Type 0
IsReadyAfter a name now (Goes progress) = IsReady a name now progress
IsReadyAfter a name now (Over result) = Unit {0}

-- how many times a type may be looked up yet, at most, after the one that came so far
abbrev pub count_kept : Option NameValue → ℕ
count_kept None = 0
count_kept (Some name) = 1

abbrev pub turns_left : Attempt → ℕ
turns_left a = 2 * length a.left.items + count_kept a.kept_name

-- a step that does not end the call leaves fewer
abbrev pub IsFewer : CallStepValue → ℕ → ℕ → Type 0
IsFewer (Goes progress) fewer more = fewer < more
IsFewer (Over result) fewer more = Unit {0}

-- Whatever a call comes to after a step, it comes to from here.
pub record ContinuesFrom
    (s : CallContext) (from : AttemptValue) (before : CacheValue) (a : Attempt) (now : ℕ) (step : CallStepValue)
    (mid : CacheValue)
    : Type 0 where
  pub name : NameValue
  pub ready : IsReadyAfter a name now step
  pub goes : (end : CallProgressValue) (after : CacheValue)
      → ComesAfter s (attempt_value a name now) step mid end after → Continues s from before end after
