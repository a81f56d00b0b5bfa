-- A pool of name servers, and what each event and each step does with it.
use Rattle.std.specs.Prelude.{◌≡◌, ℕ, ◌*◌, ◌-◌, ◌^◌, Bool, true, false, ◌&&◌, ◌==◌, List, [], min, map, Option, None, Some, if◌then◌else◌}
use Rattle.std.specs.Option.{is_some, option_map_or, option_and_then}
use Rattle.std.specs.Map.{lookup}
use Rattle.indexmap.specs.IndexMap.{swap_remove_entry}
use Rattle.indexmap.specs.IndexMap as index
use Rattle.hickory_proto_core.specs.declared.dns_request.DnsRequestOptions.{DnsRequestOptions}
use Rattle.hickory_proto_wire.specs.Refused.{name_fault}
use Rattle.hickory_proto_wire.specs.declared.to_wire_error.ToWireError.{ToWireError}
use Rattle.hickory_resolver_askers.specs.Askers.{askers_of, joiner}
use Rattle.hickory_resolver_askers.specs.declared.asker.Asker.{Asker}
use Rattle.hickory_resolver_config.specs.ResolverConfig.{OptionsValue}
use Rattle.hickory_resolver_transactions.specs.Settings.{settings_of}
use Rattle.hickory_resolver_transactions.specs.Transaction.{outcome_of}
use Rattle.hickory_resolver_transactions.specs.declared.outcome.Outcome.{Outcome}
use Rattle.hickory_resolver_transactions.specs.declared.settings.Settings.{Settings}
use Rattle.hickory_resolver_tries.specs.Question.{question_eq}
use Rattle.hickory_resolver_tries.specs.declared.pool_question.PoolQuestion.{PoolQuestion}
use Rattle.hickory_resolver_traffic.specs.Doing.{Scene, doing as doing_of, IsDone, closed_by, is_empty}
use Rattle.hickory_resolver_traffic.specs.Groups.{current_of, list_at}
use Rattle.hickory_resolver_traffic.specs.Table.{CurrentState, EntryState}
use Rattle.hickory_resolver_traffic.specs.Tasks.{task_of, after_task, did as did_of, put_back, put_back_ready, ended}
use Rattle.hickory_resolver_traffic.specs.Traffic.{TrafficState, no_traffic, ticked, with_group}
use Rattle.hickory_resolver_traffic.specs.Traffic as traffic
use Rattle.hickory_resolver_traffic.specs.declared.doing.Doing.{Doing}
use Rattle.hickory_resolver_traffic.specs.declared.doing.Doing.TheVariants as doing
use Rattle.hickory_resolver_traffic.specs.declared.inbox.ChannelFailure.{ChannelFailure}
use Rattle.hickory_resolver_traffic.specs.declared.starting.Did.{Did}
use Rattle.hickory_resolver_traffic.specs.declared.starting.Did.TheVariants as did
use Rattle.hickory_resolver_traffic.specs.declared.traffic.Rules.{Rules}
use Rattle.hickory_resolver_traffic.specs.declared.traffic.TrafficLimits.{TrafficLimits}
use Rattle.hickory_resolver_pool.specs.Over.{OverValue, told_as}
use Rattle.hickory_resolver_pool.specs.Servers.{PoolServerValue, states_of, sources_of}
use Rattle.hickory_resolver_pool.specs.declared.limits.PoolLimits.{PoolLimits}
use Rattle.hickory_resolver_pool.specs.declared.limits.TheConstants.{MOST_IN_FLIGHT, MOST_WAITING, MOST_CHANNELS}
use Rattle.hickory_resolver_pool.specs.declared.over.PoolOutcome.{PoolOutcome}
use Rattle.hickory_resolver_pool.specs.declared.over.PoolOutcome.TheVariants.{Unreachable, Overloaded}
use Rattle.hickory_resolver_pool.specs.declared.pool.Action.{Action}
use Rattle.hickory_resolver_pool.specs.declared.pool.Action.TheVariants as action
use Rattle.hickory_resolver_pool.specs.declared.pool.Asked.{Asked}
use Rattle.hickory_resolver_pool.specs.declared.pool.Asked.TheVariants as asked

-- ---- what the options and the limits say

abbrev pub default_limits : PoolLimits
default_limits = record { transactions = MOST_IN_FLIGHT; waiting = MOST_WAITING; channels = MOST_CHANNELS }

abbrev pub limits_of : PoolLimits → OptionsValue → TrafficLimits
limits_of limits options = record {
  channels = record { channels = limits.channels; tries_on_stream = options.max_active_requests };
  askers = record { transactions = limits.transactions; waiting = limits.waiting };
}

-- a timeout of the options is of seconds
abbrev pub rules_of : OptionsValue → Rules
rules_of options = record {
  timeout = min (options.timeout * 1000) (2 ^ 64 - 1);
  strategy = options.server_ordering_strategy;
}

-- whether letters are varied is said with the question
abbrev pub settings_for : OptionsValue → DnsRequestOptions → Settings
settings_for options request = record (settings_of options) { varies_letters = request.case_randomization }

-- ---- the pool

-- what is asked of the servers of a list
abbrev pub AskedOf : Type 0
AskedOf = ℕ × PoolQuestion

-- the same is sent to the same servers, case of the name aside
abbrev pub asked_eq : AskedOf → AskedOf → Bool
asked_eq p q = (p.0 == q.0) && question_eq p.1 q.1

-- the transactions by what is asked; all that is on its way; and the transaction that is worked on
pub record PoolState : Type 0 where
  pub options : OptionsValue
  pub questions : List (AskedOf × ℕ)
  pub traffic : TrafficState
  pub current : Option CurrentState

abbrev pub no_servers : OptionsValue → PoolLimits → List ℕ → PoolState
no_servers options limits seed = record {
  options = options;
  questions = [];
  traffic = no_traffic (rules_of options) (limits_of limits options) seed;
  current = None;
}

abbrev pub with_traffic : TrafficState → PoolState → PoolState
with_traffic t s = record s { traffic = t }

-- ---- events

abbrev pub after_tick : ℕ → PoolState → PoolState
after_tick now s = with_traffic (ticked now s.traffic) s

abbrev pub after_servers : ℕ → List PoolServerValue → PoolState → PoolState
after_servers group servers s =
    with_traffic (with_group group (states_of servers) (map sources_of servers) s.traffic) s

abbrev pub after_octets : ℕ → List ℕ → ℕ → PoolState → PoolState
after_octets channel octets now s = with_traffic (traffic.came channel octets now s.traffic) s

abbrev pub after_failure : ChannelFailure → ℕ → PoolState → PoolState
after_failure f now s = with_traffic (traffic.failed f now s.traffic) s

abbrev pub after_forgetting : Asker → PoolState → PoolState
after_forgetting a s = with_traffic (traffic.forgotten a s.traffic) s

-- ---- a question is asked

abbrev pub if_servers : TrafficState → ℕ → Option ℕ
if_servers t list =
    option_and_then (λ l. if is_empty l.servers.servers then None else Some list) (list_at list t.groups)

-- the list of a group, where it has servers
abbrev pub list_of : ℕ → TrafficState → Option ℕ
list_of group t = option_and_then (if_servers t) (current_of group t.groups)

-- the transaction of an equal question
abbrev pub number_of : AskedOf → List (AskedOf × ℕ) → Option ℕ
number_of key questions = lookup (asked_eq key) questions

-- one who joins it, where somebody asks for it still
abbrev pub joiner_of : AskedOf → PoolState → Option Asker
joiner_of key s = option_and_then (λ n. joiner n s.traffic.askers) (number_of key s.questions)

abbrev pub join_in : ℕ → PoolState → ℕ → PoolState
join_in now s n = with_traffic (traffic.joined n now s.traffic) s

abbrev pub after_joining : AskedOf → ℕ → PoolState → PoolState
after_joining key now s = option_map_or (join_in now s) (number_of key s.questions) s

abbrev pub with_question : AskedOf → List (AskedOf × ℕ) → Asker → List (AskedOf × ℕ)
with_question key questions a = index.insert_entry asked_eq questions key a.transaction

abbrev pub after_beginning : AskedOf → Settings → ℕ → PoolState → PoolState
after_beginning key settings now s = record s {
  questions = option_map_or (with_question key s.questions) (traffic.begun_asker key.0 s.traffic) s.questions;
  traffic = traffic.begun key.0 key.1 settings now s.traffic;
}

abbrev pub asked_by : Option Asker → Asked
asked_by None = asked.Overloaded
asked_by (Some a) = asked.Asker a

abbrev pub join_or_begin : Option Asker → AskedOf → Settings → ℕ → PoolState → PoolState
join_or_begin (Some a) key settings now s = after_joining key now s
join_or_begin None key settings now s = after_beginning key settings now s

abbrev pub told_to_joiner : Option Asker → AskedOf → PoolState → Asked
told_to_joiner (Some a) key s = asked.Asker a
told_to_joiner None key s = asked_by (traffic.begun_asker key.0 s.traffic)

-- only a question that nobody asks may have a name that is not fit
abbrev pub fault_of : Option Asker → AskedOf → Option ToWireError
fault_of (Some a) key = None
fault_of None key = name_fault key.1.query.name

abbrev pub ask_of : AskedOf → Settings → ℕ → PoolState → PoolState
ask_of key settings now s = join_or_begin (joiner_of key s) key settings now s

abbrev pub asked_of : AskedOf → PoolState → Asked
asked_of key s = told_to_joiner (joiner_of key s) key s

abbrev pub after_asking : Option ℕ → PoolQuestion → Settings → ℕ → PoolState → PoolState
after_asking None question settings now s = after_tick now s
after_asking (Some list) question settings now s = ask_of (list, question) settings now s

abbrev pub asking_told : Option ℕ → PoolQuestion → PoolState → Asked
asking_told None question s = asked.NoServers
asking_told (Some list) question s = asked_of (list, question) s

abbrev pub asking_fault : Option ℕ → PoolQuestion → PoolState → Option ToWireError
asking_fault None question s = None
asking_fault (Some list) question s = fault_of (joiner_of (list, question) s) (list, question)

-- ---- steps

abbrev pub action_of : Did → Option Action
action_of did.Idle = None
action_of did.More = Some action.Continue
action_of (did.Opened opening) = Some (action.Open opening)
action_of (did.Written sent) = Some (action.Send sent)
action_of (did.Closed channel) = Some (action.Close channel)
action_of (did.TookUp current) = Some action.Continue

abbrev pub current_after : Did → Option CurrentState → Option CurrentState
current_after (did.TookUp current) before = Some current
current_after other before = before

abbrev pub started : PoolState → PoolState
started s = record s {
  traffic = after_task (task_of s.traffic) s.traffic;
  current = current_after (did_of (task_of s.traffic) s.traffic) s.current;
}

abbrev pub started_action : PoolState → Option Action
started_action s = action_of (did_of (task_of s.traffic) s.traffic)

-- a channel is closed, or nothing is to be done by the program
abbrev pub close_or_continue : Option ℕ → Action
close_or_continue None = action.Continue
close_or_continue (Some channel) = action.Close channel

abbrev pub scene_of : PoolState → CurrentState → Scene
scene_of s c = record { traffic = s.traffic; current = c }

-- something is done with the transaction that is worked on, which is worked on after it too

abbrev pub IsDoneTo : Doing → Scene → TrafficState → Option CurrentState → Type 0
IsDoneTo what x t None = ⊥
IsDoneTo what x t (Some c) = IsDone what x (record { traffic = t; current = c })

pub record Carries (what : Doing) (c : CurrentState) (s : PoolState) (r : Option Action) (s' : PoolState) : Type 0 where
  pub done : IsDoneTo what (scene_of s c) s'.traffic s'.current
  pub action : r ≡ Some (close_or_continue (closed_by what (scene_of s c)))
  pub pool : s' ≡ record s { traffic = s'.traffic; current = s'.current }

-- it waits, or goes on later

abbrev pub put_away : CurrentState → PoolState → PoolState
put_away c s = record s { traffic = put_back c.number c.entry s.traffic; current = None }

abbrev pub put_off : CurrentState → PoolState → PoolState
put_off c s = record s { traffic = put_back_ready c.number c.entry s.traffic; current = None }

abbrev pub put_by : Doing → CurrentState → PoolState → PoolState
put_by doing.PutsBack c s = put_off c s
put_by other c s = put_away c s

-- It is over: its askers are told, where there are any. A question that is asked anew meanwhile is another one's.

abbrev pub told_outcome : Option Outcome → PoolOutcome
told_outcome None = Unreachable
told_outcome (Some outcome) = told_as outcome

abbrev pub outcome_in : Doing → EntryState → PoolOutcome
outcome_in doing.Refused e = Overloaded
outcome_in other e = told_outcome (outcome_of e.flying.flight.transaction)

abbrev pub over_of : Doing → CurrentState → List ℕ → OverValue
over_of what c askers = record {
  transaction = c.number;
  askers = askers;
  outcome = outcome_in what c.entry;
  question = c.entry.asked.1;
  kept = c.entry.flying.flight.kept;
}

abbrev pub over_or_continue : Doing → CurrentState → Option (List ℕ) → Action
over_or_continue what c None = action.Continue
over_or_continue what c (Some askers) = action.Over (over_of what c askers)

abbrev pub is_its_own : ℕ → Option ℕ → Bool
is_its_own n None = false
is_its_own n (Some m) = m == n

abbrev pub without_question : AskedOf → ℕ → List (AskedOf × ℕ) → List (AskedOf × ℕ)
without_question key n questions =
    if is_its_own n (number_of key questions) then swap_remove_entry (asked_eq key) questions else questions

abbrev pub let_go : CurrentState → PoolState → PoolState
let_go c s = record s {
  questions = without_question c.entry.asked c.number s.questions;
  traffic = ended c.number c.entry s.traffic;
  current = None;
}

abbrev pub let_go_action : Doing → CurrentState → PoolState → Action
let_go_action what c s = over_or_continue what c (askers_of c.number s.traffic.askers)

-- what is done with the transaction that is worked on: it ends, it is put away, or all else

abbrev pub is_end : Doing → Bool
is_end doing.Ends = true
is_end doing.Refused = true
is_end other = false

abbrev pub is_put : Doing → Bool
is_put doing.Rests = true
is_put doing.PutsBack = true
is_put other = false

pub record LetsGo (what : Doing) (c : CurrentState) (s : PoolState) (r : Option Action) (s' : PoolState) : Type 0 where
  pub action : r ≡ Some (let_go_action what c s)
  pub pool : s' ≡ let_go c s

pub record PutsAway (what : Doing) (c : CurrentState) (s : PoolState) (r : Option Action) (s' : PoolState)
    : Type 0 where
  pub action : r ≡ Some action.Continue
  pub pool : s' ≡ put_by what c s

abbrev pub StepsBy : Bool → Bool → Doing → CurrentState → PoolState → Option Action → PoolState → Type 0
StepsBy true puts what c s r s' = LetsGo what c s r s'
StepsBy false true what c s r s' = PutsAway what c s r s'
StepsBy false false what c s r s' = Carries what c s r s'

abbrev pub StepsWith : Doing → CurrentState → PoolState → Option Action → PoolState → Type 0
StepsWith what c s r s' = StepsBy (is_end what) (is_put what) what c s r s'

abbrev pub Starts : PoolState → Option Action → PoolState → Type 0
Starts s r s' = (r ≡ started_action s) × (s' ≡ started s)

-- What goes out goes first; then the transaction that is worked on goes on; and where there is none, what is to be done
-- first is begun.
abbrev pub StepsIn : Option CurrentState → PoolState → Option Action → PoolState → Type 0
StepsIn None s r s' = Starts s r s'
StepsIn (Some c) s r s' = StepsWith (doing_of c s.traffic) c s r s'

abbrev pub StepsAs : Bool → PoolState → Option Action → PoolState → Type 0
StepsAs true s r s' = Starts s r s'
StepsAs false s r s' = StepsIn s.current s r s'

-- a step: what the program has to do for it, nothing where nothing was left to be done, and the pool after it
abbrev pub Steps : PoolState → Option Action → PoolState → Type 0
Steps s r s' = StepsAs (is_some s.traffic.outgoing) s r s'
