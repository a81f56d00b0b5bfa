-- A session with a network, and what each event does with it. The pool has one group of servers, of number 0.
use Rattle.std.specs.Prelude.{◌≡◌, ◌≢◌, ◌/◌, ℕ, Bool, true, false, List, [], Option, None, Some, Result, Ok, Err, MatchOption, MatchResult, IsOkUnless, OnErr, OnOk}
use Rattle.std.specs.List.{list_any}
use Rattle.std.specs.Option.{is_some, option_map_or}
use Rattle.hickory_proto_core.specs.Handles.{OutcomeValue}
use Rattle.hickory_proto_core.specs.Name.{NameValue}
use Rattle.hickory_proto_core.specs.NameGiven.{IsReadAddress, IsReadName}
use Rattle.hickory_proto_core.specs.Query.{query_eq}
use Rattle.hickory_proto_core.specs.codes.record_type.RecordType.{RecordType}
use Rattle.hickory_proto_core.specs.declared.query.Query.{Query}
use Rattle.hickory_proto_core.specs.names.name_error.NameError.{NameError}
use Rattle.hickory_proto_core.specs.names.name_error.NameError.TheVariants as name_fault
use Rattle.hickory_resolver.specs.Contexts.{progress_of}
use Rattle.hickory_resolver.specs.Driving.{CallProgress}
use Rattle.hickory_resolver.specs.Starting.{StartsHost, StartsName}
use Rattle.hickory_resolver_askers.specs.declared.asker.Asker.{Asker}
use Rattle.hickory_resolver_model.specs.Attempts.{attempts}
use Rattle.hickory_resolver_model.specs.Lookup.{LookupResult, question_of}
use Rattle.hickory_resolver_model.specs.Resolver.{ResolverValue, after_clear_lookup, settings}
use Rattle.hickory_resolver_model.specs.Run.{Settings}
use Rattle.hickory_resolver_pool.specs.Over.{OverValue}
use Rattle.hickory_resolver_pool.specs.Pool.{PoolState, after_forgetting, after_tick, no_servers}
use Rattle.hickory_resolver_pool.specs.declared.limits.PoolLimits.{PoolLimits}
use Rattle.yimarotu_session.specs.Calls.{Does}
use Rattle.yimarotu_session.specs.LookupTables.{IsForgotten, TableValue, BeginsAt, asker_of, held_at, lookup_of, no_lookups, without_told}
use Rattle.yimarotu_session.specs.declared.ahead.Ahead.{Ahead}
use Rattle.yimarotu_session.specs.declared.ahead.Ahead.TheVariants.{Nothing}
use Rattle.yimarotu_session.specs.declared.network_lookup.NetworkLookup.{NetworkLookup}
use Rattle.yimarotu_session.specs.declared.network_lookup.NetworkLookup.TheVariants.{Asks, Asked, Done}
use Rattle.yimarotu_session.specs.declared.session_error.SessionError.{SessionError}
use Rattle.yimarotu_session.specs.declared.session_error.SessionError.TheVariants.{OutOfMemory, InUse, NoLookup, Waits, IsDone}

-- a transaction that is over, and how many of its askers were told
pub record TellingValue : Type 0 where
  pub over : OverValue
  pub told : ℕ

-- a resolver that sends nothing itself, the pool that its questions go to, the look-ups, and what is being told
pub record NetworkValue : Type 0 where
  pub resolver : ResolverValue (List OutcomeValue)
  pub pool : PoolState
  pub table : TableValue
  pub telling : Option TellingValue

-- a session without look-ups over a resolver, whose options are those of the pool too
abbrev pub new_session : ResolverValue (List OutcomeValue) → PoolLimits → List ℕ → NetworkValue
new_session resolver limits seed = record {
  resolver = resolver;
  pool = no_servers resolver.options limits seed;
  table = no_lookups;
  telling = None;
}

abbrev pub with_pool : PoolState → NetworkValue → NetworkValue
with_pool pool session = record session { pool = pool }

-- ---- a look-up begins

-- the resolver counts seconds, and the pool milliseconds
abbrev pub seconds_of : ℕ → ℕ
seconds_of moment = moment / 1000

-- it waits to ask its question, or is done, behind those that came to that before
pub record Begins (Comes : Does) (ahead : Option Ahead) (number now : ℕ) (before after : NetworkValue) : Type 0 where
  pub progress : CallProgress
  pub comes : Comes before.resolver (progress_of progress) after.resolver
  pub begins : BeginsAt number (lookup_of progress) ahead before.table after.table
  pub pool_is : after.pool ≡ after_tick now before.pool
  pub telling_stays : after.telling ≡ before.telling

-- under a number that no other has; where there is no memory to keep it nothing is begun
abbrev pub BeginsLookup : Does → Option Ahead → ℕ → ℕ → NetworkValue → Result (Unit {0}) SessionError → NetworkValue
    → Type 0
BeginsLookup Comes ahead number now before result after =
    MatchOption (held_at number before.table)
    (MatchResult result (λ u. Begins Comes ahead number now before after)
    (λ error. (error ≡ OutOfMemory) × (after ≡ before)))
    (λ held. (result ≡ Err InUse) × (after ≡ before))

-- A look-up of records of a type for a name, and of the addresses of a host. Ahead of one of addresses a question may
-- be asked.
abbrev pub BeginsName : ℕ → List ℕ → RecordType → ℕ → NetworkValue → Result (Unit {0}) SessionError → NetworkValue
    → Type 0
BeginsName number name t now = BeginsLookup (StartsName (IsReadName name) t (seconds_of now)) None number now

abbrev pub BeginsHost : ℕ → List ℕ → ℕ → NetworkValue → Result (Unit {0}) SessionError → NetworkValue → Type 0
BeginsHost number host now =
    BeginsLookup (StartsHost (IsReadAddress host) (IsReadName host) (seconds_of now)) (Some Nothing) number now

-- ---- a look-up is forgotten

abbrev pub forgotten_by_pool : PoolState → Asker → PoolState
forgotten_by_pool pool asker = after_forgetting asker pool

-- Where there is one of this number; and the pool forgets its asker, where it has one. The asker of what was asked
-- ahead of it is forgotten next. A place that comes free is taken at this moment, or a later one that was told.
pub record Cancels (number now : ℕ) (before : NetworkValue) (was_there : Bool) (after : NetworkValue) : Type 0 where
  pub told : was_there ≡ is_some (held_at number before.table)
  pub resolver_stays : after.resolver ≡ before.resolver
  pub pool_is : after.pool ≡ after_tick now
      (option_map_or (forgotten_by_pool before.pool) (asker_of (held_at number before.table)) before.pool)
  pub is_forgotten : IsForgotten number before.table after.table
  pub telling_stays : after.telling ≡ before.telling

-- ---- what is known of a look-up

-- what it came to
abbrev pub found_in : Option NetworkLookup → Result LookupResult SessionError
found_in None = Err NoLookup
found_in (Some (Asks w)) = Err Waits
found_in (Some (Asked w a)) = Err Waits
found_in (Some (Done found announced)) = Ok found

abbrev pub found_at : ℕ → NetworkValue → Result LookupResult SessionError
found_at number session = found_in (held_at number session.table)

-- the question that it waits for, or why there is none
abbrev pub question_in : Option NetworkLookup → Result Query SessionError
question_in None = Err NoLookup
question_in (Some (Asks w)) = Ok w.lookup.hop.query
question_in (Some (Asked w a)) = Ok w.lookup.hop.query
question_in (Some (Done found announced)) = Err IsDone

abbrev pub question_at : ℕ → NetworkValue → Result Query SessionError
question_at number session = question_in (held_at number session.table)

-- ---- the cache, and what was told ahead, which the cache may not have

-- whether a look-up of this type, for what is given for a name, would attempt this question
abbrev pub is_attempted : Settings → RecordType → Result NameValue NameError → Query → Bool
is_attempted s t (Ok name) q = list_any (λ n. query_eq (question_of n t) q) (attempts s.search name)
is_attempted s t (Err fault) q = false

abbrev pub name_cleared : RecordType → Result NameValue NameError → NetworkValue → NetworkValue
name_cleared t given session = record session {
  resolver = after_clear_lookup t given session.resolver;
  table = without_told (is_attempted (settings session.resolver) t given) session.table;
}

-- The cache has nothing for the attempts at a name, of a type, what was told of them ahead is let go, and all else stays:
-- what is no name clears nothing. Or no memory is left, and nothing changes.
abbrev pub ClearsName : List ℕ → RecordType → NetworkValue → Result (Unit {0}) SessionError → NetworkValue → Type 0
ClearsName name t before result after =
    OnOk result ((given : Result NameValue NameError) × IsReadName name given × (given ≢ Err name_fault.OutOfMemory)
    × (after ≡ name_cleared t given before))
    × OnErr result (after ≡ before) × IsOkUnless result OutOfMemory

-- the cache has no entries, all that was told ahead is let go, and all else stays
abbrev pub cleared : NetworkValue → NetworkValue
cleared session = record session {
  resolver = record session.resolver {
    client = record session.resolver.client { cache = record session.resolver.client.cache { entries = [] } };
  };
  table = without_told (λ q. true) session.table;
}
