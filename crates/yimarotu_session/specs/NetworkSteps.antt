-- The steps of a session with a network: who is told of a transaction that is over, who is forgotten, whose question is
-- asked, who is done, and else what the pool does next.
use Rattle.std.specs.Prelude.{◌≡◌, ◌+◌, ℕ, Bool, true, false, MatchOption, Option, None, Some, slice_get}
use Rattle.hickory_proto_core.specs.Handles.{OutcomeValue}
use Rattle.hickory_proto_core.specs.declared.query.Query.{Query}
use Rattle.hickory_resolver.specs.Contexts.{progress_of}
use Rattle.hickory_resolver.specs.Driving.{CallProgress}
use Rattle.hickory_resolver.specs.Starting.{ResumesAt}
use Rattle.hickory_resolver_askers.specs.declared.asker.Asker.{Asker}
use Rattle.hickory_resolver_model.specs.Options.{request_options_of}
use Rattle.hickory_resolver_pool.specs.Over.{IsCoreOutcome, IsToldToCore, OverValue}
use Rattle.hickory_resolver_pool.specs.Pool.{PoolState, Steps, after_asking, after_forgetting, asking_told, list_of, settings_for}
use Rattle.hickory_resolver_pool.specs.declared.over.PoolOutcome.{PoolOutcome}
use Rattle.hickory_resolver_pool.specs.declared.over.PoolOutcome.TheVariants.{Overloaded, Unreachable}
use Rattle.hickory_resolver_pool.specs.declared.pool.Action.{Action}
use Rattle.hickory_resolver_pool.specs.declared.pool.Action.TheVariants as pool
use Rattle.hickory_resolver_pool.specs.declared.pool.Asked as pool_asked
use Rattle.hickory_resolver_pool.specs.declared.pool.Asked.TheVariants as asked
use Rattle.hickory_resolver_theorems.specs.ResumingCalls.{WaitingCallValue}
use Rattle.hickory_resolver_tries.specs.Question.{question_of}
use Rattle.hickory_resolver_tries.specs.declared.pool_question.DnssecOptions.{DnssecOptions}
use Rattle.hickory_resolver_tries.specs.declared.pool_question.PoolQuestion.{PoolQuestion}
use Rattle.yimarotu_session.specs.Ahead.{AsksAlone, HearsAhead, Resolver, ahead_of, told_ahead}
use Rattle.yimarotu_session.specs.LookupTables.{ChangesAhead, IsAnnounced, TableValue, TakesPlace, ahead_at, emptied, first_announced, first_asked, first_forgotten, held_at, lookup_of, question_ahead, waits_ahead, waits_for, with_asker, without_asker}
use Rattle.yimarotu_session.specs.Messages.{whole_query}
use Rattle.yimarotu_session.specs.NetworkSessions.{NetworkValue, TellingValue}
use Rattle.yimarotu_session.specs.Sessions.{PutsUnder}
use Rattle.yimarotu_session.specs.declared.ahead.Ahead.{Ahead}
use Rattle.yimarotu_session.specs.declared.ahead.Ahead.TheVariants as ahead
use Rattle.yimarotu_session.specs.declared.ahead.SecondQuestion.{SecondQuestion}
use Rattle.yimarotu_session.specs.declared.network_lookup.NetworkLookup.{NetworkLookup}
use Rattle.yimarotu_session.specs.declared.network_lookup.NetworkLookup.TheVariants.{Asks, Asked, Done}
use Rattle.yimarotu_session.specs.declared.network_session.NetworkAction.{NetworkAction}
use Rattle.yimarotu_session.specs.declared.network_session.NetworkAction.TheVariants as act

-- ---- a look-up goes on

-- its call goes on with what it is told
pub record Resumes (w : WaitingCallValue) (outcome : OutcomeValue) (before after : Resolver) (held : NetworkLookup)
    : Type 0 where
  pub progress : CallProgress
  pub resumes : ResumesAt w outcome before (progress_of progress) after
  pub held_is : held ≡ lookup_of progress

-- one that is done stays
abbrev pub GoesOn : OutcomeValue → Resolver → NetworkLookup → Resolver → NetworkLookup → Type 0
GoesOn outcome before (Asks w) after held = Resumes w outcome before after held
GoesOn outcome before (Asked w a) after held = Resumes w outcome before after held
GoesOn outcome before (Done found announced) after held = (held ≡ Done found announced) × (after ≡ before)

-- that of this number, where there is one, goes on, and stands in a queue again
pub record GoesOnWith
    (outcome : OutcomeValue) (number : ℕ) (resolver : Resolver) (before : TableValue) (resolver' : Resolver)
    (after : TableValue) (held : NetworkLookup)
    : Type 0 where
  pub held' : NetworkLookup
  pub goes_on : GoesOn outcome resolver held resolver' held'
  pub takes_place : TakesPlace number held' before after

abbrev pub GoesOnAt : OutcomeValue → ℕ → Resolver → TableValue → Resolver → TableValue → Type 0
GoesOnAt outcome number resolver before resolver' after =
    MatchOption (held_at number before) ((resolver' ≡ resolver) × (after ≡ before))
    (GoesOnWith outcome number resolver before resolver' after)

-- ---- a transaction is over: its askers are told, one after another

abbrev pub first_telling : OverValue → TellingValue
first_telling over = record { over = over; told = 0 }

abbrev pub one_more : TellingValue → TellingValue
one_more t = record t { told = t.told + 1 }

-- the look-up that waits for what this asker is told goes on with what the core is told
pub record TellsLookup
    (over : OverValue) (asker : Asker) (resolver : Resolver) (before : TableValue) (resolver' : Resolver)
    (after : TableValue) (number : ℕ)
    : Type 0 where
  pub outcome : OutcomeValue
  pub told : IsCoreOutcome over outcome
  pub goes_on : GoesOnAt outcome number resolver (without_asker asker.number before) resolver' after

-- What was asked ahead by this asker: the resolver hears what the core is told, and it stays there until the look-up
-- comes to it.
pub record TellsAhead
    (over : OverValue) (asker : Asker) (resolver : Resolver) (before : TableValue) (resolver' : Resolver)
    (after : TableValue) (number : ℕ)
    : Type 0 where
  pub outcome : OutcomeValue
  pub told : IsCoreOutcome over outcome
  pub heard : HearsAhead outcome (ahead_at number before) resolver resolver'
  pub changes : ChangesAhead number (told_ahead outcome) (without_asker asker.number before) after

-- an asker that was forgotten is passed over
abbrev pub TellsOther : OverValue → Asker → Resolver → TableValue → Resolver → TableValue → Type 0
TellsOther over asker resolver before resolver' after =
    MatchOption (waits_ahead asker before) ((resolver' ≡ resolver) × (after ≡ before))
    (TellsAhead over asker resolver before resolver' after)

abbrev pub TellsAsker : OverValue → Asker → Resolver → TableValue → Resolver → TableValue → Type 0
TellsAsker over asker resolver before resolver' after =
    MatchOption (waits_for asker before) (TellsOther over asker resolver before resolver' after)
    (TellsLookup over asker resolver before resolver' after)

-- an asker of the transaction that is over
abbrev pub asker_with : OverValue → ℕ → Asker
asker_with over number = record { transaction = over.transaction; number = number }

pub record TellsNext (t : TellingValue) (before after : NetworkValue) (number : ℕ) : Type 0 where
  pub told : TellsAsker t.over (asker_with t.over number) before.resolver before.table after.resolver after.table
  pub pool_stays : after.pool ≡ before.pool
  pub telling_is : after.telling ≡ Some (one_more t)

-- where all were told, it is let go
abbrev pub Tells : NetworkValue → NetworkValue → TellingValue → Type 0
Tells before after t =
    MatchOption (slice_get t.over.askers t.told) (after ≡ record before { telling = None }) (TellsNext t before after)

-- ---- a question is asked of the pool

abbrev pub no_dnssec : DnssecOptions
no_dnssec = record { dnssec_ok = false; checking_disabled = false; authentic_data = false }

abbrev pub pool_question : Query → NetworkValue → PoolQuestion
pool_question q s = question_of q (request_options_of s.resolver.options) no_dnssec

-- what the pool says to that
abbrev pub pool_says : Query → NetworkValue → pool_asked.Asked
pool_says q s = asking_told (list_of 0 s.pool.traffic) (pool_question q s) s.pool

-- no moment is told with it: it is the latest that was told
abbrev pub pool_after : Query → NetworkValue → PoolState
pool_after q s =
    after_asking (list_of 0 s.pool.traffic) (pool_question q s)
    (settings_for s.pool.options (request_options_of s.resolver.options)) 0 s.pool

-- ---- a look-up asks its question

-- it waits for what its asker is told
pub record WaitsFor (w : WaitingCallValue) (asker : Asker) (number : ℕ) (before after : TableValue) : Type 0 where
  pub puts : PutsUnder number (Some (Asked w asker)) before.lookups after.lookups
  pub others_are : after ≡ record (with_asker asker number before) { lookups = after.lookups }

-- it is not asked, and goes on with what the core is told of that
pub record IsRefused
    (why : PoolOutcome) (number : ℕ) (resolver : Resolver) (before : TableValue) (resolver' : Resolver)
    (after : TableValue)
    : Type 0 where
  pub outcome : OutcomeValue
  pub told : IsToldToCore why None outcome
  pub goes_on : GoesOnAt outcome number resolver (first_asked before) resolver' after

abbrev pub IsAnswered : pool_asked.Asked → WaitingCallValue → ℕ → Resolver → TableValue → Resolver → TableValue → Type 0
IsAnswered (asked.Asker a) w number resolver before resolver' after =
    (resolver' ≡ resolver) × WaitsFor w a number before after
IsAnswered asked.Overloaded w number resolver before resolver' after =
    IsRefused Overloaded number resolver before resolver' after
IsAnswered asked.NoServers w number resolver before resolver' after =
    IsRefused Unreachable number resolver before resolver' after

-- its turn is not over where it waits now: a question may be asked ahead of it
pub record AsksPool (w : WaitingCallValue) (number : ℕ) (before after : NetworkValue) : Type 0 where
  pub pool_is : after.pool ≡ pool_after (whole_query w.lookup.hop.query) before
  pub answered : IsAnswered (pool_says (whole_query w.lookup.hop.query) before) w number before.resolver before.table
      after.resolver after.table
  pub telling_stays : after.telling ≡ before.telling

-- ---- its question was asked ahead, and nothing is asked ahead of it any more

-- it waits for what the asker of that is told
pub record TakesOver (w : WaitingCallValue) (asker : Asker) (number : ℕ) (before after : NetworkValue) : Type 0 where
  pub mid : TableValue
  pub empties : ChangesAhead number emptied before.table mid
  pub waits : WaitsFor w asker number (first_asked mid) after.table
  pub others_stay : after ≡ record before { table = after.table }

-- it goes on with what that asker was told
pub record UsesTold (outcome : OutcomeValue) (number : ℕ) (before after : NetworkValue) : Type 0 where
  pub mid : TableValue
  pub empties : ChangesAhead number emptied before.table mid
  pub goes_on : GoesOnAt outcome number before.resolver (first_asked mid) after.resolver after.table
  pub others_stay : after ≡ record before { resolver = after.resolver; table = after.table }

abbrev pub AsksBy : Ahead → WaitingCallValue → ℕ → NetworkValue → NetworkValue → Type 0
AsksBy ahead.Nothing w number before after = AsksPool w number before after
AsksBy (ahead.Waits q a) w number before after = TakesOver w a number before after
AsksBy (ahead.Told q outcome) w number before after = UsesTold outcome number before after

abbrev pub AsksOwn : WaitingCallValue → ℕ → NetworkValue → NetworkValue → Type 0
AsksOwn w number before after =
    AsksBy (ahead_of (whole_query w.lookup.hop.query) (ahead_at number before.table)) w number before after

-- ---- a question is asked ahead of a look-up

-- where there is no place for it, nothing is asked ahead
abbrev pub IsAskedAhead : pool_asked.Asked → SecondQuestion → ℕ → TableValue → TableValue → Type 0
IsAskedAhead (asked.Asker a) q number before after =
    ChangesAhead number (λ nothing. ahead.Waits q a) (with_asker a number (first_asked before)) after
IsAskedAhead other q number before after = after ≡ first_asked before

pub record AsksAhead (number : ℕ) (q : SecondQuestion) (before after : NetworkValue) : Type 0 where
  pub pool_is : after.pool ≡ pool_after q.query before
  pub asked : IsAskedAhead (pool_says q.query before) q number before.table after.table
  pub others_stay : after ≡ record before { pool = after.pool; table = after.table }

abbrev pub AsksIf : Bool → ℕ → SecondQuestion → NetworkValue → NetworkValue → Type 0
AsksIf true number q before after = AsksAhead number q before after
AsksIf false number q before after = after ≡ record before { table = first_asked before.table }

-- nor where a look-up of the question alone would not ask it
pub record AsksSecond (number : ℕ) (before after : NetworkValue) (q : SecondQuestion) : Type 0 where
  pub asks : Bool
  pub alone : AsksAlone q before.resolver asks
  pub goes_on : AsksIf asks number q before after

-- ---- the turn of a look-up

-- One whose question is asked may ask another ahead. One that was cancelled is passed over.
abbrev pub AsksOther : Option NetworkLookup → ℕ → NetworkValue → NetworkValue → Type 0
AsksOther held number before after =
    MatchOption (question_ahead before.resolver held (ahead_at number before.table))
    (after ≡ record before { table = first_asked before.table })
    (AsksSecond number before after)

abbrev pub AsksAs : Option NetworkLookup → ℕ → NetworkValue → NetworkValue → Type 0
AsksAs (Some (Asks w)) number before after = AsksOwn w number before after
AsksAs other number before after = AsksOther other number before after

abbrev pub AsksFor : NetworkValue → NetworkValue → ℕ → Type 0
AsksFor before after number = AsksAs (held_at number before.table) number before after

-- ---- a look-up is done

pub record AnnouncesIt (number : ℕ) (before : NetworkValue) (action : Option NetworkAction) (after : NetworkValue)
    : Type 0 where
  pub action_is : action ≡ Some (act.Done number)
  pub is_announced : IsAnnounced number before.table after.table
  pub others_stay : after ≡ record before { table = after.table }

-- one that was cancelled is passed over
abbrev pub AnnouncesAs : Option NetworkLookup → ℕ → NetworkValue → Option NetworkAction → NetworkValue → Type 0
AnnouncesAs (Some (Done found false)) number before action after = AnnouncesIt number before action after
AnnouncesAs other number before action after =
    (action ≡ Some act.Continue) × (after ≡ record before { table = first_announced before.table })

abbrev pub Announces : NetworkValue → Option NetworkAction → NetworkValue → ℕ → Type 0
Announces before action after number = AnnouncesAs (held_at number before.table) number before action after

-- ---- an asker is forgotten, to whom nobody listens any more

abbrev pub forgotten : NetworkValue → Asker → NetworkValue
forgotten s a = record s {
  pool = after_forgetting a s.pool;
  table = first_forgotten (without_asker a.number s.table);
}

-- ---- the pool's step

-- what the program has to do for it
abbrev pub action_of : Option Action → Option NetworkAction
action_of None = None
action_of (Some (pool.Open opening)) = Some (act.Open opening)
action_of (Some (pool.Send sent)) = Some (act.Send sent)
action_of (Some (pool.Close channel)) = Some (act.Close channel)
action_of (Some (pool.Over over)) = Some act.Continue
action_of (Some pool.Continue) = Some act.Continue

-- whose askers are told from then on
abbrev pub telling_of : Option Action → Option TellingValue
telling_of (Some (pool.Over over)) = Some (first_telling over)
telling_of other = None

pub record StepsPool (before : NetworkValue) (action : Option NetworkAction) (after : NetworkValue) : Type 0 where
  pub did : Option Action
  pub steps : Steps before.pool did after.pool
  pub action_is : action ≡ action_of did
  pub others_are : after ≡ record before { pool = after.pool; telling = telling_of did }

-- ---- a step

-- who is done, in the order of the ends; and else what the pool does
abbrev pub AnnouncesFirst : NetworkValue → Option NetworkAction → NetworkValue → Type 0
AnnouncesFirst before action after =
    MatchOption (slice_get before.table.to_announce 0) (StepsPool before action after) (Announces before action after)

-- whose turn it is to ask, in the order in which they came to that
abbrev pub AsksFirst : NetworkValue → Option NetworkAction → NetworkValue → Type 0
AsksFirst before action after =
    MatchOption (slice_get before.table.to_ask 0) (AnnouncesFirst before action after)
    (λ number. (action ≡ Some act.Continue) × AsksFor before after number)

-- who is forgotten
abbrev pub ForgetsFirst : NetworkValue → Option NetworkAction → NetworkValue → Type 0
ForgetsFirst before action after =
    MatchOption (slice_get before.table.to_forget 0) (AsksFirst before action after)
    (λ a. (action ≡ Some act.Continue) × (after ≡ forgotten before a))

-- A step: what the program has to do for it, nothing where nothing was left to be done, and the session after it. Who
-- asked is told first.
abbrev pub SessionSteps : NetworkValue → Option NetworkAction → NetworkValue → Type 0
SessionSteps before action after =
    MatchOption before.telling (ForgetsFirst before action after)
    (λ t. (action ≡ Some act.Continue) × Tells before after t)
