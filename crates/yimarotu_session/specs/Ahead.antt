-- What a look-up of addresses asks ahead: where both families are wanted, the question of the second is asked beside
-- that of the first, if a look-up of it alone would ask it. What comes back is heard at once, as of such a look-up, so
-- that it is kept for everybody; and it stays beside the look-up until that comes to the question, since not all is kept.
use Rattle.std.specs.Prelude.{◌≡◌, ◌==◌, ◌&&◌, Bool, true, false, List, Option, None, Some, Ok, if◌then◌else◌}
use Rattle.std.specs.Option.{is_some, option_map_or}
use Rattle.hickory_proto_core.specs.Codes.{type_code}
use Rattle.hickory_proto_core.specs.Handles.{OutcomeValue}
use Rattle.hickory_proto_core.specs.Query.{query_eq}
use Rattle.hickory_proto_core.specs.codes.record_type.RecordType.{RecordType}
use Rattle.hickory_proto_core.specs.declared.query.Query.{Query}
use Rattle.hickory_resolver.specs.Starting.{ResumesAt, StartsName}
use Rattle.hickory_resolver_askers.specs.declared.asker.Asker.{Asker}
use Rattle.hickory_resolver_client.specs.Contexts.{first_passed}
use Rattle.hickory_resolver_model.specs.Calls.{Both, FamilyOrder}
use Rattle.hickory_resolver_model.specs.Resolver.{ResolverValue}
use Rattle.hickory_resolver_model.specs.Resuming.{IsDone, Waits as Waiting}
use Rattle.hickory_resolver_model.specs.Run.{family_order}
use Rattle.hickory_resolver_theorems.specs.ResumingCalls.{CallProgressValue, WaitingCallValue}
use Rattle.yimarotu_session.specs.Messages.{whole_query}
use Rattle.yimarotu_session.specs.declared.ahead.Ahead.{Ahead}
use Rattle.yimarotu_session.specs.declared.ahead.Ahead.TheVariants.{Nothing, Waits, Told}
use Rattle.yimarotu_session.specs.declared.ahead.SecondQuestion.{SecondQuestion}

abbrev pub Resolver : Type 0
Resolver = ResolverValue (List OutcomeValue)

-- ---- the question of the second family

-- the type of the second family, where both are looked up and this is the first
abbrev pub second_type : FamilyOrder → RecordType → Option RecordType
second_type (Both first second) t = if type_code t == type_code first then Some second else None
second_type other t = None

-- the same question for records of this type
abbrev pub of_type : RecordType → Query → Query
of_type t q = record q { query_type = t }

abbrev pub second_of : WaitingCallValue → Option RecordType → Option SecondQuestion
second_of w None = None
second_of w (Some t) =
    Some (record { query = whole_query (of_type t w.lookup.hop.query); started = w.lookup.now })

-- The question of the second family that belongs to the one that a call waits for, under an absolute name, with the
-- moment of the call (seconds). Where aliases led to that, there is none: the second family is asked for at the name that
-- the call began with.
abbrev pub second_question : Resolver → WaitingCallValue → Option SecondQuestion
second_question resolver w =
    if is_some (first_passed w.lookup.passed) then None
    else second_of w (second_type (family_order resolver.options.ip_strategy) w.lookup.hop.query.query_type)

-- ---- a look-up of that question alone, at the moment of the look-up that it belongs to

-- It is started. The table of hosts, the special names and the cache may answer it; nothing is asked, and nothing changes.
abbrev pub StartsAlone : SecondQuestion → Resolver → CallProgressValue → Type 0
StartsAlone q resolver progress =
    StartsName (λ name. name ≡ Ok q.query.name) q.query.query_type q.started resolver progress resolver

-- whether a call waits for what comes back to this question, case of the name aside
abbrev pub is_waited_for : Query → WaitingCallValue → Bool
is_waited_for q w = w.lookup.hop.query.name.fqdn && query_eq w.lookup.hop.query q

abbrev pub waits_for_it : Query → CallProgressValue → Bool
waits_for_it q (Waiting w) = is_waited_for q w
waits_for_it q (IsDone result) = false

-- whether it asks its question
pub record AsksAlone (q : SecondQuestion) (resolver : Resolver) (asks : Bool) : Type 0 where
  pub progress : CallProgressValue
  pub starts : StartsAlone q resolver progress
  pub told : asks ≡ waits_for_it q.query progress

abbrev pub ResumesIf : Bool → WaitingCallValue → OutcomeValue → Resolver → Resolver → Type 0
ResumesIf true w outcome before after = (progress : CallProgressValue) × ResumesAt w outcome before progress after
ResumesIf false w outcome before after = after ≡ before

abbrev pub ResumesFor : Query → CallProgressValue → OutcomeValue → Resolver → Resolver → Type 0
ResumesFor q (Waiting w) outcome before after = ResumesIf (is_waited_for q w) w outcome before after
ResumesFor q (IsDone result) outcome before after = after ≡ before

-- It goes on with what came back to its question, where it asks it, and is let go: what may be kept of that is in the
-- cache.
pub record Hears (q : SecondQuestion) (outcome : OutcomeValue) (before after : Resolver) : Type 0 where
  pub progress : CallProgressValue
  pub starts : StartsAlone q before progress
  pub goes_on : ResumesFor q.query progress outcome before after

-- ---- what was asked ahead

-- whether it is this question, case of the name aside
abbrev pub is_ahead : Query → Ahead → Bool
is_ahead q Nothing = false
is_ahead q (Waits asked a) = query_eq q asked.query
is_ahead q (Told asked outcome) = query_eq q asked

abbrev pub if_ahead : Query → Ahead → Ahead
if_ahead q ahead = if is_ahead q ahead then ahead else Nothing

-- what was asked ahead, where it is this question
abbrev pub ahead_of : Query → Option Ahead → Ahead
ahead_of q ahead = option_map_or (if_ahead q) ahead Nothing

-- its asker, who was told nothing yet
abbrev pub asker_ahead : Option Ahead → Option Asker
asker_ahead (Some (Waits q a)) = Some a
asker_ahead other = None

-- what came back to it is heard
abbrev pub HearsAhead : OutcomeValue → Option Ahead → Resolver → Resolver → Type 0
HearsAhead outcome (Some (Waits q a)) before after = Hears q outcome before after
HearsAhead outcome other before after = after ≡ before

-- its asker is told this
abbrev pub told_ahead : OutcomeValue → Ahead → Ahead
told_ahead outcome (Waits q a) = Told q.query outcome
told_ahead outcome other = other

-- whether its asker was told something, of a question that passes
abbrev pub is_told_of : (Query → Bool) → Ahead → Bool
is_told_of passes (Told q outcome) = passes q
is_told_of passes other = false

-- that is let go
abbrev pub untold : (Query → Bool) → Ahead → Ahead
untold passes ahead = if is_told_of passes ahead then Nothing else ahead
