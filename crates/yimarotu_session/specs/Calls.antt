-- What the calls of a session do.
use Rattle.std.specs.Prelude.{◌≡◌, ◌≢◌, ℕ, Bool, true, false, List, [], Option, None, Some}
use Rattle.std.specs.Prelude.{Result, Ok, Err, MatchOption, MatchResult, IsOkUnless, OnErr, OnOk}
use Rattle.std.specs.Option.{is_some}
use Rattle.hickory_proto_core.specs.Handles.{OutcomeValue}
use Rattle.hickory_proto_core.specs.Name.{NameValue}
use Rattle.hickory_proto_core.specs.NameGiven.{IsReadName, IsReadAddress}
use Rattle.hickory_proto_core.specs.codes.record_type.RecordType.{RecordType}
use Rattle.hickory_proto_core.specs.declared.query.Query.{Query}
use Rattle.hickory_proto_core.specs.names.name_error.NameError.{NameError}
use Rattle.hickory_proto_core.specs.names.name_error.NameError.TheVariants as name_fault
use Rattle.hickory_resolver.specs.Contexts.{progress_of}
use Rattle.hickory_resolver.specs.Starting.{ResumesAt, StartsHost, StartsName}
use Rattle.hickory_resolver.specs.Driving.{CallProgress}
use Rattle.hickory_resolver.specs.client.waiting.Progress.TheVariants.{Waiting, Done}
use Rattle.hickory_resolver_model.specs.Lookup.{LookupResult}
use Rattle.hickory_resolver_model.specs.Resolver.{ResolverValue, after_clear_lookup}
use Rattle.hickory_resolver_theorems.specs.ResumingCalls.{CallProgressValue}
use Rattle.yimarotu_session.specs.Sessions.{Puts, SessionValue, lookup_at}
use Rattle.yimarotu_session.specs.declared.session_error.SessionError.{SessionError}
use Rattle.yimarotu_session.specs.declared.session_error.SessionError.TheVariants.{OutOfMemory, InUse, NoLookup, Waits, IsDone}

-- what a resolver does: how far a look-up came, and the resolver after it
abbrev pub Does : Type 1
Does = ResolverValue (List OutcomeValue) → CallProgressValue → ResolverValue (List OutcomeValue) → Type 0

-- whether a look-up waits
abbrev pub waits_of : CallProgress → Bool
waits_of (Waiting w) = true
waits_of (Done found) = false

-- How far a look-up came stands under its number, and it is told whether it waits.
pub record Stands
    (Comes : Does) (number : ℕ) (before : SessionValue) (waits : Bool) (after : SessionValue)
    : Type 0 where
  pub progress : CallProgress
  pub comes : Comes before.resolver (progress_of progress) after.resolver
  pub waits_is : waits ≡ waits_of progress
  pub lookups_are : Puts number (Some progress) before.lookups after.lookups

-- a look-up was begun, and no memory was left to keep it
pub record IsLost (Comes : Does) (before : SessionValue) (error : SessionError) (after : SessionValue) : Type 0 where
  pub progress : CallProgressValue
  pub comes : Comes before.resolver progress after.resolver
  pub error_is : error ≡ OutOfMemory
  pub lookups_stay : after.lookups ≡ before.lookups

-- a look-up begins under a number that no other has
abbrev pub BeginsLookup : Does → ℕ → SessionValue → Result Bool SessionError → SessionValue → Type 0
BeginsLookup Comes number before result after =
    MatchOption (lookup_at number before.lookups)
    (MatchResult result (λ waits. Stands Comes number before waits after) (λ error. IsLost Comes before error after))
    (λ held. (result ≡ Err InUse) × (after ≡ before))

-- a look-up of records of a type for a name, and of the addresses of a host
abbrev pub BeginsName : ℕ → List ℕ → RecordType → ℕ → SessionValue → Result Bool SessionError → SessionValue → Type 0
BeginsName number name t now = BeginsLookup (StartsName (IsReadName name) t now) number

abbrev pub BeginsHost : ℕ → List ℕ → ℕ → SessionValue → Result Bool SessionError → SessionValue → Type 0
BeginsHost number host now = BeginsLookup (StartsHost (IsReadAddress host) (IsReadName host) now) number

-- a look-up that waits goes on with what came back to its question; one that is done stays
abbrev pub Resumed : OutcomeValue → ResolverValue (List OutcomeValue) → CallProgress → ResolverValue (List OutcomeValue)
    → CallProgress → Type 0
Resumed outcome before (Waiting w) after held = ResumesAt w outcome before (progress_of held) after
Resumed outcome before (Done found) after held = (held ≡ Done found) × (after ≡ before)

-- a look-up that waits goes on with what came back to its question
abbrev pub Continues : OutcomeValue → ℕ → SessionValue → Result Bool SessionError → SessionValue → CallProgress → Type 0
Continues outcome number before result after (Waiting w) =
    MatchResult result (λ waits. Stands (ResumesAt w outcome) number before waits after) (λ error. ⊥)
Continues outcome number before result after (Done found) = (result ≡ Err IsDone) × (after ≡ before)

abbrev pub Feeds : OutcomeValue → ℕ → SessionValue → Result Bool SessionError → SessionValue → Type 0
Feeds outcome number before result after =
    MatchOption (lookup_at number before.lookups) ((result ≡ Err NoLookup) × (after ≡ before))
    (Continues outcome number before result after)

-- what a look-up came to
abbrev pub found_of : CallProgress → Result LookupResult SessionError
found_of (Waiting w) = Err Waits
found_of (Done found) = Ok found

abbrev pub found_in : Option CallProgress → Result LookupResult SessionError
found_in None = Err NoLookup
found_in (Some held) = found_of held

abbrev pub found_at : ℕ → SessionValue → Result LookupResult SessionError
found_at number session = found_in (lookup_at number session.lookups)

-- the question that a look-up waits for, or why there is none
abbrev pub question_of : CallProgress → Result Query SessionError
question_of (Waiting w) = Ok w.lookup.hop.query
question_of (Done found) = Err IsDone

abbrev pub question_in : Option CallProgress → Result Query SessionError
question_in None = Err NoLookup
question_in (Some held) = question_of held

abbrev pub question_at : ℕ → SessionValue → Result Query SessionError
question_at number session = question_in (lookup_at number session.lookups)

-- a look-up is forgotten, where there is one of this number
pub record Cancels (number : ℕ) (before : SessionValue) (was_there : Bool) (after : SessionValue) : Type 0 where
  pub told : was_there ≡ is_some (lookup_at number before.lookups)
  pub resolver_stays : after.resolver ≡ before.resolver
  pub lookups_are : Puts number None before.lookups after.lookups

-- The cache has nothing for the attempts at a name, of a type, and all else stays: what is no name clears nothing. Or
-- no memory is left, and nothing changes.
abbrev pub ClearsName : List ℕ → RecordType → SessionValue → Result (Unit {0}) SessionError → SessionValue → Type 0
ClearsName name t before result after =
    OnOk result ((given : Result NameValue NameError) × IsReadName name given × (given ≢ Err name_fault.OutOfMemory)
    × (after ≡ record before { resolver = after_clear_lookup t given before.resolver }))
    × OnErr result (after ≡ before) × IsOkUnless result OutOfMemory

-- the cache has no entries, and all else stays
abbrev pub cleared : SessionValue → SessionValue
cleared session = record session {
  resolver = record session.resolver {
    client = record session.resolver.client { cache = record session.resolver.client.cache { entries = [] } };
  };
}
