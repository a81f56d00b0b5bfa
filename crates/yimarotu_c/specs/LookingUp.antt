-- What the calls of C do with look-ups.
use Rattle.std.specs.Prelude.{◌≡◌, ◌⊎◌, ℕ, Bool, true, false, List, Option, None, Some, Result, Ok, Err, MatchOption}
use Rattle.std.specs.Str.{IsUtf8}
use Rattle.std.specs.declared.alloc.AllocError.{AllocError}
use Rattle.hickory_proto_core.specs.Codes.{type_of}
use Rattle.hickory_proto_core.specs.declared.net_error.NetError.{NetError}
use Rattle.hickory_proto_wire.specs.Messages.{message_of}
use Rattle.hickory_proto_wire.specs.Octets as wire
use Rattle.hickory_proto_wire.specs.declared.wire_error.WireError.{WireError}
use Rattle.hickory_proto_wire.specs.declared.wire_error.WireError.TheVariants as reading
use Rattle.hickory_proto_wire.specs.declared.wire_message.WireMessage.{WireMessage}
use Rattle.yimarotu_c.specs.Failures.{IsFailure}
use Rattle.yimarotu_c.specs.Faults.{reading_number}
use Rattle.yimarotu_c.specs.Statuses.{number_of}
use Rattle.yimarotu_c.specs.declared.looking_up.YimarotuProgress.{YimarotuProgress}
use Rattle.yimarotu_c.specs.declared.status.Status.{Status}
use Rattle.yimarotu_c.specs.declared.status.Status.TheVariants as status
use Rattle.yimarotu_embedded.specs.Held.{CancelsIn, ClearsIn, ClearsNameIn, StartsHostIn, StartsNameIn}
use Rattle.yimarotu_embedded.specs.declared.held.Held.{Held}
use Rattle.yimarotu_session.specs.Calls.{Feeds}
use Rattle.yimarotu_session.specs.Sessions.{SessionValue}
use Rattle.yimarotu_session.specs.declared.session_error.SessionError.{SessionError}
use Rattle.yimarotu_session.specs.declared.session_error.SessionError.TheVariants.{OutOfMemory, InUse, NoLookup, Waits, IsDone}

-- a call of a session that is open; of one that is closed it ends so, and nothing changes
abbrev pub OnOpen : {A : Type 0} → (Held → A → Held → Type 0) → A → Option Held → A → Option Held → Type 0
OnOpen Does closed before ended after =
    MatchOption before ((ended ≡ closed) × (after ≡ None))
    (λ held. (left : Held) × Does held ended left × (after ≡ Some left))

abbrev pub came_end : Status → YimarotuProgress
came_end s = record { status = number_of s; fault = 0; waits = false }

abbrev pub status_of : SessionError → Status
status_of OutOfMemory = status.NoMemory
status_of InUse = status.InUse
status_of NoLookup = status.NoLookup
status_of Waits = status.Waits
status_of IsDone = status.Done

-- what a call of a session tells
abbrev pub came_of : Result Bool SessionError → YimarotuProgress
came_of (Ok waits) = record { status = number_of status.Ok; fault = 0; waits = waits }
came_of (Err error) = came_end (status_of error)

-- bytes were no message, or memory ran out
abbrev pub came_unread : WireError → YimarotuProgress
came_unread reading.OutOfMemory = came_end status.NoMemory
came_unread (reading.Fault fault) =
    record { status = number_of status.Message; fault = reading_number fault; waits = false }

-- a call of the session, and what it tells
abbrev pub Calls : {S : Type 0} → (S → Result Bool SessionError → S → Type 0) → S → YimarotuProgress → S → Type 0
Calls Does before ended after =
    (result : Result Bool SessionError) × Does before result after × (ended ≡ came_of result)

-- where a name is not UTF-8, nothing changes
abbrev pub IsNoText : List ℕ → Held → YimarotuProgress → Held → Type 0
IsNoText name before ended after = ¬ (IsUtf8 name) × (ended ≡ came_end status.Text) × (after ≡ before)

abbrev pub Started : ℕ → List ℕ → ℕ → ℕ → Held → YimarotuProgress → Held → Type 0
Started number name code moment before ended after =
    (IsUtf8 name × Calls (StartsNameIn number name (type_of code) moment) before ended after)
    ⊎ IsNoText name before ended after

abbrev pub StartedHost : ℕ → List ℕ → ℕ → Held → YimarotuProgress → Held → Type 0
StartedHost number host moment before ended after =
    (IsUtf8 host × Calls (StartsHostIn number host moment) before ended after) ⊎ IsNoText host before ended after

-- the message that the bytes spell is fed; where they spell none, nothing changes
pub record IsFed (number : ℕ) (bytes : List ℕ) (before : SessionValue) (ended : YimarotuProgress) (after : SessionValue)
    : Type 0 where
  pub found : WireMessage
  pub spelled : message_of bytes ≡ Ok found
  pub fed : Calls (Feeds (Ok found.message) number) before ended after

pub record IsNotFed
    (bytes : List ℕ) (before : SessionValue) (ended : YimarotuProgress) (after : SessionValue)
    : Type 0 where
  pub error : WireError
  pub fault : wire.Fails error (message_of bytes)
  pub told : ended ≡ came_unread error
  pub stays : after ≡ before

abbrev pub Fed : ℕ → List ℕ → SessionValue → YimarotuProgress → SessionValue → Type 0
Fed number bytes before ended after = IsFed number bytes before ended after ⊎ IsNotFed bytes before ended after

-- the failure of a number is fed; where there is none, nothing changes
abbrev pub Fails : ℕ → ℕ → SessionValue → YimarotuProgress → SessionValue → Type 0
Fails number failure before ended after =
    (error : Option NetError) × IsFailure failure error
    × MatchOption error ((ended ≡ came_end status.Kind) × (after ≡ before))
    (λ error. Calls (Feeds (Err error) number) before ended after)

abbrev pub cancel_status : Result Bool AllocError → Status
cancel_status (Ok true) = status.Ok
cancel_status (Ok false) = status.NoLookup
cancel_status (Err error) = status.NoMemory

abbrev pub clear_status : Result (Unit {0}) SessionError → Status
clear_status (Ok done) = status.Ok
clear_status (Err error) = status_of error

-- what the cache has for a name is dropped; where the name is not UTF-8, nothing changes
abbrev pub ClearedName : List ℕ → ℕ → Held → ℕ → Held → Type 0
ClearedName name code before ended after =
    (IsUtf8 name
    × (result : Result (Unit {0}) SessionError) × ClearsNameIn name (type_of code) before result after
    × (ended ≡ number_of (clear_status result)))
    ⊎ (¬ (IsUtf8 name) × (ended ≡ number_of status.Text) × (after ≡ before))

abbrev pub Cancelled : ℕ → ℕ → Held → ℕ → Held → Type 0
Cancelled number moment before ended after =
    (result : Result Bool AllocError) × CancelsIn number moment before result after
    × (ended ≡ number_of (cancel_status result))

abbrev pub ClearedAll : Held → ℕ → Held → Type 0
ClearedAll before ended after = ClearsIn before after × (ended ≡ number_of status.Ok)
