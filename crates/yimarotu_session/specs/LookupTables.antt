-- Look-ups of a session with a network, each under its number, and the queues in which they stand.
use Rattle.std.specs.Prelude.{◌≡◌, ◌==◌, ◌&&◌, ℕ, ◌<◌, Bool, false, true, List, [], ◌∷◌, ◌++◌, drop, map, nat_eq, Option, None, Some}
use Rattle.std.specs.Prelude.{Result, Err, MatchOption, MatchResult, if◌then◌else◌}
use Rattle.std.specs.HashMap as hash
use Rattle.std.specs.Option.{option_and_then, option_map}
use Rattle.std.specs.VecDeque.{deque_capacity, deque_len}
use Rattle.indexmap.specs.IndexMap.{insert_entry, swap_remove_entry}
use Rattle.indexmap.specs.IndexMap as index
use Rattle.hickory_proto_core.specs.declared.query.Query.{Query}
use Rattle.hickory_resolver.specs.Driving.{CallProgress}
use Rattle.hickory_resolver.specs.client.waiting.Progress.TheVariants as progress
use Rattle.hickory_resolver_askers.specs.declared.asker.Asker.{Asker}
use Rattle.yimarotu_session.specs.Ahead.{Resolver, asker_ahead, second_question, untold}
use Rattle.yimarotu_session.specs.Messages.{whole_query}
use Rattle.yimarotu_session.specs.Sessions.{PutsUnder, value_at}
use Rattle.yimarotu_session.specs.declared.ahead.Ahead.{Ahead}
use Rattle.yimarotu_session.specs.declared.ahead.Ahead.TheVariants.{Nothing}
use Rattle.yimarotu_session.specs.declared.ahead.SecondQuestion.{SecondQuestion}
use Rattle.yimarotu_session.specs.declared.lookup_table.LookupTable.{LookupTable}
use Rattle.yimarotu_session.specs.declared.network_lookup.NetworkLookup.{NetworkLookup}
use Rattle.yimarotu_session.specs.declared.network_lookup.NetworkLookup.TheVariants.{Asks, Asked, Done}
use Rattle.yimarotu_session.specs.declared.session_error.SessionError.{SessionError}
use Rattle.yimarotu_session.specs.declared.session_error.SessionError.TheVariants.{OutOfMemory, InUse}

-- The look-ups; what is asked ahead of those of addresses; the askers of the pool, each with the number of the look-up
-- that it asks for; the numbers of the look-ups that have a question to ask, and of those that are done and were not
-- announced; and the askers that the pool is still to forget. First come first.
pub record TableValue : Type 0 where
  pub lookups : List (ℕ × NetworkLookup)
  pub ahead : List (ℕ × Ahead)
  pub askers : List (ℕ × ℕ)
  pub to_ask : List ℕ
  pub to_announce : List ℕ
  pub to_forget : List Asker

abbrev pub no_lookups : TableValue
no_lookups = record { lookups = []; ahead = []; askers = []; to_ask = []; to_announce = []; to_forget = [] }

abbrev pub table_of : LookupTable → TableValue
table_of table = record {
  lookups = table.lookups.entries;
  ahead = table.ahead.entries;
  askers = table.askers.entries;
  to_ask = table.to_ask.items;
  to_announce = table.to_announce.items;
  to_forget = table.to_forget.items;
}

abbrev pub held_at : ℕ → TableValue → Option NetworkLookup
held_at number table = value_at number table.lookups

abbrev pub ahead_at : ℕ → TableValue → Option Ahead
ahead_at number table = value_at number table.ahead

abbrev pub with_asker : Asker → ℕ → TableValue → TableValue
with_asker asker number table = record table { askers = insert_entry nat_eq table.askers asker.number number }

-- the askers without this one, where there is one
abbrev pub askers_without : Option Asker → List (ℕ × ℕ) → List (ℕ × ℕ)
askers_without None askers = askers
askers_without (Some a) askers = swap_remove_entry (nat_eq a.number) askers

abbrev pub without_asker : ℕ → TableValue → TableValue
without_asker asker table = record table { askers = swap_remove_entry (nat_eq asker) table.askers }

-- ---- queues

abbrev pub first_asked : TableValue → TableValue
first_asked table = record table { to_ask = drop 1 table.to_ask }

abbrev pub first_announced : TableValue → TableValue
first_announced table = record table { to_announce = drop 1 table.to_announce }

abbrev pub first_forgotten : TableValue → TableValue
first_forgotten table = record table { to_forget = drop 1 table.to_forget }

-- one that waits to ask stands behind the others that do, and one that is to be announced behind the others that are
abbrev pub to_ask_with : ℕ → NetworkLookup → List ℕ → List ℕ
to_ask_with number (Asks w) queue = queue ++ number ∷ []
to_ask_with number other queue = queue

abbrev pub to_announce_with : ℕ → NetworkLookup → List ℕ → List ℕ
to_announce_with number (Done found false) queue = queue ++ number ∷ []
to_announce_with number other queue = queue

abbrev pub queued : ℕ → NetworkLookup → TableValue → TableValue
queued number held table = record table {
  to_ask = to_ask_with number held table.to_ask;
  to_announce = to_announce_with number held table.to_announce;
}

-- a look-up stands under this number, and in its queue
pub record TakesPlace (number : ℕ) (held : NetworkLookup) (before after : TableValue) : Type 0 where
  pub puts : PutsUnder number (Some held) before.lookups after.lookups
  pub others_stay : after ≡ record (queued number held before) { lookups = after.lookups }

-- a look-up begins under this number, with a place for what is asked ahead of it, or with none
pub record BeginsAt (number : ℕ) (held : NetworkLookup) (ahead : Option Ahead) (before after : TableValue)
    : Type 0 where
  pub puts : PutsUnder number (Some held) before.lookups after.lookups
  pub puts_ahead : PutsUnder number ahead before.ahead after.ahead
  pub others_stay : after ≡ record (queued number held before) { lookups = after.lookups; ahead = after.ahead }

-- ---- what is asked ahead

-- that of this number, where it has a place for it, is changed so
pub record ChangesAhead (number : ℕ) (change : Ahead → Ahead) (before after : TableValue) : Type 0 where
  pub puts : PutsUnder number (option_map change (ahead_at number before)) before.ahead after.ahead
  pub others_stay : after ≡ record before { ahead = after.ahead }

abbrev pub emptied : Ahead → Ahead
emptied ahead = Nothing

-- its asker is still to be forgotten by the pool, behind those that are
abbrev pub to_forget_with : Option Asker → List Asker → List Asker
to_forget_with None queue = queue
to_forget_with (Some a) queue = queue ++ a ∷ []

abbrev pub to_forget_after : ℕ → TableValue → List Asker
to_forget_after number table = to_forget_with (asker_ahead (ahead_at number table)) table.to_forget

-- nothing is asked ahead any more
pub record DropsAhead (number : ℕ) (before after : TableValue) : Type 0 where
  pub puts : PutsUnder number None before.ahead after.ahead
  pub others_stay : after ≡ record before { ahead = after.ahead; to_forget = to_forget_after number before }

-- of all look-ups: what was told of questions that pass is let go
abbrev pub without_told : (Query → Bool) → TableValue → TableValue
without_told passes table = record table { ahead = map (λ e. (e.0, untold passes e.1)) table.ahead }

-- what was taken of that leaves its place empty
abbrev pub LeavesAhead : Ahead → ℕ → TableValue → TableValue → Type 0
LeavesAhead Nothing number before after = after ≡ before
LeavesAhead taken number before after = ChangesAhead number emptied before after

-- ---- room

-- for one more in each queue
pub record HasTurns (table : LookupTable) : Type 0 where
  pub to_ask : deque_len table.to_ask < deque_capacity table.to_ask
  pub to_announce : deque_len table.to_announce < deque_capacity table.to_announce

-- and for one more look-up
pub record HasRoomToStart (table : LookupTable) : Type 0 where
  pub lookups : 0 < hash.spare table.lookups
  pub ahead : 0 < index.spare table.ahead
  pub turns : HasTurns table

-- and for one more asker
pub record HasRoomToAsk (table : LookupTable) : Type 0 where
  pub askers : 0 < index.spare table.askers
  pub turns : HasTurns table

-- for one more asker that is to be forgotten
abbrev pub HasRoomToForget : LookupTable → Type 0
HasRoomToForget table = deque_len table.to_forget < deque_capacity table.to_forget

-- the same look-ups in some order
pub record IsReordered (before after : TableValue) : Type 0 where
  pub lookups : (number : ℕ) → value_at number after.lookups ≡ value_at number before.lookups
  pub others : after ≡ record before { lookups = after.lookups }

-- there is room for a look-up of this number, unless another has it or memory runs out
abbrev pub MakesRoom : ℕ → TableValue → Result (Unit {0}) SessionError → TableValue → Type 0
MakesRoom number before result after =
    MatchOption (held_at number before)
    (MatchResult result (λ u. IsReordered before after) (λ error. (error ≡ OutOfMemory) × (after ≡ before)))
    (λ held. (result ≡ Err InUse) × (after ≡ before))

-- ---- what is known of a look-up

-- how far a call came: it waits to ask its question, or is done
abbrev pub lookup_of : CallProgress → NetworkLookup
lookup_of (progress.Waiting w) = Asks w
lookup_of (progress.Done found) = Done found false

-- its asker, where its question is asked
abbrev pub asker_of : Option NetworkLookup → Option Asker
asker_of (Some (Asked w a)) = Some a
asker_of other = None

abbrev pub is_same : Asker → Option Asker → Bool
is_same asker None = false
is_same asker (Some other) = (other.transaction == asker.transaction) && (other.number == asker.number)

abbrev pub if_waits_for : Asker → TableValue → ℕ → Option ℕ
if_waits_for asker table number = if is_same asker (asker_of (held_at number table)) then Some number else None

-- the number of the look-up that waits for what this asker is told, where it was not forgotten
abbrev pub waits_for : Asker → TableValue → Option ℕ
waits_for asker table = option_and_then (if_waits_for asker table) (value_at asker.number table.askers)

-- and of what is asked ahead of a look-up
abbrev pub if_waits_ahead : Asker → TableValue → ℕ → Option ℕ
if_waits_ahead asker table number =
    if is_same asker (asker_ahead (ahead_at number table)) then Some number else None

abbrev pub waits_ahead : Asker → TableValue → Option ℕ
waits_ahead asker table = option_and_then (if_waits_ahead asker table) (value_at asker.number table.askers)

-- the question that it waits to ask, under an absolute name
abbrev pub question_to_ask : Option NetworkLookup → Option Query
question_to_ask (Some (Asks w)) = Some (whole_query w.lookup.hop.query)
question_to_ask other = None

-- The question of the second family of one whose question is asked, where there is a place for it and nothing was asked
-- yet.
abbrev pub question_ahead : Resolver → Option NetworkLookup → Option Ahead → Option SecondQuestion
question_ahead resolver (Some (Asked w a)) (Some Nothing) = second_question resolver w
question_ahead resolver held ahead = None

-- it waits for what this asker is told
abbrev pub asked_by : Asker → NetworkLookup → NetworkLookup
asked_by a (Asks w) = Asked w a
asked_by a other = other

-- it is announced
abbrev pub announced : NetworkLookup → NetworkLookup
announced (Done found b) = Done found true
announced other = other

-- whether it is done, and was not announced
abbrev pub is_unannounced : Option NetworkLookup → Bool
is_unannounced (Some (Done found false)) = true
is_unannounced other = false

-- a look-up is forgotten, with its asker, and nothing is asked ahead of it any more
pub record IsForgotten (number : ℕ) (before after : TableValue) : Type 0 where
  pub puts : PutsUnder number None before.lookups after.lookups
  pub puts_ahead : PutsUnder number None before.ahead after.ahead
  pub others_stay : after ≡ record before {
    lookups = after.lookups;
    ahead = after.ahead;
    askers = askers_without (asker_of (held_at number before)) before.askers;
    to_forget = to_forget_after number before;
  }

-- the first that was to be announced is, and nothing is asked ahead of it any more
pub record IsAnnounced (number : ℕ) (before after : TableValue) : Type 0 where
  pub puts : PutsUnder number (option_map announced (held_at number before)) before.lookups after.lookups
  pub puts_ahead : PutsUnder number None before.ahead after.ahead
  pub others_stay : after ≡ record (first_announced before) {
    lookups = after.lookups;
    ahead = after.ahead;
    to_forget = to_forget_after number before;
  }
