-- Who asks. Those who ask the same share a transaction; so many transactions are in flight at the most, and so many
-- more wait for a place, each up to a moment. Which questions are the same is said elsewhere: a transaction is a number
-- here, and so is an asker.
use Rattle.std.specs.Prelude.{ℕ, ◌+◌, Bool, not, ◌&&◌, ◌||◌, ◌==◌, List, [], ◌∷◌, ◌++◌, length, drop, remove, position, nat_lt, nat_le, slice_get, Option, None, Some, if◌then◌else◌}
use Rattle.std.specs.Ordering.{nat_cmp}
use Rattle.std.specs.List.{list_any}
use Rattle.std.specs.Option.{is_some, is_none, option_map, option_map_or, option_or, option_and_then}
use Rattle.std.specs.Map.{lookup, remove_entry, set_value}
use Rattle.std.specs.BTreeMap.{insert_entry, is_at}
use Rattle.hickory_resolver_askers.specs.declared.asker.Asker.{Asker}
use Rattle.hickory_resolver_askers.specs.declared.asker.AskerLimits.{AskerLimits}
use Rattle.hickory_resolver_askers.specs.declared.asker.Forgotten.{Forgotten}
use Rattle.hickory_resolver_askers.specs.declared.asker.Forgotten.TheVariants.{Nobody, OthersAsk, Last}
use Rattle.hickory_resolver_askers.specs.declared.asker.Place.{Place}
use Rattle.hickory_resolver_askers.specs.declared.asker.Place.TheVariants.{InFlight, Waits, Overloaded}

-- the askers of a transaction that waits, up to a moment
pub record WaitingValue : Type 0 where
  pub until : ℕ
  pub askers : List ℕ

-- The numbers of the next transaction and the next asker, which none had before; and the transactions in flight, and
-- those that wait, each with its askers, by number, so that the first that waits has waited longest.
pub record AskersState : Type 0 where
  pub limits : AskerLimits
  pub next_transaction : ℕ
  pub next_asker : ℕ
  pub in_flight : List (ℕ × List ℕ)
  pub waiting : List (ℕ × WaitingValue)

abbrev pub nobody : AskerLimits → AskersState
nobody limits = record { limits = limits; next_transaction = 0; next_asker = 0; in_flight = []; waiting = [] }

-- ---- what there is

abbrev pub flying_at : ℕ → AskersState → Option (List ℕ)
flying_at transaction s = lookup (is_at (nat_cmp transaction)) s.in_flight

abbrev pub waiting_at : ℕ → AskersState → Option WaitingValue
waiting_at transaction s = lookup (is_at (nat_cmp transaction)) s.waiting

abbrev pub is_flying : ℕ → AskersState → Bool
is_flying transaction s = is_some (flying_at transaction s)

abbrev pub is_waiting : ℕ → AskersState → Bool
is_waiting transaction s = is_some (waiting_at transaction s)

-- the askers of a transaction
abbrev pub askers_of : ℕ → AskersState → Option (List ℕ)
askers_of transaction s = option_or (flying_at transaction s) (option_map (λ w. w.askers) (waiting_at transaction s))

abbrev pub has_place : AskersState → Bool
has_place s = nat_lt (length s.in_flight) s.limits.transactions

abbrev pub first_waiting : AskersState → Option (ℕ × WaitingValue)
first_waiting s = slice_get s.waiting 0

-- ---- one asks what nobody asks

-- it overtakes none that waits
abbrev pub place_for : AskersState → Place
place_for s =
    if has_place s && is_none (first_waiting s) then InFlight else (
    if nat_lt (length s.waiting) s.limits.waiting then Waits else Overloaded)

abbrev pub next_one : AskersState → Asker
next_one s = record { transaction = s.next_transaction; number = s.next_asker }

abbrev pub begun_in : Place → ℕ → AskersState → AskersState
begun_in InFlight until s = record s {
  next_transaction = s.next_transaction + 1;
  next_asker = s.next_asker + 1;
  in_flight = insert_entry nat_cmp s.in_flight s.next_transaction (s.next_asker ∷ []);
}
begun_in Waits until s = record s {
  next_transaction = s.next_transaction + 1;
  next_asker = s.next_asker + 1;
  waiting = insert_entry nat_cmp s.waiting s.next_transaction (record { until = until; askers = s.next_asker ∷ [] });
}
begun_in Overloaded until s = s

abbrev pub begun : ℕ → AskersState → AskersState
begun until s = begun_in (place_for s) until s

abbrev pub given_in : Place → AskersState → Option Asker
given_in InFlight s = Some (next_one s)
given_in Waits s = Some (next_one s)
given_in Overloaded s = None

abbrev pub asker_given : AskersState → Option Asker
asker_given s = given_in (place_for s) s

-- ---- one more asks the same

abbrev pub pushed_flying : ℕ → ℕ → List (ℕ × List ℕ) → List (ℕ × List ℕ)
pushed_flying transaction number flying =
    option_map_or (λ askers. set_value (is_at (nat_cmp transaction)) flying (askers ++ number ∷ []))
    (lookup (is_at (nat_cmp transaction)) flying) flying

abbrev pub with_asker : ℕ → WaitingValue → WaitingValue
with_asker number w = record { until = w.until; askers = w.askers ++ number ∷ [] }

abbrev pub pushed_waiting : ℕ → ℕ → List (ℕ × WaitingValue) → List (ℕ × WaitingValue)
pushed_waiting transaction number waiting =
    option_map_or (λ w. set_value (is_at (nat_cmp transaction)) waiting (with_asker number w))
    (lookup (is_at (nat_cmp transaction)) waiting) waiting

abbrev pub joined_flying : ℕ → AskersState → AskersState
joined_flying transaction s = record s {
  next_asker = s.next_asker + 1;
  in_flight = pushed_flying transaction s.next_asker s.in_flight;
}

abbrev pub joined_waiting : ℕ → AskersState → AskersState
joined_waiting transaction s = record s {
  next_asker = s.next_asker + 1;
  waiting = pushed_waiting transaction s.next_asker s.waiting;
}

abbrev pub joined : ℕ → AskersState → AskersState
joined transaction s =
    if is_flying transaction s then joined_flying transaction s else (
    if is_waiting transaction s then joined_waiting transaction s else s)

abbrev pub joiner : ℕ → AskersState → Option Asker
joiner transaction s =
    if is_flying transaction s || is_waiting transaction s
    then Some (record { transaction = transaction; number = s.next_asker }) else None

-- ---- a transaction is over

abbrev pub over : ℕ → AskersState → AskersState
over transaction s = record s {
  in_flight = remove_entry (is_at (nat_cmp transaction)) s.in_flight;
  waiting = remove_entry (is_at (nat_cmp transaction)) s.waiting;
}

-- ---- one asker is forgotten: with the last the transaction is over

-- without the asker of this number, where there is one
abbrev pub without : ℕ → List ℕ → List ℕ
without number askers = option_map_or (remove askers) (position (λ n. n == number) askers) askers

abbrev pub removed_flying : ℕ → ℕ → List (ℕ × List ℕ) → List (ℕ × List ℕ)
removed_flying transaction number flying =
    option_map_or (λ askers. set_value (is_at (nat_cmp transaction)) flying (without number askers))
    (lookup (is_at (nat_cmp transaction)) flying) flying

abbrev pub without_asker : ℕ → WaitingValue → WaitingValue
without_asker number w = record { until = w.until; askers = without number w.askers }

abbrev pub removed_waiting : ℕ → ℕ → List (ℕ × WaitingValue) → List (ℕ × WaitingValue)
removed_waiting transaction number waiting =
    option_map_or (λ w. set_value (is_at (nat_cmp transaction)) waiting (without_asker number w))
    (lookup (is_at (nat_cmp transaction)) waiting) waiting

-- whether others ask still
abbrev pub what_is_left : ℕ → List ℕ → Forgotten
what_is_left number askers =
    if not (list_any (λ n. n == number) askers) then Nobody else (if length askers == 1 then Last else OthersAsk)

abbrev pub left_of : Asker → AskersState → Forgotten
left_of a s = option_map_or (what_is_left a.number) (askers_of a.transaction s) Nobody

abbrev pub forgot_as : Forgotten → Asker → AskersState → AskersState
forgot_as Nobody a s = s
forgot_as OthersAsk a s = record s {
  in_flight = removed_flying a.transaction a.number s.in_flight;
  waiting = removed_waiting a.transaction a.number s.waiting;
}
forgot_as Last a s = over a.transaction s

abbrev pub forgot : Asker → AskersState → AskersState
forgot a s = forgot_as (left_of a s) a s

-- ---- the first that waits gets a place, where there is one

abbrev pub to_admit : AskersState → Option (ℕ × WaitingValue)
to_admit s = if has_place s then first_waiting s else None

abbrev pub flying_too : AskersState → ℕ × WaitingValue → AskersState
flying_too s first = record s { in_flight = insert_entry nat_cmp s.in_flight first.0 first.1.askers }

abbrev pub admitted_one : AskersState → ℕ × WaitingValue → AskersState
admitted_one s first = record (flying_too s first) { waiting = drop 1 s.waiting }

abbrev pub admitted_too : AskersState → AskersState
admitted_too s = option_map_or (flying_too s) (to_admit s) s

abbrev pub admitted : AskersState → AskersState
admitted s = option_map_or (admitted_one s) (to_admit s) s

-- up to when the first waits, and whether that is past
abbrev pub next_deadline : AskersState → Option ℕ
next_deadline s = option_map (λ first. first.1.until) (first_waiting s)

abbrev pub if_late : ℕ → ℕ × WaitingValue → Option ℕ
if_late now first = if nat_le first.1.until now then Some first.0 else None

abbrev pub late_one : ℕ → AskersState → Option ℕ
late_one now s = option_and_then (if_late now) (first_waiting s)
