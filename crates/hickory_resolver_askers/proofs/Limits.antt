-- Transactions stay within their limits.
use Rattle.std.proofs.Common.{◌≡◌, ℕ, suc, ◌+◌, ◌<◌, ◌≤◌, Bool, true, false, cond, ◌&&◌, ltb, List, [], ◌∷◌, ◌++◌, length, drop, refl, ap, subst, arith}
use Rattle.std.specs.Prelude.{Option, None, Some, slice_get}
use Rattle.std.specs.declared.cmp.Ordering.{Ordering}
use Rattle.std.specs.declared.cmp.Ordering.TheVariants.{Less, Equal, Greater}
use Rattle.std.specs.Ordering.{nat_cmp, match_ordering}
use Rattle.std.specs.List.{AllByRecursion}
use Rattle.std.specs.Map.{lookup, remove_entry, set_value}
use Rattle.std.specs.BTreeMap.{insert_entry, is_at}
use Rattle.std.specs.Option.{is_none, option_map_or}
use Rattle.std.proofs.lemmas.Bool.{ltb-true, and_parts}
use Rattle.hickory_resolver_askers.specs.Askers.{AskersState, WaitingValue, nobody, is_flying, is_waiting, has_place, first_waiting, begun_in, begun, pushed_flying, with_asker, pushed_waiting, joined_flying, joined_waiting, joined, over, without, removed_flying, without_asker, removed_waiting, left_of, forgot_as, admitted_one, admitted}
use Rattle.hickory_resolver_askers.specs.Laws.{AskersEvent, begins, joins, is_over, is_forgotten, is_admitted, after_event, after_events, HasOldNumber, IsWithinLimits, StaysWithinLimits}
use Rattle.hickory_resolver_askers.specs.declared.asker.Asker.{Asker}
use Rattle.hickory_resolver_askers.specs.declared.asker.AskerLimits.{AskerLimits}
use Rattle.hickory_resolver_askers.specs.declared.asker.Forgotten.{Forgotten}
use Rattle.hickory_resolver_askers.specs.declared.asker.Forgotten.TheVariants.{Nobody, OthersAsk, Last}
use Rattle.hickory_resolver_askers.specs.declared.asker.Place.TheVariants.{InFlight, Waits, Overloaded}

-- ---- values under numbers

module _ {A : Type 0} where
  abbrev AreOld : ℕ → List (ℕ × A) → Type 0
  AreOld next es = AllByRecursion (HasOldNumber next) es

  old-inserted : (next n : ℕ) (a : A) (es : List (ℕ × A)) → n < next → AreOld next es → AreOld next (insert_entry nat_cmp es n a)
  old-inserted next n a [] old all = (old, tt)
  old-inserted next n a (e ∷ es) old all = by (nat_cmp n e.0) (old-inserted next n a es old all.1)
    where
      by : (o : Ordering) → AreOld next (insert_entry nat_cmp es n a)
          → AreOld next (match_ordering o ((n, a) ∷ e ∷ es) ((e.0, a) ∷ es) (e ∷ insert_entry nat_cmp es n a))
      by Less more = (old, all)
      by Equal more = (all.0, all.1)
      by Greater more = (all.0, more)

  old-later : (next : ℕ) (es : List (ℕ × A)) → AreOld next es → AreOld (next + 1) es
  old-later next [] all = tt
  old-later next (e ∷ es) all = (omega (arith, all.0), old-later next es all.1)

  count-inserted : (n : ℕ) (a : A) (es : List (ℕ × A)) → length (insert_entry nat_cmp es n a) ≤ length es + 1
  count-inserted n a [] = omega arith
  count-inserted n a (e ∷ es) = by (nat_cmp n e.0) (count-inserted n a es)
    where
      by : (o : Ordering) → length (insert_entry nat_cmp es n a) ≤ length es + 1
          → length (match_ordering o ((n, a) ∷ e ∷ es) ((e.0, a) ∷ es) (e ∷ insert_entry nat_cmp es n a)) ≤ suc (length es) + 1
      by Less more = omega arith
      by Equal more = omega arith
      by Greater more = omega (arith, more)

  old-set : (test : ℕ → Bool) (next : ℕ) (a : A) (es : List (ℕ × A)) → AreOld next es → AreOld next (set_value test es a)
  old-set test next a [] all = tt
  old-set test next a (e ∷ es) all = by (test e.0) (old-set test next a es all.1)
    where
      by : (b : Bool) → AreOld next (set_value test es a) → AreOld next (cond b ((e.0, a) ∷ es) (e ∷ set_value test es a))
      by true more = all
      by false more = (all.0, more)

  count-set : (test : ℕ → Bool) (a : A) (es : List (ℕ × A)) → length (set_value test es a) ≡ length es
  count-set test a [] = refl
  count-set test a (e ∷ es) = by (test e.0) (count-set test a es)
    where
      by : (b : Bool) → length (set_value test es a) ≡ length es
          → length (cond b ((e.0, a) ∷ es) (e ∷ set_value test es a)) ≡ suc (length es)
      by true more = refl
      by false more = ap suc more

  old-removed : (test : ℕ → Bool) (next : ℕ) (es : List (ℕ × A)) → AreOld next es → AreOld next (remove_entry test es)
  old-removed test next [] all = tt
  old-removed test next (e ∷ es) all = by (test e.0) (old-removed test next es all.1)
    where
      by : (b : Bool) → AreOld next (remove_entry test es) → AreOld next (cond b es (e ∷ remove_entry test es))
      by true more = all.1
      by false more = (all.0, more)

  count-removed : (test : ℕ → Bool) (es : List (ℕ × A)) → length (remove_entry test es) ≤ length es
  count-removed test [] = omega arith
  count-removed test (e ∷ es) = by (test e.0) (count-removed test es)
    where
      by : (b : Bool) → length (remove_entry test es) ≤ length es
          → length (cond b es (e ∷ remove_entry test es)) ≤ suc (length es)
      by true more = omega arith
      by false more = omega (arith, more)

  -- a value changed where it is found
  module _ (test : ℕ → Bool) (change : A → A) where
    abbrev changed : List (ℕ × A) → List (ℕ × A)
    changed es = option_map_or (λ a. set_value test es (change a)) (lookup test es) es

    old-changed : (next : ℕ) (es : List (ℕ × A)) → AreOld next es → AreOld next (changed es)
    old-changed next es all = by (lookup test es)
      where
        by : (found : Option A) → AreOld next (option_map_or (λ a. set_value test es (change a)) found es)
        by None = all
        by (Some a) = old-set test next (change a) es all

    count-changed : (es : List (ℕ × A)) → length (changed es) ≡ length es
    count-changed es = by (lookup test es)
      where
        by : (found : Option A) → length (option_map_or (λ a. set_value test es (change a)) found es) ≡ length es
        by None = refl
        by (Some a) = count-set test (change a) es

  -- the first
  first-old : (next : ℕ) (es : List (ℕ × A)) (e : ℕ × A) → AreOld next es → slice_get es 0 ≡ Some e → e.0 < next
  first-old next [] e all h = absurd cc
  first-old next (x ∷ xs) e all h =
      let is : x ≡ e = cc in
      subst (λ (y : ℕ × A). y.0 < next) is all.0

  old-dropped : (next : ℕ) (es : List (ℕ × A)) → AreOld next es → AreOld next (drop 1 es)
  old-dropped next [] all = tt
  old-dropped next (e ∷ es) all = all.1

  count-dropped : (es : List (ℕ × A)) → length (drop 1 es) ≤ length es
  count-dropped [] = omega arith
  count-dropped (e ∷ es) = omega arith

-- ---- events

module _ (limits : AskerLimits) (s : AskersState) (same : s.limits ≡ limits) (w : IsWithinLimits limits s) where
  record Stays (t : AskersState) : Type 0 where
    limits_are : t.limits ≡ limits
    within : IsWithinLimits limits t

  as-it-is : Stays s
  as-it-is = record { limits_are = same; within = w }

  flying-place : has_place s ≡ true → length s.in_flight < limits.transactions
  flying-place e =
      subst (λ (l : AskerLimits). length s.in_flight < l.transactions) same
      (ltb-true (length s.in_flight) s.limits.transactions e)

  stays-begun_flying : (until : ℕ) → has_place s ≡ true → Stays (begun_in InFlight until s)
  stays-begun_flying until e = record {
    limits_are = same;
    within = record {
      in_flight = omega (arith, flying-place e, count-inserted s.next_transaction (s.next_asker ∷ []) s.in_flight);
      waiting = w.waiting;
      flying_numbers = old-inserted (s.next_transaction + 1) s.next_transaction (s.next_asker ∷ []) s.in_flight (omega arith)
          (old-later s.next_transaction s.in_flight w.flying_numbers);
      waiting_numbers = old-later s.next_transaction s.waiting w.waiting_numbers;
    };
  }

  stays-begun_waiting : (until : ℕ) → ltb (length s.waiting) s.limits.waiting ≡ true → Stays (begun_in Waits until s)
  stays-begun_waiting until e =
      let held : WaitingValue = record { until = until; askers = s.next_asker ∷ [] } in
      let room : length s.waiting < limits.waiting =
      subst (λ (l : AskerLimits). length s.waiting < l.waiting) same (ltb-true (length s.waiting) s.limits.waiting e) in
      record {
        limits_are = same;
        within = record {
          in_flight = w.in_flight;
          waiting = omega (arith, room, count-inserted s.next_transaction held s.waiting);
          flying_numbers = old-later s.next_transaction s.in_flight w.flying_numbers;
          waiting_numbers = old-inserted (s.next_transaction + 1) s.next_transaction held s.waiting (omega arith)
              (old-later s.next_transaction s.waiting w.waiting_numbers);
        };
      }

  stays-begun : (until : ℕ) → Stays (begun until s)
  stays-begun until = by (has_place s && is_none (first_waiting s)) refl (ltb (length s.waiting) s.limits.waiting) refl
    where
      by : (flies : Bool) → (has_place s && is_none (first_waiting s)) ≡ flies
          → (waits : Bool) → ltb (length s.waiting) s.limits.waiting ≡ waits
          → Stays (begun_in (cond flies InFlight (cond waits Waits Overloaded)) until s)
      by true e waits h = stays-begun_flying until (and_parts (has_place s) (is_none (first_waiting s)) e).0
      by false e true h = stays-begun_waiting until h
      by false e false h = as-it-is

  stays-flying : (next : ℕ) (es : List (ℕ × List ℕ)) → length es ≤ length s.in_flight → AreOld s.next_transaction es
      → Stays (record s { next_asker = next; in_flight = es })
  stays-flying next es few old = record {
    limits_are = same;
    within = record {
      in_flight = omega (arith, few, w.in_flight);
      waiting = w.waiting;
      flying_numbers = old;
      waiting_numbers = w.waiting_numbers;
    };
  }

  stays-waiting : (next : ℕ) (es : List (ℕ × WaitingValue)) → length es ≤ length s.waiting → AreOld s.next_transaction es
      → Stays (record s { next_asker = next; waiting = es })
  stays-waiting next es few old = record {
    limits_are = same;
    within = record {
      in_flight = w.in_flight;
      waiting = omega (arith, few, w.waiting);
      flying_numbers = w.flying_numbers;
      waiting_numbers = old;
    };
  }

  stays-both : (es : List (ℕ × List ℕ)) (hs : List (ℕ × WaitingValue)) → length es ≤ length s.in_flight
      → length hs ≤ length s.waiting → AreOld s.next_transaction es → AreOld s.next_transaction hs
      → Stays (record s { in_flight = es; waiting = hs })
  stays-both es hs few fewer old older = record {
    limits_are = same;
    within = record {
      in_flight = omega (arith, few, w.in_flight);
      waiting = omega (arith, fewer, w.waiting);
      flying_numbers = old;
      waiting_numbers = older;
    };
  }

  stays-joined : (n : ℕ) → Stays (joined n s)
  stays-joined n = by (is_flying n s) (is_waiting n s)
    where
      test : ℕ → Bool
      test = is_at (nat_cmp n)

      by : (flies waits : Bool) → Stays (cond flies (joined_flying n s) (cond waits (joined_waiting n s) s))
      by true waits =
          let change = λ (askers : List ℕ). askers ++ s.next_asker ∷ [] in
          stays-flying (s.next_asker + 1) (pushed_flying n s.next_asker s.in_flight)
          (omega (arith, count-changed (is_at (nat_cmp n)) change s.in_flight))
          (old-changed (is_at (nat_cmp n)) change s.next_transaction s.in_flight w.flying_numbers)
      by false true =
          stays-waiting (s.next_asker + 1) (pushed_waiting n s.next_asker s.waiting)
          (omega (arith, count-changed (is_at (nat_cmp n)) (with_asker s.next_asker) s.waiting))
          (old-changed (is_at (nat_cmp n)) (with_asker s.next_asker) s.next_transaction s.waiting w.waiting_numbers)
      by false false = as-it-is

  stays-over : (n : ℕ) → Stays (over n s)
  stays-over n =
      stays-both (remove_entry (is_at (nat_cmp n)) s.in_flight) (remove_entry (is_at (nat_cmp n)) s.waiting)
      (count-removed (is_at (nat_cmp n)) s.in_flight) (count-removed (is_at (nat_cmp n)) s.waiting)
      (old-removed (is_at (nat_cmp n)) s.next_transaction s.in_flight w.flying_numbers)
      (old-removed (is_at (nat_cmp n)) s.next_transaction s.waiting w.waiting_numbers)

  stays-forgot_as : (left : Forgotten) (a : Asker) → Stays (forgot_as left a s)
  stays-forgot_as Nobody a = as-it-is
  stays-forgot_as OthersAsk a =
      stays-both (removed_flying a.transaction a.number s.in_flight) (removed_waiting a.transaction a.number s.waiting)
      (omega (arith, count-changed (is_at (nat_cmp a.transaction)) (without a.number) s.in_flight))
      (omega (arith, count-changed (is_at (nat_cmp a.transaction)) (without_asker a.number) s.waiting))
      (old-changed (is_at (nat_cmp a.transaction)) (without a.number) s.next_transaction s.in_flight w.flying_numbers)
      (old-changed (is_at (nat_cmp a.transaction)) (without_asker a.number) s.next_transaction s.waiting w.waiting_numbers)
  stays-forgot_as Last a = stays-over a.transaction

  stays-admitted : Stays (admitted s)
  stays-admitted = by (has_place s) refl (first_waiting s) refl
    where
      by : (has : Bool) → has_place s ≡ has → (found : Option (ℕ × WaitingValue)) → first_waiting s ≡ found
          → Stays (option_map_or (admitted_one s) (cond has found None) s)
      by false e found h = as-it-is
      by true e None h = as-it-is
      by true e (Some first) h = record {
        limits_are = same;
        within = record {
          in_flight = omega (arith, flying-place e, count-inserted first.0 first.1.askers s.in_flight);
          waiting = omega (arith, w.waiting, count-dropped s.waiting);
          flying_numbers = old-inserted s.next_transaction first.0 first.1.askers s.in_flight
              (first-old s.next_transaction s.waiting first w.waiting_numbers h) w.flying_numbers;
          waiting_numbers = old-dropped s.next_transaction s.waiting w.waiting_numbers;
        };
      }

  stays-event : (event : AskersEvent) → Stays (after_event s event)
  stays-event (begins until) = stays-begun until
  stays-event (joins n) = stays-joined n
  stays-event (is_over n) = stays-over n
  stays-event (is_forgotten a) = stays-forgot_as (left_of a s) a
  stays-event is_admitted = stays-admitted

stays-events : (limits : AskerLimits) (s : AskersState) → s.limits ≡ limits → IsWithinLimits limits s
    → (events : List AskersEvent) → IsWithinLimits limits (after_events s events)
stays-events limits s same w [] = w
stays-events limits s same w (event ∷ events) =
    let after = stays-event limits s same w event in
    stays-events limits (after_event s event) after.limits_are after.within events

pub stays_within_limits : StaysWithinLimits
stays_within_limits limits events =
    stays-events limits (nobody limits) refl
    (record { in_flight = omega arith; waiting = omega arith; flying_numbers = tt; waiting_numbers = tt }) events
