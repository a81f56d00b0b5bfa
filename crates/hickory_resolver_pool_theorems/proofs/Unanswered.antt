-- Why a transaction came to nothing, and that each is bounded.
use Rattle.std.proofs.Common.{◌≡◌, ◌≤◌, ℕ, max, Bool, true, false, ◌&&◌, not, List, [], ◌∷◌, refl, ap, sym, subst, ◌∙◌, inl, inr, ◌⊎◌, arith}
use Rattle.std.specs.Prelude.{Option, None, Some, IfSome, count_by}
use Rattle.std.specs.List.{AllByRecursion}
use Rattle.hickory_resolver_askers.specs.Askers.{askers_of}
use Rattle.hickory_resolver_config.specs.ResolverConfig.{OptionsValue}
use Rattle.hickory_resolver_transactions.specs.Candidates.{is_waiting}
use Rattle.hickory_resolver_transactions.specs.Laws.{IsBounded}
use Rattle.hickory_resolver_transactions.specs.Transaction.{TransactionState, begun_with, told, outcome_of, is_idle, may_go_on}
use Rattle.hickory_resolver_transactions.specs.declared.candidate.Candidate.{Candidate}
use Rattle.hickory_resolver_transactions.specs.declared.outcome.Outcome.{Outcome}
use Rattle.hickory_resolver_transactions.specs.declared.outcome.Outcome.TheVariants as kind
use Rattle.hickory_resolver_transactions.specs.declared.settings.Settings.{Settings}
use Rattle.hickory_resolver_transactions.proofs.Bounded.{stays_bounded}
use Rattle.hickory_resolver_traffic.specs.Doing.{doing, doing_for}
use Rattle.hickory_resolver_traffic.specs.Table.{CurrentState, EntryState}
use Rattle.hickory_resolver_traffic.specs.declared.doing.Doing.{Doing}
use Rattle.hickory_resolver_traffic.specs.declared.doing.Doing.TheVariants.{Refused}
use Rattle.hickory_resolver_traffic.specs.declared.entry.ToDo.{ToDo}
use Rattle.hickory_resolver_traffic.specs.declared.entry.ToDo.TheVariants as todo
use Rattle.hickory_resolver_pool.specs.Over.{OverValue, told_as}
use Rattle.hickory_resolver_pool.specs.Pool.{PoolState, no_servers, settings_for, told_outcome, outcome_in}
use Rattle.hickory_resolver_pool.specs.declared.over.PoolOutcome.{PoolOutcome}
use Rattle.hickory_resolver_pool.specs.declared.over.PoolOutcome.TheVariants.{Unreachable, Timeout, Overloaded}
use Rattle.hickory_resolver_pool_theorems.specs.Causes.{IsMade, HasBegun, IsTimeout, IsUnreachable, TimeoutsRanOut, UnreachableOnesFailed, IsBoundedBy, TransactionsStayBounded}
use Rattle.hickory_resolver_pool_theorems.specs.Runs.{Happening, latest_told}
use Rattle.hickory_resolver_pool_theorems.specs.Timeouts.{IsTimeoutAtMost, HasTimedOutAtMost}
use Rattle.hickory_resolver_pool_theorems.proofs.Begun.{BegunIn, begun-runs, worked-begun}
use Rattle.hickory_resolver_pool_theorems.proofs.MayTell.{best_of}
use Rattle.hickory_resolver_pool_theorems.proofs.Causes.{IsMadeBy, Cause, has-cause}
use Rattle.hickory_resolver_pool_theorems.proofs.Clocks.{worked-made}
use Rattle.hickory_resolver_pool_theorems.proofs.EachEntry.{AllEntries, AtCurrent}
use Rattle.hickory_resolver_pool_theorems.proofs.Failures.{end-for, IsEnding, not-over}
use Rattle.hickory_resolver_pool_theorems.proofs.Overs.{IsEnd, told-at_end}
use Rattle.hickory_resolver_pool_theorems.proofs.Pools.{IsEntryAt, IsCurrent}
use Rattle.hickory_resolver_pool_theorems.proofs.Servers.{none-asked}
use Rattle.hickory_resolver_pool_theorems.proofs.SettingsKept.{settings-events}
use Rattle.hickory_resolver_pool_theorems.proofs.Timeouts.{timeouts_are_alone}
use Rattle.hickory_resolver_pool_theorems.proofs.Traces.{SentIn, holds-first, holds-runs}

is-timeout : (o : Outcome) → told_as o ≡ Timeout → o ≡ kind.Timeout
is-timeout (kind.Reply number) e = absurd cc
is-timeout (kind.Cut number) e = absurd cc
is-timeout (kind.Code number) e = absurd cc
is-timeout kind.Unreachable e = absurd cc
is-timeout kind.Timeout e = refl

is-unreachable : (o : Outcome) → told_as o ≡ Unreachable → o ≡ kind.Unreachable
is-unreachable (kind.Reply number) e = absurd cc
is-unreachable (kind.Cut number) e = absurd cc
is-unreachable (kind.Code number) e = absurd cc
is-unreachable kind.Unreachable e = refl
is-unreachable kind.Timeout e = absurd cc

best-timeout : (ended : Option ℕ) (over : Bool) (noted : Option Outcome)
    → told_outcome (told ended over noted) ≡ Timeout → best_of ended noted ≡ Some kind.Timeout
best-timeout (Some number) over noted e = absurd cc
best-timeout None true None e = absurd cc
best-timeout None true (Some o) e = ap (λ (x : Outcome). Some x) (is-timeout o e)
best-timeout None false noted e = absurd cc

-- more than a timeout was not noted
at-most-noted : (noted : Option Outcome) → noted ≡ Some kind.Timeout → IsTimeoutAtMost noted
at-most-noted noted is = subst IsTimeoutAtMost (sym is) tt

best-unreachable : (ended : Option ℕ) (over : Bool) (noted : Option Outcome)
    → told_outcome (told ended over noted) ≡ Unreachable → (told ended over noted ≡ None → ⊥)
    → (best_of ended noted ≡ Some kind.Unreachable) ⊎ (noted ≡ None)
best-unreachable (Some number) over noted e is = absurd cc
best-unreachable None true None e is = inr refl
best-unreachable None true (Some o) e is = inl (ap (λ (x : Outcome). Some x) (is-unreachable o e))
best-unreachable None false noted e is = absurd (is refl)

-- where that is told, nothing is left
pub record IsOut (ended : Option ℕ) (idle more : Bool) : Type 0 where
  pub ended_is : ended ≡ None
  pub idle_is : idle ≡ true
  pub more_is : more ≡ false

is-out : (ended : Option ℕ) (idle more : Bool) (noted : Option Outcome)
    → told_outcome (told ended (idle && not more) noted) ≡ Unreachable
    → (told ended (idle && not more) noted ≡ None → ⊥) → IsOut ended idle more
is-out (Some number) idle more noted e over = absurd cc
is-out None true false noted e over = record { ended_is = refl; idle_is = refl; more_is = refl }
is-out None true true noted e over = absurd (over refl)
is-out None false more noted e over = absurd (over refl)

-- a transaction that is not refused ends with its outcome
pub record IsEnded (s : PoolState) (o : OverValue) (end : IsEnd s o) : Type 0 where
  pub outcome : o.outcome ≡ told_outcome (outcome_of end.current.entry.flying.flight.transaction)
  pub over : outcome_of end.current.entry.flying.flight.transaction ≡ None → ⊥

is-ended : (s : PoolState) (o : OverValue) (end : IsEnd s o) → (o.outcome ≡ Overloaded → ⊥) → IsEnded s o end
is-ended s o end other = by (end-for end.current.to_do end.current.number end.current.entry s.traffic end.ends)
  where
    by : (end.current.to_do ≡ todo.Refuse)
        ⊎ IsEnding (doing end.current s.traffic) end.current.number end.current.entry s.traffic → IsEnded s o end
    by (inl refuse) =
        let what : doing end.current s.traffic ≡ Refused =
        ap (λ (d : ToDo). doing_for d end.current.number end.current.entry s.traffic) refuse in
        let outcome : o.outcome ≡ Overloaded =
        ap (λ (x : OverValue). x.outcome) end.told ∙ ap (λ (d : Doing). outcome_in d end.current.entry) what in
        absurd (other outcome)
    by (inr ending) = record {
      outcome = ap (λ (x : OverValue). x.outcome) end.told
          ∙ ap (λ (d : Doing). outcome_in d end.current.entry) ending.ends;
      over = not-over (outcome_of end.current.entry.flying.flight.transaction)
          (askers_of end.current.number s.traffic.askers) end.askers end.asked_by ending.ending;
    }

not-timeout : (o : PoolOutcome) → o ≡ Timeout → o ≡ Overloaded → ⊥
not-timeout o one other = let no_such : Timeout ≡ Overloaded = sym one ∙ other in cc

not-unreachable : (o : PoolOutcome) → o ≡ Unreachable → o ≡ Overloaded → ⊥
not-unreachable o one other = let no_such : Unreachable ≡ Overloaded = sym one ∙ other in cc

module _ (options : OptionsValue) (past : List Happening) (s : PoolState) (o : OverValue) (end : IsEnd s o)
    (own : IsMadeBy (latest_told past) end.current.entry.flying.flight.transaction)
    (begins : HasBegun options past end.current.number end.current.entry.flying.flight.transaction.settings) where
  abbrev tr : TransactionState
  tr = end.current.entry.flying.flight.transaction

  abbrev made : IsMade tr
  made = own.made

  -- its settings are those with which it was made
  begun : HasBegun options past o.transaction made.settings
  begun =
      subst (λ (n : ℕ). HasBegun options past n made.settings) (sym (ap (λ (x : OverValue). x.transaction) end.told))
      (subst (λ (x : Settings). HasBegun options past end.current.number x)
      (ap (λ (t : TransactionState). t.settings) made.made ∙ settings-events made.events (begun_with made.settings made.servers))
      begins)

  at-most : (ended : Option ℕ) (noted : Option Outcome) → tr.ended ≡ ended → tr.noted ≡ noted
      → best_of ended noted ≡ Some kind.Timeout → HasTimedOutAtMost tr
  at-most (Some number) noted one two is = absurd cc
  at-most None noted one two is = record { ended = one; noted = at-most-noted tr.noted (two ∙ is) }

  timeout-by : IsEnded s o end → o.outcome ≡ Timeout → IsTimeout options past s o
  timeout-by ended is =
      let best_is = best-timeout tr.ended (is_idle tr && not (may_go_on tr)) tr.noted (sym ended.outcome ∙ is) in
      record {
        current = end.current;
        works = end.works;
        number = sym (ap (λ (x : OverValue). x.transaction) end.told);
        made = made;
        begun = begun;
        told = own.told;
        ran_out = subst (λ (b : Option Outcome). IfSome b (Cause (begun_with made.settings made.servers) made.events))
            best_is (has-cause tr made);
        alone = timeouts_are_alone made.settings made.servers made.events
            (subst HasTimedOutAtMost made.made (at-most tr.ended tr.noted refl refl best_is));
      }

  unreachable-by : IsEnded s o end → o.outcome ≡ Unreachable → IsUnreachable options past s o
  unreachable-by ended is =
      by (best-unreachable tr.ended (is_idle tr && not (may_go_on tr)) tr.noted (sym ended.outcome ∙ is) ended.over)
    where
      by : (best_of tr.ended tr.noted ≡ Some kind.Unreachable) ⊎ (tr.noted ≡ None) → IsUnreachable options past s o
      by (inl best_is) = record {
        current = end.current;
        works = end.works;
        number = sym (ap (λ (x : OverValue). x.transaction) end.told);
        made = made;
        begun = begun;
        told = own.told;
        failed = inl (subst (λ (b : Option Outcome). IfSome b (Cause (begun_with made.settings made.servers) made.events))
            best_is (has-cause tr made));
      }
      by (inr none) = record {
        current = end.current;
        works = end.works;
        number = sym (ap (λ (x : OverValue). x.transaction) end.told);
        made = made;
        begun = begun;
        told = own.told;
        failed =
            let last = is-out tr.ended (is_idle tr) (may_go_on tr) tr.noted (sym ended.outcome ∙ is) ended.over in
            none-asked made.settings made.servers made.events made.rounds tr made.made none last.ended_is last.idle_is last.more_is;
      }

pub timeouts_ran_out : TimeoutsRanOut
timeouts_ran_out options limits seed past s after o runs steps is =
    let end = told-at_end o s after steps in
    let own = worked-made options limits seed past s end.current runs end.works in
    timeout-by options past s o end own (worked-begun options limits seed past s end.current runs end.works) (is-ended s o end (not-timeout o.outcome is)) is

pub unreachable_ones_failed : UnreachableOnesFailed
unreachable_ones_failed options limits seed past s after o runs steps is =
    let end = told-at_end o s after steps in
    let own = worked-made options limits seed past s end.current runs end.works in
    unreachable-by options past s o end own (worked-begun options limits seed past s end.current runs end.works)
    (is-ended s o end (not-unreachable o.outcome is)) is

-- ---- each is bounded

bounded-made : (t : TransactionState) → IsMade t → IsBounded t
bounded-made t m = subst IsBounded (sym m.made) (stays_bounded m.settings m.servers m.events)

module _ (options : OptionsValue) (past : List Happening) (s : PoolState) where
  bounded-by : (n : ℕ) (t : TransactionState) → IsMade t → HasBegun options past n t.settings → IsBoundedBy options t
  bounded-by n t is_made so =
      let bounded = bounded-made t is_made in
      let rounds : t.settings.rounds ≡ (settings_for options so.request).rounds =
      ap (λ (x : Settings). x.rounds) so.settings_are in
      let concurrent : t.settings.concurrent ≡ max options.num_concurrent_reqs 1 =
      ap (λ (x : Settings). x.concurrent) so.settings_are in
      record {
        bounded = bounded;
        attempts = omega (arith, bounded.rounds, rounds);
        rounds = omega (arith, bounded.rounds, rounds);
        waiting = subst (λ (k : ℕ). count_by (λ (c : Candidate). is_waiting c.progress) t.candidates ≤ k) concurrent bounded.waiting;
      }

  bounded-all : (es : List (ℕ × EntryState)) → AllByRecursion (IsEntryAt (SentIn past s) past) es
      → AllEntries (BegunIn options past) es → AllByRecursion (λ p. IsBoundedBy options p.1.flying.flight.transaction) es
  bounded-all [] all so = tt
  bounded-all (e ∷ es) all so =
      (bounded-by e.0 e.1.flying.flight.transaction all.0.flight.made so.0, bounded-all es all.1 so.1)

  bounded-one : (c : Option CurrentState) → IfSome c (IsCurrent (SentIn past s) past)
      → IfSome c (AtCurrent (BegunIn options past)) → IfSome c (λ x. IsBoundedBy options x.entry.flying.flight.transaction)
  bounded-one None k so = tt
  bounded-one (Some c) k so = bounded-by c.number c.entry.flying.flight.transaction k.flight.made so

pub transactions_stay_bounded : TransactionsStayBounded
transactions_stay_bounded options limits seed past s runs =
    let held = holds-runs (no_servers options limits seed) past s (holds-first options limits seed) runs in
    let begun = begun-runs options limits seed past s runs in
    record {
      table = bounded-all options past s s.traffic.table.entries held.traffic.table begun.table;
      worked = bounded-one options past s s.current held.current begun.worked;
    }
