-- What is told where there is no answer.
use Rattle.std.proofs.Common.{◌≡◌, ℕ, Bool, true, false, cond, not, ◌&&◌, ◌||◌, List, refl, ap, sym, subst, ◌∙◌, inl, inr, ◌⊎◌, true≢false}
use Rattle.std.specs.Prelude.{Option, None, Some, unwrap_or}
use Rattle.std.specs.Option.{is_some, is_none, option_map_or}
use Rattle.hickory_resolver_askers.specs.Askers.{askers_of}
use Rattle.hickory_resolver_channels.specs.Channels.{has_place}
use Rattle.hickory_resolver_steps.specs.Ending.{first_done}
use Rattle.hickory_resolver_transactions.specs.Transaction.{told, outcome_of, is_idle, may_go_on, wants_round, wanted, has_late, next_deadline}
use Rattle.hickory_resolver_transactions.specs.declared.outcome.Outcome.{Outcome}
use Rattle.hickory_resolver_transactions.specs.declared.outcome.Outcome.TheVariants as kind
use Rattle.hickory_resolver_traffic.specs.Doing.{fails, is_ending, runs_out, is_empty, going_on, forward, round_or_place, sends_or_blocks, at_rest, same_moment, by_failure, doing, doing_for}
use Rattle.hickory_resolver_traffic.specs.Inbox.{first_failure}
use Rattle.hickory_resolver_traffic.specs.Table.{EntryState, is_blocked}
use Rattle.hickory_resolver_traffic.specs.Traffic.{TrafficState}
use Rattle.hickory_resolver_traffic.specs.declared.doing.Doing.{Doing}
use Rattle.hickory_resolver_traffic.specs.declared.doing.Doing.TheVariants.{PutsBack, Expires, Refused, Leaves, Ends, Draws, BeginsRound, GivesUp, Blocks, Sends, Dates, Rests}
use Rattle.hickory_resolver_traffic.specs.declared.entry.ToDo.{ToDo}
use Rattle.hickory_resolver_traffic.specs.declared.entry.ToDo.TheVariants as todo
use Rattle.hickory_resolver_traffic.specs.declared.inbox.ChannelFailure.{ChannelFailure}
use Rattle.hickory_resolver_traffic.specs.declared.inbox.Failure.{Failure}
use Rattle.hickory_resolver_traffic.specs.declared.inbox.Failure.TheVariants as failure
use Rattle.hickory_resolver_pool.specs.Over.{OverValue, told_as}
use Rattle.hickory_resolver_pool.specs.Pool.{told_outcome, outcome_in, is_end}
use Rattle.hickory_resolver_pool.specs.declared.over.PoolOutcome.TheVariants.{Overloaded}
use Rattle.hickory_resolver_pool_theorems.specs.Failures.{CameToNothing, IsFailure, FailuresAreToldLast}
use Rattle.hickory_resolver_pool_theorems.proofs.Overs.{IsEnd, told-at_end}

-- ---- failures

-- an outcome that is no answer is told where nothing is left
pub record IsLast (ended : Option ℕ) (idle more : Bool) (noted : Option Outcome) : Type 0 where
  pub idle_is : idle ≡ true
  pub more_is : more ≡ false
  pub told_is : told_outcome (told ended (idle && not more) noted) ≡ told_as (unwrap_or noted kind.Unreachable)

last-told : (ended : Option ℕ) (idle more : Bool) (noted : Option Outcome)
    → IsFailure (told_outcome (told ended (idle && not more) noted))
    → (told ended (idle && not more) noted ≡ None → ⊥) → IsLast ended idle more noted
last-told (Some reply) idle more noted fails over = absurd fails
last-told None true false noted fails over = record { idle_is = refl; more_is = refl; told_is = refl }
last-told None true true noted fails over = absurd (over refl)
last-told None false more noted fails over = absurd (over refl)

-- ---- what is done with the transaction that is worked on

forward-on : (n : ℕ) (e : EntryState) (t : TrafficState) → is_end (forward n e t) ≡ false
forward-on n e t = by (wants_round e.flying.flight.transaction) (is_some (wanted e.flying.flight.transaction))
  where
    place : (p : Option ℕ) → is_end (option_map_or BeginsRound p Draws) ≡ false
    place None = refl
    place (Some p) = refl

    send : (place late noted : Bool) → is_end (cond place Sends (cond late GivesUp (cond noted Sends Blocks))) ≡ false
    send true late noted = refl
    send false true noted = refl
    send false false true = refl
    send false false false = refl

    rest : (same : Bool) → is_end (cond same Rests (Dates (next_deadline e.flying.flight.transaction))) ≡ false
    rest true = refl
    rest false = refl

    by : (round wants : Bool) → is_end (cond round (round_or_place e) (cond wants (sends_or_blocks n e.flying.flight.transaction t) (at_rest e))) ≡ false
    by true wants = place e.place
    by false true = send (has_place t.shared.channels) (has_late e.flying.flight.transaction) (is_blocked n t.table)
    by false false = rest (same_moment (next_deadline e.flying.flight.transaction) e.due)

-- what is not ending is not at its end
going-on : (n : ℕ) (e : EntryState) (t : TrafficState)
    → is_end (cond (runs_out e t) Expires (option_map_or Leaves (first_done e.flying) (forward n e t))) ≡ false
going-on n e t = by (runs_out e t) (first_done e.flying)
  where
    by : (due : Bool) (place : Option ℕ)
        → is_end (cond due Expires (option_map_or Leaves place (forward n e t))) ≡ false
    by true place = refl
    by false None = forward-on n e t
    by false (Some place) = refl

-- it is refused, or it ends
pub record IsEnding (what : Doing) (n : ℕ) (e : EntryState) (t : TrafficState) : Type 0 where
  pub ends : what ≡ Ends
  pub ending : is_ending n e.flying t ≡ true

end-going_on : (n : ℕ) (e : EntryState) (t : TrafficState) → is_end (going_on n e t) ≡ true
    → IsEnding (going_on n e t) n e t
end-going_on n e t h = by (is_ending n e.flying t) refl (is_empty e.flying.tries) h
  where
    by : (ending : Bool) → is_ending n e.flying t ≡ ending → (empty : Bool)
        → is_end (cond ending (cond empty Ends (Leaves 0))
        (cond (runs_out e t) Expires (option_map_or Leaves (first_done e.flying) (forward n e t)))) ≡ true
        → IsEnding (cond ending (cond empty Ends (Leaves 0))
        (cond (runs_out e t) Expires (option_map_or Leaves (first_done e.flying) (forward n e t)))) n e t
    by true is true g = record { ends = refl; ending = is }
    by true is false g = absurd (true≢false (sym g))
    by false is empty g = absurd (true≢false (sym g ∙ going-on n e t))

failure-on : (why : Failure) → is_end (by_failure why) ≡ false
failure-on failure.Local = refl
failure-on failure.Refused = refl
failure-on failure.Unreachable = refl
failure-on failure.Closed = refl

pub end-for : (to_do : ToDo) (n : ℕ) (e : EntryState) (t : TrafficState) → is_end (doing_for to_do n e t) ≡ true
    → (to_do ≡ todo.Refuse) ⊎ IsEnding (doing_for to_do n e t) n e t
end-for todo.GoOn n e t h = inr (end-going_on n e t h)
end-for todo.Hear n e t h = absurd (true≢false (sym h))
end-for todo.Doubt n e t h = absurd (true≢false (sym h))
end-for todo.Fail n e t h = absurd (by (first_failure t.inbox) h)
  where
    by : (f : Option ChannelFailure) → is_end (option_map_or (λ g. by_failure g.why) f PutsBack) ≡ true → ⊥
    by None g = true≢false (sym g)
    by (Some f) g = true≢false (sym g ∙ failure-on f.why)
end-for todo.Quit n e t h = absurd (true≢false (sym h))
end-for todo.PutBack n e t h = absurd (true≢false (sym h))
end-for todo.Expire n e t h = absurd (true≢false (sym h))
end-for todo.Free n e t h = absurd (true≢false (sym h))
end-for todo.Refuse n e t h = inl refl

-- ---- failures are told last

pub not-over : (o : Option Outcome) (a : Option (List ℕ)) (list : List ℕ) → a ≡ Some list
    → (is_some o || is_none a) ≡ true → o ≡ None → ⊥
not-over None None list is h none = let no_such : None ≡ Some list = is in cc
not-over None (Some other) list is h none = true≢false (sym h)
not-over (Some x) a list is h none = let no_such : Some x ≡ None = none in cc

pub failures_are_told_last : FailuresAreToldLast
failures_are_told_last s after o steps fails = by-end (told-at_end o s after steps)
  where
    by-end : IsEnd s o → CameToNothing s o
    by-end end = by (end-for end.current.to_do end.current.number end.current.entry s.traffic end.ends)
      where
        by : (end.current.to_do ≡ todo.Refuse) ⊎ IsEnding (doing end.current s.traffic) end.current.number end.current.entry s.traffic
            → CameToNothing s o
        by (inl refuse) =
            let what : doing end.current s.traffic ≡ Refused =
            ap (λ (d : ToDo). doing_for d end.current.number end.current.entry s.traffic) refuse in
            let outcome : o.outcome ≡ Overloaded =
            ap (λ (x : OverValue). x.outcome) end.told ∙ ap (λ (d : Doing). outcome_in d end.current.entry) what in
            absurd (subst IsFailure outcome fails)
        by (inr ending) =
            let tr = end.current.entry.flying.flight.transaction in
            let outcome : o.outcome ≡ told_outcome (outcome_of tr) =
            ap (λ (x : OverValue). x.outcome) end.told ∙ ap (λ (d : Doing). outcome_in d end.current.entry) ending.ends in
            let last = last-told tr.ended (is_idle tr) (may_go_on tr) tr.noted (subst IsFailure outcome fails)
            (not-over (outcome_of tr) (askers_of end.current.number s.traffic.askers) end.askers end.asked_by ending.ending) in
            record {
              current = end.current;
              works = end.works;
              number = sym (ap (λ (x : OverValue). x.transaction) end.told);
              waits_for_none = last.idle_is;
              may_not_go_on = last.more_is;
              told = outcome ∙ last.told_is;
            }
