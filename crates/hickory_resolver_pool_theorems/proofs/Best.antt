-- What a transaction would tell, were it over now, and what each event does to it: it stays, or is what the event
-- tells.
use Rattle.std.proofs.Common.{ℕ, Bool, true, false, cond, ltb, List, [], ◌∷◌, length, map}
use Rattle.std.specs.Prelude.{Option, None, Some, IfSome, filter, not, ◌+◌}
use Rattle.std.specs.List.{list_any}
use Rattle.std.specs.Option.{option_map_or}
use Rattle.hickory_resolver_tries.specs.declared.outcome.ReplyOutcome.{ReplyOutcome}
use Rattle.hickory_resolver_transactions.specs.Candidates.{is_tried, is_waiting, is_blocked, is_try, waits_as, waits_on, is_due, sent_with, without_channel, requeued, freed_one, has_failed_by}
use Rattle.hickory_resolver_transactions.specs.Outcomes.{better}
use Rattle.hickory_resolver_transactions.specs.Table.{has_room, may_begin_tcp, after_reply, after_refused_opt, after_other_letters, after_deadline, after_closed_stream, then_of_reply, then_of_refused_opt, then_of_other_letters, stays_believed}
use Rattle.hickory_resolver_transactions.specs.Transaction.{TransactionState, replacing, putting, noting, without_oldest, late_too, with_late, noted_of_closed, kept_in, keeping, acted, gone_unless_waiting, acted_late, picked, candidate_at, late_at, late_came_to, late_replied, came_to, without_answered, opt_was_refused, other_letters_came, failed_at, failed_in, failed, blocked_in, blocked, freed, expired_in, late_expired, expired, wants_round, with_round, chosen, sent, unsent}
use Rattle.hickory_resolver_transactions.specs.Transaction as transaction
use Rattle.hickory_resolver_transactions.specs.declared.candidate.Candidate.{Candidate}
use Rattle.hickory_resolver_transactions.specs.declared.candidate.LateTry.{LateTry}
use Rattle.hickory_resolver_transactions.specs.declared.candidate.Made.{Made}
use Rattle.hickory_resolver_transactions.specs.declared.candidate.Progress.{Progress}
use Rattle.hickory_resolver_transactions.specs.declared.candidate.Progress.TheVariants as progress
use Rattle.hickory_resolver_transactions.specs.declared.candidate.Transport.{Transport}
use Rattle.hickory_resolver_transactions.specs.declared.candidate.Transport.TheVariants.{Udp, Tcp}
use Rattle.hickory_resolver_transactions.specs.declared.candidate.Try.{Try}
use Rattle.hickory_resolver_transactions.specs.declared.outcome.Outcome.{Outcome}
use Rattle.hickory_resolver_transactions.specs.declared.outcome.Outcome.TheVariants as told
use Rattle.hickory_resolver_transactions.specs.declared.table.Then.{Then}
use Rattle.hickory_resolver_transactions.specs.declared.table.Then.TheVariants.{Ends, Leaves, Rests, Again, Nothing}
use Rattle.hickory_resolver_pool_theorems.proofs.MayTell.{best, told_by, better-told, told-noted, MayTell, may-again, may-reply, may-then}

module _ (P : Outcome → Type 0) (unreachable : P told.Unreachable) (timeout : P told.Timeout) where
  abbrev pub Tells : TransactionState → Type 0
  Tells s = IfSome (best s) P

  tells-noting : (s : TransactionState) → Tells s → (o : Outcome) → P o → Tells (noting o s)
  tells-noting s h o k = told-noted P s.ended s.noted (better s.noted o) (λ old. better-told P s.noted o old k) h

  closed-told : (ls : List LateTry) (noted : Option Outcome) → IfSome noted P → IfSome (noted_of_closed ls noted) P
  closed-told [] noted h = h
  closed-told (l ∷ ls) noted h = by l.has_failed
    where
      by : (failed : Bool) → IfSome (cond failed (better noted told.Unreachable) noted) P
      by true = better-told P noted told.Unreachable h unreachable
      by false = h

  pub tells-oldest : (s : TransactionState) → Tells s → Tells (without_oldest s)
  tells-oldest s h =
      told-noted P s.ended s.noted (noted_of_closed s.late s.noted) (λ old. closed-told s.late s.noted old) h

  tells-answered : (s : TransactionState) → Tells s → (outcome : ReplyOutcome) (channel id : ℕ)
      → Tells (without_answered outcome channel id s)
  tells-answered s h outcome channel id = by (stays_believed outcome)
    where
      by : (stays : Bool)
          → Tells (cond stays s (record s { late = filter (λ l. not (is_try channel id l.tried)) s.late }))
      by true = h
      by false = h

  tells-gone : (s : TransactionState) → Tells s → (c : Candidate) → Tells (gone_unless_waiting c s)
  tells-gone s h c = by (is_waiting c.progress)
    where
      by : (waits : Bool) → Tells (cond waits s (putting progress.Gone c s))
      by true = h
      by false = h

  tells-late : (s : TransactionState) → Tells s → (l : LateTry) → Tells (with_late l s)
  tells-late s h l = by (ltb (length s.late) 2)
    where
      by : (few : Bool) → Tells (cond few (late_too l s) (late_too l (without_oldest s)))
      by true = h
      by false = tells-oldest s h

  tells-kept : (s : TransactionState) → Tells s → (p : Progress) (place : ℕ) → Tells (kept_in p place s)
  tells-kept s h progress.Queued place = h
  tells-kept s h (progress.Again way due) place = h
  tells-kept s h (progress.Blocked way due) place = h
  tells-kept s h (progress.Waiting t) place = tells-late s h (record { place = place; tried = t; has_failed = false })
  tells-kept s h progress.Tried place = h
  tells-kept s h progress.Gone place = h

  tells-keeping : (s : TransactionState) → Tells s → (keeps : Bool) (c : Candidate) → Tells (keeping keeps c s)
  tells-keeping s h true c = tells-kept s h c.progress c.place
  tells-keeping s h false c = h

  tells-acted : (s : TransactionState) → Tells s → (t : Then) → MayTell P t → (keeps : Bool) (c : Candidate)
      → Tells (acted t keeps c s)
  tells-acted s h (Ends reply) k keeps c = k
  tells-acted s h (Leaves o) k keeps c =
      tells-noting (putting progress.Gone c (keeping keeps c s)) (tells-keeping s h keeps c) o k
  tells-acted s h (Rests o) k keeps c =
      tells-noting (putting progress.Tried c (keeping keeps c s)) (tells-keeping s h keeps c) o k
  tells-acted s h (Again way) k keeps c = tells-keeping s h keeps c
  tells-acted s h Nothing k keeps c = h

  tells-acted_late : (s : TransactionState) → Tells s → (t : Then) → MayTell P t → (c : Candidate)
      → Tells (acted_late t c s)
  tells-acted_late s h (Ends reply) k c = k
  tells-acted_late s h (Leaves o) k c = tells-noting (gone_unless_waiting c s) (tells-gone s h c) o k
  tells-acted_late s h (Rests o) k c = h
  tells-acted_late s h (Again way) k c = by (is_tried c.progress)
    where
      by : (rests : Bool) → Tells (cond rests (putting (progress.Again way None) c s) s)
      by true = h
      by false = h
  tells-acted_late s h Nothing k c = h

  -- ---- events

  module _ (s : TransactionState) (h : Tells s) where
    pub tells-came : (channel id : ℕ) (outcome : ReplyOutcome) (reply : ℕ) → P (told_by outcome reply)
        → Tells (transaction.came channel id outcome reply s)
    tells-came channel id outcome reply k = by (picked (waits_as channel id) s)
      where
        after : TransactionState
        after = without_answered outcome channel id s

        at : (l : LateTry) (found : Option Candidate)
            → Tells (option_map_or (λ c. late_came_to c l.tried outcome reply after) found after)
        at l None = tells-answered s h outcome channel id
        at l (Some c) =
            tells-acted_late after (tells-answered s h outcome channel id) (after_reply c l.tried outcome reply)
            (may-reply P c l.tried outcome reply k) c

        late : (found : Option LateTry) → Tells (option_map_or (λ l. late_replied outcome reply l after) found s)
        late None = h
        late (Some l) = at l (candidate_at l.place after)

        by : (found : Option Candidate) → Tells (option_map_or (λ c. came_to c outcome reply s) found
            (option_map_or (λ l. late_replied outcome reply l after) (late_at channel id s) s))
        by None = late (late_at channel id s)
        by (Some c) =
            tells-acted s h (then_of_reply c outcome reply)
            (may-then P (λ t. after_reply c t outcome reply) c.progress (λ t. may-reply P c t outcome reply k))
            (stays_believed outcome) c

    pub tells-opt : (channel id : ℕ) → Tells (opt_was_refused channel id s)
    tells-opt channel id = by (picked (waits_as channel id) s)
      where
        by : (found : Option Candidate) → Tells (option_map_or (λ c. acted (then_of_refused_opt c) false c s) found s)
        by None = h
        by (Some c) =
            tells-acted s h (then_of_refused_opt c)
            (may-then P (after_refused_opt c) c.progress
            (λ t. may-again P (has_room t.transport c) t.transport false Nothing tt)) false c

    pub tells-letters : (channel id : ℕ) → Tells (other_letters_came channel id s)
    tells-letters channel id = by (picked (waits_as channel id) s)
      where
        by : (found : Option Candidate) → Tells (option_map_or (λ c. acted (then_of_other_letters c) true c s) found s)
        by None = h
        by (Some c) =
            tells-acted s h (then_of_other_letters c)
            (may-then P (after_other_letters c) c.progress
            (λ t. may-again P (may_begin_tcp c t) Tcp t.form.with_opt Nothing tt)) true c

    tells-failed_at : (c : Candidate) (how : Transport) (t : Try) → Tells (failed_at c c.progress how t s)
    tells-failed_at c Udp t = tells-late s h (record { place = c.place; tried = t; has_failed = true })
    tells-failed_at c Tcp t =
        tells-acted s h (after_closed_stream c t)
        (may-again P (has_room Tcp c) Tcp t.form.with_opt (Rests told.Unreachable) unreachable) false c

    tells-failed_in : (c : Candidate) (p : Progress) → Tells (failed_in c p s)
    tells-failed_in c progress.Queued = h
    tells-failed_in c (progress.Again way due) = h
    tells-failed_in c (progress.Blocked way due) = h
    tells-failed_in c (progress.Waiting t) = tells-failed_at c t.transport t
    tells-failed_in c progress.Tried = h
    tells-failed_in c progress.Gone = h

    pub tells-failed : (channel : ℕ) → Tells (failed channel s)
    tells-failed channel = by (picked (waits_on channel) s)
      where
        by : (found : Option Candidate) → Tells (option_map_or (λ c. failed_in c c.progress s) found s)
        by None = h
        by (Some c) = tells-failed_in c c.progress

    tells-blocked_in : (c : Candidate) (p : Progress) → Tells (blocked_in c p s)
    tells-blocked_in c progress.Queued = h
    tells-blocked_in c (progress.Again way due) = h
    tells-blocked_in c (progress.Blocked way due) = h
    tells-blocked_in c (progress.Waiting t) = h
    tells-blocked_in c progress.Tried = h
    tells-blocked_in c progress.Gone = h

    pub tells-blocked : (channel : ℕ) → Tells (blocked channel s)
    tells-blocked channel = by (picked (waits_on channel) s)
      where
        by : (found : Option Candidate) → Tells (option_map_or (λ c. blocked_in c c.progress s) found s)
        by None = h
        by (Some c) = tells-blocked_in c c.progress

    pub tells-freed : Tells (freed s)
    tells-freed = by (picked is_blocked s)
      where
        by : (found : Option Candidate) → Tells (option_map_or (λ c. replacing (freed_one c) s) found s)
        by None = h
        by (Some c) = h

    pub tells-unsent : (due : ℕ) → Tells (unsent due s)
    tells-unsent due = by (chosen s)
      where
        by : (found : Option Candidate)
            → Tells (option_map_or (λ c. replacing (without_channel due c) s) found s)
        by None = h
        by (Some c) = h

    pub tells-sent : (made : Made) → Tells (sent made s)
    tells-sent made = by (chosen s)
      where
        by : (found : Option Candidate)
            → Tells (option_map_or (λ c. replacing (sent_with made s.settings c) s) found s)
        by None = h
        by (Some c) = h

    pub tells-round : (order : List ℕ) → Tells (with_round order s)
    tells-round order = by (wants_round s)
      where
        by : (wants : Bool) → Tells (cond wants (record s {
          candidates = map {A = Candidate} requeued s.candidates;
          order = order;
          round = s.round + 1;
        }) s)
        by true = h
        by false = h

    tells-expired_in : (c : Candidate) (p : Progress) → Tells (expired_in c p s)
    tells-expired_in c progress.Queued = h
    tells-expired_in c (progress.Again way due) = h
    tells-expired_in c (progress.Blocked way due) = tells-noting (putting progress.Tried c s) h told.Timeout timeout
    tells-expired_in c (progress.Waiting t) =
        tells-acted s h (after_deadline s.settings.tcp_on_error c t) (by s.settings.tcp_on_error) true c
      where
        by : (tcp : Bool) → MayTell P (after_deadline tcp c t)
        by true = may-again P (may_begin_tcp c t) Tcp t.form.with_opt (Rests told.Timeout) timeout
        by false = timeout
    tells-expired_in c progress.Tried = h
    tells-expired_in c progress.Gone = h

    tells-late_expired : (now : ℕ) → Tells (late_expired now s)
    tells-late_expired now = by (list_any (has_failed_by now) s.late)
      where
        by : (some : Bool) → Tells (cond some
            (noting told.Unreachable (record s { late = filter (λ l. not (has_failed_by now l)) s.late })) s)
        by true =
            tells-noting (record s { late = filter (λ l. not (has_failed_by now l)) s.late }) h told.Unreachable unreachable
        by false = h

    pub tells-expired : (now : ℕ) → Tells (expired now s)
    tells-expired now = by (picked (is_due now) s)
      where
        by : (found : Option Candidate)
            → Tells (option_map_or (λ c. expired_in c c.progress s) found (late_expired now s))
        by None = tells-late_expired now
        by (Some c) = tells-expired_in c c.progress
