-- What a transaction would tell has its reason: a timeout, that a deadline passed; that no server was reached, that a
-- channel failed.
use Rattle.std.proofs.Common.{◌≡◌, ℕ, Bool, true, false, cond, ltb, ◌&&◌, ◌||◌, leb, sym, true≢false, List, [], ◌∷◌, ◌++◌, length, map, drop, refl}
use Rattle.std.specs.Prelude.{Option, None, Some, IfSome, filter, not, ◌+◌}
use Rattle.std.specs.List.{AllByRecursion, list_any}
use Rattle.std.specs.Option.{option_map_or}
use Rattle.hickory_resolver_tries.specs.declared.outcome.ReplyOutcome.{ReplyOutcome}
use Rattle.hickory_resolver_transactions.specs.Candidates.{is_tried, is_waiting, is_blocked, is_try, waits_as, waits_on, is_due, sent_with, without_channel, blocked_as, requeued, freed_one, has_failed_by}
use Rattle.hickory_resolver_transactions.specs.Outcomes.{better}
use Rattle.hickory_resolver_transactions.specs.Table.{has_room, may_begin_tcp, after_reply, after_refused_opt, after_other_letters, after_deadline, after_closed_stream, then_of_reply, then_of_refused_opt, then_of_other_letters, stays_believed}
use Rattle.hickory_resolver_transactions.specs.Transaction.{TransactionState, replacing, putting, noting, without_oldest, late_too, with_late, noted_of_closed, kept_in, keeping, acted, gone_unless_waiting, acted_late, picked, candidate_at, late_at, late_came_to, late_replied, came_to, without_answered, opt_was_refused, other_letters_came, failed_at, failed_in, failed, blocked_in, blocked, freed, expired_in, late_expired, expired, wants_round, with_round, chosen, sent, unsent}
use Rattle.hickory_resolver_transactions.specs.Transaction as transaction
use Rattle.hickory_resolver_transactions.specs.declared.candidate.Candidate.{Candidate}
use Rattle.hickory_resolver_transactions.specs.declared.candidate.LateTry.{LateTry}
use Rattle.hickory_resolver_transactions.specs.declared.candidate.Made.{Made}
use Rattle.hickory_resolver_transactions.specs.declared.candidate.Progress.{Progress}
use Rattle.hickory_resolver_transactions.specs.declared.candidate.Progress.TheVariants as progress
use Rattle.hickory_resolver_transactions.specs.declared.candidate.Transport.{Transport}
use Rattle.hickory_resolver_transactions.specs.declared.candidate.Transport.TheVariants.{Udp, Tcp}
use Rattle.hickory_resolver_transactions.specs.declared.candidate.Try.{Try}
use Rattle.hickory_resolver_transactions.specs.declared.outcome.Outcome.{Outcome}
use Rattle.hickory_resolver_transactions.specs.declared.outcome.Outcome.TheVariants as told
use Rattle.hickory_resolver_transactions.specs.declared.table.Then.{Then}
use Rattle.hickory_resolver_transactions.specs.declared.table.Then.TheVariants.{Ends, Leaves, Rests, Again, Nothing}
use Rattle.hickory_resolver_pool_theorems.proofs.MayTell.{best, told_by, better-told, told-noted, MayTell, may-again, may-reply, may-then}

module _ (P : Outcome → Type 0) where
  -- a channel of it failed
  abbrev pub FailedLate : LateTry → Type 0
  FailedLate l = l.has_failed ≡ true → P told.Unreachable

  pub record Well (s : TransactionState) : Type 0 where
    pub told : IfSome (best s) P
    pub late : AllByRecursion FailedLate s.late

  pushed : (l : LateTry) (ls : List LateTry) → FailedLate l → AllByRecursion FailedLate ls
      → AllByRecursion FailedLate (ls ++ l ∷ [])
  pushed l [] k all = (k, tt)
  pushed l (x ∷ xs) k all = (all.0, pushed l xs k all.1)

  dropped : (ls : List LateTry) → AllByRecursion FailedLate ls → AllByRecursion FailedLate (drop 1 ls)
  dropped [] all = tt
  dropped (l ∷ ls) all = all.1

  filtered : (test : LateTry → Bool) (ls : List LateTry) → AllByRecursion FailedLate ls
      → AllByRecursion FailedLate (filter test ls)
  filtered test [] all = tt
  filtered test (l ∷ ls) all = by (test l) (filtered test ls all.1)
    where
      by : (b : Bool) → AllByRecursion FailedLate (filter test ls)
          → AllByRecursion FailedLate (cond b (l ∷ filter test ls) (filter test ls))
      by true more = (all.0, more)
      by false more = more

  -- one that failed is there
  some-failed : (now : ℕ) (ls : List LateTry) → list_any (has_failed_by now) ls ≡ true → AllByRecursion FailedLate ls
      → P told.Unreachable
  some-failed now [] e all = absurd (true≢false (sym e))
  some-failed now (l ∷ ls) e all = by l.has_failed refl (λ k. some-failed now ls k all.1) e
    where
      by : (failed : Bool) → l.has_failed ≡ failed → (list_any (has_failed_by now) ls ≡ true → P told.Unreachable)
          → ((failed && leb l.tried.due now) || list_any (has_failed_by now) ls) ≡ true → P told.Unreachable
      by true is more h = all.0 is
      by false is more h = more h

  well-noting : (s : TransactionState) → Well s → (o : Outcome) → P o → Well (noting o s)
  well-noting s h o k = record {
    told = told-noted P s.ended s.noted (better s.noted o) (λ old. better-told P s.noted o old k) h.told;
    late = h.late;
  }

  closed-told : (ls : List LateTry) (noted : Option Outcome) → AllByRecursion FailedLate ls → IfSome noted P
      → IfSome (noted_of_closed ls noted) P
  closed-told [] noted all h = h
  closed-told (l ∷ ls) noted all h = by l.has_failed refl
    where
      by : (failed : Bool) → l.has_failed ≡ failed → IfSome (cond failed (better noted told.Unreachable) noted) P
      by true is = better-told P noted told.Unreachable h (all.0 is)
      by false is = h

  pub well-oldest : (s : TransactionState) → Well s → Well (without_oldest s)
  well-oldest s h = record {
    told = told-noted P s.ended s.noted (noted_of_closed s.late s.noted)
        (λ old. closed-told s.late s.noted h.late old) h.told;
    late = dropped s.late h.late;
  }

  well-late : (s : TransactionState) → Well s → (l : LateTry) → FailedLate l → Well (with_late l s)
  well-late s h l k = by (ltb (length s.late) 2)
    where
      by : (few : Bool) → Well (cond few (late_too l s) (late_too l (without_oldest s)))
      by true = record { told = h.told; late = pushed l s.late k h.late }
      by false = record { told = (well-oldest s h).told; late = pushed l (drop 1 s.late) k (dropped s.late h.late) }

  well-replacing : (s : TransactionState) → Well s → (c : Candidate) → Well (replacing c s)
  well-replacing s h c = record { told = h.told; late = h.late }

  well-kept : (s : TransactionState) → Well s → (p : Progress) (place : ℕ) → Well (kept_in p place s)
  well-kept s h progress.Queued place = h
  well-kept s h (progress.Again way due) place = h
  well-kept s h (progress.Blocked way due) place = h
  well-kept s h (progress.Waiting t) place =
      well-late s h (record { place = place; tried = t; has_failed = false }) (λ e. absurd (true≢false (sym e)))
  well-kept s h progress.Tried place = h
  well-kept s h progress.Gone place = h

  well-keeping : (s : TransactionState) → Well s → (keeps : Bool) (c : Candidate) → Well (keeping keeps c s)
  well-keeping s h true c = well-kept s h c.progress c.place
  well-keeping s h false c = h

  well-ending : (s : TransactionState) → Well s → (reply : ℕ) → P (told.Reply reply) → Well (record s { ended = Some reply })
  well-ending s h reply k = record { told = k; late = h.late }

  well-acted : (s : TransactionState) → Well s → (t : Then) → MayTell P t → (keeps : Bool) (c : Candidate)
      → Well (acted t keeps c s)
  well-acted s h (Ends reply) k keeps c = well-ending s h reply k
  well-acted s h (Leaves o) k keeps c =
      let kept = well-keeping s h keeps c in
      well-noting (putting progress.Gone c (keeping keeps c s))
      (well-replacing (keeping keeps c s) kept (record c { progress = progress.Gone })) o k
  well-acted s h (Rests o) k keeps c =
      let kept = well-keeping s h keeps c in
      well-noting (putting progress.Tried c (keeping keeps c s))
      (well-replacing (keeping keeps c s) kept (record c { progress = progress.Tried })) o k
  well-acted s h (Again way) k keeps c =
      well-replacing (keeping keeps c s) (well-keeping s h keeps c) (record c { progress = progress.Again way None })
  well-acted s h Nothing k keeps c = h

  well-answered : (s : TransactionState) → Well s → (outcome : ReplyOutcome) (channel id : ℕ)
      → Well (without_answered outcome channel id s)
  well-answered s h outcome channel id = by (stays_believed outcome)
    where
      by : (stays : Bool)
          → Well (cond stays s (record s { late = filter (λ l. not (is_try channel id l.tried)) s.late }))
      by true = h
      by false = record { told = h.told; late = filtered (λ l. not (is_try channel id l.tried)) s.late h.late }

  well-gone : (s : TransactionState) → Well s → (c : Candidate) → Well (gone_unless_waiting c s)
  well-gone s h c = by (is_waiting c.progress)
    where
      by : (waits : Bool) → Well (cond waits s (putting progress.Gone c s))
      by true = h
      by false = well-replacing s h (record c { progress = progress.Gone })

  well-acted_late : (s : TransactionState) → Well s → (t : Then) → MayTell P t → (c : Candidate) → Well (acted_late t c s)
  well-acted_late s h (Ends reply) k c = well-ending s h reply k
  well-acted_late s h (Leaves o) k c = well-noting (gone_unless_waiting c s) (well-gone s h c) o k
  well-acted_late s h (Rests o) k c = h
  well-acted_late s h (Again way) k c = by (is_tried c.progress)
    where
      by : (rests : Bool) → Well (cond rests (putting (progress.Again way None) c s) s)
      by true = well-replacing s h (record c { progress = progress.Again way None })
      by false = h
  well-acted_late s h Nothing k c = h

  -- ---- events

  module _ (s : TransactionState) (h : Well s) where
    pub well-came : (channel id : ℕ) (outcome : ReplyOutcome) (reply : ℕ) → P (told_by outcome reply)
        → Well (transaction.came channel id outcome reply s)
    well-came channel id outcome reply k = by (picked (waits_as channel id) s)
      where
        after : TransactionState
        after = without_answered outcome channel id s

        at : (l : LateTry) (found : Option Candidate)
            → Well (option_map_or (λ c. late_came_to c l.tried outcome reply after) found after)
        at l None = well-answered s h outcome channel id
        at l (Some c) =
            well-acted_late after (well-answered s h outcome channel id) (after_reply c l.tried outcome reply)
            (may-reply P c l.tried outcome reply k) c

        late : (found : Option LateTry) → Well (option_map_or (λ l. late_replied outcome reply l after) found s)
        late None = h
        late (Some l) = at l (candidate_at l.place after)

        by : (found : Option Candidate) → Well (option_map_or (λ c. came_to c outcome reply s) found
            (option_map_or (λ l. late_replied outcome reply l after) (late_at channel id s) s))
        by None = late (late_at channel id s)
        by (Some c) =
            well-acted s h (then_of_reply c outcome reply)
            (may-then P (λ t. after_reply c t outcome reply) c.progress (λ t. may-reply P c t outcome reply k))
            (stays_believed outcome) c

    pub well-opt : (channel id : ℕ) → Well (opt_was_refused channel id s)
    well-opt channel id = by (picked (waits_as channel id) s)
      where
        by : (found : Option Candidate) → Well (option_map_or (λ c. acted (then_of_refused_opt c) false c s) found s)
        by None = h
        by (Some c) =
            well-acted s h (then_of_refused_opt c)
            (may-then P (after_refused_opt c) c.progress
            (λ t. may-again P (has_room t.transport c) t.transport false Nothing tt)) false c

    pub well-letters : (channel id : ℕ) → Well (other_letters_came channel id s)
    well-letters channel id = by (picked (waits_as channel id) s)
      where
        by : (found : Option Candidate) → Well (option_map_or (λ c. acted (then_of_other_letters c) true c s) found s)
        by None = h
        by (Some c) =
            well-acted s h (then_of_other_letters c)
            (may-then P (after_other_letters c) c.progress
            (λ t. may-again P (may_begin_tcp c t) Tcp t.form.with_opt Nothing tt)) true c

    well-failed_at : P told.Unreachable → (c : Candidate) (how : Transport) (t : Try) → Well (failed_at c c.progress how t s)
    well-failed_at k c Udp t =
        let l : LateTry = record { place = c.place; tried = t; has_failed = true } in
        well-replacing (with_late l s) (well-late s h l (λ e. k)) (record c { progress = progress.Tried })
    well-failed_at k c Tcp t =
        well-acted s h (after_closed_stream c t)
        (may-again P (has_room Tcp c) Tcp t.form.with_opt (Rests told.Unreachable) k) false c

    well-failed_in : P told.Unreachable → (c : Candidate) (p : Progress) → Well (failed_in c p s)
    well-failed_in k c progress.Queued = h
    well-failed_in k c (progress.Again way due) = h
    well-failed_in k c (progress.Blocked way due) = h
    well-failed_in k c (progress.Waiting t) = well-failed_at k c t.transport t
    well-failed_in k c progress.Tried = h
    well-failed_in k c progress.Gone = h

    pub well-failed : (channel : ℕ) → ((c : Candidate) → picked (waits_on channel) s ≡ Some c → P told.Unreachable)
        → Well (failed channel s)
    well-failed channel k = by (picked (waits_on channel) s) refl
      where
        by : (found : Option Candidate) → picked (waits_on channel) s ≡ found
            → Well (option_map_or (λ c. failed_in c c.progress s) found s)
        by None e = h
        by (Some c) e = well-failed_in (k c e) c c.progress

    well-blocked_in : (c : Candidate) (p : Progress) → Well (blocked_in c p s)
    well-blocked_in c progress.Queued = h
    well-blocked_in c (progress.Again way due) = h
    well-blocked_in c (progress.Blocked way due) = h
    well-blocked_in c (progress.Waiting t) = well-replacing s h (blocked_as t c)
    well-blocked_in c progress.Tried = h
    well-blocked_in c progress.Gone = h

    pub well-blocked : (channel : ℕ) → Well (blocked channel s)
    well-blocked channel = by (picked (waits_on channel) s)
      where
        by : (found : Option Candidate) → Well (option_map_or (λ c. blocked_in c c.progress s) found s)
        by None = h
        by (Some c) = well-blocked_in c c.progress

    pub well-freed : Well (freed s)
    well-freed = by (picked is_blocked s)
      where
        by : (found : Option Candidate) → Well (option_map_or (λ c. replacing (freed_one c) s) found s)
        by None = h
        by (Some c) = well-replacing s h (freed_one c)

    pub well-unsent : (due : ℕ) → Well (unsent due s)
    well-unsent due = by (chosen s)
      where
        by : (found : Option Candidate) → Well (option_map_or (λ c. replacing (without_channel due c) s) found s)
        by None = h
        by (Some c) = well-replacing s h (without_channel due c)

    pub well-sent : (made : Made) → Well (sent made s)
    well-sent made = by (chosen s)
      where
        by : (found : Option Candidate) → Well (option_map_or (λ c. replacing (sent_with made s.settings c) s) found s)
        by None = h
        by (Some c) = well-replacing s h (sent_with made s.settings c)

    pub well-round : (order : List ℕ) → Well (with_round order s)
    well-round order = by (wants_round s)
      where
        by : (wants : Bool) → Well (cond wants (record s {
          candidates = map {A = Candidate} requeued s.candidates;
          order = order;
          round = s.round + 1;
        }) s)
        by true = record { told = h.told; late = h.late }
        by false = h

    well-expired_in : P told.Timeout → (c : Candidate) (p : Progress) → Well (expired_in c p s)
    well-expired_in k c progress.Queued = h
    well-expired_in k c (progress.Again way due) = h
    well-expired_in k c (progress.Blocked way due) =
        well-noting (putting progress.Tried c s) (well-replacing s h (record c { progress = progress.Tried })) told.Timeout k
    well-expired_in k c (progress.Waiting t) =
        well-acted s h (after_deadline s.settings.tcp_on_error c t) (by s.settings.tcp_on_error) true c
      where
        by : (tcp : Bool) → MayTell P (after_deadline tcp c t)
        by true = may-again P (may_begin_tcp c t) Tcp t.form.with_opt (Rests told.Timeout) k
        by false = k
    well-expired_in k c progress.Tried = h
    well-expired_in k c progress.Gone = h

    well-late_expired : (now : ℕ) → Well (late_expired now s)
    well-late_expired now = by (list_any (has_failed_by now) s.late) refl
      where
        by : (some : Bool) → list_any (has_failed_by now) s.late ≡ some → Well (cond some
            (noting told.Unreachable (record s { late = filter (λ l. not (has_failed_by now l)) s.late })) s)
        by true e =
            well-noting (record s { late = filter (λ l. not (has_failed_by now l)) s.late })
            (record { told = h.told; late = filtered (λ l. not (has_failed_by now l)) s.late h.late })
            told.Unreachable (some-failed now s.late e h.late)
        by false e = h

    pub well-expired : (now : ℕ) → ((c : Candidate) → picked (is_due now) s ≡ Some c → P told.Timeout)
        → Well (expired now s)
    well-expired now k = by (picked (is_due now) s) refl
      where
        by : (found : Option Candidate) → picked (is_due now) s ≡ found
            → Well (option_map_or (λ c. expired_in c c.progress s) found (late_expired now s))
        by None e = well-late_expired now
        by (Some c) e = well-expired_in (k c e) c c.progress
