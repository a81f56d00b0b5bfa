-- Where a timeout is told nothing else was noted, and each try's time had passed.
use Rattle.std.proofs.Common.{◌≡◌, ℕ, Bool, true, false, cond, ltb, eqb, eqb-true, eq-eqb, not, ◌+◌, ◌&&◌, ◌||◌, List, [], ◌∷◌, ◌++◌, length, map, refl, ap, sym, subst, ◌∙◌, true≢false, inl, inr, ◌⊎◌}
use Rattle.std.specs.Prelude.{Option, None, Some, filter, unwrap_or}
use Rattle.std.specs.List.{list_any}
use Rattle.std.specs.Option.{option_map_or}
use Rattle.std.proofs.lemmas.List.Sums.{fold-append}
use Rattle.hickory_resolver_tries.specs.declared.outcome.ReplyOutcome.{ReplyOutcome}
use Rattle.hickory_resolver_tries.specs.declared.outcome.ReplyOutcome.TheVariants as came
use Rattle.hickory_resolver_transactions.specs.Candidates.{is_busy, is_tried, is_waiting, is_blocked, waits_as, waits_on, is_due, is_try, way_of_try, sent_with, without_channel, uncounted, blocked_as, requeued, freed_one, freed_progress, has_failed_by}
use Rattle.hickory_resolver_transactions.specs.Laws.{TransactionEvent, round_begins, is_sent, has_no_room, reply_came, opt_refused, letters_differ, channel_failed, no_channel, channel_free, oldest_given_up, time_passed, after_event, after_events}
use Rattle.hickory_resolver_transactions.specs.Outcomes.{better}
use Rattle.hickory_resolver_transactions.specs.Table.{has_room, may_begin_tcp, after_reply, after_refused_opt, after_other_letters, after_deadline, after_closed_stream, again_if, then_of_reply, then_of_refused_opt, then_of_other_letters, stays_believed}
use Rattle.hickory_resolver_transactions.specs.Transaction.{TransactionState, begun_with, replaced, replacing, putting, noting, noted_of_closed, without_oldest, late_too, with_late, kept_in, keeping, acted, gone_unless_waiting, acted_late, picked, candidate_at, late_at, late_came_to, late_replied, without_answered, came_to, opt_was_refused, other_letters_came, failed_at, failed_in, failed, blocked_in, blocked, freed, expired_in, late_expired, expired, wants_round, with_round, chosen, sent, unsent}
use Rattle.hickory_resolver_transactions.specs.Transaction as transaction
use Rattle.hickory_resolver_transactions.specs.declared.candidate.Candidate.{Candidate}
use Rattle.hickory_resolver_transactions.specs.declared.candidate.LateTry.{LateTry}
use Rattle.hickory_resolver_transactions.specs.declared.candidate.Progress.{Progress}
use Rattle.hickory_resolver_transactions.specs.declared.candidate.Progress.TheVariants as progress
use Rattle.hickory_resolver_transactions.specs.declared.candidate.Transport.{Transport}
use Rattle.hickory_resolver_transactions.specs.declared.candidate.Transport.TheVariants.{Udp, Tcp}
use Rattle.hickory_resolver_transactions.specs.declared.candidate.Try.{Try}
use Rattle.hickory_resolver_transactions.specs.declared.outcome.Outcome.{Outcome}
use Rattle.hickory_resolver_transactions.specs.declared.outcome.Outcome.TheVariants as told
use Rattle.hickory_resolver_transactions.specs.declared.table.Then.{Then}
use Rattle.hickory_resolver_transactions.specs.declared.table.Then.TheVariants.{Ends, Leaves, Rests, Again, Nothing}
use Rattle.hickory_resolver_pool_theorems.proofs.MayTell.{told_by, MayTell, may-again, may-reply, may-then}
use Rattle.hickory_resolver_pool_theorems.proofs.Tries.{found-passes}
use Rattle.hickory_resolver_pool_theorems.specs.Timeouts.{IsTimeoutAtMost, HasTimedOutAtMost, is_awaited, HasPassed, HasFailedThere, TimeoutsAreAlone}

-- ---- what is noted gets no worse

better-back : (old new : Outcome) → IsTimeoutAtMost (better (Some old) new) → IsTimeoutAtMost (Some old)
better-back told.Timeout new h = tt
better-back (told.Reply r) (told.Reply n) h = h
better-back (told.Reply r) (told.Cut n) h = h
better-back (told.Reply r) (told.Code n) h = h
better-back (told.Reply r) told.Unreachable h = h
better-back (told.Reply r) told.Timeout h = h
better-back (told.Cut r) (told.Reply n) h = h
better-back (told.Cut r) (told.Cut n) h = h
better-back (told.Cut r) (told.Code n) h = h
better-back (told.Cut r) told.Unreachable h = h
better-back (told.Cut r) told.Timeout h = h
better-back (told.Code r) (told.Reply n) h = h
better-back (told.Code r) (told.Cut n) h = h
better-back (told.Code r) (told.Code n) h = h
better-back (told.Code r) told.Unreachable h = h
better-back (told.Code r) told.Timeout h = h
better-back told.Unreachable (told.Reply n) h = h
better-back told.Unreachable (told.Cut n) h = h
better-back told.Unreachable (told.Code n) h = h
better-back told.Unreachable told.Unreachable h = h
better-back told.Unreachable told.Timeout h = h

noted-back : (old : Option Outcome) (new : Outcome) → IsTimeoutAtMost (better old new) → IsTimeoutAtMost old
noted-back None new h = tt
noted-back (Some old) new h = better-back old new h

-- what is better than a timeout is seen
abbrev Shows : Outcome → Type 0
Shows o = IsTimeoutAtMost (Some o) → ⊥

shown : (old : Option Outcome) (new : Outcome) → Shows new → IsTimeoutAtMost (better old new) → ⊥
shown None new shows h = shows h
shown (Some told.Timeout) (told.Reply n) shows h = h
shown (Some told.Timeout) (told.Cut n) shows h = h
shown (Some told.Timeout) (told.Code n) shows h = h
shown (Some told.Timeout) told.Unreachable shows h = h
shown (Some told.Timeout) told.Timeout shows h = shows tt
shown (Some (told.Reply r)) new shows h = better-back (told.Reply r) new h
shown (Some (told.Cut r)) new shows h = better-back (told.Cut r) new h
shown (Some (told.Code r)) new shows h = better-back (told.Code r) new h
shown (Some told.Unreachable) new shows h = better-back told.Unreachable new h

-- ---- so what is clean was clean before

abbrev Back : TransactionState → TransactionState → Type 0
Back s t = HasTimedOutAtMost t → HasTimedOutAtMost s

back-if : (s x y : TransactionState) (b : Bool) → Back s x → Back s y → Back s (cond b x y)
back-if s x y true one two = one
back-if s x y false one two = two

back-map : {A : Type 0} (f : A → TransactionState) (s d : TransactionState) (o : Option A) → ((a : A) → Back s (f a))
    → Back s d → Back s (option_map_or f o d)
back-map f s d None each none = none
back-map f s d (Some a) each none = each a

-- the same but for what tells nothing
back-flat : (s t : TransactionState) → t.ended ≡ s.ended → t.noted ≡ s.noted → Back s t
back-flat s t ended noted h = record { ended = sym ended ∙ h.ended; noted = subst IsTimeoutAtMost noted h.noted }

back-noting : (s t : TransactionState) (o : Outcome) → Back s t → Back s (noting o t)
back-noting s t o back h = back (record { ended = h.ended; noted = noted-back t.noted o h.noted })

back-oldest : (s : TransactionState) → Back s (without_oldest s)
back-oldest s h = record { ended = h.ended; noted = by s.late h.noted }
  where
    by : (ls : List LateTry) → IsTimeoutAtMost (noted_of_closed ls s.noted) → IsTimeoutAtMost s.noted
    by [] k = k
    by (l ∷ ls) k = one l.has_failed k
      where
        one : (b : Bool) → IsTimeoutAtMost (cond b (better s.noted told.Unreachable) s.noted) → IsTimeoutAtMost s.noted
        one true g = noted-back s.noted told.Unreachable g
        one false g = g

back-late : (s : TransactionState) (l : LateTry) → Back s (with_late l s)
back-late s l =
    back-if s (late_too l s) (late_too l (without_oldest s)) _ (back-flat s (late_too l s) refl refl)
    (λ h. back-oldest s (back-flat (without_oldest s) (late_too l (without_oldest s)) refl refl h))

back-kept : (s : TransactionState) (p : Progress) (place : ℕ) → Back s (kept_in p place s)
back-kept s (progress.Waiting t) place = back-late s (record { place = place; tried = t; has_failed = false })
back-kept s progress.Queued place = λ h. h
back-kept s (progress.Again way due) place = λ h. h
back-kept s (progress.Blocked way due) place = λ h. h
back-kept s progress.Tried place = λ h. h
back-kept s progress.Gone place = λ h. h

back-keeping : (s : TransactionState) (keeps : Bool) (c : Candidate) → Back s (keeping keeps c s)
back-keeping s keeps c = back-if s (kept_in c.progress c.place s) s keeps (back-kept s c.progress c.place) (λ h. h)

back-put : (s t : TransactionState) (c : Candidate) → Back s t → Back s (replacing c t)
back-put s t c back h = back (back-flat t (replacing c t) refl refl h)

back-ended : (s t : TransactionState) (reply : ℕ) → t.ended ≡ Some reply → Back s t
back-ended s t reply is h = let no_such : Some reply ≡ None = sym is ∙ h.ended in absurd cc

back-acted : (s : TransactionState) (t : Then) (keeps : Bool) (c : Candidate) → Back s (acted t keeps c s)
back-acted s (Ends reply) keeps c = back-ended s (acted (Ends reply) keeps c s) reply refl
back-acted s (Leaves o) keeps c =
    back-noting s (putting progress.Gone c (keeping keeps c s)) o
    (back-put s (keeping keeps c s) (record c { progress = progress.Gone }) (back-keeping s keeps c))
back-acted s (Rests o) keeps c =
    back-noting s (putting progress.Tried c (keeping keeps c s)) o
    (back-put s (keeping keeps c s) (record c { progress = progress.Tried }) (back-keeping s keeps c))
back-acted s (Again way) keeps c =
    back-put s (keeping keeps c s) (record c { progress = progress.Again way None }) (back-keeping s keeps c)
back-acted s Nothing keeps c = λ h. h

back-acted_late : (s : TransactionState) (t : Then) (c : Candidate) → Back s (acted_late t c s)
back-acted_late s (Ends reply) c = back-ended s (acted_late (Ends reply) c s) reply refl
back-acted_late s (Leaves o) c =
    back-noting s (gone_unless_waiting c s) o
    (back-if s s (putting progress.Gone c s) (is_waiting c.progress) (λ h. h)
    (back-put s s (record c { progress = progress.Gone }) (λ h. h)))
back-acted_late s (Again way) c =
    back-if s (putting (progress.Again way None) c s) s (is_tried c.progress)
    (back-put s s (record c { progress = progress.Again way None }) (λ h. h)) (λ h. h)
back-acted_late s (Rests o) c = λ h. h
back-acted_late s Nothing c = λ h. h

back-answered : (s : TransactionState) (outcome : ReplyOutcome) (channel id : ℕ) → Back s (without_answered outcome channel id s)
back-answered s outcome channel id =
    back-if s s _ (stays_believed outcome) (λ h. h) (λ h. record { ended = h.ended; noted = h.noted })

back-came : (s : TransactionState) (channel id : ℕ) (outcome : ReplyOutcome) (reply : ℕ)
    → Back s (transaction.came channel id outcome reply s)
back-came s channel id outcome reply =
    back-map (λ c. came_to c outcome reply s) s _ (picked (waits_as channel id) s)
    (λ c. back-acted s (then_of_reply c outcome reply) (stays_believed outcome) c)
    (back-map (λ l. late_replied outcome reply l rest) s s (late_at channel id s)
    (λ l h. back-answered s outcome channel id (one l h)) (λ h. h))
  where
    rest : TransactionState
    rest = without_answered outcome channel id s

    one : (l : LateTry) → Back rest (late_replied outcome reply l rest)
    one l =
        back-map (λ c. late_came_to c l.tried outcome reply rest) rest rest (candidate_at l.place rest)
        (λ c. back-acted_late rest (after_reply c l.tried outcome reply) c) (λ h. h)

back-failed : (s : TransactionState) (channel : ℕ) → Back s (failed channel s)
back-failed s channel =
    back-map (λ c. failed_in c c.progress s) s s (picked (waits_on channel) s) (λ c. one c c.progress) (λ h. h)
  where
    by : (c : Candidate) (transport : Transport) (t : Try) → Back s (failed_at c c.progress transport t s)
    by c Udp t =
        let l : LateTry = record { place = c.place; tried = t; has_failed = true } in
        back-put s (with_late l s) (record c { progress = progress.Tried }) (back-late s l)
    by c Tcp t = back-acted s (after_closed_stream c t) false c

    one : (c : Candidate) (p : Progress) → Back s (failed_in c p s)
    one c (progress.Waiting t) = by c t.transport t
    one c progress.Queued = λ h. h
    one c (progress.Again way due) = λ h. h
    one c (progress.Blocked way due) = λ h. h
    one c progress.Tried = λ h. h
    one c progress.Gone = λ h. h

back-blocked : (s : TransactionState) (channel : ℕ) → Back s (blocked channel s)
back-blocked s channel =
    back-map (λ c. blocked_in c c.progress s) s s (picked (waits_on channel) s) (λ c. one c c.progress) (λ h. h)
  where
    one : (c : Candidate) (p : Progress) → Back s (blocked_in c p s)
    one c (progress.Waiting t) = back-put s s (blocked_as t c) (λ h. h)
    one c progress.Queued = λ h. h
    one c (progress.Again way due) = λ h. h
    one c (progress.Blocked way due) = λ h. h
    one c progress.Tried = λ h. h
    one c progress.Gone = λ h. h

back-expired : (s : TransactionState) (now : ℕ) → Back s (expired now s)
back-expired s now =
    back-map (λ c. expired_in c c.progress s) s (late_expired now s) (picked (is_due now) s) (λ c. one c c.progress)
    (back-if s _ s (list_any (has_failed_by now) s.late)
    (back-noting s _ told.Unreachable (λ h. record { ended = h.ended; noted = h.noted })) (λ h. h))
  where
    one : (c : Candidate) (p : Progress) → Back s (expired_in c p s)
    one c (progress.Waiting t) = back-acted s (after_deadline s.settings.tcp_on_error c t) true c
    one c progress.Queued = λ h. h
    one c (progress.Again way due) = λ h. h
    one c (progress.Blocked way due) =
        back-noting s (putting progress.Tried c s) told.Timeout (back-put s s (record c { progress = progress.Tried }) (λ h. h))
    one c progress.Tried = λ h. h
    one c progress.Gone = λ h. h

back-event : (s : TransactionState) (e : TransactionEvent) → Back s (after_event s e)
back-event s (round_begins order) =
    back-if s _ s (wants_round s) (λ h. record { ended = h.ended; noted = h.noted }) (λ h. h)
back-event s (is_sent made) =
    back-map (λ c. replacing (sent_with made s.settings c) s) s s (chosen s)
    (λ c. back-put s s (sent_with made s.settings c) (λ h. h)) (λ h. h)
back-event s (has_no_room due) =
    back-map (λ c. replacing (without_channel due c) s) s s (chosen s)
    (λ c. back-put s s (without_channel due c) (λ h. h)) (λ h. h)
back-event s (reply_came channel id outcome reply) = back-came s channel id outcome reply
back-event s (opt_refused channel id) =
    back-map (λ c. acted (then_of_refused_opt c) false c s) s s (picked (waits_as channel id) s)
    (λ c. back-acted s (then_of_refused_opt c) false c) (λ h. h)
back-event s (letters_differ channel id) =
    back-map (λ c. acted (then_of_other_letters c) true c s) s s (picked (waits_as channel id) s)
    (λ c. back-acted s (then_of_other_letters c) true c) (λ h. h)
back-event s (channel_failed channel) = back-failed s channel
back-event s (no_channel channel) = back-blocked s channel
back-event s channel_free =
    back-map (λ c. replacing (freed_one c) s) s s (picked is_blocked s) (λ c. back-put s s (freed_one c) (λ h. h)) (λ h. h)
back-event s oldest_given_up = back-oldest s
back-event s (time_passed now) = back-expired s now

back-events : (later : List TransactionEvent) (s : TransactionState) → Back s (after_events s later)
back-events [] s h = h
back-events (e ∷ later) s h = back-event s e (back-events later (after_event s e) h)

-- ---- servers of which something is still to come

abbrev Busy : ℕ → List Candidate → Bool
Busy place cs = list_any (λ c. eqb c.place place && is_busy c.progress) cs

-- one in the place of that with its place: elsewhere nothing changes
busy-other : (place : ℕ) (new : Candidate) (cs : List Candidate) → eqb new.place place ≡ false
    → Busy place (replaced new cs) ≡ Busy place cs
busy-other place new [] other = refl
busy-other place new (c ∷ cs) other = by (eqb c.place new.place) refl (busy-other place new cs other)
  where
    none : (b : Candidate) → eqb b.place place ≡ false → (eqb b.place place && is_busy b.progress) ≡ false
    none b is = ap (λ (x : Bool). x && is_busy b.progress) is

    by : (b : Bool) → eqb c.place new.place ≡ b → Busy place (replaced new cs) ≡ Busy place cs
        → Busy place (cond b (new ∷ cs) (c ∷ replaced new cs)) ≡ Busy place (c ∷ cs)
    by true is more =
        ap (λ (x : Bool). x || Busy place cs) (none new other)
        ∙ sym (ap (λ (x : Bool). x || Busy place cs) (none c (ap (λ (n : ℕ). eqb n place) (eqb-true c.place new.place is) ∙ other)))
    by false is more = ap (λ (x : Bool). (eqb c.place place && is_busy c.progress) || x) more

or-right : (a b : Bool) → b ≡ true → (a || b) ≡ true
or-right true b is = refl
or-right false b is = is

-- one that is busy stays so
busy-kept : (place : ℕ) (new : Candidate) (cs : List Candidate) → is_busy new.progress ≡ true → Busy place cs ≡ true
    → Busy place (replaced new cs) ≡ true
busy-kept place new cs busy awaited = by (eqb new.place place) refl
  where
    same : eqb new.place place ≡ true → (ds : List Candidate) → Busy place ds ≡ true → Busy place (replaced new ds) ≡ true
    same at [] h = h
    same at (d ∷ ds) h = one (eqb d.place new.place) refl (same at ds) h
      where
        one : (b : Bool) → eqb d.place new.place ≡ b → (Busy place ds ≡ true → Busy place (replaced new ds) ≡ true)
            → ((eqb d.place place && is_busy d.progress) || Busy place ds) ≡ true
            → Busy place (cond b (new ∷ ds) (d ∷ replaced new ds)) ≡ true
        one true is more g =
            ap (λ (x : Bool). (x && is_busy new.progress) || Busy place ds) at
            ∙ ap (λ (x : Bool). x || Busy place ds) busy
        one false is more g =
            or-right (eqb d.place place && is_busy d.progress) (Busy place (replaced new ds)) (more (rest (eqb d.place place) refl g))
          where
            rest : (b : Bool) → eqb d.place place ≡ b → ((b && is_busy d.progress) || Busy place ds) ≡ true → Busy place ds ≡ true
            rest false apart k = k
            rest true here k =
                let alike : d.place ≡ new.place = eqb-true d.place place here ∙ sym (eqb-true new.place place at) in
                absurd (true≢false (sym (eq-eqb d.place new.place alike) ∙ is))

    by : (b : Bool) → eqb new.place place ≡ b → Busy place (replaced new cs) ≡ true
    by true at = same at cs awaited
    by false other = busy-other place new cs other ∙ awaited

busy-requeued : (place : ℕ) (cs : List Candidate) → Busy place cs ≡ true → Busy place (map {A = Candidate} requeued cs) ≡ true
busy-requeued place [] h = h
busy-requeued place (c ∷ cs) h = by (is_tried c.progress) (eqb c.place place && is_busy c.progress) refl (busy-requeued place cs) h
  where
    by : (tried here : Bool) → (eqb c.place place && is_busy c.progress) ≡ here
        → (Busy place cs ≡ true → Busy place (map {A = Candidate} requeued cs) ≡ true)
        → (here || Busy place cs) ≡ true
        → Busy place (cond tried (record c { udp_sends = 0; tcp_sends = 0; progress = progress.Queued }) c
        ∷ map {A = Candidate} requeued cs) ≡ true
    by tried false is more g =
        or-right _ (Busy place (map {A = Candidate} requeued cs)) (more g)
    by true true is more g =
        ap (λ (x : Bool). (x && true) || Busy place (map {A = Candidate} requeued cs)) (place-is (eqb c.place place) is)
      where
        place-is : (b : Bool) → (b && is_busy c.progress) ≡ true → b ≡ true
        place-is true k = refl
        place-is false k = k
    by false true is more g = ap (λ (x : Bool). x || Busy place (map {A = Candidate} requeued cs)) is

-- ---- what an event does

-- the server is still awaited, or more than a timeout is seen
abbrev Goes : ℕ → TransactionState → Type 0
Goes place t = (Busy place t.candidates ≡ true) ⊎ (HasTimedOutAtMost t → ⊥)

goes-put : (place : ℕ) (s t : TransactionState) (c : Candidate) → t.candidates ≡ s.candidates → is_busy c.progress ≡ true
    → Busy place s.candidates ≡ true → Goes place (replacing c t)
goes-put place s t c same busy h =
    inl (busy-kept place c t.candidates busy (ap (λ (cs : List Candidate). Busy place cs) same ∙ h))

-- tries that are late change no server
same-late : (s : TransactionState) (l : LateTry) → (with_late l s).candidates ≡ s.candidates
same-late s l = by (ltb (length s.late) _)
  where
    by : (b : Bool) → (cond {A = TransactionState} b (late_too l s) (late_too l (without_oldest s))).candidates ≡ s.candidates
    by true = refl
    by false = refl

same-kept : (s : TransactionState) (p : Progress) (place : ℕ) → (kept_in p place s).candidates ≡ s.candidates
same-kept s (progress.Waiting t) place = same-late s (record { place = place; tried = t; has_failed = false })
same-kept s progress.Queued place = refl
same-kept s (progress.Again way due) place = refl
same-kept s (progress.Blocked way due) place = refl
same-kept s progress.Tried place = refl
same-kept s progress.Gone place = refl

same-keeping : (s : TransactionState) (keeps : Bool) (c : Candidate) → (keeping keeps c s).candidates ≡ s.candidates
same-keeping s true c = same-kept s c.progress c.place
same-keeping s false c = refl

goes-acted : (place : ℕ) (s : TransactionState) → Busy place s.candidates ≡ true → (t : Then) → MayTell Shows t → (keeps : Bool)
    → (c : Candidate) → Goes place (acted t keeps c s)
goes-acted place s h (Ends reply) k keeps c = inr (λ clean. let no_such : Some reply ≡ None = clean.ended in absurd cc)
goes-acted place s h (Leaves o) k keeps c =
    inr (λ clean. shown (putting progress.Gone c (keeping keeps c s)).noted o k clean.noted)
goes-acted place s h (Rests o) k keeps c =
    inr (λ clean. shown (putting progress.Tried c (keeping keeps c s)).noted o k clean.noted)
goes-acted place s h (Again way) k keeps c =
    goes-put place s (keeping keeps c s) (record c { progress = progress.Again way None }) (same-keeping s keeps c) refl h
goes-acted place s h Nothing k keeps c = inl h

goes-acted_late : (place : ℕ) (s : TransactionState) → Busy place s.candidates ≡ true → (t : Then) → MayTell Shows t
    → (c : Candidate) → Goes place (acted_late t c s)
goes-acted_late place s h (Ends reply) k c = inr (λ clean. let no_such : Some reply ≡ None = clean.ended in absurd cc)
goes-acted_late place s h (Leaves o) k c = inr (λ clean. shown (gone_unless_waiting c s).noted o k clean.noted)
goes-acted_late place s h (Rests o) k c = inl h
goes-acted_late place s h (Again way) k c = by (is_tried c.progress)
  where
    by : (b : Bool) → Goes place (cond b (putting (progress.Again way None) c s) s)
    by true = goes-put place s s (record c { progress = progress.Again way None }) refl refl h
    by false = inl h
goes-acted_late place s h Nothing k c = inl h

shows-told : (outcome : ReplyOutcome) (reply : ℕ) → Shows (told_by outcome reply)
shows-told came.Answer reply = λ h. h
shows-told came.Negative reply = λ h. h
shows-told came.Truncated reply = λ h. h
shows-told came.WithoutOpt reply = λ h. h
shows-told came.BadRest reply = λ h. h
shows-told (came.Code code) reply = λ h. h
shows-told came.Lame reply = λ h. h

goes-map : {A : Type 0} (place : ℕ) (f : A → TransactionState) (d : TransactionState) (o : Option A)
    → ((a : A) → o ≡ Some a → Goes place (f a)) → Goes place d → Goes place (option_map_or f o d)
goes-map place f d None each none = none
goes-map place f d (Some a) each none = each a refl

module _ (place : ℕ) (s : TransactionState) (h : Busy place s.candidates ≡ true) where
  -- still awaited, or seen, or its time has passed, or its channel failed
  abbrev Comes : TransactionEvent → TransactionState → Type 0
  Comes e t = Goes place t ⊎ (HasPassed place s e ⊎ HasFailedThere place s e)

  goes-came : (channel id : ℕ) (outcome : ReplyOutcome) (reply : ℕ) → Goes place (transaction.came channel id outcome reply s)
  goes-came channel id outcome reply =
      goes-map place (λ c. came_to c outcome reply s) _ (picked (waits_as channel id) s)
      (λ c is. goes-acted place s h (then_of_reply c outcome reply)
      (may-then Shows (λ t. after_reply c t outcome reply) c.progress (λ t. may-reply Shows c t outcome reply (shows-told outcome reply))) (stays_believed outcome) c)
      (goes-map place (λ l. late_replied outcome reply l rest) s (late_at channel id s) (λ l is. one l) (inl h))
    where
      rest : TransactionState
      rest = without_answered outcome channel id s

      same : rest.candidates ≡ s.candidates
      same = by (stays_believed outcome)
        where
          by : (b : Bool) → (cond {A = TransactionState} b s (record s {
            late = filter (λ l. not (is_try channel id l.tried)) s.late;
          })).candidates
              ≡ s.candidates
          by true = refl
          by false = refl

      awaited : Busy place rest.candidates ≡ true
      awaited = ap (λ (cs : List Candidate). Busy place cs) same ∙ h

      one : (l : LateTry) → Goes place (late_replied outcome reply l rest)
      one l =
          goes-map place (λ c. late_came_to c l.tried outcome reply rest) rest (candidate_at l.place rest)
          (λ c is. goes-acted_late place rest awaited (after_reply c l.tried outcome reply) (may-reply Shows c l.tried outcome reply (shows-told outcome reply)) c)
          (inl awaited)

  goes-opt : (channel id : ℕ) → Goes place (opt_was_refused channel id s)
  goes-opt channel id =
      goes-map place (λ c. acted (then_of_refused_opt c) false c s) s (picked (waits_as channel id) s)
      (λ c is. goes-acted place s h (then_of_refused_opt c)
      (may-then Shows (after_refused_opt c) c.progress (λ t. may-again Shows (has_room t.transport c) t.transport false Nothing tt)) false c)
      (inl h)

  goes-letters : (channel id : ℕ) → Goes place (other_letters_came channel id s)
  goes-letters channel id =
      goes-map place (λ c. acted (then_of_other_letters c) true c s) s (picked (waits_as channel id) s)
      (λ c is. goes-acted place s h (then_of_other_letters c)
      (may-then Shows (after_other_letters c) c.progress (λ t. may-again Shows (may_begin_tcp c t) Tcp t.form.with_opt Nothing tt)) true c)
      (inl h)

  goes-blocked : (channel : ℕ) → Goes place (blocked channel s)
  goes-blocked channel =
      goes-map place (λ c. blocked_in c c.progress s) s (picked (waits_on channel) s) (λ c is. one c c.progress) (inl h)
    where
      busy : (transport : Transport) (b : Candidate) → is_busy b.progress ≡ true → is_busy (uncounted transport b).progress ≡ true
      busy Udp b is = is
      busy Tcp b is = is

      one : (c : Candidate) (p : Progress) → Goes place (blocked_in c p s)
      one c (progress.Waiting t) =
          goes-put place s s (blocked_as t c) refl
          (busy t.transport (record c { progress = progress.Blocked (way_of_try t) (unwrap_or t.channel_due t.due) }) refl) h
      one c progress.Queued = inl h
      one c (progress.Again way due) = inl h
      one c (progress.Blocked way due) = inl h
      one c progress.Tried = inl h
      one c progress.Gone = inl h

  goes-failed : (channel : ℕ) → Comes (channel_failed channel) (failed channel s)
  goes-failed channel = by (picked (waits_on channel) s) refl
    where
      -- the try that waited
      at : (c : Candidate) → picked (waits_on channel) s ≡ Some c → (transport : Transport) (t : Try)
          → Comes (channel_failed channel) (failed_at c c.progress transport t s)
      at c is Tcp t =
          inl (goes-acted place s h (after_closed_stream c t)
          (may-again Shows (has_room Tcp c) Tcp t.form.with_opt (Rests told.Unreachable) (λ k. k)) false c)
      at c is Udp t = where_at (eqb c.place place) refl
        where
          l : LateTry
          l = record { place = c.place; tried = t; has_failed = true }

          where_at : (b : Bool) → eqb c.place place ≡ b
              → Comes (channel_failed channel) (putting progress.Tried c (with_late l s))
          where_at true here = inr (inr (record {
            channel = channel;
            server = c;
            failed = refl;
            waited = is;
            at_place = eqb-true c.place place here;
          }))
          where_at false other =
              inl (inl (busy-other place (record c { progress = progress.Tried }) (with_late l s).candidates other
              ∙ ap (λ (cs : List Candidate). Busy place cs) (same-late s l) ∙ h))

      one : (c : Candidate) → picked (waits_on channel) s ≡ Some c → (p : Progress)
          → Comes (channel_failed channel) (failed_in c p s)
      one c is (progress.Waiting t) = at c is t.transport t
      one c is progress.Queued = inl (inl h)
      one c is (progress.Again way due) = inl (inl h)
      one c is (progress.Blocked way due) = inl (inl h)
      one c is progress.Tried = inl (inl h)
      one c is progress.Gone = inl (inl h)

      by : (c : Option Candidate) → picked (waits_on channel) s ≡ c
          → Comes (channel_failed channel) (option_map_or (λ x. failed_in x x.progress s) c s)
      by None is = inl (inl h)
      by (Some c) is = one c is c.progress

  goes-expired : (now : ℕ) → Comes (time_passed now) (expired now s)
  goes-expired now = by (picked (is_due now) s) refl
    where
      where_at : (c : Candidate) → picked (is_due now) s ≡ Some c → (t : TransactionState)
          → (eqb c.place place ≡ false → Busy place t.candidates ≡ true) → Comes (time_passed now) t
      where_at c is t stays = here (eqb c.place place) refl
        where
          here : (b : Bool) → eqb c.place place ≡ b → Comes (time_passed now) t
          here true at = inr (inl (record {
            now = now;
            server = c;
            passed = refl;
            due = is;
            at_place = eqb-true c.place place at;
          }))
          here false other = inl (inl (stays other))

      one : (c : Candidate) → picked (is_due now) s ≡ Some c → (p : Progress) → Comes (time_passed now) (expired_in c p s)
      one c is (progress.Waiting t) = acts (s.settings.tcp_on_error && may_begin_tcp c t)
        where
          rests : TransactionState
          rests = putting progress.Tried c (keeping true c s)

          acts : (b : Bool) → Comes (time_passed now) (acted (again_if b Tcp t.form.with_opt (Rests told.Timeout)) true c s)
          acts true = inl (goes-acted place s h (Again (record { transport = Tcp; with_opt = t.form.with_opt })) tt true c)
          acts false =
              where_at c is (noting told.Timeout rests)
              (λ other. busy-other place (record c { progress = progress.Tried }) (keeping true c s).candidates other
              ∙ ap (λ (cs : List Candidate). Busy place cs) (same-keeping s true c) ∙ h)
      one c is (progress.Blocked way due) =
          where_at c is (noting told.Timeout (putting progress.Tried c s))
          (λ other. busy-other place (record c { progress = progress.Tried }) s.candidates other ∙ h)
      one c is progress.Queued = inl (inl h)
      one c is (progress.Again way due) = inl (inl h)
      one c is progress.Tried = inl (inl h)
      one c is progress.Gone = inl (inl h)

      late : Goes place (late_expired now s)
      late = any (list_any (has_failed_by now) s.late)
        where
          any : (b : Bool) → Goes place (cond b (noting told.Unreachable (record s {
            late = filter (λ l. not (has_failed_by now l)) s.late;
          })) s)
          any true = inl h
          any false = inl h

      by : (c : Option Candidate) → picked (is_due now) s ≡ c
          → Comes (time_passed now) (option_map_or (λ x. expired_in x x.progress s) c (late_expired now s))
      by None is = inl late
      by (Some c) is = one c is c.progress

  goes-freed : Goes place (freed s)
  goes-freed = by (picked is_blocked s) (λ c is. found-passes (λ (x : Candidate). is_blocked x.progress) s.candidates c is)
    where
      busy : (p : Progress) → is_blocked p ≡ true → is_busy (freed_progress p) ≡ true
      busy (progress.Blocked way due) is = refl
      busy progress.Queued is = refl
      busy (progress.Again way due) is = refl
      busy (progress.Waiting t) is = refl
      busy progress.Tried is = is
      busy progress.Gone is = is

      by : (c : Option Candidate) → ((x : Candidate) → c ≡ Some x → is_blocked x.progress ≡ true)
          → Goes place (option_map_or (λ x. replacing (freed_one x) s) c s)
      by None is = inl h
      by (Some c) is = goes-put place s s (freed_one c) refl (busy c.progress (is c refl)) h

  goes-event : (e : TransactionEvent) → Comes e (after_event s e)
  goes-event (round_begins order) = inl (by (wants_round s))
    where
      by : (b : Bool) → Goes place (cond b (record s {
        candidates = map {A = Candidate} requeued s.candidates;
        order = order;
        round = s.round + 1;
      }) s)
      by true = inl (busy-requeued place s.candidates h)
      by false = inl h
  goes-event (is_sent made) =
      inl (goes-map place (λ c. replacing (sent_with made s.settings c) s) s (chosen s)
      (λ c is. goes-put place s s (sent_with made s.settings c) refl refl h) (inl h))
  goes-event (has_no_room due) =
      inl (goes-map place (λ c. replacing (without_channel due c) s) s (chosen s)
      (λ c is. goes-put place s s (without_channel due c) refl refl h) (inl h))
  goes-event (reply_came channel id outcome reply) = inl (goes-came channel id outcome reply)
  goes-event (opt_refused channel id) = inl (goes-opt channel id)
  goes-event (letters_differ channel id) = inl (goes-letters channel id)
  goes-event (channel_failed channel) = goes-failed channel
  goes-event (no_channel channel) = inl (goes-blocked channel)
  goes-event channel_free = inl goes-freed
  goes-event oldest_given_up = inl (inl h)
  goes-event (time_passed now) = goes-expired now

-- ---- so at each moment

pub timeouts_are_alone : TimeoutsAreAlone
timeouts_are_alone settings servers events clean = record { noted = clean-at; passed = passes }
  where
    start : TransactionState
    start = begun_with settings servers

    clean-at : (before later : List TransactionEvent) → events ≡ before ++ later → HasTimedOutAtMost (after_events start before)
    clean-at before later is =
        back-events later (after_events start before)
        (subst HasTimedOutAtMost (ap (λ (es : List TransactionEvent). after_events start es) is ∙ fold-append after_event start before later) clean)

    passes : (before later : List TransactionEvent) (e : TransactionEvent) (place : ℕ) → events ≡ before ++ e ∷ later
        → is_awaited place (after_events start before) ≡ true
        → is_awaited place (after_event (after_events start before) e) ≡ false
        → HasPassed place (after_events start before) e ⊎ HasFailedThere place (after_events start before) e
    passes before later e place is awaited over = by (goes-event place (after_events start before) awaited e)
      where
        after : HasTimedOutAtMost (after_event (after_events start before) e)
        after =
            back-events later (after_event (after_events start before) e)
            (subst HasTimedOutAtMost (ap (λ (es : List TransactionEvent). after_events start es) is ∙ fold-append after_event start before (e ∷ later)) clean)

        by : Comes place (after_events start before) awaited e (after_event (after_events start before) e)
            → HasPassed place (after_events start before) e ⊎ HasFailedThere place (after_events start before) e
        by (inl (inl still)) = absurd (true≢false (sym still ∙ over))
        by (inl (inr seen)) = absurd (seen after)
        by (inr why) = why
