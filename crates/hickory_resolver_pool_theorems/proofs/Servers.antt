-- Where nothing was noted of any server, none of them can be asked.
use Rattle.std.proofs.Common.{◌≡◌, ◌≤◌, ◌+◌, ℕ, Bool, true, false, cond, not, ◌&&◌, ◌||◌, ltb, lt-ltb, List, [], ◌∷◌, ◌++◌, length, map, refl, ap, ap₂, sym, subst, ◌∙◌, append_assoc, append-nil, inl, inr, ◌⊎◌, eqb, eqb-true, true≢false, arith}
use Rattle.std.specs.Prelude.{Option, None, Some, filter, unwrap_or}
use Rattle.std.specs.List.{AllByRecursion, list_any, enumerate_from}
use Rattle.std.specs.Option.{is_some, option_map_or}
use Rattle.std.proofs.lemmas.List.Sums.{fold-append}
use Rattle.hickory_resolver_servers.specs.Server.{ServerState}
use Rattle.hickory_resolver_tries.specs.declared.outcome.ReplyOutcome.{ReplyOutcome}
use Rattle.hickory_resolver_transactions.specs.Candidates.{candidate_of, is_tried, is_waiting, is_busy, is_blocked, is_try, waits_as, waits_on, is_due, way_of_try, uncounted, sent_with, without_channel, blocked_as, requeued, freed_one, freed_progress, has_failed_by}
use Rattle.hickory_resolver_transactions.specs.Laws.{TransactionEvent, round_begins, is_sent, has_no_room, reply_came, opt_refused, letters_differ, channel_failed, no_channel, channel_free, oldest_given_up, time_passed, after_event, after_events}
use Rattle.hickory_resolver_transactions.specs.Outcomes.{better, rank_of}
use Rattle.hickory_resolver_transactions.specs.Table.{after_reply, after_deadline, after_closed_stream, then_of_reply, then_of_refused_opt, then_of_other_letters, stays_believed}
use Rattle.hickory_resolver_transactions.specs.Transaction.{TransactionState, begun_with, replaced, replacing, putting, noting, without_oldest, late_too, with_late, noted_of_closed, kept_in, keeping, acted, acted_late, picked, candidate_at, late_at, late_came_to, late_replied, came_to, without_answered, came, opt_was_refused, other_letters_came, failed_at, failed_in, failed, blocked_in, blocked, freed, expired_in, late_expired, expired, is_idle, may_go_on, wants_round, with_round, chosen, sent, unsent}
use Rattle.hickory_resolver_transactions.specs.declared.candidate.Candidate.{Candidate}
use Rattle.hickory_resolver_transactions.specs.declared.candidate.LateTry.{LateTry}
use Rattle.hickory_resolver_transactions.specs.declared.candidate.Made.{Made}
use Rattle.hickory_resolver_transactions.specs.declared.candidate.Progress.{Progress}
use Rattle.hickory_resolver_transactions.specs.declared.candidate.Progress.TheVariants as progress
use Rattle.hickory_resolver_transactions.specs.declared.candidate.Transport.{Transport}
use Rattle.hickory_resolver_transactions.specs.declared.candidate.Transport.TheVariants.{Udp, Tcp}
use Rattle.hickory_resolver_transactions.specs.declared.candidate.Try.{Try}
use Rattle.hickory_resolver_transactions.specs.declared.outcome.Outcome.{Outcome}
use Rattle.hickory_resolver_transactions.specs.declared.outcome.Outcome.TheVariants as told
use Rattle.hickory_resolver_transactions.specs.declared.settings.Settings.{Settings}
use Rattle.hickory_resolver_transactions.specs.declared.table.Then.{Then}
use Rattle.hickory_resolver_transactions.specs.declared.table.Then.TheVariants.{Ends, Leaves, Rests, Again, Nothing}
use Rattle.hickory_resolver_transactions.specs.declared.candidate.Way.{Way}
use Rattle.hickory_resolver_pool_theorems.specs.Causes.{HasFailed, HasNoPort}
use Rattle.hickory_resolver_pool_theorems.proofs.Tries.{found-passes}

-- A server that is gone has no port; one that rests was not asked yet, or this holds: that a channel failed.
abbrev Fit : ℕ → Type 0 → Bool → Bool → Progress → Type 0
Fit round F udp tcp progress.Gone = (udp ≡ false) × (tcp ≡ false)
Fit round F udp tcp progress.Tried = (round ≡ 0) ⊎ F
Fit round F udp tcp other = Unit {0}

abbrev IsFit : ℕ → Type 0 → Candidate → Type 0
IsFit round F c = Fit round F c.has_udp c.has_tcp c.progress

abbrev AreFit : ℕ → Type 0 → List Candidate → Type 0
AreFit round F cs = AllByRecursion (IsFit round F) cs

-- the servers stand in the order of their places
abbrev pub HasPlaces : ℕ → List Candidate → Type 0
HasPlaces n [] = Unit {0}
HasPlaces n (c ∷ cs) = (c.place ≡ n) × HasPlaces (n + 1) cs

places-replaced : (n : ℕ) (new : Candidate) (cs : List Candidate) → HasPlaces n cs → HasPlaces n (replaced new cs)
places-replaced n new [] all = tt
places-replaced n new (c ∷ cs) all = by (eqb c.place new.place) refl (places-replaced (n + 1) new cs all.1)
  where
    by : (same : Bool) → eqb c.place new.place ≡ same → HasPlaces (n + 1) (replaced new cs)
        → HasPlaces n (cond same (new ∷ cs) (c ∷ replaced new cs))
    by true e more = (sym (eqb-true c.place new.place e) ∙ all.0, all.1)
    by false e more = (all.0, more)

places-requeued : (n : ℕ) (cs : List Candidate) → HasPlaces n cs → HasPlaces n (map requeued cs)
places-requeued n [] all = tt
places-requeued n (c ∷ cs) all = (by (is_tried c.progress), places-requeued (n + 1) cs all.1)
  where
    by : (rests : Bool)
        → (cond {A = Candidate} rests (record c { udp_sends = 0; tcp_sends = 0; progress = progress.Queued }) c).place ≡ n
    by true = all.0
    by false = all.0

places-first : (n : ℕ) (servers : List ServerState)
    → HasPlaces n (map (λ p. candidate_of p.0 p.1) (enumerate_from n servers))
places-first n [] = tt
places-first n (x ∷ xs) = (refl, places-first (n + 1) xs)

-- while nothing was noted; and it has a round
record Untold (F : Type 0) (s : TransactionState) : Type 0 where
  fits : s.noted ≡ None → s.ended ≡ None → AreFit s.round F s.candidates
  rounds : 1 ≤ s.settings.rounds
  places : HasPlaces 0 s.candidates

-- ---- with more that holds

fit-more : (round : ℕ) (F G : Type 0) → (F → G) → (u t : Bool) (p : Progress) → Fit round F u t p → Fit round G u t p
fit-more round F G h u t progress.Queued k = tt
fit-more round F G h u t (progress.Again way due) k = tt
fit-more round F G h u t (progress.Blocked way due) k = tt
fit-more round F G h u t (progress.Waiting x) k = tt
fit-more round F G h u t progress.Tried (inl none) = inl none
fit-more round F G h u t progress.Tried (inr some) = inr (h some)
fit-more round F G h u t progress.Gone k = k

all-more : (round : ℕ) (F G : Type 0) → (F → G) → (cs : List Candidate) → AreFit round F cs → AreFit round G cs
all-more round F G h [] all = tt
all-more round F G h (c ∷ cs) all =
    (fit-more round F G h c.has_udp c.has_tcp c.progress all.0, all-more round F G h cs all.1)

untold-more : (F G : Type 0) → (F → G) → (s : TransactionState) → Untold F s → Untold G s
untold-more F G h s w = record {
  fits = λ noted ended. all-more s.round F G h s.candidates (w.fits noted ended);
  rounds = w.rounds;
  places = w.places;
}

-- ---- lists

fit-replaced : (round : ℕ) (F : Type 0) (new : Candidate) (cs : List Candidate) → IsFit round F new → AreFit round F cs
    → AreFit round F (replaced new cs)
fit-replaced round F new [] k all = tt
fit-replaced round F new (c ∷ cs) k all = by (eqb c.place new.place) (fit-replaced round F new cs k all.1)
  where
    by : (same : Bool) → AreFit round F (replaced new cs)
        → AreFit round F (cond same (new ∷ cs) (c ∷ replaced new cs))
    by true more = (k, all.1)
    by false more = (all.0, more)

-- what is noted is not nothing
better-some : (noted : Option Outcome) (o : Outcome) → better noted o ≡ None → ⊥
better-some None o e = cc
better-some (Some old) o e = by (ltb (rank_of o) (rank_of old)) e
  where
    by : (b : Bool) → cond b (Some o) (Some old) ≡ None → ⊥
    by true h = cc
    by false h = cc

-- ---- the parts of what an event does

untold-noting : (F : Type 0) (s : TransactionState) → Untold F s → (o : Outcome) → Untold F (noting o s)
untold-noting F s h o = record {
  fits = λ noted ended. absurd (better-some s.noted o noted);
  rounds = h.rounds;
  places = h.places;
}

untold-ending : (F : Type 0) (s : TransactionState) → Untold F s → (reply : ℕ) → Untold F (record s { ended = Some reply })
untold-ending F s h reply = record { fits = λ noted ended. absurd cc; rounds = h.rounds; places = h.places }

untold-replacing : (F : Type 0) (s : TransactionState) → Untold F s → (c : Candidate) → IsFit s.round F c
    → Untold F (replacing c s)
untold-replacing F s h c k = record {
  fits = λ noted ended. fit-replaced s.round F c s.candidates k (h.fits noted ended);
  rounds = h.rounds;
  places = places-replaced 0 c s.candidates h.places;
}

-- one that is gone, or rests, of which something is noted
untold-noted : (F : Type 0) (s : TransactionState) → Untold F s → (c : Candidate) (o : Outcome) → Untold F (noting o (replacing c s))
untold-noted F s h c o = record {
  fits = λ noted ended. absurd (better-some s.noted o noted);
  rounds = h.rounds;
  places = places-replaced 0 c s.candidates h.places;
}

closed-none : (ls : List LateTry) (noted : Option Outcome) → noted_of_closed ls noted ≡ None → noted ≡ None
closed-none [] noted e = e
closed-none (x ∷ xs) noted e = test x.has_failed e
  where
    test : (failed : Bool) → cond failed (better noted told.Unreachable) noted ≡ None → noted ≡ None
    test true e = absurd (better-some noted told.Unreachable e)
    test false e = e

untold-oldest : (F : Type 0) (s : TransactionState) → Untold F s → Untold F (without_oldest s)
untold-oldest F s h = record {
  fits = λ noted ended. h.fits (closed-none s.late s.noted noted) ended;
  rounds = h.rounds;
  places = h.places;
}

untold-answered : (F : Type 0) (s : TransactionState) → Untold F s → (outcome : ReplyOutcome) (channel id : ℕ)
    → Untold F (without_answered outcome channel id s)
untold-answered F s h outcome channel id = by (stays_believed outcome)
  where
    by : (stays : Bool)
        → Untold F (cond stays s (record s { late = filter (λ l. not (is_try channel id l.tried)) s.late }))
    by true = h
    by false = record { fits = h.fits; rounds = h.rounds; places = h.places }

untold-late : (F : Type 0) (s : TransactionState) → Untold F s → (l : LateTry) → Untold F (with_late l s)
untold-late F s h l = by (ltb (length s.late) 2)
  where
    by : (few : Bool) → Untold F (cond few (late_too l s) (late_too l (without_oldest s)))
    by true = record { fits = h.fits; rounds = h.rounds; places = h.places }
    by false =
        let w = untold-oldest F s h in
        record { fits = w.fits; rounds = w.rounds; places = w.places }

untold-kept : (F : Type 0) (s : TransactionState) → Untold F s → (p : Progress) (place : ℕ) → Untold F (kept_in p place s)
untold-kept F s h progress.Queued place = h
untold-kept F s h (progress.Again way due) place = h
untold-kept F s h (progress.Blocked way due) place = h
untold-kept F s h (progress.Waiting t) place = untold-late F s h (record { place = place; tried = t; has_failed = false })
untold-kept F s h progress.Tried place = h
untold-kept F s h progress.Gone place = h

untold-keeping : (F : Type 0) (s : TransactionState) → Untold F s → (keeps : Bool) (c : Candidate) → Untold F (keeping keeps c s)
untold-keeping F s h true c = untold-kept F s h c.progress c.place
untold-keeping F s h false c = h

untold-acted : (F : Type 0) (s : TransactionState) → Untold F s → (t : Then) (keeps : Bool) (c : Candidate) → Untold F (acted t keeps c s)
untold-acted F s h (Ends reply) keeps c = untold-ending F s h reply
untold-acted F s h (Leaves o) keeps c =
    untold-noted F (keeping keeps c s) (untold-keeping F s h keeps c) (record c { progress = progress.Gone }) o
untold-acted F s h (Rests o) keeps c =
    untold-noted F (keeping keeps c s) (untold-keeping F s h keeps c) (record c { progress = progress.Tried }) o
untold-acted F s h (Again way) keeps c =
    untold-replacing F (keeping keeps c s) (untold-keeping F s h keeps c) (record c { progress = progress.Again way None }) tt
untold-acted F s h Nothing keeps c = h

untold-acted_late : (F : Type 0) (s : TransactionState) → Untold F s → (t : Then) (c : Candidate) → Untold F (acted_late t c s)
untold-acted_late F s h (Ends reply) c = untold-ending F s h reply
untold-acted_late F s h (Leaves o) c = by (is_waiting c.progress)
  where
    by : (waits : Bool) → Untold F (noting o (cond waits s (putting progress.Gone c s)))
    by true = untold-noting F s h o
    by false = untold-noted F s h (record c { progress = progress.Gone }) o
untold-acted_late F s h (Rests o) c = h
untold-acted_late F s h (Again way) c = by (is_tried c.progress)
  where
    by : (rests : Bool) → Untold F (cond rests (putting (progress.Again way None) c s) s)
    by true = untold-replacing F s h (record c { progress = progress.Again way None }) tt
    by false = h
untold-acted_late F s h Nothing c = h

-- ---- events

module _ (F : Type 0) (s : TransactionState) (h : Untold F s) where
  untold-came : (channel id : ℕ) (outcome : ReplyOutcome) (reply : ℕ) → Untold F (came channel id outcome reply s)
  untold-came channel id outcome reply = by (picked (waits_as channel id) s)
    where
      after : TransactionState
      after = without_answered outcome channel id s

      at : (l : LateTry) (found : Option Candidate)
          → Untold F (option_map_or (λ c. late_came_to c l.tried outcome reply after) found after)
      at l None = untold-answered F s h outcome channel id
      at l (Some c) =
          untold-acted_late F after (untold-answered F s h outcome channel id) (after_reply c l.tried outcome reply) c

      late : (found : Option LateTry) → Untold F (option_map_or (λ l. late_replied outcome reply l after) found s)
      late None = h
      late (Some l) = at l (candidate_at l.place after)

      by : (found : Option Candidate) → Untold F (option_map_or (λ c. came_to c outcome reply s) found
          (option_map_or (λ l. late_replied outcome reply l after) (late_at channel id s) s))
      by None = late (late_at channel id s)
      by (Some c) = untold-acted F s h (then_of_reply c outcome reply) (stays_believed outcome) c

  untold-opt : (channel id : ℕ) → Untold F (opt_was_refused channel id s)
  untold-opt channel id = by (picked (waits_as channel id) s)
    where
      by : (found : Option Candidate) → Untold F (option_map_or (λ c. acted (then_of_refused_opt c) false c s) found s)
      by None = h
      by (Some c) = untold-acted F s h (then_of_refused_opt c) false c

  untold-letters : (channel id : ℕ) → Untold F (other_letters_came channel id s)
  untold-letters channel id = by (picked (waits_as channel id) s)
    where
      by : (found : Option Candidate) → Untold F (option_map_or (λ c. acted (then_of_other_letters c) true c s) found s)
      by None = h
      by (Some c) = untold-acted F s h (then_of_other_letters c) true c

  untold-failed_at : F → (c : Candidate) (how : Transport) (t : Try) → Untold F (failed_at c c.progress how t s)
  untold-failed_at some c Udp t =
      let l : LateTry = record { place = c.place; tried = t; has_failed = true } in
      untold-replacing F (with_late l s) (untold-late F s h l) (record c { progress = progress.Tried }) (inr some)
  untold-failed_at some c Tcp t = untold-acted F s h (after_closed_stream c t) false c

  untold-failed_in : F → (c : Candidate) (p : Progress) → Untold F (failed_in c p s)
  untold-failed_in some c progress.Queued = h
  untold-failed_in some c (progress.Again way due) = h
  untold-failed_in some c (progress.Blocked way due) = h
  untold-failed_in some c (progress.Waiting t) = untold-failed_at some c t.transport t
  untold-failed_in some c progress.Tried = h
  untold-failed_in some c progress.Gone = h

  untold-failed : (channel : ℕ) → ((c : Candidate) → picked (waits_on channel) s ≡ Some c → F) → Untold F (failed channel s)
  untold-failed channel some = by (picked (waits_on channel) s) refl
    where
      by : (found : Option Candidate) → picked (waits_on channel) s ≡ found
          → Untold F (option_map_or (λ c. failed_in c c.progress s) found s)
      by None e = h
      by (Some c) e = untold-failed_in (some c e) c c.progress

  fit-uncounted : (round : ℕ) (F : Type 0) (how : Transport) (c : Candidate) (way : Way) (due : ℕ)
      → IsFit round F (uncounted how (record c { progress = progress.Blocked way due }))
  fit-uncounted round F Udp c way due = tt
  fit-uncounted round F Tcp c way due = tt

  untold-blocked_in : (c : Candidate) (p : Progress) → Untold F (blocked_in c p s)
  untold-blocked_in c progress.Queued = h
  untold-blocked_in c (progress.Again way due) = h
  untold-blocked_in c (progress.Blocked way due) = h
  untold-blocked_in c (progress.Waiting t) =
      untold-replacing F s h (blocked_as t c)
      (fit-uncounted s.round F t.transport c (way_of_try t) (unwrap_or t.channel_due t.due))
  untold-blocked_in c progress.Tried = h
  untold-blocked_in c progress.Gone = h

  untold-blocked : (channel : ℕ) → Untold F (blocked channel s)
  untold-blocked channel = by (picked (waits_on channel) s)
    where
      by : (found : Option Candidate) → Untold F (option_map_or (λ c. blocked_in c c.progress s) found s)
      by None = h
      by (Some c) = untold-blocked_in c c.progress

  fit-freed : (round : ℕ) (F : Type 0) (u t : Bool) (p : Progress) → is_blocked p ≡ true → Fit round F u t (freed_progress p)
  fit-freed round F u t progress.Queued e = absurd (true≢false (sym e))
  fit-freed round F u t (progress.Again way due) e = absurd (true≢false (sym e))
  fit-freed round F u t (progress.Blocked way due) e = tt
  fit-freed round F u t (progress.Waiting x) e = absurd (true≢false (sym e))
  fit-freed round F u t progress.Tried e = absurd (true≢false (sym e))
  fit-freed round F u t progress.Gone e = absurd (true≢false (sym e))

  untold-freed : Untold F (freed s)
  untold-freed = by (picked is_blocked s) refl
    where
      by : (found : Option Candidate) → picked is_blocked s ≡ found
          → Untold F (option_map_or (λ c. replacing (freed_one c) s) found s)
      by None e = h
      by (Some c) e =
          untold-replacing F s h (freed_one c)
          (fit-freed s.round F c.has_udp c.has_tcp c.progress
          (found-passes (λ (x : Candidate). is_blocked x.progress) s.candidates c e))

  untold-unsent : (due : ℕ) → Untold F (unsent due s)
  untold-unsent due = by (chosen s)
    where
      by : (found : Option Candidate) → Untold F (option_map_or (λ c. replacing (without_channel due c) s) found s)
      by None = h
      by (Some c) = untold-replacing F s h (without_channel due c) tt

  untold-sent : (made : Made) → Untold F (sent made s)
  untold-sent made = by (chosen s)
    where
      by : (found : Option Candidate) → Untold F (option_map_or (λ c. replacing (sent_with made s.settings c) s) found s)
      by None = h
      by (Some c) = untold-replacing F s h (sent_with made s.settings c) tt

  fit-next : (round : ℕ) (F : Type 0) (u t : Bool) (p : Progress) → is_tried p ≡ false → Fit round F u t p → Fit (round + 1) F u t p
  fit-next round F u t progress.Queued e k = tt
  fit-next round F u t (progress.Again way due) e k = tt
  fit-next round F u t (progress.Blocked way due) e k = tt
  fit-next round F u t (progress.Waiting x) e k = tt
  fit-next round F u t progress.Tried e k = absurd (true≢false e)
  fit-next round F u t progress.Gone e k = k

  fit-requeued : (round : ℕ) (F : Type 0) (c : Candidate) → IsFit round F c → IsFit (round + 1) F (requeued c)
  fit-requeued round F c k = by (is_tried c.progress) refl
    where
      by : (rests : Bool) → is_tried c.progress ≡ rests
          → IsFit (round + 1) F (cond rests (record c { udp_sends = 0; tcp_sends = 0; progress = progress.Queued }) c)
      by true e = tt
      by false e = fit-next round F c.has_udp c.has_tcp c.progress e k

  all-requeued : (round : ℕ) (F : Type 0) (cs : List Candidate) → AreFit round F cs → AreFit (round + 1) F (map requeued cs)
  all-requeued round F [] all = tt
  all-requeued round F (c ∷ cs) all = (fit-requeued round F c all.0, all-requeued round F cs all.1)

  untold-round : (order : List ℕ) → Untold F (with_round order s)
  untold-round order = by (wants_round s)
    where
      by : (wants : Bool) → Untold F (cond wants (record s {
        candidates = map {A = Candidate} requeued s.candidates;
        order = order;
        round = s.round + 1;
      }) s)
      by true = record {
        fits = λ noted ended. all-requeued s.round F s.candidates (h.fits noted ended);
        rounds = h.rounds;
        places = places-requeued 0 s.candidates h.places;
      }
      by false = h

  untold-expired_in : (c : Candidate) (p : Progress) → Untold F (expired_in c p s)
  untold-expired_in c progress.Queued = h
  untold-expired_in c (progress.Again way due) = h
  untold-expired_in c (progress.Blocked way due) =
      untold-noted F s h (record c { progress = progress.Tried }) told.Timeout
  untold-expired_in c (progress.Waiting t) = untold-acted F s h (after_deadline s.settings.tcp_on_error c t) true c
  untold-expired_in c progress.Tried = h
  untold-expired_in c progress.Gone = h

  untold-late_expired : (now : ℕ) → Untold F (late_expired now s)
  untold-late_expired now = by (list_any (has_failed_by now) s.late)
    where
      by : (some : Bool) → Untold F (cond some
          (noting told.Unreachable (record s { late = filter (λ l. not (has_failed_by now l)) s.late })) s)
      by true = record {
        fits = λ noted ended. absurd (better-some s.noted told.Unreachable noted);
        rounds = h.rounds;
        places = h.places;
      }
      by false = h

  untold-expired : (now : ℕ) → Untold F (expired now s)
  untold-expired now = by (picked (is_due now) s)
    where
      by : (found : Option Candidate)
          → Untold F (option_map_or (λ c. expired_in c c.progress s) found (late_expired now s))
      by None = untold-late_expired now
      by (Some c) = untold-expired_in c c.progress

-- ---- before the first round

fit-first : (F : Type 0) (udp tcp : Bool) → Fit 0 F udp tcp (cond (udp || tcp) progress.Tried progress.Gone)
fit-first F true tcp = inl refl
fit-first F false true = inl refl
fit-first F false false = (refl, refl)

all-first : (F : Type 0) (n : ℕ) (servers : List ServerState)
    → AreFit 0 F (map (λ p. candidate_of p.0 p.1) (enumerate_from n servers))
all-first F n [] = tt
all-first F n (x ∷ xs) = (fit-first F (is_some x.udp_port) (is_some x.tcp_port), all-first F (n + 1) xs)

-- ---- from there on

failed-more : (start : TransactionState) (done more : List TransactionEvent) → HasFailed start done
    → HasFailed start (done ++ more)
failed-more start done more f = record {
  before = f.before;
  later = f.later ++ more;
  channel = f.channel;
  server = f.server;
  happened = ap (λ (es : List TransactionEvent). es ++ more) f.happened
      ∙ append_assoc f.before (channel_failed f.channel ∷ f.later) more;
  waited = f.waited;
}

module _ (start : TransactionState) where
  abbrev FailedBy : List TransactionEvent → Type 0
  FailedBy done = HasFailed start done

  untold-one : (done : List TransactionEvent) (event : TransactionEvent)
      → Untold (FailedBy (done ++ event ∷ [])) (after_events start done)
      → Untold (FailedBy (done ++ event ∷ [])) (after_event (after_events start done) event)
  untold-one done (round_begins order) w =
      untold-round (FailedBy (done ++ round_begins order ∷ [])) (after_events start done) w order
  untold-one done (is_sent made) w = untold-sent (FailedBy (done ++ is_sent made ∷ [])) (after_events start done) w made
  untold-one done (has_no_room due) w =
      untold-unsent (FailedBy (done ++ has_no_room due ∷ [])) (after_events start done) w due
  untold-one done (reply_came channel id outcome reply) w =
      untold-came (FailedBy (done ++ reply_came channel id outcome reply ∷ [])) (after_events start done) w
      channel id outcome reply
  untold-one done (opt_refused channel id) w =
      untold-opt (FailedBy (done ++ opt_refused channel id ∷ [])) (after_events start done) w channel id
  untold-one done (letters_differ channel id) w =
      untold-letters (FailedBy (done ++ letters_differ channel id ∷ [])) (after_events start done) w channel id
  untold-one done (channel_failed channel) w =
      untold-failed (FailedBy (done ++ channel_failed channel ∷ [])) (after_events start done) w channel
      (λ c e. record { before = done; later = []; channel = channel; server = c; happened = refl; waited = e })
  untold-one done (no_channel channel) w =
      untold-blocked (FailedBy (done ++ no_channel channel ∷ [])) (after_events start done) w channel
  untold-one done channel_free w = untold-freed (FailedBy (done ++ channel_free ∷ [])) (after_events start done) w
  untold-one done oldest_given_up w =
      untold-oldest (FailedBy (done ++ oldest_given_up ∷ [])) (after_events start done) w
  untold-one done (time_passed now) w =
      untold-expired (FailedBy (done ++ time_passed now ∷ [])) (after_events start done) w now

  untold-event : (done : List TransactionEvent) (event : TransactionEvent) → Untold (FailedBy done) (after_events start done)
      → Untold (FailedBy (done ++ event ∷ [])) (after_event (after_events start done) event)
  untold-event done event w =
      untold-one done event (untold-more (FailedBy done) (FailedBy (done ++ event ∷ []))
      (failed-more start done (event ∷ [])) (after_events start done) w)

  untold-events : (done rest : List TransactionEvent) → Untold (FailedBy done) (after_events start done)
      → Untold (FailedBy (done ++ rest)) (after_events start (done ++ rest))
  untold-events done [] w =
      subst (λ (es : List TransactionEvent). Untold (FailedBy es) (after_events start es)) (sym (append-nil done)) w
  untold-events done (event ∷ rest) w =
      let one = subst (λ (s : TransactionState). Untold (FailedBy (done ++ event ∷ [])) s)
      (sym (fold-append after_event start done (event ∷ []))) (untold-event done event w) in
      let all = untold-events (done ++ event ∷ []) rest one in
      subst (λ (es : List TransactionEvent). Untold (FailedBy es) (after_events start es))
      (append_assoc done (event ∷ []) rest) all

untold-made : (settings : Settings) (servers : List ServerState) (events : List TransactionEvent) → 1 ≤ settings.rounds
    → (t : TransactionState) → t ≡ after_events (begun_with settings servers) events
    → Untold (HasFailed (begun_with settings servers) events) t
untold-made settings servers events some t made =
    let start = begun_with settings servers in
    let first : Untold (HasFailed start []) start = record {
      fits = λ noted ended. all-first (HasFailed start []) 0 servers;
      rounds = some;
      places = places-first 0 servers;
    } in
    subst (λ (s : TransactionState). Untold (HasFailed start events) s) (sym made) (untold-events start [] events first)

-- ---- at its end

both-false : (a b : Bool) → (not a && not b) ≡ true → (a ≡ false) × (b ≡ false)
both-false true b e = absurd (true≢false (sym e))
both-false false true e = absurd (true≢false (sym e))
both-false false false e = (refl, refl)

neither : (a b : Bool) → (a || b) ≡ false → (a ≡ false) × (b ≡ false)
neither true b e = absurd (true≢false e)
neither false b e = (refl, e)

module _ (F : Type 0) (round rounds : ℕ) (some : 1 ≤ rounds) where
  -- a round more may begin where some server rests
  abbrev Stops : List Candidate → Type 0
  Stops cs = (ltb round rounds && list_any (λ c. is_tried c.progress) cs) ≡ false

  stops-rest : (c : Candidate) (cs : List Candidate) → Stops (c ∷ cs) → Stops cs
  stops-rest c cs e = by (ltb round rounds) (is_tried c.progress) e
    where
      by : (may tried : Bool) → (may && (tried || list_any (λ x. is_tried x.progress) cs)) ≡ false
          → (may && list_any (λ x. is_tried x.progress) cs) ≡ false
      by false tried h = refl
      by true true h = absurd (true≢false h)
      by true false h = h

  not-first : (c : Candidate) (cs : List Candidate) → Stops (c ∷ cs) → is_tried c.progress ≡ true → round ≡ 0 → ⊥
  not-first c cs e tried none =
      let may : ltb round rounds ≡ true = lt-ltb round rounds (omega (arith, none, some)) in
      true≢false (sym (ap₂ (λ (a b : Bool). a && (b || list_any (λ x. is_tried x.progress) cs)) may tried) ∙ e)

  -- one that rests was asked, so that a channel failed
  port-of : (c : Candidate) (cs : List Candidate) → IsFit round F c → is_busy c.progress ≡ false → Stops (c ∷ cs)
      → F ⊎ HasNoPort c
  port-of c cs fit idle stops = by c.progress fit idle (not-first c cs stops)
    where
      by : (p : Progress) → Fit round F c.has_udp c.has_tcp p → is_busy p ≡ false
          → (is_tried p ≡ true → round ≡ 0 → ⊥) → F ⊎ HasNoPort c
      by progress.Queued k e f = absurd (true≢false e)
      by (progress.Again way due) k e f = absurd (true≢false e)
      by (progress.Blocked way due) k e f = absurd (true≢false e)
      by (progress.Waiting t) k e f = absurd (true≢false e)
      by progress.Tried (inl none) e f = absurd (f refl none)
      by progress.Tried (inr some) e f = inl some
      by progress.Gone k e f = inr k

  no-port : (cs : List Candidate) → AreFit round F cs → list_any (λ c. is_busy c.progress) cs ≡ false → Stops cs
      → F ⊎ AllByRecursion HasNoPort cs
  no-port [] all idle stops = inr tt
  no-port (c ∷ cs) all idle stops =
      let both = neither (is_busy c.progress) (list_any (λ x. is_busy x.progress) cs) idle in
      by (port-of c cs all.0 both.0 stops) (no-port cs all.1 both.1 (stops-rest c cs stops))
    where
      by : F ⊎ HasNoPort c → F ⊎ AllByRecursion HasNoPort cs → F ⊎ AllByRecursion HasNoPort (c ∷ cs)
      by (inl some) rest = inl some
      by (inr none) (inl some) = inl some
      by (inr none) (inr all) = inr (none, all)

-- where nothing was noted a channel failed, or none can be asked
pub none-asked : (settings : Settings) (servers : List ServerState) (events : List TransactionEvent) → 1 ≤ settings.rounds
    → (t : TransactionState) → t ≡ after_events (begun_with settings servers) events
    → t.noted ≡ None → t.ended ≡ None → is_idle t ≡ true → may_go_on t ≡ false
    → HasFailed (begun_with settings servers) events ⊎ AllByRecursion HasNoPort t.candidates
none-asked settings servers events some t made noted ended idle stops =
    let F = HasFailed (begun_with settings servers) events in
    let untold = untold-made settings servers events some t made in
    let both = both-false (list_any (λ c. is_busy c.progress) t.candidates) (list_any (λ l. l.has_failed) t.late) idle in
    no-port F t.round t.settings.rounds untold.rounds t.candidates (untold.fits noted ended) both.0 stops

pub has-places : (settings : Settings) (servers : List ServerState) (events : List TransactionEvent) → 1 ≤ settings.rounds
    → (t : TransactionState) → t ≡ after_events (begun_with settings servers) events → HasPlaces 0 t.candidates
has-places settings servers events some t made = (untold-made settings servers events some t made).places
