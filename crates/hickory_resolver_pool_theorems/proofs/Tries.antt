-- Tries of which something holds: what a transaction, and a question in flight, does keeps it of each that waits or is
-- late.
use Rattle.std.proofs.Common.{◌≡◌, ℕ, Bool, true, false, cond, not, ◌||◌, eqb, ltb, List, [], ◌∷◌, ◌++◌, length, map, drop, refl, ap, subst, ◌∙◌, ◌+◌}
use Rattle.std.specs.Prelude.{Option, None, Some, find, filter, unwrap_or}
use Rattle.std.specs.List.{AllByRecursion, list_any, enumerate_from}
use Rattle.std.specs.Option.{is_some, option_map, option_map_or, option_or, option_and_then}
use Rattle.hickory_resolver_servers.specs.Server.{ServerState}
use Rattle.hickory_resolver_tries.specs.Belief.{belief_of}
use Rattle.hickory_resolver_tries.specs.Outcome as reply
use Rattle.hickory_resolver_tries.specs.declared.belief.Belief.{Belief}
use Rattle.hickory_resolver_tries.specs.declared.belief.Belief.TheVariants as belief
use Rattle.hickory_resolver_tries.specs.declared.outcome.ReplyOutcome.{ReplyOutcome}
use Rattle.hickory_resolver_transactions.specs.Candidates.{candidate_of, is_tried, is_waiting, is_blocked, is_try, waits_as, waits_on, is_due, way_of, way_of_try, try_made, uncounted, counted, sent_with, without_channel, blocked_as, requeued, freed_one, freed_progress, has_failed_by}
use Rattle.hickory_resolver_transactions.specs.Table.{after_reply, after_deadline, after_closed_stream, then_of_reply, then_of_refused_opt, then_of_other_letters, stays_believed}
use Rattle.hickory_resolver_transactions.specs.Transaction.{TransactionState, begun_with, replaced, replacing, putting, noting, without_oldest, late_too, with_late, kept_in, keeping, acted, gone_unless_waiting, acted_late, picked, candidate_at, late_at, late_came_to, late_replied, came_to, without_answered, came, opt_was_refused, other_letters_came, failed_at, failed_in, failed, blocked_in, blocked, freed, expired_in, late_expired, expired, wants_round, with_round, chosen, sent, unsent, try_in, try_at}
use Rattle.hickory_resolver_transactions.specs.declared.candidate.Candidate.{Candidate}
use Rattle.hickory_resolver_transactions.specs.declared.candidate.LateTry.{LateTry}
use Rattle.hickory_resolver_transactions.specs.declared.candidate.Made.{Made}
use Rattle.hickory_resolver_transactions.specs.declared.candidate.Progress.{Progress}
use Rattle.hickory_resolver_transactions.specs.declared.candidate.Progress.TheVariants as progress
use Rattle.hickory_resolver_transactions.specs.declared.candidate.Transport.{Transport}
use Rattle.hickory_resolver_transactions.specs.declared.candidate.Transport.TheVariants.{Udp, Tcp}
use Rattle.hickory_resolver_transactions.specs.declared.candidate.Try.{Try}
use Rattle.hickory_resolver_transactions.specs.declared.candidate.Way.{Way}
use Rattle.hickory_resolver_transactions.specs.declared.outcome.Outcome.{Outcome}
use Rattle.hickory_resolver_transactions.specs.declared.outcome.Outcome.TheVariants as told
use Rattle.hickory_resolver_transactions.specs.declared.table.Then.{Then}
use Rattle.hickory_resolver_transactions.specs.declared.table.Then.TheVariants.{Ends, Leaves, Rests, Again, Nothing}
use Rattle.hickory_resolver_flights.specs.Flights.{FlightState, heard_as, heard_by, heard}
use Rattle.hickory_resolver_transactions.specs.declared.settings.Settings.{Settings}

-- ---- tries of which something holds

module _ (P : Try → Type 0) where
  abbrev pub Held : Progress → Type 0
  Held (progress.Waiting t) = P t
  Held other = Unit {0}

  abbrev pub HeldBy : Candidate → Type 0
  HeldBy c = Held c.progress

  abbrev pub LateBy : LateTry → Type 0
  LateBy l = P l.tried

  pub record AreSent (s : TransactionState) : Type 0 where
    pub waiting : AllByRecursion HeldBy s.candidates
    pub late : AllByRecursion LateBy s.late

  held-replaced : (new : Candidate) (cs : List Candidate) → HeldBy new → AllByRecursion HeldBy cs
      → AllByRecursion HeldBy (replaced new cs)
  held-replaced new [] h all = tt
  held-replaced new (c ∷ cs) h all = by (eqb c.place new.place) (held-replaced new cs h all.1)
    where
      by : (same : Bool) → AllByRecursion HeldBy (replaced new cs)
          → AllByRecursion HeldBy (cond same (new ∷ cs) (c ∷ replaced new cs))
      by true more = (h, all.1)
      by false more = (all.0, more)

  held-found : (test : Candidate → Bool) (cs : List Candidate) (c : Candidate) → AllByRecursion HeldBy cs
      → find test cs ≡ Some c → HeldBy c
  held-found test [] c all e = absurd cc
  held-found test (x ∷ xs) c all e = by (test x) (λ h. held-found test xs c all.1 h) e
    where
      by : (passes : Bool) → (find test xs ≡ Some c → HeldBy c) → cond passes (Some x) (find test xs) ≡ Some c → HeldBy c
      by true more h = let same : x ≡ c = cc in subst HeldBy same all.0
      by false more h = more h

  late-found : (test : LateTry → Bool) (ls : List LateTry) (l : LateTry) → AllByRecursion LateBy ls
      → find test ls ≡ Some l → LateBy l
  late-found test [] l all e = absurd cc
  late-found test (x ∷ xs) l all e = by (test x) (λ h. late-found test xs l all.1 h) e
    where
      by : (passes : Bool) → (find test xs ≡ Some l → LateBy l) → cond passes (Some x) (find test xs) ≡ Some l → LateBy l
      by true more h = let same : x ≡ l = cc in subst LateBy same all.0
      by false more h = more h

  late-pushed : (l : LateTry) (ls : List LateTry) → LateBy l → AllByRecursion LateBy ls → AllByRecursion LateBy (ls ++ l ∷ [])
  late-pushed l [] h all = (h, tt)
  late-pushed l (x ∷ xs) h all = (all.0, late-pushed l xs h all.1)

  late-dropped : (ls : List LateTry) → AllByRecursion LateBy ls → AllByRecursion LateBy (drop 1 ls)
  late-dropped [] all = tt
  late-dropped (x ∷ xs) all = all.1

  late-filtered : (test : LateTry → Bool) (ls : List LateTry) → AllByRecursion LateBy ls → AllByRecursion LateBy (filter test ls)
  late-filtered test [] all = tt
  late-filtered test (x ∷ xs) all = by (test x) (late-filtered test xs all.1)
    where
      by : (passes : Bool) → AllByRecursion LateBy (filter test xs) → AllByRecursion LateBy (cond passes (x ∷ filter test xs) (filter test xs))
      by true more = (all.0, more)
      by false more = more

  -- ---- the parts of what an event does

  module _ (s : TransactionState) (h : AreSent s) where
    sent-replacing : (new : Candidate) → HeldBy new → AreSent (replacing new s)
    sent-replacing new k = record { waiting = held-replaced new s.candidates k h.waiting; late = h.late }

    sent-noting : (o : Outcome) → AreSent (noting o s)
    sent-noting o = record { waiting = h.waiting; late = h.late }

    sent-ending : (reply : ℕ) → AreSent (record s { ended = Some reply })
    sent-ending reply = record { waiting = h.waiting; late = h.late }

    pub sent-oldest : AreSent (without_oldest s)
    sent-oldest = record { waiting = h.waiting; late = late-dropped s.late h.late }

    sent-answered : (outcome : ReplyOutcome) (channel id : ℕ) → AreSent (without_answered outcome channel id s)
    sent-answered outcome channel id = by (stays_believed outcome)
      where
        by : (stays : Bool)
            → AreSent (cond stays s (record s { late = filter (λ l. not (is_try channel id l.tried)) s.late }))
        by true = h
        by false = record { waiting = h.waiting; late = late-filtered (λ l. not (is_try channel id l.tried)) s.late h.late }

    sent-gone : (c : Candidate) → AreSent (gone_unless_waiting c s)
    sent-gone c = by (is_waiting c.progress)
      where
        by : (waits : Bool) → AreSent (cond waits s (putting progress.Gone c s))
        by true = h
        by false = sent-replacing (record c { progress = progress.Gone }) tt

    sent-late : (l : LateTry) → LateBy l → AreSent (with_late l s)
    sent-late l k = by (ltb (length s.late) 2)
      where
        by : (few : Bool) → AreSent (cond few (late_too l s) (late_too l (without_oldest s)))
        by true = record { waiting = h.waiting; late = late-pushed l s.late k h.late }
        by false = record { waiting = h.waiting; late = late-pushed l (drop 1 s.late) k (late-dropped s.late h.late) }

    sent-kept : (p : Progress) (place : ℕ) → Held p → AreSent (kept_in p place s)
    sent-kept progress.Queued place k = h
    sent-kept (progress.Again way due) place k = h
    sent-kept (progress.Blocked way due) place k = h
    sent-kept (progress.Waiting t) place k = sent-late (record { place = place; tried = t; has_failed = false }) k
    sent-kept progress.Tried place k = h
    sent-kept progress.Gone place k = h

    sent-keeping : (keeps : Bool) (c : Candidate) → HeldBy c → AreSent (keeping keeps c s)
    sent-keeping true c k = sent-kept c.progress c.place k
    sent-keeping false c k = h

  sent-acted : (s : TransactionState) → AreSent s → (t : Then) (keeps : Bool) (c : Candidate) → HeldBy c
      → AreSent (acted t keeps c s)
  sent-acted s h (Ends reply) keeps c k = sent-ending s h reply
  sent-acted s h (Leaves o) keeps c k =
      let kept = sent-keeping s h keeps c k in
      let put = sent-replacing (keeping keeps c s) kept (record c { progress = progress.Gone }) tt in
      sent-noting (putting progress.Gone c (keeping keeps c s)) put o
  sent-acted s h (Rests o) keeps c k =
      let kept = sent-keeping s h keeps c k in
      let put = sent-replacing (keeping keeps c s) kept (record c { progress = progress.Tried }) tt in
      sent-noting (putting progress.Tried c (keeping keeps c s)) put o
  sent-acted s h (Again way) keeps c k =
      sent-replacing (keeping keeps c s) (sent-keeping s h keeps c k) (record c { progress = progress.Again way None }) tt
  sent-acted s h Nothing keeps c k = h

  sent-acted_late : (s : TransactionState) → AreSent s → (t : Then) (c : Candidate) → AreSent (acted_late t c s)
  sent-acted_late s h (Ends reply) c = sent-ending s h reply
  sent-acted_late s h (Leaves o) c = sent-noting (gone_unless_waiting c s) (sent-gone s h c) o
  sent-acted_late s h (Rests o) c = h
  sent-acted_late s h (Again way) c = by (is_tried c.progress)
    where
      by : (rests : Bool) → AreSent (cond rests (putting (progress.Again way None) c s) s)
      by true = sent-replacing s h (record c { progress = progress.Again way None }) tt
      by false = h
  sent-acted_late s h Nothing c = h

  -- ---- events

  module _ (s : TransactionState) (h : AreSent s) where
    sent-came : (channel id : ℕ) (outcome : ReplyOutcome) (reply : ℕ) → AreSent (came channel id outcome reply s)
    sent-came channel id outcome reply = by (picked (waits_as channel id) s) refl
      where
        after : TransactionState
        after = without_answered outcome channel id s

        at : (l : LateTry) (found : Option Candidate)
            → AreSent (option_map_or (λ c. late_came_to c l.tried outcome reply after) found after)
        at l None = sent-answered s h outcome channel id
        at l (Some c) =
            sent-acted_late after (sent-answered s h outcome channel id) (after_reply c l.tried outcome reply) c

        late : (found : Option LateTry) → AreSent (option_map_or (λ l. late_replied outcome reply l after) found s)
        late None = h
        late (Some l) = at l (candidate_at l.place after)

        by : (found : Option Candidate) → picked (waits_as channel id) s ≡ found
            → AreSent (option_map_or (λ c. came_to c outcome reply s) found
            (option_map_or (λ l. late_replied outcome reply l after) (late_at channel id s) s))
        by None e = late (late_at channel id s)
        by (Some c) e =
            sent-acted s h (then_of_reply c outcome reply) (stays_believed outcome) c
            (held-found (λ x. waits_as channel id x.progress) s.candidates c h.waiting e)

    sent-opt : (channel id : ℕ) → AreSent (opt_was_refused channel id s)
    sent-opt channel id = by (picked (waits_as channel id) s) refl
      where
        by : (found : Option Candidate) → picked (waits_as channel id) s ≡ found
            → AreSent (option_map_or (λ c. acted (then_of_refused_opt c) false c s) found s)
        by None e = h
        by (Some c) e =
            sent-acted s h (then_of_refused_opt c) false c
            (held-found (λ x. waits_as channel id x.progress) s.candidates c h.waiting e)

    sent-letters : (channel id : ℕ) → AreSent (other_letters_came channel id s)
    sent-letters channel id = by (picked (waits_as channel id) s) refl
      where
        by : (found : Option Candidate) → picked (waits_as channel id) s ≡ found
            → AreSent (option_map_or (λ c. acted (then_of_other_letters c) true c s) found s)
        by None e = h
        by (Some c) e =
            sent-acted s h (then_of_other_letters c) true c
            (held-found (λ x. waits_as channel id x.progress) s.candidates c h.waiting e)

    sent-failed_at : (c : Candidate) → HeldBy c → (how : Transport) (t : Try) → P t → AreSent (failed_at c c.progress how t s)
    sent-failed_at c k Udp t p =
        let l : LateTry = record { place = c.place; tried = t; has_failed = true } in
        sent-replacing (with_late l s) (sent-late s h l p) (record c { progress = progress.Tried }) tt
    sent-failed_at c k Tcp t p = sent-acted s h (after_closed_stream c t) false c k

    sent-failed_in : (c : Candidate) → HeldBy c → (p : Progress) → Held p → AreSent (failed_in c p s)
    sent-failed_in c k progress.Queued p = h
    sent-failed_in c k (progress.Again way due) p = h
    sent-failed_in c k (progress.Blocked way due) p = h
    sent-failed_in c k (progress.Waiting t) p = sent-failed_at c k t.transport t p
    sent-failed_in c k progress.Tried p = h
    sent-failed_in c k progress.Gone p = h

    pub sent-failed : (channel : ℕ) → AreSent (failed channel s)
    sent-failed channel = by (picked (waits_on channel) s) refl
      where
        by : (found : Option Candidate) → picked (waits_on channel) s ≡ found
            → AreSent (option_map_or (λ c. failed_in c c.progress s) found s)
        by None e = h
        by (Some c) e =
            let k = held-found (λ x. waits_on channel x.progress) s.candidates c h.waiting e in
            sent-failed_in c k c.progress k

    held-uncounted : (how : Transport) (c : Candidate) (way : Way) (due : ℕ)
        → HeldBy (uncounted how (record c { progress = progress.Blocked way due }))
    held-uncounted Udp c way due = tt
    held-uncounted Tcp c way due = tt

    sent-blocked_in : (c : Candidate) (p : Progress) → AreSent (blocked_in c p s)
    sent-blocked_in c progress.Queued = h
    sent-blocked_in c (progress.Again way due) = h
    sent-blocked_in c (progress.Blocked way due) = h
    sent-blocked_in c (progress.Waiting t) =
        sent-replacing s h (blocked_as t c)
        (held-uncounted t.transport c (way_of_try t) (unwrap_or t.channel_due t.due))
    sent-blocked_in c progress.Tried = h
    sent-blocked_in c progress.Gone = h

    pub sent-blocked : (channel : ℕ) → AreSent (blocked channel s)
    sent-blocked channel = by (picked (waits_on channel) s)
      where
        by : (found : Option Candidate) → AreSent (option_map_or (λ c. blocked_in c c.progress s) found s)
        by None = h
        by (Some c) = sent-blocked_in c c.progress

    held-freed : (p : Progress) → Held p → Held (freed_progress p)
    held-freed progress.Queued k = tt
    held-freed (progress.Again way due) k = tt
    held-freed (progress.Blocked way due) k = tt
    held-freed (progress.Waiting t) k = k
    held-freed progress.Tried k = tt
    held-freed progress.Gone k = tt

    pub sent-freed : AreSent (freed s)
    sent-freed = by (picked is_blocked s) refl
      where
        by : (found : Option Candidate) → picked is_blocked s ≡ found
            → AreSent (option_map_or (λ c. replacing (freed_one c) s) found s)
        by None e = h
        by (Some c) e =
            sent-replacing s h (freed_one c)
            (held-freed c.progress (held-found (λ x. is_blocked x.progress) s.candidates c h.waiting e))

    pub sent-unsent : (due : ℕ) → AreSent (unsent due s)
    sent-unsent due = by (chosen s)
      where
        by : (found : Option Candidate)
            → AreSent (option_map_or (λ c. replacing (without_channel due c) s) found s)
        by None = h
        by (Some c) = sent-replacing s h (without_channel due c) tt

    held-counted : (how : Transport) (c : Candidate) (t : Try) → P t
        → HeldBy (record (counted how c) { progress = progress.Waiting t })
    held-counted Udp c t p = p
    held-counted Tcp c t p = p

    pub sent-sent : (made : Made)
        → ((c : Candidate) → chosen s ≡ Some c → P (try_made made c s.settings)) → AreSent (sent made s)
    sent-sent made p = by (chosen s) refl
      where
        by : (found : Option Candidate) → chosen s ≡ found
            → AreSent (option_map_or (λ c. replacing (sent_with made s.settings c) s) found s)
        by None e = h
        by (Some c) e =
            sent-replacing s h (sent_with made s.settings c)
            (held-counted (way_of c).transport c (try_made made c s.settings) (p c e))

    held-requeued : (c : Candidate) → HeldBy c → HeldBy (requeued c)
    held-requeued c k = by (is_tried c.progress)
      where
        by : (rests : Bool) → HeldBy (cond rests (record c { udp_sends = 0; tcp_sends = 0; progress = progress.Queued }) c)
        by true = tt
        by false = k

    all-requeued : (cs : List Candidate) → AllByRecursion HeldBy cs → AllByRecursion HeldBy (map requeued cs)
    all-requeued [] all = tt
    all-requeued (c ∷ cs) all = (held-requeued c all.0, all-requeued cs all.1)

    pub sent-round : (order : List ℕ) → AreSent (with_round order s)
    sent-round order = by (wants_round s)
      where
        by : (wants : Bool) → AreSent (cond wants (record s {
          candidates = map {A = Candidate} requeued s.candidates;
          order = order;
          round = s.round + 1;
        }) s)
        by true = record { waiting = all-requeued s.candidates h.waiting; late = h.late }
        by false = h

    sent-expired_in : (c : Candidate) → HeldBy c → (p : Progress) → AreSent (expired_in c p s)
    sent-expired_in c k progress.Queued = h
    sent-expired_in c k (progress.Again way due) = h
    sent-expired_in c k (progress.Blocked way due) =
        let put = sent-replacing s h (record c { progress = progress.Tried }) tt in
        sent-noting (putting progress.Tried c s) put told.Timeout
    sent-expired_in c k (progress.Waiting t) = sent-acted s h (after_deadline s.settings.tcp_on_error c t) true c k
    sent-expired_in c k progress.Tried = h
    sent-expired_in c k progress.Gone = h

    sent-late_expired : (now : ℕ) → AreSent (late_expired now s)
    sent-late_expired now = by (list_any (has_failed_by now) s.late)
      where
        by : (some : Bool) → AreSent (cond some
            (noting told.Unreachable (record s { late = filter (λ l. not (has_failed_by now l)) s.late })) s)
        by true = record { waiting = h.waiting; late = late-filtered (λ l. not (has_failed_by now l)) s.late h.late }
        by false = h

    pub sent-expired : (now : ℕ) → AreSent (expired now s)
    sent-expired now = by (picked (is_due now) s) refl
      where
        by : (found : Option Candidate) → picked (is_due now) s ≡ found
            → AreSent (option_map_or (λ c. expired_in c c.progress s) found (late_expired now s))
        by None e = sent-late_expired now
        by (Some c) e =
            sent-expired_in c (held-found (λ x. is_due now x.progress) s.candidates c h.waiting e) c.progress

    -- a try that is there
    held-try : (p : Progress) (t : Try) → Held p → try_in p ≡ Some t → P t
    held-try progress.Queued t k e = absurd cc
    held-try (progress.Again way due) t k e = absurd cc
    held-try (progress.Blocked way due) t k e = absurd cc
    held-try (progress.Waiting x) t k e = let same : x ≡ t = cc in subst P same k
    held-try progress.Tried t k e = absurd cc
    held-try progress.Gone t k e = absurd cc

    pub sent-try : (channel id : ℕ) (t : Try) → try_at channel id s ≡ Some t → P t
    sent-try channel id t e = by (picked (waits_as channel id) s) refl e
      where
        late : (found : Option LateTry) → late_at channel id s ≡ found
            → option_map (λ l. l.tried) found ≡ Some t → P t
        late None is g = absurd cc
        late (Some l) is g =
            let same : l.tried ≡ t = cc in
            subst P same (late-found (λ x. is_try channel id x.tried) s.late l h.late is)

        waits : (c : Candidate) → picked (waits_as channel id) s ≡ Some c → (found : Option Try)
            → try_in c.progress ≡ found → option_or found (option_map (λ l. l.tried) (late_at channel id s)) ≡ Some t → P t
        waits c is None has g = late (late_at channel id s) refl g
        waits c is (Some x) has g =
            let same : x ≡ t = cc in
            subst P same
            (held-try c.progress x (held-found (λ y. waits_as channel id y.progress) s.candidates c h.waiting is) has)

        by : (found : Option Candidate) → picked (waits_as channel id) s ≡ found
            → option_or (option_and_then (λ c. try_in c.progress) found) (option_map (λ l. l.tried) (late_at channel id s))
            ≡ Some t → P t
        by None is g = late (late_at channel id s) refl g
        by (Some c) is g = waits c is (try_in c.progress) refl g

  -- ---- a question in flight

  sent-heard_as : (b : Belief) (channel id : ℕ) (t : Try) (octets : List ℕ) (s : FlightState) → AreSent s.transaction
      → AreSent (heard_as b channel id t octets s).transaction
  sent-heard_as belief.Believed channel id t octets s h =
      sent-came s.transaction h channel id (reply.outcome_of s.question t.form octets) s.replies
  sent-heard_as belief.OtherLetters channel id t octets s h = sent-letters s.transaction h channel id
  sent-heard_as belief.OptRefused channel id t octets s h = sent-opt s.transaction h channel id
  sent-heard_as belief.NotBelieved channel id t octets s h = h

  pub sent-heard : (channel id : ℕ) (octets : List ℕ) (s : FlightState) → AreSent s.transaction
      → AreSent (heard channel id octets s).transaction
  sent-heard channel id octets s h = by (try_at channel id s.transaction)
    where
      by : (found : Option Try) → AreSent (option_map_or (heard_by channel id octets s) found s).transaction
      by None = h
      by (Some t) = sent-heard_as (belief_of s.question t.form octets) channel id t octets s h

-- ---- the same of other tries

module _ (P Q : Try → Type 0) (f : (t : Try) → P t → Q t) where
  held-as : (p : Progress) → Held P p → Held Q p
  held-as progress.Queued k = tt
  held-as (progress.Again way due) k = tt
  held-as (progress.Blocked way due) k = tt
  held-as (progress.Waiting t) k = f t k
  held-as progress.Tried k = tt
  held-as progress.Gone k = tt

  all-as : (cs : List Candidate) → AllByRecursion (HeldBy P) cs → AllByRecursion (HeldBy Q) cs
  all-as [] all = tt
  all-as (c ∷ cs) all = (held-as c.progress all.0, all-as cs all.1)

  late-as : (ls : List LateTry) → AllByRecursion (LateBy P) ls → AllByRecursion (LateBy Q) ls
  late-as [] all = tt
  late-as (l ∷ ls) all = (f l.tried all.0, late-as ls all.1)

  pub sent-as : (s : TransactionState) → AreSent P s → AreSent Q s
  sent-as s h = record { waiting = all-as s.candidates h.waiting; late = late-as s.late h.late }

-- ---- before the first

none-waits : (P : Try → Type 0) (n : ℕ) (servers : List ServerState)
    → AllByRecursion (HeldBy P) (map (λ p. candidate_of p.0 p.1) (enumerate_from n servers))
none-waits P n [] = tt
none-waits P n (x ∷ xs) = (by (is_some x.udp_port || is_some x.tcp_port), none-waits P (n + 1) xs)
  where
    by : (can : Bool) → Held P (cond can progress.Tried progress.Gone)
    by true = tt
    by false = tt

pub none-sent : (P : Try → Type 0) (settings : Settings) (servers : List ServerState)
    → AreSent P (begun_with settings servers)
none-sent P settings servers = record { waiting = none-waits P 0 servers; late = tt }

-- ---- the try that is found on a channel with a number has these

pub found-passes : {A : Type 0} (test : A → Bool) (xs : List A) (x : A) → find test xs ≡ Some x → test x ≡ true
found-passes test [] x e = absurd cc
found-passes {A} test (y ∷ ys) x e = by (test y) refl (found-passes test ys x) e
  where
    by : (passes : Bool) → test y ≡ passes → (find test ys ≡ Some x → test x ≡ true)
        → cond passes (Some y) (find test ys) ≡ Some x → test x ≡ true
    by true is more h = let same : y ≡ x = cc in subst (λ (z : A). test z ≡ true) same is
    by false is more h = more h

waits-is : (channel id : ℕ) (p : Progress) (t : Try) → waits_as channel id p ≡ true → try_in p ≡ Some t
    → is_try channel id t ≡ true
waits-is channel id progress.Queued t w e = absurd cc
waits-is channel id (progress.Again way due) t w e = absurd cc
waits-is channel id (progress.Blocked way due) t w e = absurd cc
waits-is channel id (progress.Waiting x) t w e =
    let same : x ≡ t = cc in subst (λ (y : Try). is_try channel id y ≡ true) same w
waits-is channel id progress.Tried t w e = absurd cc
waits-is channel id progress.Gone t w e = absurd cc

pub try-is : (channel id : ℕ) (s : TransactionState) (t : Try) → try_at channel id s ≡ Some t
    → is_try channel id t ≡ true
try-is channel id s t e = by (picked (waits_as channel id) s) refl e
  where
    late : (found : Option LateTry) → late_at channel id s ≡ found → option_map (λ l. l.tried) found ≡ Some t
        → is_try channel id t ≡ true
    late None is g = absurd cc
    late (Some l) is g =
        let same : l.tried ≡ t = cc in
        subst (λ (y : Try). is_try channel id y ≡ true) same
        (found-passes (λ (x : LateTry). is_try channel id x.tried) s.late l is)

    waits : (c : Candidate) → picked (waits_as channel id) s ≡ Some c → (found : Option Try)
        → try_in c.progress ≡ found → option_or found (option_map (λ l. l.tried) (late_at channel id s)) ≡ Some t
        → is_try channel id t ≡ true
    waits c is None has g = late (late_at channel id s) refl g
    waits c is (Some x) has g =
        let same : x ≡ t = cc in
        waits-is channel id c.progress t
        (found-passes (λ (y : Candidate). waits_as channel id y.progress) s.candidates c is)
        (has ∙ ap (λ (y : Try). Some y) same)

    by : (found : Option Candidate) → picked (waits_as channel id) s ≡ found
        → option_or (option_and_then (λ c. try_in c.progress) found) (option_map (λ l. l.tried) (late_at channel id s))
        ≡ Some t → is_try channel id t ≡ true
    by None is g = late (late_at channel id s) refl g
    by (Some c) is g = waits c is (try_in c.progress) refl g
