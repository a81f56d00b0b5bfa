-- What a transaction tells is of replies that came.
use Rattle.std.proofs.Common.{◌≡◌, ℕ, ◌+◌, Bool, true, false, cond, not, ◌&&◌, ltb, List, [], ◌∷◌, ◌++◌, length, map, drop, subst, append_assoc}
use Rattle.std.specs.Prelude.{Option, None, Some, Contains, filter}
use Rattle.std.specs.List.{list_any}
use Rattle.std.specs.Option.{option_map_or}
use Rattle.std.proofs.lemmas.List.Elements.{Contains-append_left, Contains-push}
use Rattle.hickory_resolver_tries.specs.declared.outcome.ReplyOutcome.{ReplyOutcome}
use Rattle.hickory_resolver_tries.specs.declared.outcome.ReplyOutcome.TheVariants as came_as
use Rattle.hickory_resolver_transactions.specs.Candidates.{is_tried, is_waiting, is_blocked, is_try, waits_as, waits_on, is_due, has_failed_by, freed_one, requeued, sent_with, without_channel}
use Rattle.hickory_resolver_transactions.specs.Laws.{TransactionEvent, round_begins, is_sent, has_no_room, reply_came, opt_refused, letters_differ, channel_failed, no_channel, channel_free, oldest_given_up, time_passed, after_event, after_events, reply_in, replies_in, IsOfReplies, IsToldOf, NothingIsMadeUp}
use Rattle.hickory_resolver_transactions.specs.Outcomes.{better, rank_of}
use Rattle.hickory_resolver_transactions.specs.Table.{has_room, may_change_to_tcp, may_begin_tcp, again_if, after_reply, after_refused_opt, after_other_letters, after_deadline, after_closed_stream, stays_believed, then_in, then_of_reply, then_of_refused_opt, then_of_other_letters}
use Rattle.hickory_resolver_transactions.specs.Transaction.{TransactionState, begun_with, replacing, putting, noting, noted_of_closed, without_oldest, late_too, with_late, kept_in, keeping, acted, gone_unless_waiting, acted_late, picked, candidate_at, late_at, late_came_to, late_replied, came_to, without_answered, came, opt_was_refused, other_letters_came, failed_at, failed_in, failed, blocked_in, blocked, freed, expired_in, late_expired, expired, is_idle, may_go_on, wants_round, with_round, chosen, sent, unsent, told}
use Rattle.hickory_resolver_transactions.specs.declared.candidate.Candidate.{Candidate}
use Rattle.hickory_resolver_transactions.specs.declared.candidate.LateTry.{LateTry}
use Rattle.hickory_resolver_transactions.specs.declared.candidate.Made.{Made}
use Rattle.hickory_resolver_transactions.specs.declared.candidate.Progress.{Progress}
use Rattle.hickory_resolver_transactions.specs.declared.candidate.Progress.TheVariants as progress
use Rattle.hickory_resolver_transactions.specs.declared.candidate.Transport.{Transport}
use Rattle.hickory_resolver_transactions.specs.declared.candidate.Transport.TheVariants.{Udp, Tcp}
use Rattle.hickory_resolver_transactions.specs.declared.candidate.Try.{Try}
use Rattle.hickory_resolver_transactions.specs.declared.outcome.Outcome.{Outcome}
use Rattle.hickory_resolver_transactions.specs.declared.outcome.Outcome.TheVariants.{Reply, Cut, Code, Unreachable, Timeout}
use Rattle.hickory_resolver_transactions.specs.declared.table.Then.{Then}
use Rattle.hickory_resolver_transactions.specs.declared.table.Then.TheVariants.{Ends, Leaves, Rests, Again, Nothing}

abbrev EndedOf : List ℕ → Option ℕ → Type 0
EndedOf rs None = Unit {0}
EndedOf rs (Some reply) = Contains rs reply

-- what it holds of replies is of these
abbrev IsSourced : List ℕ → TransactionState → Type 0
IsSourced rs s = EndedOf rs s.ended × IsToldOf rs s.noted

module _ (rs : List ℕ) where
  told-better : (noted : Option Outcome) (new : Outcome) → IsToldOf rs noted → IsOfReplies rs new → IsToldOf rs (better noted new)
  told-better None new h k = k
  told-better (Some old) new h k = by (ltb (rank_of new) (rank_of old))
    where
      by : (first : Bool) → IsToldOf rs (cond first (Some new) (Some old))
      by true = k
      by false = h

  told-closed : (late : List LateTry) (noted : Option Outcome) → IsToldOf rs noted → IsToldOf rs (noted_of_closed late noted)
  told-closed [] noted h = h
  told-closed (l ∷ ls) noted h = by l.has_failed
    where
      by : (b : Bool) → IsToldOf rs (cond b (better noted Unreachable) noted)
      by true = told-better noted Unreachable h tt
      by false = h

  sourced-oldest : (s : TransactionState) → IsSourced rs s → IsSourced rs (without_oldest s)
  sourced-oldest s h = (h.0, told-closed s.late s.noted h.1)

  sourced-late : (s : TransactionState) (l : LateTry) → IsSourced rs s → IsSourced rs (with_late l s)
  sourced-late s l h = by (ltb (length s.late) 2)
    where
      by : (few : Bool) → IsSourced rs (cond few (late_too l s) (late_too l (without_oldest s)))
      by true = h
      by false = sourced-oldest s h

  sourced-kept : (s : TransactionState) (p : Progress) (place : ℕ) → IsSourced rs s → IsSourced rs (kept_in p place s)
  sourced-kept s progress.Queued place h = h
  sourced-kept s (progress.Again way due) place h = h
  sourced-kept s (progress.Blocked way due) place h = h
  sourced-kept s (progress.Waiting t) place h = sourced-late s (record { place = place; tried = t; has_failed = false }) h
  sourced-kept s progress.Tried place h = h
  sourced-kept s progress.Gone place h = h

  sourced-keeping : (s : TransactionState) (keeps : Bool) (c : Candidate) → IsSourced rs s → IsSourced rs (keeping keeps c s)
  sourced-keeping s true c h = sourced-kept s c.progress c.place h
  sourced-keeping s false c h = h

  sourced-noting : (s : TransactionState) (o : Outcome) → IsSourced rs s → IsOfReplies rs o → IsSourced rs (noting o s)
  sourced-noting s o h k = (h.0, told-better s.noted o h.1 k)

  abbrev ThenOf : Then → Type 0
  ThenOf (Ends reply) = Contains rs reply
  ThenOf (Leaves o) = IsOfReplies rs o
  ThenOf (Rests o) = IsOfReplies rs o
  ThenOf other = Unit {0}

  sourced-acted : (s : TransactionState) (t : Then) (keeps : Bool) (c : Candidate) → IsSourced rs s → ThenOf t
      → IsSourced rs (acted t keeps c s)
  sourced-acted s (Ends reply) keeps c h k = (k, h.1)
  sourced-acted s (Leaves o) keeps c h k =
      sourced-noting (putting progress.Gone c (keeping keeps c s)) o (sourced-keeping s keeps c h) k
  sourced-acted s (Rests o) keeps c h k =
      sourced-noting (putting progress.Tried c (keeping keeps c s)) o (sourced-keeping s keeps c h) k
  sourced-acted s (Again way) keeps c h k = sourced-keeping s keeps c h
  sourced-acted s Nothing keeps c h k = h

  sourced-gone : (s : TransactionState) (c : Candidate) → IsSourced rs s → IsSourced rs (gone_unless_waiting c s)
  sourced-gone s c h = by (is_waiting c.progress)
    where
      by : (waits : Bool) → IsSourced rs (cond waits s (putting progress.Gone c s))
      by true = h
      by false = h

  sourced-acted_late : (s : TransactionState) (t : Then) (c : Candidate) → IsSourced rs s → ThenOf t
      → IsSourced rs (acted_late t c s)
  sourced-acted_late s (Ends reply) c h k = (k, h.1)
  sourced-acted_late s (Leaves o) c h k = sourced-noting (gone_unless_waiting c s) o (sourced-gone s c h) k
  sourced-acted_late s (Rests o) c h k = h
  sourced-acted_late s (Again way) c h k = by (is_tried c.progress)
    where
      by : (rests : Bool) → IsSourced rs (cond rests (putting (progress.Again way None) c s) s)
      by true = h
      by false = h
  sourced-acted_late s Nothing c h k = h

  -- ---- the rows of the table

  then-again : (may : Bool) (how : Transport) (opt : Bool) (otherwise : Then) → ThenOf otherwise → ThenOf (again_if may how opt otherwise)
  then-again true how opt otherwise k = tt
  then-again false how opt otherwise k = k

  then-reply : (c : Candidate) (t : Try) (outcome : ReplyOutcome) (reply : ℕ) → Contains rs reply
      → ThenOf (after_reply c t outcome reply)
  then-reply c t came_as.Truncated reply k = then-again (may_change_to_tcp c t) Tcp t.form.with_opt (Leaves (Cut reply)) k
  then-reply c t came_as.BadRest reply k = k
  then-reply c t came_as.WithoutOpt reply k = then-again (has_room t.transport c) t.transport false (Leaves (Code reply)) k
  then-reply c t (came_as.Code code) reply k = k
  then-reply c t came_as.Lame reply k = k
  then-reply c t came_as.Answer reply k = k
  then-reply c t came_as.Negative reply k = by c.is_trusted
    where
      by : (trusted : Bool) → ThenOf (cond trusted (Ends reply) (Leaves (Reply reply)))
      by true = k
      by false = k

  then-waiting : (after : Try → Then) (p : Progress) → ((t : Try) → ThenOf (after t)) → ThenOf (then_in after p)
  then-waiting after progress.Queued k = tt
  then-waiting after (progress.Again way due) k = tt
  then-waiting after (progress.Blocked way due) k = tt
  then-waiting after (progress.Waiting t) k = k t
  then-waiting after progress.Tried k = tt
  then-waiting after progress.Gone k = tt

  -- ---- events

  module _ (s : TransactionState) (h : IsSourced rs s) where
    sourced-late_replied : (outcome : ReplyOutcome) (reply : ℕ) (l : LateTry) → Contains rs reply
        → IsSourced rs (late_replied outcome reply l s)
    sourced-late_replied outcome reply l k = by (candidate_at l.place s)
      where
        by : (found : Option Candidate)
            → IsSourced rs (option_map_or (λ c. late_came_to c l.tried outcome reply s) found s)
        by None = h
        by (Some c) = sourced-acted_late s (after_reply c l.tried outcome reply) c h (then-reply c l.tried outcome reply k)

    sourced-answered : (outcome : ReplyOutcome) (channel id : ℕ) → IsSourced rs (without_answered outcome channel id s)
    sourced-answered outcome channel id = by (stays_believed outcome)
      where
        by : (stays : Bool)
            → IsSourced rs (cond stays s (record s { late = filter (λ l. not (is_try channel id l.tried)) s.late }))
        by true = h
        by false = h

  module _ (s : TransactionState) (h : IsSourced rs s) where
    sourced-came : (channel id : ℕ) (outcome : ReplyOutcome) (reply : ℕ) → Contains rs reply
        → IsSourced rs (came channel id outcome reply s)
    sourced-came channel id outcome reply k = by (picked (waits_as channel id) s)
      where
        after : TransactionState
        after = without_answered outcome channel id s

        late : (found : Option LateTry) → IsSourced rs (option_map_or (λ l. late_replied outcome reply l after) found s)
        late None = h
        late (Some l) = sourced-late_replied after (sourced-answered s h outcome channel id) outcome reply l k

        by : (found : Option Candidate) → IsSourced rs (option_map_or (λ c. came_to c outcome reply s) found
            (option_map_or (λ l. late_replied outcome reply l after) (late_at channel id s) s))
        by None = late (late_at channel id s)
        by (Some c) =
            sourced-acted s (then_of_reply c outcome reply) (stays_believed outcome) c h
            (then-waiting (λ t. after_reply c t outcome reply) c.progress (λ t. then-reply c t outcome reply k))

    sourced-opt : (channel id : ℕ) → IsSourced rs (opt_was_refused channel id s)
    sourced-opt channel id = by (picked (waits_as channel id) s)
      where
        by : (found : Option Candidate) → IsSourced rs (option_map_or (λ c. acted (then_of_refused_opt c) false c s) found s)
        by None = h
        by (Some c) =
            sourced-acted s (then_of_refused_opt c) false c h
            (then-waiting (after_refused_opt c) c.progress (λ t. then-again (has_room t.transport c) t.transport false Nothing tt))

    sourced-letters : (channel id : ℕ) → IsSourced rs (other_letters_came channel id s)
    sourced-letters channel id = by (picked (waits_as channel id) s)
      where
        by : (found : Option Candidate) → IsSourced rs (option_map_or (λ c. acted (then_of_other_letters c) true c s) found s)
        by None = h
        by (Some c) =
            sourced-acted s (then_of_other_letters c) true c h
            (then-waiting (after_other_letters c) c.progress (λ t. then-again (may_begin_tcp c t) Tcp t.form.with_opt Nothing tt))

    sourced-failed_at : (c : Candidate) (how : Transport) (t : Try) → IsSourced rs (failed_at c c.progress how t s)
    sourced-failed_at c Udp t = sourced-late s (record { place = c.place; tried = t; has_failed = true }) h
    sourced-failed_at c Tcp t =
        sourced-acted s (after_closed_stream c t) false c h (then-again (has_room Tcp c) Tcp t.form.with_opt (Rests Unreachable) tt)

    sourced-failed_in : (c : Candidate) (p : Progress) → IsSourced rs (failed_in c p s)
    sourced-failed_in c progress.Queued = h
    sourced-failed_in c (progress.Again way due) = h
    sourced-failed_in c (progress.Blocked way due) = h
    sourced-failed_in c (progress.Waiting t) = sourced-failed_at c t.transport t
    sourced-failed_in c progress.Tried = h
    sourced-failed_in c progress.Gone = h

    sourced-failed : (channel : ℕ) → IsSourced rs (failed channel s)
    sourced-failed channel = by (picked (waits_on channel) s)
      where
        by : (found : Option Candidate) → IsSourced rs (option_map_or (λ c. failed_in c c.progress s) found s)
        by None = h
        by (Some c) = sourced-failed_in c c.progress

    sourced-blocked_in : (c : Candidate) (p : Progress) → IsSourced rs (blocked_in c p s)
    sourced-blocked_in c progress.Queued = h
    sourced-blocked_in c (progress.Again way due) = h
    sourced-blocked_in c (progress.Blocked way due) = h
    sourced-blocked_in c (progress.Waiting t) = h
    sourced-blocked_in c progress.Tried = h
    sourced-blocked_in c progress.Gone = h

    sourced-blocked : (channel : ℕ) → IsSourced rs (blocked channel s)
    sourced-blocked channel = by (picked (waits_on channel) s)
      where
        by : (found : Option Candidate) → IsSourced rs (option_map_or (λ c. blocked_in c c.progress s) found s)
        by None = h
        by (Some c) = sourced-blocked_in c c.progress

    sourced-freed : IsSourced rs (freed s)
    sourced-freed = by (picked is_blocked s)
      where
        by : (found : Option Candidate) → IsSourced rs (option_map_or (λ c. replacing (freed_one c) s) found s)
        by None = h
        by (Some c) = h

    sourced-round : (order : List ℕ) → IsSourced rs (with_round order s)
    sourced-round order = by (wants_round s)
      where
        by : (wants : Bool) → IsSourced rs (cond wants (record s {
          candidates = map {A = Candidate} requeued s.candidates;
          order = order;
          round = s.round + 1;
        }) s)
        by true = h
        by false = h

    sourced-sent : (made : Made) → IsSourced rs (sent made s)
    sourced-sent made = by (chosen s)
      where
        by : (found : Option Candidate)
            → IsSourced rs (option_map_or (λ c. replacing (sent_with made s.settings c) s) found s)
        by None = h
        by (Some c) = h

    sourced-unsent : (due : ℕ) → IsSourced rs (unsent due s)
    sourced-unsent due = by (chosen s)
      where
        by : (found : Option Candidate)
            → IsSourced rs (option_map_or (λ c. replacing (without_channel due c) s) found s)
        by None = h
        by (Some c) = h

    sourced-expired_in : (c : Candidate) (p : Progress) → IsSourced rs (expired_in c p s)
    sourced-expired_in c progress.Queued = h
    sourced-expired_in c (progress.Again way due) = h
    sourced-expired_in c (progress.Blocked way due) = sourced-noting (putting progress.Tried c s) Timeout h tt
    sourced-expired_in c (progress.Waiting t) =
        sourced-acted s (after_deadline s.settings.tcp_on_error c t) true c h
        (then-again (s.settings.tcp_on_error && may_begin_tcp c t) Tcp t.form.with_opt (Rests Timeout) tt)
    sourced-expired_in c progress.Tried = h
    sourced-expired_in c progress.Gone = h

    sourced-late_expired : (now : ℕ) → IsSourced rs (late_expired now s)
    sourced-late_expired now = by (list_any (has_failed_by now) s.late)
      where
        by : (some : Bool) → IsSourced rs (cond some
            (noting Unreachable (record s { late = filter (λ l. not (has_failed_by now l)) s.late })) s)
        by true = (h.0, told-better s.noted Unreachable h.1 tt)
        by false = h

    sourced-expired : (now : ℕ) → IsSourced rs (expired now s)
    sourced-expired now = by (picked (is_due now) s)
      where
        by : (found : Option Candidate)
            → IsSourced rs (option_map_or (λ c. expired_in c c.progress s) found (late_expired now s))
        by None = sourced-late_expired now
        by (Some c) = sourced-expired_in c c.progress

-- ---- with more replies

ended-more : (rs more : List ℕ) (ended : Option ℕ) → EndedOf rs ended → EndedOf (rs ++ more) ended
ended-more rs more None h = tt
ended-more rs more (Some reply) h = Contains-append_left rs more reply h

told-more : (rs more : List ℕ) (noted : Option Outcome) → IsToldOf rs noted → IsToldOf (rs ++ more) noted
told-more rs more None h = tt
told-more rs more (Some (Reply reply)) h = Contains-append_left rs more reply h
told-more rs more (Some (Cut reply)) h = Contains-append_left rs more reply h
told-more rs more (Some (Code reply)) h = Contains-append_left rs more reply h
told-more rs more (Some Unreachable) h = tt
told-more rs more (Some Timeout) h = tt

sourced-more : (rs more : List ℕ) (s : TransactionState) → IsSourced rs s → IsSourced (rs ++ more) s
sourced-more rs more s h = (ended-more rs more s.ended h.0, told-more rs more s.noted h.1)

sourced-event : (rs : List ℕ) (s : TransactionState) (event : TransactionEvent) → IsSourced rs s
    → IsSourced (rs ++ reply_in event) (after_event s event)
sourced-event rs s (round_begins order) h = sourced-round (rs ++ []) s (sourced-more rs [] s h) order
sourced-event rs s (is_sent made) h = sourced-sent (rs ++ []) s (sourced-more rs [] s h) made
sourced-event rs s (has_no_room due) h = sourced-unsent (rs ++ []) s (sourced-more rs [] s h) due
sourced-event rs s (reply_came channel id outcome reply) h =
    sourced-came (rs ++ reply ∷ []) s (sourced-more rs (reply ∷ []) s h) channel id outcome reply (Contains-push rs reply)
sourced-event rs s (opt_refused channel id) h = sourced-opt (rs ++ []) s (sourced-more rs [] s h) channel id
sourced-event rs s (letters_differ channel id) h = sourced-letters (rs ++ []) s (sourced-more rs [] s h) channel id
sourced-event rs s (channel_failed channel) h = sourced-failed (rs ++ []) s (sourced-more rs [] s h) channel
sourced-event rs s (no_channel channel) h = sourced-blocked (rs ++ []) s (sourced-more rs [] s h) channel
sourced-event rs s channel_free h = sourced-freed (rs ++ []) s (sourced-more rs [] s h)
sourced-event rs s oldest_given_up h = sourced-oldest (rs ++ []) s (sourced-more rs [] s h)
sourced-event rs s (time_passed now) h = sourced-expired (rs ++ []) s (sourced-more rs [] s h) now

sourced-events : (rs : List ℕ) (s : TransactionState) (events : List TransactionEvent) → IsSourced rs s
    → IsSourced (rs ++ replies_in events) (after_events s events)
sourced-events rs s [] h = sourced-more rs [] s h
sourced-events rs s (event ∷ events) h =
    let after = sourced-events (rs ++ reply_in event) (after_event s event) events (sourced-event rs s event h) in
    subst (λ (l : List ℕ). IsSourced l (after_events (after_event s event) events)) (append_assoc rs (reply_in event) (replies_in events))
    after

told-of : (rs : List ℕ) (ended : Option ℕ) (over : Bool) (noted : Option Outcome) → EndedOf rs ended → IsToldOf rs noted
    → IsToldOf rs (told ended over noted)
told-of rs (Some reply) over noted e n = e
told-of rs None false noted e n = tt
told-of rs None true None e n = tt
told-of rs None true (Some o) e n = n

pub nothing_is_made_up : NothingIsMadeUp
nothing_is_made_up settings servers events =
    let end = after_events (begun_with settings servers) events in
    let all = sourced-events [] (begun_with settings servers) events (tt, tt) in
    told-of (replies_in events) end.ended (is_idle end && not (may_go_on end)) end.noted all.0 all.1
