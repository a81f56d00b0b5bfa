-- Each server of a transaction is asked by what it has a port for.
use Rattle.std.proofs.Common.{◌≡◌, ◌+◌, ℕ, Bool, true, false, cond, not, ◌&&◌, ◌||◌, eqb, eqb-true, ltb, List, [], ◌∷◌, ◌++◌, length, map, drop, zero, suc, refl, ap, sym, subst, ◌∙◌, true≢false, arith, inl, inr, ◌⊎◌}
use Rattle.std.specs.Prelude.{Option, None, Some, find, filter, slice_get, unwrap_or}
use Rattle.std.specs.List.{AllByRecursion, list_any, enumerate_from}
use Rattle.std.specs.Option.{is_some, option_map, option_map_or, option_or, option_and_then}
use Rattle.hickory_resolver_channels.specs.declared.channel.ChannelKind.{ChannelKind}
use Rattle.hickory_resolver_channels.specs.declared.channel.ChannelKind.TheVariants.{Datagram, Stream}
use Rattle.hickory_resolver_servers.specs.Server.{ServerState}
use Rattle.hickory_resolver_steps.specs.Steps.{kind_of}
use Rattle.hickory_resolver_tries.specs.declared.outcome.ReplyOutcome.{ReplyOutcome}
use Rattle.hickory_resolver_tries.specs.declared.outcome.ReplyOutcome.TheVariants as came_as
use Rattle.hickory_resolver_transactions.specs.Candidates.{candidate_of, is_again, is_queued, is_tried, is_waiting, is_blocked, is_udp, is_try, waits_as, waits_on, is_due, first_way, way_in, way_of, way_of_try, try_made, uncounted, counted, sent_with, without_channel, blocked_as, requeued, freed_one, freed_progress, channel_due_of, has_failed_by}
use Rattle.hickory_resolver_transactions.specs.Laws.{TransactionEvent, round_begins, is_sent, has_no_room, reply_came, opt_refused, letters_differ, channel_failed, no_channel, channel_free, oldest_given_up, time_passed, after_event}
use Rattle.hickory_resolver_transactions.specs.Table.{has_room, may_change_to_tcp, may_begin_tcp, again_if, after_reply, after_refused_opt, after_other_letters, after_deadline, after_closed_stream, then_in, then_of_reply, then_of_refused_opt, then_of_other_letters, stays_believed}
use Rattle.hickory_resolver_transactions.specs.Transaction.{TransactionState, begun_with, replaced, replacing, putting, noting, without_oldest, late_too, with_late, kept_in, keeping, acted, acted_late, picked, candidate_at, late_at, late_came_to, late_replied, came_to, without_answered, came, opt_was_refused, other_letters_came, failed_at, failed_in, failed, blocked_in, blocked, freed, expired_in, late_expired, expired, wants_round, with_round, is_queued_at, first_queued, may_send, next_of, chosen, wanted, sent, unsent}
use Rattle.hickory_resolver_transactions.specs.declared.candidate.Candidate.{Candidate}
use Rattle.hickory_resolver_transactions.specs.declared.candidate.LateTry.{LateTry}
use Rattle.hickory_resolver_transactions.specs.declared.candidate.Made.{Made}
use Rattle.hickory_resolver_transactions.specs.declared.candidate.Progress.{Progress}
use Rattle.hickory_resolver_transactions.specs.declared.candidate.Progress.TheVariants as progress
use Rattle.hickory_resolver_transactions.specs.declared.candidate.Transport.{Transport}
use Rattle.hickory_resolver_transactions.specs.declared.candidate.Transport.TheVariants.{Udp, Tcp}
use Rattle.hickory_resolver_transactions.specs.declared.candidate.Try.{Try}
use Rattle.hickory_resolver_transactions.specs.declared.outcome.Outcome.TheVariants as told
use Rattle.hickory_resolver_transactions.specs.declared.settings.Settings.{Settings}
use Rattle.hickory_resolver_transactions.specs.declared.table.Then.{Then}
use Rattle.hickory_resolver_transactions.specs.declared.table.Then.TheVariants.{Ends, Leaves, Rests, Again, Nothing}
use Rattle.hickory_resolver_transactions.specs.declared.transaction.Wanted.{Wanted}
use Rattle.hickory_resolver_pool_theorems.proofs.Tries.{found-passes}

and-left : (a b : Bool) → (a && b) ≡ true → a ≡ true
and-left true b h = refl
and-left false b h = absurd (true≢false (sym h))

and-right : (a b : Bool) → (a && b) ≡ true → b ≡ true
and-right true b h = h
and-right false b h = absurd (true≢false (sym h))

-- by what it goes over a channel
abbrev pub by_kind : ChannelKind → Transport
by_kind Datagram = Udp
by_kind Stream = Tcp

kind-by : (p : Transport) → by_kind (kind_of p) ≡ p
kind-by Udp = refl
kind-by Tcp = refl

-- whether the server at a place has a port for it
module _ (has : ℕ → Transport → Bool) where
  abbrev pub HasSome : ℕ → Type 0
  HasSome place = (has place Udp || has place Tcp) ≡ true

  abbrev pub Fit : ℕ → Progress → Type 0
  Fit place progress.Queued = HasSome place
  Fit place (progress.Again way due) = has place way.transport ≡ true
  Fit place (progress.Blocked way due) = has place way.transport ≡ true
  Fit place (progress.Waiting t) = has place t.transport ≡ true
  Fit place progress.Tried = HasSome place
  Fit place progress.Gone = Unit {0}

  pub record IsFor (c : Candidate) : Type 0 where
    pub udp : c.has_udp ≡ has c.place Udp
    pub tcp : c.has_tcp ≡ has c.place Tcp
    pub fit : Fit c.place c.progress

  abbrev pub LateFor : LateTry → Type 0
  LateFor l = has l.place l.tried.transport ≡ true

  pub record AreFor (s : TransactionState) : Type 0 where
    pub each : AllByRecursion IsFor s.candidates
    pub late : AllByRecursion LateFor s.late

  some-of : (place : ℕ) (p : Transport) → has place p ≡ true → HasSome place
  some-of place Udp h = ap (λ (b : Bool). b || has place Tcp) h
  some-of place Tcp h = by (has place Udp) h
    where
      by : (b : Bool) → has place Tcp ≡ true → (b || has place Tcp) ≡ true
      by true h = refl
      by false h = h

  for-progress : (c : Candidate) → IsFor c → (p : Progress) → Fit c.place p → IsFor (record c { progress = p })
  for-progress c k p fit = record { udp = k.udp; tcp = k.tcp; fit = fit }

  -- ---- lists

  for-replaced : (new : Candidate) (cs : List Candidate) → IsFor new → AllByRecursion IsFor cs
      → AllByRecursion IsFor (replaced new cs)
  for-replaced new [] h all = tt
  for-replaced new (c ∷ cs) h all = by (eqb c.place new.place) (for-replaced new cs h all.1)
    where
      by : (same : Bool) → AllByRecursion IsFor (replaced new cs)
          → AllByRecursion IsFor (cond same (new ∷ cs) (c ∷ replaced new cs))
      by true more = (h, all.1)
      by false more = (all.0, more)

  for-found : (test : Candidate → Bool) (cs : List Candidate) (c : Candidate) → AllByRecursion IsFor cs
      → find test cs ≡ Some c → IsFor c
  for-found test [] c all e = absurd cc
  for-found test (x ∷ xs) c all e = by (test x) (λ h. for-found test xs c all.1 h) e
    where
      by : (passes : Bool) → (find test xs ≡ Some c → IsFor c) → cond passes (Some x) (find test xs) ≡ Some c → IsFor c
      by true more h = let same : x ≡ c = cc in subst IsFor same all.0
      by false more h = more h

  for-got : (cs : List Candidate) (i : ℕ) (c : Candidate) → AllByRecursion IsFor cs → slice_get cs i ≡ Some c → IsFor c
  for-got [] i c all e = absurd cc
  for-got (x ∷ xs) zero c all e = let same : x ≡ c = cc in subst IsFor same all.0
  for-got (x ∷ xs) (suc i) c all e = for-got xs i c all.1 e

  late-found : (test : LateTry → Bool) (ls : List LateTry) (l : LateTry) → AllByRecursion LateFor ls
      → find test ls ≡ Some l → LateFor l
  late-found test [] l all e = absurd cc
  late-found test (x ∷ xs) l all e = by (test x) (λ h. late-found test xs l all.1 h) e
    where
      by : (passes : Bool) → (find test xs ≡ Some l → LateFor l) → cond passes (Some x) (find test xs) ≡ Some l → LateFor l
      by true more h = let same : x ≡ l = cc in subst LateFor same all.0
      by false more h = more h

  late-pushed : (l : LateTry) (ls : List LateTry) → LateFor l → AllByRecursion LateFor ls → AllByRecursion LateFor (ls ++ l ∷ [])
  late-pushed l [] h all = (h, tt)
  late-pushed l (x ∷ xs) h all = (all.0, late-pushed l xs h all.1)

  late-dropped : (ls : List LateTry) → AllByRecursion LateFor ls → AllByRecursion LateFor (drop 1 ls)
  late-dropped [] all = tt
  late-dropped (x ∷ xs) all = all.1

  late-filtered : (test : LateTry → Bool) (ls : List LateTry) → AllByRecursion LateFor ls → AllByRecursion LateFor (filter test ls)
  late-filtered test [] all = tt
  late-filtered test (x ∷ xs) all = by (test x) (late-filtered test xs all.1)
    where
      by : (passes : Bool) → AllByRecursion LateFor (filter test xs)
          → AllByRecursion LateFor (cond passes (x ∷ filter test xs) (filter test xs))
      by true more = (all.0, more)
      by false more = more

  -- ---- the parts of what an event does

  module _ (s : TransactionState) (h : AreFor s) where
    for-replacing : (new : Candidate) → IsFor new → AreFor (replacing new s)
    for-replacing new k = record { each = for-replaced new s.candidates k h.each; late = h.late }

    for-late : (l : LateTry) → LateFor l → AreFor (with_late l s)
    for-late l k = by (ltb (length s.late) 2)
      where
        by : (few : Bool) → AreFor (cond few (late_too l s) (late_too l (without_oldest s)))
        by true = record { each = h.each; late = late-pushed l s.late k h.late }
        by false = record { each = h.each; late = late-pushed l (drop 1 s.late) k (late-dropped s.late h.late) }

    for-kept : (p : Progress) (place : ℕ) → Fit place p → AreFor (kept_in p place s)
    for-kept progress.Queued place k = h
    for-kept (progress.Again way due) place k = h
    for-kept (progress.Blocked way due) place k = h
    for-kept (progress.Waiting t) place k = for-late (record { place = place; tried = t; has_failed = false }) k
    for-kept progress.Tried place k = h
    for-kept progress.Gone place k = h

    for-keeping : (keeps : Bool) (c : Candidate) → IsFor c → AreFor (keeping keeps c s)
    for-keeping true c k = for-kept c.progress c.place k.fit
    for-keeping false c k = h

  -- what is done then has a port
  abbrev ThenFits : ℕ → Then → Type 0
  ThenFits place (Again way) = has place way.transport ≡ true
  ThenFits place (Rests outcome) = HasSome place
  ThenFits place other = Unit {0}

  for-acted : (s : TransactionState) → AreFor s → (t : Then) (keeps : Bool) (c : Candidate) → IsFor c → ThenFits c.place t
      → AreFor (acted t keeps c s)
  for-acted s h (Ends reply) keeps c k fits = record { each = h.each; late = h.late }
  for-acted s h (Leaves o) keeps c k fits =
      let put = for-replacing (keeping keeps c s) (for-keeping s h keeps c k) (record c { progress = progress.Gone })
      (for-progress c k progress.Gone tt) in
      record { each = put.each; late = put.late }
  for-acted s h (Rests o) keeps c k fits =
      let put = for-replacing (keeping keeps c s) (for-keeping s h keeps c k) (record c { progress = progress.Tried })
      (for-progress c k progress.Tried fits) in
      record { each = put.each; late = put.late }
  for-acted s h (Again way) keeps c k fits =
      for-replacing (keeping keeps c s) (for-keeping s h keeps c k) (record c { progress = progress.Again way None })
      (for-progress c k (progress.Again way None) fits)
  for-acted s h Nothing keeps c k fits = h

  for-acted_late : (s : TransactionState) → AreFor s → (t : Then) (c : Candidate) → IsFor c → ThenFits c.place t
      → AreFor (acted_late t c s)
  for-acted_late s h (Ends reply) c k fits = record { each = h.each; late = h.late }
  for-acted_late s h (Leaves o) c k fits = by (is_waiting c.progress)
    where
      by : (waits : Bool) → AreFor (noting o (cond waits s (putting progress.Gone c s)))
      by true = record { each = h.each; late = h.late }
      by false =
          let put = for-replacing s h (record c { progress = progress.Gone }) (for-progress c k progress.Gone tt) in
          record { each = put.each; late = put.late }
  for-acted_late s h (Rests o) c k fits = h
  for-acted_late s h (Again way) c k fits = by (is_tried c.progress)
    where
      by : (rests : Bool) → AreFor (cond rests (putting (progress.Again way None) c s) s)
      by true =
          for-replacing s h (record c { progress = progress.Again way None }) (for-progress c k (progress.Again way None) fits)
      by false = h
  for-acted_late s h Nothing c k fits = h

  -- ---- what is done then

  again-fits : (place : ℕ) (may : Bool) (p : Transport) (with_opt : Bool) (otherwise : Then) → (may ≡ true → has place p ≡ true)
      → ThenFits place otherwise → ThenFits place (again_if may p with_opt otherwise)
  again-fits place true p with_opt otherwise one two = one refl
  again-fits place false p with_opt otherwise one two = two

  module _ (c : Candidate) (k : IsFor c) (t : Try) where
    change-fits : may_change_to_tcp c t ≡ true → has c.place Tcp ≡ true
    change-fits h =
        sym k.tcp ∙ and-right (is_udp t.transport) c.has_tcp (and-left (is_udp t.transport && c.has_tcp) (has_room Tcp c) h)

    begin-fits : may_begin_tcp c t ≡ true → has c.place Tcp ≡ true
    begin-fits h =
        sym k.tcp ∙ and-right (is_udp t.transport) c.has_tcp (and-left (is_udp t.transport && c.has_tcp) (eqb c.tcp_sends 0) h)

    module _ (own : has c.place t.transport ≡ true) where
      reply-fits : (outcome : ReplyOutcome) (reply : ℕ) → ThenFits c.place (after_reply c t outcome reply)
      reply-fits came_as.Answer reply = tt
      reply-fits came_as.Negative reply = by c.is_trusted
        where
          by : (b : Bool) → ThenFits c.place (cond b (Ends reply) (Leaves (told.Reply reply)))
          by true = tt
          by false = tt
      reply-fits came_as.Truncated reply =
          again-fits c.place (may_change_to_tcp c t) Tcp t.form.with_opt (Leaves (told.Cut reply)) change-fits tt
      reply-fits came_as.WithoutOpt reply =
          again-fits c.place (has_room t.transport c) t.transport false (Leaves (told.Code reply)) (λ h. own) tt
      reply-fits came_as.BadRest reply = tt
      reply-fits (came_as.Code code) reply = tt
      reply-fits came_as.Lame reply = tt

      opt-fits : ThenFits c.place (after_refused_opt c t)
      opt-fits = again-fits c.place (has_room t.transport c) t.transport false Nothing (λ h. own) tt

      letters-fit : ThenFits c.place (after_other_letters c t)
      letters-fit = again-fits c.place (may_begin_tcp c t) Tcp t.form.with_opt Nothing begin-fits tt

      deadline-fits : (on_error : Bool) → ThenFits c.place (after_deadline on_error c t)
      deadline-fits on_error =
          again-fits c.place (on_error && may_begin_tcp c t) Tcp t.form.with_opt (Rests told.Timeout)
          (λ h. begin-fits (and-right on_error (may_begin_tcp c t) h)) (some-of c.place t.transport own)

      closed-fits : t.transport ≡ Tcp → ThenFits c.place (after_closed_stream c t)
      closed-fits is =
          again-fits c.place (has_room Tcp c) Tcp t.form.with_opt (Rests told.Unreachable)
          (λ h. ap (λ (p : Transport). has c.place p) (sym is) ∙ own) (some-of c.place t.transport own)

  then-fits : (c : Candidate) (after : Try → Then) → ((t : Try) → has c.place t.transport ≡ true → ThenFits c.place (after t))
      → (p : Progress) → Fit c.place p → ThenFits c.place (then_in after p)
  then-fits c after fits progress.Queued k = tt
  then-fits c after fits (progress.Again way due) k = tt
  then-fits c after fits (progress.Blocked way due) k = tt
  then-fits c after fits (progress.Waiting t) k = fits t k
  then-fits c after fits progress.Tried k = tt
  then-fits c after fits progress.Gone k = tt

  -- ---- what is sent next has a port

  abbrev pub CanGo : Candidate → Type 0
  CanGo c = (is_again c.progress ≡ true) ⊎ (is_queued c.progress ≡ true)

  way-fits : (c : Candidate) → IsFor c → CanGo c → has c.place (way_of c).transport ≡ true
  way-fits c k can = by c.progress refl k.fit can
    where
      first : HasSome c.place → has c.place (cond c.has_udp Udp Tcp) ≡ true
      first some = own c.has_udp refl
        where
          other : (b : Bool) → has c.place Udp ≡ b → b ≡ false → has c.place Tcp ≡ true
          other true is no_udp = absurd (true≢false no_udp)
          other false is no_udp = sym (ap (λ (b : Bool). b || has c.place Tcp) is) ∙ some

          own : (b : Bool) → c.has_udp ≡ b → has c.place (cond b Udp Tcp) ≡ true
          own true is = sym k.udp ∙ is
          own false is = other (has c.place Udp) refl (sym k.udp ∙ is)

      by : (p : Progress) → c.progress ≡ p → Fit c.place c.progress → CanGo c → has c.place (way_of c).transport ≡ true
      by progress.Queued is fit can =
          ap (λ (q : Progress). has c.place (way_in q (first_way c)).transport) is
          ∙ first (subst (λ (q : Progress). Fit c.place q) is fit)
      by (progress.Again way due) is fit can =
          ap (λ (q : Progress). has c.place (way_in q (first_way c)).transport) is
          ∙ subst (λ (q : Progress). Fit c.place q) is fit
      by (progress.Blocked way due) is fit (inl h) = absurd (true≢false (sym h ∙ ap is_again is))
      by (progress.Blocked way due) is fit (inr h) = absurd (true≢false (sym h ∙ ap is_queued is))
      by (progress.Waiting t) is fit (inl h) = absurd (true≢false (sym h ∙ ap is_again is))
      by (progress.Waiting t) is fit (inr h) = absurd (true≢false (sym h ∙ ap is_queued is))
      by progress.Tried is fit (inl h) = absurd (true≢false (sym h ∙ ap is_again is))
      by progress.Tried is fit (inr h) = absurd (true≢false (sym h ∙ ap is_queued is))
      by progress.Gone is fit (inl h) = absurd (true≢false (sym h ∙ ap is_again is))
      by progress.Gone is fit (inr h) = absurd (true≢false (sym h ∙ ap is_queued is))

  module _ (s : TransactionState) (h : AreFor s) where
    pub record IsChosen (c : Candidate) : Type 0 where
      pub is_for : IsFor c
      pub can : CanGo c

    picks-queued : (c : Candidate) → picked is_queued s ≡ Some c → IsChosen c
    picks-queued c e = record {
      is_for = for-found (λ x. is_queued x.progress) s.candidates c h.each e;
      can = inr (found-passes (λ (x : Candidate). is_queued x.progress) s.candidates c e);
    }

    first-chosen : (c : Candidate) → first_queued s ≡ Some c → IsChosen c
    first-chosen c e = by (find (is_queued_at s.candidates) s.order) refl e
      where
        at-place : (place : ℕ) → find (is_queued_at s.candidates) s.order ≡ Some place → (o : Option Candidate)
            → slice_get s.candidates place ≡ o → option_or o (picked is_queued s) ≡ Some c → IsChosen c
        at-place place found None at g = picks-queued c g
        at-place place found (Some d) at g =
            let same : d ≡ c = cc in
            let test = found-passes (is_queued_at s.candidates) s.order place found in
            let queued : is_queued d.progress ≡ true =
            sym (ap (λ (o : Option Candidate). option_map_or (λ x. is_queued x.progress) o false) at) ∙ test in
            subst IsChosen same (record { is_for = for-got s.candidates place d h.each at; can = inr queued })

        by : (o : Option ℕ) → find (is_queued_at s.candidates) s.order ≡ o
            → option_or (option_and_then (slice_get s.candidates) o) (picked is_queued s) ≡ Some c → IsChosen c
        by None found g = picks-queued c g
        by (Some place) found g = at-place place found (slice_get s.candidates place) refl g

    pub chosen-is : (c : Candidate) → chosen s ≡ Some c → IsChosen c
    chosen-is c e = by (may_send s) e
      where
        again : (o : Option Candidate) → picked is_again s ≡ o → option_or o (first_queued s) ≡ Some c → IsChosen c
        again None at g = first-chosen c g
        again (Some d) at g =
            let same : d ≡ c = cc in
            subst IsChosen same (record {
              is_for = for-found (λ x. is_again x.progress) s.candidates d h.each at;
              can = inl (found-passes (λ (x : Candidate). is_again x.progress) s.candidates d at);
            })

        by : (b : Bool) → cond b (next_of s) None ≡ Some c → IsChosen c
        by true g = again (picked is_again s) refl g
        by false g = absurd cc

    pub chosen-fits : (c : Candidate) → chosen s ≡ Some c → has c.place (way_of c).transport ≡ true
    chosen-fits c e = let is = chosen-is c e in way-fits c is.is_for is.can

    -- what is wanted goes to such a server
    pub wanted-fits : (w : Wanted) → wanted s ≡ Some w → has w.place (by_kind (kind_of w.way.transport)) ≡ true
    wanted-fits w e = by (chosen s) refl e
      where
        by : (o : Option Candidate) → chosen s ≡ o
            → option_map {U = Wanted} (λ c. record { place = c.place; way = way_of c }) o ≡ Some w
            → has w.place (by_kind (kind_of w.way.transport)) ≡ true
        by None at g = absurd cc
        by (Some c) at g =
            let own : Wanted = record { place = c.place; way = way_of c } in
            let same : own ≡ w = cc in
            subst (λ (v : Wanted). has v.place (by_kind (kind_of v.way.transport)) ≡ true) same
            (ap (λ (p : Transport). has c.place p) (kind-by (way_of c).transport) ∙ chosen-fits c at)

    -- ---- events

    for-came : (channel id : ℕ) (outcome : ReplyOutcome) (reply : ℕ) → AreFor (came channel id outcome reply s)
    for-came channel id outcome reply = by (picked (waits_as channel id) s) refl
      where
        after : TransactionState
        after = without_answered outcome channel id s

        answered : AreFor after
        answered = stays (stays_believed outcome)
          where
            stays : (b : Bool)
                → AreFor (cond b s (record s { late = filter (λ l. not (is_try channel id l.tried)) s.late }))
            stays true = h
            stays false = record {
              each = h.each;
              late = late-filtered (λ l. not (is_try channel id l.tried)) s.late h.late;
            }

        at : (l : LateTry) → LateFor l → (found : Option Candidate) → candidate_at l.place after ≡ found
            → AreFor (option_map_or (λ c. late_came_to c l.tried outcome reply after) found after)
        at l own None is = answered
        at l own (Some c) is =
            let k = for-found (λ x. eqb x.place l.place) after.candidates c answered.each is in
            let same : c.place ≡ l.place =
            eqb-true c.place l.place (found-passes (λ (x : Candidate). eqb x.place l.place) after.candidates c is) in
            for-acted_late after answered (after_reply c l.tried outcome reply) c k
            (reply-fits c k l.tried (ap (λ (n : ℕ). has n l.tried.transport) same ∙ own) outcome reply)

        late : (found : Option LateTry) → late_at channel id s ≡ found
            → AreFor (option_map_or (λ l. late_replied outcome reply l after) found s)
        late None is = h
        late (Some l) is =
            at l (late-found (λ x. is_try channel id x.tried) s.late l h.late is) (candidate_at l.place after) refl

        by : (found : Option Candidate) → picked (waits_as channel id) s ≡ found
            → AreFor (option_map_or (λ c. came_to c outcome reply s) found
            (option_map_or (λ l. late_replied outcome reply l after) (late_at channel id s) s))
        by None e = late (late_at channel id s) refl
        by (Some c) e =
            let k = for-found (λ x. waits_as channel id x.progress) s.candidates c h.each e in
            for-acted s h (then_of_reply c outcome reply) (stays_believed outcome) c k
            (then-fits c (λ t. after_reply c t outcome reply) (λ t own. reply-fits c k t own outcome reply) c.progress k.fit)

    for-opt : (channel id : ℕ) → AreFor (opt_was_refused channel id s)
    for-opt channel id = by (picked (waits_as channel id) s) refl
      where
        by : (found : Option Candidate) → picked (waits_as channel id) s ≡ found
            → AreFor (option_map_or (λ c. acted (then_of_refused_opt c) false c s) found s)
        by None e = h
        by (Some c) e =
            let k = for-found (λ x. waits_as channel id x.progress) s.candidates c h.each e in
            for-acted s h (then_of_refused_opt c) false c k
            (then-fits c (after_refused_opt c) (λ t own. opt-fits c k t own) c.progress k.fit)

    for-letters : (channel id : ℕ) → AreFor (other_letters_came channel id s)
    for-letters channel id = by (picked (waits_as channel id) s) refl
      where
        by : (found : Option Candidate) → picked (waits_as channel id) s ≡ found
            → AreFor (option_map_or (λ c. acted (then_of_other_letters c) true c s) found s)
        by None e = h
        by (Some c) e =
            let k = for-found (λ x. waits_as channel id x.progress) s.candidates c h.each e in
            for-acted s h (then_of_other_letters c) true c k
            (then-fits c (after_other_letters c) (λ t own. letters-fit c k t own) c.progress k.fit)

    for-failed_at : (c : Candidate) → IsFor c → (how : Transport) (t : Try) → t.transport ≡ how → has c.place t.transport ≡ true
        → AreFor (failed_at c c.progress how t s)
    for-failed_at c k Udp t is own =
        let l : LateTry = record { place = c.place; tried = t; has_failed = true } in
        for-replacing (with_late l s) (for-late s h l own) (record c { progress = progress.Tried })
        (for-progress c k progress.Tried (some-of c.place t.transport own))
    for-failed_at c k Tcp t is own = for-acted s h (after_closed_stream c t) false c k (closed-fits c k t own is)

    for-failed_in : (c : Candidate) → IsFor c → (p : Progress) → Fit c.place p → AreFor (failed_in c p s)
    for-failed_in c k progress.Queued p = h
    for-failed_in c k (progress.Again way due) p = h
    for-failed_in c k (progress.Blocked way due) p = h
    for-failed_in c k (progress.Waiting t) p = for-failed_at c k t.transport t refl p
    for-failed_in c k progress.Tried p = h
    for-failed_in c k progress.Gone p = h

    for-failed : (channel : ℕ) → AreFor (failed channel s)
    for-failed channel = by (picked (waits_on channel) s) refl
      where
        by : (found : Option Candidate) → picked (waits_on channel) s ≡ found
            → AreFor (option_map_or (λ c. failed_in c c.progress s) found s)
        by None e = h
        by (Some c) e =
            let k = for-found (λ x. waits_on channel x.progress) s.candidates c h.each e in for-failed_in c k c.progress k.fit

    for-uncounted : (how : Transport) (c : Candidate) → IsFor c → IsFor (uncounted how c)
    for-uncounted Udp c k = record { udp = k.udp; tcp = k.tcp; fit = k.fit }
    for-uncounted Tcp c k = record { udp = k.udp; tcp = k.tcp; fit = k.fit }

    for-counted : (how : Transport) (c : Candidate) → IsFor c → IsFor (counted how c)
    for-counted Udp c k = record { udp = k.udp; tcp = k.tcp; fit = k.fit }
    for-counted Tcp c k = record { udp = k.udp; tcp = k.tcp; fit = k.fit }

    counted-place : (how : Transport) (c : Candidate) → (counted how c).place ≡ c.place
    counted-place Udp c = refl
    counted-place Tcp c = refl

    for-blocked_in : (c : Candidate) → IsFor c → (p : Progress) → Fit c.place p → AreFor (blocked_in c p s)
    for-blocked_in c k progress.Queued p = h
    for-blocked_in c k (progress.Again way due) p = h
    for-blocked_in c k (progress.Blocked way due) p = h
    for-blocked_in c k (progress.Waiting t) p =
        let q : Progress = progress.Blocked (way_of_try t) (unwrap_or t.channel_due t.due) in
        for-replacing s h (blocked_as t c)
        (for-uncounted t.transport (record c { progress = q }) (for-progress c k q p))
    for-blocked_in c k progress.Tried p = h
    for-blocked_in c k progress.Gone p = h

    for-blocked : (channel : ℕ) → AreFor (blocked channel s)
    for-blocked channel = by (picked (waits_on channel) s) refl
      where
        by : (found : Option Candidate) → picked (waits_on channel) s ≡ found
            → AreFor (option_map_or (λ c. blocked_in c c.progress s) found s)
        by None e = h
        by (Some c) e =
            let k = for-found (λ x. waits_on channel x.progress) s.candidates c h.each e in for-blocked_in c k c.progress k.fit

    fit-freed : (place : ℕ) (p : Progress) → Fit place p → Fit place (freed_progress p)
    fit-freed place progress.Queued k = k
    fit-freed place (progress.Again way due) k = k
    fit-freed place (progress.Blocked way due) k = k
    fit-freed place (progress.Waiting t) k = k
    fit-freed place progress.Tried k = k
    fit-freed place progress.Gone k = k

    for-freed : AreFor (freed s)
    for-freed = by (picked is_blocked s) refl
      where
        by : (found : Option Candidate) → picked is_blocked s ≡ found
            → AreFor (option_map_or (λ c. replacing (freed_one c) s) found s)
        by None e = h
        by (Some c) e =
            let k = for-found (λ x. is_blocked x.progress) s.candidates c h.each e in
            for-replacing s h (freed_one c)
            (for-progress c k (freed_progress c.progress) (fit-freed c.place c.progress k.fit))

    for-unsent : (due : ℕ) → AreFor (unsent due s)
    for-unsent due = by (chosen s) refl
      where
        by : (found : Option Candidate) → chosen s ≡ found
            → AreFor (option_map_or (λ c. replacing (without_channel due c) s) found s)
        by None e = h
        by (Some c) e =
            for-replacing s h (without_channel due c)
            (for-progress c (chosen-is c e).is_for (progress.Blocked (way_of c) (unwrap_or (channel_due_of c.progress) due))
            (chosen-fits c e))

    for-sent : (made : Made) → AreFor (sent made s)
    for-sent made = by (chosen s) refl
      where
        new : (how : Transport) (c : Candidate) (t : Try) → IsFor c → has c.place t.transport ≡ true
            → IsFor (record (counted how c) { progress = progress.Waiting t })
        new Udp c t k own = record { udp = k.udp; tcp = k.tcp; fit = own }
        new Tcp c t k own = record { udp = k.udp; tcp = k.tcp; fit = own }

        by : (found : Option Candidate) → chosen s ≡ found
            → AreFor (option_map_or (λ c. replacing (sent_with made s.settings c) s) found s)
        by None e = h
        by (Some c) e =
            for-replacing s h (sent_with made s.settings c)
            (new (way_of c).transport c (try_made made c s.settings) (chosen-is c e).is_for (chosen-fits c e))

    for-requeued : (c : Candidate) → IsFor c → IsFor (requeued c)
    for-requeued c k = by c.progress refl k.fit (is_tried c.progress) refl
      where
        tried : (p : Progress) → c.progress ≡ p → Fit c.place p → is_tried p ≡ true → HasSome c.place
        tried progress.Tried is fit g = fit
        tried progress.Queued is fit g = absurd (true≢false (sym g))
        tried (progress.Again way due) is fit g = absurd (true≢false (sym g))
        tried (progress.Blocked way due) is fit g = absurd (true≢false (sym g))
        tried (progress.Waiting t) is fit g = absurd (true≢false (sym g))
        tried progress.Gone is fit g = absurd (true≢false (sym g))

        by : (p : Progress) → c.progress ≡ p → Fit c.place c.progress → (rests : Bool) → is_tried c.progress ≡ rests
            → IsFor (cond rests (record c { udp_sends = 0; tcp_sends = 0; progress = progress.Queued }) c)
        by p is fit true g = record { udp = k.udp; tcp = k.tcp; fit = tried c.progress refl fit g }
        by p is fit false g = k

    all-requeued : (cs : List Candidate) → AllByRecursion IsFor cs → AllByRecursion IsFor (map requeued cs)
    all-requeued [] all = tt
    all-requeued (c ∷ cs) all = (for-requeued c all.0, all-requeued cs all.1)

    for-round : (order : List ℕ) → AreFor (with_round order s)
    for-round order = by (wants_round s)
      where
        by : (wants : Bool) → AreFor (cond wants (record s {
          candidates = map {A = Candidate} requeued s.candidates;
          order = order;
          round = s.round + 1;
        }) s)
        by true = record { each = all-requeued s.candidates h.each; late = h.late }
        by false = h

    for-expired_in : (c : Candidate) → IsFor c → (p : Progress) → Fit c.place p → AreFor (expired_in c p s)
    for-expired_in c k progress.Queued p = h
    for-expired_in c k (progress.Again way due) p = h
    for-expired_in c k (progress.Blocked way due) p =
        let put = for-replacing s h (record c { progress = progress.Tried })
        (for-progress c k progress.Tried (some-of c.place way.transport p)) in
        record { each = put.each; late = put.late }
    for-expired_in c k (progress.Waiting t) p =
        for-acted s h (after_deadline s.settings.tcp_on_error c t) true c k (deadline-fits c k t p s.settings.tcp_on_error)
    for-expired_in c k progress.Tried p = h
    for-expired_in c k progress.Gone p = h

    for-expired : (now : ℕ) → AreFor (expired now s)
    for-expired now = by (picked (is_due now) s) refl
      where
        late : (some : Bool) → AreFor (cond some
            (noting told.Unreachable (record s { late = filter (λ l. not (has_failed_by now l)) s.late })) s)
        late true = record { each = h.each; late = late-filtered (λ l. not (has_failed_by now l)) s.late h.late }
        late false = h

        by : (found : Option Candidate) → picked (is_due now) s ≡ found
            → AreFor (option_map_or (λ c. expired_in c c.progress s) found (late_expired now s))
        by None e = late (list_any (has_failed_by now) s.late)
        by (Some c) e =
            let k = for-found (λ x. is_due now x.progress) s.candidates c h.each e in for-expired_in c k c.progress k.fit

  pub for-event : (s : TransactionState) (e : TransactionEvent) → AreFor s → AreFor (after_event s e)
  for-event s (round_begins order) h = for-round s h order
  for-event s (is_sent made) h = for-sent s h made
  for-event s (has_no_room due) h = for-unsent s h due
  for-event s (reply_came channel id outcome reply) h = for-came s h channel id outcome reply
  for-event s (opt_refused channel id) h = for-opt s h channel id
  for-event s (letters_differ channel id) h = for-letters s h channel id
  for-event s (channel_failed channel) h = for-failed s h channel
  for-event s (no_channel channel) h = for-blocked s h channel
  for-event s channel_free h = for-freed s h
  for-event s oldest_given_up h = record { each = h.each; late = late-dropped s.late h.late }
  for-event s (time_passed now) h = for-expired s h now

-- ---- before the first round

abbrev pub port_by : Transport → ServerState → Option ℕ
port_by Udp server = server.udp_port
port_by Tcp server = server.tcp_port

abbrev pub has_port : List ServerState → ℕ → Transport → Bool
has_port servers place p = option_map_or (λ s. is_some (port_by p s)) (slice_get servers place) false

module _ (servers : List ServerState) where
  first-for : (n : ℕ) (xs : List ServerState) → ((i : ℕ) → slice_get servers (n + i) ≡ slice_get xs i)
      → AllByRecursion (IsFor (has_port servers)) (map (λ p. candidate_of p.0 p.1) (enumerate_from n xs))
  first-for n [] same = tt
  first-for n (x ∷ xs) same = (here, first-for (n + 1) xs (λ i. ap (slice_get servers) (later i) ∙ same (suc i)))
    where
      later : (i : ℕ) → n + 1 + i ≡ n + suc i
      later i = omega arith

      at : slice_get servers n ≡ Some x
      at = ap (slice_get servers) (let is : n ≡ n + 0 = omega arith in is) ∙ same 0

      port : (p : Transport) → is_some (port_by p x) ≡ has_port servers n p
      port p = sym (ap (λ (o : Option ServerState). option_map_or (λ s. is_some (port_by p s)) o false) at)

      fit : (b : Bool) → (is_some x.udp_port || is_some x.tcp_port) ≡ b
          → Fit (has_port servers) n (cond b progress.Tried progress.Gone)
      fit true is =
          sym (ap (λ (u : Bool). u || is_some x.tcp_port) (port Udp) ∙ ap (λ (u : Bool). has_port servers n Udp || u) (port Tcp)) ∙ is
      fit false is = tt

      here : IsFor (has_port servers) (candidate_of n x)
      here = record { udp = port Udp; tcp = port Tcp; fit = fit (is_some x.udp_port || is_some x.tcp_port) refl }

  pub begun-for : (settings : Settings) → AreFor (has_port servers) (begun_with settings servers)
  begun-for settings = record {
    each = first-for 0 servers (λ i. ap (slice_get servers) (let is : 0 + i ≡ i = omega arith in is));
    late = tt;
  }
