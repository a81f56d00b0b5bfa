-- A transaction stays within its bounds.
use Rattle.std.proofs.Common.{◌≡◌, ℕ, zero, suc, ◌+◌, ◌-◌, ◌<◌, ◌≤◌, Bool, true, false, cond, not, ◌&&◌, ◌||◌, eqb, ltb, List, [], ◌∷◌, ◌++◌, length, map, drop, refl, ap, sym, subst, ◌∙◌, arith}
use Rattle.std.specs.Prelude.{Option, None, Some, find, filter, count_by, slice_get, unwrap_or}
use Rattle.std.specs.List.{AllByRecursion, list_any, enumerate_from, sum_by}
use Rattle.std.specs.Option.{is_some, is_none, option_map_or, option_or, option_and_then}
use Rattle.std.proofs.lemmas.Bool.{and_parts, ltb-true, ltb-false, eqb-true}
use Rattle.std.proofs.lemmas.List.{length-append, length-drop}
use Rattle.std.proofs.lemmas.List.Sums.{sum_by-cons, length-filter, count_by-le-length}
use Rattle.hickory_resolver_servers.specs.Server.{ServerState}
use Rattle.hickory_resolver_tries.specs.declared.outcome.ReplyOutcome.{ReplyOutcome}
use Rattle.hickory_resolver_tries.specs.declared.outcome.ReplyOutcome.TheVariants as came_to
use Rattle.hickory_resolver_transactions.specs.Candidates.{candidate_of, is_udp, is_again, is_queued, is_waiting, is_blocked, is_tried, is_try, waits_as, waits_on, is_due, way_of, way_of_try, way_in, first_way, channel_due_of, sent_with, counted, uncounted, try_made, without_channel, blocked_as, requeued, freed_one, freed_progress, has_failed_by}
use Rattle.hickory_resolver_transactions.specs.Laws.{TransactionEvent, round_begins, is_sent, has_no_room, reply_came, opt_refused, letters_differ, channel_failed, no_channel, channel_free, oldest_given_up, time_passed, after_event, after_events, HasRoom, IsWithinSends, IsBounded, StaysBounded}
use Rattle.hickory_resolver_transactions.specs.Table.{sends_by, has_room, may_change_to_tcp, may_begin_tcp, again_if, after_reply, after_refused_opt, after_other_letters, after_deadline, after_closed_stream, stays_believed, then_in, then_of_reply, then_of_refused_opt, then_of_other_letters}
use Rattle.hickory_resolver_transactions.specs.Transaction.{TransactionState, begun_with, replaced, replacing, putting, noting, without_oldest, late_too, with_late, kept_in, keeping, acted, gone_unless_waiting, acted_late, picked, candidate_at, late_at, late_replied, without_answered, came, opt_was_refused, other_letters_came, failed_at, failed_in, failed, blocked_in, blocked, freed, expired_in, late_expired, expired, wants_round, is_idle, may_go_on, with_round, is_queued_at, first_queued, may_send, chosen, sent, unsent}
use Rattle.hickory_resolver_transactions.specs.declared.candidate.Candidate.{Candidate}
use Rattle.hickory_resolver_transactions.specs.declared.candidate.LateTry.{LateTry}
use Rattle.hickory_resolver_transactions.specs.declared.candidate.Made.{Made}
use Rattle.hickory_resolver_transactions.specs.declared.candidate.Progress.{Progress}
use Rattle.hickory_resolver_transactions.specs.declared.candidate.Progress.TheVariants as progress
use Rattle.hickory_resolver_transactions.specs.declared.candidate.Transport.{Transport}
use Rattle.hickory_resolver_transactions.specs.declared.candidate.Transport.TheVariants.{Udp, Tcp}
use Rattle.hickory_resolver_transactions.specs.declared.candidate.Try.{Try}
use Rattle.hickory_resolver_transactions.specs.declared.candidate.Way.{Way}
use Rattle.hickory_resolver_transactions.specs.declared.outcome.Outcome.{Outcome}
use Rattle.hickory_resolver_transactions.specs.declared.outcome.Outcome.TheVariants as told
use Rattle.hickory_resolver_transactions.specs.declared.table.Then.{Then}
use Rattle.hickory_resolver_transactions.specs.declared.table.Then.TheVariants.{Ends, Leaves, Rests, Again, Nothing}

-- ---- lists of servers

abbrev waits : Candidate → Bool
waits c = is_waiting c.progress

abbrev weight : Bool → ℕ
weight b = cond b 1 0

abbrev waiting_in : List Candidate → ℕ
waiting_in cs = count_by waits cs

waiting-cons : (c : Candidate) (cs : List Candidate) → waiting_in (c ∷ cs) ≡ weight (waits c) + waiting_in cs
waiting-cons c cs = sum_by-cons (λ (x : Candidate). weight (waits x)) c cs

all-replaced : (new : Candidate) (cs : List Candidate) → IsWithinSends new → AllByRecursion IsWithinSends cs
    → AllByRecursion IsWithinSends (replaced new cs)
all-replaced new [] w all = tt
all-replaced new (c ∷ cs) w all = by (eqb c.place new.place) (all-replaced new cs w all.1)
  where
    by : (same : Bool) → AllByRecursion IsWithinSends (replaced new cs)
        → AllByRecursion IsWithinSends (cond same (new ∷ cs) (c ∷ replaced new cs))
    by true more = (w, all.1)
    by false more = (all.0, more)

weight-le : (b : Bool) → weight b ≤ 1
weight-le true = omega arith
weight-le false = omega arith

-- no more wait than before, and one more where it waits itself
waiting-replaced : (new : Candidate) (cs : List Candidate) → waiting_in (replaced new cs) ≤ waiting_in cs + weight (waits new)
waiting-replaced new [] = omega arith
waiting-replaced new (c ∷ cs) = by (eqb c.place new.place) (waiting-replaced new cs)
  where
    by : (same : Bool) → waiting_in (replaced new cs) ≤ waiting_in cs + weight (waits new)
        → waiting_in (cond same (new ∷ cs) (c ∷ replaced new cs)) ≤ waiting_in (c ∷ cs) + weight (waits new)
    by true more = omega (arith, waiting-cons new cs, waiting-cons c cs)
    by false more = omega (arith, waiting-cons c (replaced new cs), waiting-cons c cs, more)

all-find : (test : Candidate → Bool) (cs : List Candidate) (c : Candidate) → AllByRecursion IsWithinSends cs
    → find test cs ≡ Some c → IsWithinSends c
all-find test [] c all e = absurd cc
all-find test (x ∷ xs) c all e = by (test x) (λ h. all-find test xs c all.1 h) e
  where
    by : (passes : Bool) → (find test xs ≡ Some c → IsWithinSends c) → cond passes (Some x) (find test xs) ≡ Some c → IsWithinSends c
    by true more h = let same : x ≡ c = cc in subst IsWithinSends same all.0
    by false more h = more h

all-get : (cs : List Candidate) (i : ℕ) (c : Candidate) → AllByRecursion IsWithinSends cs → slice_get cs i ≡ Some c
    → IsWithinSends c
all-get [] i c all e = absurd cc
all-get (x ∷ xs) zero c all e = let same : x ≡ c = cc in subst IsWithinSends same all.0
all-get (x ∷ xs) (suc i) c all e = all-get xs i c all.1 e

-- ---- a server that was changed

-- it has come no further by sending
quiet : (c : Candidate) (p : Progress) → IsWithinSends c → HasRoom p c → IsWithinSends (record c { progress = p })
quiet c p w room = record { udp = w.udp; tcp = w.tcp; room = room_of p room }
  where
    room_of : (q : Progress) → HasRoom q c → HasRoom q (record c { progress = p })
    room_of progress.Queued r = r
    room_of (progress.Again way due) r = by_way way.transport r
      where
        by_way : (t : Transport) → sends_by t c < 2 → sends_by t (record c { progress = p }) < 2
        by_way Udp k = k
        by_way Tcp k = k
    room_of (progress.Blocked way due) r = by_way way.transport r
      where
        by_way : (t : Transport) → sends_by t c < 2 → sends_by t (record c { progress = p }) < 2
        by_way Udp k = k
        by_way Tcp k = k
    room_of (progress.Waiting t) r = tt
    room_of progress.Tried r = tt
    room_of progress.Gone r = tt

module _ (s : TransactionState) (b : IsBounded s) where
  bounded-replacing : (new : Candidate) → IsWithinSends new → waits new ≡ false → IsBounded (replacing new s)
  bounded-replacing new w none = record {
    sends = all-replaced new s.candidates w b.sends;
    waiting = omega (arith, b.waiting, waiting-replaced new s.candidates, ap weight none);
    late = b.late;
    rounds = b.rounds;
  }

  bounded-sending : (new : Candidate) → IsWithinSends new → waiting_in s.candidates < s.settings.concurrent
      → IsBounded (replacing new s)
  bounded-sending new w room = record {
    sends = all-replaced new s.candidates w b.sends;
    waiting = omega (arith, room, waiting-replaced new s.candidates, weight-le (waits new));
    late = b.late;
    rounds = b.rounds;
  }

  bounded-noting : (o : Outcome) → IsBounded (noting o s)
  bounded-noting o = record { sends = b.sends; waiting = b.waiting; late = b.late; rounds = b.rounds }

  bounded-ending : (reply : ℕ) → IsBounded (record s { ended = Some reply })
  bounded-ending reply = record { sends = b.sends; waiting = b.waiting; late = b.late; rounds = b.rounds }

  bounded-oldest : IsBounded (without_oldest s)
  bounded-oldest = record {
    sends = b.sends;
    waiting = b.waiting;
    late = omega (arith, b.late, length-drop 1 s.late);
    rounds = b.rounds;
  }

  bounded-answered : (outcome : ReplyOutcome) (channel id : ℕ) → IsBounded (without_answered outcome channel id s)
  bounded-answered outcome channel id = by (stays_believed outcome)
    where
      by : (stays : Bool)
          → IsBounded (cond stays s (record s { late = filter (λ l. not (is_try channel id l.tried)) s.late }))
      by true = b
      by false = record {
        sends = b.sends;
        waiting = b.waiting;
        late = omega (arith, b.late, length-filter (λ (l : LateTry). not (is_try channel id l.tried)) s.late, count_by-le-length (λ (l : LateTry). not (is_try channel id l.tried)) s.late);
        rounds = b.rounds;
      }

  bounded-late : (l : LateTry) → IsBounded (with_late l s)
  bounded-late l = by (ltb (length s.late) 2) refl
    where
      by : (few : Bool) → ltb (length s.late) 2 ≡ few
          → IsBounded (cond few (late_too l s) (late_too l (without_oldest s)))
      by true e = record {
        sends = b.sends;
        waiting = b.waiting;
        late = omega (arith, ltb-true (length s.late) 2 e, length-append s.late (l ∷ []));
        rounds = b.rounds;
      }
      by false e = record {
        sends = b.sends;
        waiting = b.waiting;
        late = omega (arith, b.late, ltb-false (length s.late) 2 e, length-append (drop 1 s.late) (l ∷ []), length-drop 1 s.late);
        rounds = b.rounds;
      }

-- ---- the parts of what an event does

bounded-kept : (s : TransactionState) → IsBounded s → (p : Progress) (place : ℕ) → IsBounded (kept_in p place s)
bounded-kept s b progress.Queued place = b
bounded-kept s b (progress.Again way due) place = b
bounded-kept s b (progress.Blocked way due) place = b
bounded-kept s b (progress.Waiting t) place = bounded-late s b (record { place = place; tried = t; has_failed = false })
bounded-kept s b progress.Tried place = b
bounded-kept s b progress.Gone place = b

bounded-keeping : (s : TransactionState) → IsBounded s → (keeps : Bool) (c : Candidate) → IsBounded (keeping keeps c s)
bounded-keeping s b true c = bounded-kept s b c.progress c.place
bounded-keeping s b false c = b

bounded-putting : (s : TransactionState) → IsBounded s → (p : Progress) (c : Candidate) → IsWithinSends c → HasRoom p c
    → is_waiting p ≡ false → IsBounded (putting p c s)
bounded-putting s b p c w room none = bounded-replacing s b (record c { progress = p }) (quiet c p w room) none

abbrev RoomIn : Then → Candidate → Type 0
RoomIn (Again way) c = sends_by way.transport c < 2
RoomIn other c = Unit {0}

bounded-acted : (s : TransactionState) → IsBounded s → (then : Then) (keeps : Bool) (c : Candidate) → IsWithinSends c
    → RoomIn then c → IsBounded (acted then keeps c s)
bounded-acted s b (Ends reply) keeps c w room = bounded-ending s b reply
bounded-acted s b (Leaves o) keeps c w room =
    let k = keeping keeps c s in
    bounded-noting (putting progress.Gone c k) (bounded-putting k (bounded-keeping s b keeps c) progress.Gone c w tt refl) o
bounded-acted s b (Rests o) keeps c w room =
    let k = keeping keeps c s in
    bounded-noting (putting progress.Tried c k) (bounded-putting k (bounded-keeping s b keeps c) progress.Tried c w tt refl) o
bounded-acted s b (Again way) keeps c w room =
    bounded-putting (keeping keeps c s) (bounded-keeping s b keeps c) (progress.Again way None) c w room refl
bounded-acted s b Nothing keeps c w room = b

bounded-gone : (s : TransactionState) → IsBounded s → (c : Candidate) → IsWithinSends c
    → IsBounded (gone_unless_waiting c s)
bounded-gone s b c w = by (is_waiting c.progress)
  where
    by : (waits : Bool) → IsBounded (cond waits s (putting progress.Gone c s))
    by true = b
    by false = bounded-putting s b progress.Gone c w tt refl

bounded-acted_late : (s : TransactionState) → IsBounded s → (then : Then) (c : Candidate) → IsWithinSends c
    → RoomIn then c → IsBounded (acted_late then c s)
bounded-acted_late s b (Ends reply) c w room = bounded-ending s b reply
bounded-acted_late s b (Leaves o) c w room =
    bounded-noting (gone_unless_waiting c s) (bounded-gone s b c w) o
bounded-acted_late s b (Rests o) c w room = b
bounded-acted_late s b (Again way) c w room = by (is_tried c.progress)
  where
    by : (rests : Bool) → IsBounded (cond rests (putting (progress.Again way None) c s) s)
    by true = bounded-putting s b (progress.Again way None) c w room refl
    by false = b
bounded-acted_late s b Nothing c w room = b

-- ---- the rows of the table

room-again : (may : Bool) (t : Transport) (opt : Bool) (otherwise : Then) (c : Candidate) → (may ≡ true → sends_by t c < 2)
    → RoomIn otherwise c → RoomIn (again_if may t opt otherwise) c
room-again true t opt otherwise c room other = room refl
room-again false t opt otherwise c room other = other

room-lt : (t : Transport) (c : Candidate) → has_room t c ≡ true → sends_by t c < 2
room-lt t c e = ltb-true (sends_by t c) 2 e

room-change : (c : Candidate) (t : Try) → may_change_to_tcp c t ≡ true → c.tcp_sends < 2
room-change c t e = room-lt Tcp c (and_parts (is_udp t.transport && c.has_tcp) (has_room Tcp c) e).1

room-begin : (c : Candidate) (t : Try) → may_begin_tcp c t ≡ true → c.tcp_sends < 2
room-begin c t e =
    let none = eqb-true c.tcp_sends 0 (and_parts (is_udp t.transport && c.has_tcp) (eqb c.tcp_sends 0) e).1 in
    omega (arith, none)

room-after_reply : (c : Candidate) (t : Try) (outcome : ReplyOutcome) (reply : ℕ) → RoomIn (after_reply c t outcome reply) c
room-after_reply c t came_to.Truncated reply = room-again (may_change_to_tcp c t) Tcp t.form.with_opt _ c (room-change c t) tt
room-after_reply c t came_to.BadRest reply = tt
room-after_reply c t came_to.WithoutOpt reply = room-again (has_room t.transport c) t.transport false _ c (room-lt t.transport c) tt
room-after_reply c t (came_to.Code code) reply = tt
room-after_reply c t came_to.Lame reply = tt
room-after_reply c t came_to.Answer reply = tt
room-after_reply c t came_to.Negative reply = by c.is_trusted
  where
    by : (trusted : Bool) → RoomIn (cond trusted (Ends reply) (Leaves (told.Reply reply))) c
    by true = tt
    by false = tt

room-deadline : (tcp : Bool) (c : Candidate) (t : Try) → RoomIn (after_deadline tcp c t) c
room-deadline tcp c t =
    room-again (tcp && may_begin_tcp c t) Tcp t.form.with_opt _ c
    (λ e. room-begin c t (and_parts tcp (may_begin_tcp c t) e).1) tt

room-then : (after : Try → Then) (p : Progress) (c : Candidate) → ((t : Try) → RoomIn (after t) c)
    → RoomIn (then_in after p) c
room-then after progress.Queued c room = tt
room-then after (progress.Again way due) c room = tt
room-then after (progress.Blocked way due) c room = tt
room-then after (progress.Waiting t) c room = room t
room-then after progress.Tried c room = tt
room-then after progress.Gone c room = tt

-- ---- events

came-late : (s : TransactionState) → IsBounded s → (outcome : ReplyOutcome) (reply : ℕ) (l : LateTry)
    → IsBounded (late_replied outcome reply l s)
came-late s b outcome reply l = by (candidate_at l.place s) refl
  where
    by : (found : Option Candidate) → candidate_at l.place s ≡ found
        → IsBounded (option_map_or (λ c. acted_late (after_reply c l.tried outcome reply) c s) found s)
    by None e = b
    by (Some c) e =
        let w = all-find (λ x. eqb x.place l.place) s.candidates c b.sends e in
        bounded-acted_late s b (after_reply c l.tried outcome reply) c w (room-after_reply c l.tried outcome reply)

bounded-came : (s : TransactionState) → IsBounded s → (channel id : ℕ) (outcome : ReplyOutcome) (reply : ℕ)
    → IsBounded (came channel id outcome reply s)
bounded-came s b channel id outcome reply = by (picked (waits_as channel id) s) refl
  where
    after : TransactionState
    after = without_answered outcome channel id s

    late : (found : Option LateTry) → IsBounded (option_map_or (λ l. late_replied outcome reply l after) found s)
    late None = b
    late (Some l) = came-late after (bounded-answered s b outcome channel id) outcome reply l

    by : (found : Option Candidate) → picked (waits_as channel id) s ≡ found
        → IsBounded (option_map_or (λ c. acted (then_of_reply c outcome reply) (stays_believed outcome) c s) found
        (option_map_or (λ l. late_replied outcome reply l after) (late_at channel id s) s))
    by None e = late (late_at channel id s)
    by (Some c) e =
        let w = all-find (λ x. waits_as channel id x.progress) s.candidates c b.sends e in
        bounded-acted s b (then_of_reply c outcome reply) (stays_believed outcome) c w
        (room-then (λ t. after_reply c t outcome reply) c.progress c (λ t. room-after_reply c t outcome reply))

bounded-opt : (s : TransactionState) → IsBounded s → (channel id : ℕ) → IsBounded (opt_was_refused channel id s)
bounded-opt s b channel id = by (picked (waits_as channel id) s) refl
  where
    by : (found : Option Candidate) → picked (waits_as channel id) s ≡ found
        → IsBounded (option_map_or (λ c. acted (then_of_refused_opt c) false c s) found s)
    by None e = b
    by (Some c) e =
        let w = all-find (λ x. waits_as channel id x.progress) s.candidates c b.sends e in
        bounded-acted s b (then_of_refused_opt c) false c w
        (room-then (after_refused_opt c) c.progress c (λ t. room-again (has_room t.transport c) t.transport false Nothing c (room-lt t.transport c) tt))

bounded-letters : (s : TransactionState) → IsBounded s → (channel id : ℕ) → IsBounded (other_letters_came channel id s)
bounded-letters s b channel id = by (picked (waits_as channel id) s) refl
  where
    by : (found : Option Candidate) → picked (waits_as channel id) s ≡ found
        → IsBounded (option_map_or (λ c. acted (then_of_other_letters c) true c s) found s)
    by None e = b
    by (Some c) e =
        let w = all-find (λ x. waits_as channel id x.progress) s.candidates c b.sends e in
        bounded-acted s b (then_of_other_letters c) true c w
        (room-then (after_other_letters c) c.progress c (λ t. room-again (may_begin_tcp c t) Tcp t.form.with_opt Nothing c (room-begin c t) tt))

bounded-failed_at : (s : TransactionState) → IsBounded s → (c : Candidate) → IsWithinSends c → (how : Transport) (t : Try)
    → IsBounded (failed_at c c.progress how t s)
bounded-failed_at s b c w Udp t =
    let l : LateTry = record { place = c.place; tried = t; has_failed = true } in
    bounded-putting (with_late l s) (bounded-late s b l) progress.Tried c w tt refl
bounded-failed_at s b c w Tcp t =
    bounded-acted s b (after_closed_stream c t) false c w
    (room-again (has_room Tcp c) Tcp t.form.with_opt _ c (room-lt Tcp c) tt)

bounded-failed_in : (s : TransactionState) → IsBounded s → (c : Candidate) → IsWithinSends c → (p : Progress)
    → IsBounded (failed_in c p s)
bounded-failed_in s b c w progress.Queued = b
bounded-failed_in s b c w (progress.Again way due) = b
bounded-failed_in s b c w (progress.Blocked way due) = b
bounded-failed_in s b c w (progress.Waiting t) = bounded-failed_at s b c w t.transport t
bounded-failed_in s b c w progress.Tried = b
bounded-failed_in s b c w progress.Gone = b

bounded-failed : (s : TransactionState) → IsBounded s → (channel : ℕ) → IsBounded (failed channel s)
bounded-failed s b channel = by (picked (waits_on channel) s) refl
  where
    by : (found : Option Candidate) → picked (waits_on channel) s ≡ found
        → IsBounded (option_map_or (λ c. failed_in c c.progress s) found s)
    by None e = b
    by (Some c) e = bounded-failed_in s b c (all-find (λ x. waits_on channel x.progress) s.candidates c b.sends e) c.progress

within-uncounted : (c : Candidate) (with_opt : Bool) (due : ℕ) (how : Transport) → IsWithinSends c
    → IsWithinSends (uncounted how (record c { progress = progress.Blocked (record { transport = how; with_opt = with_opt }) due }))
within-uncounted c with_opt due Udp w = record { udp = omega (arith, w.udp); tcp = w.tcp; room = omega (arith, w.udp) }
within-uncounted c with_opt due Tcp w = record { udp = w.udp; tcp = omega (arith, w.tcp); room = omega (arith, w.tcp) }

waits-uncounted : (c : Candidate) (due : ℕ) (how : Transport) (way : Way)
    → waits (uncounted how (record c { progress = progress.Blocked way due })) ≡ false
waits-uncounted c due Udp way = refl
waits-uncounted c due Tcp way = refl

bounded-blocked_in : (s : TransactionState) → IsBounded s → (c : Candidate) → IsWithinSends c → (p : Progress)
    → IsBounded (blocked_in c p s)
bounded-blocked_in s b c w progress.Queued = b
bounded-blocked_in s b c w (progress.Again way due) = b
bounded-blocked_in s b c w (progress.Blocked way due) = b
bounded-blocked_in s b c w (progress.Waiting t) =
    let due = unwrap_or t.channel_due t.due in
    bounded-replacing s b (blocked_as t c) (within-uncounted c t.form.with_opt due t.transport w)
    (waits-uncounted c due t.transport (way_of_try t))
bounded-blocked_in s b c w progress.Tried = b
bounded-blocked_in s b c w progress.Gone = b

bounded-blocked : (s : TransactionState) → IsBounded s → (channel : ℕ) → IsBounded (blocked channel s)
bounded-blocked s b channel = by (picked (waits_on channel) s) refl
  where
    by : (found : Option Candidate) → picked (waits_on channel) s ≡ found
        → IsBounded (option_map_or (λ c. blocked_in c c.progress s) found s)
    by None e = b
    by (Some c) e = bounded-blocked_in s b c (all-find (λ x. waits_on channel x.progress) s.candidates c b.sends e) c.progress

-- each server changed in one way
module _ (change : Candidate → Candidate) (within : (c : Candidate) → IsWithinSends c → IsWithinSends (change c))
    (same : (c : Candidate) → waits (change c) ≡ waits c) where
  all-changed : (cs : List Candidate) → AllByRecursion IsWithinSends cs → AllByRecursion IsWithinSends (map change cs)
  all-changed [] all = tt
  all-changed (c ∷ cs) all = (within c all.0, all-changed cs all.1)

  waiting-changed : (cs : List Candidate) → waiting_in (map change cs) ≡ waiting_in cs
  waiting-changed [] = refl
  waiting-changed (c ∷ cs) =
      omega (arith, waiting-cons (change c) (map change cs), waiting-cons c cs, waiting-changed cs, ap weight (same c))

freed-within : (c : Candidate) → IsWithinSends c → IsWithinSends (freed_one c)
freed-within c w = by c.progress w.room
  where
    by : (p : Progress) → HasRoom p c → IsWithinSends (record c { progress = freed_progress p })
    by progress.Queued r = quiet c progress.Queued w r
    by (progress.Again way due) r = quiet c (progress.Again way due) w r
    by (progress.Blocked way due) r = quiet c (progress.Again way (Some due)) w r
    by (progress.Waiting t) r = quiet c (progress.Waiting t) w r
    by progress.Tried r = quiet c progress.Tried w r
    by progress.Gone r = quiet c progress.Gone w r

freed-waits : (c : Candidate) → waits (freed_one c) ≡ waits c
freed-waits c = by c.progress
  where
    by : (p : Progress) → is_waiting (freed_progress p) ≡ is_waiting p
    by progress.Queued = refl
    by (progress.Again way due) = refl
    by (progress.Blocked way due) = refl
    by (progress.Waiting t) = refl
    by progress.Tried = refl
    by progress.Gone = refl

find-passes : {X : Type 0} (test : X → Bool) (xs : List X) (x : X) → find test xs ≡ Some x → test x ≡ true
find-passes test [] x e = absurd cc
find-passes {X} test (y ∷ ys) x e = by (test y) refl (λ h. find-passes test ys x h) e
  where
    by : (passes : Bool) → test y ≡ passes → (find test ys ≡ Some x → test x ≡ true)
        → cond passes (Some y) (find test ys) ≡ Some x → test x ≡ true
    by true is more h = let same : y ≡ x = cc in subst (λ (z : X). test z ≡ true) same is
    by false is more h = more h

blocked-rests : (p : Progress) → is_blocked p ≡ true → is_waiting p ≡ false
blocked-rests progress.Queued e = refl
blocked-rests (progress.Again way due) e = refl
blocked-rests (progress.Blocked way due) e = refl
blocked-rests (progress.Waiting t) e = absurd cc
blocked-rests progress.Tried e = refl
blocked-rests progress.Gone e = refl

bounded-freed : (s : TransactionState) → IsBounded s → IsBounded (freed s)
bounded-freed s b = by (picked is_blocked s) refl
  where
    by : (found : Option Candidate) → picked is_blocked s ≡ found
        → IsBounded (option_map_or (λ c. replacing (freed_one c) s) found s)
    by None e = b
    by (Some c) e =
        let rests = blocked-rests c.progress (find-passes (λ (x : Candidate). is_blocked x.progress) s.candidates c e) in
        bounded-replacing s b (freed_one c) (freed-within c (all-find (λ x. is_blocked x.progress) s.candidates c b.sends e))
        (freed-waits c ∙ rests)

requeued-within : (c : Candidate) → IsWithinSends c → IsWithinSends (requeued c)
requeued-within c w = by (is_tried c.progress)
  where
    by : (rests : Bool) → IsWithinSends (cond rests (record c { udp_sends = 0; tcp_sends = 0; progress = progress.Queued }) c)
    by true = record { udp = omega arith; tcp = omega arith; room = (refl, refl) }
    by false = w

requeued-waits : (c : Candidate) → waits (requeued c) ≡ waits c
requeued-waits c = by c.progress
  where
    by : (p : Progress)
        → waits (cond (is_tried p) (record c { udp_sends = 0; tcp_sends = 0; progress = progress.Queued }) (record c { progress = p }))
        ≡ is_waiting p
    by progress.Queued = refl
    by (progress.Again way due) = refl
    by (progress.Blocked way due) = refl
    by (progress.Waiting t) = refl
    by progress.Tried = refl
    by progress.Gone = refl

bounded-round : (s : TransactionState) → IsBounded s → (order : List ℕ) → IsBounded (with_round order s)
bounded-round s b order = by (wants_round s) refl
  where
    by : (wants : Bool) → wants_round s ≡ wants
        → IsBounded (cond wants (record s {
          candidates = map requeued s.candidates;
          order = order;
          round = s.round + 1;
        }) s)
    by true e =
        let left = (and_parts (is_none s.ended && is_idle s) (may_go_on s) e).1 in
        let more = (and_parts (ltb s.round s.settings.rounds) (list_any (λ c. is_tried c.progress) s.candidates) left).0 in
        record {
          sends = all-changed requeued requeued-within requeued-waits s.candidates b.sends;
          waiting = omega (arith, b.waiting, waiting-changed requeued requeued-within requeued-waits s.candidates);
          late = b.late;
          rounds = omega (arith, ltb-true s.round s.settings.rounds more);
        }
    by false e = b

bounded-expired_in : (s : TransactionState) → IsBounded s → (c : Candidate) → IsWithinSends c → (p : Progress)
    → IsBounded (expired_in c p s)
bounded-expired_in s b c w progress.Queued = b
bounded-expired_in s b c w (progress.Again way due) = b
bounded-expired_in s b c w (progress.Blocked way due) =
    bounded-noting (putting progress.Tried c s) (bounded-putting s b progress.Tried c w tt refl) _
bounded-expired_in s b c w (progress.Waiting t) =
    bounded-acted s b (after_deadline s.settings.tcp_on_error c t) true c w (room-deadline s.settings.tcp_on_error c t)
bounded-expired_in s b c w progress.Tried = b
bounded-expired_in s b c w progress.Gone = b

bounded-late_expired : (s : TransactionState) → IsBounded s → (now : ℕ) → IsBounded (late_expired now s)
bounded-late_expired s b now = by (list_any (has_failed_by now) s.late)
  where
    by : (some : Bool) → IsBounded (cond some
        (noting told.Unreachable
        (record s { late = filter (λ l. not (has_failed_by now l)) s.late })) s)
    by true = record {
      sends = b.sends;
      waiting = b.waiting;
      late = omega (arith, b.late, length-filter (λ (l : LateTry). not (has_failed_by now l)) s.late, count_by-le-length (λ (l : LateTry). not (has_failed_by now l)) s.late);
      rounds = b.rounds;
    }
    by false = b

bounded-expired : (s : TransactionState) → IsBounded s → (now : ℕ) → IsBounded (expired now s)
bounded-expired s b now = by (picked (is_due now) s) refl
  where
    by : (found : Option Candidate) → picked (is_due now) s ≡ found
        → IsBounded (option_map_or (λ c. expired_in c c.progress s) found (late_expired now s))
    by None e = bounded-late_expired s b now
    by (Some c) e = bounded-expired_in s b c (all-find (λ x. is_due now x.progress) s.candidates c b.sends e) c.progress

-- ---- what is sent is one of those that have room

-- asked again, or not asked yet
abbrev IsToSend : Progress → Type 0
IsToSend progress.Queued = Unit {0}
IsToSend (progress.Again way due) = Unit {0}
IsToSend other = ⊥

again-sends : (p : Progress) → is_again p ≡ true → IsToSend p
again-sends progress.Queued e = tt
again-sends (progress.Again way due) e = tt
again-sends (progress.Blocked way due) e = absurd cc
again-sends (progress.Waiting t) e = absurd cc
again-sends progress.Tried e = absurd cc
again-sends progress.Gone e = absurd cc

queued-sends : (p : Progress) → is_queued p ≡ true → IsToSend p
queued-sends progress.Queued e = tt
queued-sends (progress.Again way due) e = tt
queued-sends (progress.Blocked way due) e = absurd cc
queued-sends (progress.Waiting t) e = absurd cc
queued-sends progress.Tried e = absurd cc
queued-sends progress.Gone e = absurd cc

record IsSendable (c : Candidate) : Type 0 where
  within : IsWithinSends c
  sends : IsToSend c.progress

from-order : (cs : List Candidate) (order : List ℕ) (c : Candidate) → AllByRecursion IsWithinSends cs
    → option_and_then (slice_get cs) (find (is_queued_at cs) order) ≡ Some c → IsSendable c
from-order cs order c all e = by (find (is_queued_at cs) order) refl e
  where
    by : (found : Option ℕ) → find (is_queued_at cs) order ≡ found → option_and_then (slice_get cs) found ≡ Some c → IsSendable c
    by None is h = absurd cc
    by (Some place) is h =
        let passes = find-passes (is_queued_at cs) order place is in
        let queued = ap (λ (o : Option Candidate). option_map_or (λ (x : Candidate). is_queued x.progress) o false) (sym h) ∙ passes in
        record { within = all-get cs place c all h; sends = queued-sends c.progress queued }

from-picked : (s : TransactionState) → IsBounded s → (c : Candidate) → picked is_queued s ≡ Some c → IsSendable c
from-picked s b c e = record {
  within = all-find (λ x. is_queued x.progress) s.candidates c b.sends e;
  sends = queued-sends c.progress (find-passes (λ (x : Candidate). is_queued x.progress) s.candidates c e);
}

from-queued : (s : TransactionState) → IsBounded s → (c : Candidate) → first_queued s ≡ Some c → IsSendable c
from-queued s b c e = by (option_and_then (slice_get s.candidates) (find (is_queued_at s.candidates) s.order)) refl e
  where
    by : (found : Option Candidate)
        → option_and_then (slice_get s.candidates) (find (is_queued_at s.candidates) s.order) ≡ found
        → option_or found (picked is_queued s) ≡ Some c → IsSendable c
    by None is h = from-picked s b c h
    by (Some x) is h = from-order s.candidates s.order c b.sends (is ∙ h)

from-chosen : (s : TransactionState) → IsBounded s → (c : Candidate) → may_send s ≡ true
    → chosen s ≡ Some c → IsSendable c
from-chosen s b c may e = by (picked is_again s) refl (ap (λ (m : Bool). cond m (option_or (picked is_again s) (first_queued s)) None) (sym may) ∙ e)
  where
    by : (found : Option Candidate) → picked is_again s ≡ found → option_or found (first_queued s) ≡ Some c → IsSendable c
    by None is h = from-queued s b c h
    by (Some x) is h =
        let e2 : picked is_again s ≡ Some c = is ∙ h in
        record {
          within = all-find (λ x. is_again x.progress) s.candidates c b.sends e2;
          sends = again-sends c.progress (find-passes (λ (x : Candidate). is_again x.progress) s.candidates c e2);
        }

room-to_send : (c : Candidate) → IsSendable c → sends_by (way_of c).transport c < 2
room-to_send c k = by c.progress k.sends k.within.room
  where
    first : (how : Transport) → c.udp_sends ≡ 0 → c.tcp_sends ≡ 0 → sends_by how c < 2
    first Udp u t = omega (arith, u)
    first Tcp u t = omega (arith, t)

    by : (p : Progress) → IsToSend p → HasRoom p c → sends_by (way_in p (first_way c)).transport c < 2
    by progress.Queued k r = first (first_way c).transport r.0 r.1
    by (progress.Again way due) k r = r
    by (progress.Blocked way due) k r = absurd k
    by (progress.Waiting t) k r = absurd k
    by progress.Tried k r = absurd k
    by progress.Gone k r = absurd k

within-sent : (c : Candidate) (how : Transport) (t : Try) → IsWithinSends c → sends_by how c < 2
    → IsWithinSends (record (counted how c) { progress = progress.Waiting t })
within-sent c Udp t w room = record { udp = omega (arith, room); tcp = w.tcp; room = tt }
within-sent c Tcp t w room = record { udp = w.udp; tcp = omega (arith, room); room = tt }

bounded-sent : (s : TransactionState) → IsBounded s → (made : Made) → IsBounded (sent made s)
bounded-sent s b made = by (may_send s) refl (chosen s) refl
  where
    by : (may : Bool) → may_send s ≡ may → (found : Option Candidate) → chosen s ≡ found
        → IsBounded (option_map_or (λ c. replacing (sent_with made s.settings c) s) found s)
    by may is None e = b
    by false is (Some c) e =
        let none = ap (λ (m : Bool). cond m (option_or (picked is_again s) (first_queued s)) None) (sym is) ∙ e in absurd cc
    by true is (Some c) e =
        let k = from-chosen s b c is e in
        let room = ltb-true (waiting_in s.candidates) s.settings.concurrent
        (and_parts (is_none s.ended) (ltb (waiting_in s.candidates) s.settings.concurrent) is).1 in
        let t = try_made made c s.settings in
        bounded-sending s b (sent_with made s.settings c) (within-sent c (way_of c).transport t k.within (room-to_send c k)) room

bounded-unsent : (s : TransactionState) → IsBounded s → (due : ℕ) → IsBounded (unsent due s)
bounded-unsent s b due = by (may_send s) refl (chosen s) refl
  where
    by : (may : Bool) → may_send s ≡ may → (found : Option Candidate) → chosen s ≡ found
        → IsBounded (option_map_or (λ c. replacing (without_channel due c) s) found s)
    by may is None e = b
    by false is (Some c) e =
        let none = ap (λ (m : Bool). cond m (option_or (picked is_again s) (first_queued s)) None) (sym is) ∙ e in absurd cc
    by true is (Some c) e =
        let k = from-chosen s b c is e in
        bounded-putting s b (progress.Blocked (way_of c) (unwrap_or (channel_due_of c.progress) due)) c k.within (room-to_send c k) refl

-- ---- from the beginning on

within-first : (n : ℕ) (servers : List ServerState)
    → AllByRecursion IsWithinSends (map (λ p. candidate_of p.0 p.1) (enumerate_from n servers))
within-first n [] = tt
within-first n (x ∷ xs) = (record { udp = omega arith; tcp = omega arith; room = by (is_some x.udp_port || is_some x.tcp_port) }, within-first (n + 1) xs)
  where
    by : (can : Bool) → HasRoom (cond can progress.Tried progress.Gone) (candidate_of n x)
    by true = tt
    by false = tt

waiting-first : (n : ℕ) (servers : List ServerState)
    → waiting_in (map (λ p. candidate_of p.0 p.1) (enumerate_from n servers)) ≡ 0
waiting-first n [] = refl
waiting-first n (x ∷ xs) =
    let c = candidate_of n x in
    omega (
      arith,
      waiting-cons c (map (λ p. candidate_of p.0 p.1) (enumerate_from (n + 1) xs)),
      waiting-first (n + 1) xs,
      ap weight (by (is_some x.udp_port || is_some x.tcp_port)),
    )
  where
    by : (can : Bool) → is_waiting (cond can progress.Tried progress.Gone) ≡ false
    by true = refl
    by false = refl

bounded-event : (s : TransactionState) → IsBounded s → (event : TransactionEvent) → IsBounded (after_event s event)
bounded-event s b (round_begins order) = bounded-round s b order
bounded-event s b (is_sent made) = bounded-sent s b made
bounded-event s b (has_no_room due) = bounded-unsent s b due
bounded-event s b (reply_came channel id outcome reply) = bounded-came s b channel id outcome reply
bounded-event s b (opt_refused channel id) = bounded-opt s b channel id
bounded-event s b (letters_differ channel id) = bounded-letters s b channel id
bounded-event s b (channel_failed channel) = bounded-failed s b channel
bounded-event s b (no_channel channel) = bounded-blocked s b channel
bounded-event s b channel_free = bounded-freed s b
bounded-event s b oldest_given_up = bounded-oldest s b
bounded-event s b (time_passed now) = bounded-expired s b now

bounded-events : (s : TransactionState) → IsBounded s → (events : List TransactionEvent) → IsBounded (after_events s events)
bounded-events s b [] = b
bounded-events s b (event ∷ events) = bounded-events (after_event s event) (bounded-event s b event) events

pub stays_bounded : StaysBounded
stays_bounded settings servers events =
    bounded-events (begun_with settings servers) (record {
      sends = within-first 0 servers;
      waiting = omega (arith, waiting-first 0 servers);
      late = omega arith;
      rounds = omega arith;
    }) events
