-- The settings of a transaction stay.
use Rattle.std.proofs.Common.{◌≡◌, ℕ, Bool, true, false, cond, List, [], ◌∷◌, refl, ap, ◌∙◌}
use Rattle.std.specs.Prelude.{Option, None, Some}
use Rattle.std.specs.List.{list_any}
use Rattle.std.specs.Option.{is_some, option_map_or}
use Rattle.hickory_resolver_channels.specs.Channels.{number_given}
use Rattle.hickory_resolver_channels.specs.declared.channel.ChannelKind.{ChannelKind}
use Rattle.hickory_resolver_flights.specs.Flights.{FlightState, heard, heard_as, heard_by, changed}
use Rattle.hickory_resolver_flights.specs.declared.heard.Heard.{Heard}
use Rattle.hickory_resolver_flights.specs.declared.heard.Heard.TheVariants as what_is
use Rattle.hickory_resolver_steps.specs.Ending.{try_at_place}
use Rattle.hickory_resolver_steps.specs.Steps.{Parts, FlyingState, sent_on, sent_to, sent_as, stream_in, kind_of}
use Rattle.hickory_resolver_steps.specs.Steps as steps
use Rattle.hickory_resolver_steps.specs.declared.flying.SentTry.{SentTry}
use Rattle.hickory_resolver_steps.specs.declared.flying.Step.{Step}
use Rattle.hickory_resolver_tries.specs.Belief.{belief_of}
use Rattle.hickory_resolver_tries.specs.declared.belief.Belief.{Belief}
use Rattle.hickory_resolver_tries.specs.declared.belief.Belief.TheVariants as belief
use Rattle.hickory_resolver_tries.specs.declared.outcome.ReplyOutcome.{ReplyOutcome}
use Rattle.hickory_resolver_tries.specs.Outcome.{outcome_of}
use Rattle.hickory_resolver_transactions.specs.Candidates.{is_tried, is_waiting, is_blocked, waits_as, waits_on, is_due, sent_with, without_channel, freed_one, has_failed_by}
use Rattle.hickory_resolver_transactions.specs.Laws.{TransactionEvent, round_begins, is_sent, has_no_room, reply_came, opt_refused, letters_differ, channel_failed, no_channel, channel_free, oldest_given_up, time_passed, after_event, after_events}
use Rattle.hickory_resolver_transactions.specs.Table.{after_reply, after_deadline, after_closed_stream, then_of_reply, then_of_refused_opt, then_of_other_letters, stays_believed}
use Rattle.hickory_resolver_transactions.specs.Transaction.{TransactionState, replacing, with_late, kept_in, keeping, acted, acted_late, picked, candidate_at, late_at, late_came_to, late_replied, without_answered, came_to, came, opt_was_refused, other_letters_came, failed_at, failed_in, failed, blocked_in, blocked, freed, expired_in, late_expired, expired, wants_round, with_round, chosen, sent, unsent, wanted, try_at}
use Rattle.hickory_resolver_transactions.specs.declared.candidate.Candidate.{Candidate}
use Rattle.hickory_resolver_transactions.specs.declared.candidate.LateTry.{LateTry}
use Rattle.hickory_resolver_transactions.specs.declared.candidate.Made.{Made}
use Rattle.hickory_resolver_transactions.specs.declared.candidate.Progress.{Progress}
use Rattle.hickory_resolver_transactions.specs.declared.candidate.Progress.TheVariants as progress
use Rattle.hickory_resolver_transactions.specs.declared.candidate.Transport.{Transport}
use Rattle.hickory_resolver_transactions.specs.declared.candidate.Transport.TheVariants.{Udp, Tcp}
use Rattle.hickory_resolver_transactions.specs.declared.candidate.Try.{Try}
use Rattle.hickory_resolver_transactions.specs.declared.table.Then.{Then}
use Rattle.hickory_resolver_transactions.specs.declared.table.Then.TheVariants.{Ends, Leaves, Rests, Again, Nothing}
use Rattle.hickory_resolver_transactions.specs.declared.transaction.Wanted.{Wanted}
use Rattle.hickory_resolver_traffic.specs.Acting.{Acted, acted_on, acted_with, parts_of, step_of}
use Rattle.hickory_resolver_traffic.specs.Acting as acting
use Rattle.hickory_resolver_traffic.specs.Doing.{Scene, IsDone, hears_octets, after_first, heard_of_first, hears_first, hears, doubts, fails_on, after_failed, fails, act_on, before_act, moment_of, stalls_on, stalls, leaving_at, leave_at, closed_at, freed_if, leaves, quits_at, after_quit, quits, place_on, with_to_do, expires, frees, then_do, changing, draws, gives_up, blocks, sends, dates, BeginsWith, round_of, is_stream}
use Rattle.hickory_resolver_traffic.specs.Groups.{GroupListState, list_in, list_at}
use Rattle.hickory_resolver_traffic.specs.Inbox.{MessageValue, first_message, first_failure}
use Rattle.hickory_resolver_traffic.specs.Table.{without_blocked}
use Rattle.hickory_resolver_traffic.specs.declared.acting.Moment.{Moment}
use Rattle.hickory_resolver_traffic.specs.declared.acting.ServerAct.{ServerAct}
use Rattle.hickory_resolver_traffic.specs.declared.acting.ServerAct.TheVariants as act
use Rattle.hickory_resolver_traffic.specs.declared.doing.Doing.{Doing}
use Rattle.hickory_resolver_traffic.specs.declared.doing.Doing.TheVariants.{Hears, Doubts, Stalls, Fails, Quits, PutsBack, Expires, Frees, Refused, Leaves as Left, Ends as Ended, Draws, BeginsRound, GivesUp, Blocks, Sends, Dates, Rests as Waits}
use Rattle.hickory_resolver_traffic.specs.declared.entry.ToDo.TheVariants as todo
use Rattle.hickory_resolver_traffic.specs.declared.inbox.ChannelFailure.{ChannelFailure}

-- ---- of a transaction

abbrev Stays : TransactionState → TransactionState → Type 0
Stays s t = t.settings ≡ s.settings

stays-if : (s x y : TransactionState) (b : Bool) → Stays s x → Stays s y → Stays s (cond b x y)
stays-if s x y true one two = one
stays-if s x y false one two = two

stays-map : {A : Type 0} (f : A → TransactionState) (s d : TransactionState) (o : Option A) → ((a : A) → Stays s (f a))
    → Stays s d → Stays s (option_map_or f o d)
stays-map f s d None each none = none
stays-map f s d (Some a) each none = each a

stays-late : (s : TransactionState) (l : LateTry) → Stays s (with_late l s)
stays-late s l = stays-if s _ _ _ refl refl

stays-kept : (s : TransactionState) (p : Progress) (place : ℕ) → Stays s (kept_in p place s)
stays-kept s (progress.Waiting t) place = stays-late s (record { place = place; tried = t; has_failed = false })
stays-kept s progress.Queued place = refl
stays-kept s (progress.Again way due) place = refl
stays-kept s (progress.Blocked way due) place = refl
stays-kept s progress.Tried place = refl
stays-kept s progress.Gone place = refl

stays-keeping : (s : TransactionState) (keeps : Bool) (c : Candidate) → Stays s (keeping keeps c s)
stays-keeping s keeps c = stays-if s (kept_in c.progress c.place s) s keeps (stays-kept s c.progress c.place) refl

stays-acted : (s : TransactionState) (t : Then) (keeps : Bool) (c : Candidate) → Stays s (acted t keeps c s)
stays-acted s (Ends reply) keeps c = refl
stays-acted s (Leaves outcome) keeps c = stays-keeping s keeps c
stays-acted s (Rests outcome) keeps c = stays-keeping s keeps c
stays-acted s (Again way) keeps c = stays-keeping s keeps c
stays-acted s Nothing keeps c = refl

stays-acted_late : (s : TransactionState) (t : Then) (c : Candidate) → Stays s (acted_late t c s)
stays-acted_late s (Ends reply) c = refl
stays-acted_late s (Leaves outcome) c = stays-if s s _ (is_waiting c.progress) refl refl
stays-acted_late s (Again way) c = stays-if s _ s (is_tried c.progress) refl refl
stays-acted_late s (Rests outcome) c = refl
stays-acted_late s Nothing c = refl

stays-late_replied : (s : TransactionState) (outcome : ReplyOutcome) (reply : ℕ) (l : LateTry)
    → Stays s (late_replied outcome reply l s)
stays-late_replied s outcome reply l =
    stays-map (λ c. late_came_to c l.tried outcome reply s) s s (candidate_at l.place s)
    (λ c. stays-acted_late s (after_reply c l.tried outcome reply) c) refl

stays-came : (s : TransactionState) (channel id : ℕ) (outcome : ReplyOutcome) (reply : ℕ)
    → Stays s (came channel id outcome reply s)
stays-came s channel id outcome reply =
    stays-map (λ c. came_to c outcome reply s) s _ (picked (waits_as channel id) s)
    (λ c. stays-acted s (then_of_reply c outcome reply) (stays_believed outcome) c)
    (stays-map (λ l. late_replied outcome reply l (without_answered outcome channel id s)) s s (late_at channel id s)
    (λ l. stays-late_replied (without_answered outcome channel id s) outcome reply l ∙ stays-if s s _ (stays_believed outcome) refl refl) refl)

stays-opt : (s : TransactionState) (channel id : ℕ) → Stays s (opt_was_refused channel id s)
stays-opt s channel id =
    stays-map (λ c. acted (then_of_refused_opt c) false c s) s s (picked (waits_as channel id) s)
    (λ c. stays-acted s (then_of_refused_opt c) false c) refl

stays-letters : (s : TransactionState) (channel id : ℕ) → Stays s (other_letters_came channel id s)
stays-letters s channel id =
    stays-map (λ c. acted (then_of_other_letters c) true c s) s s (picked (waits_as channel id) s)
    (λ c. stays-acted s (then_of_other_letters c) true c) refl

stays-failed : (s : TransactionState) (channel : ℕ) → Stays s (failed channel s)
stays-failed s channel =
    stays-map (λ c. failed_in c c.progress s) s s (picked (waits_on channel) s) (λ c. one c c.progress) refl
  where
    by : (c : Candidate) (transport : Transport) (t : Try) → Stays s (failed_at c c.progress transport t s)
    by c Udp t = stays-late s (record { place = c.place; tried = t; has_failed = true })
    by c Tcp t = stays-acted s (after_closed_stream c t) false c

    one : (c : Candidate) (p : Progress) → Stays s (failed_in c p s)
    one c (progress.Waiting t) = by c t.transport t
    one c progress.Queued = refl
    one c (progress.Again way due) = refl
    one c (progress.Blocked way due) = refl
    one c progress.Tried = refl
    one c progress.Gone = refl

stays-blocked : (s : TransactionState) (channel : ℕ) → Stays s (blocked channel s)
stays-blocked s channel =
    stays-map (λ c. blocked_in c c.progress s) s s (picked (waits_on channel) s) (λ c. one c c.progress) refl
  where
    one : (c : Candidate) (p : Progress) → Stays s (blocked_in c p s)
    one c (progress.Waiting t) = refl
    one c progress.Queued = refl
    one c (progress.Again way due) = refl
    one c (progress.Blocked way due) = refl
    one c progress.Tried = refl
    one c progress.Gone = refl

stays-freed : (s : TransactionState) → Stays s (freed s)
stays-freed s = stays-map (λ c. replacing (freed_one c) s) s s (picked is_blocked s) (λ c. refl) refl

stays-expired : (s : TransactionState) (now : ℕ) → Stays s (expired now s)
stays-expired s now =
    stays-map (λ c. expired_in c c.progress s) s (late_expired now s) (picked (is_due now) s) (λ c. one c c.progress)
    (stays-if s _ s (list_any (has_failed_by now) s.late) refl refl)
  where
    one : (c : Candidate) (p : Progress) → Stays s (expired_in c p s)
    one c (progress.Waiting t) = stays-acted s (after_deadline s.settings.tcp_on_error c t) true c
    one c progress.Queued = refl
    one c (progress.Again way due) = refl
    one c (progress.Blocked way due) = refl
    one c progress.Tried = refl
    one c progress.Gone = refl

stays-round : (s : TransactionState) (order : List ℕ) → Stays s (with_round order s)
stays-round s order = stays-if s _ s (wants_round s) refl refl

stays-sent : (s : TransactionState) (made : Made) → Stays s (sent made s)
stays-sent s made = stays-map (λ c. replacing (sent_with made s.settings c) s) s s (chosen s) (λ c. refl) refl

stays-unsent : (s : TransactionState) (due : ℕ) → Stays s (unsent due s)
stays-unsent s due = stays-map (λ c. replacing (without_channel due c) s) s s (chosen s) (λ c. refl) refl

settings-event : (s : TransactionState) (e : TransactionEvent) → Stays s (after_event s e)
settings-event s (round_begins order) = stays-round s order
settings-event s (is_sent made) = stays-sent s made
settings-event s (has_no_room due) = stays-unsent s due
settings-event s (reply_came channel id outcome reply) = stays-came s channel id outcome reply
settings-event s (opt_refused channel id) = stays-opt s channel id
settings-event s (letters_differ channel id) = stays-letters s channel id
settings-event s (channel_failed channel) = stays-failed s channel
settings-event s (no_channel channel) = stays-blocked s channel
settings-event s channel_free = stays-freed s
settings-event s oldest_given_up = refl
settings-event s (time_passed now) = stays-expired s now

pub settings-events : (events : List TransactionEvent) (s : TransactionState) → Stays s (after_events s events)
settings-events [] s = refl
settings-events (e ∷ es) s = settings-events es (after_event s e) ∙ settings-event s e

-- ---- of a question in flight

abbrev In : FlightState → FlightState → Type 0
In f g = Stays f.transaction g.transaction

stays-heard : (f : FlightState) (channel id : ℕ) (octets : List ℕ) → In f (heard channel id octets f)
stays-heard f channel id octets = by (try_at channel id f.transaction)
  where
    one : (b : Belief) (t : Try) → In f (heard_as b channel id t octets f)
    one belief.Believed t = stays-came f.transaction channel id (outcome_of f.question t.form octets) f.replies
    one belief.OtherLetters t = stays-letters f.transaction channel id
    one belief.OptRefused t = stays-opt f.transaction channel id
    one belief.NotBelieved t = refl

    by : (t : Option Try) → In f (option_map_or (heard_by channel id octets f) t f)
    by None = refl
    by (Some t) = one (belief_of f.question t.form octets) t

abbrev Of : FlyingState → FlyingState → Type 0
Of f g = In f.flight g.flight

stays-out : (step : Step) (p : Parts) → Of p.flying (steps.sent step p).flying
stays-out step p = by (wanted p.flying.flight.transaction)
  where
    on : (kind : ChannelKind) (place : ℕ) (channel : Option ℕ) → Of p.flying (sent_on step kind place p channel).flying
    on kind place None = stays-unsent p.flying.flight.transaction step.until
    on kind place (Some channel) = stays-sent p.flying.flight.transaction _

    to : (kind : ChannelKind) (place : ℕ) (stream : Option ℕ) → Of p.flying (sent_to step kind place p stream).flying
    to kind place (Some channel) = stays-sent p.flying.flight.transaction _
    to kind place None = on kind place (number_given p.shared.channels)

    by : (w : Option Wanted) → Of p.flying (option_map_or (sent_as step p) w p).flying
    by None = refl
    by (Some w) = to (kind_of w.way.transport) w.place (stream_in (kind_of w.way.transport) w.place p)

stays-parts : (what : ServerAct) (n : ℕ) (m : Moment) (octets : List ℕ) (p : Parts)
    → Of p.flying (acting.acted what n m octets p).flying
stays-parts (act.Hear channel id) n m octets p = stays-heard p.flying.flight channel id octets
stays-parts (act.Fail channel) n m octets p = stays-failed p.flying.flight.transaction channel
stays-parts act.Expire n m octets p = stays-expired p.flying.flight.transaction m.clock
stays-parts act.Send n m octets p = stays-out (step_of n m) p

-- ---- whatever is done

abbrev At : Scene → Scene → Type 0
At x y = Of x.current.entry.flying y.current.entry.flying

stays-act : (what : ServerAct) (octets : List ℕ) (x : Scene) → At x (act_on what octets x)
stays-act what octets x = by (list_in x.current.entry.asked.0 x.traffic.groups.lists)
  where
    by : (l : Option GroupListState) → Of x.current.entry.flying
        (option_map_or (acted_with what x.current.number (moment_of x.traffic) octets x.current.entry.asked.0 (before_act x)) l
        (before_act x)).flying
    by None = refl
    by (Some l) =
        stays-parts what x.current.number (moment_of x.traffic) octets (parts_of x.traffic.shared x.current.entry.flying l)

stays-hears : (x : Scene) → At x (hears x)
stays-hears x = after (heard_of_first x) ∙ by (first_message x.traffic.inbox)
  where
    after : (heard : Option Heard) → At (hears_first x) (after_first heard (hears_first x))
    after None = refl
    after (Some what_is.Nothing) = refl
    after (Some what_is.OtherLetters) = refl
    after (Some what_is.OptRefused) = refl
    after (Some (what_is.Reply outcome)) = refl

    by : (m : Option MessageValue) → At x (option_map_or (hears_octets x) m x)
    by None = refl
    by (Some m) = stays-act (act.Hear m.channel _) m.octets x

stays-fails : (x : Scene) → At x (fails x)
stays-fails x = by (first_failure x.traffic.inbox)
  where
    after : (f : ChannelFailure) (stream : Bool) → At x (after_failed stream (act_on (act.Fail f.channel) [] x))
    after f true = stays-act (act.Fail f.channel) [] x
    after f false = stays-act (act.Fail f.channel) [] x

    by : (f : Option ChannelFailure) → At x (option_map_or (fails_on x) f (with_to_do todo.GoOn x))
    by None = refl
    by (Some f) = after f (is_stream f.channel x.traffic.shared.channels)

stays-stalls : (x : Scene) → At x (stalls x)
stays-stalls x = by (first_failure x.traffic.inbox)
  where
    by : (f : Option ChannelFailure) → At x (option_map_or (stalls_on x) f (with_to_do todo.GoOn x))
    by None = refl
    by (Some f) = stays-blocked x.current.entry.flying.flight.transaction f.channel

stays-leave_at : (place : ℕ) (x : Scene) → At x (leave_at place x)
stays-leave_at place x = by (try_at_place x.current.entry.flying place)
  where
    by : (one : Option SentTry) → At x (option_map_or (leaving_at place x) one x)
    by None = refl
    by (Some one) = refl

stays-leaves : (place : ℕ) (x : Scene) → At x (leaves place x)
stays-leaves place x = by (closed_at place x) ∙ stays-leave_at place x
  where
    by : (closed : Option ℕ) → At (leave_at place x) (freed_if closed (leave_at place x))
    by None = refl
    by (Some channel) = refl

stays-quits : (x : Scene) → At x (quits x)
stays-quits x = by (place_on x)
  where
    after : (place : ℕ) (closed : Option ℕ) → At x (after_quit closed (leave_at place x))
    after place None = stays-leave_at place x
    after place (Some channel) = stays-leave_at place x

    by : (place : Option ℕ) → At x (option_map_or (quits_at x) place (with_to_do todo.PutBack x))
    by None = refl
    by (Some place) = after place (closed_at place x)

stays-frees : (x : Scene) → At x (frees x)
stays-frees x = by (is_some (wanted (changed freed x.current.entry.flying.flight).transaction))
  where
    by : (wants : Bool) → At x (cond {A = Scene} wants
        (record {
          traffic = x.traffic;
          current = then_do todo.GoOn (changing (changed freed) x.current);
        })
        (record {
          traffic = record x.traffic { table = without_blocked x.current.number x.traffic.table };
          current = then_do todo.GoOn (changing (changed freed) x.current);
        }))
    by true = stays-freed x.current.entry.flying.flight.transaction
    by false = stays-freed x.current.entry.flying.flight.transaction

stays-begins : (place : ℕ) (x : Scene) (f : FlyingState) (l : Option GroupListState)
    → BeginsWith x.traffic.rules.strategy (round_of place x) l x.current.entry.flying f → Of x.current.entry.flying f
stays-begins place x f None is = ap (λ (g : FlyingState). g.flight.transaction.settings) is
stays-begins place x f (Some l) is =
    ap (λ (g : FlyingState). g.flight.transaction.settings) is.begun
    ∙ stays-round x.current.entry.flying.flight.transaction is.order

at-by : (x y z : Scene) → y ≡ z → At x z → At x y
at-by x y z is same = ap (λ (v : Scene). v.current.entry.flying.flight.transaction.settings) is ∙ same

pub settings-done : (what : Doing) (x y : Scene) → IsDone what x y
    → y.current.entry.flying.flight.transaction.settings ≡ x.current.entry.flying.flight.transaction.settings
settings-done Hears x y is = at-by x y (hears x) is (stays-hears x)
settings-done Doubts x y is = at-by x y (doubts x) is refl
settings-done Stalls x y is = at-by x y (stalls x) is (stays-stalls x)
settings-done Fails x y is = at-by x y (fails x) is (stays-fails x)
settings-done Quits x y is = at-by x y (quits x) is (stays-quits x)
settings-done Expires x y is = at-by x y (expires x) is (stays-act act.Expire [] x)
settings-done Frees x y is = at-by x y (frees x) is (stays-frees x)
settings-done (Left place) x y is = at-by x y (leaves place x) is (stays-leaves place x)
settings-done Draws x y is = at-by x y (draws x) is refl
settings-done (BeginsRound place) x y is =
    stays-begins place x y.current.entry.flying (list_at x.current.entry.asked.0 x.traffic.groups) is.begins
settings-done GivesUp x y is = at-by x y (gives_up x) is refl
settings-done Blocks x y is = at-by x y (blocks x) is refl
settings-done Sends x y is = at-by x y (sends x) is (stays-act act.Send [] x)
settings-done (Dates due) x y is = at-by x y (dates due x) is refl
settings-done PutsBack x y is = at-by x y x is refl
settings-done Refused x y is = at-by x y x is refl
settings-done Ended x y is = at-by x y x is refl
settings-done Waits x y is = at-by x y x is refl
