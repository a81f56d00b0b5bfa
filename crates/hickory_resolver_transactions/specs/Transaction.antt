-- A transaction: a question on its way to the servers of a group, and what each event does with it. A reply is named by
-- the number under which the caller keeps it.
use Rattle.std.specs.Prelude.{◌≡◌, ℕ, ◌+◌, Bool, true, false, not, ◌&&◌, ◌||◌, ◌==◌, List, [], ◌∷◌, ◌++◌, length, map, filter, find, drop, count_by, slice_get, nat_lt, Option, None, Some, unwrap_or, if◌then◌else◌}
use Rattle.std.specs.List.{list_any, fold, filter_map, enumerate_from}
use Rattle.std.specs.Option.{is_none, option_map, option_map_or, option_or, option_and_then}
use Rattle.hickory_resolver_servers.specs.Server.{ServerState}
use Rattle.hickory_resolver_tries.specs.declared.outcome.ReplyOutcome.{ReplyOutcome}
use Rattle.hickory_resolver_transactions.specs.Candidates.{candidate_of, is_again, is_queued, is_waiting, is_blocked, is_tried, is_busy, is_try, waits_as, waits_on, due_of, is_due, way_of, try_made, sent_with, without_channel, blocked_as, requeued, freed_one, late_due, has_failed_by}
use Rattle.hickory_resolver_transactions.specs.Outcomes.{better}
use Rattle.hickory_resolver_transactions.specs.Table.{after_reply, after_deadline, after_closed_stream, then_of_reply, then_of_refused_opt, then_of_other_letters, stays_believed, failed_try_in}
use Rattle.hickory_resolver_transactions.specs.declared.candidate.Candidate.{Candidate}
use Rattle.hickory_resolver_transactions.specs.declared.candidate.LateTry.{LateTry}
use Rattle.hickory_resolver_transactions.specs.declared.candidate.Made.{Made}
use Rattle.hickory_resolver_transactions.specs.declared.candidate.Progress.{Progress}
use Rattle.hickory_resolver_transactions.specs.declared.candidate.Progress.TheVariants as progress
use Rattle.hickory_resolver_transactions.specs.declared.candidate.Transport.{Transport}
use Rattle.hickory_resolver_transactions.specs.declared.candidate.Transport.TheVariants.{Udp, Tcp}
use Rattle.hickory_resolver_transactions.specs.declared.candidate.Try.{Try}
use Rattle.hickory_resolver_transactions.specs.declared.choices.TheConstants.{LATE_TRIES}
use Rattle.hickory_resolver_transactions.specs.declared.outcome.Outcome.{Outcome}
use Rattle.hickory_resolver_transactions.specs.declared.outcome.Outcome.TheVariants.{Reply, Cut, Code, Unreachable, Timeout}
use Rattle.hickory_resolver_transactions.specs.declared.settings.Settings.{Settings}
use Rattle.hickory_resolver_transactions.specs.declared.table.Then.{Then}
use Rattle.hickory_resolver_transactions.specs.declared.table.Then.TheVariants.{Ends, Leaves, Rests, Again, Nothing}
use Rattle.hickory_resolver_transactions.specs.declared.transaction.Wanted.{Wanted}

-- The servers in the order of their places; the order of this round; tries whose time has passed, the oldest first; the
-- count of rounds that began; the best that was noted; and the reply with which it is over.
pub record TransactionState : Type 0 where
  pub settings : Settings
  pub candidates : List Candidate
  pub order : List ℕ
  pub late : List LateTry
  pub round : ℕ
  pub noted : Option Outcome
  pub ended : Option ℕ

abbrev pub candidates_of : List ServerState → List Candidate
candidates_of servers = map (λ p. candidate_of p.0 p.1) (enumerate_from 0 servers)

-- before the first round
abbrev pub begun_with : Settings → List ServerState → TransactionState
begun_with settings servers = record {
  settings = settings;
  candidates = candidates_of servers;
  order = [];
  late = [];
  round = 0;
  noted = None;
  ended = None;
}

-- ---- the parts of what an event does

-- a server in the place of the one with its place
abbrev pub replaced : Candidate → List Candidate → List Candidate
replaced new [] = []
replaced new (c ∷ cs) = if c.place == new.place then new ∷ cs else c ∷ replaced new cs

abbrev pub replacing : Candidate → TransactionState → TransactionState
replacing c s = record s { candidates = replaced c s.candidates }

abbrev pub putting : Progress → Candidate → TransactionState → TransactionState
putting p c s = replacing (record c { progress = p }) s

abbrev pub noting : Outcome → TransactionState → TransactionState
noting outcome s = record s { noted = better s.noted outcome }

-- a channel that failed and is closed before its time counts as unreachable
abbrev pub noted_of_closed : List LateTry → Option Outcome → Option Outcome
noted_of_closed [] noted = noted
noted_of_closed (l ∷ ls) noted = if l.has_failed then better noted Unreachable else noted

-- the oldest late try is given up, where there is one
abbrev pub without_oldest : TransactionState → TransactionState
without_oldest s = record s { late = drop 1 s.late; noted = noted_of_closed s.late s.noted }

abbrev pub late_too : LateTry → TransactionState → TransactionState
late_too l s = record s { late = s.late ++ l ∷ [] }

-- one late try more, in the place of the oldest where there are as many as there may be
abbrev pub with_late : LateTry → TransactionState → TransactionState
with_late l s = if nat_lt (length s.late) LATE_TRIES then late_too l s else late_too l (without_oldest s)

abbrev pub kept_in : Progress → ℕ → TransactionState → TransactionState
kept_in (progress.Waiting t) place s = with_late (record { place = place; tried = t; has_failed = false }) s
kept_in other place s = s

abbrev pub keeping : Bool → Candidate → TransactionState → TransactionState
keeping keeps c s = if keeps then kept_in c.progress c.place s else s

-- what is done, with the try that waits kept as a late one or not
abbrev pub acted : Then → Bool → Candidate → TransactionState → TransactionState
acted (Ends reply) keeps c s = record s { ended = Some reply }
acted (Leaves outcome) keeps c s = noting outcome (putting progress.Gone c (keeping keeps c s))
acted (Rests outcome) keeps c s = noting outcome (putting progress.Tried c (keeping keeps c s))
acted (Again way) keeps c s = putting (progress.Again way None) c (keeping keeps c s)
acted Nothing keeps c s = s

-- what came late ends no try that waits at the same server
abbrev pub gone_unless_waiting : Candidate → TransactionState → TransactionState
gone_unless_waiting c s = if is_waiting c.progress then s else putting progress.Gone c s

-- the same for a late try: it asks again only where nothing waits at its server
abbrev pub acted_late : Then → Candidate → TransactionState → TransactionState
acted_late (Ends reply) c s = record s { ended = Some reply }
acted_late (Leaves outcome) c s = noting outcome (gone_unless_waiting c s)
acted_late (Again way) c s = if is_tried c.progress then putting (progress.Again way None) c s else s
acted_late other c s = s

-- ---- events

-- the server that a test picks
abbrev pub picked : (Progress → Bool) → TransactionState → Option Candidate
picked test s = find (λ c. test c.progress) s.candidates

abbrev pub candidate_at : ℕ → TransactionState → Option Candidate
candidate_at place s = find (λ c. c.place == place) s.candidates

abbrev pub late_at : ℕ → ℕ → TransactionState → Option LateTry
late_at channel id s = find (λ l. is_try channel id l.tried) s.late

abbrev pub late_came_to : Candidate → Try → ReplyOutcome → ℕ → TransactionState → TransactionState
late_came_to c t outcome reply s = acted_late (after_reply c t outcome reply) c s

abbrev pub late_replied : ReplyOutcome → ℕ → LateTry → TransactionState → TransactionState
late_replied outcome reply l s =
    option_map_or (λ c. late_came_to c l.tried outcome reply s) (candidate_at l.place s) s

abbrev pub came_to : Candidate → ReplyOutcome → ℕ → TransactionState → TransactionState
came_to c outcome reply s = acted (then_of_reply c outcome reply) (stays_believed outcome) c s

-- a late try that was answered is late no more, unless it is believed on
abbrev pub without_answered : ReplyOutcome → ℕ → ℕ → TransactionState → TransactionState
without_answered outcome channel id s =
    if stays_believed outcome then s else record s { late = filter (λ l. not (is_try channel id l.tried)) s.late }

-- A reply to the try on this channel with this number was believed, and comes to this. Where there is no such try,
-- nothing changes.
abbrev pub came : ℕ → ℕ → ReplyOutcome → ℕ → TransactionState → TransactionState
came channel id outcome reply s =
    option_map_or (λ c. came_to c outcome reply s) (picked (waits_as channel id) s)
    (option_map_or (λ l. late_replied outcome reply l (without_answered outcome channel id s)) (late_at channel id s) s)

-- a header alone came that says that OPT is not known
abbrev pub opt_was_refused : ℕ → ℕ → TransactionState → TransactionState
opt_was_refused channel id s =
    option_map_or (λ c. acted (then_of_refused_opt c) false c s) (picked (waits_as channel id) s) s

-- a reply came that is right but for letters that were varied
abbrev pub other_letters_came : ℕ → ℕ → TransactionState → TransactionState
other_letters_came channel id s =
    option_map_or (λ c. acted (then_of_other_letters c) true c s) (picked (waits_as channel id) s) s

-- A channel failed. A datagram channel is believed up to its time; what waits on a stream is sent once anew.
abbrev pub failed_at : Candidate → Progress → Transport → Try → TransactionState → TransactionState
failed_at c p Udp t s =
    putting progress.Tried c (with_late (record { place = c.place; tried = t; has_failed = true }) s)
failed_at c p Tcp t s = acted (after_closed_stream c t) false c s

abbrev pub failed_in : Candidate → Progress → TransactionState → TransactionState
failed_in c (progress.Waiting t) s = failed_at c c.progress t.transport t s
failed_in c other s = s

abbrev pub failed : ℕ → TransactionState → TransactionState
failed channel s = option_map_or (λ c. failed_in c c.progress s) (picked (waits_on channel) s) s

-- There was no channel for it: nothing was sent, and it waits for one.
abbrev pub blocked_in : Candidate → Progress → TransactionState → TransactionState
blocked_in c (progress.Waiting t) s = replacing (blocked_as t c) s
blocked_in c other s = s

abbrev pub blocked : ℕ → TransactionState → TransactionState
blocked channel s = option_map_or (λ c. blocked_in c c.progress s) (picked (waits_on channel) s) s

-- a channel was closed: the first that waits for one is sent
abbrev pub freed : TransactionState → TransactionState
freed s = option_map_or (λ c. replacing (freed_one c) s) (picked is_blocked s) s

-- The time of one try has passed: of the first server whose has; else that of channels that failed before.
abbrev pub expired_in : Candidate → Progress → TransactionState → TransactionState
expired_in c (progress.Waiting t) s = acted (after_deadline s.settings.tcp_on_error c t) true c s
expired_in c (progress.Blocked way due) s = noting Timeout (putting progress.Tried c s)
expired_in c other s = s

abbrev pub late_expired : ℕ → TransactionState → TransactionState
late_expired now s =
    if list_any (has_failed_by now) s.late
    then noting Unreachable (record s { late = filter (λ l. not (has_failed_by now l)) s.late }) else s

abbrev pub expired : ℕ → TransactionState → TransactionState
expired now s = option_map_or (λ c. expired_in c c.progress s) (picked (is_due now) s) (late_expired now s)

-- ---- rounds

-- nothing of the round is still to come
abbrev pub is_idle : TransactionState → Bool
is_idle s = not (list_any (λ c. is_busy c.progress) s.candidates) && not (list_any (λ l. l.has_failed) s.late)

-- servers are left, and rounds
abbrev pub may_go_on : TransactionState → Bool
may_go_on s = nat_lt s.round s.settings.rounds && list_any (λ c. is_tried c.progress) s.candidates

abbrev pub wants_round : TransactionState → Bool
wants_round s = is_none s.ended && is_idle s && may_go_on s

-- the places of the servers that are left
abbrev pub places_left : TransactionState → List ℕ
places_left s = map (λ c. c.place) (filter (λ c. is_tried c.progress) s.candidates)

-- a round begins: each server that is left is tried in it, in this order
abbrev pub with_round : List ℕ → TransactionState → TransactionState
with_round order s =
    if wants_round s then record s {
      candidates = map {A = Candidate} requeued s.candidates;
      order = order;
      round = s.round + 1;
    } else s

-- ---- what is sent next

abbrev pub is_queued_at : List Candidate → ℕ → Bool
is_queued_at candidates place = option_map_or (λ c. is_queued c.progress) (slice_get candidates place) false

-- the first of the round that was not tried yet; an order that leaves one out is no reason to leave it out
abbrev pub first_queued : TransactionState → Option Candidate
first_queued s =
    option_or (option_and_then (slice_get s.candidates) (find (is_queued_at s.candidates) s.order)) (picked is_queued s)

abbrev pub may_send : TransactionState → Bool
may_send s =
    is_none s.ended && nat_lt (count_by (λ c. is_waiting c.progress) s.candidates) s.settings.concurrent

-- what is asked again goes before what was not asked yet
abbrev pub next_of : TransactionState → Option Candidate
next_of s = option_or (picked is_again s) (first_queued s)

abbrev pub chosen : TransactionState → Option Candidate
chosen s = if may_send s then next_of s else None

abbrev pub wanted : TransactionState → Option Wanted
wanted s = option_map (λ c. record { place = c.place; way = way_of c }) (chosen s)

-- the try that goes as what is wanted, made so
abbrev pub try_to_send : Made → TransactionState → Option Try
try_to_send made s = option_map (λ c. try_made made c s.settings) (chosen s)

-- what was wanted is sent
abbrev pub sent : Made → TransactionState → TransactionState
sent made s = option_map_or (λ c. replacing (sent_with made s.settings c) s) (chosen s) s

-- there is no channel for what was wanted: it waits for one, up to this moment where it did not before
abbrev pub unsent : ℕ → TransactionState → TransactionState
unsent due s = option_map_or (λ c. replacing (without_channel due c) s) (chosen s) s

abbrev pub has_late : TransactionState → Bool
has_late s = nat_lt 0 (length s.late)

-- ---- what it comes to, and up to when it waits

abbrev pub told : Option ℕ → Bool → Option Outcome → Option Outcome
told (Some reply) over noted = Some (Reply reply)
told None true noted = Some (unwrap_or noted Unreachable)
told None false noted = None

abbrev pub outcome_of : TransactionState → Option Outcome
outcome_of s = told s.ended (is_idle s && not (may_go_on s)) s.noted

-- the reply that it ended with, and before that the one of the best so far
abbrev pub reply_of : Outcome → Option ℕ
reply_of (Reply reply) = Some reply
reply_of (Cut reply) = Some reply
reply_of (Code reply) = Some reply
reply_of Unreachable = None
reply_of Timeout = None

abbrev pub named : TransactionState → Option ℕ
named s = option_or s.ended (option_and_then reply_of s.noted)

abbrev pub earlier : Option ℕ → ℕ → Option ℕ
earlier None due = Some due
earlier (Some other) due = if nat_lt due other then Some due else Some other

abbrev pub next_deadline : TransactionState → Option ℕ
next_deadline s =
    fold earlier (fold earlier None (filter_map (λ c. due_of c.progress) s.candidates)) (filter_map late_due s.late)

-- ---- tries

abbrev pub try_in : Progress → Option Try
try_in (progress.Waiting t) = Some t
try_in other = None

-- the try on this channel with this number
abbrev pub try_at : ℕ → ℕ → TransactionState → Option Try
try_at channel id s =
    option_or (option_and_then (λ c. try_in c.progress) (picked (waits_as channel id) s))
    (option_map (λ l. l.tried) (late_at channel id s))

-- the try of which `expired` says that its time has passed, if it is one that waits
abbrev pub due_try : ℕ → TransactionState → Option Try
due_try now s = option_and_then (λ c. try_in c.progress) (picked (is_due now) s)

-- the try that waits on this channel, where it tells something of the server that the channel fails
abbrev pub failed_try : ℕ → TransactionState → Option Try
failed_try channel s = option_and_then (λ c. failed_try_in c c.progress) (picked (waits_on channel) s)
