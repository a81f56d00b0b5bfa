-- The servers of a transaction, and the tries at them.
use Rattle.std.specs.Prelude.{ℕ, ◌+◌, ◌-◌, ◌^◌, Bool, true, false, ◌&&◌, ◌||◌, ◌==◌, min, nat_le, Option, None, Some, if◌then◌else◌, unwrap_or}
use Rattle.std.specs.Option.{is_some}
use Rattle.hickory_resolver_servers.specs.Server.{ServerState}
use Rattle.hickory_resolver_transactions.specs.declared.candidate.Candidate.{Candidate}
use Rattle.hickory_resolver_transactions.specs.declared.candidate.LateTry.{LateTry}
use Rattle.hickory_resolver_transactions.specs.declared.candidate.Made.{Made}
use Rattle.hickory_resolver_transactions.specs.declared.candidate.Progress.{Progress}
use Rattle.hickory_resolver_transactions.specs.declared.candidate.Progress.TheVariants.{Queued, Again, Blocked, Waiting, Tried, Gone}
use Rattle.hickory_resolver_transactions.specs.declared.candidate.Transport.{Transport}
use Rattle.hickory_resolver_transactions.specs.declared.candidate.Transport.TheVariants.{Udp, Tcp}
use Rattle.hickory_resolver_transactions.specs.declared.candidate.Try.{Try}
use Rattle.hickory_resolver_transactions.specs.declared.candidate.Way.{Way}
use Rattle.hickory_resolver_transactions.specs.declared.settings.Settings.{Settings}

-- ---- a server before the first round: one that has no port cannot be asked

abbrev pub candidate_of : ℕ → ServerState → Candidate
candidate_of place server = record {
  place = place;
  has_udp = is_some server.udp_port;
  has_tcp = is_some server.tcp_port;
  is_trusted = server.trust_negative_responses;
  udp_sends = 0;
  tcp_sends = 0;
  progress = if is_some server.udp_port || is_some server.tcp_port then Tried else Gone;
}

-- ---- how far it has come with it

abbrev pub is_again : Progress → Bool
is_again (Again way due) = true
is_again other = false

abbrev pub is_queued : Progress → Bool
is_queued Queued = true
is_queued other = false

abbrev pub is_waiting : Progress → Bool
is_waiting (Waiting t) = true
is_waiting other = false

abbrev pub is_blocked : Progress → Bool
is_blocked (Blocked way due) = true
is_blocked other = false

abbrev pub is_tried : Progress → Bool
is_tried Tried = true
is_tried other = false

-- something is still to come of it in this round
abbrev pub is_busy : Progress → Bool
is_busy Tried = false
is_busy Gone = false
is_busy other = true

-- ---- tries

abbrev pub is_udp : Transport → Bool
is_udp Udp = true
is_udp Tcp = false

-- it was sent on this channel with this number
abbrev pub is_try : ℕ → ℕ → Try → Bool
is_try channel id t = (t.channel == channel) && (t.form.id == id)

abbrev pub waits_as : ℕ → ℕ → Progress → Bool
waits_as channel id (Waiting t) = is_try channel id t
waits_as channel id other = false

abbrev pub waits_on : ℕ → Progress → Bool
waits_on channel (Waiting t) = t.channel == channel
waits_on channel other = false

-- up to when something is waited for: a reply, or a channel
abbrev pub due_of : Progress → Option ℕ
due_of (Waiting t) = Some t.due
due_of (Blocked way due) = Some due
due_of other = None

abbrev pub is_past : ℕ → Option ℕ → Bool
is_past now None = false
is_past now (Some due) = nat_le due now

abbrev pub is_due : ℕ → Progress → Bool
is_due now p = is_past now (due_of p)

-- ---- what is sent next

-- by UDP where it is asked over UDP
abbrev pub first_way : Candidate → Way
first_way c = record { transport = if c.has_udp then Udp else Tcp; with_opt = true }

abbrev pub way_in : Progress → Way → Way
way_in (Again way due) first = way
way_in other first = first

abbrev pub way_of : Candidate → Way
way_of c = way_in c.progress (first_way c)

abbrev pub way_of_try : Try → Way
way_of_try t = record { transport = t.transport; with_opt = t.form.with_opt }

-- up to when a channel was waited for, where one was
abbrev pub channel_due_of : Progress → Option ℕ
channel_due_of (Again way due) = due
channel_due_of other = None

-- the try at a server as it is sent next, with what was drawn for it; letters are varied by UDP alone
abbrev pub try_made : Made → Candidate → Settings → Try
try_made made c settings = record {
  channel = made.channel;
  transport = (way_of c).transport;
  form = record {
    id = made.id;
    letters = if settings.varies_letters && is_udp (way_of c).transport then Some made.letters else None;
    with_opt = (way_of c).with_opt;
  };
  sent_at = made.moment;
  due = min (made.moment + settings.timeout) (2 ^ 64 - 1);
  channel_due = channel_due_of c.progress;
}

-- with one message sent more, and one less
abbrev pub counted : Transport → Candidate → Candidate
counted Udp c = record c { udp_sends = min (c.udp_sends + 1) 255 }
counted Tcp c = record c { tcp_sends = min (c.tcp_sends + 1) 255 }

abbrev pub uncounted : Transport → Candidate → Candidate
uncounted Udp c = record c { udp_sends = c.udp_sends - 1 }
uncounted Tcp c = record c { tcp_sends = c.tcp_sends - 1 }

abbrev pub sent_with : Made → Settings → Candidate → Candidate
sent_with made settings c =
    record (counted (way_of c).transport c) { progress = Waiting (try_made made c settings) }

-- ---- where there is no channel: it waits for one, and where it waited for one before, no longer than that

-- before it was sent
abbrev pub without_channel : ℕ → Candidate → Candidate
without_channel due c = record c { progress = Blocked (way_of c) (unwrap_or (channel_due_of c.progress) due) }

-- after it: nothing was sent
abbrev pub blocked_as : Try → Candidate → Candidate
blocked_as t c =
    uncounted t.transport (record c { progress = Blocked (way_of_try t) (unwrap_or t.channel_due t.due) })

-- ---- at the beginning of a round, and once a channel is free

abbrev pub requeued : Candidate → Candidate
requeued c = if is_tried c.progress then record c { udp_sends = 0; tcp_sends = 0; progress = Queued } else c

abbrev pub freed_progress : Progress → Progress
freed_progress (Blocked way due) = Again way (Some due)
freed_progress other = other

abbrev pub freed_one : Candidate → Candidate
freed_one c = record c { progress = freed_progress c.progress }

-- ---- tries that are not waited for any more

abbrev pub late_due : LateTry → Option ℕ
late_due l = if l.has_failed then Some l.tried.due else None

abbrev pub has_failed_by : ℕ → LateTry → Bool
has_failed_by now l = l.has_failed && nat_le l.tried.due now
