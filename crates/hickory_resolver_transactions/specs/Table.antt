-- What is done with a server once something came of its try. In a round a server is sent two messages at most by one
-- transport.
use Rattle.std.specs.Prelude.{ℕ, Bool, true, false, not, ◌&&◌, ◌||◌, ◌==◌, nat_lt, Option, None, Some, if◌then◌else◌}
use Rattle.hickory_resolver_tries.specs.declared.outcome.ReplyOutcome.{ReplyOutcome}
use Rattle.hickory_resolver_tries.specs.declared.outcome.ReplyOutcome.TheVariants as came
use Rattle.hickory_resolver_transactions.specs.Candidates.{is_udp}
use Rattle.hickory_resolver_transactions.specs.declared.candidate.Candidate.{Candidate}
use Rattle.hickory_resolver_transactions.specs.declared.candidate.Progress.{Progress}
use Rattle.hickory_resolver_transactions.specs.declared.candidate.Progress.TheVariants.{Waiting}
use Rattle.hickory_resolver_transactions.specs.declared.candidate.Transport.{Transport}
use Rattle.hickory_resolver_transactions.specs.declared.candidate.Transport.TheVariants.{Udp, Tcp}
use Rattle.hickory_resolver_transactions.specs.declared.candidate.Try.{Try}
use Rattle.hickory_resolver_transactions.specs.declared.choices.TheConstants.{SENDS_BY_TRANSPORT}
use Rattle.hickory_resolver_transactions.specs.declared.outcome.Outcome.TheVariants as told
use Rattle.hickory_resolver_transactions.specs.declared.table.Then.{Then}
use Rattle.hickory_resolver_transactions.specs.declared.table.Then.TheVariants.{Ends, Leaves, Rests, Again, Nothing}

abbrev pub sends_by : Transport → Candidate → ℕ
sends_by Udp c = c.udp_sends
sends_by Tcp c = c.tcp_sends

abbrev pub has_room : Transport → Candidate → Bool
has_room transport c = nat_lt (sends_by transport c) SENDS_BY_TRANSPORT

-- what UDP cut is asked by TCP; and what UDP did not bring, where TCP was not asked yet
abbrev pub may_change_to_tcp : Candidate → Try → Bool
may_change_to_tcp c t = is_udp t.transport && c.has_tcp && has_room Tcp c

abbrev pub may_begin_tcp : Candidate → Try → Bool
may_begin_tcp c t = is_udp t.transport && c.has_tcp && (c.tcp_sends == 0)

abbrev pub again_if : Bool → Transport → Bool → Then → Then
again_if may transport with_opt otherwise =
    if may then Again (record { transport = transport; with_opt = with_opt }) else otherwise

-- ---- a believed reply, by what it comes to

abbrev pub after_reply : Candidate → Try → ReplyOutcome → ℕ → Then
after_reply c t came.Answer reply = Ends reply
after_reply c t came.Negative reply = if c.is_trusted then Ends reply else Leaves (told.Reply reply)
after_reply c t came.Truncated reply =
    again_if (may_change_to_tcp c t) Tcp t.form.with_opt (Leaves (told.Cut reply))
after_reply c t came.WithoutOpt reply =
    again_if (has_room t.transport c) t.transport false (Leaves (told.Code reply))
after_reply c t came.BadRest reply = Leaves (told.Code reply)
after_reply c t (came.Code code) reply = Leaves (told.Code reply)
after_reply c t came.Lame reply = Leaves (told.Code reply)

-- garbage behind a right question may be a forger's, so that the try is believed on
abbrev pub stays_believed : ReplyOutcome → Bool
stays_believed came.BadRest = true
stays_believed other = false

-- ---- what is no reply

-- a header alone that says that OPT is not known: the same without OPT
abbrev pub after_refused_opt : Candidate → Try → Then
after_refused_opt c t = again_if (has_room t.transport c) t.transport false Nothing

-- right but for letters that were varied: by TCP, which nobody forges blindly
abbrev pub after_other_letters : Candidate → Try → Then
after_other_letters c t = again_if (may_begin_tcp c t) Tcp t.form.with_opt Nothing

-- nothing came in time
abbrev pub after_deadline : Bool → Candidate → Try → Then
after_deadline tcp_on_error c t =
    again_if (tcp_on_error && may_begin_tcp c t) Tcp t.form.with_opt (Rests told.Timeout)

-- a stream failed, or was closed: once anew
abbrev pub after_closed_stream : Candidate → Try → Then
after_closed_stream c t = again_if (has_room Tcp c) Tcp t.form.with_opt (Rests told.Unreachable)

-- ---- the same of the try that waits

abbrev pub then_in : (Try → Then) → Progress → Then
then_in after (Waiting t) = after t
then_in after other = Nothing

abbrev pub then_of_reply : Candidate → ReplyOutcome → ℕ → Then
then_of_reply c outcome reply = then_in (λ t. after_reply c t outcome reply) c.progress

abbrev pub then_of_refused_opt : Candidate → Then
then_of_refused_opt c = then_in (after_refused_opt c) c.progress

abbrev pub then_of_other_letters : Candidate → Then
then_of_other_letters c = then_in (after_other_letters c) c.progress

-- The try, where it tells something of the server that its channel fails: what waits on a stream is first sent anew.
abbrev pub failed_try_in : Candidate → Progress → Option Try
failed_try_in c (Waiting t) = if is_udp t.transport || not (has_room Tcp c) then Some t else None
failed_try_in c other = None
