-- What a transaction tells has its cause among its events.
use Rattle.std.proofs.Common.{◌≤◌, ℕ, List, [], ◌∷◌, ◌++◌, refl, ap, sym, subst, ◌∙◌, append_assoc, append-nil}
use Rattle.std.specs.Prelude.{Option, None, Some, IfSome}
use Rattle.std.specs.List.{AllByRecursion}
use Rattle.std.proofs.lemmas.List.Sums.{fold-append}
use Rattle.hickory_resolver_servers.specs.Server.{ServerState}
use Rattle.hickory_resolver_tries.specs.declared.outcome.ReplyOutcome.{ReplyOutcome}
use Rattle.hickory_resolver_tries.specs.declared.outcome.ReplyOutcome.TheVariants as reply
use Rattle.hickory_resolver_transactions.specs.Laws.{TransactionEvent, round_begins, is_sent, has_no_room, reply_came, opt_refused, letters_differ, channel_failed, no_channel, channel_free, oldest_given_up, time_passed, after_event, after_events}
use Rattle.hickory_resolver_transactions.specs.Transaction.{TransactionState, begun_with}
use Rattle.hickory_resolver_transactions.specs.declared.candidate.LateTry.{LateTry}
use Rattle.hickory_resolver_transactions.specs.declared.outcome.Outcome.{Outcome}
use Rattle.hickory_resolver_transactions.specs.declared.outcome.Outcome.TheVariants as told
use Rattle.hickory_resolver_transactions.specs.declared.settings.Settings.{Settings}
use Rattle.hickory_resolver_pool_theorems.specs.Causes.{IsMade, PassesToldTime, HasRunOut, HasFailed}
use Rattle.hickory_resolver_pool_theorems.proofs.MayTell.{best, told_by}
use Rattle.hickory_resolver_pool_theorems.proofs.Reasons.{Well, FailedLate, well-came, well-opt, well-letters, well-failed, well-blocked, well-freed, well-oldest, well-unsent, well-sent, well-round, well-expired}

-- ---- a transaction, one event later

pub made-next : (t : TransactionState) (e : TransactionEvent) → IsMade t → IsMade (after_event t e)
made-next t e m = record {
  settings = m.settings;
  servers = m.servers;
  events = m.events ++ e ∷ [];
  made = ap (λ (x : TransactionState). after_event x e) m.made
      ∙ sym (fold-append after_event (begun_with m.settings m.servers) m.events (e ∷ []));
  rounds = m.rounds;
}

pub made-first : (settings : Settings) (servers : List ServerState) → 1 ≤ settings.rounds
    → IsMade (begun_with settings servers)
made-first settings servers some = record {
  settings = settings;
  servers = servers;
  events = [];
  made = refl;
  rounds = some;
}

-- it is made what it is by events whose moments were told
pub record IsMadeBy (latest : ℕ) (t : TransactionState) : Type 0 where
  pub made : IsMade t
  pub told : AllByRecursion (PassesToldTime latest) made.events

module _ (latest : ℕ) where
  all-pushed : (es : List TransactionEvent) (e : TransactionEvent) → AllByRecursion (PassesToldTime latest) es → PassesToldTime latest e
      → AllByRecursion (PassesToldTime latest) (es ++ e ∷ [])
  all-pushed [] e all one = (one, tt)
  all-pushed (x ∷ xs) e all one = (all.0, all-pushed xs e all.1 one)

  pub by-next : (t : TransactionState) (e : TransactionEvent) → PassesToldTime latest e → IsMadeBy latest t
      → IsMadeBy latest (after_event t e)
  unfolding made-next
  by-next t e one m = record { made = made-next t e m.made; told = all-pushed m.made.events e m.told one }

  pub by-none : (settings : Settings) (servers : List ServerState) → 1 ≤ settings.rounds
      → IsMadeBy latest (begun_with settings servers)
  unfolding made-first
  by-none settings servers some = record { made = made-first settings servers some; told = tt }

-- ---- causes

abbrev pub Cause : TransactionState → List TransactionEvent → Outcome → Type 0
Cause start events told.Timeout = HasRunOut start events
Cause start events told.Unreachable = HasFailed start events
Cause start events other = Unit {0}

module _ (start : TransactionState) where
  reply-cause : (events : List TransactionEvent) (outcome : ReplyOutcome) (number : ℕ)
      → Cause start events (told_by outcome number)
  reply-cause events reply.Answer number = tt
  reply-cause events reply.Negative number = tt
  reply-cause events reply.Truncated number = tt
  reply-cause events reply.WithoutOpt number = tt
  reply-cause events reply.BadRest number = tt
  reply-cause events (reply.Code code) number = tt
  reply-cause events reply.Lame number = tt

  cause-more : (done more : List TransactionEvent) (o : Outcome) → Cause start done o → Cause start (done ++ more) o
  cause-more done more (told.Reply number) k = tt
  cause-more done more (told.Cut number) k = tt
  cause-more done more (told.Code number) k = tt
  cause-more done more told.Unreachable k = record {
    before = k.before;
    later = k.later ++ more;
    channel = k.channel;
    server = k.server;
    happened = ap (λ (es : List TransactionEvent). es ++ more) k.happened
        ∙ append_assoc k.before (channel_failed k.channel ∷ k.later) more;
    waited = k.waited;
  }
  cause-more done more told.Timeout k = record {
    before = k.before;
    later = k.later ++ more;
    now = k.now;
    server = k.server;
    happened = ap (λ (es : List TransactionEvent). es ++ more) k.happened
        ∙ append_assoc k.before (time_passed k.now ∷ k.later) more;
    due = k.due;
  }

  module _ (done more : List TransactionEvent) where
    some-more : (o : Option Outcome) → IfSome o (Cause start done) → IfSome o (Cause start (done ++ more))
    some-more None k = tt
    some-more (Some o) k = cause-more done more o k

    late-more : (ls : List LateTry) → AllByRecursion (FailedLate (Cause start done)) ls
        → AllByRecursion (FailedLate (Cause start (done ++ more))) ls
    late-more [] all = tt
    late-more (l ∷ ls) all = ((λ e. cause-more done more told.Unreachable (all.0 e)), late-more ls all.1)

    well-more : (s : TransactionState) → Well (Cause start done) s → Well (Cause start (done ++ more)) s
    well-more s h = record { told = some-more (best s) h.told; late = late-more s.late h.late }

  well-event : (done : List TransactionEvent) (event : TransactionEvent) → Well (Cause start done) (after_events start done)
      → Well (Cause start (done ++ event ∷ [])) (after_event (after_events start done) event)
  well-event done (round_begins order) h =
      well-round (Cause start (done ++ round_begins order ∷ [])) (after_events start done)
      (well-more done (round_begins order ∷ []) (after_events start done) h) order
  well-event done (is_sent made) h =
      well-sent (Cause start (done ++ is_sent made ∷ [])) (after_events start done)
      (well-more done (is_sent made ∷ []) (after_events start done) h) made
  well-event done (has_no_room due) h =
      well-unsent (Cause start (done ++ has_no_room due ∷ [])) (after_events start done)
      (well-more done (has_no_room due ∷ []) (after_events start done) h) due
  well-event done (reply_came channel id outcome number) h =
      well-came (Cause start (done ++ reply_came channel id outcome number ∷ [])) (after_events start done)
      (well-more done (reply_came channel id outcome number ∷ []) (after_events start done) h) channel id outcome number
      (reply-cause (done ++ reply_came channel id outcome number ∷ []) outcome number)
  well-event done (opt_refused channel id) h =
      well-opt (Cause start (done ++ opt_refused channel id ∷ [])) (after_events start done)
      (well-more done (opt_refused channel id ∷ []) (after_events start done) h) channel id
  well-event done (letters_differ channel id) h =
      well-letters (Cause start (done ++ letters_differ channel id ∷ [])) (after_events start done)
      (well-more done (letters_differ channel id ∷ []) (after_events start done) h) channel id
  well-event done (channel_failed channel) h =
      well-failed (Cause start (done ++ channel_failed channel ∷ [])) (after_events start done)
      (well-more done (channel_failed channel ∷ []) (after_events start done) h) channel
      (λ c e. record { before = done; later = []; channel = channel; server = c; happened = refl; waited = e })
  well-event done (no_channel channel) h =
      well-blocked (Cause start (done ++ no_channel channel ∷ [])) (after_events start done)
      (well-more done (no_channel channel ∷ []) (after_events start done) h) channel
  well-event done channel_free h =
      well-freed (Cause start (done ++ channel_free ∷ [])) (after_events start done)
      (well-more done (channel_free ∷ []) (after_events start done) h)
  well-event done oldest_given_up h =
      well-oldest (Cause start (done ++ oldest_given_up ∷ [])) (after_events start done)
      (well-more done (oldest_given_up ∷ []) (after_events start done) h)
  well-event done (time_passed now) h =
      well-expired (Cause start (done ++ time_passed now ∷ [])) (after_events start done)
      (well-more done (time_passed now ∷ []) (after_events start done) h) now
      (λ c e. record { before = done; later = []; now = now; server = c; happened = refl; due = e })

  well-events : (done rest : List TransactionEvent) → Well (Cause start done) (after_events start done)
      → Well (Cause start (done ++ rest)) (after_events start (done ++ rest))
  well-events done [] h =
      subst (λ (es : List TransactionEvent). Well (Cause start es) (after_events start es)) (sym (append-nil done)) h
  well-events done (event ∷ rest) h =
      let one = subst (λ (s : TransactionState). Well (Cause start (done ++ event ∷ [])) s)
      (sym (fold-append after_event start done (event ∷ []))) (well-event done event h) in
      let all = well-events (done ++ event ∷ []) rest one in
      subst (λ (es : List TransactionEvent). Well (Cause start es) (after_events start es))
      (append_assoc done (event ∷ []) rest) all

pub has-cause : (t : TransactionState) (m : IsMade t) → IfSome (best t) (Cause (begun_with m.settings m.servers) m.events)
has-cause t m =
    let start = begun_with m.settings m.servers in
    let well = well-events start [] m.events (record { told = tt; late = tt }) in
    subst (λ (s : TransactionState). IfSome (best s) (Cause start m.events)) (sym m.made) well.told
