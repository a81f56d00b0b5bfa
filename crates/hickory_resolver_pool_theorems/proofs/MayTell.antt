-- What a transaction would tell, were it over now, and what may be told of what came of a try.
use Rattle.std.proofs.Common.{ℕ, Bool, true, false, cond, ltb}
use Rattle.std.specs.Prelude.{Option, None, Some, IfSome}
use Rattle.hickory_resolver_tries.specs.declared.outcome.ReplyOutcome.{ReplyOutcome}
use Rattle.hickory_resolver_tries.specs.declared.outcome.ReplyOutcome.TheVariants as came
use Rattle.hickory_resolver_transactions.specs.Outcomes.{better, rank_of}
use Rattle.hickory_resolver_transactions.specs.Table.{has_room, may_change_to_tcp, after_reply, again_if, then_in}
use Rattle.hickory_resolver_transactions.specs.Transaction.{TransactionState}
use Rattle.hickory_resolver_transactions.specs.declared.candidate.Candidate.{Candidate}
use Rattle.hickory_resolver_transactions.specs.declared.candidate.Progress.{Progress}
use Rattle.hickory_resolver_transactions.specs.declared.candidate.Progress.TheVariants as progress
use Rattle.hickory_resolver_transactions.specs.declared.candidate.Transport.{Transport}
use Rattle.hickory_resolver_transactions.specs.declared.candidate.Transport.TheVariants.{Tcp}
use Rattle.hickory_resolver_transactions.specs.declared.candidate.Try.{Try}
use Rattle.hickory_resolver_transactions.specs.declared.outcome.Outcome.{Outcome}
use Rattle.hickory_resolver_transactions.specs.declared.outcome.Outcome.TheVariants as told
use Rattle.hickory_resolver_transactions.specs.declared.table.Then.{Then}
use Rattle.hickory_resolver_transactions.specs.declared.table.Then.TheVariants.{Ends, Leaves, Rests, Again, Nothing}

-- the reply that ended it, or the best that was noted
abbrev pub best_of : Option ℕ → Option Outcome → Option Outcome
best_of (Some reply) noted = Some (told.Reply reply)
best_of None noted = noted

abbrev pub best : TransactionState → Option Outcome
best s = best_of s.ended s.noted

-- what a reply of this number is noted as
abbrev pub told_by : ReplyOutcome → ℕ → Outcome
told_by came.Answer reply = told.Reply reply
told_by came.Negative reply = told.Reply reply
told_by came.Truncated reply = told.Cut reply
told_by other reply = told.Code reply

module _ (P : Outcome → Type 0) where
  pub better-told : (old : Option Outcome) (new : Outcome) → IfSome old P → P new → IfSome (better old new) P
  better-told None new h k = k
  better-told (Some o) new h k = by (ltb (rank_of new) (rank_of o))
    where
      by : (is_better : Bool) → IfSome (cond is_better (Some new) (Some o)) P
      by true = k
      by false = h

  pub told-noted : (ended : Option ℕ) (noted after : Option Outcome) → (IfSome noted P → IfSome after P)
      → IfSome (best_of ended noted) P → IfSome (best_of ended after) P
  told-noted None noted after f h = f h
  told-noted (Some reply) noted after f h = h

  -- what is done tells what may be told
  abbrev pub MayTell : Then → Type 0
  MayTell (Ends reply) = P (told.Reply reply)
  MayTell (Leaves o) = P o
  MayTell (Rests o) = P o
  MayTell (Again way) = Unit {0}
  MayTell Nothing = Unit {0}

  pub may-again : (may : Bool) (how : Transport) (opt : Bool) (t : Then) → MayTell t → MayTell (again_if may how opt t)
  may-again true how opt t k = tt
  may-again false how opt t k = k

  pub may-reply : (c : Candidate) (t : Try) (outcome : ReplyOutcome) (reply : ℕ) → P (told_by outcome reply)
      → MayTell (after_reply c t outcome reply)
  may-reply c t came.Answer reply k = k
  may-reply c t came.Negative reply k = by c.is_trusted
    where
      by : (trusted : Bool) → MayTell (cond trusted (Ends reply) (Leaves (told.Reply reply)))
      by true = k
      by false = k
  may-reply c t came.Truncated reply k =
      may-again (may_change_to_tcp c t) Tcp t.form.with_opt (Leaves (told.Cut reply)) k
  may-reply c t came.WithoutOpt reply k =
      may-again (has_room t.transport c) t.transport false (Leaves (told.Code reply)) k
  may-reply c t came.BadRest reply k = k
  may-reply c t (came.Code code) reply k = k
  may-reply c t came.Lame reply k = k

  pub may-then : (after : Try → Then) (p : Progress) → ((t : Try) → MayTell (after t)) → MayTell (then_in after p)
  may-then after progress.Queued f = tt
  may-then after (progress.Again way due) f = tt
  may-then after (progress.Blocked way due) f = tt
  may-then after (progress.Waiting t) f = f t
  may-then after progress.Tried f = tt
  may-then after progress.Gone f = tt
