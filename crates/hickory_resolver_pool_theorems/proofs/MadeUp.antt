-- Nothing is made up.
use Rattle.std.proofs.Common.{◌≡◌, ℕ, Bool, true, false, ◌&&◌, not, List, refl, ap, sym, subst, ◌∙◌, true≢false}
use Rattle.std.specs.Prelude.{Option, None, Some, IfSome}
use Rattle.hickory_resolver_flights.specs.Flights.{KeptValue}
use Rattle.hickory_resolver_transactions.specs.Transaction.{told, outcome_of, is_idle, may_go_on}
use Rattle.hickory_resolver_transactions.specs.declared.outcome.Outcome.{Outcome}
use Rattle.hickory_resolver_transactions.specs.declared.outcome.Outcome.TheVariants as kind
use Rattle.hickory_resolver_tries.specs.declared.pool_question.PoolQuestion.{PoolQuestion}
use Rattle.hickory_resolver_traffic.specs.Doing.{doing}
use Rattle.hickory_resolver_traffic.specs.Table.{CurrentState, EntryState}
use Rattle.hickory_resolver_traffic.specs.declared.doing.Doing.{Doing}
use Rattle.hickory_resolver_traffic.specs.declared.doing.Doing.TheVariants.{Hears, Doubts, Stalls, Fails, Quits, PutsBack, Expires, Frees, Refused, Leaves, Ends, Draws, BeginsRound, GivesUp, Blocks, Sends, Dates, Rests}
use Rattle.hickory_resolver_pool.specs.Over.{OverValue, told_as, is_of_reply}
use Rattle.hickory_resolver_pool.specs.declared.over.PoolOutcome.{PoolOutcome}
use Rattle.hickory_resolver_pool.specs.Pool.{no_servers, told_outcome, outcome_in, over_of, is_end}
use Rattle.hickory_resolver_pool_theorems.specs.Runs.{Happening}
use Rattle.hickory_resolver_pool_theorems.specs.MadeUp.{IsBelievedReply, HasBelievedReply, NothingIsMadeUp}
use Rattle.hickory_resolver_pool_theorems.proofs.MayTell.{best_of}
use Rattle.hickory_resolver_pool_theorems.proofs.Flights.{KeepsBest, IsKept}
use Rattle.hickory_resolver_pool_theorems.proofs.Overs.{IsEnd, told-at_end}
use Rattle.hickory_resolver_pool_theorems.proofs.Pools.{IsCurrent}
use Rattle.hickory_resolver_pool_theorems.proofs.Traces.{SentIn, holds-first, holds-runs}

-- an end in a reply is that of a transaction that came to an outcome
ends-in : (what : Doing) (e : EntryState) → is_end what ≡ true → is_of_reply (outcome_in what e) ≡ true
    → outcome_in what e ≡ told_outcome (outcome_of e.flying.flight.transaction)
ends-in Ends e is reply = refl
ends-in Refused e is reply = absurd (true≢false (sym reply))
ends-in Hears e is reply = absurd (true≢false (sym is))
ends-in Doubts e is reply = absurd (true≢false (sym is))
ends-in Stalls e is reply = absurd (true≢false (sym is))
ends-in Fails e is reply = absurd (true≢false (sym is))
ends-in Quits e is reply = absurd (true≢false (sym is))
ends-in PutsBack e is reply = absurd (true≢false (sym is))
ends-in Expires e is reply = absurd (true≢false (sym is))
ends-in Frees e is reply = absurd (true≢false (sym is))
ends-in (Leaves place) e is reply = absurd (true≢false (sym is))
ends-in Draws e is reply = absurd (true≢false (sym is))
ends-in (BeginsRound place) e is reply = absurd (true≢false (sym is))
ends-in GivesUp e is reply = absurd (true≢false (sym is))
ends-in Blocks e is reply = absurd (true≢false (sym is))
ends-in Sends e is reply = absurd (true≢false (sym is))
ends-in (Dates due) e is reply = absurd (true≢false (sym is))
ends-in Rests e is reply = absurd (true≢false (sym is))

module _ (past : List Happening) (n : ℕ) (q : PoolQuestion) (kept : Option KeptValue) where
  abbrev IsReplyOf : Outcome → Type 0
  IsReplyOf o = (k : KeptValue) × (kept ≡ Some k) × IsBelievedReply past n q (told_as o) k

  is-kept : (o : Outcome) (number : ℕ) → IsKept past n q o number kept → IsReplyOf o
  is-kept o number k = (k.reply, k.kept_is, k.believed)

  reply-told : (o : Outcome) → KeepsBest past n q kept o → is_of_reply (told_as o) ≡ true → IsReplyOf o
  reply-told (kind.Reply number) k reply = is-kept (kind.Reply number) number k
  reply-told (kind.Cut number) k reply = is-kept (kind.Cut number) number k
  reply-told (kind.Code number) k reply = is-kept (kind.Code number) number k
  reply-told kind.Unreachable k reply = absurd (true≢false (sym reply))
  reply-told kind.Timeout k reply = absurd (true≢false (sym reply))

  -- an outcome is the best, or says that nothing was noted
  best-told : (ended : Option ℕ) (over : Bool) (noted : Option Outcome) → IfSome (best_of ended noted) (KeepsBest past n q kept)
      → (o : Outcome) → told ended over noted ≡ Some o → is_of_reply (told_as o) ≡ true → IsReplyOf o
  best-told (Some number) over noted k o e reply =
      let same : kind.Reply number ≡ o = cc in
      subst IsReplyOf same (is-kept (kind.Reply number) number k)
  best-told None true None k o e reply =
      let same : kind.Unreachable ≡ o = cc in
      absurd (true≢false (sym (ap (λ (x : Outcome). is_of_reply (told_as x)) same ∙ reply)))
  best-told None true (Some noted) k o e reply =
      let same : noted ≡ o = cc in
      reply-told o (subst (λ (x : Outcome). KeepsBest past n q kept x) same k) reply
  best-told None false noted k o e reply = absurd cc

  end-told : (ended : Option ℕ) (over : Bool) (noted : Option Outcome) → IfSome (best_of ended noted) (KeepsBest past n q kept)
      → is_of_reply (told_outcome (told ended over noted)) ≡ true
      → (k : KeptValue) × (kept ≡ Some k) × IsBelievedReply past n q (told_outcome (told ended over noted)) k
  end-told ended over noted k reply = by (told ended over noted) refl reply
    where
      by : (o : Option Outcome) → told ended over noted ≡ o → is_of_reply (told_outcome o) ≡ true
          → (r : KeptValue) × (kept ≡ Some r) × IsBelievedReply past n q (told_outcome o) r
      by None e is = absurd (true≢false (sym is))
      by (Some o) e is = best-told ended over noted k o e is

pub nothing_is_made_up : NothingIsMadeUp
nothing_is_made_up options limits seed past s after o runs steps reply = by-end (told-at_end o s after steps)
  where
    by-end : IsEnd s o → HasBelievedReply past o o.kept
    by-end end =
        let c : CurrentState = end.current in
        let held = holds-runs (no_servers options limits seed) past s (holds-first options limits seed) runs in
        let own : IsCurrent (SentIn past s) past c =
        subst (λ (x : Option CurrentState). IfSome x (IsCurrent (SentIn past s) past)) end.works held.current in
        let f = c.entry.flying.flight in
        let is_reply : is_of_reply (outcome_in (doing c s.traffic) c.entry) ≡ true =
        ap (λ (x : OverValue). is_of_reply x.outcome) (sym end.told) ∙ reply in
        let same = ends-in (doing c s.traffic) c.entry end.ends is_reply in
        let found = end-told past c.number f.question f.kept f.transaction.ended
        (is_idle f.transaction && not (may_go_on f.transaction)) f.transaction.noted own.flight.keeps
        (ap (λ (x : PoolOutcome). is_of_reply x) (sym same) ∙ is_reply) in
        let believed : IsBelievedReply past c.number c.entry.asked.1 (outcome_in (doing c s.traffic) c.entry) found.0 =
        subst (λ (x : PoolOutcome). IsBelievedReply past c.number c.entry.asked.1 x found.0) (sym same)
        (subst (λ (x : PoolQuestion). IsBelievedReply past c.number x (told_outcome (outcome_of f.transaction)) found.0)
        own.question found.2) in
        let over : OverValue = over_of (doing c s.traffic) c end.askers in
        subst (λ (x : OverValue). HasBelievedReply past x x.kept) (sym end.told)
        (subst (λ (k : Option KeptValue). HasBelievedReply past over k) (sym found.1) believed)
