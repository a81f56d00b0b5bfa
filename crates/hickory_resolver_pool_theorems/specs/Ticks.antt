-- Where ticks come, a transaction does not wait for ever.
use Rattle.std.specs.Prelude.{◌≡◌, ◌≤◌, ◌<◌, ℕ, ◌+◌, Bool, true, false, ◌||◌, List, [], ◌∷◌, Some}
use Rattle.hickory_resolver_transactions.specs.Candidates.{is_waiting, is_blocked}
use Rattle.hickory_resolver_transactions.specs.Transaction.{TransactionState, next_deadline, expired}
use Rattle.hickory_resolver_transactions.specs.declared.candidate.Candidate.{Candidate}
use Rattle.hickory_resolver_transactions.specs.declared.candidate.LateTry.{LateTry}
use Rattle.hickory_resolver_pool_theorems.specs.Causes.{IsMade}

abbrev pub one_if : Bool → ℕ
one_if true = 1
one_if false = 0

-- of how many servers a try waits for a reply, or for a channel
abbrev pub waiting_in : List Candidate → ℕ
waiting_in [] = 0
waiting_in (c ∷ cs) = one_if (is_waiting c.progress || is_blocked c.progress) + waiting_in cs

-- of how many tries the channel failed, of which nothing is noted yet
abbrev pub failed_in : List LateTry → ℕ
failed_in [] = 0
failed_in (l ∷ ls) = one_if l.has_failed + failed_in ls

abbrev pub waits_for : TransactionState → ℕ
waits_for t = waiting_in t.candidates + failed_in t.late

-- Time passes up to the moment up to which it waits, or past it: it waits for less then. So where nothing else comes it
-- waits for nothing after as many such ticks as it waits for; and then a round begins, of which there are three at most,
-- something is sent, or it is over.
abbrev pub EachTickLowers : Type 0
EachTickLowers =
    (t : TransactionState) → IsMade t → (due now : ℕ) → next_deadline t ≡ Some due → due ≤ now
    → waits_for (expired now t) < waits_for t
