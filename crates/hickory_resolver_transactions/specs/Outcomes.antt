-- The best of what has come so far, for when nothing better comes.
use Rattle.std.specs.Prelude.{ℕ, nat_lt, Option, None, Some, if◌then◌else◌}
use Rattle.hickory_resolver_transactions.specs.declared.outcome.Outcome.{Outcome}
use Rattle.hickory_resolver_transactions.specs.declared.outcome.Outcome.TheVariants.{Reply, Cut, Code, Unreachable, Timeout}

-- a negative answer, then one that was cut, then another code, then unreachable, then a timeout
abbrev pub rank_of : Outcome → ℕ
rank_of (Reply reply) = 0
rank_of (Cut reply) = 1
rank_of (Code reply) = 2
rank_of Unreachable = 3
rank_of Timeout = 4

-- the better one, and of one kind the first
abbrev pub better : Option Outcome → Outcome → Option Outcome
better None new = Some new
better (Some old) new = if nat_lt (rank_of new) (rank_of old) then Some new else Some old
