-- Transactions by number: those in flight and those that wait for a place, when each is due, and which wait for a
-- channel.
use Rattle.std.specs.Prelude.{ℕ, Bool, List, [], slice_get, Option, None, Some}
use Rattle.std.specs.Ordering.{nat_cmp}
use Rattle.std.specs.Option.{is_some}
use Rattle.std.specs.Map.{lookup, remove_entry}
use Rattle.std.specs.List.{list_any}
use Rattle.std.specs.Set.{remove_key}
use Rattle.std.specs.BTreeMap.{insert_entry, is_at}
use Rattle.std.specs.BTreeSet.{insert_key}
use Rattle.hickory_resolver_channels.specs.Channels.{pair_cmp}
use Rattle.hickory_resolver_steps.specs.Steps.{FlyingState}
use Rattle.hickory_resolver_tries.specs.declared.pool_question.PoolQuestion.{PoolQuestion}
use Rattle.hickory_resolver_traffic.specs.declared.entry.ToDo.{ToDo}

-- Which question to the servers of which list; the place from which its rounds go in turn, once it is drawn; and the
-- moment under which it stands among the deadlines.
pub record EntryState : Type 0 where
  pub asked : ℕ × PoolQuestion
  pub flying : FlyingState
  pub place : Option ℕ
  pub due : Option ℕ

-- the transaction that is worked on, which is not among the others meanwhile
pub record CurrentState : Type 0 where
  pub number : ℕ
  pub to_do : ToDo
  pub entry : EntryState

pub record TableState : Type 0 where
  pub entries : List (ℕ × EntryState)
  pub deadlines : List (ℕ × ℕ)
  pub blocked : List ℕ

abbrev pub no_entries : TableState
no_entries = record { entries = []; deadlines = []; blocked = [] }

abbrev pub entry_at : ℕ → TableState → Option EntryState
entry_at n s = lookup (is_at (nat_cmp n)) s.entries

abbrev pub has_entry : ℕ → TableState → Bool
has_entry n s = is_some (entry_at n s)

abbrev pub with_entry : ℕ → EntryState → TableState → TableState
with_entry n e s = record s { entries = insert_entry nat_cmp s.entries n e }

abbrev pub without_entry : ℕ → TableState → TableState
without_entry n s = record s { entries = remove_entry (is_at (nat_cmp n)) s.entries }

-- ---- deadlines, the earliest first

abbrev pub first_due : TableState → Option (ℕ × ℕ)
first_due s = slice_get s.deadlines 0

abbrev pub dated : ℕ → Option ℕ → List (ℕ × ℕ) → List (ℕ × ℕ)
dated n None deadlines = deadlines
dated n (Some due) deadlines = insert_key pair_cmp deadlines (due, n)

abbrev pub not_dated : ℕ → Option ℕ → List (ℕ × ℕ) → List (ℕ × ℕ)
not_dated n None deadlines = deadlines
not_dated n (Some due) deadlines = remove_key (is_at (pair_cmp (due, n))) deadlines

-- another moment in the place of the one before
abbrev pub redated : ℕ → Option ℕ → Option ℕ → TableState → TableState
redated n old new s = record s { deadlines = not_dated n old (dated n new s.deadlines) }

abbrev pub undated : ℕ → Option ℕ → TableState → TableState
undated n old s = record s { deadlines = not_dated n old s.deadlines }

-- ---- those that wait for a channel, the oldest first

abbrev pub first_blocked : TableState → Option ℕ
first_blocked s = slice_get s.blocked 0

abbrev pub is_blocked : ℕ → TableState → Bool
is_blocked n s = list_any (is_at (nat_cmp n)) s.blocked

abbrev pub with_blocked : ℕ → TableState → TableState
with_blocked n s = record s { blocked = insert_key nat_cmp s.blocked n }

abbrev pub without_blocked : ℕ → TableState → TableState
without_blocked n s = record s { blocked = remove_key (is_at (nat_cmp n)) s.blocked }
