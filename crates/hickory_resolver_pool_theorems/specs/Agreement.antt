-- What a pool notes of its transactions in several places agrees.
use Rattle.std.specs.Prelude.{◌≡◌, ◌<◌, ◌^◌, ◌==◌, ◌&&◌, ℕ, Bool, true, List, [], ◌∷◌, length, IfSome, None, Some}
use Rattle.std.specs.Ordering.{nat_cmp}
use Rattle.std.specs.List.{list_any}
use Rattle.std.specs.Option.{is_some}
use Rattle.std.specs.Map.{lookup}
use Rattle.std.specs.BTreeMap.{is_at}
use Rattle.hickory_resolver_channels.specs.Channels.{pair_cmp, channel_at, transaction_at}
use Rattle.hickory_resolver_config.specs.ResolverConfig.{OptionsValue}
use Rattle.hickory_resolver_steps.specs.declared.flying.SentTry.{SentTry}
use Rattle.hickory_resolver_traffic.specs.Groups.{list_at}
use Rattle.hickory_resolver_traffic.specs.Table.{EntryState, entry_at}
use Rattle.hickory_resolver_traffic.specs.declared.entry.ToDo.{ToDo}
use Rattle.hickory_resolver_pool.specs.Pool.{PoolState, no_servers}
use Rattle.hickory_resolver_pool.specs.declared.limits.PoolLimits.{PoolLimits}
use Rattle.hickory_resolver_pool_theorems.specs.Runs.{Happening, Runs}

-- ---- each transaction stands in one place

abbrev pub NoNumberTwice : List (ℕ × EntryState) → Type 0
NoNumberTwice [] = Unit {0}
NoNumberTwice (e ∷ es) = (lookup (is_at (nat_cmp e.0)) es ≡ None) × NoNumberTwice es

-- in the table, where no number stands twice, or in hand
pub record EachStandsOnce (s : PoolState) : Type 0 where
  pub table : NoNumberTwice s.traffic.table.entries
  pub worked : IfSome s.current (λ c. entry_at c.number s.traffic.table ≡ None)

abbrev pub EachTransactionStandsOnce : Type 0
EachTransactionStandsOnce =
    (options : OptionsValue) (limits : PoolLimits) (seed : List ℕ) (past : List Happening) (s : PoolState)
    → Runs (no_servers options limits seed) past s → EachStandsOnce s

-- ---- deadlines

-- a transaction, in the table or in hand
pub data Has (s : PoolState) (n : ℕ) (e : EntryState) : Type 0 where
  in_table : entry_at n s.traffic.table ≡ Some e → Has s n e
  in_hand : (to_do : ToDo) → s.current ≡ Some (record { number = n; to_do = to_do; entry = e }) → Has s n e

abbrev pub is_noted : ℕ → ℕ → PoolState → Bool
is_noted due n s = list_any (is_at (pair_cmp (due, n))) s.traffic.table.deadlines

-- a transaction stands among the deadlines under its own moment, and under no other
pub record IsNotedAsDue (s : PoolState) (n : ℕ) (e : EntryState) : Type 0 where
  pub own : (due : ℕ) → e.due ≡ Some due → is_noted due n s ≡ true
  pub no_other : (due : ℕ) → is_noted due n s ≡ true → e.due ≡ Some due

abbrev pub DeadlinesAgree : Type 0
DeadlinesAgree =
    (options : OptionsValue) (limits : PoolLimits) (seed : List ℕ) (past : List Happening) (s : PoolState)
    → Runs (no_servers options limits seed) past s → (n : ℕ) (e : EntryState) → Has s n e → IsNotedAsDue s n e

-- ---- tries

abbrev pub is_sent_as : ℕ → ℕ → SentTry → Bool
is_sent_as channel id one = (one.channel == channel) && (one.id == id)

-- a transaction keeps in mind that it sent a message of this number on this channel
abbrev pub keeps_try : ℕ → ℕ → EntryState → Bool
keeps_try channel id e = list_any (is_sent_as channel id) e.flying.tries

-- What a transaction keeps in mind is a try of it on the channel; and of a channel that is open it keeps each of its
-- tries in mind.
pub record KeepsItsTries (s : PoolState) (n : ℕ) (e : EntryState) : Type 0 where
  pub on_channel : (channel id : ℕ) → keeps_try channel id e ≡ true
      → transaction_at channel id s.traffic.shared.channels ≡ Some n
  pub kept : (channel id : ℕ) → is_some (channel_at channel s.traffic.shared.channels) ≡ true
      → transaction_at channel id s.traffic.shared.channels ≡ Some n → keeps_try channel id e ≡ true

abbrev pub TriesAgree : Type 0
TriesAgree =
    (options : OptionsValue) (limits : PoolLimits) (seed : List ℕ) (past : List Happening) (s : PoolState)
    → Runs (no_servers options limits seed) past s → (n : ℕ) (e : EntryState) → Has s n e → KeepsItsTries s n e

-- ---- lists of servers

-- The servers that a transaction asks are kept as long as it asks them, also where its group has others since. (How
-- many ask the servers of a list is counted up to the greatest number of 64 bits.)
abbrev pub ServersAreKept : Type 0
ServersAreKept =
    (options : OptionsValue) (limits : PoolLimits) (seed : List ℕ) (past : List Happening) (s : PoolState)
    → Runs (no_servers options limits seed) past s → length past < 2 ^ 64 → (n : ℕ) (e : EntryState) → Has s n e
    → is_some (list_at e.asked.0 s.traffic.groups) ≡ true
