-- The fetches as they are held, with room for more.
use Rattle.std.specs.Prelude.{◌<◌}
use Rattle.std.specs.VecDeque.{deque_capacity, deque_len}
use Rattle.indexmap.specs.IndexMap as index
use Rattle.yimarotu_forwarder.specs.Fetches.{FetchesValue}
use Rattle.yimarotu_forwarder.specs.declared.fetches.Fetches.{Fetches}

abbrev pub fetches_of : Fetches → FetchesValue
fetches_of f = record { fetches = f.fetches.entries; askers = f.askers.entries; to_ask = f.to_ask.items }

-- ---- room
-- for one more fetch and for one more asker
pub record HasRoom (f : Fetches) : Type 0 where
  pub fetches : 0 < index.spare f.fetches
  pub askers : 0 < index.spare f.askers

-- for one more that has a question to ask
abbrev pub HasTurn : Fetches → Type 0
HasTurn f = deque_len f.to_ask < deque_capacity f.to_ask
