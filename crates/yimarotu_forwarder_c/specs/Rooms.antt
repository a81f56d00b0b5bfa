-- Octets that are put in a room of the caller's.
use Rattle.std.specs.Prelude.{◌≡◌, ◌⊎◌, ◌≤◌, ◌<◌, ℕ, List, ◌++◌, length, drop}
use Rattle.yimarotu_forwarder_c.specs.declared.status.Status.{Status}
use Rattle.yimarotu_forwarder_c.specs.declared.status.Status.TheVariants.{Ok, Room}

-- the octets are at the front of a room that is large enough, and what is behind them stays; in one that is too small
-- nothing is written
abbrev pub IsPut : List ℕ → List ℕ → List ℕ → Status → Type 0
IsPut bytes before after status =
    ((status ≡ Ok) × (length bytes ≤ length before) × (after ≡ bytes ++ drop (length bytes) before))
    ⊎ ((status ≡ Room) × (length before < length bytes) × (after ≡ before))
