-- Bytes that are put in a room of the caller's.
use Rattle.std.specs.Prelude.{◌≡◌, ◌⊎◌, ◌≤◌, ◌<◌, ℕ, List, ◌++◌, length, drop}
use Rattle.yimarotu_c.specs.Statuses.{number_of}
use Rattle.yimarotu_c.specs.declared.status.Status.{Status}
use Rattle.yimarotu_c.specs.declared.status.Status.TheVariants.{Ok, Room}
use Rattle.yimarotu_c.specs.declared.replaying.YimarotuReplayed.{YimarotuReplayed}

-- the bytes are at the front of a room that is large enough, and what is behind them stays; in one that is too small
-- nothing is written
abbrev pub IsPut : List ℕ → List ℕ → List ℕ → Status → Type 0
IsPut bytes before after status =
    ((status ≡ Ok) × (length bytes ≤ length before) × (after ≡ bytes ++ drop (length bytes) before))
    ⊎ ((status ≡ Room) × (length before < length bytes) × (after ≡ before))

-- the same of a text, whose length is told
abbrev pub IsPutEnd : List ℕ → List ℕ → List ℕ → YimarotuReplayed → Type 0
IsPutEnd text before after ended =
    (status : Status) × IsPut text before after status
    × (ended ≡ record { status = number_of status; length = length text; line = 0 })
