-- The servers that a file resolv.conf names, for a caller.
use Rattle.std.specs.Prelude.{◌≡◌, ◌⊎◌, ℕ, List, [], length}
use Rattle.resolv_conf.specs.ResolvConf.{resolv_conf}
use Rattle.resolv_conf.specs.ServerLines.{server_lines}
use Rattle.yimarotu_c.specs.Rooms.{IsPut}
use Rattle.yimarotu_c.specs.Statuses.{number_of}
use Rattle.yimarotu_c.specs.declared.servers.YimarotuServersRead.{YimarotuServersRead}
use Rattle.yimarotu_c.specs.declared.status.Status.{Status}
use Rattle.yimarotu_c.specs.declared.status.Status.TheVariants.{NoMemory}

abbrev pub servers_end : Status → ℕ → YimarotuServersRead
servers_end status count = record { status = number_of status; length = count }

-- the text is put in the room, and its length is told
abbrev pub AreServersPut : List ℕ → List ℕ → List ℕ → YimarotuServersRead → Type 0
AreServersPut text before after ended =
    (status : Status) × IsPut text before after status × (ended ≡ servers_end status (length text))

-- the servers are put in the room; or no memory is left, and it stays
abbrev pub IsServersEnd : List ℕ → List ℕ → List ℕ → YimarotuServersRead → Type 0
IsServersEnd conf before after ended =
    AreServersPut (server_lines (resolv_conf conf [])) before after ended
    ⊎ ((ended ≡ servers_end NoMemory 0) × (after ≡ before))
