-- The numbers of statuses.
use Rattle.std.specs.Prelude.{ℕ}
use Rattle.yimarotu_forwarder_c.specs.declared.status.Status.{Status}
use Rattle.yimarotu_forwarder_c.specs.declared.status.Status.TheVariants as status

abbrev pub number_of : Status → ℕ
number_of status.Ok = 0
number_of status.Script = 1
number_of status.NoMemory = 3
number_of status.Hosts = 4
number_of status.Room = 5
number_of status.Closed = 8
number_of status.IsOpen = 9
number_of status.Waits = 12
number_of status.Text = 14
number_of status.Kind = 15
number_of status.Seed = 18
