use Rattle.std.proofs.Common.{List, length, Result}
use Rattle.hickory_resolver_model.specs.Hosts.{Host, file_lines}
use Rattle.hickory_resolver_hosts.specs.Reading.{AreLinesRead}
use Rattle.hickory_resolver_hosts.specs.Text.{lines_of}
use Rattle.hickory_resolver_hosts.specs.declared.hosts_error.HostsError.{HostsError}
use Rattle.hickory_resolver_hosts.proofs.lines.insert_lines.Given as goal

-- where the rest is read, the whole is
abbrev pub invariant-loop-line : goal.invariant-loop-line
invariant-loop-line g l = (r : Result (Unit {0}) HostsError) (after : List Host)
    → AreLinesRead l.now (lines_of l.rest) l.hosts r after → AreLinesRead l.now (file_lines l.bytes) l.initial.hosts r after

abbrev pub decreases-loop-line : goal.decreases-loop-line
decreases-loop-line g l = length l.rest
