use Rattle.std.proofs.Common.{◌≡◌, ◌++◌, Some, take}
use Rattle.replay_script.specs.Words.{texts}
use Rattle.trace_lines.specs.HostRecords.{host_records}
use Rattle.trace_lines.proofs.hosts.add_names.Given as goal

-- the records of the names so far were put in
abbrev pub invariant-loop-name : goal.invariant-loop-name
invariant-loop-name l =
    l.own.items ≡ l.initial.own.items ++ host_records (Some l.address) (texts (take l.name-index l.names))
