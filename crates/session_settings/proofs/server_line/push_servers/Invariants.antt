use Rattle.std.proofs.Common.{◌≡◌, ◌++◌, map}
use Rattle.std.specs.Iterator.Adapters.{zip_first, zip_second}
use Rattle.std.specs.List.{zip}
use Rattle.std.specs.Slice.Iter.{iter_rest}
use Rattle.session_settings.specs.ServerLine.{scoped}
use Rattle.session_settings.proofs.server_line.push_servers.Given as goal

-- the servers so far, and those that are left
abbrev pub invariant-loop-config : goal.invariant-loop-config
invariant-loop-config l = l.servers.items ++ map scoped (zip (iter_rest (zip_first l.config-iterator)) (iter_rest (zip_second l.config-iterator))) ≡ l.initial.servers.items ++ map scoped (zip l.configs l.scopes)
