use Rattle.std.proofs.Common.{◌≡◌, ◌++◌, flat_map}
use Rattle.std.specs.Iterator.Adapters.{zip_first, zip_second}
use Rattle.std.specs.List.{zip}
use Rattle.std.specs.Slice.Iter.{iter_rest}
use Rattle.resolv_conf.specs.ServerLines.{server_line}
use Rattle.resolv_conf.proofs.server_text.push_servers.Given as goal

-- what is written, and what is to be written of the servers that are left
abbrev pub invariant-loop-server : goal.invariant-loop-server
invariant-loop-server l = l.text.items ++ flat_map server_line (zip (iter_rest (zip_first l.server-iterator)) (iter_rest (zip_second l.server-iterator))) ≡ l.initial.text.items ++ flat_map server_line (zip l.servers l.scopes)
