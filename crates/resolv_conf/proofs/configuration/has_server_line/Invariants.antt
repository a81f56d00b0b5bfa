use Rattle.std.proofs.Common.{◌≡◌}
use Rattle.std.specs.List.{list_any}
use Rattle.resolv_conf.specs.ResolvConf.{is_server_line}
use Rattle.resolv_conf.specs.Text.{lines_left, lines_of}
use Rattle.resolv_conf.proofs.configuration.has_server_line.Given as goal

abbrev pub invariant-loop-line : goal.invariant-loop-line
invariant-loop-line l = list_any is_server_line (lines_left l.line-iterator.rest) ≡ list_any is_server_line (lines_of l.octets)
