use Rattle.std.proofs.Common.{◌≡◌, ◌+◌, ◌≤◌, length}
use Rattle.std.specs.Option.{option_or}
use Rattle.resolv_conf.specs.Names.{last_domains_line}
use Rattle.resolv_conf.specs.Text.{lines_left, lines_of}
use Rattle.resolv_conf.proofs.configuration.last_domains_line.Given as goal

abbrev pub invariant-loop-line : goal.invariant-loop-line
invariant-loop-line l = record {
  room : l.number + length (lines_left l.line-iterator.rest) ≤ length l.octets + 1;
  found : option_or (last_domains_line (l.number + 1) (lines_left l.line-iterator.rest)) l.last ≡ last_domains_line 1 (lines_of l.octets);
}
