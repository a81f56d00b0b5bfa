use Rattle.std.proofs.Common.{◌≡◌, ◌++◌, map, string_bytes, take}
use Rattle.resolv_conf.specs.Script.{search_line}
use Rattle.resolv_conf.proofs.script.push_search.Given as goal

abbrev pub invariant-loop-domain : goal.invariant-loop-domain
invariant-loop-domain l = map string_bytes l.lines.items ≡ map string_bytes l.initial.lines.items ++ map search_line (take l.domain-index l.domains)
