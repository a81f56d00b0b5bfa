use Rattle.std.specs.List.{flat_map}
use Rattle.std.specs.Str.Lines.{lines}
use Rattle.forwarder_settings.specs.Blocked.{blocked_domains, line_domains}
use Rattle.forwarder_settings.proofs.BlockedNames.{SoFar}
use Rattle.forwarder_settings.proofs.blocked.read_blocked.Given as goal

-- the names of the lines before this one are blocked
abbrev pub invariant-loop-line : goal.invariant-loop-line
invariant-loop-line g l =
    SoFar (blocked_domains l.file) (flat_map line_domains (lines l.line-iterator.rest.now)) l.initial.rules l.rules
