use Rattle.std.proofs.Common.{◌≡◌, take}
use Rattle.forwarder_settings.specs.LocalRules.{with_rules}
use Rattle.forwarder_settings.proofs.local_rules.put_rules.Given as goal

-- the rules of the lines before this one are put in
abbrev pub invariant-loop-line : goal.invariant-loop-line
invariant-loop-line g l = l.rules ≡ with_rules (take l.line-index l.lines) l.initial.rules
