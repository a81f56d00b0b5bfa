use Rattle.std.proofs.Common.{◌≡◌}
use Rattle.synthesis.specs.Nsec3.{iterated}
use Rattle.synthesis.proofs.nsec3.iterated.Given as goal

-- so many times more as were counted
abbrev pub invariant-loop : goal.invariant-loop
invariant-loop l = l.hash ≡ iterated l.salt l.counter l.octets
