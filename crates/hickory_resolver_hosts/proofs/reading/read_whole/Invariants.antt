use Rattle.std.proofs.Common.{◌≡◌, false}
use Rattle.std.specs.Io.KnownBytes.{Consumes}
use Rattle.hickory_resolver_hosts.proofs.reading.read_whole.Given as goal

abbrev pub invariant-loop : goal.invariant-loop
invariant-loop g l = (l.source.failed ≡ false) × Consumes (g.R.Read.remaining l.initial.source.inner) (g.R.Read.remaining l.source.inner) l.bytes.items
