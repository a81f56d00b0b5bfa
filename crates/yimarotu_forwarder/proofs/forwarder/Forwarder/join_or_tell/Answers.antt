-- Who is not told past its end waits.
use Rattle.std.specs.Prelude.{None, if◌then◌else◌}
use Rattle.yimarotu_forwarder.proofs.Missed.{joined}
use Rattle.yimarotu_forwarder.specs.Stale.{stale_hit}
use Rattle.yimarotu_forwarder.proofs.forwarder.Forwarder.join_or_tell.Goals as goal

-- src/looking_up.rt
pub returns-else-tell_if_late-clause-ok : goal.returns-else-tell_if_late-clause-ok
returns-else-tell_if_late-clause-ok c =
    joined (if c.args.is_late then stale_hit c.args.request.now c.args.key.now c.args.self.now else None)
    c.args.waiting c.args.request.now c.args.self.now c.tell_if_late.new.self c.join.new.self c.tell_if_late.result
    c.join.result c.tell_if_late.ensures c.if-tell_if_late.false c.join.ensures.ok
