use Rattle.std.proofs.Common.{ℕ, List, [], Bor}
use Rattle.replay_script.specs.Words.{texts}
use Rattle.forwarder_settings.specs.Blocked.{domains_among}
use Rattle.forwarder_settings.proofs.BlockedNames.{name_blocked}
use Rattle.forwarder_settings.proofs.blocked.block_names.Goals as goal

pub loop-name-preserved : goal.loop-name-preserved
loop-name-preserved g c =
    let none : Bor (List ℕ) = record { ref_ptr = (0, 0); now = [] } in
    name_blocked (domains_among (texts c.args.names.now)) c.args.names.now c.loop-name.name-index none c.args.rules.now
    c.loop-name.rules c.block_name.new.rules c.loop-name.invariant c.loop-name-test.true c.in_ok-block_name.ensures.ok
