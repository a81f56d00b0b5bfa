use Rattle.std.proofs.Common.{drop}
use Rattle.replay_script.specs.Words.{texts}
use Rattle.forwarder_settings.specs.Blocked.{domains_among}
use Rattle.forwarder_settings.proofs.BlockedNames.{SoFar}
use Rattle.forwarder_settings.proofs.blocked.block_names.Given as goal

-- the names before this one are blocked
abbrev pub invariant-loop-name : goal.invariant-loop-name
invariant-loop-name g l =
    SoFar (domains_among (texts l.names)) (domains_among (texts (drop l.name-index l.names))) l.initial.rules l.rules
