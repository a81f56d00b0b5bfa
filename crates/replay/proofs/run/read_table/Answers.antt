use Rattle.replay.proofs.TextSteps.{no_table}
use Rattle.replay.proofs.run.read_table.Goals as goal

pub returns-in-Err : goal.returns-in-Err
returns-in-Err g c = no_table c.args.now c.args.hosts.now c.with_hasher-table.result c.in-Err.error _ _
    c.with_hasher-table.ensures c.in-Err.ensures c.from.ensures
