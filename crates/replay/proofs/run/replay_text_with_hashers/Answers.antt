use Rattle.replay.proofs.TextSteps.{refused}
use Rattle.replay.proofs.run.replay_text_with_hashers.Goals as goal

pub returns-in-Ok-clause-err : goal.returns-in-Ok-clause-err
returns-in-Ok-clause-err g c =
    let read = c.in-Ok.ensures in
    refused c.args.script.now c.args.hosts.now read.0 c.in-Ok.script c.text_of_script.result read.1 read.2
    c.text_of_script.ensures.err
