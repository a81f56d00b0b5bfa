use Rattle.conversation.proofs.Asked.{asked_short}
use Rattle.conversation.proofs.reading.read_request.Goals as goal

pub returns-in_default : goal.returns-in_default
returns-in_default c = asked_short c.args.fields.now c.read_script_request.result c.in_default.len_below c.read_script_request.ensures
