use Rattle.std.proofs.Common.{Some, string_bytes}
use Rattle.conversation.proofs.Held.{puts_updated}
use Rattle.conversation.proofs.requests.put.Goals as goal

pub returns-clause-kept : goal.returns-clause-kept
returns-clause-kept c = puts_updated (string_bytes c.args.key) c.args.requests.now c.insert.new.self (Some c.args.in_flight) c.in_ok-replaced.ensures.updates
