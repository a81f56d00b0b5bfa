use Rattle.std.proofs.Common.{subst}
use Rattle.conversation.specs.Faults.{RefusalValue}
use Rattle.conversation.specs.State.{conversation_of}
use Rattle.conversation.specs.Telling.{IsRefused}
use Rattle.conversation.proofs.state.State.refuse_line.Goals as goal

pub returns : goal.returns
returns c = subst (λ (r : RefusalValue). IsRefused (conversation_of c.args.self.now) c.args.mark.now r c.refuse.result) c.of_line.ensures c.refuse.ensures
