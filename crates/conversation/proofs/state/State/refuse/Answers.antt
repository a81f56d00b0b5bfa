use Rattle.std.proofs.Common.{◌≡◌, false, rules}
use Rattle.conversation.specs.State.{conversation_of}
use Rattle.conversation.specs.Faults.{is_memory}
use Rattle.conversation.proofs.Answered.{refused_told}
use Rattle.conversation.proofs.state.State.refuse.Goals as goal

pub returns : goal.returns
returns c = let told : is_memory c.args.refusal.now.fault ≡ false = search rules in refused_told (conversation_of c.args.self.now) c.args.mark.now c.args.refusal.now c.told_fault.result told c.told_fault.ensures.explained c.told_fault.ensures.text c.told_fault.ensures.journal c.told_fault.ensures.last
