use Rattle.hickory_resolver_theorems.proofs.CallReplies.{replies_promised}
use Rattle.hickory_resolver_theorems.proofs.laws.interleaved_replies_keep_the_promises.Goals as goal

pub returns : goal.returns
returns c = replies_promised
