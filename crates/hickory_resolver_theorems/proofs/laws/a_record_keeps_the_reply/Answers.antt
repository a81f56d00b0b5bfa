use Rattle.hickory_resolver_theorems.proofs.Kept.{kept_reply}
use Rattle.hickory_resolver_theorems.proofs.laws.a_record_keeps_the_reply.Goals as goal

pub returns : goal.returns
returns c = kept_reply
