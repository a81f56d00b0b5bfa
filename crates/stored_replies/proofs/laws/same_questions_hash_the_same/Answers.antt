use Rattle.std.proofs.Common.{ap}
use Rattle.stored_replies.specs.Key.{octet_by_octet}
use Rattle.stored_replies.proofs.Keys.{same_key}
use Rattle.stored_replies.proofs.laws.same_questions_hash_the_same.Goals as goal

pub returns : goal.returns
returns c = λ one other same.
    ap octet_by_octet (same_key one other same)
