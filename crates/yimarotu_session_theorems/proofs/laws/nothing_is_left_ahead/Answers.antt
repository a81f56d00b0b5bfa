use Rattle.yimarotu_session_theorems.proofs.LeftAhead.{nothing_is_left_ahead}
use Rattle.yimarotu_session_theorems.proofs.laws.nothing_is_left_ahead.Goals as goal

pub returns : goal.returns
returns c = nothing_is_left_ahead
