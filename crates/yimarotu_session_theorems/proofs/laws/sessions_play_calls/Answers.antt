use Rattle.yimarotu_session_theorems.proofs.Played.{sessions_play_calls}
use Rattle.yimarotu_session_theorems.proofs.laws.sessions_play_calls.Goals as goal

pub returns : goal.returns
returns c = sessions_play_calls
