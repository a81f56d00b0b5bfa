use Rattle.local_answers.proofs.SpecialTold.{tells_special_names}
use Rattle.local_answers.proofs.laws.tells_special_names.Goals as goal

pub returns : goal.returns
returns c = tells_special_names
