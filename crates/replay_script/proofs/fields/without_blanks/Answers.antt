use Rattle.replay_script.proofs.FieldLists.{boundary_after_blanks}
use Rattle.replay_script.proofs.fields.without_blanks.Goals as goal

pub range_from-requires : goal.range_from-requires
range_from-requires c = rw c.blank_len.ensures (λ some. boundary_after_blanks c.args.text.now c.utf8.text)
