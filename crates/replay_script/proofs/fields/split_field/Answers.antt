use Rattle.replay_script.proofs.FieldLists.{boundary_before_blank}
use Rattle.replay_script.proofs.fields.split_field.Goals as goal

pub split_at-requires : goal.split_at-requires
split_at-requires c = rw c.field_len.ensures (boundary_before_blank c.args.text.now)
