use Rattle.std.proofs.Common.{◌∙◌}
use Rattle.hickory_proto_names.proofs.NameReading.{ends_empty-at}
use Rattle.hickory_proto_names.proofs.name_text.ends_empty.Goals as goal

pub returns-in-len1-up : goal.returns-in-len1-up
returns-in-len1-up c = c.is_empty.ensures ∙ ends_empty-at c.args.pieces.now c.last-item.result c.in-len1-up.len_at_least c.last-item.is
