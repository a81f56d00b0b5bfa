use Rattle.hickory_proto_names.proofs.Labels.{is_bytes-from_type}
use Rattle.hickory_proto_names.proofs.name.byte_count.Goals as goal

pub returns-clause-bytes : goal.returns-clause-bytes
returns-clause-bytes c = is_bytes-from_type c.args.label.now c.type_inv.label
