use Rattle.std.proofs.Common.{◌∙◌}
use Rattle.hickory_proto_core.proofs.DataEq.{derived_data_eq}
use Rattle.trace_judge.proofs.receptions.has_data.Goals as goal

pub returns : goal.returns
returns c = c.eq.ensures ∙ derived_data_eq c.args.a.now c.args.b.now
