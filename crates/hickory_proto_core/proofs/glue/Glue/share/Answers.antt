use Rattle.std.proofs.Common.{◌∙◌}
use Rattle.hickory_proto_core.proofs.LoweredTtls.{lower_ttl-none}
use Rattle.hickory_proto_core.proofs.glue.Glue.share.Goals as goal

pub returns-clause-ok : goal.returns-clause-ok
returns-clause-ok c = lower_ttl-none c.in_ok-shared.shared.value ∙ c.in_ok-shared.ensures.ok
