use Rattle.std.proofs.Common.{rules}
use Rattle.hickory_proto_core.proofs.Owners.{put_address}
use Rattle.hickory_proto_core.proofs.dns_response.add_if_address.Goals as goal

pub returns-clause-ok : goal.returns-clause-ok
returns-clause-ok c =
    put_address c.args.by_owner.now c.remove.new.self c.insert.new.self c.in_ok-owner.owner c.in_ok-glue.glue c.args.found.now
    (search rules) (search rules) c.remove.ensures.updates.0 c.in_ok-insert.ensures.updates.0 (search rules)
