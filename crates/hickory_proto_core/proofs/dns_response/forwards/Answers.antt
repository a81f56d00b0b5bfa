use Rattle.std.proofs.Common.{◌∙◌, ◌++◌, ap}
use Rattle.std.proofs.Common.{rules}
use Rattle.std.specs.Option.{option_to_list}
use Rattle.hickory_proto_core.specs.Glue.{forward_from}
use Rattle.hickory_proto_core.proofs.Forwards.{filter_map_more}
use Rattle.hickory_proto_core.proofs.dns_response.forwards.Goals as goal

pub loop-authority-preserved : goal.loop-authority-preserved
loop-authority-preserved c =
    c.in_ok-push_some.ensures.ok ∙ ap (λ l. l ++ option_to_list c.in_ok-named.named) c.loop-authority.invariant
    ∙ filter_map_more (forward_from c.args.by_owner.now) c.args.authorities.now.items c.loop-authority.authority-index c.authority-item.result c.in_ok-named.named (search rules) (search rules) c.in_ok-named.ensures.ok
