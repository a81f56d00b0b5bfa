use Rattle.std.proofs.Common.{rules, ◌∙◌, ◌++◌, ◌∷◌, [], filter, ap}
use Rattle.hickory_proto_core.specs.ResponseKind.{is_address_of}
use Rattle.hickory_proto_core.proofs.Owners.{filter_more}
use Rattle.hickory_proto_core.proofs.dns_response.addresses_by_owner.Goals as goal

pub loop-additional-preserved : goal.loop-additional-preserved
loop-additional-preserved c q =
    c.in_ok-add_if_address.ensures.ok q
    ∙ ap (λ l. l ++ filter (is_address_of q) (c.additional-item.result ∷ [])) (c.loop-additional.invariant q)
    ∙ filter_more (is_address_of q) c.args.additionals.now c.loop-additional.additional-index c.additional-item.result (search rules) (search rules)
