use Rattle.std.proofs.Common.{◌∙◌}
use Rattle.hickory_proto_core.specs.Errors.{NoRecordsValue, items_or_none}
use Rattle.hickory_proto_core.proofs.Copies.{same_copy, same_items}
use Rattle.hickory_proto_core.proofs.net_error.NoRecordsClone.clone.Goals as goal

pub returns : goal.returns
returns c =
    let from = c.self.inside in
    let ns = same_items c.as_ref.result c.in_ok-cloned.field-0 from.ns c.as_ref.ensures.value c.in_ok-cloned.ensures in
    let authorities = same_items c.as_ref-2.result c.in_ok-cloned-2.field-0 from.authorities c.as_ref-2.ensures.value c.in_ok-cloned-2.ensures in
    let soa = same_copy c.as_ref-3.result c.in_ok-cloned-3.field-0 from.soa c.as_ref-3.ensures.value c.in_ok-cloned-3.ensures in
    let whole : NoRecordsValue = record { query = from.query; soa = from.soa; ns = items_or_none from.ns; negative_ttl = from.negative_ttl; response_code = from.response_code; authorities = items_or_none from.authorities } in
    record { cases = (λ i. record whole { query = c.in_ok-clone.ensures.cases i; soa = soa i; ns = ns i; authorities = authorities i }) ∙ c.self.view_is }
