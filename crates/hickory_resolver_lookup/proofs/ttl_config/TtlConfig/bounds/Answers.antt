use Rattle.std.proofs.Common.{◌∙◌, ap, sym, unwrap_or}
use Rattle.hickory_proto_core.specs.Codes.{type_code}
use Rattle.hickory_resolver_model.specs.Bounds.{bounds_for}
use Rattle.hickory_resolver_lookup.proofs.BoundsByType.{bounds_by_code-lookup}
use Rattle.hickory_resolver_lookup.proofs.ttl_config.TtlConfig.bounds.Goals as goal

pub returns : goal.returns
returns c =
    let code = type_code c.args.query_type in
    let own = rw c.code.ensures at c.get-own.ensures.value in
    c.unwrap_or.ensures
    ∙ ap (λ o. unwrap_or o c.self.inside.default) (c.copied.ensures ∙ own ∙ sym (bounds_by_code-lookup code c.self.inside.by_type.entries))
    ∙ ap (λ v. bounds_for v code) c.self.view_is
