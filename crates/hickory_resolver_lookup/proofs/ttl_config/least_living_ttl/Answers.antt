use Rattle.std.proofs.Common.{◌∙◌, ap, sym, rules, tests, ◌==◌, ◌||◌, map, filter}
use Rattle.std.proofs.lemmas.Iterator.{YieldsList-from_slice, YieldsList-from_map}
use Rattle.std.proofs.lemmas.Iterator.Adapters.{option_map_id}
use Rattle.std.proofs.lemmas.Iterator.Consumers.{YieldsList-at, YieldsList-from_filter, min_from_yields_List}
use Rattle.hickory_proto_core.specs.Codes.{type_code}
use Rattle.hickory_proto_core.specs.ResponseKind.{record_type_code}
use Rattle.hickory_proto_core.specs.Messages.{MessageValue}
use Rattle.hickory_resolver_model.specs.Bounds.{least_ttl, living_records}
use Rattle.hickory_resolver_lookup.proofs.BoundsByType.{least-reduce, living_others}
use Rattle.hickory_resolver_lookup.proofs.ttl_config.least_living_ttl.Goals as goal

pub returns : goal.returns
returns c =
    let answers = c.message.inside.answers.items in
    let m : MessageValue = record { metadata = c.message.inside.metadata; queries = c.message.inside.queries.items; answers = answers; authorities = c.message.inside.authorities.items; additionals = c.message.inside.additionals.items } in
    let asked = type_code c.args.query.now.query_type in
    sym (option_map_id c.min.result)
    ∙ min_from_yields_List _ _ c.min.ensures.ran
    (YieldsList-from_map _ (λ r. r.ttl)
    (YieldsList-at c.map.ensures.source
    (YieldsList-from_filter _ (λ r. (record_type_code r == asked) || (record_type_code r == 5)) (YieldsList-at c.filter-living.ensures.source (YieldsList-from_slice answers cc)) c.filter-living.ensures.closure (λ x b q k. search (rules, tests))))
    c.map.ensures.closure (λ x r q k. search (rules, tests)))
    ∙ sym (least-reduce (map (λ r. r.ttl) (filter (λ r. (record_type_code r == asked) || (record_type_code r == 5)) answers)))
    ∙ ap least_ttl (sym (living_others c.args.query.now m (sym c.eq.ensures ∙ c.if-eq.false)))
    ∙ ap (λ v. least_ttl (living_records c.args.query.now v)) c.message.view_is
