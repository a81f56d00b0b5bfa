use Rattle.std.proofs.Common.{◌∙◌, sym, rules, tests, ◌==◌, ◌++◌, filter, map}
use Rattle.std.proofs.lemmas.Iterator.{YieldsList-from_slice, YieldsList-from_map}
use Rattle.std.proofs.lemmas.Iterator.Adapters.{option_map_id}
use Rattle.std.proofs.lemmas.Iterator.Consumers.{YieldsList-at, YieldsList-from_filter, YieldsList-from_chain, min_from_yields_List}
use Rattle.hickory_proto_core.specs.ResponseKind.{record_type_code}
use Rattle.hickory_resolver_lookup.proofs.BoundsByType.{least-reduce}
use Rattle.hickory_resolver_lookup.proofs.ttl_config.least_ns_ttl.Goals as goal

pub returns : goal.returns
returns c =
    let answers = c.args.answers.now in
    let authorities = c.args.authorities.now in
    sym (option_map_id c.min.result)
    ∙ min_from_yields_List _ _ c.min.ensures.ran
    (YieldsList-from_map _ (λ r. r.ttl)
    (YieldsList-at c.map.ensures.source
    (YieldsList-from_filter _ (λ r. record_type_code r == 2)
    (YieldsList-at c.filter-living.ensures.source
    (YieldsList-from_chain (YieldsList-at c.chain.ensures.first (YieldsList-from_slice answers cc)) (YieldsList-at c.chain.ensures.second (YieldsList-from_slice authorities cc)) c.chain.ensures.first_done c.chain.ensures.second_done))
    c.filter-living.ensures.closure (λ x b q k. search (rules, tests))))
    c.map.ensures.closure (λ x r q k. search (rules, tests)))
    ∙ sym (least-reduce (map (λ r. r.ttl) (filter (λ r. record_type_code r == 2) (answers ++ authorities))))
