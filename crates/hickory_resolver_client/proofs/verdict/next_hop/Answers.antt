use Rattle.std.proofs.Common.{◌∙◌, ap, ap₂, ◌++◌, List}
use Rattle.hickory_proto_core.specs.codes.dns_class.DNSClass.TheVariants as class
use Rattle.hickory_proto_core.specs.Name.{NameValue}
use Rattle.hickory_proto_core.specs.Records.{RecordValue}
use Rattle.hickory_resolver_model.specs.Verdict.{Hop, all_records, with_ttl_at_most}
use Rattle.hickory_resolver_client.proofs.Selecting.{intermediates}
use Rattle.hickory_resolver_client.proofs.verdict.next_hop.Goals as goal

pub returns-clause-ok : goal.returns-clause-ok
returns-clause-ok c =
    let q = c.args.query.now in
    let hop : NameValue → List RecordValue → Hop = λ name preserved. record { query = record { name = name; query_type = q.query_type; query_class = class.IN }; preserved = preserved } in
    ap₂ hop (c.in_ok-clone.ensures.ok ∙ c.next_name.ensures) (c.in_ok-copy_into.ensures.ok ∙ ap (λ rs. c.args.preserved.items ++ rs) (intermediates c.args.keep q c.args.walk.now (with_ttl_at_most c.args.walk.now.ttl) (all_records c.args.message.now)))
