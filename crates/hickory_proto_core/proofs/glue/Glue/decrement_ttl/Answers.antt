use Rattle.std.proofs.Common.{◌≤◌, ◌∙◌, arith, map, ap, sym}
use Rattle.std.proofs.lemmas.List.Elements.{All-same}
use Rattle.hickory_proto_core.specs.Records.{RecordValue, lower_ttl}
use Rattle.hickory_proto_core.proofs.LoweredTtls.{lower_ttl-twice}
use Rattle.hickory_proto_core.proofs.glue.Glue.decrement_ttl.Goals as goal

pub returns : goal.returns
returns c =
    let shared = c.self.inside.shared.value in
    let P : RecordValue → Type 0 = λ r. r.ttl ≤ c.longest-longest.result in
    let bounded = All-same P shared c.deref.result.now (sym c.deref.ensures) c.longest-longest.ensures in
    lower_ttl-twice c.self.inside.age c.args.seconds c.min-self-inside.result c.longest-longest.result (λ x h. omega arith) shared bounded
    ∙ ap (map (lower_ttl c.args.seconds)) c.self.view_is
