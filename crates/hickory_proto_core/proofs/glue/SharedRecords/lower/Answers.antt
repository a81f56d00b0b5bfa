use Rattle.std.proofs.Common.{◌≡◌, ◌≤◌, ◌∙◌, arith, map, ap, sym}
use Rattle.std.proofs.lemmas.List.Elements.{All-same}
use Rattle.hickory_proto_core.specs.Records.{RecordValue, lower_ttl}
use Rattle.hickory_proto_core.proofs.LoweredTtls.{lower_ttl-none, lower_ttl-bounded}
use Rattle.hickory_proto_core.proofs.glue.SharedRecords.lower.Goals as goal

pub invariant_of-self : goal.invariant_of-self
invariant_of-self c =
    let P : RecordValue → Type 0 = λ r. r.ttl ≤ c.self.inside.longest in
    All-same P c.lower_ttls.new.records.items (map (lower_ttl c.args.seconds) c.self.inside.records.items) c.lower_ttls.ensures (lower_ttl-bounded c.args.seconds c.self.inside.longest c.self.inside.records.items c.self.invariant)

pub returns-else-seconds-gt0 : goal.returns-else-seconds-gt0
returns-else-seconds-gt0 c =
    let none : 0 ≡ c.args.seconds = omega arith in
    sym (lower_ttl-none c.args.self.now) ∙ ap (λ s. map (lower_ttl s) c.args.self.now) none
