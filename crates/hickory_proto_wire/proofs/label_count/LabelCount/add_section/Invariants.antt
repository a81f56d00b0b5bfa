use Rattle.std.proofs.Common.{◌≡◌, ◌≤◌, ◌-◌, None}
use Rattle.hickory_proto_wire.specs.LabelsTaken.{most_labels, section_from}
use Rattle.hickory_proto_wire.proofs.label_count.LabelCount.add_section.Given as goal

abbrev pub invariant-loop : goal.invariant-loop
invariant-loop l =
    (section_from l.section l.bytes (l.count - l.counter) l.at l.opt l.self
    ≡ section_from l.section l.bytes l.count l.fn.at None l.fn.self) × (l.self.labels ≤ most_labels) × (l.names ≡ l.fn.names)
