use Rattle.hickory_proto_wire.proofs.wire_name.+labels_at.Given as goal

abbrev pub decreases-labels_at : goal.decreases-labels_at
decreases-labels_at l = l.steps
