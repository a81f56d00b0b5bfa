use Rattle.hickory_proto_wire.proofs.old_data.+labels_end.Given as goal

abbrev pub decreases-labels_end : goal.decreases-labels_end
decreases-labels_end l = l.steps
