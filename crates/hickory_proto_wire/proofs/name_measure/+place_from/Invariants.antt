use Rattle.hickory_proto_wire.proofs.name_measure.+place_from.Given as goal

abbrev pub decreases-place_from : goal.decreases-place_from
decreases-place_from l = l.pointers
