use Rattle.hickory_proto_wire.proofs.name_measure.+measure_from.Given as goal

abbrev pub decreases-measure_from : goal.decreases-measure_from
decreases-measure_from l = l.steps
