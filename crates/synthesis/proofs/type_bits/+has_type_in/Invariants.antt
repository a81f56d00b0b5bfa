use Rattle.synthesis.proofs.type_bits.+has_type_in.Given as goal

abbrev pub decreases-has_type_in : goal.decreases-has_type_in
decreases-has_type_in l = l.windows
