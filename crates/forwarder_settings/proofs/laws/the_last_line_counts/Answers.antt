use Rattle.forwarder_settings.proofs.LastLines.{the_last_line_counts}
use Rattle.forwarder_settings.proofs.laws.the_last_line_counts.Goals as goal

pub returns : goal.returns
returns c = the_last_line_counts
