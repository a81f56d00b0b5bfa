use Rattle.std.proofs.Common.{rules}
use Rattle.replay_script.proofs.data_fields.read_data.Goals as goal

pub returns-in_ok-read_only_name-in-NS : goal.returns-in_ok-read_only_name-in-NS
returns-in_ok-read_only_name-in-NS c = search rules

pub returns-in-TXT : goal.returns-in-TXT
returns-in-TXT c = search rules
