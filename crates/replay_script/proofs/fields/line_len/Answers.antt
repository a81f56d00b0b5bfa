use Rattle.std.proofs.Common.{◌==◌}
use Rattle.replay_script.proofs.FirstBytes.{first_byte_position}
use Rattle.replay_script.proofs.fields.line_len.Goals as goal

pub returns : goal.returns
returns c = first_byte_position (λ byte. byte == 10) c.args.script.now c.memchr.result c.memchr.ensures
