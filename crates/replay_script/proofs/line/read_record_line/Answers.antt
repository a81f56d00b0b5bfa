use Rattle.std.proofs.Common.{rules}
use Rattle.replay_script.proofs.line.read_record_line.Goals as goal

pub returns-then-not-has_reply-clause-read : goal.returns-then-not-has_reply-clause-read
returns-then-not-has_reply-clause-read c = search rules
