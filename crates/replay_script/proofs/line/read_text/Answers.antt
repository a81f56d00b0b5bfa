use Rattle.std.proofs.Common.{rules}
use Rattle.replay_script.proofs.Allowed.{allowed_text}
use Rattle.replay_script.proofs.line.read_text.Goals as goal

pub unwrap-requires : goal.unwrap-requires
unwrap-requires c =
    let text = allowed_text c.args.line.now (let h = c.is_all_allowed.ensures in cc) in
    search rules

pub returns-then-not-is_all_allowed : goal.returns-then-not-is_all_allowed
returns-then-not-is_all_allowed c = search rules
