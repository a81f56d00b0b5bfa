use Rattle.std.proofs.Common.{◌≡◌, ◌∷◌}
use Rattle.std.specs.Str.Lines.{lines}
use Rattle.forwarder_settings.specs.Blocked.{blocked_domains}
use Rattle.forwarder_settings.proofs.BlockedNames.{as_error, line_blocked, line_stopped}
use Rattle.forwarder_settings.proofs.blocked.read_blocked.Goals as goal

pub loop-line-preserved : goal.loop-line-preserved
loop-line-preserved g c =
    let before = lines c.loop-line.line-iterator.rest.now in
    let others = lines c.next.new.self.rest.now in
    let cut : before ≡ c.in-Some.line.now ∷ others = c.in-Some.ensures.steps in
    line_blocked (blocked_domains c.args.file.now) c.in-Some.line.now before others c.args.rules.now c.loop-line.rules
    c.block_line.new.rules c.loop-line.invariant cut c.in_ok-block_line.ensures.ok

pub returns-in_err-block_line-clause-err : goal.returns-in_err-block_line-clause-err
returns-in_err-block_line-clause-err g c =
    let before = lines c.loop-line.line-iterator.rest.now in
    let others = lines c.next.new.self.rest.now in
    let cut : before ≡ c.in-Some.line.now ∷ others = c.in-Some.ensures.steps in
    as_error c.from_residual.result
    (line_stopped (blocked_domains c.args.file.now) c.in-Some.line.now before others c.args.rules.now c.loop-line.rules
    c.block_line.new.rules c.loop-line.invariant cut c.in_err-block_line.ensures.err)
