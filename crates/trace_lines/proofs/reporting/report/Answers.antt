use Rattle.std.proofs.Common.{[], subst}
use Rattle.trace_lines.specs.Reports.{HasHeard}
use Rattle.trace_lines.proofs.Whole.{reported}
use Rattle.trace_lines.proofs.reporting.report.Goals as goal

pub returns-in-Ok : goal.returns-in-Ok
returns-in-Ok g c =
    let options = c.args.settings.options in let strict = c.args.settings.strictness in
    reported options strict _ (g.R.Read.remaining c.args.reader.now) (g.W.Write.contents c.args.writer.now)
    (g.W.Write.contents c.hear_lines.new.writer) _ c.finish-found.result
    (c.in-Ok.ensures options strict
    (subst (λ s. HasHeard s.options s.strictness [] c.new-session.result) c.settings.view_is c.new-session.ensures)) c.finish-found.ensures
