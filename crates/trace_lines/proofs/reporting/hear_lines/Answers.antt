use Rattle.std.proofs.Common.{◌∙◌, ◌∷◌, ap, refl, subst}
use Rattle.std.specs.Io.KnownBytes.{Appends}
use Rattle.std.proofs.lemmas.Result.{on_ok_weaker}
use Rattle.trace_lines.specs.Reports.{told_text}
use Rattle.trace_lines.specs.Whole.{whole_text, with_whole}
use Rattle.trace_lines.proofs.Whole.{all_read, line_of, more_written, one_read, told_more}
use Rattle.trace_lines.proofs.reporting.hear_lines.Goals as goal

pub returns-then-not-branch : goal.returns-then-not-branch
returns-then-not-branch g c = λ options strict heard.
    let r = c.loop.invariant options strict heard in
    let whole = c.finish.result in
    let start = g.W.Write.contents c.args.writer.now in
    let end = g.W.Write.contents c.hear_whole.new.writer in
    on_ok_weaker c.hear_whole.result (λ h. (
      r.0,
      with_whole whole r.1,
      (r.1, c.loop.lines, r.2, ap (λ w. with_whole w r.1) c.finish.ensures.whole),
      all_read (g.R.Read.remaining c.args.reader.now) (g.R.Read.remaining c.loop.reader)
          (g.R.Read.remaining c.next_line.new.reader) r.0 c.next_line.new.line.items c.in_ok-next_line.field-0
          c.if-not-branch.true r.5 c.in_ok-next_line.ensures,
      h.0,
      subst (Appends start end) (told_more options strict r.1 whole)
          (more_written start (g.W.Write.contents c.loop.writer) end (told_text options strict r.1)
          (whole_text options strict r.1 whole) r.4 h.1),
    )) (c.hear_whole.ensures options strict r.1 r.3)

pub loop-preserved : goal.loop-preserved
loop-preserved g c = λ options strict heard.
    let r = c.loop.invariant options strict heard in
    let h = c.in_ok-hear_line.ensures options strict r.1 r.3 in
    let start = g.W.Write.contents c.args.writer.now in
    let end = g.W.Write.contents c.hear_line.new.writer in (
      c.without_end.result.now ∷ r.0,
      with_whole h.0 r.1,
      (r.1, c.loop.lines, h.0, r.2, h.1, refl),
      h.2,
      subst (Appends start end) (told_more options strict r.1 h.0)
          (more_written start (g.W.Write.contents c.loop.writer) end (told_text options strict r.1)
          (whole_text options strict r.1 h.0) r.4 h.3),
      one_read (g.R.Read.remaining c.args.reader.now) (g.R.Read.remaining c.loop.reader)
          (g.R.Read.remaining c.next_line.new.reader) r.0 c.next_line.new.line.items c.without_end.result.now
          c.in_ok-next_line.field-0 c.if-not-branch.false r.5 c.in_ok-next_line.ensures
          (c.without_end.ensures ∙ ap line_of c.deref.ensures.value),
    )
