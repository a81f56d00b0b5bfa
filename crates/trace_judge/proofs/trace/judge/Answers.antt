use Rattle.std.proofs.Common.{◌∷◌, ◌∙◌, ◌++◌, List, ap, map}
use Rattle.trace_judge.specs.Traces.{judged_at}
use Rattle.trace_judge.specs.declared.classes.Finding.{Finding}
use Rattle.trace_judge.proofs.Sections.{judged_step}
use Rattle.trace_judge.proofs.trace.judge.Goals as goal

pub loop-i-preserved : goal.loop-i-preserved
loop-i-preserved c =
    let past = c.loop-i.invariant.0 in
    let heard = c.in_ok-found.ensures c.args.options past c.loop-i.invariant.1 in
    let event = c.index-trace-i.result in (
      event ∷ past,
      heard.1,
      judged_step c.args.options past c.loop-i.i c.args.trace.now event c.in_ok-found.found.items c.loop-i.judged.items
          c.note.new.judged.items c.loop-i-test.true c.index-trace-i.is heard.0
          (c.in_ok-note.ensures ∙ ap (λ (fs : List Finding). c.loop-i.judged.items ++ map (judged_at c.loop-i.i) fs) c.deref.ensures.value)
          ∙ c.loop-i.invariant.2,
    )
