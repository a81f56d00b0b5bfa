use Rattle.trace_judge.proofs.Sections.{section_end, section_step}
use Rattle.std.proofs.Common.{◌∙◌}
use Rattle.trace_judge.proofs.records.judge_section.Goals as goal

pub loop-i-preserved : goal.loop-i-preserved
loop-i-preserved c = λ e s.
    section_step e c.args.now c.args.query.now c.args.section c.loop-i.i c.args.records.now c.index-records-i.result c.loop-i.found.items c.judge_record.new.found.items c.loop-i-test.true c.index-records-i.is (c.in_ok-judge_record.ensures e s)
    ∙ c.loop-i.invariant e s

pub returns : goal.returns
returns c = λ e s.
    section_end e c.args.now c.args.query.now c.args.section c.loop-i.i c.args.records.now c.loop-i.found.items c.loop-i-test.false
    ∙ c.loop-i.invariant e s
