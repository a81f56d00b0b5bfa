use Rattle.std.proofs.Common.{◌≤◌, ℕ, None, Option, sym, ap, ◌∙◌, arith}
use Rattle.hickory_proto_wire.specs.Taken.{Taken}
use Rattle.hickory_proto_wire.specs.LabelsTaken.{section_from}
use Rattle.hickory_proto_wire.proofs.Counted.{section_goes_on, section_passes, section_stops, section_done}
use Rattle.hickory_proto_wire.proofs.label_count.LabelCount.add_section.Goals as goal

pub returns-in-Err-Fault-clause-ok : goal.returns-in-Err-Fault-clause-ok
returns-in-Err-Fault-clause-ok c =
    let all = section_from c.args.section c.args.bytes.now c.args.count c.args.at None c.args.self.now in
    ap (λ (r : Taken × Option ℕ). r.0)
    (sym (section_stops c.args.section c.args.bytes.now c.args.count c.loop.counter c.loop.at c.loop.opt c.loop.self
    c.add_entry.new.self all c.in-Err-Fault.field-0-0 c.loop-test.true c.in_ok-add_entry.ensures.ok
    (rw c.in-Err-Fault.field-0-is at c.in-Err-Fault.ensures.exact) c.loop.invariant.0))

pub returns-in-Err-Fault-clause-behind : goal.returns-in-Err-Fault-clause-behind
returns-in-Err-Fault-clause-behind c =
    let all = section_from c.args.section c.args.bytes.now c.args.count c.args.at None c.args.self.now in
    ap (λ (r : Taken × Option ℕ). r.1)
    (sym (section_stops c.args.section c.args.bytes.now c.args.count c.loop.counter c.loop.at c.loop.opt c.loop.self
    c.add_entry.new.self all c.in-Err-Fault.field-0-0 c.loop-test.true c.in_ok-add_entry.ensures.ok
    (rw c.in-Err-Fault.field-0-is at c.in-Err-Fault.ensures.exact) c.loop.invariant.0))

pub returns-then-self-gt-MOST_LABELS-clause-ok : goal.returns-then-self-gt-MOST_LABELS-clause-ok
returns-then-self-gt-MOST_LABELS-clause-ok c =
    let all = section_from c.args.section c.args.bytes.now c.args.count c.args.at None c.args.self.now in
    ap (λ (r : Taken × Option ℕ). r.0)
    (sym (section_passes c.args.section c.args.bytes.now c.args.count c.loop.counter c.loop.at c.loop.opt c.loop.self
    c.add_entry.new.self all c.in-Ok.read.0 c.in-Ok.read.1 c.loop-test.true c.in_ok-add_entry.ensures.ok
    c.in-Ok.ensures.exact (omega (arith, c.if-self-gt-MOST_LABELS.true, ap (λ (t : Taken). t.labels) c.self.view_is))
    c.loop.invariant.0))

pub returns-then-self-gt-MOST_LABELS-clause-behind : goal.returns-then-self-gt-MOST_LABELS-clause-behind
returns-then-self-gt-MOST_LABELS-clause-behind c =
    let all = section_from c.args.section c.args.bytes.now c.args.count c.args.at None c.args.self.now in
    ap (λ (r : Taken × Option ℕ). r.1)
    (sym (section_passes c.args.section c.args.bytes.now c.args.count c.loop.counter c.loop.at c.loop.opt c.loop.self
    c.add_entry.new.self all c.in-Ok.read.0 c.in-Ok.read.1 c.loop-test.true c.in_ok-add_entry.ensures.ok
    c.in-Ok.ensures.exact (omega (arith, c.if-self-gt-MOST_LABELS.true, ap (λ (t : Taken). t.labels) c.self.view_is))
    c.loop.invariant.0))

pub loop-preserved : goal.loop-preserved
loop-preserved c =
    let few : c.add_entry.new.self.labels ≤ 16384 =
    omega (arith, c.if-self-gt-MOST_LABELS.false, ap (λ (t : Taken). t.labels) c.self.view_is) in
    let all = section_from c.args.section c.args.bytes.now c.args.count c.args.at None c.args.self.now in (
      section_goes_on c.args.section c.args.bytes.now c.args.count c.loop.counter c.loop.at c.loop.opt c.loop.self
          c.add_entry.new.self all c.in-Ok.read.0 c.in-Ok.read.1 c.loop-test.true c.in_ok-add_entry.ensures.ok
          c.in-Ok.ensures.exact few c.loop.invariant.0,
      few,
      c.in-Ok.ensures.same ∙ c.in_ok-add_entry.ensures.same ∙ c.loop.invariant.2,
    )

pub returns-clause-ok : goal.returns-clause-ok
returns-clause-ok c =
    let all = section_from c.args.section c.args.bytes.now c.args.count c.args.at None c.args.self.now in
    ap (λ (r : Taken × Option ℕ). r.0)
    (sym (section_done c.args.section c.args.bytes.now c.args.count c.loop.counter c.loop.at c.loop.opt c.loop.self
    c.loop.self all c.loop-test.false c.loop.invariant.0))

pub returns-clause-behind : goal.returns-clause-behind
returns-clause-behind c =
    let all = section_from c.args.section c.args.bytes.now c.args.count c.args.at None c.args.self.now in
    ap (λ (r : Taken × Option ℕ). r.1)
    (sym (section_done c.args.section c.args.bytes.now c.args.count c.loop.counter c.loop.at c.loop.opt c.loop.self
    c.loop.self all c.loop-test.false c.loop.invariant.0))
