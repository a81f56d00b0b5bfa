use Rattle.std.proofs.Common.{◌≡◌, ℕ, ◌-◌, drop, length, refl, sym, ap, ◌∙◌, arith}
use Rattle.hickory_proto_wire.specs.Written.{noted}
use Rattle.hickory_proto_wire.proofs.Same.{noted_step, noted_halt, far, full}
use Rattle.hickory_proto_wire.proofs.name_writer.note_name.Goals.{then-at-ge16384-via-then-at-ge16384, then-at-ge16384-via-else-at-ge16384+then-len-ge-MOST_PLACES}
use Rattle.hickory_proto_wire.proofs.name_writer.note_name.Goals as goal

pub loop-i-init : goal.loop-i-init
loop-i-init c =
    let all : c.args.whole - 0 ≡ c.args.whole = omega arith in
    ap (λ (n : ℕ). noted c.args.places.now.items n c.args.at c.args.name.now.labels) all

pub loop-i-preserved : goal.loop-i-preserved
loop-i-preserved c =
    noted_step c.labels-labels.result.now c.args.name.now.labels c.loop-i.places.items c.push.new.self.items c.args.whole
    c.loop-i.i c.loop-i.at (length c.as_slice.result.now) c.index-labels-i.result _ c.labels-labels.ensures.labels c.requires
    c.loop-i-test.true c.index-labels-i.is c.if-at-ge16384.false
    (omega (arith, c.if-len-ge-MOST_PLACES.false, c.len.ensures)) refl c.in_ok-push.ensures.items
    (ap length c.as_slice.ensures.value)
    ∙ c.loop-i.invariant

pub returns : goal.returns
returns c =
    let none : c.args.whole - c.loop-i.i ≡ 0 = omega (arith, c.loop-i-test.false) in
    sym (ap (λ (n : ℕ). noted c.loop-i.places.items n c.loop-i.at (drop c.loop-i.i c.args.name.now.labels)) none)
    ∙ c.loop-i.invariant

pub returns-then-at-ge16384 : goal.returns-then-at-ge16384
returns-then-at-ge16384 c =
    elim c.then-at-ge16384.branch [
      | then-at-ge16384-via-then-at-ge16384 w ↦
          sym (noted_halt c.args.name.now.labels c.loop-i.places.items c.args.whole c.loop-i.i c.loop-i.at c.requires
          c.loop-i-test.true (far c.loop-i.at (length c.loop-i.places.items) w.if-at-ge16384.true)) ∙ c.loop-i.invariant
      | then-at-ge16384-via-else-at-ge16384+then-len-ge-MOST_PLACES w ↦
          sym (noted_halt c.args.name.now.labels c.loop-i.places.items c.args.whole c.loop-i.i c.loop-i.at c.requires
          c.loop-i-test.true (full c.loop-i.at (length c.loop-i.places.items)
          (omega (arith, w.if-len-ge-MOST_PLACES.true, w.len.ensures)))) ∙ c.loop-i.invariant
    ]
