use Rattle.std.proofs.Common.{◌-◌, sym, ◌∙◌, inl, inr, arith}
use Rattle.hickory_proto_wire.proofs.Uncompressed.{no_octet, no_step, root_end, long_none, room_none, cut_none, label_end}
use Rattle.hickory_proto_wire.proofs.old_data.+labels_end.Goals as goal
use Rattle.hickory_proto_wire.proofs.old_data.+labels_end.Goals.{then-saturating_sub-len-via-then-saturating_sub-len, then-saturating_sub-len-via-else-saturating_sub-len+then-octets-after}

pub returns-then-steps-eq0 : goal.returns-then-steps-eq0
returns-then-steps-eq0 t c =
    elim c.then-steps-eq0.either [
      | inl h ↦ sym (no_step c.args.steps c.args.octets.now c.args.walk h)
      | inr h ↦ sym (no_octet c.args.steps c.args.octets.now c.args.walk h.1)
    ]

pub returns-then-len-eq0 : goal.returns-then-len-eq0
returns-then-len-eq0 t c =
    sym (root_end c.args.steps c.args.octets.now c.args.walk (omega arith) c.if-octets-walk.false
    (sym c.from-len.ensures ∙ c.if-len-eq0.true))

pub returns-then-len-gt63 : goal.returns-then-len-gt63
returns-then-len-gt63 t c =
    sym (long_none c.args.steps c.args.octets.now c.args.walk c.from-len.result (omega arith) c.if-octets-walk.false
    (sym c.from-len.ensures) (omega arith) c.requires)

pub returns : goal.returns
returns t c =
    c.labels_end.ensures
    ∙ sym (label_end c.args.steps (c.args.steps - 1) c.args.octets.now c.args.walk c.from-len.result (omega arith)
    c.if-octets-walk.false (sym c.from-len.ensures) (omega arith) (omega arith) (omega arith) (omega arith))

pub returns-then-saturating_sub-len : goal.returns-then-saturating_sub-len
returns-then-saturating_sub-len t c =
    let within = c.if-octets-walk.false in
    let is = sym c.from-len.ensures in
    elim c.then-saturating_sub-len.branch [
      | then-saturating_sub-len-via-then-saturating_sub-len w ↦
          sym (room_none c.args.steps c.args.octets.now c.args.walk c.from-len.result (omega arith) within is (omega arith)
          (omega arith) (omega (arith, w.if-saturating_sub-len.true)))
      | then-saturating_sub-len-via-else-saturating_sub-len+then-octets-after w ↦
          sym (cut_none c.args.steps c.args.octets.now c.args.walk c.from-len.result (omega arith) within is (omega arith)
          (omega arith) (omega (arith, w.if-saturating_sub-len.false)) (omega (arith, w.if-octets-after.true)))
    ]
