use Rattle.std.proofs.Common.{◌≡◌, ap, ◌∙◌, arith, ℕ, length}
use Rattle.std.proofs.lemmas.List.{take_all, length-map}
use Rattle.std.specs.Global.{Vec}
use Rattle.hickory_proto_names.specs.Name.{label_bytes}
use Rattle.hickory_proto_wire.specs.Writing.{run_of}
use Rattle.hickory_proto_wire.specs.Refused.{size_fault}
use Rattle.hickory_proto_wire.proofs.Strings.{string_short, size_more, size_past}
use Rattle.hickory_proto_wire.proofs.checks.strings_size.Goals as goal

pub returns-then-size-gt65535 : goal.returns-then-size-gt65535
returns-then-size-gt65535 c =
    size_past c.args.strings.now c.loop-i.i c.loop-i.size c.loop-i.invariant.0 (omega arith)

pub loop-i-preserved : goal.loop-i-preserved
loop-i-preserved c =
    let short = string_short c.args.strings.now c.loop-i.i c.index-strings-i.result c.requires c.loop-i-test.true c.index-strings-i.is in
    let more = size_more c.args.strings.now c.loop-i.i c.index-strings-i.result c.loop-i.size c.loop-i-test.true c.index-strings-i.is c.loop-i.invariant.0 in
    let value : length c.as_slice.result.now ≡ length c.index-strings-i.result.items = ap length c.as_slice.ensures.value in
    (omega (arith, more, value), omega (arith, short, value))

pub returns : goal.returns
returns c =
    ap size_fault (c.loop-i.invariant.0 ∙ ap (λ ls. length (run_of ls)) (take_all c.loop-i.i (label_bytes c.args.strings.now)
    (omega (arith, c.loop-i-test.false, length-map c.args.strings.now (λ (x : Vec ℕ). x.items)))))
