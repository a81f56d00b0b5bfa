use Rattle.std.proofs.Common.{◌≡◌, ◌++◌, ◌∷◌, [], ◌-◌, length, ap, ◌∙◌, arith}
use Rattle.std.proofs.lemmas.Result.{err_from_is_err_and}
use Rattle.std.proofs.lemmas.List.{map_push}
use Rattle.hickory_proto_names.specs.Name.{label_bytes}
use Rattle.hickory_proto_wire.specs.RecordData.{strings_at}
use Rattle.hickory_proto_wire.proofs.Loops.{string_goes_on, string_ends, strings_done, strings_counted}
use Rattle.hickory_proto_wire.proofs.wire_record_data.strings_at.Goals as goal

pub returns-in_err-string : goal.returns-in_err-string
returns-in_err-string c =
    let p = err_from_is_err_and c.from_residual.result c.from_residual.ensures.1 in
    rw (p.1, p.2)
    (string_ends c.in_err-string.field-0.0 (label_bytes c.loop.strings.items) c.args.bytes.now (length c.args.bytes.now)
    c.loop.counter c.loop.at (strings_at (length c.args.bytes.now) c.args.bytes.now c.args.at) (omega arith)
    (omega arith) c.in_err-string.ensures c.loop.invariant)

pub loop-preserved : goal.loop-preserved
loop-preserved c =
    let e : label_bytes c.push.new.self.items ≡ label_bytes c.loop.strings.items ++ c.in_ok-string.string.items ∷ [] =
    ap label_bytes c.in_ok-push.ensures.items ∙ map_push _ c.loop.strings.items c.in_ok-string.string in
    rw e
    (string_goes_on (label_bytes c.loop.strings.items) c.args.bytes.now (length c.args.bytes.now) c.loop.counter c.loop.at
    c.in_ok-string.string.items c.in_ok-string.after (strings_at (length c.args.bytes.now) c.args.bytes.now c.args.at)
    (omega arith) (omega arith) c.in_ok-string.ensures c.loop.invariant)

pub returns : goal.returns
returns c =
    strings_counted (label_bytes c.loop.strings.items) c.args.bytes.now (length c.args.bytes.now) c.loop.counter
    c.loop.at (strings_at (length c.args.bytes.now) c.args.bytes.now c.args.at) (omega arith) c.loop.invariant

pub returns-then-bytes-at : goal.returns-then-bytes-at
returns-then-bytes-at c =
    strings_done (label_bytes c.loop.strings.items) c.args.bytes.now (length c.args.bytes.now - c.loop.counter) c.loop.at
    (strings_at (length c.args.bytes.now) c.args.bytes.now c.args.at) (omega arith) c.loop.invariant
