use Rattle.std.proofs.Common.{sym, ◌∙◌, ap}
use Rattle.hickory_proto_wire.specs.OldData.{uncompressed_name_at, parts_at, end_of}
use Rattle.hickory_proto_wire.proofs.SpelledOut.{end_spelled, not_spelled}
use Rattle.hickory_proto_wire.proofs.old_data.is_spelled_out.Goals as goal

pub returns-in-Some : goal.returns-in-Some
returns-in-Some c =
    end_spelled c.args.code c.args.octets.now c.in-Some.end
    (ap (λ parts. end_of (parts_at uncompressed_name_at parts c.args.octets.now 0)) (sym c.parts_of.ensures) ∙ sym c.in-Some.ensures)

pub returns-in-None : goal.returns-in-None
returns-in-None c =
    sym (not_spelled c.args.code c.args.octets.now
    (ap (λ parts. end_of (parts_at uncompressed_name_at parts c.args.octets.now 0)) (sym c.parts_of.ensures) ∙ sym c.in-None.ensures))
