use Rattle.hickory_proto_wire.proofs.ReadTable.{if_found_is_read}
use Rattle.hickory_proto_wire.proofs.read_names.ReadNames.known.Goals as goal

pub returns : goal.returns
returns c =
    if_found_is_read c.self.inside.octets.now c.args.self.now c.self.inside.names.entries c.args.place c.get.result
    c.self.invariant c.self.view_is c.get.ensures.value
