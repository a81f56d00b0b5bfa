use Rattle.hickory_proto_weights.proofs.Sames.{equal_names, addresses}
use Rattle.hickory_proto_weights.proofs.laws.addresses_weigh_as_records.Goals as goal

pub returns : goal.returns
returns c = record { names = equal_names; addresses = addresses }
