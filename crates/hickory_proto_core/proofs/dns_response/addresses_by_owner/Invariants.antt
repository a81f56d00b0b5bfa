use Rattle.std.proofs.Common.{◌≡◌, take, filter}
use Rattle.hickory_proto_names.specs.Name.{NameValue}
use Rattle.hickory_proto_core.specs.Glue.{glue_in}
use Rattle.hickory_proto_core.specs.ResponseKind.{is_address_of}
use Rattle.hickory_proto_core.proofs.dns_response.addresses_by_owner.Given as goal

abbrev pub invariant-loop-additional : goal.invariant-loop-additional
invariant-loop-additional l = (q : NameValue) → glue_in q l.by_owner ≡ filter (is_address_of q) (take l.additional-index l.additionals)
