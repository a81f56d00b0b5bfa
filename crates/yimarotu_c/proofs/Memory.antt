-- Where no memory is left for a message, the room stays.
use Rattle.std.proofs.Common.{◌≡◌, ℕ, List, inr, refl}
use Rattle.hickory_proto_wire.specs.declared.to_wire_error.ToWireError.TheVariants.{OutOfMemory}
use Rattle.hickory_proto_wire.specs.declared.wire_message.WireMessage.{WireMessage}
use Rattle.yimarotu_c.specs.Messages.{IsMessagePut, unwritten_end}
use Rattle.yimarotu_c.specs.declared.rewriting.YimarotuWritten.{YimarotuWritten}

pub no_memory : (m : WireMessage) (limit : ℕ) (room : List ℕ) (ended : YimarotuWritten)
    → ended ≡ unwritten_end OutOfMemory → IsMessagePut m limit room room ended
no_memory m limit room ended told =
    inr (record { error = OutOfMemory; fault = λ apart. absurd (apart refl); stays = refl; told = told })
