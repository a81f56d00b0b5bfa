use Rattle.std.proofs.Common.{◌≡◌, ◌++◌, ◌+◌, length}
use Rattle.hickory_proto_core.specs.Name.{label_bytes}
use Rattle.hickory_resolver_tries.specs.Stream.{messages_of, rest_of}
use Rattle.hickory_resolver_tries.proofs.message_stream.take_all.Given as goal

abbrev pub invariant-messages : goal.invariant-messages
invariant-messages l =
    (label_bytes l.out.items ++ messages_of (l.stream ++ l.piece)
    ≡ label_bytes l.fn.out.items ++ messages_of (l.fn.stream ++ l.fn.piece))
    × (rest_of (l.stream ++ l.piece) ≡ rest_of (l.fn.stream ++ l.fn.piece))

abbrev pub decreases-messages : goal.decreases-messages
decreases-messages l = length l.stream + length l.piece
