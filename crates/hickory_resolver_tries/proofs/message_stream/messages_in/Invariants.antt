use Rattle.std.proofs.Common.{◌≡◌, ◌++◌, drop, true}
use Rattle.std.specs.List.{flat_map}
use Rattle.hickory_proto_core.specs.Name.{label_bytes}
use Rattle.hickory_resolver_tries.specs.Stream.{messages_of, is_partial}
use Rattle.hickory_resolver_tries.proofs.message_stream.messages_in.Given as goal

abbrev pub invariant-loop-piece : goal.invariant-loop-piece
invariant-loop-piece l =
    (label_bytes l.out.items ++ messages_of (l.stream ++ flat_map (λ piece. piece.items) (drop l.piece-index l.pieces))
    ≡ messages_of (flat_map (λ piece. piece.items) l.pieces))
    × (is_partial l.stream ≡ true)
