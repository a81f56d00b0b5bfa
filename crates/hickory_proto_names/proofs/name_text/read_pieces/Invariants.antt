use Rattle.std.proofs.Common.{length}
use Rattle.hickory_proto_names.specs.Name.{label_bytes}
use Rattle.hickory_proto_names.proofs.NameReading.{IsTaken}
use Rattle.hickory_proto_names.proofs.name_text.read_pieces.Given as goal

abbrev pub invariant-loop-piece : goal.invariant-loop-piece
invariant-loop-piece l = IsTaken l.text l.rest (label_bytes l.pieces.items) l.piece.items

abbrev pub decreases-loop-piece : goal.decreases-loop-piece
decreases-loop-piece l = length l.rest
