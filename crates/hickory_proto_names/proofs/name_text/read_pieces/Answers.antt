use Rattle.std.proofs.Common.{◌++◌, ◌∷◌, [], refl, sym, ◌∙◌, ap, ap₂, inr, map, arith}
use Rattle.std.proofs.lemmas.List.{map-append}
use Rattle.std.proofs.lemmas.Result.{err_from_is_err_and}
use Rattle.hickory_proto_names.specs.Name.{label_bytes}
use Rattle.hickory_proto_names.specs.NameText.{front_fault, may_stand, written_byte}
use Rattle.hickory_proto_names.proofs.NameReading.{IsTaken, same_empty, label_bytes-push, taken-run}
use Rattle.hickory_proto_names.specs.NameSteps.{cut-char, cut-dot, fault_here}
use Rattle.hickory_proto_names.proofs.name_text.read_pieces.Goals as goal

pub loop-piece-init : goal.loop-piece-init
loop-piece-init c =
    ([], [], record { some = omega arith; spelled = refl; stand = refl }, ap (λ vs. map (λ v. v.items) vs) c.new-pieces.ensures.items, c.new-piece.ensures.items)

pub returns-in_err-character-clause-err : goal.returns-in_err-character-clause-err
returns-in_err-character-clause-err c =
    let i : IsTaken c.args.text.now c.split_run.result.1.now (label_bytes c.loop-piece.pieces.items) c.extend_from_slice.new.self.items =
    taken-run (label_bytes c.loop-piece.pieces.items) c.loop-piece.piece c.is_empty.result c.split_run.result.0.now c.extend_from_slice.new.self.items c.loop-piece.invariant c.is_empty.ensures c.split_run.ensures c.in_ok-extend_from_slice.ensures.items in
    let p = err_from_is_err_and c.from_residual-in_err-character.result c.from_residual-in_err-character.ensures.1 in
    let first = c.is_empty-in-loop-piece.ensures ∙ same_empty c.extend_from_slice.new.self i.1 i.4 in
    rw (p.1, p.2) (inr (fault_here c.split_run.result.1.now i.0 i.1 _ i.2 (ap (λ f. front_fault f c.split_run.result.1.now) (sym first) ∙ c.in_err-character.ensures.err)))

pub loop-piece-preserved-in_ok-push-in-Byte : goal.loop-piece-preserved-in_ok-push-in-Byte
loop-piece-preserved-in_ok-push-in-Byte c =
    let i : IsTaken c.args.text.now c.split_run.result.1.now (label_bytes c.loop-piece.pieces.items) c.extend_from_slice.new.self.items =
    taken-run (label_bytes c.loop-piece.pieces.items) c.loop-piece.piece c.is_empty.result c.split_run.result.0.now c.extend_from_slice.new.self.items c.loop-piece.invariant c.is_empty.ensures c.split_run.ensures c.in_ok-extend_from_slice.ensures.items in
    let first = c.is_empty-in-loop-piece.ensures ∙ same_empty c.extend_from_slice.new.self i.1 i.4 in
    let front = rw (c.in-Some.is, c.in-Byte.is) at c.in_ok-character.ensures.ok in (
      i.0,
      i.1 ++ front.0 ∷ [],
      cut-char i.0 i.1 front.0 i.2 front.1 (ap (λ f. may_stand f front.0) (sym first) ∙ front.2),
      i.3,
      c.in_ok-push-in-Byte.ensures.items ∙ ap₂ (λ xs x. xs ++ x ∷ []) i.4 (sym front.3) ∙ sym (map-append written_byte i.1 (front.0 ∷ [])),
    )

pub loop-piece-preserved : goal.loop-piece-preserved
loop-piece-preserved c =
    let i : IsTaken c.args.text.now c.split_run.result.1.now (label_bytes c.loop-piece.pieces.items) c.extend_from_slice.new.self.items =
    taken-run (label_bytes c.loop-piece.pieces.items) c.loop-piece.piece c.is_empty.result c.split_run.result.0.now c.extend_from_slice.new.self.items c.loop-piece.invariant c.is_empty.ensures c.split_run.ensures c.in_ok-extend_from_slice.ensures.items in
    let front = rw (c.in-Some.is, c.in-Dot.is) at c.in_ok-character.ensures.ok in
    (i.0 ++ i.1 ∷ [], [], cut-dot i.0 i.1 i.2 front, ap label_bytes c.in_ok-push-in-Dot.ensures.items ∙ label_bytes-push c.loop-piece.pieces.items c.extend_from_slice.new.self i.0 i.1 i.3 i.4, c.new-piece-in-Dot.ensures.items)

pub returns-in_default-clause-ok : goal.returns-in_default-clause-ok
returns-in_default-clause-ok c =
    let i : IsTaken c.args.text.now c.split_run.result.1.now (label_bytes c.loop-piece.pieces.items) c.extend_from_slice.new.self.items =
    taken-run (label_bytes c.loop-piece.pieces.items) c.loop-piece.piece c.is_empty.result c.split_run.result.0.now c.extend_from_slice.new.self.items c.loop-piece.invariant c.is_empty.ensures c.split_run.ensures c.in_ok-extend_from_slice.ensures.items in
    let end = rw c.in_default.is at c.in_ok-character.ensures.ok in
    (i.0 ++ i.1 ∷ [], rw (← end) i.2, ap label_bytes c.in_ok-push.ensures.items ∙ label_bytes-push c.loop-piece.pieces.items c.extend_from_slice.new.self i.0 i.1 i.3 i.4)
