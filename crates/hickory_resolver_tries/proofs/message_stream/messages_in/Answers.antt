use Rattle.std.proofs.Common.{List, ℕ, ◌≡◌, ◌++◌, ◌∷◌, ◌+◌, drop, ap, sym, ◌∙◌}
use Rattle.std.specs.Global.{Vec}
use Rattle.std.specs.List.{flat_map}
use Rattle.std.proofs.lemmas.List.{drop_more, drop_all}
use Rattle.hickory_proto_core.specs.Name.{label_bytes}
use Rattle.hickory_resolver_tries.proofs.Streams.{piece_step, no_more}
use Rattle.hickory_resolver_tries.proofs.message_stream.messages_in.Goals as goal

pub loop-piece-preserved : goal.loop-piece-preserved
loop-piece-preserved c =
    let f : Vec ℕ → List ℕ = λ v. v.items in
    let i = c.loop-piece.piece-index in
    let item = c.piece-item.result in
    let more = drop (i + 1) c.args.pieces.now in
    let first : drop i c.args.pieces.now ≡ item ∷ more =
    drop_more c.args.pieces.now i item c.loop-piece-test.true ∙ ap (λ (v : Vec ℕ). v ∷ more) (sym c.piece-item.is) in
    let rest : flat_map f (drop i c.args.pieces.now) ≡ c.deref.result.now ++ flat_map f more =
    ap (flat_map f) first ∙ ap (λ (o : List ℕ). o ++ flat_map f more) (sym c.deref.ensures.value) in (
      piece_step (label_bytes c.loop-piece.out.items) (label_bytes c.take_all.new.out.items) c.loop-piece.stream c.deref.result.now
          c.take_all.new.stream (flat_map f (drop i c.args.pieces.now)) (flat_map f more) _ c.in_ok-take_all.ensures.messages
          c.in_ok-take_all.ensures.rest rest c.loop-piece.invariant.0,
      c.in_ok-take_all.ensures.partial,
    )

pub returns : goal.returns
returns c =
    let f : Vec ℕ → List ℕ = λ v. v.items in
    let end = ap (flat_map f) (drop_all c.loop-piece.piece-index c.args.pieces.now c.loop-piece-test.false) in
    no_more (label_bytes c.loop-piece.out.items) _ c.loop-piece.stream _ c.loop-piece.invariant.1 end c.loop-piece.invariant.0
