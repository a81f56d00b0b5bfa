use Rattle.std.proofs.Common.{◌∷◌, [], ◌++◌, Some, refl, sym, subst, ap, ◌∙◌}
use Rattle.std.proofs.lemmas.List.Sorted.{IsPermutation-refl}
use Rattle.std.specs.List.Sorted.{IsPermutation}
use Rattle.hickory_resolver_cache.specs.Turns.{Pair, Gone, IsTaken, pair_of, weight_at}
use Rattle.hickory_resolver_cache.proofs.Store.{taken-push}
use Rattle.hickory_resolver_cache.proofs.turns.exchange.Goals as goal

pub take_out-gone-requires-clause-taken : goal.take_out-gone-requires-clause-taken
take_out-gone-requires-clause-taken g c =
    let next = c.args.number in
    subst (λ l. IsTaken l c.add_turn.new.order (Some c.args.turn)) (sym c.add_turn.ensures.entries)
    (taken-push next c.args.index.now.entries (pair_of c.args.entry next c.args.weight) c.args.order.now c.add_turn.new.order (Some c.args.turn) c.requires.numbers refl c.requires.placed c.requires.turn c.in_ok-add_turn.ensures.added)

pub insert_entry-requires-clause-new : goal.insert_entry-requires-clause-new
insert_entry-requires-clause-new g c =
    let rs = c.take_out-gone.new.index.entries in
    c.requires.frees rs c.take_out-gone.ensures.unique (subst (λ l. Gone (Some c.args.turn) l rs) c.add_turn.ensures.entries c.take_out-gone.ensures.gone)

pub returns-clause-ok : goal.returns-clause-ok
returns-clause-ok g c =
    let rs = c.take_out-gone.new.index.entries in
    let p : Pair = pair_of c.args.entry c.args.number c.args.weight in
    record {
      rest = rs;
      between = c.add_turn.new.order;
      gone = subst (λ l. Gone (Some c.args.turn) l rs) c.add_turn.ensures.entries c.take_out-gone.ensures.gone;
      moved = subst (IsPermutation (rs ++ p ∷ [])) (sym c.insert_entry.ensures) (IsPermutation-refl (rs ++ p ∷ []));
      added = c.in_ok-add_turn.ensures.added;
      turn_gone = c.take_out-gone.ensures.turn_gone;
    }

pub returns-clause-weight : goal.returns-clause-weight
returns-clause-weight g c = c.take_out-gone.ensures.weight ∙ ap (λ l. weight_at l (Some c.args.turn)) c.add_turn.ensures.entries
