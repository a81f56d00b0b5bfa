use Rattle.std.proofs.Common.{◌≡◌, ◌∷◌, [], ◌++◌, ap, ◌∙◌, refl, sym, subst, nat_eq, None}
use Rattle.std.specs.List.{IsDistinct}
use Rattle.std.specs.Map.{lookup, keys_of}
use Rattle.hickory_proto_core.specs.Query.{query_eq}
use Rattle.hickory_resolver_cache.specs.Turns.{Pair, by_number, Gone, IsTaken, pair_of}
use Rattle.hickory_resolver_cache.proofs.Store.{taken-pushed}
use Rattle.hickory_resolver_cache.proofs.Stored.{stored-before}
use Rattle.hickory_resolver_cache.proofs.TurnOrder.{numbers-push}
use Rattle.hickory_resolver_cache.proofs.turns.add.Goals as goal

pub insert_entry-requires-clause-new : goal.insert_entry-requires-clause-new
insert_entry-requires-clause-new g c = subst (λ l. lookup (query_eq c.args.entry.query) l ≡ None) (sym c.add_turn.ensures.entries) c.requires.new

pub take_out-requires-clause-numbers : goal.take_out-requires-clause-numbers
take_out-requires-clause-numbers g c =
    let p : Pair = pair_of c.args.entry c.args.number c.args.weight in
    subst (λ l. IsDistinct nat_eq (keys_of (by_number l))) (sym (c.insert_entry.ensures ∙ ap (λ l. l ++ p ∷ []) c.add_turn.ensures.entries))
    (numbers-push c.args.number c.args.index.now.entries p c.requires.numbers refl).apart

pub take_out-requires-clause-taken : goal.take_out-requires-clause-taken
take_out-requires-clause-taken g c =
    let next = c.args.number in
    let p : Pair = pair_of c.args.entry next c.args.weight in
    subst (λ l. IsTaken l c.add_turn.new.order c.args.turn) (sym (c.insert_entry.ensures ∙ ap (λ l. l ++ p ∷ []) c.add_turn.ensures.entries))
    (taken-pushed next c.args.index.now.entries p c.args.order.now c.add_turn.new.order c.args.turn c.requires.numbers refl c.requires.placed c.requires.turn c.in_ok-add_turn.ensures.added)

pub returns-clause-ok : goal.returns-clause-ok
returns-clause-ok g c =
    let next = c.args.number in
    let ps = c.args.index.now.entries in
    let qs = c.take_out.new.index.entries in
    let p : Pair = pair_of c.args.entry next c.args.weight in
    stored-before next ps qs p c.args.order.now c.add_turn.new.order c.take_out.new.order c.args.turn c.requires.numbers refl c.requires.turn c.in_ok-add_turn.ensures.added
    (subst (λ l. Gone c.args.turn l qs) (c.insert_entry.ensures ∙ ap (λ l. l ++ p ∷ []) c.add_turn.ensures.entries) c.take_out.ensures.gone) c.take_out.ensures.turn_gone
