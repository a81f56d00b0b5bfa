use Rattle.std.proofs.Common.{◌∙◌, ap, sym, subst}
use Rattle.std.specs.Map.{lookup}
use Rattle.std.specs.Option.{option_map_or}
use Rattle.hickory_proto_core.specs.Query.{query_eq}
use Rattle.hickory_resolver_cache.specs.declared.kept.Kept.{Kept}
use Rattle.hickory_resolver_cache.specs.Turns.{Gone, IsTaken, Pair, weight_at}
use Rattle.hickory_resolver_cache.proofs.TurnOrder.{found-query, taken-found}
use Rattle.hickory_resolver_cache.proofs.Store.{query-at_turn}
use Rattle.hickory_resolver_cache.proofs.turns.take_out.Goals as goal

pub returns-clause-gone : goal.returns-clause-gone
returns-clause-gone g c =
    let ps = c.args.index.now.entries in
    let rs = c.swap_remove.new.self.entries in
    let taken = subst (IsTaken ps c.args.order.now) c.in-Some.is c.requires.taken in
    let key = query-at_turn ps c.args.order.now c.in-Some.turn c.unwrap-query.result taken (sym c.remove.ensures.value ∙ c.unwrap-query.ensures) in
    let moves = taken-found ps rs c.in-Some.turn taken.0 c.unwrap-query.result c.requires.numbers c.len-len.ensures.unique taken.1 key c.swap_remove.ensures.entries in
    subst (λ o. Gone o ps rs) (sym c.in-Some.is) (taken.0, taken.1, moves)

pub returns-clause-weight : goal.returns-clause-weight
returns-clause-weight g c =
    let ps = c.args.index.now.entries in
    let taken = subst (IsTaken ps c.args.order.now) c.in-Some.is c.requires.taken in
    let key = query-at_turn ps c.args.order.now c.in-Some.turn c.unwrap-query.result taken (sym c.remove.ensures.value ∙ c.unwrap-query.ensures) in
    let found = ap (λ k. lookup (query_eq k) ps) key ∙ found-query ps c.in-Some.turn.1 taken.0 c.len-len.ensures.unique taken.1.number in
    c.kept_weight.ensures ∙ ap (λ o. option_map_or (λ (k : Kept). k.weight) o 0) (c.swap_remove.ensures.value ∙ found)
    ∙ sym (ap (weight_at ps) c.in-Some.is ∙ ap (λ o. option_map_or (λ (p : Pair). p.1.weight) o 0) taken.1.number)
