use Rattle.std.proofs.Common.{◌∙◌, sym, ap}
use Rattle.std.specs.Option.{option_map}
use Rattle.std.specs.Map.Iter.{deref_pair}
use Rattle.hickory_resolver_cache.specs.Turns.{Pair}
use Rattle.hickory_resolver_cache.proofs.Renumbered.{order-more, order-none, order-all}
use Rattle.hickory_resolver_cache.proofs.renumber.order_of.Goals as goal

pub loop-i-init : goal.loop-i-init
loop-i-init g c = order-none c.new-order.result c.new-order.ensures.empty

pub loop-i-preserved : goal.loop-i-preserved
loop-i-preserved g c =
    let p : Pair = (c.unwrap.result.0.now, c.unwrap.result.1.now) in
    order-more c.args.index.now.entries c.loop-i.i p c.in_ok-clone.field-0 c.loop-i.order c.insert.new.self (sym c.get_index.ensures.entry ∙ ap (option_map deref_pair) c.unwrap.ensures) c.in_ok-clone.ensures.cases c.loop-i.invariant c.in_ok-insert.ensures.updates.0

pub returns : goal.returns
returns g c = record {
  ok = order-all c.loop-i.i c.len-i-end.result c.args.index.now.entries c.loop-i.order c.loop-i.invariant c.len-i-end.ensures.len c.loop-i-test.false;
}
