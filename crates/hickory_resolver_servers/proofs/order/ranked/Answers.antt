use Rattle.std.proofs.Common.{rules, List, ℕ, subst}
use Rattle.std.proofs.lemmas.Fn.{always_returns_same}
use Rattle.std.specs.List.Sorted.{IsPermutation, IsStableByKey}
use Rattle.std.specs.Ordering.{nat_cmp}
use Rattle.hickory_resolver_servers.specs.Order.{round_trip_of}
use Rattle.hickory_resolver_servers.proofs.order.ranked.Goals as goal

pub returns : goal.returns
returns c =
    let key = round_trip_of c.args.now c.args.servers.now in
    let ranked = c.sort_by_key.new.self.items in
    let known = c.in_ok-known.ensures in
    let called = c.in_ok-sort_by_key.ensures in
    record {
      same = subst (λ (l : List ℕ). IsPermutation l ranked) known called.permutation;
      sorted = called.sorted key (always_returns_same _ _ _ (λ a r q k. search rules));
      stable = subst (λ (l : List ℕ). IsStableByKey key nat_cmp l ranked) known
          (called.stable key (always_returns_same _ _ _ (λ a r q k. search rules)));
    }
