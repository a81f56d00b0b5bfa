use Rattle.std.proofs.Common.{List, subst, ◌∙◌}
use Rattle.hickory_resolver_servers.specs.Order.{IsOrder}
use Rattle.hickory_resolver_servers.specs.Server.{ServerState}
use Rattle.hickory_resolver_servers.proofs.EachOnce.{each_once}
use Rattle.hickory_resolver_servers.proofs.servers.Servers.order.Goals as goal

pub returns-clause-each_once : goal.returns-clause-each_once
returns-clause-each_once c =
    let round = c.args.round.now in
    let order = c.in_ok-order.order.items in
    let left = c.args.left.now in
    let is = subst (λ (l : List ServerState). IsOrder c.args.strategy round l left order) (c.deref.ensures.value ∙ c.self.view_is) c.in_ok-order.ensures in
    each_once c.args.strategy round c.args.self.now left order is
