use Rattle.hickory_resolver_traffic.proofs.Behind.{behind_first}
use Rattle.hickory_resolver_traffic.proofs.inbox.StreamOctets.drop_first.Goals as goal

pub returns-in-Some : goal.returns-in-Some
returns-in-Some c = λ first first_is.
    behind_first c.self.inside.octets.items c.unread.result.now c.args.self.now c.self.inside.read c.in-Some.len first
    c.self.view_is c.unread.ensures c.in-Some.ensures.1 first_is
