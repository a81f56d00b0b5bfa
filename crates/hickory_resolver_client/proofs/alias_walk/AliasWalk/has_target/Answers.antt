use Rattle.hickory_resolver_client.proofs.Targets.{has_other}
use Rattle.hickory_resolver_client.proofs.alias_walk.AliasWalk.has_target.Goals as goal

pub returns-else-eq : goal.returns-else-eq
returns-else-eq c =
    has_other c.args.self.now _ c.self.inside.ttl c.self.inside.alias_ttl c.self.inside.targets c.self.view_is c.args.name.now c.in-Some.targets _ _ c.in-Some.is c.eq.ensures c.if-eq.false c.contains.ensures
