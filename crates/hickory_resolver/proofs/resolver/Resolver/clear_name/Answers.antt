use Rattle.std.proofs.Common.{rules, sym, subst}
use Rattle.hickory_resolver_model.specs.Client.{ClientValue}
use Rattle.hickory_resolver_model.specs.Resolver.{ResolverValue}
use Rattle.hickory_resolver_theorems.specs.CallFacts.{KeepsWhatIsKnown}
use Rattle.hickory_resolver.proofs.Answering.{names_keep}
use Rattle.hickory_resolver.proofs.resolver.Resolver.clear_name.Goals as goal

pub returns-clause-ok : goal.returns-clause-ok
returns-clause-ok g c = search rules

pub returns-clause-keeps : goal.returns-clause-keeps
returns-clause-keeps g c =
    subst (λ (r : ResolverValue _). KeepsWhatIsKnown r.client.cache c.clear_each.new.client.cache) c.self.view_is
    (subst (λ (x : ClientValue _). KeepsWhatIsKnown c.self.inside.client.cache x.cache) (sym c.clear_each.ensures)
    (names_keep c.args.record_type c.in_ok-names.names.items c.self.inside.client.cache))
