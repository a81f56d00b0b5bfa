use Rattle.std.proofs.Common.{◌≡◌}
use Rattle.hickory_resolver_model.specs.Run.{drop_each}
use Rattle.hickory_resolver.proofs.resolver.clear_each.Given as goal

abbrev pub invariant-loop-name : goal.invariant-loop-name
invariant-loop-name g l =
    (drop_each l.record_type l.name-iterator.rest.items l.client.cache
    ≡ drop_each l.record_type l.fn.names.items l.fn.client.cache)
    × (l.client ≡ record l.fn.client { cache = l.client.cache })
