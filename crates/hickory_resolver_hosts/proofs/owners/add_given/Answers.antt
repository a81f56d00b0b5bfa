use Rattle.std.proofs.Common.{◌||◌, ◌&&◌, ◌==◌, ap, ◌∙◌}
use Rattle.hickory_resolver_hosts.specs.Index.{is_owner}
use Rattle.hickory_resolver_hosts.proofs.Bits.{same_address_data}
use Rattle.hickory_resolver_hosts.proofs.owners.add_given.Goals as goal

pub returns-in_ok-add-clause-ok : goal.returns-in_ok-add-clause-ok
returns-in_ok-add-clause-ok c = λ a is i.
    c.in_ok-add.ensures.ok a i
    ∙ ap (λ g. is_owner c.args.owners.now a i || (g && (c.args.place == i)))
    (same_address_data c.in-Some.address a c.add.ensures.address is ∙ c.in-Some.ensures a)
