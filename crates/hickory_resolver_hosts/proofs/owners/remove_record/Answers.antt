use Rattle.std.proofs.Common.{not, ◌&&◌, ◌==◌, ap, ◌∙◌}
use Rattle.hickory_resolver_hosts.specs.Index.{is_owner}
use Rattle.hickory_resolver_hosts.proofs.Bits.{same_address_data}
use Rattle.hickory_resolver_hosts.proofs.owners.remove_record.Goals as goal

pub returns-in-Some : goal.returns-in-Some
returns-in-Some c = λ a is i.
    c.remove.ensures.removed a i
    ∙ ap (λ g. is_owner c.args.owners.now a i && not (g && (c.args.place == i)))
    (same_address_data c.in-Some.address a c.remove.ensures.address is ∙ c.in-Some.ensures a)
