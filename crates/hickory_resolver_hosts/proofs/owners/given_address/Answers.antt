use Rattle.std.proofs.Common.{sym, ap, ◌∙◌, rules}
use Rattle.std.specs.Bool.{then_some}
use Rattle.hickory_resolver_hosts.proofs.GivenAddresses.{given_if}
use Rattle.hickory_resolver_hosts.proofs.owners.given_address.Goals as goal

pub returns : goal.returns
returns c =
    given_if c.args.record_type c.args.entry.now c.entry.inside.rdata c.in_ok-address.address c.then_some.result (search rules)
    (sym c.ip_addr.ensures ∙ c.in_ok-address.was)
    (c.then_some.ensures ∙ ap (λ b. then_some b c.in_ok-address.address) c.is_of_family.ensures)
