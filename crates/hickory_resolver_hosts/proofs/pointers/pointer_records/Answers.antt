use Rattle.std.proofs.Common.{filter, length, sym, ap, ◌∙◌}
use Rattle.std.specs.declared.net.IpAddr.TheVariants.{V4, V6}
use Rattle.std.proofs.lemmas.List.{length-map}
use Rattle.hickory_proto_core.specs.Records.{data_of_address}
use Rattle.hickory_resolver_model.specs.Hosts.{has_address, pointers}
use Rattle.hickory_resolver_hosts.specs.Index.{has_owner}
use Rattle.hickory_resolver_hosts.specs.HostsTable.{host_at, hosts_of}
use Rattle.hickory_resolver_hosts.proofs.InOrder.{if_ok, pointers_between}
use Rattle.hickory_resolver_hosts.proofs.pointers.pointer_records.Goals as goal

pub returns-in-V4-clause-ok : goal.returns-in-V4-clause-ok
returns-in-V4-clause-ok g c =
    let es = c.args.names.now.entries in
    let owners = c.args.owners.now.v4 in
    let bits = c.bits_v4.result in
    let address = V4 c.in-V4.address in
    let pairs = pointers_between c.args.owner.now (hosts_of es) owners bits (length es) (data_of_address address)
    (λ i. ap (λ b. has_owner owners b i) c.bits_v4.ensures.bits ∙ c.requires address c.bits_v4.ensures.octets i)
    (sym (length-map es (λ e. host_at e.0 e.1))) c.pointers_of.ensures.ordered in
    if_ok c.pointers_of.result
    (λ records is. is ∙ pairs
    ∙ ap (λ a. pointers c.args.owner.now (filter (has_address (data_of_address a)) (hosts_of es))) (sym c.in-V4.is))
    c.pointers_of.ensures.ok

pub returns-in-V6-clause-ok : goal.returns-in-V6-clause-ok
returns-in-V6-clause-ok g c =
    let es = c.args.names.now.entries in
    let owners = c.args.owners.now.v6 in
    let bits = c.bits_v6.result in
    let address = V6 c.in-V6.address in
    let pairs = pointers_between c.args.owner.now (hosts_of es) owners bits (length es) (data_of_address address)
    (λ i. ap (λ b. has_owner owners b i) c.bits_v6.ensures.bits ∙ c.requires address c.bits_v6.ensures.octets i)
    (sym (length-map es (λ e. host_at e.0 e.1))) c.pointers_of-in-V6.ensures.ordered in
    if_ok c.pointers_of-in-V6.result
    (λ records is. is ∙ pairs
    ∙ ap (λ a. pointers c.args.owner.now (filter (has_address (data_of_address a)) (hosts_of es))) (sym c.in-V6.is))
    c.pointers_of-in-V6.ensures.ok
