-- The servers and the groups are lent.
use Rattle.std.proofs.Common.{◌≡◌, List, rules, subst}
use Rattle.hickory_resolver_pool.specs.Servers.{PoolServerValue}
use Rattle.forwarder_settings.specs.Reading.{DomainGroupValue}
use Rattle.yimarotu_driven_forwarder.specs.Servers.{AsksServers}
use Rattle.yimarotu_driven_forwarder.proofs.servers.set_servers.Goals as goal

pub returns : goal.returns
returns c =
    let servers : c.deref.result.now ≡ c.args.settings.now.servers = search rules in
    let groups : c.deref-2.result.now ≡ c.args.settings.now.groups = search rules in
    let Q : List PoolServerValue → Type 0 = λ s. AsksServers s c.deref-2.result.now c.args.forwarder.now c.set_all.result c.set_all.new.forwarder in
    let R : List DomainGroupValue → Type 0 = λ g. AsksServers c.args.settings.now.servers g c.args.forwarder.now c.set_all.result c.set_all.new.forwarder in
    subst R groups (subst Q servers c.set_all.ensures)
