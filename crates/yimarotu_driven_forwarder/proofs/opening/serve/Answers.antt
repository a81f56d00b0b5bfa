-- The forwarder is that of these settings over this local data.
use Rattle.std.proofs.Common.{◌≡◌, List, inl, rules, subst}
use Rattle.hickory_resolver_pool.specs.Servers.{PoolServerValue}
use Rattle.forwarder_settings.specs.Reading.{DomainGroupValue}
use Rattle.yimarotu_forwarder.specs.Forwarders.{ForwarderValue}
use Rattle.yimarotu_forwarder.specs.Local.{LocalValue}
use Rattle.yimarotu_driven_forwarder.specs.Opening.{HasServers, forwarder_over}
use Rattle.yimarotu_driven_forwarder.proofs.opening.serve.Goals as goal

pub returns-in-Ok : goal.returns-in-Ok
returns-in-Ok c =
    let local : LocalValue = record { hosts = c.args.local.hosts; rules = c.args.local.rules } in
    let same : c.in-Ok.forwarder ≡ forwarder_over c.args.settings local c.args.seeds.now.pool = search rules in
    let servers : c.deref.result.now ≡ c.args.settings.servers = search rules in
    let groups : c.deref-in-Ok.result.now ≡ c.args.settings.groups = search rules in
    let P : ForwarderValue → Type 0 = λ f. HasServers c.args.settings.servers c.args.settings.groups f c.with_servers.result in
    let Q : List PoolServerValue → Type 0 = λ s. HasServers s c.deref-in-Ok.result.now c.in-Ok.forwarder c.with_servers.result in
    let R : List DomainGroupValue → Type 0 = λ g. HasServers c.args.settings.servers g c.in-Ok.forwarder c.with_servers.result in
    inl (subst P same (subst R groups (subst Q servers c.with_servers.ensures)))
