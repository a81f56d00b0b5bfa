use Rattle.std.proofs.Common.{◌≡◌, inl, rules, subst}
use Rattle.hickory_resolver_pool.specs.Pool.{default_limits}
use Rattle.yimarotu_embedded.specs.NetworkOpening.{HasServers}
use Rattle.yimarotu_session.specs.NetworkSessions.{NetworkValue, new_session}
use Rattle.yimarotu_embedded.proofs.network_opening.begin.Goals as goal

pub returns-in-Ok : goal.returns-in-Ok
returns-in-Ok c =
    let same : c.in-Ok.session ≡ new_session c.args.resolver default_limits c.args.seeds.pool = search rules in
    let P : NetworkValue → Type 0 = λ s. HasServers c.args.servers.now s c.with_servers.result in
    inl (subst P same c.with_servers.ensures)
