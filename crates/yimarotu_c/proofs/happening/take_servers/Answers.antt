-- No server of a file is refused for its port, so that memory alone is a reason.
use Rattle.std.proofs.Common.{◌≡◌, List, [], None, ap, inr, rules, subst, ◌∙◌}
use Rattle.hickory_resolver_pool.specs.Servers.{PoolServerValue, first_fixed}
use Rattle.hickory_resolver_pool.specs.declared.servers.ServersError.TheVariants.{OutOfMemory}
use Rattle.resolv_conf.specs.ResolvConf.{resolv_conf}
use Rattle.session_settings.specs.ServerLine.{file_servers}
use Rattle.yimarotu_c.proofs.FileServers.{none_fixed}
use Rattle.yimarotu_c.specs.Happening.{servers_status}
use Rattle.yimarotu_c.specs.Statuses.{number_of}
use Rattle.yimarotu_c.proofs.happening.take_servers.Goals as goal

pub returns : goal.returns
returns c =
    let lent : file_servers (resolv_conf c.args.conf.now []) ≡ c.deref.result.now = search rules in
    let none : first_fixed c.deref.result.now ≡ None =
    subst (λ (servers : List PoolServerValue). first_fixed servers ≡ None) lent (none_fixed c.args.conf.now []) in
    let memory : c.in-Err.error ≡ OutOfMemory = c.in-Err.ensures.free none in
    inr (ap number_of (c.servers_status.ensures ∙ ap servers_status memory), c.in-Err.ensures.err)
