use Rattle.std.proofs.Common.{find, option_and_then, Some, None, ap, ap₂, ◌∙◌}
use Rattle.hickory_resolver_model.specs.Hosts.{family, is_host}
use Rattle.hickory_resolver_hosts.proofs.Places.{found_family}
use Rattle.hickory_resolver_hosts.proofs.hosts.Hosts.addresses.Goals as goal

pub returns-in_default-clause-ok : goal.returns-in_default-clause-ok
returns-in_default-clause-ok g c =
    let t = c.args.query.now.query_type in
    found_family t c.in_ok-name.name c.in_ok-name.name c.self.inside.names.entries None c.in_default.ensures.value
    ∙ ap₂ (λ n hosts. option_and_then (family t) (find (is_host n) hosts)) c.in_ok-name.ensures.ok c.self.view_is

pub returns-in-Some-family-clause-ok : goal.returns-in-Some-family-clause-ok
returns-in-Some-family-clause-ok g c =
    let t = c.args.query.now.query_type in
    ap Some c.in_ok-clone-in-Some-family.ensures.ok ∙ c.in-Some-family.ensures c.in_ok-name.name
    ∙ found_family t c.in_ok-name.name c.in_ok-name.name c.self.inside.names.entries (Some c.in-Some.host.now) c.in-Some.ensures.value
    ∙ ap₂ (λ n hosts. option_and_then (family t) (find (is_host n) hosts)) c.in_ok-name.ensures.ok c.self.view_is

pub returns-clause-ok : goal.returns-clause-ok
returns-clause-ok g c =
    let t = c.args.query.now.query_type in
    c.in-None.ensures c.in_ok-name.name
    ∙ found_family t c.in_ok-name.name c.in_ok-name.name c.self.inside.names.entries (Some c.in-Some.host.now) c.in-Some.ensures.value
    ∙ ap₂ (λ n hosts. option_and_then (family t) (find (is_host n) hosts)) c.in_ok-name.ensures.ok c.self.view_is
