use Rattle.std.proofs.Common.{Bool, sym, ◌∙◌, ap}
use Rattle.std.specs.Prelude.{◌||◌, Option}
use Rattle.std.specs.Option.{is_some}
use Rattle.hickory_resolver_model.specs.Lookup.{LookupValue}
use Rattle.local_answers.specs.FromHosts.{told}
use Rattle.local_answers.proofs.HostsTold.{some_hosts}
use Rattle.local_answers.proofs.from_hosts.hosts_reply.Goals as goal

pub returns-clause-found : goal.returns-clause-found
returns-clause-found g c =
    let q = c.args.query.now in
    let v4 = c.in-Ok.found in
    let v6 = c.in-Ok-lookup.found in
    let names = c.in-Ok-lookup-2.found in
    some_hosts q c.args.now c.args.hosts.now v4 v6 names c.told.result
    (sym c.is_empty.ensures ∙ c.if-is_empty.false)
    c.in-Ok.ensures c.in-Ok-lookup.ensures c.in-Ok-lookup-2.ensures
    (c.told.ensures ∙ ap (λ (b : Bool). told c.chosen.result b) c.is_any-known.ensures
    ∙ ap (λ (o : Option LookupValue). told o (is_some v4 || is_some v6 || is_some names)) c.chosen.ensures)
