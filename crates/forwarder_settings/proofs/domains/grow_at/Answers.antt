use Rattle.std.proofs.Common.{◌≡◌, ◌<◌, ◌≤◌, length, refl, arith}
use Rattle.forwarder_settings.proofs.Groups.{beyond, grown-beyond, grown_on}
use Rattle.forwarder_settings.proofs.domains.grow_at.Goals as goal

pub returns-in-Some : goal.returns-in-Some
returns-in-Some c =
    let groups = c.args.groups.now in
    let counted : groups.len ≡ length groups.items = groups.ok.0 in
    let below : c.args.place < groups.len = c.in-Some.ensures.variant.0 refl in
    grown_on c.push_server.result c.args.place c.args.server groups.items c.in-Some.group.now c.push_server.new.group
    (omega arith) c.in-Some.ensures.value c.push_server.ensures

pub returns-in-None : goal.returns-in-None
returns-in-None c =
    let groups = c.args.groups.now in
    let counted : groups.len ≡ length groups.items = groups.ok.0 in
    let far : groups.len ≤ c.args.place = beyond c.args.place groups.len c.in-None.ensures.variant.1 in
    grown-beyond c.args.place c.args.server groups.items (omega arith)
