use Rattle.std.proofs.Common.{sym}
use Rattle.hickory_resolver_model.specs.Hosts.{with_lookup}
use Rattle.hickory_resolver_hosts.proofs.IndexChanges.{on_err}
use Rattle.hickory_resolver_hosts.proofs.Places.{put_at_place, same_at_place}
use Rattle.hickory_resolver_hosts.proofs.table.add.Goals as goal

pub returns-in_err-add-in-Some-clause-unchanged : goal.returns-in_err-add-in-Some-clause-unchanged
returns-in_err-add-in-Some-clause-unchanged g c =
    on_err _ (same_at_place c.args.names.now.entries c.args.place c.in-Some.host.now c.add.new.self (sym c.in-Some.ensures.value) c.in_err-add-in-Some.ensures.unchanged)

pub returns-clause-ok : goal.returns-clause-ok
returns-clause-ok g c =
    put_at_place (with_lookup c.args.name c.args.record_type c.args.lookup c.args.now) c.args.name c.args.names.now.entries c.args.place c.in-Some.host.now c.add.new.self c.requires.place
    (sym c.in-Some.ensures.value) c.in_ok-add-in-Some.ensures.ok
