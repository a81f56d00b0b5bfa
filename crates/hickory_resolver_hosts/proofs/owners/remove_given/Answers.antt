use Rattle.std.proofs.Common.{not, ◌&&◌, ◌==◌, sym, ap, ◌∙◌}
use Rattle.hickory_resolver_hosts.specs.Index.{is_owner}
use Rattle.hickory_resolver_hosts.specs.HostsTable.{gives}
use Rattle.hickory_resolver_hosts.proofs.GivenAddresses.{given_more, forgot_more}
use Rattle.hickory_resolver_hosts.proofs.owners.remove_given.Goals as goal

pub loop-entry-preserved : goal.loop-entry-preserved
loop-entry-preserved c = λ a is i.
    c.remove_record.ensures a is i
    ∙ ap (λ o. o && not (gives c.args.record_type a c.entry-item.result && (c.args.place == i))) (c.loop-entry.invariant a is i)
    ∙ forgot_more (is_owner c.args.owners.now a i) _ (gives c.args.record_type a c.entry-item.result) (c.args.place == i)
    ∙ ap (λ g. is_owner c.args.owners.now a i && not (g && (c.args.place == i)))
    (sym (given_more c.args.record_type c.args.records.now c.loop-entry.entry-index _ c.entry-item.result a c.loop-entry-test.true c.entry-item.is))
